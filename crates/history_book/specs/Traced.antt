-- The traces of the instances of a history.
use Rattle.std.specs.Prelude.{List, map}
use Rattle.prog_tree.specs.Syntax.{DraftTree}
use Rattle.prog_tree.specs.Table.{TableState}
use Rattle.serial_orders.specs.Traces.{trace_of}
use Rattle.serial_orders.specs.TraceView.{TraceView}
use Rattle.history_book.specs.History.{Instance, evaluation}

-- the trace of an instance of a history
abbrev pub trace_in : DraftTree → TableState → List Instance → Instance → TraceView
trace_in set opening h i =
    let e = evaluation set opening h i in
    trace_of i.start e.changes.cells e.looks

-- the traces of all its instances
abbrev pub traces_of : DraftTree → TableState → List Instance → List TraceView
traces_of set opening h = map (trace_in set opening h) h
