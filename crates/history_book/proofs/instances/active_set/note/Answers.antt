use Rattle.std.proofs.Common.{◌∙◌, ◌&&◌, Bool, true, if◌then◌else◌, sym, ap, arith}
use Rattle.std.specs.BTreeMap.{is_at}
use Rattle.std.specs.BTreeSet.{contains}
use Rattle.std.proofs.lemmas.Bool.{le-ltb, lt-ltb}
use Rattle.history_book.specs.ActiveSet.{instance_start_cmp}
use Rattle.history_book.proofs.instances.active_set.note.Goals as goal

pub returns-then-start-newest-clause-ok : goal.returns-then-start-newest-clause-ok
returns-then-start-newest-clause-ok c = λ q.
    sym (ap (λ (t : Bool). if t && is_at (instance_start_cmp c.args.start) q then true else contains instance_start_cmp c.args.out_of_turn.now q) (le-ltb c.args.start.start c.args.newest (omega arith)))

pub returns-clause-ok : goal.returns-clause-ok
returns-clause-ok c = λ q.
    c.in_ok-insert.ensures.updates.0 q
    ∙ sym (ap (λ (t : Bool). if t && is_at (instance_start_cmp c.args.start) q then true else contains instance_start_cmp c.args.out_of_turn.now q) (lt-ltb c.args.start.start c.args.newest (omega arith)))
