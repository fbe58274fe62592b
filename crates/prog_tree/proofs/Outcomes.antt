-- What holds of any error, and where there is none.
use Rattle.std.proofs.Common.{Option, Some, None, IfNone, Result, Ok, Err, OnErr}

pub on_any_err : {T E P : Type 0} (r : Result T E) → P → OnErr r P
on_any_err (Ok x) holds = tt
on_any_err (Err e) holds = holds

pub none_then : {X : Type 0} (o : Option X) (P Q : Type 0) → (P → Q) → IfNone o P → IfNone o Q
none_then None P Q more holds = more holds
none_then (Some x) P Q more holds = tt
