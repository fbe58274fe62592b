use Rattle.std.proofs.Common.{inl, inr, sym}
use Rattle.std.proofs.lemmas.Option.{IfSome_then}
use Rattle.prog_paths.specs.Facts.{column_facts}
use Rattle.conflict_pairs.proofs.Falling.{FallsAtOnce-two}
use Rattle.conflict_pairs.proofs.apart.column_fall.Goals as goal

pub returns-in-None-clause-some : goal.returns-in-None-clause-some
returns-in-None-clause-some c =
    IfSome_then c.fall-in-None.result c.fall-in-None.ensures.some
    (λ chain p. FallsAtOnce-two (column_facts c.args.mine c.args.theirs) c.their_node-in-None.result c.mine_node-in-None.result chain
    (inr (inl (λ i. record { lo = sym c.their_node-in-None.ensures i; hi = sym c.mine_node-in-None.ensures i }))) p)
