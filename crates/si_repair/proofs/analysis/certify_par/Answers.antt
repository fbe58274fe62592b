use Rattle.std.proofs.Common.{map, ap, ◌∙◌}
use Rattle.prog_tree.specs.Tree.{draft_tree}
use Rattle.prog_check.specs.Paths.{paths_of}
use Rattle.robust_cert.specs.Accepted.{body_size}
use Rattle.si_repair.proofs.Analysing.{all_single, in_limit}
use Rattle.si_repair.proofs.Found.{finding-right}
use Rattle.si_repair.proofs.analysis.certify_par.Goals as goal

pub class_table_par-requires-clause-single : goal.class_table_par-requires-clause-single
class_table_par-requires-clause-single g c _ _ = all_single _ _ c.deref.ensures.value c.in_ok-paths.ensures.single

pub returns-clause-finding : goal.returns-clause-finding
returns-clause-finding g c =
    let paths = paths_of (draft_tree c.args.set.now) in
    let seen = c.deref.ensures.value ∙ c.in_ok-paths.ensures.exact in
    let again = c.deref-2.ensures.value ∙ c.in_ok-paths.ensures.exact in
    let known = rw c.in-Ok.is at c.in_ok-levels.ensures in
    let made = c.in_ok-certificate in
    let in_bounds = in_limit _ paths seen (λ over. let e = c.in_ok-table.ensures.too_large.1 over in absurd (cc)) in
    finding-right c.in_ok-table.table.paths paths (c.in_ok-table.ensures.paths ∙ seen) c.in_ok-entries.entries c.in_ok-entries.ensures c.in-Ok.levels.items known made.certificate made.ensures.entries made.ensures.levels (made.ensures.bodies ∙ ap (map body_size) again) in_bounds
