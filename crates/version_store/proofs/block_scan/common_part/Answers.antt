use Rattle.version_store.proofs.PartLaws.{common_parts}
use Rattle.version_store.proofs.block_scan.common_part.Goals as goal
use Rattle.version_store.proofs.block_scan.common_part.Goals.{else-is_part-via-then-is_part+else-is_part-2, else-is_part-via-else-is_part}

pub returns-else-is_part-clause-none : goal.returns-else-is_part-clause-none
returns-else-is_part-clause-none c = λ none part common.
    let parts = common_parts c.args.one.now c.args.other.now part c.in_common-part.result c.in_common-part.ensures common in
    elim c.else-is_part.branch [
      | else-is_part-via-then-is_part+else-is_part-2 w ↦ let yes = w.is_part-then-is_part.ensures.1 parts.1 in let no = w.if-is_part-2.false in absurd (cc)
      | else-is_part-via-else-is_part w ↦ let yes = c.is_part.ensures.1 parts.0 in let no = w.if-is_part.false in absurd (cc)
    ]
