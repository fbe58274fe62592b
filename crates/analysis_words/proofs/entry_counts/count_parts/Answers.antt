use Rattle.std.proofs.Common.{List, max, sym, subst}
use Rattle.std.specs.Prelude.{All, IfOk}
use Rattle.std.proofs.Crossing.{crosses, frees}
use Rattle.std.proofs.lemmas.Result.{IfOk-weaker}
use denote.Param.Send.{sendable}
use Rattle.rayon.specs.Lists.{chunks_of}
use Rattle.rayon.proofs.ToStd.{slice-AllZip}
use Rattle.conflict_pairs.proofs.Collecting.{gathered}
use Rattle.robust_cert.specs.declared.entries.Told.{Told}
use Rattle.robust_cert.specs.Sharing.{HasReason, entries_told}
use Rattle.conflict_pairs.proofs.Parts.{in_each_chunk}
use Rattle.analysis_words.specs.Counts.{AreCountsOf}
use Rattle.analysis_words.proofs.Counting.{counted-in-parts}
use Rattle.analysis_words.proofs.entry_counts.count_parts.Goals as goal

pub collect-requires : goal.collect-requires
collect-requires g c κs =
    let size = max c.part_len.result 1 in
    let each = in_each_chunk (HasReason c.args.reasons.now) c.args.told.now size c.requires in (
      search (sendable, crosses) depth 400 fits 500000,
      (
        search (sendable, crosses) depth 400 fits 500000,
        (
          search (sendable, crosses) depth 400 fits 500000,
          (
            search (sendable, crosses) depth 400 fits 500000,
            (
              search (sendable, crosses) depth 400 fits 500000,
              (
                frees,
                rw (c.map.ensures.base, c.map.ensures.f, c.par_chunks.ensures.slice, c.par_chunks.ensures.size)
                    (λ k d lt x is. (subst (λ (l : List Told). All (HasReason c.args.reasons.now) l) (sym is) (each k d lt), λ y p. tt)),
              ),
            ),
          ),
        ),
      ),
    )

pub returns : goal.returns
returns g c =
    let nodes = c.args.nodes.now in
    let rs = c.args.reasons.now in
    let told = c.args.told.now in
    let size = c.part_len.result in
    let h = c.in_ok-collect.ensures in
    let chain = rw (c.map.ensures.base, c.map.ensures.f, c.par_chunks.ensures.slice, c.par_chunks.ensures.size) at h.1 in
    IfOk-weaker c.in_ok-collect.field-0 _ _ (λ v z. counted-in-parts nodes rs told size v z)
    (gathered _ (λ part. AreCountsOf nodes (entries_told rs part)) (λ v. v.items) _ (chunks_of (max size 1) told) h.0
    (slice-AllZip chain.0 (chunks_of (max size 1) told) chain.1 (λ part x. IfOk x (AreCountsOf nodes (entries_told rs part))) h.0 chain.2) h.2)
