use Rattle.std.proofs.Common.{List, max, sym, subst}
use Rattle.std.specs.Prelude.{All, IfOk}
use Rattle.std.proofs.Crossing.{crosses, frees}
use Rattle.std.proofs.lemmas.Result.{IfOk-weaker}
use denote.Param.Send.{sendable}
use Rattle.rayon.specs.Lists.{chunks_of}
use Rattle.rayon.proofs.ToStd.{slice-AllZip}
use Rattle.conflict_pairs.specs.declared.pairing.PlacePair.{PlacePair}
use Rattle.conflict_pairs.specs.declared.interning.Interned.{Interned}
use Rattle.conflict_pairs.specs.declared.verdicts.Verdict.{Verdict}
use Rattle.conflict_pairs.specs.Pairing.{IsAskedBetween}
use Rattle.conflict_pairs.specs.Sharing.{ArePairsJudged}
use Rattle.conflict_pairs.proofs.Collecting.{gathered}
use Rattle.conflict_pairs.proofs.Parts.{in_each_chunk, of_whole}
use Rattle.conflict_pairs.proofs.parallel.parts_of.Goals as goal

pub collect-requires : goal.collect-requires
collect-requires g c κs =
    let size = max c.part_len.result 1 in
    let each = in_each_chunk (IsAskedBetween c.args.paths.now c.args.places.now) c.args.pairs.now size c.requires in (
      search (sendable, crosses) depth 400 fits 500000,
      (
        search (sendable, crosses) depth 400 fits 500000,
        (
          search (sendable, crosses) depth 400 fits 500000,
          (
            search (sendable, crosses) depth 400 fits 500000,
            (
              search (sendable, crosses) depth 400 fits 500000,
              (
                frees,
                rw (c.map.ensures.base, c.map.ensures.f, c.par_chunks.ensures.slice, c.par_chunks.ensures.size)
                    (λ k d lt x is. (subst (λ (l : List PlacePair). All (IsAskedBetween c.args.paths.now c.args.places.now) l) (sym is) (each k d lt), λ y p. tt)),
              ),
            ),
          ),
        ),
      ),
    )

pub returns : goal.returns
returns g c =
    let paths = c.args.paths.now in
    let places = c.args.places.now in
    let pairs = c.args.pairs.now in
    let size = c.part_len.result in
    let h = c.in_ok-collect.ensures in
    let chain = rw (c.map.ensures.base, c.map.ensures.f, c.par_chunks.ensures.slice, c.par_chunks.ensures.size) at h.1 in
    IfOk-weaker c.in_ok-collect.field-0 _ _ (λ v z. of_whole paths places pairs size v.items z)
    (gathered _ (λ (chunk : List PlacePair) (part : Interned Verdict). ArePairsJudged paths places chunk part.values.items part.numbers.items) (λ v. v.items) _ (chunks_of (max size 1) pairs) h.0
    (slice-AllZip chain.0 (chunks_of (max size 1) pairs) chain.1 (λ chunk x. IfOk x (λ (part : Interned Verdict). ArePairsJudged paths places chunk part.values.items part.numbers.items)) h.0 chain.2) h.2)
