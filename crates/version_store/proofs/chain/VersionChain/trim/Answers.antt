use Rattle.std.proofs.Common.{◌≡◌, ◌∙◌, ℕ, List, leb, drop, ap}
use Rattle.std.specs.List.{prefix_len}
use Rattle.version_store.specs.Trimming.{marks_kept}
use Rattle.version_store.proofs.TrimLaws.{marks_left}
use Rattle.version_store.proofs.chain.VersionChain.trim.Goals as goal

pub returns-clause-chain : goal.returns-clause-chain
returns-clause-chain c =
    let f = c.args.floor in
    let ms = c.self.inside.marks in
    let count = c.outdated_marks-marks.ensures.value ∙ ap (λ (xs : List ℕ). prefix_len (λ (m : ℕ). leb m f) xs) c.as_slice.ensures in
    let marks : c.drop_first.new.self ≡ marks_kept f ms = c.drop_first.ensures ∙ ap (λ (n : ℕ). drop n ms) count ∙ marks_left f ms in
    rw (← c.self.view_is) (λ i. record { versions = c.trim.ensures.versions i; marks = marks i })
