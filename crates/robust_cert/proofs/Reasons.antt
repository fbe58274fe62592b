-- The reason of a cover, by the two accesses of its question.
use Rattle.std.proofs.Common.{◌≡◌, ℕ, List, sym, subst}
use Rattle.order_facts.specs.declared.steps.Node.{Node}
use Rattle.prog_check.specs.declared.path.Access.{Access}
use Rattle.prog_check.specs.declared.path.Path.{Path}
use Rattle.prog_paths.specs.StaticGraph.{QuestionNumbers}
use Rattle.prog_paths.specs.Facts.{question_facts}
use Rattle.prog_paths.specs.Shown.{key_pairs, ShowEqual}
use Rattle.robust_cert.specs.declared.certificate.EntryQuestion.{EntryQuestion}
use Rattle.robust_cert.specs.declared.entries.Reason.{Reason}
use Rattle.robust_cert.specs.declared.entries.Reason.TheVariants.{Cover}
use Rattle.robust_cert.specs.Accepted.{numbers_told, IsCoverOf, ChainsHold}
use Rattle.robust_cert.specs.Flaws.{IsAskedPair, CoversWith}
use Rattle.robust_cert.specs.Sharing.{entry_with}
use Rattle.prog_paths.proofs.Marked.{same_access}

pub cover-holds : (nodes : List Path) (p : EntryQuestion) (reason : Reason) (m t : ℕ) (chains : List (List Node)) → reason ≡ Cover m t chains → (mine theirs : Access) → IsAskedPair nodes (numbers_told p) mine theirs
    → (q : QuestionNumbers) → q ≡ numbers_told p → (count : ℕ) (of_mine of_theirs : Access) → CoversWith nodes q m t count of_mine of_theirs
    → (list : List (List Node)) → list ≡ chains → ShowEqual (question_facts mine theirs) (key_pairs of_mine of_theirs) list → ChainsHold nodes (entry_with p reason)
cover-holds nodes p reason m t chains is mine theirs pair q named count of_mine of_theirs w list of_list shown =
    let cover : IsCoverOf nodes (numbers_told p) m t of_mine of_theirs = subst (λ (r : QuestionNumbers). IsCoverOf nodes r m t of_mine of_theirs) named w.cover in
    let first = same_access nodes (numbers_told p).x (numbers_told p).a mine cover.mine pair.asked.at_mine cover.asked.at_mine in
    let second = same_access nodes (numbers_told p).y (numbers_told p).b theirs cover.theirs pair.asked.at_theirs cover.asked.at_theirs in
    let own = subst (λ (l : List (List Node)). ShowEqual (question_facts mine theirs) (key_pairs of_mine of_theirs) l) of_list shown in
    let moved = subst (λ (a : Access). ShowEqual (question_facts cover.mine a) (key_pairs of_mine of_theirs) chains) second (subst (λ (a : Access). ShowEqual (question_facts a theirs) (key_pairs of_mine of_theirs) chains) first own) in
    subst (λ (r : Reason). ChainsHold nodes (entry_with p r)) (sym is) (of_mine, of_theirs, cover, moved)
