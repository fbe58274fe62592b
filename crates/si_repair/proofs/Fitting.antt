-- The numbers of what is told are small.
use Rattle.std.proofs.Common.{◌≡◌, ℕ, Bool, true, false, not, get_or, ◌<◌, ◌≤◌, ◌+◌, List, [], ◌∷◌, ◌++◌, drop, length, ◌⊎◌, inl, inr, refl, sym, subst, ap, ◌∙◌, arith, append_assoc}
use Rattle.std.specs.Prelude.{All, Some, slice_get, slice_index_or, if◌then◌else◌}
use Rattle.std.proofs.lemmas.List.{drop_more, drop_all, append-nil, get_or_append_left, get_or_push, map-append}
use Rattle.std.proofs.lemmas.Bool.{cases_lt}
use Rattle.std.proofs.lemmas.List.Sums.{length-filter, count_by-le-length}
use Rattle.std.proofs.lemmas.List.Elements.{All-nil, All-cons, All-append, All-weaker}
use Rattle.std.proofs.lemmas.Option.{slice_get_within, get_or_from_slice_get}
use Rattle.prog_check.specs.declared.path.Access.{Access}
use Rattle.prog_check.specs.declared.path.Path.{Path}
use Rattle.prog_paths.specs.StaticGraph.{IsAccessOf}
use Rattle.prog_paths.specs.declared.accesses.questions.Question.{Question as Asked}
use Rattle.prog_paths.specs.Questions.{numbers_of}
use Rattle.prog_paths.specs.Facts.{question_facts}
use Rattle.prog_paths.specs.Shown.{key_pairs}
use Rattle.prog_paths.specs.Few.{AreFew}
use Rattle.prog_paths.specs.Listing.{IsAskedOf}
use Rattle.conflict_pairs.specs.declared.verdicts.Verdict.{Verdict}
use Rattle.conflict_pairs.specs.declared.verdicts.Verdict.TheVariants.{Apart, Covered, Exposed}
use Rattle.conflict_pairs.specs.Interning.{IsServed}
use Rattle.conflict_pairs.specs.Table.{Judged, IsOnQuestion}
use Rattle.conflict_pairs.specs.Verdicts.{IsRight, is_exposed}
use Rattle.conflict_pairs.proofs.Serving.{served-within}
use Rattle.dep_graph.specs.Counting.{IsCountOf, none, counted, passed}
use Rattle.robust_cert.specs.declared.certificate.EntryQuestion.{EntryQuestion}
use Rattle.robust_cert.specs.declared.entries.Reason.{Reason}
use Rattle.robust_cert.specs.declared.entries.Told.{Told}
use Rattle.robust_cert.specs.Accepted.{body_size}
use Rattle.robust_cert.specs.Ranges.{IsSmall}
use Rattle.robust_cert.specs.Sharing.{Entry, entry_with, reason_at, entry_told, entries_told, HasReason}
use Rattle.si_repair.specs.Certificates.{told_question, told_by, told_of, reason_of, told_numbered, Gives, AreOfFew, AskedFits, VerdictFits}
use Rattle.si_repair.proofs.Smallness.{AreEndsSmall, question-small, falls-small, chains-small, pairs-below, access-below}

-- ---- numbers

-- a count of the numbers below a bound is at most the bound
pub count-within : (P : ℕ → Type 0) (n count : ℕ) → IsCountOf P n count → count ≤ n
count-within P _ _ none = omega arith
count-within P _ _ (counted {n = n} {count = count} p c) = let i = count-within P n count c in omega arith
count-within P _ _ (passed {n = n} p c) = let i = count-within P n _ c in omega arith

pub small_from : (n : ℕ) → n ≤ 512 → IsSmall n
small_from n h = omega (arith, h)

-- a path has no more accesses in bodies than it has
pub body-small : (paths : List Path) (k : ℕ) (d : Path) (n : ℕ) → AreFew paths → k < length paths → n ≡ body_size (get_or paths k d) → IsSmall n
body-small paths k d n few inside is =
    let path : Path = get_or paths k d in
    let total = length-filter (λ (a : Access). not a.sure) path.accesses in
    let fewer = count_by-le-length (λ (a : Access). not a.sure) path.accesses in
    let own : length path.accesses ≤ 24 = few.accesses k d inside in
    small_from n (omega (arith, is, total, fewer, own))

access_small : (paths : List Path) (x a : ℕ) (access : Access) → AreFew paths → IsAccessOf paths x a access → IsSmall x × IsSmall a
access_small paths x a access few at =
    let inside = slice_get_within paths x at.0 at.1 in
    let below = slice_get_within at.0.accesses a access at.2 in
    let nodes : length paths ≤ 512 = few.paths in
    let own : length at.0.accesses ≤ 24 = subst (λ (p : Path). length p.accesses ≤ 24) (get_or_from_slice_get paths x at.0 at.0 at.1) (few.accesses x at.0 inside) in
    (small_from x (omega (arith, inside, nodes)), small_from a (omega (arith, below, own)))

pub question_fits : (paths : List Path) (q : Asked) → AreFew paths → IsAskedOf paths q → AskedFits q
question_fits paths q few asked =
    let first = access_small paths q.x q.a asked.mine few asked.asked.at_mine in
    let second = access_small paths q.y q.b asked.theirs few asked.asked.at_theirs in
    (first.0, first.1, second.0, second.1)

-- the facts of a question have small numbers
facts_small : (paths : List Path) (q : Asked) → AreFew paths → (asked : IsAskedOf paths q) → All AreEndsSmall (question_facts asked.mine asked.theirs)
facts_small paths q few asked =
    question-small asked.mine asked.theirs (access-below paths q.x q.a asked.mine few asked.asked.at_mine) (access-below paths q.y q.b asked.theirs few asked.asked.at_theirs)

pub verdict_fits : (paths : List Path) (q : Asked) (v : Verdict) → AreFew paths → IsAskedOf paths q → IsRight paths (numbers_of q) v → VerdictFits v
verdict_fits paths q (Apart chain) few asked right = falls-small (question_facts asked.mine asked.theirs) (facts_small paths q few asked) chain (right asked.mine asked.theirs asked.asked).1.falls
verdict_fits paths q (Covered m t chains) few asked right =
    let r = right asked.mine asked.theirs asked.asked in
    let least = r.least in
    let cover = least.cover in
    let below = pairs-below cover.of_first cover.of_second (access-below paths q.x cover.first cover.of_first few cover.at_first) (access-below paths q.y cover.second cover.of_second few cover.at_second) in (
      subst (λ (n : ℕ). IsSmall n) least.mine_is (access_small paths q.x cover.first cover.of_first few cover.at_first).1,
      subst (λ (n : ℕ). IsSmall n) least.theirs_is (access_small paths q.y cover.second cover.of_second few cover.at_second).1,
      chains-small (question_facts asked.mine asked.theirs) (facts_small paths q few asked) (key_pairs cover.of_first cover.of_second) chains r.equal below,
    )
verdict_fits paths q (Exposed sample) few asked right = tt

pub entry_fits : (es : List Judged) → AreOfFew es → (n : ℕ) (e : Judged) → slice_get es n ≡ Some e → AskedFits e.question
entry_fits es f n e at =
    let asked = subst (λ (d : Judged). IsAskedOf f.paths d.question) (get_or_from_slice_get es n e e at) (f.asked n e (slice_get_within es n e at)) in
    question_fits f.paths e.question f.few asked

pub verdicts_fit : (paths : List Path) (vs : List Verdict) → AreFew paths → All (IsOnQuestion paths) vs → All VerdictFits vs
verdicts_fit paths vs few on = All-weaker (IsOnQuestion paths) VerdictFits (λ v of_question. verdict_fits paths of_question.question v few of_question.asked of_question.right) vs on

-- ---- one more entry

pub told_more : (old new whole : List Entry) (es : List Judged) (n : ℕ) (e : Judged) (q : Asked) (v : Verdict) → slice_get es n ≡ Some e → q ≡ e.question → v ≡ e.verdict → new ≡ old ++ told_by q v → old ++ told_of (drop n es) ≡ whole → new ++ told_of (drop (n + 1) es) ≡ whole
told_more old new whole es n e q v at asked judged added h =
    ap (λ (l : List Entry). l ++ told_of (drop (n + 1) es)) (added ∙ (λ i. old ++ told_by (asked i) (judged i)))
    ∙ append_assoc old (told_by e.question e.verdict) (told_of (drop (n + 1) es))
    ∙ ap (λ (l : List Judged). old ++ told_of l) (sym next)
    ∙ h
  where
    next : drop n es ≡ e ∷ drop (n + 1) es
    next = drop_more es n e (slice_get_within es n e at) ∙ ap (λ (d : Judged). d ∷ drop (n + 1) es) (get_or_from_slice_get es n e e at)

pub told_end : (old whole : List Entry) (es : List Judged) (n : ℕ) → length es ≤ n → old ++ told_of (drop n es) ≡ whole → old ≡ whole
told_end old whole es n past h = sym (append-nil old) ∙ ap (λ (l : List Judged). old ++ told_of l) (sym (drop_all n es past)) ∙ h

-- ---- one more question that has the number of its reason

-- what it tells is what is told of it with its verdict
numbered_tells : (rs : List Reason) (q : Asked) (v : Verdict) (n : ℕ) → reason_at rs n ≡ reason_of v → entries_told rs (told_numbered q v n) ≡ told_by q v
numbered_tells rs q (Apart chain) n is = ap (λ (r : Reason). entry_with (told_question q) r ∷ []) is
numbered_tells rs q (Covered m t chains) n is = ap (λ (r : Reason). entry_with (told_question q) r ∷ []) is
numbered_tells rs q (Exposed sample) n is = refl

numbered_within : (rs : List Reason) (q : Asked) (v : Verdict) (n : ℕ) → n < length rs → All (HasReason rs) (told_numbered q v n)
numbered_within rs q (Apart chain) n lt = All-cons (HasReason rs) (record { question = told_question q; reason = n }) [] lt (All-nil (HasReason rs))
numbered_within rs q (Covered m t chains) n lt = All-cons (HasReason rs) (record { question = told_question q; reason = n }) [] lt (All-nil (HasReason rs))
numbered_within rs q (Exposed sample) n lt = All-nil (HasReason rs)

-- an exposed question tells nothing
pub numbered-none : (q : Asked) (v : Verdict) (n : ℕ) (old : List Told) → is_exposed v ≡ true → old ≡ old ++ told_numbered q v n
numbered-none q v n old exposed =
    let one : List Told = record { question = told_question q; reason = n } ∷ [] in
    sym (append-nil old) ∙ sym (ap (λ (b : Bool). old ++ (if b then [] else one)) exposed)

-- any other one has the number of its reason
pub numbered-one : (q : Asked) (v : Verdict) (n : ℕ) (old : List Told) (asked : EntryQuestion) → asked ≡ told_question q → is_exposed v ≡ false → old ++ record { question = asked; reason = n } ∷ [] ≡ old ++ told_numbered q v n
numbered-one q v n old asked is told =
    let one : List Told = record { question = told_question q; reason = n } ∷ [] in
    ap (λ (p : EntryQuestion). old ++ record { question = p; reason = n } ∷ []) is ∙ sym (ap (λ (b : Bool). old ++ (if b then [] else one)) told)

pub numbered_more : (old new : List Told) (rs : List Reason) (q : Asked) (v : Verdict) (n : ℕ) → IsServed Gives rs v n → new ≡ old ++ told_numbered q v n → entries_told rs new ≡ entries_told rs old ++ told_by q v
numbered_more old new rs q v n given added =
    ap (entries_told rs) added
    ∙ map-append (entry_told rs) old (told_numbered q v n)
    ∙ ap (λ (l : List Entry). entries_told rs old ++ l) (numbered_tells rs q v n (get_or_from_slice_get rs n given.value _ given.at ∙ given.serves))

pub within_more : (old new : List Told) (rs : List Reason) (q : Asked) (v : Verdict) (n : ℕ) → IsServed Gives rs v n → new ≡ old ++ told_numbered q v n → All (HasReason rs) old → All (HasReason rs) new
within_more old new rs q v n given added h =
    subst (λ (l : List Told). All (HasReason rs) l) (sym added)
    (All-append (HasReason rs) old (told_numbered q v n) h (numbered_within rs q v n (served-within Gives rs v n given)))

-- ---- one more level

pub pushed : (P : ℕ → ℕ → Type 0) (old new : List ℕ) (v n : ℕ) → length old ≡ n → new ≡ old ++ v ∷ [] → ((k : ℕ) → k < n → P k (slice_index_or old k 0)) → P n v → (k : ℕ) → k < n + 1 → P k (slice_index_or new k 0)
pushed P old new v n size added each last k inside = subst (λ (l : List ℕ). P k (slice_index_or l k 0)) (sym added) (go (cases_lt k n))
  where
    go : (k < n) ⊎ (n ≤ k) → P k (slice_index_or (old ++ v ∷ []) k 0)
    go (inl l) = subst (λ (m : ℕ). P k m) (sym (get_or_append_left old (v ∷ []) 0 k (omega (arith, size, l)))) (each k l)
    go (inr l) =
        let same : n ≡ k = omega arith in
        subst (λ (m : ℕ). P m (slice_index_or (old ++ v ∷ []) m 0)) same (subst (λ (m : ℕ). P n m) (sym (get_or_push old v 0 n size)) last)
