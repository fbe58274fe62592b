-- Entries that are counted in parts: the sums of the counts of all parts are those of the whole.
use Rattle.std.proofs.Common.{◌≡◌, ◌+◌, ◌<◌, ◌∷◌, [], ◌++◌, ℕ, Bool, List, Vec, Option, None, Some, max, refl, sym, ap, ◌∙◌, cond, count_by, option_map, is_some, sum_by, true, arith}
use Rattle.std.specs.Prelude.{unwrap_or}
use Rattle.std.proofs.lemmas.Bool.{false≢true}
use Rattle.std.proofs.lemmas.List.{map-append}
use Rattle.std.proofs.lemmas.List.Sums.{sum_by-append, sum_by-cons, sum_by_push}
use Rattle.std.specs.List.{AllZip, flat_map}
use Rattle.std.specs.declared.alloc.Global.{Global}
use Rattle.rayon.specs.Lists.{chunks_of}
use Rattle.rayon.proofs.ToStd.{chunks_of-concat}
use Rattle.rayon.proofs.ListFacts.{AllZip-weaken}
use Rattle.prog_check.specs.declared.path.Access.{Access}
use Rattle.prog_check.specs.declared.path.Path.{Path}
use Rattle.robust_cert.specs.declared.entries.Reason.{Reason}
use Rattle.robust_cert.specs.declared.entries.Told.{Told}
use Rattle.robust_cert.specs.Sharing.{Entry, entry_told, entries_told}
use Rattle.analysis_words.specs.declared.entry_counts.EntryCounts.{EntryCounts}
use Rattle.analysis_words.specs.Nodes.{access_at}
use Rattle.analysis_words.specs.Counts.{AddsCounts, AreCountsOf, AreCountsInParts, IsSumOf, is_apart, is_in_cover, number_in}

-- ---- what is counted in each part

module _ (rs : List Reason) (counted : Entry → Bool) (count : EntryCounts → ℕ) where
  abbrev pub IsCounted : List Told → EntryCounts → Type 0
  IsCounted part counts = count counts ≡ count_by counted (entries_told rs part)

  in_parts : (parts : List (List Told)) (counts : List EntryCounts) → AllZip IsCounted parts counts → sum_by count counts ≡ count_by counted (entries_told rs (flat_map (λ part. part) parts))
  in_parts [] [] h = refl
  in_parts [] (c ∷ counts) h = absurd h
  in_parts (part ∷ parts) [] h = absurd h
  in_parts (part ∷ parts) (c ∷ counts) h =
      let rest = flat_map (λ (p : List Told). p) parts in
      let one = sum_by-cons count c counts in
      let whole = ap (count_by counted) (map-append (entry_told rs) part rest) ∙ sum_by-append (λ (e : Entry). cond (counted e) 1 0) (entries_told rs part) (entries_told rs rest) in
      omega (arith, one, whole, h.0, in_parts parts counts h.1)

  pub all_counted : (told : List Told) (size : ℕ) (counts : List EntryCounts) → AllZip IsCounted (chunks_of (max size 1) told) counts → sum_by count counts ≡ count_by counted (entries_told rs told)
  all_counted told size counts h =
      let some : 0 < max size 1 = omega arith in
      in_parts (chunks_of (max size 1) told) counts h
      ∙ ap (λ (l : List Told). count_by counted (entries_told rs l)) (chunks_of-concat (max size 1) told some)

-- the number of an access that is there
number-there : (paths : List Path) (entries : List Entry) (counts : EntryCounts) (x a : ℕ) → is_some (access_at paths x a) ≡ true → AreCountsOf paths entries counts
    → number_in counts.covers.items x a ≡ count_by (λ (e : Entry). is_in_cover x a e.question e.reason) entries
number-there paths entries counts x a there are = ap (λ (o : Option ℕ). unwrap_or o 0) (are.covers x a) ∙ one (access_at paths x a) there
  where
    one : (o : Option Access) → is_some o ≡ true → unwrap_or (option_map (λ (_ : Access). count_by (λ (e : Entry). is_in_cover x a e.question e.reason) entries) o) 0 ≡ count_by (λ (e : Entry). is_in_cover x a e.question e.reason) entries
    one None h = absurd (false≢true h)
    one (Some access) h = refl

pub counted-in-parts : (paths : List Path) (rs : List Reason) (told : List Told) (size : ℕ) (parts : Vec EntryCounts Global) → AllZip (λ part. AreCountsOf paths (entries_told rs part)) (chunks_of (max size 1) told) parts.items
    → AreCountsInParts paths (entries_told rs told) parts
counted-in-parts paths rs told size parts h = record {
  apart = all_counted rs (λ (e : Entry). is_apart e.reason) (λ (c : EntryCounts). c.apart) told size parts.items
      (AllZip-weaken _ _ (λ part c are. are.apart) (chunks_of (max size 1) told) parts.items h);
  covers = λ x a there. all_counted rs (λ (e : Entry). is_in_cover x a e.question e.reason) (λ (c : EntryCounts). number_in c.covers.items x a) told size parts.items
      (AllZip-weaken _ _ (λ part c are. number-there paths (entries_told rs part) c x a there are) (chunks_of (max size 1) told) parts.items h);
}

-- ---- sums

pub sum-more : (paths : List Path) (parts : List EntryCounts) (part old new : EntryCounts) → IsSumOf paths parts old → new.apart ≡ old.apart + part.apart
    → AddsCounts (number_in part.covers.items) old.covers.items new.covers.items → IsSumOf paths (parts ++ part ∷ []) new
sum-more paths parts part old new so_far apart adds = record {
  apart = apart ∙ ap (λ n. n + part.apart) so_far.apart ∙ sym (sum_by_push (λ (c : EntryCounts). c.apart) parts part);
  covers = λ x a. adds x a ∙ ap (λ (o : Option ℕ). option_map (λ (n : ℕ). n + number_in part.covers.items x a) o) (so_far.covers x a) ∙ one x a (access_at paths x a);
}
  where
    one : (x a : ℕ) (o : Option Access) → option_map (λ (n : ℕ). n + number_in part.covers.items x a) (option_map (λ (_ : Access). sum_by (λ (c : EntryCounts). number_in c.covers.items x a) parts) o)
        ≡ option_map (λ (_ : Access). sum_by (λ (c : EntryCounts). number_in c.covers.items x a) (parts ++ part ∷ [])) o
    one x a None = refl
    one x a (Some access) = ap Some (sym (sum_by_push (λ (c : EntryCounts). number_in c.covers.items x a) parts part))

pub sum-is : (paths : List Path) (entries : List Entry) (parts : Vec EntryCounts Global) (counts : EntryCounts) → AreCountsInParts paths entries parts → IsSumOf paths parts.items counts → AreCountsOf paths entries counts
sum-is paths entries parts counts are sum = record {
  apart = sum.apart ∙ are.apart;
  covers = λ x a. sum.covers x a ∙ one x a (access_at paths x a) (are.covers x a);
}
  where
    one : (x a : ℕ) (o : Option Access) → (is_some o ≡ true → sum_by (λ (c : EntryCounts). number_in c.covers.items x a) parts.items ≡ count_by (λ (e : Entry). is_in_cover x a e.question e.reason) entries)
        → option_map (λ (_ : Access). sum_by (λ (c : EntryCounts). number_in c.covers.items x a) parts.items) o ≡ option_map (λ (_ : Access). count_by (λ (e : Entry). is_in_cover x a e.question e.reason) entries) o
    one x a None h = refl
    one x a (Some access) h = ap Some (h refl)
