-- Verdicts that serve several pairs are kept once: which of them is on the question of each pair of accesses.
use Rattle.std.specs.Prelude.{ℕ, ◌+◌, List, [], ◌∷◌, ◌++◌, length, map}
use Rattle.std.specs.List.{AllZip, flat_map}
use Rattle.prog_check.specs.declared.path.Path.{Path}
use Rattle.prog_paths.specs.declared.accesses.questions.Question.{Question}
use Rattle.prog_paths.specs.declared.accesses.places.Placed.{Placed}
use Rattle.conflict_pairs.specs.declared.pairing.PlacePair.{PlacePair}
use Rattle.conflict_pairs.specs.declared.interning.Interned.{Interned}
use Rattle.conflict_pairs.specs.declared.verdicts.Verdict.{Verdict}
use Rattle.conflict_pairs.specs.Alike.{AreAlikeAt, IsJudgedAt, IsOnAsked}
use Rattle.conflict_pairs.specs.Interning.{IsServed, AreInterned}
use Rattle.conflict_pairs.specs.Pairing.{question_at}

-- the accesses of two questions are alike, side by side
abbrev pub AreAlikeSides : List Path → Question → Question → Type 0
AreAlikeSides paths q r = AreAlikeAt paths q.x q.a r.x r.a × AreAlikeAt paths q.y q.b r.y r.b

-- a verdict says what the facts say of the question of a pair
abbrev pub IsOnPair : List Path → List Placed → PlacePair → Verdict → Type 0
IsOnPair paths places pair verdict = IsJudgedAt paths (question_at places pair) verdict

-- for each of these pairs the verdict of its number is on its question
abbrev pub AreServedSoFar : List Path → List Placed → List Verdict → List PlacePair → List ℕ → Type 0
AreServedSoFar paths places verdicts = AllZip (IsServed (IsOnPair paths places) verdicts)

-- these verdicts are each on some question of the paths, and for each pair the one of its number is on its question
abbrev pub ArePairsJudged : List Path → List Placed → List PlacePair → List Verdict → List ℕ → Type 0
ArePairsJudged paths places = AreInterned (IsOnAsked paths) (IsOnPair paths places)

-- the verdicts of parts, one part after the other
abbrev pub verdicts_in : List (Interned Verdict) → List Verdict
verdicts_in = flat_map (λ part. part.values.items)

-- the numbers of the pairs of parts, where so many verdicts stand before the first part
abbrev pub numbers_in : ℕ → List (Interned Verdict) → List ℕ
numbers_in before [] = []
numbers_in before (part ∷ rest) =
    map (λ n. before + n) part.numbers.items ++ numbers_in (before + length part.values.items) rest
