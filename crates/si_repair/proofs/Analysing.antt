-- From the paths of a set to what is asked of them.
use Rattle.std.proofs.Common.{◌≡◌, ◌<◌, ◌≤◌, List, length, sym, subst}
use Rattle.std.specs.Prelude.{All}
use Rattle.prog_check.specs.declared.path.Path.{Path}
use Rattle.prog_paths.specs.Questions.{ChangesSingleCells, questions_of}
use Rattle.prog_paths.specs.Limits.{most_questions}
use Rattle.si_repair.proofs.Accepting.{within}

pub all_single : (xs ys : List Path) → xs ≡ ys → All ChangesSingleCells ys → All ChangesSingleCells xs
all_single xs ys e h = subst (λ (l : List Path). All ChangesSingleCells l) (sym e) h

pub in_limit : (xs ys : List Path) → xs ≡ ys → (most_questions < length (questions_of xs) → ⊥) → length (questions_of ys) ≤ most_questions
in_limit xs ys e h = within (length (questions_of ys)) (subst (λ (l : List Path). most_questions < length (questions_of l) → ⊥) e h)
