-- Refusals, written by hand.
use Rattle.std.proofs.Common.{◌≡◌, ℕ, pos, neg_ℤ, true, false, [], ◌∷◌, refl, codes}
use Rattle.std.specs.Fmt.{digits}
use Rattle.order_facts.specs.declared.steps.Node.TheVariants.{Mine}
use Rattle.prog_tree.specs.Syntax.{BlockEnd, DraftTree}
use Rattle.prog_check.specs.declared.path.Kind.TheVariants.{Reads, Writes}
use Rattle.prog_check.specs.declared.path.Path.{Path}
use Rattle.dep_graph.specs.declared.danger.Danger.{Danger}
use Rattle.dep_graph.specs.declared.danger.Exposure.{Exposure}
use Rattle.si_engine.proofs.SkewVectors.{pair}
use Rattle.sirob.specs.Refusal.{path_name, path_params, sample_text, refusal_text}

-- what the first access of one reads, the second of the other writes
abbrev crossing : ℕ → ℕ → Exposure
crossing x y = record { question = record { x = x; a = 0; y = y; b = 1; mine = Reads; theirs = Writes }; sample = [] }

abbrev skew : Danger
skew = record { x = 0; y = 1; z = 0; first = crossing 0 1; second = crossing 1 0; back = 0 ∷ [] }

refused_pair : refusal_text pair skew ≡ codes "refused\nfirst 0:Left 0, 1:Right 1, () ()\nsecond 1:Right 0, 0:Left 1, () ()\nback 0\n"
unfolding digits
refused_pair = refl

-- a program of two parameters, and a path of it through three branches
abbrev branching : DraftTree
branching = record {
  tables = [];
  programs = record { name = codes "P"; params = codes "k" ∷ codes "v" ∷ []; body = BlockEnd } ∷ [];
}

abbrev way : Path
way = record { program = 0; choices = true ∷ false ∷ true ∷ []; accesses = [] }

letter_for_each_branch : path_name branching (way ∷ []) 0 ≡ codes "P:tet"
letter_for_each_branch = refl

both_parameters : path_params branching (way ∷ []) 0 ≡ 2
both_parameters = refl

-- a parameter without a choice is 0
chosen_numbers : sample_text (record { node = Mine 1; number = neg_ℤ (pos 3) } ∷ []) 2 1 ≡ codes "(0, -3) (0)"
unfolding digits
chosen_numbers = refl
