-- A cycle of dependencies shows a dangerous structure.
use Rattle.std.proofs.Common.{◌≡◌, ℕ, List, [], ◌∷◌, ◌++◌, sym, subst, ◌∙◌}
use Rattle.prog_tree.specs.Syntax.{DraftTree}
use Rattle.prog_tree.specs.Table.{TableState}
use Rattle.prog_check.specs.Paths.{paths_of}
use Rattle.prog_paths.specs.StaticGraph.{StaticEdge, Leads, here, onward, IsVulnerable}
use Rattle.history_book.specs.Dependencies.{depends}
use Rattle.history_book.specs.History.{Instance}
use Rattle.serial_orders.specs.Orders.{LeadsTo}
use Rattle.history_book.proofs.DependencyLaws.{depends_within}
use Rattle.si_engine.specs.Robustness.{HasCommitted, IsHistory, FollowsNode, Misses, LawOfCycles, LawOfSafeSets}
use Rattle.si_engine.proofs.CycleSteps.{step}
use Rattle.si_engine.proofs.MissedLaws.{misses_depends, law_of_last_steps}
use Rattle.si_engine.proofs.NodeLaws.{law_of_nodes}
use Rattle.si_engine.proofs.VulnerableLaws.{law_of_vulnerable_edges}

ends_later : (front : List ℕ) (a b : ℕ) → [] ≡ front ++ a ∷ b ∷ [] → ⊥
ends_later [] a b none = cc
ends_later (x ∷ front) a b none = cc

module _ (set : DraftTree) (opening : TableState) (h : List Instance) (is : IsHistory set opening h) where
  -- a walk from the node that an instance follows to one that the instance of a number follows
  abbrev WalkTo : ℕ → (i : ℕ) → FollowsNode set opening h i → Type 0
  WalkTo n i f = (g : FollowsNode set opening h n) × Leads (StaticEdge (paths_of set)) f.node g.node

  -- along the cycle to the last number but one
  walk : (front : List ℕ) (a b c i : ℕ) (js : List ℕ) → i ∷ js ≡ front ++ a ∷ b ∷ [] →
      LeadsTo (depends set opening h) (i ∷ js) c → (f : FollowsNode set opening h i) → WalkTo a i f
  walk [] a b c i js at leads f = let same : i ≡ a = cc in subst (λ (n : ℕ). WalkTo n i f) same (f, here)
  walk (x ∷ front) a b c i [] at leads f = let none : [] ≡ front ++ a ∷ b ∷ [] = cc in absurd (ends_later front a b none)
  walk (x ∷ front) a b c i (j ∷ js) at leads f =
      let within = depends_within set opening h i j leads.0 in
      let theirs = law_of_nodes set opening h is j within.1 in
      let later : j ∷ js ≡ front ++ a ∷ b ∷ [] = cc in
      let w = walk front a b c j js later leads.1 theirs in
      (w.0, onward (step set opening h is i j within.0 within.1 f theirs leads.0) w.1)

  misses_within : (i j : ℕ) → Misses set opening h i j → HasCommitted h i × HasCommitted h j
  misses_within i j m = depends_within set opening h i j (misses_depends set opening h i j m.other m.missed)

  vulnerable : (i j : ℕ) (f : FollowsNode set opening h i) (g : FollowsNode set opening h j) → Misses set opening h i j →
      IsVulnerable (paths_of set) f.node g.node
  vulnerable i j f g m =
      let within = misses_within i j m in
      law_of_vulnerable_edges set opening h is i j within.0 within.1 m.other m.concurrent m.missed f g

pub law_of_cycles : LawOfCycles
law_of_cycles set opening h is numbers cycle =
    let c = cycle.first in
    let ends = law_of_last_steps set opening h is.lawful numbers cycle in
    let within = misses_within set opening h is ends.b c ends.last in
    let k = law_of_nodes set opening h is ends.b within.0 in
    let g = law_of_nodes set opening h is c within.1 in
    let leads = subst (λ (ns : List ℕ). LeadsTo (depends set opening h) ns c) cycle.is cycle.leads in
    let w = walk set opening h is ends.front ends.a ends.b c c cycle.rest (sym cycle.is ∙ ends.last_two) leads g in (
      w.0.node,
      k.node,
      g.node,
      record {
        first = vulnerable set opening h is ends.a ends.b w.0 k ends.earlier;
        second = vulnerable set opening h is ends.b c k g ends.last;
        back = w.1;
      },
    )

pub law_of_safe_sets : LawOfSafeSets
law_of_safe_sets set opening h safe is numbers cycle = safe (law_of_cycles set opening h is numbers cycle)
