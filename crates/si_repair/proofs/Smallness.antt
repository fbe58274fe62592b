-- The chains of a verdict have small numbers where no node of them could be left out.
use Rattle.std.proofs.Common.{List, [], ◌∷◌, inl, inr, sym, subst, arith}
use Rattle.std.specs.Prelude.{ℕ, Option, Some, None, All, Contains, IfSome, pos}
use Rattle.std.proofs.lemmas.List.Elements.{All-nil, All-cons, All-head, All-tail, All-append}
use Rattle.std.proofs.lemmas.Option.{slice_get_within, get_or_from_slice_get}
use Rattle.order_facts.specs.declared.steps.Node.{Node}
use Rattle.order_facts.specs.declared.steps.Node.TheVariants.{Number}
use Rattle.order_facts.specs.declared.steps.Fact.{Fact}
use Rattle.order_facts.specs.Chain.{IsStep, IsChainFrom, IsTight, last_of}
use Rattle.prog_check.specs.declared.path.Term.{Term}
use Rattle.prog_check.specs.declared.path.Term.TheVariants.{Param, Literal, Unknown}
use Rattle.prog_check.specs.declared.path.Column.{Column}
use Rattle.prog_check.specs.declared.path.Access.{Access}
use Rattle.prog_check.specs.declared.path.Path.{Path}
use Rattle.prog_paths.specs.Few.{IsTermBelow, IsColumnBelow, IsAccessBelow, AreFew}
use Rattle.prog_paths.specs.Limits.{most_terms}
use Rattle.prog_paths.specs.Facts.{mine_node, their_node, column_facts, column_or_zero, second_facts, question_facts}
use Rattle.prog_paths.specs.Shown.{Falls, Runs, ShowEqual, second_terms, key_pairs}
use Rattle.prog_paths.specs.StaticGraph.{IsAccessOf}
use Rattle.robust_cert.specs.Ranges.{IsOfSmall}
use Rattle.si_repair.specs.Certificates.{TightFits}

-- ---- nodes

mine-small : (t : Term) → IsTermBelow most_terms t → IsOfSmall (mine_node t)
mine-small (Param i) h = omega (arith, h)
mine-small (Literal k) h = tt
mine-small (Unknown i) h = omega (arith, h)

their-small : (t : Term) → IsTermBelow most_terms t → IsOfSmall (their_node t)
their-small (Param i) h = omega (arith, h)
their-small (Literal k) h = tt
their-small (Unknown i) h = omega (arith, h)

abbrev pub ArePairBelow : Term × Term → Type 0
ArePairBelow p = IsTermBelow most_terms p.0 × IsTermBelow most_terms p.1

-- ---- facts

abbrev pub AreEndsSmall : Fact → Type 0
AreEndsSmall f = IsOfSmall f.lo × IsOfSmall f.hi

column-small : (mine theirs : Column) → IsColumnBelow most_terms mine → IsColumnBelow most_terms theirs → All AreEndsSmall (column_facts mine theirs)
column-small mine theirs m t =
    let low = their-small theirs.low t.0 in
    let first : Fact = record { lo = mine_node mine.low; hi = their_node theirs.low } in
    let second : Fact = record { lo = their_node theirs.low; hi = mine_node mine.high } in
    All-cons AreEndsSmall first (second ∷ []) (mine-small mine.low m.0, low) (All-cons AreEndsSmall second [] (low, mine-small mine.high m.1) (All-nil AreEndsSmall))

second-small : (mine theirs : Option Column) → IfSome mine (IsColumnBelow most_terms) → IfSome theirs (IsColumnBelow most_terms) → All AreEndsSmall (second_facts mine theirs)
second-small None None m t = All-nil AreEndsSmall
second-small None (Some d) m t = column-small (column_or_zero None) d (tt, tt) t
second-small (Some c) None m t = column-small c (column_or_zero None) m (tt, tt)
second-small (Some c) (Some d) m t = column-small c d m t

pub question-small : (mine theirs : Access) → IsAccessBelow most_terms mine → IsAccessBelow most_terms theirs → All AreEndsSmall (question_facts mine theirs)
question-small mine theirs m t =
    All-append AreEndsSmall (column_facts mine.first theirs.first) (second_facts mine.second theirs.second)
    (column-small mine.first theirs.first m.0 t.0) (second-small mine.second theirs.second m.1 t.1)

-- ---- chains

module _ (facts : List Fact) (ends : All AreEndsSmall facts) where
  end-small : (f : Fact) → Contains facts f → IsOfSmall f.lo × IsOfSmall f.hi
  end-small f c = subst (λ (g : Fact). IsOfSmall g.lo × IsOfSmall g.hi) c.2 (ends c.0 f c.1)

  -- each node of a chain is one of its two ends, or an end of a fact
  nodes-small : (a : Node) (rest : List Node) → IsChainFrom facts a rest → IsTight (a ∷ rest) → IsOfSmall a → IsOfSmall (last_of a rest) → All IsOfSmall (a ∷ rest)
  nodes-small a [] c t first last = All-cons IsOfSmall a [] first (All-nil IsOfSmall)
  nodes-small a (b ∷ []) c t first last = All-cons IsOfSmall a (b ∷ []) first (All-cons IsOfSmall b [] last (All-nil IsOfSmall))
  nodes-small a (b ∷ d ∷ rest) c t first last = All-cons IsOfSmall a (b ∷ d ∷ rest) first (nodes-small b (d ∷ rest) c.1 t.1 (middle c.0 c.1.0) last)
    where
      middle : IsStep facts a b → IsStep facts b d → IsOfSmall b
      middle (inl f) on = (end-small _ f).1
      middle (inr p) (inl f) = (end-small _ f).0
      middle (inr p) (inr q) = absurd (t.0 (p, q))

  chain-small : (from to : Node) (chain : List Node) → Runs facts from to chain → IsOfSmall from → IsOfSmall to → TightFits chain
  chain-small from to [] r first last tight = absurd r.0
  chain-small from to (a ∷ rest) r first last tight = nodes-small a rest r.0 tight (subst IsOfSmall (sym r.1.0) first) (subst IsOfSmall (sym r.1.1) last)

  pub falls-small : (chain : List Node) → Falls facts chain → TightFits chain
  falls-small chain f = chain-small (Number f.greater) (Number f.smaller) chain (f.is_chain, f.runs) tt tt

  pub chains-small : (pairs : List (Term × Term)) (chains : List (List Node)) → ShowEqual facts pairs chains → All ArePairBelow pairs → All TightFits chains
  chains-small [] [] h below = All-nil TightFits
  chains-small [] (c ∷ cs) h below = absurd h
  chains-small (p ∷ ps) [] h below = absurd h
  chains-small (p ∷ ps) (c ∷ []) h below = absurd h
  chains-small (p ∷ ps) (there ∷ back ∷ chains) h below =
      let own = All-head ArePairBelow p ps below in
      let mine = mine-small p.0 own.0 in
      let theirs = their-small p.1 own.1 in
      All-cons TightFits there (back ∷ chains) (chain-small (mine_node p.0) (their_node p.1) there h.0 mine theirs)
      (All-cons TightFits back chains (chain-small (their_node p.1) (mine_node p.0) back h.1 theirs mine)
      (chains-small ps chains h.2 (All-tail ArePairBelow p ps below)))

-- ---- accesses

pub pairs-below : (mine theirs : Access) → IsAccessBelow most_terms mine → IsAccessBelow most_terms theirs → All ArePairBelow (key_pairs mine theirs)
pairs-below mine theirs m t = All-cons ArePairBelow (mine.first.low, theirs.first.low) (second_terms mine.second theirs.second) (m.0.0, t.0.0) (go mine.second theirs.second m.1 t.1)
  where
    go : (c d : Option Column) → IfSome c (IsColumnBelow most_terms) → IfSome d (IsColumnBelow most_terms) → All ArePairBelow (second_terms c d)
    go None None h k = All-nil ArePairBelow
    go None (Some d) h k = All-cons ArePairBelow (Literal (pos 0), d.low) [] (tt, k.0) (All-nil ArePairBelow)
    go (Some c) None h k = All-cons ArePairBelow (c.low, Literal (pos 0)) [] (h.0, tt) (All-nil ArePairBelow)
    go (Some c) (Some d) h k = All-cons ArePairBelow (c.low, d.low) [] (h.0, k.0) (All-nil ArePairBelow)

pub access-below : (paths : List Path) (x a : ℕ) (access : Access) → AreFew paths → IsAccessOf paths x a access → IsAccessBelow most_terms access
access-below paths x a access few at =
    let own = subst (λ (p : Path). All (IsAccessBelow most_terms) p.accesses) (get_or_from_slice_get paths x at.0 at.0 at.1) (few.terms x at.0 (slice_get_within paths x at.0 at.1)) in
    subst (IsAccessBelow most_terms) (get_or_from_slice_get at.0.accesses a access access at.2) (own a access (slice_get_within at.0.accesses a access at.2))
