-- An accepted certificate leaves no dangerous structure.
use Rattle.std.proofs.Common.{ℕ, ◌≤◌, inl, List, subst, arith}
use Rattle.std.specs.Prelude.{All}
use Rattle.std.proofs.lemmas.List.Elements.{All-contains}
use Rattle.prog_check.specs.declared.path.Access.{Access}
use Rattle.prog_check.specs.declared.path.Path.{Path}
use Rattle.prog_check.specs.Paths.{paths_of}
use Rattle.order_facts.specs.declared.steps.Node.{Node}
use Rattle.prog_paths.specs.Meeting.{CanMeet}
use Rattle.prog_paths.specs.StaticGraph.{QuestionNumbers, AsksOf, AsksReadWrite, IsAccessOf, StaticEdge, IsCovered, IsExposed, IsVulnerable, Leads, here, onward, IsDangerousAt, IsDangerous}
use Rattle.prog_paths.specs.Questions.{Asks, ChangesSingleCells}
use Rattle.prog_paths.specs.Facts.{question_facts}
use Rattle.prog_paths.specs.Shown.{Falls, key_pairs, AllEqual}
use Rattle.prog_paths.proofs.Shown.{IsPair, apart-from_Falls, same-from_CoversBy, may_touch-second}
use Rattle.prog_paths.proofs.Marked.{same_access}
use Rattle.prog_paths.proofs.Edges.{HasQuestion-weaker, EdgeOf-weaker}
use Rattle.prog_paths.proofs.SingleCells.{law_of_single_changes}
use Rattle.robust_cert.specs.declared.certificate.Certificate.{Certificate}
use Rattle.robust_cert.specs.declared.entries.Reason.{Reason}
use Rattle.robust_cert.specs.declared.entries.Reason.TheVariants.{Apart, Cover}
use Rattle.robust_cert.specs.Accepted.{question_of, ChainsShow, Holds, SaysApart, IsToldApart, IsTold, IsLeft, IsLeftVulnerable, LevelsRise, IsAccepted}
use Rattle.robust_cert.specs.Law.{LawOfAcceptance}
use Rattle.robust_cert.proofs.Chains.{AllEqual-from_ShowEqual, single_of}

-- ---- levels

level-Leads : {edge vulnerable : ℕ → ℕ → Type 0} {level : ℕ → ℕ} {x y : ℕ} → LevelsRise edge vulnerable level → Leads edge x y → level x ≤ level y
level-Leads r here = omega arith
level-Leads {level = level} r (onward {x = x} {y = y} {z = z} e w) = let a = r.never_fall x y e in let b = level-Leads r w in omega arith

-- levels that rise leave no two vulnerable edges in a row with a way back
unclosed : {edge vulnerable : ℕ → ℕ → Type 0} {level : ℕ → ℕ} (x y z : ℕ) → LevelsRise edge vulnerable level → IsDangerousAt edge vulnerable x y z → ⊥
unclosed x y z r d = let up = r.rise x y z d.first d.second in let back = level-Leads r d.back in absurd (omega arith)

-- ---- what an accepted certificate says of each question

module _ (nodes : List Path) (single : All ChangesSingleCells nodes) (c : Certificate) (a : IsAccepted nodes c) where
  pair_of : (q : QuestionNumbers) (mine theirs : Access) → AsksOf nodes q mine theirs → Asks q mine.kind theirs.kind → IsPair mine theirs
  pair_of q mine theirs asked asks = record { table = asked.table; single = single_of nodes single q.y q.b theirs asked.at_theirs (may_touch-second q mine theirs asks) }

  -- a question that is told apart never meets
  apart-right : (q : QuestionNumbers) (mine theirs : Access) → AsksOf nodes q mine theirs → Asks q mine.kind theirs.kind → IsToldApart c.entries q → CanMeet mine theirs → ⊥
  apart-right q mine theirs asked asks (e, inside, says, about) meet = by e.reason (All-contains (Holds nodes) c.entries e a.holds inside).chains says
    where
      by : (r : Reason) → ChainsShow nodes (question_of e) r → SaysApart r → ⊥
      by (Cover m t chains) w says = says
      by (Apart chain) w says =
          let own = subst (λ (r : QuestionNumbers). AsksOf nodes r w.0 w.1) about w.2 in
          let first = same_access nodes q.x q.a w.0 mine own.at_mine asked.at_mine in
          let second = same_access nodes q.y q.b w.1 theirs own.at_theirs asked.at_theirs in
          let falls = subst (λ (t : Access). Falls (question_facts mine t) chain) second (subst (λ (m : Access). Falls (question_facts m w.1) chain) first w.3) in
          apart-from_Falls mine theirs (pair_of q mine theirs asked asks) chain falls meet

  -- a question that is told meets only where it is covered
  told-right : (q : QuestionNumbers) (mine theirs : Access) → AsksOf nodes q mine theirs → Asks q mine.kind theirs.kind → IsTold c.entries q → CanMeet mine theirs → IsCovered nodes q.x q.y mine theirs
  told-right q mine theirs asked asks (e, inside, about) meet =
      by e.reason (All-contains (Holds nodes) c.entries e a.holds inside).chains (λ says. apart-right q mine theirs asked asks (e, inside, says, about) meet)
    where
      covered : (m t : ℕ) (chains : List (List Node)) → ChainsShow nodes (question_of e) (Cover m t chains) → IsCovered nodes q.x q.y mine theirs
      covered m t chains (of_mine, of_theirs, cover, shown) =
          let own = subst (λ (r : QuestionNumbers). AsksOf nodes r cover.mine cover.theirs) about cover.asked in
          let first = same_access nodes q.x q.a cover.mine mine own.at_mine asked.at_mine in
          let second = same_access nodes q.y q.b cover.theirs theirs own.at_theirs asked.at_theirs in
          let equal = AllEqual-from_ShowEqual (question_facts cover.mine cover.theirs) (key_pairs of_mine of_theirs) chains shown in
          let by_own = subst (λ (b : Access). AllEqual (question_facts mine b) (key_pairs of_mine of_theirs)) second (subst (λ (b : Access). AllEqual (question_facts b cover.theirs) (key_pairs of_mine of_theirs)) first equal) in
          let at_first = subst (λ (r : QuestionNumbers). IsAccessOf nodes r.x m of_mine) about cover.at_mine in
          let at_second = subst (λ (r : QuestionNumbers). IsAccessOf nodes r.y t of_theirs) about cover.at_theirs in
          record {
            first = m;
            second = t;
            of_first = of_mine;
            of_second = of_theirs;
            at_first = at_first;
            at_second = at_second;
            first_covers = cover.mine_covers;
            second_covers = cover.theirs_covers;
            same = same-from_CoversBy mine theirs (pair_of q mine theirs asked asks) of_mine of_theirs (single_of nodes single q.x m of_mine at_first cover.mine_covers.1) (single_of nodes single q.y t of_theirs at_second cover.theirs_covers.1) (record { mine_covers = cover.mine_covers; theirs_covers = cover.theirs_covers; table = cover.table; equal = by_own });
          }

      by : (r : Reason) → ChainsShow nodes (question_of e) r → (SaysApart r → ⊥) → IsCovered nodes q.x q.y mine theirs
      by (Apart chain) w other = absurd (other tt)
      by (Cover m t chains) w other = covered m t chains w

  -- ---- each edge is left

  abbrev Meets : QuestionNumbers → Access → Access → Type 0
  Meets q mine theirs = CanMeet mine theirs

  abbrev Free : QuestionNumbers → Access → Access → Type 0
  Free q mine theirs = ¬ IsToldApart c.entries q

  abbrev Untold : QuestionNumbers → Access → Access → Type 0
  Untold q mine theirs = ¬ IsTold c.entries q

  left : (x y : ℕ) → StaticEdge nodes x y → IsLeft nodes c.entries x y
  left = EdgeOf-weaker Meets Free nodes (λ q mine theirs asked asks meet told. apart-right q mine theirs asked asks told meet)

  exposed : (x y : ℕ) → IsVulnerable nodes x y → IsLeftVulnerable nodes c.entries x y
  exposed = HasQuestion-weaker (λ q. AsksReadWrite) (IsExposed nodes) Untold nodes (λ q mine theirs asked kinds bare told. bare.1 (told-right q mine theirs asked (inl kinds) told bare.0))

  along : (x y : ℕ) → Leads (StaticEdge nodes) x y → Leads (IsLeft nodes c.entries) x y
  along x _ here = here
  along x z (onward {y = y} e w) = onward (left x y e) (along y z w)

  safe : IsDangerous nodes → ⊥
  safe (x, y, z, d) = unclosed x y z a.levels_rise (record { first = exposed x y d.first; second = exposed y z d.second; back = along z x d.back })

pub law_of_acceptance : LawOfAcceptance
law_of_acceptance draft c a = safe (paths_of draft) (law_of_single_changes draft) c a
