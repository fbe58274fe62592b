-- What a right verdict on two accesses says of an edge between their nodes.
use Rattle.std.proofs.Common.{◌≡◌, ℕ, ◌⊎◌, inl, inr, Bool, true, false, List, refl, sym, subst}
use Rattle.std.proofs.lemmas.Bool.{false≢true}
use Rattle.prog_check.specs.declared.path.Kind.{Kind}
use Rattle.prog_check.specs.declared.path.Kind.TheVariants.{Writes}
use Rattle.prog_check.specs.declared.path.Access.{Access}
use Rattle.prog_check.specs.declared.path.Path.{Path}
use Rattle.prog_paths.specs.Meeting.{Assignment, MeetsUnder, CanMeet}
use Rattle.prog_paths.specs.Questions.{asks_read_write, asks_write_read, both_write}
use Rattle.prog_paths.specs.StaticGraph.{QuestionNumbers, AsksReadWrite, AsksWriteRead, AsksWriteWrite, IsInOrder, HasQuestion, StaticEdge, IsExposed, IsVulnerable}
use Rattle.prog_paths.proofs.Marked.{read_write-true, write_read-true}
use Rattle.prog_paths.proofs.Membership.{writes_both}
use Rattle.prog_paths.proofs.Turned.{CanMeet-turned, turned, in_order-or_turned}
use Rattle.conflict_pairs.specs.declared.verdicts.Verdict.{Verdict}
use Rattle.conflict_pairs.specs.declared.verdicts.Verdict.TheVariants.{Apart, Covered, Exposed}
use Rattle.conflict_pairs.specs.Classed.{HaveVerdict}
use Rattle.conflict_pairs.specs.Verdicts.{mine_of, theirs_of, IsRightOf, can_meet, is_exposed}

abbrev pub Meets : QuestionNumbers → Access → Access → Type 0
Meets q mine theirs = CanMeet mine theirs

-- ---- verdicts

module _ (paths : List Path) (q : QuestionNumbers) (mine theirs : Access) where
  meets-right : (v : Verdict) → IsRightOf paths q mine theirs v → can_meet v ≡ true → CanMeet mine theirs
  meets-right (Apart chain) r e = absurd (false≢true e)
  meets-right (Covered m t chains) r e = r.can_meet
  meets-right (Exposed sample) r e = (mine_of sample, theirs_of sample, r.meets)

  pub right-meets : (v : Verdict) → IsRightOf paths q mine theirs v → CanMeet mine theirs → can_meet v ≡ true
  right-meets (Apart chain) r m = absurd (r.0 m)
  right-meets (Covered m t chains) r _ = refl
  right-meets (Exposed sample) r _ = refl

  exposed-right : (v : Verdict) → IsRightOf paths q mine theirs v → AsksReadWrite mine.kind theirs.kind → is_exposed v ≡ true → IsExposed paths q mine theirs
  exposed-right (Apart chain) r a e = absurd (false≢true e)
  exposed-right (Covered m t chains) r a e = absurd (false≢true e)
  exposed-right (Exposed sample) r a e = ((mine_of sample, theirs_of sample, r.meets), r.uncovered a)

  pub right-exposed : (v : Verdict) → IsRightOf paths q mine theirs v → IsExposed paths q mine theirs → is_exposed v ≡ true
  right-exposed (Apart chain) r x = absurd (r.0 x.0)
  right-exposed (Covered m t chains) r x = absurd (x.1 r.least.cover)
  right-exposed (Exposed sample) r x = refl

-- ---- two accesses that both write, in either order

-- ---- a right verdict on accesses of two nodes

module _ (paths : List Path) (x y : ℕ) (mine theirs : Kind) (v : Verdict) (h : HaveVerdict paths x y mine theirs v) where
  right : IsRightOf paths h.question h.first h.second v
  right = h.right h.first h.second h.asked

  moved : (f : Kind → Kind → Bool) → f mine theirs ≡ true → f h.first.kind h.second.kind ≡ true
  moved f k = subst (λ (b : Kind). f h.first.kind b ≡ true) (sym h.theirs_is) (subst (λ (a : Kind). f a theirs ≡ true) (sym h.mine_is) k)

  asked : (asks : QuestionNumbers → Kind → Kind → Type 0) → asks h.question h.first.kind h.second.kind → CanMeet h.first h.second → HasQuestion asks Meets paths x y
  asked asks kinds m = record { question = h.question; from = h.from; to = h.to; mine = h.first; theirs = h.second; asked = h.asked; kinds = kinds; holds = m }

  writes : CanMeet h.first h.second → both_write mine theirs ≡ true → HasQuestion AsksWriteWrite Meets paths x y ⊎ HasQuestion AsksWriteWrite Meets paths y x
  writes m k = by (in_order-or_turned h.question)
    where
      kinds : (h.first.kind ≡ Writes) × (h.second.kind ≡ Writes)
      kinds = writes_both h.first.kind h.second.kind (moved both_write k)

      by : IsInOrder h.question ⊎ IsInOrder (turned h.question) → HasQuestion AsksWriteWrite Meets paths x y ⊎ HasQuestion AsksWriteWrite Meets paths y x
      by (inl o) = inl (asked AsksWriteWrite (kinds.0, kinds.1, o) m)
      by (inr o) = inr (record {
        question = turned h.question;
        from = h.to;
        to = h.from;
        mine = h.second;
        theirs = h.first;
        asked = record { at_mine = h.asked.at_theirs; at_theirs = h.asked.at_mine; table = sym h.asked.table };
        kinds = (kinds.1, kinds.0, o);
        holds = CanMeet-turned h.first h.second m;
      })

  pub edge-forward : can_meet v ≡ true → (asks_read_write mine theirs ≡ true) ⊎ (both_write mine theirs ≡ true) → StaticEdge paths x y
  edge-forward c (inl k) = inl (asked (λ q. AsksReadWrite) (read_write-true h.first.kind h.second.kind (moved asks_read_write k)) (meets-right paths h.question h.first h.second v right c))
  edge-forward c (inr k) = inr (inr (writes (meets-right paths h.question h.first h.second v right c) k))

  pub edge-backward : can_meet v ≡ true → (asks_write_read mine theirs ≡ true) ⊎ (both_write mine theirs ≡ true) → StaticEdge paths y x
  edge-backward c (inl k) = inr (inl (asked (λ q. AsksWriteRead) (write_read-true h.first.kind h.second.kind (moved asks_write_read k)) (meets-right paths h.question h.first h.second v right c)))
  edge-backward c (inr k) = by (writes (meets-right paths h.question h.first h.second v right c) k)
    where
      by : HasQuestion AsksWriteWrite Meets paths x y ⊎ HasQuestion AsksWriteWrite Meets paths y x → StaticEdge paths y x
      by (inl w) = inr (inr (inr w))
      by (inr w) = inr (inr (inl w))

  pub vulnerable-forward : is_exposed v ≡ true → asks_read_write mine theirs ≡ true → IsVulnerable paths x y
  vulnerable-forward e k =
      let asks = read_write-true h.first.kind h.second.kind (moved asks_read_write k) in
      record { question = h.question; from = h.from; to = h.to; mine = h.first; theirs = h.second; asked = h.asked; kinds = asks; holds = exposed-right paths h.question h.first h.second v right asks e }
