-- Questions and meetings the other way round.
use Rattle.std.proofs.Common.{◌≡◌, ◌<◌, ◌≤◌, ◌⊎◌, inl, inr, sym, arith}
use Rattle.std.proofs.lemmas.Bool.{cases_lt, cases_order}
use Rattle.prog_check.specs.declared.path.Access.{Access}
use Rattle.prog_paths.specs.Meeting.{CanMeet}
use Rattle.prog_paths.specs.StaticGraph.{QuestionNumbers, IsInOrder}

pub CanMeet-turned : (mine theirs : Access) → CanMeet mine theirs → CanMeet theirs mine
CanMeet-turned mine theirs h =
    (h.1, h.0, record { mine_of_i64 = h.2.theirs_of_i64; theirs_of_i64 = h.2.mine_of_i64; meet = (h.2.meet.0, h.2.meet.2, h.2.meet.1) })

-- the question the other way round
abbrev pub turned : QuestionNumbers → QuestionNumbers
turned q = record { x = q.y; a = q.b; y = q.x; b = q.a }

-- of two accesses one stands first
pub in_order-or_turned : (q : QuestionNumbers) → IsInOrder q ⊎ IsInOrder (turned q)
in_order-or_turned q = go (cases_order q.x q.y) (cases_lt q.b q.a)
  where
    go : (q.x ≡ q.y) ⊎ ((q.x < q.y) ⊎ (q.y < q.x)) → (q.b < q.a) ⊎ (q.a ≤ q.b) →
        IsInOrder q ⊎ IsInOrder (turned q)
    go (inr (inl l)) _ = inl (inl l)
    go (inr (inr l)) _ = inr (inl l)
    go (inl e) (inl l) = inr (inr (sym e, omega arith))
    go (inl e) (inr l) = inl (inr (e, l))
