-- What the tables say of the certificate, and that no fault but memory is told of one that is accepted.
use Rattle.std.proofs.Common.{◌≡◌, ℕ, ◌<◌, ◌≤◌, ◌⊎◌, inl, inr, List, length, refl, subst, arith, Some}
use Rattle.std.specs.Prelude.{slice_get, All}
use Rattle.std.proofs.lemmas.Bool.{cases_lt}
use Rattle.std.proofs.lemmas.List.{take_all}
use Rattle.std.proofs.lemmas.Option.{slice_get_within, get_or_from_slice_get}
use Rattle.order_facts.specs.Square.{Joins}
use Rattle.prog_check.specs.declared.path.Path.{Path}
use Rattle.prog_paths.specs.Listing.{RiseBy}
use Rattle.robust_cert.specs.declared.certificate.Certificate.{Certificate}
use Rattle.prog_paths.specs.declared.accesses.mark.EdgeTables.{EdgeTables}
use Rattle.robust_cert.specs.declared.fault.CertFault.{CertFault}
use Rattle.robust_cert.specs.declared.fault.CertFault.TheVariants.{TooLarge, PathCount, NoSuchEntry, EntryOrder, BadChain, BadCover, LevelFalls, Dangerous, Memory}
use Rattle.robust_cert.specs.Accepted.{question_of, Holds, IsLeft, IsLeftVulnerable, level_in, level_of, IsAccepted}
use Rattle.robust_cert.specs.Refused.{StandTo, IsFirstFault}
use Rattle.robust_cert.specs.Leaving.{Leaves}
use Rattle.robust_cert.specs.Levels.{FallsAlong, Stays, IsLevelFault, FallsIn, StaysIn, RiseOver}
use Rattle.robust_cert.specs.Sharing.{Entry}
use Rattle.robust_cert.proofs.Cursor.{behind-entry}
use Rattle.robust_cert.proofs.Leftover.{left-from_joins, joins-from_left, vulnerable-from_joins, joins-from_vulnerable}

-- ---- the levels

module _ (nodes : List Path) (c : Certificate) (s : StandTo nodes c (length c.entries)) where
  pub all-rise : RiseBy question_of c.entries
  all-rise = subst (λ (l : List Entry). RiseBy question_of l) (take_all (length c.entries) c.entries (omega arith)) s.rising

  all-hold : All (Holds nodes) c.entries
  all-hold = subst (λ (l : List Entry). All (Holds nodes) l) (take_all (length c.entries) c.entries (omega arith)) s.holds

  module _ (left : EdgeTables) (l : Leaves nodes c.entries left) where
    falls-at : (x y : ℕ) → FallsIn left.edges c.levels x y → FallsAlong (IsLeft nodes c.entries) (level_of c) x y
    falls-at x y f = record { edge = left-from_joins nodes c.entries all-rise left l x y f.edge; falls = f.falls }

    falls : (x y : ℕ) → FallsAlong (IsLeft nodes c.entries) (level_of c) x y → FallsIn left.edges c.levels x y
    falls x y f = record { edge = joins-from_left nodes c.entries all-rise left l x y f.edge; falls = f.falls }

    stays-at : (x y z : ℕ) → StaysIn left.vulnerable c.levels x y z → Stays (IsLeftVulnerable nodes c.entries) (level_of c) x y z
    stays-at x y z f = record {
      first = vulnerable-from_joins nodes c.entries all-rise left l x y f.first;
      second = vulnerable-from_joins nodes c.entries all-rise left l y z f.second;
      stays = f.stays;
    }

    stays : (x y z : ℕ) → Stays (IsLeftVulnerable nodes c.entries) (level_of c) x y z → StaysIn left.vulnerable c.levels x y z
    stays x y z f = record {
      first = joins-from_vulnerable nodes c.entries all-rise left l x y f.first;
      second = joins-from_vulnerable nodes c.entries all-rise left l y z f.second;
      stays = f.stays;
    }

    pub accepted-from_rise : RiseOver left c.levels → IsAccepted nodes c
    accepted-from_rise r = record {
      few = s.size.few;
      levels = s.size.levels;
      bodies = s.size.bodies;
      rising = all-rise;
      holds = all-hold;
      levels_rise = record {
        never_fall = λ x y e. keeps x y e (cases_lt (level_of c y) (level_of c x));
        rise = λ x y z a b. rises x y z a b (cases_lt (level_of c x) (level_of c z));
      };
    }
      where
        keeps : (x y : ℕ) → IsLeft nodes c.entries x y → (level_of c y < level_of c x) ⊎ (level_of c x ≤ level_of c y) → level_of c x ≤ level_of c y
        keeps x y e (inl lt) = absurd (r.never_fall x y (falls x y (record { edge = e; falls = lt })))
        keeps x y e (inr le) = le

        rises : (x y z : ℕ) → IsLeftVulnerable nodes c.entries x y → IsLeftVulnerable nodes c.entries y z → (level_of c x < level_of c z) ⊎ (level_of c z ≤ level_of c x) → level_of c x < level_of c z
        rises x y z a b (inl lt) = lt
        rises x y z a b (inr le) = absurd (r.rise x y z (stays x y z (record { first = a; second = b; stays = le })))

    pub first-from_levels : (fault : CertFault) → IsLevelFault (Joins left.edges) (Joins left.vulnerable) (level_in c.levels) fault → IsFirstFault nodes c fault
    first-from_levels (LevelFalls x y) h = (s, record { falls = falls-at x y h.falls; least = λ u v f. h.least u v (falls u v f) })
    first-from_levels (Dangerous x y z) (none, h) = (s, (λ u v f. none u v (falls u v f), record { stays = stays-at x y z h.stays; least = λ u v w f. h.least u v w (stays u v w f) }))
    first-from_levels TooLarge h = absurd h
    first-from_levels PathCount h = absurd h
    first-from_levels (NoSuchEntry k) h = absurd h
    first-from_levels (EntryOrder k) h = absurd h
    first-from_levels (BadCover k) h = absurd h
    first-from_levels (BadChain k) h = absurd h
    first-from_levels Memory h = absurd h

-- ---- a fault of one that is accepted

module _ (nodes : List Path) (c : Certificate) (a : IsAccepted nodes c) where
  held : (k : ℕ) (e : Entry) → slice_get c.entries k ≡ Some e → Holds nodes e
  held k e at = subst (Holds nodes) (get_or_from_slice_get c.entries k e e at) (a.holds k e (slice_get_within c.entries k e at))

  pub only_memory : (fault : CertFault) → IsFirstFault nodes c fault → fault ≡ Memory
  only_memory TooLarge h = let few = a.few in absurd (omega (arith, few, h))
  only_memory PathCount h = absurd (h.1 (a.levels, a.bodies))
  only_memory (NoSuchEntry k) (e, f, against) = absurd (against (held k e f.at).question)
  only_memory (EntryOrder k) (e, f, (q, against)) = absurd (against (λ j last at is. behind-entry c.entries k e a.rising f.at j last (omega (arith, at)) is))
  only_memory (BadCover k) (e, f, (q, b, against)) = absurd (against (held k e f.at).fitting)
  only_memory (BadChain k) (e, f, (q, b, fits, against)) = absurd (against (held k e f.at).chains)
  only_memory (LevelFalls x y) (s, h) = let f = h.falls in let up = a.levels_rise.never_fall x y f.edge in let down = f.falls in absurd (omega (arith, up, down))
  only_memory (Dangerous x y z) (s, (n, h)) = let f = h.stays in let up = a.levels_rise.rise x y z f.first f.second in let down = f.stays in absurd (omega (arith, up, down))
  only_memory Memory h = refl
