-- The set of whose body a read is exposed: a promotion of it is refused, for that reason alone.
use Rattle.std.proofs.Common.{◌≡◌, ℕ, zero, suc, ◌⊎◌, inl, inr, [], ◌∷◌, refl, sym, ap, subst, ◌∙◌, arith, false, true}
use Rattle.std.specs.Prelude.{pos, Some, slice_get}
use Rattle.std.proofs.lemmas.Bool.{false≢true}
use Rattle.std.proofs.lemmas.Int.{ints}
use Rattle.std.proofs.lemmas.Option.{none-some, same_Some}
use Rattle.prog_tree.specs.Number.{IsI64}
use Rattle.prog_tree.specs.Syntax.{Named, Literal, Plus, One, OneRange, StatementTree, BlockTree, BlockEnd, Then, Each, ProgramTree, DraftTree}
use Rattle.prog_tree.specs.Syntax as s
use Rattle.prog_check.specs.declared.path.Kind.{Kind}
use Rattle.prog_check.specs.declared.path.Kind.TheVariants.{Reads, Lacks, Writes, Adds}
use Rattle.prog_check.specs.declared.path.Term.TheVariants.{Param}
use Rattle.prog_check.specs.declared.path.Term.TheVariants as term
use Rattle.prog_check.specs.declared.path.Access.{Access}
use Rattle.prog_check.specs.declared.path.Path.{Path}
use Rattle.prog_check.specs.Accesses.{single, no_column}
use Rattle.prog_check.specs.Paths.{paths_of}
use Rattle.prog_paths.specs.Meeting.{Assignment, MayTouch, MayCover, CanMeet}
use Rattle.prog_paths.specs.StaticGraph.{IsAccessOf, IsCovered}
use Rattle.repair_laws.specs.declared.plan.Pair.{Pair}
use Rattle.repair_laws.specs.Keys.{ExposedOf}
use Rattle.repair_laws.specs.Materialised.{plain_table}
use Rattle.repair_laws.specs.Refusals.{IsStatementAt, IsRange, HasUnknownKey, HasRangeRead, HasUnknownRead, HasBodyRead, BodyRead, StopsPromotion}

-- table s 1;  table t 1;  program Move(a, b) { each k, x in s[1..3] { let y = get t[a] else 0; put t[b] = x + y; } }
abbrev move_program : ProgramTree
move_program = record {
  name = 77 ∷ [];
  params = (97 ∷ []) ∷ (98 ∷ []) ∷ [];
  body = Each (record { key = 107 ∷ []; value = 120 ∷ []; table = 115 ∷ []; range = OneRange (Literal (pos 1)) (Literal (pos 3)) })
      (Then (s.Get (121 ∷ []) (116 ∷ []) (One (Named (97 ∷ []))) (Literal (pos 0)))
      (Then (s.Put (116 ∷ []) (One (Named (98 ∷ []))) (Plus (Named (120 ∷ [])) (Named (121 ∷ [])))) BlockEnd)) BlockEnd;
}

abbrev move_set : DraftTree
move_set = record { tables = plain_table (115 ∷ []) ∷ plain_table (116 ∷ []) ∷ []; programs = move_program ∷ [] }

abbrev listed : Access
listed = record { kind = Reads; table = 0; first = record { low = term.Literal (pos 1); high = term.Literal (pos 3) }; second = no_column; place = 0; sure = true }

abbrev read : Access
read = record { kind = Reads; table = 1; first = single (Param 0); second = no_column; place = 1; sure = false }

abbrev written : Access
written = record { kind = Writes; table = 1; first = single (Param 1); second = no_column; place = 2; sure = false }

abbrev only_path : Path
only_path = record { program = 0; choices = []; accesses = listed ∷ read ∷ written ∷ [] }

move_paths : paths_of move_set ≡ only_path ∷ []
move_paths = refl

-- nothing of it covers: the range is no change, and the change is in the body
touches_not : MayTouch listed → ⊥
touches_not (inl e) = absurd (cc)
touches_not (inr (inl e)) = absurd (cc)
touches_not (inr (inr e)) = absurd (cc)

covers_not : (n : ℕ) (a : Access) → slice_get only_path.accesses n ≡ Some a → MayCover a → ⊥
covers_not zero a at h = touches_not (subst MayTouch (sym (same_Some listed a at)) h.1)
covers_not (suc zero) a at h = false≢true (ap (λ (z : Access). z.sure) (same_Some read a at) ∙ h.0)
covers_not (suc (suc zero)) a at h = false≢true (ap (λ (z : Access). z.sure) (same_Some written a at) ∙ h.0)
covers_not (suc (suc (suc n))) a at h = none-some a at

none_covers : IsCovered (paths_of move_set) 0 0 read written → ⊥
none_covers c =
    let path : only_path ≡ c.at_first.0 = same_Some only_path c.at_first.0 c.at_first.1 in
    covers_not c.first c.of_first (ap (λ (p : Path). slice_get p.accesses c.first) path ∙ c.at_first.2) c.first_covers

zeros : Assignment
zeros = record { parameter = λ i. pos 0; unknown = λ i. pos 0 }

zero_is_i64 : IsI64 (pos 0)
zero_is_i64 = (omega (arith, ints), omega (arith, ints))

both_meet : CanMeet read written
unfolding zeros
both_meet = (
  zeros,
  zeros,
  record {
    mine_of_i64 = record { parameter = λ i. zero_is_i64; unknown = λ i. zero_is_i64 };
    theirs_of_i64 = record { parameter = λ i. zero_is_i64; unknown = λ i. zero_is_i64 };
    meet = (
      record { table = 1; first = pos 0; second = pos 0 },
      record { table = refl; first = (omega (arith, ints), omega (arith, ints)); second = refl },
      record { table = refl; first = (omega (arith, ints), omega (arith, ints)); second = refl },
    );
  },
)

-- the read in the body is exposed to the change there
move_exposed : ExposedOf (paths_of move_set) (record { from = 0; to = 0 })
move_exposed = record {
  x = 0;
  y = 0;
  of_pair = ((only_path, refl, refl), (only_path, refl, refl));
  question = record {
    question = record { x = 0; a = 1; y = 0; b = 2 };
    from = refl;
    to = refl;
    mine = read;
    theirs = written;
    asked = record { at_mine = (only_path, refl, refl); at_theirs = (only_path, refl, refl); table = refl };
    kinds = inl (refl, inl refl);
    holds = (both_meet, none_covers);
  };
}

move_refused : HasBodyRead move_set (record { from = 0; to = 0 })
unfolding move_exposed
move_refused = (move_exposed, inl refl)

-- ---- neither a range nor an unknown key

abbrev IsOneOf : Access → Type 0
IsOneOf a = (listed ≡ a) ⊎ (read ≡ a) ⊎ (written ≡ a)

on_path : (n : ℕ) (a : Access) → slice_get only_path.accesses n ≡ Some a → IsOneOf a
on_path zero a at = inl (same_Some listed a at)
on_path (suc zero) a at = inr (inl (same_Some read a at))
on_path (suc (suc zero)) a at = inr (inr (same_Some written a at))
on_path (suc (suc (suc n))) a at = absurd (none-some a at)

at_node : (x n : ℕ) (a : Access) (path : Path) → slice_get (only_path ∷ []) x ≡ Some path → slice_get path.accesses n ≡ Some a → IsOneOf a
at_node zero n a path at got = on_path n a (ap (λ (p : Path). slice_get p.accesses n) (same_Some only_path path at) ∙ got)
at_node (suc x) n a path at got = absurd (none-some path at)

is_one : (x n : ℕ) (a : Access) → IsAccessOf (paths_of move_set) x n a → IsOneOf a
is_one x n a at = at_node x n a at.0 at.1 at.2

abbrev MayMiss : (mine theirs : Kind) → Type 0
MayMiss a b = ((a ≡ Reads) × ((b ≡ Writes) ⊎ (b ≡ Adds))) ⊎ ((a ≡ Lacks) × (b ≡ Adds))

-- the change is that of the body, so the read is of its table
first_kind : (a b : Kind) → Writes ≡ a → MayMiss a b → ⊥
first_kind a b e (inl h) = let f : Writes ≡ Reads = e ∙ h.0 in absurd (cc)
first_kind a b e (inr h) = let f : Writes ≡ Lacks = e ∙ h.0 in absurd (cc)

second_kind : (a b : Kind) → Reads ≡ b → MayMiss a b → ⊥
second_kind a b e (inl (k, inl h)) = let f : Reads ≡ Writes = e ∙ h in absurd (cc)
second_kind a b e (inl (k, inr h)) = let f : Reads ≡ Adds = e ∙ h in absurd (cc)
second_kind a b e (inr (k, h)) = let f : Reads ≡ Adds = e ∙ h in absurd (cc)

is_read : (mine theirs : Access) → IsOneOf mine → IsOneOf theirs → mine.table ≡ theirs.table → MayMiss mine.kind theirs.kind → read ≡ mine
is_read mine theirs (inr (inl e)) other same h = e
is_read mine theirs (inr (inr e)) other same h = absurd (first_kind mine.kind theirs.kind (ap (λ (a : Access). a.kind) e) h)
is_read mine theirs (inl e) (inl f) same h = absurd (second_kind mine.kind theirs.kind (ap (λ (a : Access). a.kind) f) h)
is_read mine theirs (inl e) (inr (inl f)) same h = absurd (second_kind mine.kind theirs.kind (ap (λ (a : Access). a.kind) f) h)
is_read mine theirs (inl e) (inr (inr f)) same h =
    let table : 0 ≡ 1 = ap (λ (a : Access). a.table) e ∙ same ∙ sym (ap (λ (a : Access). a.table) f) in
    absurd (omega (arith, table))

mine_is : (pair : Pair) (e : ExposedOf (paths_of move_set) pair) → read ≡ e.question.mine
mine_is pair e =
    is_read e.question.mine e.question.theirs (is_one e.question.question.x e.question.question.a e.question.mine e.question.asked.at_mine)
    (is_one e.question.question.y e.question.question.b e.question.theirs e.question.asked.at_theirs) e.question.asked.table e.question.kinds

known_key : HasUnknownKey read → ⊥
known_key (inl h) = false≢true h
known_key (inr h) = h

not_unknown : (pair : Pair) → HasUnknownRead move_set pair → ⊥
not_unknown pair (e, h) = known_key (subst HasUnknownKey (sym (mine_is pair e)) h)

-- the statement of number 1 is no range
one_cell : (st : StatementTree) → IsStatementAt 0 move_program.body 1 st → IsRange st → ⊥
one_cell st (inl h) r = let e = h.0 in absurd (omega (arith, e))
one_cell st (inr (inl (inl h))) r = false≢true (subst IsRange h.1 r)
one_cell st (inr (inl (inr (inl h)))) r = let e = h.0 in absurd (omega (arith, e))
one_cell st (inr (inl (inr (inr h)))) r = absurd h
one_cell st (inr (inr h)) r = absurd h

not_range : HasRangeRead move_set (record { from = 0; to = 0 }) → ⊥
not_range (e, (p, at, st, stands, range)) =
    let program : move_program ≡ p = same_Some move_program p at in
    let place : 1 ≡ e.question.mine.place = ap (λ (a : Access). a.place) (mine_is (record { from = 0; to = 0 }) e) in
    one_cell st (subst (λ n. IsStatementAt 0 move_program.body n st) (sym place) (subst (λ (q : ProgramTree). IsStatementAt 0 q.body e.question.mine.place st) (sym program) stands)) range

-- so the one pair of a plan stops it for the body's sake
move_stops : StopsPromotion move_set (record { from = 0; to = 0 } ∷ []) 0 (record { from = 0; to = 0 }) BodyRead
move_stops = (not_range, λ h. not_unknown (record { from = 0; to = 0 }) h, move_refused)
