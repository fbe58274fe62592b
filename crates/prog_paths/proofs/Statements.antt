-- Each statement that goes on follows its accesses.
use Rattle.std.proofs.Common.{◌≡◌, ℕ, suc, ◌+◌, Bool, true, false, List, [], ◌∷◌, ◌++◌, ◌⊎◌, inl, inr, length, map, refl, sym, subst, ap, ◌∙◌, arith, append-nil, true≢false}
use Rattle.std.specs.Prelude.{ℤ, pos, Contains, Option, Some, None, is_some, if◌then◌else◌, slice_get}
use Rattle.std.proofs.lemmas.List.Elements.{Contains-push_cases}
use Rattle.std.specs.List.{find}
use Rattle.std.specs.Cmp.Lexicographic.{nat_list_eq_equiv}
use Rattle.std.specs.Option.{option_or}
use Rattle.prog_tree.specs.declared.cell.Cell.{Cell}
use Rattle.prog_tree.specs.declared.cell.Region.{Region}
use Rattle.prog_tree.specs.declared.look.Look.{Look}
use Rattle.prog_tree.specs.declared.look.Look.TheVariants as look
use Rattle.prog_tree.specs.declared.deed.Cause.TheVariants.{Missing, Present}
use Rattle.prog_tree.specs.declared.deed.Deed.{Deed}
use Rattle.prog_tree.specs.declared.deed.Deed.TheVariants.{Read, Counted, Summed, Put, Removed, Kept}
use Rattle.prog_tree.specs.declared.progress.Progress.{Progress}
use Rattle.prog_tree.specs.declared.table.TableDecl.{TableDecl}
use Rattle.prog_tree.specs.Syntax.{Name, ExprTree, KeyTree, RangeTree, StatementTree}
use Rattle.prog_tree.specs.Syntax as s
use Rattle.prog_tree.specs.Numbering.{number_of}
use Rattle.prog_tree.specs.Steps.{bound, did, replied, wrote, keeps, looked}
use Rattle.prog_tree.specs.Value.{Bindings, same_name, exact, value_of}
use Rattle.prog_tree.specs.Table.{IsI64Cell, TableState, row_at, total_of}
use Rattle.prog_tree.specs.ChangeSet.{ChangeSet, change_at, with_change, with_kept}
use Rattle.prog_tree.specs.Evaluation.{Flow, GoesOn, Stops, with_value, in_range, with_rows, if_present, seen_or, with_seen, cell_of, region_of, own_cells, rows_left, rows_seen, run_statement}
use Rattle.prog_check.specs.declared.path.Kind.{Kind}
use Rattle.prog_check.specs.declared.path.Kind.TheVariants.{Reads, Sees, Lacks, Writes, Adds, Keeps}
use Rattle.prog_check.specs.declared.path.Access.{Access}
use Rattle.prog_check.specs.Tables.{declaration, grows}
use Rattle.prog_check.specs.Accesses.{Columns, columns_of, next_unknown, key_columns, range_columns, accesses_of}
use Rattle.prog_check.specs.Uses.{as_count}
use Rattle.prog_paths.specs.Meeting.{Assignment, IsOfOwn, cell_under, MayCover}
use Rattle.prog_paths.specs.Follows.{IsLookOf, LooksAt, Changes, KeepsCell, HasRow, FoundAs, ChangedAs}
use Rattle.prog_tree.proofs.Elements.{IsMember}
use Rattle.prog_paths.proofs.Segments.{Held, Segment, segment_none}
use Rattle.prog_tree.specs.Number.{IsI64}
use Rattle.prog_paths.proofs.Numbers.{StatementFits, row_i64}
use Rattle.prog_paths.proofs.Ranges.{EnvOfI64, MayBeI64, ChangesOfI64, Ranged, exact_i64, value_i64, env_push, changes_put, change_i64}
use Rattle.prog_paths.proofs.Values.{nth, agrees_nth, EnvFits, assigned, IsApart, fits_push, RemovesPlain}
use Rattle.prog_paths.proofs.Cells.{change_either, changes_either, changes_here, changes_stay, keeps_either, keeps_here, keeps_stay}
use Rattle.prog_paths.proofs.Terms.{CellIn, CellAt, cell_i64, key_fits, range_fits}
use Rattle.prog_paths.proofs.Parts.{value_goes, listed, Did, StatementFollows, ListingFollows, goes_same}

-- ---- tables by name and by number

pub declaration_is : (tables : List TableDecl) (x : Name) → declaration tables x ≡ slice_get tables (number_of tables x)
declaration_is [] x = refl
declaration_is (d ∷ ds) x =
    let later = declaration_is ds x in
    let next : number_of ds x + 1 ≡ suc (number_of ds x) = omega arith in
    ap (λ b. if b then Some d else find (λ e. same_name x e.name) ds) (nat_list_eq_equiv.symm x d.name)
    ∙ elim (same_name d.name x) as (λ b. (if b then Some d else find (λ e. same_name x e.name) ds) ≡ slice_get (d ∷ ds) (if b then 0 else number_of ds x + 1)) [ true ↦ refl | false ↦ later ∙ ap (slice_get (d ∷ ds)) (sym next) ]

same_growth : (tables : List TableDecl) (x y : Name) → number_of tables x ≡ number_of tables y → grows (declaration tables x) ≡ grows (declaration tables y)
same_growth tables x y e = ap grows (declaration_is tables x ∙ ap (slice_get tables) e ∙ sym (declaration_is tables y))

-- ---- flows that go on

present_goes : (o : Option ℤ) (go : ℤ → Flow) (p q : Progress) (other : Flow) → ((r : Progress) → other ≡ GoesOn r → ⊥) → if_present o go other ≡ GoesOn q → (x : ℤ) × (o ≡ Some x) × (go x ≡ GoesOn q)
present_goes (Some x) go p q other stops e = (x, refl, e)
present_goes None go p q other stops e = absurd (stops q e)

absent_goes : (o : Option ℤ) (go : ℤ → Flow) (q : Progress) (other : Flow) → ((x : ℤ) (r : Progress) → go x ≡ GoesOn r → ⊥) → if_present o go other ≡ GoesOn q → (o ≡ None) × (other ≡ GoesOn q)
absent_goes (Some x) go q other stops e = absurd (stops x q e)
absent_goes None go q other stops e = (refl, e)

-- ---- looks

looks_last : (ls : List Look) (l : Look) (c : Cell) → LooksAt (ls ++ l ∷ []) c → LooksAt ls c ⊎ IsLookOf l c
looks_last ls l c (k, at, of) = go (Contains-push_cases ls l k at)
  where
    go : Contains ls k ⊎ (l ≡ k) → LooksAt ls c ⊎ IsLookOf l c
    go (inl d) = inl (k, d, of)
    go (inr e) = inr (subst (λ (z : Look). IsLookOf z c) (sym e) of)

module _ (m : TableState) where
  -- each look that is new is in an access that fits
  abbrev LookPart : Assignment → List Access → Progress → Progress → Type 0
  LookPart v accesses p q = (c : Cell) → LooksAt q.looks c → LooksAt p.looks c ⊎ Held accesses v c (λ kind. FoundAs kind (HasRow m c) (Changes q.changes c))

  look_same : (v : Assignment) (accesses : List Access) (p q : Progress) → q.looks ≡ p.looks → LookPart v accesses p q
  look_same v accesses p q e c h = inl (subst (λ ls. LooksAt ls c) e h)

  look_more : (v : Assignment) (accesses : List Access) (p q : Progress) (l : Look) → q.looks ≡ p.looks ++ l ∷ [] → ((c : Cell) → IsLookOf l c → Held accesses v c (λ kind. FoundAs kind (HasRow m c) (Changes q.changes c))) → LookPart v accesses p q
  look_more v accesses p q l e held c h = go (looks_last p.looks l c (subst (λ ls. LooksAt ls c) e h))
    where
      go : LooksAt p.looks c ⊎ IsLookOf l c → LooksAt p.looks c ⊎ Held accesses v c (λ kind. FoundAs kind (HasRow m c) (Changes q.changes c))
      go (inl d) = inl d
      go (inr d) = inr (held c d)

  -- ---- segments of one statement

  -- it changes and keeps nothing
  segment_look : (v : Assignment) (accesses : List Access) (p q : Progress) → LookPart v accesses p q → q.changes ≡ p.changes → ((a : Access) → IsMember a accesses → MayCover a → ⊥) → Segment m v accesses p q
  segment_look v accesses p q part e none =
      record {
        look = part;
        change = λ c h. inl (subst (λ s. Changes s c) e h);
        keep = λ c h. inl (subst (λ s. KeepsCell s c) e h);
        touched = λ a h k. absurd (none a h k);
        changes_stay = λ c h. subst (λ s. Changes s c) (sym e) h;
        keeps_stay = λ c h. subst (λ s. KeepsCell s c) (sym e) h;
      }

  -- it changes a cell
  segment_change : (v : Assignment) (accesses : List Access) (p q : Progress) (cell : Cell) (w : Option ℤ) → LookPart v accesses p q → q.changes ≡ with_change p.changes cell w →
      Held accesses v cell (λ kind. ChangedAs kind (HasRow m cell)) → ((a : Access) → IsMember a accesses → MayCover a → cell_under v a ≡ cell) → Segment m v accesses p q
  segment_change v accesses p q cell w part e held single =
      record {
        look = part;
        change = λ c h. change c (changes_either p.changes cell w c (subst (λ s. Changes s c) e h));
        keep = λ c h. inl (subst (λ s. KeepsCell s c) e h);
        touched = λ a h k. inl (subst (λ s. Changes s (cell_under v a)) (sym e) (subst (λ c. Changes (with_change p.changes cell w) c) (sym (single a h k)) (changes_here p.changes cell w)));
        changes_stay = λ c h. subst (λ s. Changes s c) (sym e) (changes_stay p.changes cell w c h);
        keeps_stay = λ c h. subst (λ s. KeepsCell s c) (sym e) h;
      }
    where
      change : (c : Cell) → (c ≡ cell) ⊎ Changes p.changes c → Changes p.changes c ⊎ Held accesses v c (λ kind. ChangedAs kind (HasRow m c))
      change c (inl same) = inr (subst (λ d. Held accesses v d (λ kind. ChangedAs kind (HasRow m d))) (sym same) held)
      change c (inr h) = inl h

  -- it keeps a cell
  segment_keep : (v : Assignment) (accesses : List Access) (p q : Progress) (cell : Cell) → LookPart v accesses p q → q.changes ≡ with_kept p.changes cell →
      Held accesses v cell (λ kind. kind ≡ Keeps) → ((a : Access) → IsMember a accesses → MayCover a → cell_under v a ≡ cell) → Segment m v accesses p q
  segment_keep v accesses p q cell part e held single =
      record {
        look = part;
        change = λ c h. inl (subst (λ s. Changes s c) e h);
        keep = λ c h. keep c (keeps_either p.changes cell c (subst (λ s. KeepsCell s c) e h));
        touched = λ a h k. inr (subst (λ s. KeepsCell s (cell_under v a)) (sym e) (subst (λ c. KeepsCell (with_kept p.changes cell) c) (sym (single a h k)) (keeps_here p.changes cell)));
        changes_stay = λ c h. subst (λ s. Changes s c) (sym e) h;
        keeps_stay = λ c h. subst (λ s. KeepsCell s c) (sym e) (keeps_stay p.changes cell c h);
      }
    where
      keep : (c : Cell) → (c ≡ cell) ⊎ KeepsCell p.changes c → KeepsCell p.changes c ⊎ Held accesses v c (λ kind. kind ≡ Keeps)
      keep c (inl same) = inr (subst (λ d. Held accesses v d (λ kind. kind ≡ Keeps)) (sym same) held)
      keep c (inr h) = inl h

-- ---- accesses of a key

-- the sure access of these columns
abbrev access_at : Kind → ℕ → Columns → ℕ → Access
access_at kind table columns place = record { kind = kind; table = table; first = columns.first; second = columns.second; place = place; sure = true }

is_of : (v : Assignment) (kind : Kind) (number : ℕ) (columns : Columns) (place : ℕ) (cell : Cell) → CellIn v columns number cell → IsOfOwn v (access_at kind number columns place) cell
is_of v kind number columns place cell h = (v, refl, record { table = h.table; first = h.first; second = h.second })

cell_is_under : (v : Assignment) (kind : Kind) (number : ℕ) (columns : Columns) (place : ℕ) (cell : Cell) → CellAt v columns number cell → cell_under v (access_at kind number columns place) ≡ cell
cell_is_under v kind number columns place cell h = λ i. record { table = sym h.holds.table i; first = h.low_first i; second = h.low_second i }

-- ---- what a look at a cell gives

-- z is p, or p with the look
record Seen (m : TableState) (cell : Cell) (p : Progress) (seen : Option ℤ) (z : Progress) : Type 0 where
  env : z.env ≡ p.env
  changes : z.changes ≡ p.changes
  how : ((z.looks ≡ p.looks) × (change_at p.changes cell ≡ Some seen)) ⊎ ((z.looks ≡ p.looks ++ look.One cell (row_at m cell) ∷ []) × (seen ≡ row_at m cell))

module _ (tables : List TableDecl) (m : TableState) where
  seen_goes : (cell : Cell) (p : Progress) (go : Option ℤ → Progress → Flow) (q : Progress) → with_seen tables m cell p go ≡ GoesOn q → (seen : Option ℤ) × (z : Progress) × Seen m cell p seen z × (go seen z ≡ GoesOn q)
  seen_goes cell p go q e = by_own (change_at p.changes cell) refl e
    where
      by_own : (own : Option (Option ℤ)) → change_at p.changes cell ≡ own → seen_or tables m own cell p go ≡ GoesOn q → (seen : Option ℤ) × (z : Progress) × Seen m cell p seen z × (go seen z ≡ GoesOn q)
      by_own (Some w) is e = (w, p, record { env = refl; changes = refl; how = inl (refl, is) }, e)
      by_own None is e = (row_at m cell, looked (look.One cell (row_at m cell)) p, record { env = refl; changes = refl; how = inr (refl, refl) }, e)

  -- a cell that was looked at is in an access whose kind fits what was found
  seen_part : (v : Assignment) (accesses : List Access) (p z q : Progress) (cell : Cell) (seen : Option ℤ) → Seen m cell p seen z → q.looks ≡ z.looks →
      (seen ≡ row_at m cell → Held accesses v cell (λ kind. FoundAs kind (HasRow m cell) (Changes q.changes cell))) → LookPart m v accesses p q
  seen_part v accesses p z q cell seen s e held = go s.how
    where
      go : ((z.looks ≡ p.looks) × (change_at p.changes cell ≡ Some seen)) ⊎ ((z.looks ≡ p.looks ++ look.One cell (row_at m cell) ∷ []) × (seen ≡ row_at m cell)) → LookPart m v accesses p q
      go (inl h) = look_same m v accesses p q (e ∙ h.0)
      go (inr h) = look_more m v accesses p q (look.One cell (row_at m cell)) (e ∙ h.0) (λ c is. subst (λ d. Held accesses v d (λ kind. FoundAs kind (HasRow m d) (Changes q.changes d))) (sym is) (held h.1))

-- ---- statements

abbrev Covers : Kind → Type 0
Covers kind = (kind ≡ Writes) ⊎ (kind ≡ Adds) ⊎ (kind ≡ Keeps)

none_covers : (a : Access) → (Covers a.kind → ⊥) → (b : Access) → IsMember b (a ∷ []) → MayCover b → ⊥
none_covers a bare b (inl e) k = bare (subst (λ (x : Access). Covers x.kind) (sym e) k.1)
none_covers a bare b (inr h) k = absurd h

only_one : (v : Assignment) (a : Access) (cell : Cell) → cell_under v a ≡ cell → (b : Access) → IsMember b (a ∷ []) → MayCover b → cell_under v b ≡ cell
only_one v a cell is b (inl e) k = subst (λ (x : Access). cell_under v x ≡ cell) e is
only_one v a cell is b (inr h) k = absurd h

reads_covers : Covers Reads → ⊥
reads_covers (inl e) = absurd (cc)
reads_covers (inr (inl e)) = absurd (cc)
reads_covers (inr (inr e)) = absurd (cc)

need_covers : (grow : Bool) → Covers (if grow then Sees else Reads) → ⊥
need_covers true (inl e) = absurd (cc)
need_covers true (inr (inl e)) = absurd (cc)
need_covers true (inr (inr e)) = absurd (cc)
need_covers false h = reads_covers h

lacks_covers : (grow : Bool) → Covers (if grow then Lacks else Reads) → ⊥
lacks_covers true (inl e) = absurd (cc)
lacks_covers true (inr (inl e)) = absurd (cc)
lacks_covers true (inr (inr e)) = absurd (cc)
lacks_covers false h = reads_covers h

need_found : (grow : Bool) (found changed : Type 0) → found → FoundAs (if grow then Sees else Reads) found changed
need_found true found changed h = inr (inl (refl, h))
need_found false found changed h = inl refl

lacks_found : (grow : Bool) (found changed : Type 0) → (found → ⊥) → FoundAs (if grow then Lacks else Reads) found changed
lacks_found true found changed h = inr (inr (inl (refl, h)))
lacks_found false found changed h = inl refl

is_there : (o : Option ℤ) (x : ℤ) → o ≡ Some x → is_some o ≡ true
is_there o x e = ap is_some e

is_not_there : (o : Option ℤ) → o ≡ None → is_some o ≡ true → ⊥
is_not_there o e h = absurd (cc)

module _ (tables : List TableDecl) (m : TableState) (params : List Name) (parameter : ℕ → ℤ) where
  -- a look at the cell of a key, and no change
  read_did : (number : ℕ) (st : StatementTree) (p z q : Progress) (table : Name) (key : KeyTree) (cell : Cell) (seen : Option ℤ) (kind : Kind) (more : Bindings) →
      ((u : ℕ) → columns_of params u st ≡ Some (key_columns params u key)) →
      ((u : ℕ) → accesses_of tables params u true number st ≡ access_at kind (number_of tables table) (key_columns params u key) number ∷ []) →
      cell_of (number_of tables table) key p.env ≡ Some cell → Seen m cell p seen z → (seen ≡ row_at m cell → FoundAs kind (HasRow m cell) (Changes q.changes cell)) → (Covers kind → ⊥) →
      q.env ≡ z.env ++ more → q.changes ≡ z.changes → q.looks ≡ z.looks →
      EnvFits params parameter p.env → EnvFits params parameter q.env → RemovesPlain tables p.changes → (StatementFits st → Ranged m p → EnvOfI64 q.env) → Did tables m params parameter number st p q
  read_did number st p z q table key cell seen kind more columns accesses is s found bare env same_changes same_looks fits fits_after removes ranged =
      let k = key_fits params parameter (number_of tables table) key p.env cell fits is in
      let changes : q.changes ≡ p.changes = same_changes ∙ s.changes in
      record {
        values = k.values;
        count = λ u. ap (next_unknown u) (columns u) ∙ k.count u;
        segment = λ f u h.
            let v = assigned params parameter f in
            let a = access_at kind (number_of tables table) (key_columns params u key) number in
            let at = k.fits f u h in
            subst (λ l. Segment m v l p q) (sym (accesses u))
            (segment_look m v (a ∷ []) p q
            (seen_part tables m v (a ∷ []) p z q cell seen s same_looks (λ r. (a, inl refl, is_of v kind (number_of tables table) (key_columns params u key) number cell at.holds, found r)))
            changes (none_covers a bare));
        more = more;
        env = env ∙ ap (λ l. l ++ more) s.env;
        fits = fits_after;
        removes = subst (RemovesPlain tables) (sym changes) removes;
        of_i64 = λ h r. (k.of_i64 r.env, record { rows = r.rows; env = ranged h r; changes = subst ChangesOfI64 (sym changes) r.changes });
      }

  -- what changes or keeps the cell of a key alone, and looks at nothing
  touch_did : (number : ℕ) (st : StatementTree) (p q : Progress) (table : Name) (key : KeyTree) (cell : Cell) (kind : Kind) →
      ((u : ℕ) → columns_of params u st ≡ Some (key_columns params u key)) →
      ((u : ℕ) → accesses_of tables params u true number st ≡ access_at kind (number_of tables table) (key_columns params u key) number ∷ []) →
      cell_of (number_of tables table) key p.env ≡ Some cell → q.env ≡ p.env → EnvFits params parameter p.env →
      ((v : Assignment) (columns : Columns) → CellAt v columns (number_of tables table) cell → Segment m v (access_at kind (number_of tables table) columns number ∷ []) p q) →
      (cell.table ≡ number_of tables table → RemovesPlain tables q.changes) → (StatementFits st → Ranged m p → ChangesOfI64 q.changes) → Did tables m params parameter number st p q
  touch_did number st p q table key cell kind columns accesses is env fits segment removes ranged =
      let k = key_fits params parameter (number_of tables table) key p.env cell fits is in
      record {
        values = k.values;
        count = λ u. ap (next_unknown u) (columns u) ∙ k.count u;
        segment = λ f u h.
            let v = assigned params parameter f in
            subst (λ l. Segment m v l p q) (sym (accesses u)) (segment v (key_columns params u key) (k.fits f u h));
        more = [];
        env = env ∙ sym (append-nil p.env);
        fits = subst (EnvFits params parameter) (sym env) fits;
        removes = removes (k.fits (nth k.values) 0 (agrees_nth k.values)).holds.table;
        of_i64 = λ h r. (k.of_i64 r.env, record { rows = r.rows; env = subst EnvOfI64 (sym env) r.env; changes = ranged h r });
      }

  -- a change of the cell of a key, and no look
  write_did : (number : ℕ) (st : StatementTree) (p q : Progress) (table : Name) (key : KeyTree) (cell : Cell) (w : Option ℤ) →
      ((u : ℕ) → columns_of params u st ≡ Some (key_columns params u key)) →
      ((u : ℕ) → accesses_of tables params u true number st ≡ access_at Writes (number_of tables table) (key_columns params u key) number ∷ []) →
      cell_of (number_of tables table) key p.env ≡ Some cell → q.env ≡ p.env → q.changes ≡ with_change p.changes cell w → q.looks ≡ p.looks →
      EnvFits params parameter p.env → (cell.table ≡ number_of tables table → RemovesPlain tables (with_change p.changes cell w)) → (StatementFits st → Ranged m p → IsI64Cell cell × MayBeI64 w) → Did tables m params parameter number st p q
  write_did number st p q table key cell w columns accesses is env changes looks fits removes ranged =
      touch_did number st p q table key cell Writes columns accesses is env fits
      (λ v cs at.
      let a = access_at Writes (number_of tables table) cs number in
      segment_change m v (a ∷ []) p q cell w (look_same m v (a ∷ []) p q looks) changes
      (a, inl refl, is_of v Writes (number_of tables table) cs number cell at.holds, inl refl)
      (only_one v a cell (cell_is_under v Writes (number_of tables table) cs number cell at)))
      (λ in_table. subst (RemovesPlain tables) (sym changes) (removes in_table))
      (λ h r. let k = ranged h r in subst ChangesOfI64 (sym changes) (changes_put p.changes cell w r.changes k.0 k.1))

  keep_did : (number : ℕ) (st : StatementTree) (p q : Progress) (table : Name) (key : KeyTree) (cell : Cell) →
      ((u : ℕ) → columns_of params u st ≡ Some (key_columns params u key)) →
      ((u : ℕ) → accesses_of tables params u true number st ≡ access_at Keeps (number_of tables table) (key_columns params u key) number ∷ []) →
      cell_of (number_of tables table) key p.env ≡ Some cell → q.env ≡ p.env → q.changes ≡ with_kept p.changes cell → q.looks ≡ p.looks →
      EnvFits params parameter p.env → RemovesPlain tables p.changes → Did tables m params parameter number st p q
  keep_did number st p q table key cell columns accesses is env changes looks fits removes =
      touch_did number st p q table key cell Keeps columns accesses is env fits
      (λ v cs at.
      let a = access_at Keeps (number_of tables table) cs number in
      segment_keep m v (a ∷ []) p q cell (look_same m v (a ∷ []) p q looks) changes
      (a, inl refl, is_of v Keeps (number_of tables table) cs number cell at.holds, refl)
      (only_one v a cell (cell_is_under v Keeps (number_of tables table) cs number cell at)))
      (λ in_table. subst (RemovesPlain tables) (sym changes) removes)
      (λ h r. subst ChangesOfI64 (sym changes) r.changes)

  -- ---- one by one

  bind_follows : (number : ℕ) (name : Name) (value : ExprTree) (p q : Progress) → run_statement tables m (s.Bind name value) p ≡ GoesOn q → IsApart params name → EnvFits params parameter p.env → RemovesPlain tables p.changes →
      Did tables m params parameter number (s.Bind name value) p q
  bind_follows number name value p q e apart fits removes =
      let c = value_goes (value_of value p.env) p (λ v. GoesOn (bound name v p)) q e in
      subst (Did tables m params parameter number (s.Bind name value) p) (goes_same (bound name c.0 p) q c.2)
      (record {
        values = [];
        count = λ u. omega arith;
        segment = λ f u h. segment_none m (assigned params parameter f) p (bound name c.0 p) refl refl;
        more = (name, c.0) ∷ [];
        env = refl;
        fits = fits_push params parameter p.env name c.0 apart fits;
        removes = removes;
        of_i64 = λ h r. (tt, record { rows = r.rows; env = env_push p.env name c.0 r.env (value_i64 value p.env c.0 r.env h c.1); changes = r.changes });
      })

  reply_follows : (number : ℕ) (value : ExprTree) (p q : Progress) → run_statement tables m (s.Reply value) p ≡ GoesOn q → EnvFits params parameter p.env → RemovesPlain tables p.changes →
      Did tables m params parameter number (s.Reply value) p q
  reply_follows number value p q e fits removes =
      let c = value_goes (value_of value p.env) p (λ v. GoesOn (replied v p)) q e in
      subst (Did tables m params parameter number (s.Reply value) p) (goes_same (replied c.0 p) q c.2)
      (record {
        values = [];
        count = λ u. omega arith;
        segment = λ f u h. segment_none m (assigned params parameter f) p (replied c.0 p) refl refl;
        more = [];
        env = sym (append-nil p.env);
        fits = fits;
        removes = removes;
        of_i64 = λ h r. (tt, record { rows = r.rows; env = r.env; changes = r.changes });
      })

  -- what is seen is a number of i64
  seen_i64 : (cell : Cell) (p : Progress) (seen : Option ℤ) (z : Progress) → Seen m cell p seen z → Ranged m p → (v : ℤ) → seen ≡ Some v → IsI64 v
  seen_i64 cell p seen z s r v e = go s.how
    where
      go : ((z.looks ≡ p.looks) × (change_at p.changes cell ≡ Some seen)) ⊎ ((z.looks ≡ p.looks ++ look.One cell (row_at m cell) ∷ []) × (seen ≡ row_at m cell)) → IsI64 v
      go (inl h) = change_i64 p.changes.cells cell v r.changes (h.1 ∙ ap (λ o. Some o) e)
      go (inr h) = row_i64 m cell v r.rows (sym h.1 ∙ e)

  option_or_i64 : (a b : Option ℤ) (x : ℤ) → option_or a b ≡ Some x → ((v : ℤ) → a ≡ Some v → IsI64 v) → (b ≡ Some x → IsI64 x) → IsI64 x
  option_or_i64 (Some v) b x e f g = f x e
  option_or_i64 None b x e f g = g e

  get_follows : (number : ℕ) (name table : Name) (key : KeyTree) (otherwise : ExprTree) (p q : Progress) → run_statement tables m (s.Get name table key otherwise) p ≡ GoesOn q → IsApart params name → EnvFits params parameter p.env → RemovesPlain tables p.changes →
      Did tables m params parameter number (s.Get name table key otherwise) p q
  get_follows number name table key otherwise p q e apart fits removes =
      let c = value_goes (cell_of (number_of tables table) key p.env) p _ q e in
      let d = seen_goes tables m c.0 p _ q c.2 in
      let x = value_goes (option_or d.0 (value_of otherwise d.1.env)) d.1 (λ v. GoesOn (bound name v (did (Read c.0 d.0) d.1))) q d.3 in
      let after = bound name x.0 (did (Read c.0 d.0) d.1) in
      subst (Did tables m params parameter number (s.Get name table key otherwise) p) (goes_same after q x.2)
      (read_did number (s.Get name table key otherwise) p d.1 after table key c.0 d.0 Reads ((name, x.0) ∷ []) (λ u. refl) (λ u. refl) c.1 d.2 (λ r. inl refl) reads_covers refl refl refl
      fits (fits_push params parameter d.1.env name x.0 apart (subst (EnvFits params parameter) (sym d.2.env) fits)) removes
      (λ h r. env_push d.1.env name x.0 (subst EnvOfI64 (sym d.2.env) r.env) (option_or_i64 d.0 (value_of otherwise d.1.env) x.0 x.1 (seen_i64 c.0 p d.0 d.1 d.2 r) (λ w. value_i64 otherwise d.1.env x.0 (subst EnvOfI64 (sym d.2.env) r.env) h w))))

  need_follows : (number : ℕ) (name table : Name) (key : KeyTree) (p q : Progress) → run_statement tables m (s.Need name table key) p ≡ GoesOn q → IsApart params name → EnvFits params parameter p.env → RemovesPlain tables p.changes →
      Did tables m params parameter number (s.Need name table key) p q
  need_follows number name table key p q e apart fits removes =
      let c = value_goes (cell_of (number_of tables table) key p.env) p _ q e in
      let d = seen_goes tables m c.0 p _ q c.2 in
      let x = present_goes d.0 (λ v. GoesOn (bound name v (did (Read c.0 d.0) d.1))) p q (Stops (Missing c.0) d.1) (λ r h. absurd (cc)) d.3 in
      let after = bound name x.0 (did (Read c.0 d.0) d.1) in
      let grow = grows (declaration tables table) in
      subst (Did tables m params parameter number (s.Need name table key) p) (goes_same after q x.2)
      (read_did number (s.Need name table key) p d.1 after table key c.0 d.0 (if grow then Sees else Reads) ((name, x.0) ∷ []) (λ u. refl) (λ u. refl) c.1 d.2
      (λ r. need_found grow (HasRow m c.0) (Changes after.changes c.0) (is_there (row_at m c.0) x.0 (sym r ∙ x.1))) (need_covers grow) refl refl refl
      fits (fits_push params parameter d.1.env name x.0 apart (subst (EnvFits params parameter) (sym d.2.env) fits)) removes
      (λ h r. env_push d.1.env name x.0 (subst EnvOfI64 (sym d.2.env) r.env) (seen_i64 c.0 p d.0 d.1 d.2 r x.0 x.1)))

  lacks_follows : (number : ℕ) (table : Name) (key : KeyTree) (p q : Progress) → run_statement tables m (s.Lacks table key) p ≡ GoesOn q → EnvFits params parameter p.env → RemovesPlain tables p.changes →
      Did tables m params parameter number (s.Lacks table key) p q
  lacks_follows number table key p q e fits removes =
      let c = value_goes (cell_of (number_of tables table) key p.env) p _ q e in
      let d = seen_goes tables m c.0 p _ q c.2 in
      let after = did (Read c.0 d.0) d.1 in
      let x = absent_goes d.0 (λ v. Stops (Present c.0) d.1) q (GoesOn after) (λ v r h. absurd (cc)) d.3 in
      let grow = grows (declaration tables table) in
      subst (Did tables m params parameter number (s.Lacks table key) p) (goes_same after q x.1)
      (read_did number (s.Lacks table key) p d.1 after table key c.0 d.0 (if grow then Lacks else Reads) [] (λ u. refl) (λ u. refl) c.1 d.2
      (λ r. lacks_found grow (HasRow m c.0) (Changes after.changes c.0) (is_not_there (row_at m c.0) (sym r ∙ x.0))) (lacks_covers grow) (sym (append-nil d.1.env)) refl refl
      fits (subst (EnvFits params parameter) (sym d.2.env) fits) removes (λ h r. subst EnvOfI64 (sym d.2.env) r.env))

  -- a new value removes no row
  set_removes : (changes : ChangeSet) (cell : Cell) (v : ℤ) → RemovesPlain tables changes → RemovesPlain tables (with_change changes cell (Some v))
  set_removes changes cell v removes c e = go (change_either changes cell (Some v) c (Some None) e)
    where
      go : ((c ≡ cell) × (Some None ≡ Some (Some v))) ⊎ (change_at changes c ≡ Some None) → (table : Name) → number_of tables table ≡ c.table → grows (declaration tables table) ≡ false
      go (inl h) = absurd (differ h.1)
        where
          differ : Some None ≡ Some (Some v) → ⊥
          differ k = cc
      go (inr h) = removes c h

  put_follows : (number : ℕ) (table : Name) (key : KeyTree) (value : ExprTree) (p q : Progress) → run_statement tables m (s.Put table key value) p ≡ GoesOn q → EnvFits params parameter p.env → RemovesPlain tables p.changes →
      Did tables m params parameter number (s.Put table key value) p q
  put_follows number table key value p q e fits removes =
      let c = value_goes (cell_of (number_of tables table) key p.env) p _ q e in
      let x = value_goes (value_of value p.env) p (λ v. GoesOn (did (Put c.0 v) (wrote c.0 (Some v) p))) q c.2 in
      let after = did (Put c.0 x.0) (wrote c.0 (Some x.0) p) in
      subst (Did tables m params parameter number (s.Put table key value) p) (goes_same after q x.2)
      (write_did number (s.Put table key value) p after table key c.0 (Some x.0) (λ u. refl) (λ u. refl) c.1 refl refl refl fits (λ same. set_removes p.changes c.0 x.0 removes)
      (λ h r. (cell_i64 (number_of tables table) key p.env c.0 r.env h.0 c.1, value_i64 value p.env x.0 r.env h.1 x.1)))

  abbrev removal : Option (Option ℤ)
  removal = Some None

  -- a row removed from a plain table
  delete_removes : (changes : ChangeSet) (cell : Cell) (table : Name) → cell.table ≡ number_of tables table → grows (declaration tables table) ≡ false → RemovesPlain tables changes → RemovesPlain tables (with_change changes cell None)
  delete_removes changes cell table at plain removes c e = go (change_either changes cell None c removal e)
    where
      go : ((c ≡ cell) × (removal ≡ removal)) ⊎ (change_at changes c ≡ Some None) → (other : Name) → number_of tables other ≡ c.table → grows (declaration tables other) ≡ false
      go (inl h) other same = same_growth tables other table (same ∙ ap (λ (d : Cell). d.table) h.0 ∙ at) ∙ plain
      go (inr h) other same = removes c h other same

  delete_follows : (number : ℕ) (table : Name) (key : KeyTree) (p q : Progress) → run_statement tables m (s.Delete table key) p ≡ GoesOn q → grows (declaration tables table) ≡ false → EnvFits params parameter p.env → RemovesPlain tables p.changes →
      Did tables m params parameter number (s.Delete table key) p q
  delete_follows number table key p q e plain fits removes =
      let c = value_goes (cell_of (number_of tables table) key p.env) p (λ cell. GoesOn (did (Removed cell) (wrote cell None p))) q e in
      let after = did (Removed c.0) (wrote c.0 None p) in
      subst (Did tables m params parameter number (s.Delete table key) p) (goes_same after q c.2)
      (write_did number (s.Delete table key) p after table key c.0 None (λ u. refl) (λ u. refl) c.1 refl refl refl fits (λ same. delete_removes p.changes c.0 table same plain removes)
      (λ h r. (cell_i64 (number_of tables table) key p.env c.0 r.env h c.1, tt)))

  keep_follows : (number : ℕ) (table : Name) (key : KeyTree) (p q : Progress) → run_statement tables m (s.Keep table key) p ≡ GoesOn q → EnvFits params parameter p.env → RemovesPlain tables p.changes →
      Did tables m params parameter number (s.Keep table key) p q
  keep_follows number table key p q e fits removes =
      let c = value_goes (cell_of (number_of tables table) key p.env) p (λ cell. GoesOn (did (Kept cell) (keeps cell p))) q e in
      let after = did (Kept c.0) (keeps c.0 p) in
      subst (Did tables m params parameter number (s.Keep table key) p) (goes_same after q c.2)
      (keep_did number (s.Keep table key) p after table key c.0 (λ u. refl) (λ u. refl) c.1 refl refl refl fits removes)

  -- ---- insert

  insert_follows : (number : ℕ) (table : Name) (key : KeyTree) (value : ExprTree) (p q : Progress) → run_statement tables m (s.Insert table key value) p ≡ GoesOn q → EnvFits params parameter p.env → RemovesPlain tables p.changes →
      Did tables m params parameter number (s.Insert table key value) p q
  insert_follows number table key value p q e fits removes =
      let c = value_goes (cell_of (number_of tables table) key p.env) p _ q e in
      let x = value_goes (value_of value p.env) p _ q c.2 in
      let d = seen_goes tables m c.0 p _ q x.2 in
      let after = did (Put c.0 x.0) (wrote c.0 (Some x.0) d.1) in
      let g = absent_goes d.0 (λ w. Stops (Present c.0) d.1) q (GoesOn after) (λ w r h. absurd (cc)) d.3 in
      subst (Did tables m params parameter number (s.Insert table key value) p) (goes_same after q g.1) (inserted c.0 x.0 d.0 d.1 c.1 d.2 g.0 x.1)
    where
      inserted : (cell : Cell) (v : ℤ) (seen : Option ℤ) (z : Progress) → cell_of (number_of tables table) key p.env ≡ Some cell → Seen m cell p seen z → seen ≡ None → value_of value p.env ≡ Some v →
          Did tables m params parameter number (s.Insert table key value) p (did (Put cell v) (wrote cell (Some v) z))
      inserted cell v seen z is h none worth =
          let k = key_fits params parameter (number_of tables table) key p.env cell fits is in
          record {
            values = k.values;
            count = k.count;
            segment = λ f u agrees. by_growth (assigned params parameter f) (key_columns params u key) (k.fits f u agrees) (grows (declaration tables table)) refl;
            more = [];
            env = h.env ∙ sym (append-nil p.env);
            fits = subst (EnvFits params parameter) (sym h.env) fits;
            removes = subst (RemovesPlain tables) (λ i. with_change (sym h.changes i) cell (Some v)) (set_removes p.changes cell v removes);
            of_i64 = λ ok r. (k.of_i64 r.env, record { rows = r.rows; env = subst EnvOfI64 (sym h.env) r.env; changes = subst ChangesOfI64 (λ i. with_change (sym h.changes i) cell (Some v)) (changes_put p.changes cell (Some v) r.changes (cell_i64 (number_of tables table) key p.env cell r.env ok.0 is) (value_i64 value p.env v r.env ok.1 worth)) });
          }
        where
          -- in a grow table no row was ever removed, so the cell was looked at
          not_found : cell.table ≡ number_of tables table → grows (declaration tables table) ≡ true → HasRow m cell → ⊥
          not_found at grow found = go h.how
            where
              go : ((z.looks ≡ p.looks) × (change_at p.changes cell ≡ Some seen)) ⊎ ((z.looks ≡ p.looks ++ look.One cell (row_at m cell) ∷ []) × (seen ≡ row_at m cell)) → ⊥
              go (inl w) = absurd (true≢false (sym grow ∙ removes cell (w.1 ∙ ap (λ o. Some o) none) table (sym at)))
              go (inr w) = is_not_there (row_at m cell) (sym w.1 ∙ none) found

          two_only : (v : Assignment) (a b : Access) → cell_under v a ≡ cell → cell_under v b ≡ cell → (x : Access) → IsMember x (a ∷ b ∷ []) → MayCover x → cell_under v x ≡ cell
          two_only v a b ia ib x (inl e) k = subst (λ (y : Access). cell_under v y ≡ cell) e ia
          two_only v a b ia ib x (inr (inl e)) k = subst (λ (y : Access). cell_under v y ≡ cell) e ib
          two_only v a b ia ib x (inr (inr e)) k = absurd e

          by_growth : (a : Assignment) (columns : Columns) → CellAt a columns (number_of tables table) cell → (grow : Bool) → grows (declaration tables table) ≡ grow →
              Segment m a (map (λ kind. access_at kind (number_of tables table) columns number) (if grow then Adds ∷ [] else Reads ∷ Writes ∷ [])) p (did (Put cell v) (wrote cell (Some v) z))
          by_growth a columns at true grow =
              let after = did (Put cell v) (wrote cell (Some v) z) in
              let adds = access_at Adds (number_of tables table) columns number in
              let missing = not_found at.holds.table grow in
              segment_change m a (adds ∷ []) p after cell (Some v)
              (seen_part tables m a (adds ∷ []) p z after cell seen h refl (λ r. (adds, inl refl, is_of a Adds (number_of tables table) columns number cell at.holds, inr (inr (inr (refl, missing, changes_here z.changes cell (Some v)))))))
              (λ i. with_change (h.changes i) cell (Some v))
              (adds, inl refl, is_of a Adds (number_of tables table) columns number cell at.holds, inr (refl, missing))
              (only_one a adds cell (cell_is_under a Adds (number_of tables table) columns number cell at))
          by_growth a columns at false grow =
              let after = did (Put cell v) (wrote cell (Some v) z) in
              let reads = access_at Reads (number_of tables table) columns number in
              let writes = access_at Writes (number_of tables table) columns number in
              segment_change m a (reads ∷ writes ∷ []) p after cell (Some v)
              (seen_part tables m a (reads ∷ writes ∷ []) p z after cell seen h refl (λ r. (reads, inl refl, is_of a Reads (number_of tables table) columns number cell at.holds, inl refl)))
              (λ i. with_change (h.changes i) cell (Some v))
              (writes, inr (inl refl), is_of a Writes (number_of tables table) columns number cell at.holds, inl refl)
              (two_only a reads writes (cell_is_under a Reads (number_of tables table) columns number cell at) (cell_is_under a Writes (number_of tables table) columns number cell at))

  -- ---- ranges

  range_did : (number : ℕ) (st : StatementTree) (p q : Progress) (table : Name) (range : RangeTree) (region : Region) (own : List Cell) (rows : TableState) (more : Bindings) →
      ((u : ℕ) → columns_of params u st ≡ Some (range_columns params u range)) →
      ((u : ℕ) → accesses_of tables params u true number st ≡ access_at Reads (number_of tables table) (range_columns params u range) number ∷ []) →
      region_of (number_of tables table) range p.env ≡ Some region →
      q.env ≡ p.env ++ more → q.changes ≡ p.changes → q.looks ≡ p.looks ++ look.Range region own rows ∷ [] →
      EnvFits params parameter p.env → EnvFits params parameter q.env → RemovesPlain tables p.changes → (Ranged m p → EnvOfI64 q.env) → Did tables m params parameter number st p q
  range_did number st p q table range region own rows more columns accesses is env changes looks fits fits_after removes ranged =
      let k = range_fits params parameter (number_of tables table) range p.env region fits is in
      record {
        values = k.values;
        count = λ u. ap (next_unknown u) (columns u) ∙ k.count u;
        segment = λ f u h.
            let v = assigned params parameter f in
            let a = access_at Reads (number_of tables table) (range_columns params u range) number in
            subst (λ l. Segment m v l p q) (sym (accesses u))
            (segment_look m v (a ∷ []) p q
            (look_more m v (a ∷ []) p q (look.Range region own rows) looks (λ c inside. (a, inl refl, is_of v Reads (number_of tables table) (range_columns params u range) number c (k.fits f u h c inside.0), inl refl)))
            changes (none_covers a reads_covers));
        more = more;
        env = env;
        fits = fits_after;
        removes = subst (RemovesPlain tables) (sym changes) removes;
        of_i64 = λ h r. (k.of_i64 r.env, record { rows = r.rows; env = ranged r; changes = subst ChangesOfI64 (sym changes) r.changes });
      }

  -- a statement that binds a number which the rows of a range come to
  scan_follows : (number : ℕ) (st : StatementTree) (name table : Name) (range : RangeTree) (total : TableState → ℤ) (deed : Region → ℤ → Deed) (p q : Progress) →
      ((u : ℕ) → columns_of params u st ≡ Some (range_columns params u range)) →
      ((u : ℕ) → accesses_of tables params u true number st ≡ access_at Reads (number_of tables table) (range_columns params u range) number ∷ []) →
      in_range tables m table range p (λ region. with_rows tables m region p (λ rows z. with_value (exact (total rows)) z (λ v. GoesOn (bound name v (did (deed region v) z))))) ≡ GoesOn q →
      IsApart params name → EnvFits params parameter p.env → RemovesPlain tables p.changes → Did tables m params parameter number st p q
  scan_follows number st name table range total deed p q columns accesses e apart fits removes =
      let c = value_goes (region_of (number_of tables table) range p.env) p _ q e in
      let own = own_cells c.0 p.changes.cells in
      let rows = rows_left c.0 own m in
      let seen = rows_seen c.0 p.changes.cells rows in
      let z = looked (look.Range c.0 own rows) p in
      let x = value_goes (exact (total seen)) z (λ v. GoesOn (bound name v (did (deed c.0 v) z))) q c.2 in
      let after = bound name x.0 (did (deed c.0 x.0) z) in
      subst (Did tables m params parameter number st p) (goes_same after q x.2)
      (range_did number st p after table range c.0 own rows ((name, x.0) ∷ []) columns accesses c.1 refl refl refl fits (fits_push params parameter p.env name x.0 apart fits) removes
      (λ r. env_push p.env name x.0 r.env (exact_i64 (total seen) x.0 x.1)))

  count_follows : (number : ℕ) (name table : Name) (range : RangeTree) (p q : Progress) → run_statement tables m (s.Count name table range) p ≡ GoesOn q → IsApart params name → EnvFits params parameter p.env → RemovesPlain tables p.changes →
      Did tables m params parameter number (s.Count name table range) p q
  count_follows number name table range p q e apart fits removes = scan_follows number (s.Count name table range) name table range (λ rows. pos (length rows)) Counted p q (λ u. refl) (λ u. refl) e apart fits removes

  sum_follows : (number : ℕ) (name table : Name) (range : RangeTree) (p q : Progress) → run_statement tables m (s.Sum name table range) p ≡ GoesOn q → IsApart params name → EnvFits params parameter p.env → RemovesPlain tables p.changes →
      Did tables m params parameter number (s.Sum name table range) p q
  sum_follows number name table range p q e apart fits removes = scan_follows number (s.Sum name table range) name table range total_of Summed p q (λ u. refl) (λ u. refl) e apart fits removes

  -- the listing of an `each`
  pub listing_follows : ListingFollows tables m params parameter
  listing_follows number l region p is fits removes =
      range_did number (as_count l) p (listed m region p) l.table l.range region (own_cells region p.changes.cells) (rows_left region (own_cells region p.changes.cells) m) [] (λ u. refl) (λ u. refl) is (sym (append-nil p.env)) refl refl fits fits removes (λ r. r.env)

  -- ---- all of them

  pub statement_follows : StatementFollows tables m params parameter
  statement_follows number (s.Bind name value) p q e sound fits removes = bind_follows number name value p q e sound.0 fits removes
  statement_follows number (s.Get name table key otherwise) p q e sound fits removes = get_follows number name table key otherwise p q e sound.0 fits removes
  statement_follows number (s.Need name table key) p q e sound fits removes = need_follows number name table key p q e sound.0 fits removes
  statement_follows number (s.Count name table range) p q e sound fits removes = count_follows number name table range p q e sound.0 fits removes
  statement_follows number (s.Sum name table range) p q e sound fits removes = sum_follows number name table range p q e sound.0 fits removes
  statement_follows number (s.Lacks table key) p q e sound fits removes = lacks_follows number table key p q e fits removes
  statement_follows number (s.Put table key value) p q e sound fits removes = put_follows number table key value p q e fits removes
  statement_follows number (s.Insert table key value) p q e sound fits removes = insert_follows number table key value p q e fits removes
  statement_follows number (s.Delete table key) p q e sound fits removes = delete_follows number table key p q e sound.1 fits removes
  statement_follows number (s.Keep table key) p q e sound fits removes = keep_follows number table key p q e fits removes
  statement_follows number (s.Reply value) p q e sound fits removes = reply_follows number value p q e fits removes
  statement_follows number s.Abort p q e sound fits removes = absurd (cc)
