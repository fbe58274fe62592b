-- Each evaluation that ends Ready follows exactly one committing path of its program, under an assignment with its arguments.
use Rattle.std.proofs.Common.{◌≡◌, ℕ, zero, suc, Bool, true, false, List, [], ◌∷◌, ◌⊎◌, inl, inr, zip, refl, sym, subst, ap, ◌∙◌, arith}
use Rattle.std.specs.Prelude.{ℤ, Option, Some, None, slice_get, if◌then◌else◌}
use Rattle.std.specs.Option.{option_or}
use Rattle.std.proofs.lemmas.Option.{same_Some}
use Rattle.prog_tree.specs.declared.cell.Cell.{Cell}
use Rattle.prog_tree.specs.declared.deed.End.TheVariants.{Ready}
use Rattle.prog_tree.specs.declared.progress.Progress.{Progress}
use Rattle.prog_tree.specs.declared.table.TableDecl.{TableDecl}
use Rattle.prog_tree.specs.Syntax.{Name, ProgramTree}
use Rattle.prog_tree.specs.Table.{TableState}
use Rattle.prog_tree.specs.ChangeSet.{no_changes}
use Rattle.prog_tree.specs.Evaluation.{Flow, GoesOn, Stops, run_block, as_evaluation, ended, at_start, eval}
use Rattle.prog_check.specs.declared.path.Kind.{Kind}
use Rattle.prog_check.specs.declared.path.Kind.TheVariants.{Keeps}
use Rattle.prog_check.specs.declared.path.Access.{Access}
use Rattle.prog_check.specs.declared.path.Path.{Path}
use Rattle.prog_check.specs.Paths.{routes, path_of, program_paths}
use Rattle.prog_paths.specs.Meeting.{Assignment}
use Rattle.prog_paths.specs.Law.{FollowsPath}
use Rattle.prog_tree.specs.Number.{IsI64}
use Rattle.prog_paths.proofs.Numbers.{AllI64, RowsOfI64, BlockFits}
use Rattle.prog_paths.proofs.Ranges.{nth_i64, EnvOfI64, Ranged}
use Rattle.prog_tree.specs.Value.{same_name, value_in}
use Rattle.prog_paths.specs.Choices.{program_choices}
use Rattle.prog_paths.specs.Follows.{LooksAt, Changes, KeepsCell, HasRow, FoundAs, ChangedAs, Touch, Follows}
use Rattle.prog_tree.proofs.Elements.{IsMember, member_map, contains_at, place_of, member_from_contains, contains_from_member}
use Rattle.prog_paths.proofs.Segments.{Held, Segment}
use Rattle.prog_paths.proofs.Values.{nth, agrees_nth, EnvFits, assigned, BlockSound}
use Rattle.prog_paths.proofs.Blocks.{block_follows}
use Rattle.prog_paths.proofs.Statements.{statement_follows, listing_follows}
use Rattle.prog_paths.proofs.Distinct.{one_path}

-- ---- members by their numbers

pub place_of_member : {A : Type 0} (xs : List A) (x : A) → IsMember x xs → (n : ℕ) × (slice_get xs n ≡ Some x)
place_of_member xs x h = place_of xs x (contains_from_member xs x h)

pub member_at : {A : Type 0} (xs : List A) (n : ℕ) (x : A) → slice_get xs n ≡ Some x → IsMember x xs
member_at xs n x at = member_from_contains xs x (contains_at xs n x at)

touch_of : (accesses : List Access) (v : Assignment) (c : Cell) (fits : Kind → Type 0) → Held accesses v c fits → Touch accesses v c fits
touch_of accesses v c fits h = let r = place_of_member accesses h.0 h.1 in (r.0, h.0, r.1, h.2, h.3)

-- from the start on, all that was looked at, changed and kept is in the path's accesses
whole : (m : TableState) (path : Path) (v : Assignment) (p q : Progress) → p.looks ≡ [] → p.changes ≡ no_changes → Segment m v path.accesses p q → Follows m path v (as_evaluation Ready q)
whole m path v p q no_looks none s =
    record {
      look = λ c h. look c (s.look c h);
      change = λ c h. change c (s.change c h);
      keep = λ c h. keep c (s.keep c h);
      touched = λ n a at k. s.touched a (member_at path.accesses n a at) k;
    }
  where
    look : (c : Cell) → LooksAt p.looks c ⊎ Held path.accesses v c (λ kind. FoundAs kind (HasRow m c) (Changes q.changes c)) → Touch path.accesses v c (λ kind. FoundAs kind (HasRow m c) (Changes q.changes c))
    look c (inl h) = let looked = subst (λ ls. LooksAt ls c) no_looks h in let inside = looked.1.1 in absurd (omega (arith, inside))
    look c (inr h) = touch_of path.accesses v c (λ kind. FoundAs kind (HasRow m c) (Changes q.changes c)) h

    change : (c : Cell) → Changes p.changes c ⊎ Held path.accesses v c (λ kind. ChangedAs kind (HasRow m c)) → Touch path.accesses v c (λ kind. ChangedAs kind (HasRow m c))
    change c (inl h) = absurd (unchanged c (subst (λ s. Changes s c) none h))
      where
        unchanged : (c : Cell) → Changes no_changes c → ⊥
        unchanged c e = cc
    change c (inr h) = touch_of path.accesses v c (λ kind. ChangedAs kind (HasRow m c)) h

    keep : (c : Cell) → KeepsCell p.changes c ⊎ Held path.accesses v c (λ kind. kind ≡ Keeps) → Touch path.accesses v c (λ kind. kind ≡ Keeps)
    keep c (inl h) = absurd (unkept c (subst (λ s. KeepsCell s c) none h))
      where
        unkept : (c : Cell) → KeepsCell no_changes c → ⊥
        unkept c e = cc
    keep c (inr h) = touch_of path.accesses v c (λ kind. kind ≡ Keeps) h

-- ---- programs

pub goes_on : (f : Flow) → (ended f).ending ≡ Ready → (q : Progress) × (f ≡ GoesOn q)
goes_on (GoesOn q) e = (q, refl)
goes_on (Stops cause q) e = absurd (cc)

-- what is asked of a program: no name is given again that is a parameter's, rows are deleted from plain tables alone, and
-- each parameter's name has its argument at the start
pub record ProgramSound (tables : List TableDecl) (program : ProgramTree) (args : List ℤ) : Type 0 where
  pub body : BlockSound tables program.params program.body
  pub arguments : EnvFits program.params (nth args) (zip program.params args)

nth_at : (args : List ℤ) (i : ℕ) (x : ℤ) → slice_get args i ≡ Some x → nth args i ≡ x
nth_at [] i x e = absurd (cc)
nth_at (a ∷ as_) zero x e = cc
nth_at (a ∷ as_) (suc i) x e = nth_at as_ i x e

zip_i64 : (params : List Name) (args : List ℤ) → AllI64 args → EnvOfI64 (zip params args)
zip_i64 [] args h x z e = absurd (cc)
zip_i64 (p ∷ ps) [] h x z e = absurd (cc)
zip_i64 (p ∷ ps) (a ∷ as_) h x z e = go (value_in (zip ps as_) x) refl (same_name p x) (zip_i64 ps as_ h.1 x z) e
  where
    go : (o : Option ℤ) → value_in (zip ps as_) x ≡ o → (b : Bool) → (value_in (zip ps as_) x ≡ Some z → IsI64 z) → option_or o (if b then Some a else None) ≡ Some z → IsI64 z
    go (Some w) is b later k = later (is ∙ k)
    go None is true later k = subst IsI64 (same_Some a z k) h.0
    go None is false later k = absurd (cc)

pub program_follows : (tables : List TableDecl) (number : ℕ) (program : ProgramTree) (args : List ℤ) (m : TableState) → ProgramSound tables program args → AllI64 args → RowsOfI64 m → BlockFits program.body →
    (eval tables program args m).ending ≡ Ready → FollowsPath tables number program args m
program_follows tables number program args m sound args_fit rows body ready =
    let g = goes_on (run_block tables m program.body (at_start program args)) ready in
    let t = block_follows tables m program.params (nth args) (statement_follows tables m program.params (nth args)) (listing_follows tables m program.params (nth args)) 0 program.body (at_start program args) g.0 g.1 sound.body sound.arguments (λ c e. absurd (cc)) in
    let path = path_of tables number program.params t.route in
    let r = place_of_member (program_paths tables number program) path (member_map (path_of tables number program.params) t.route (routes 0 program.body) t.of_block) in
    let ranged : Ranged m (at_start program args) = record { rows = rows; env = zip_i64 program.params args args_fit; changes = tt } in
    let numbers = t.of_i64 body ranged in
    record {
      place = r.0;
      path = path;
      at = r.1;
      chosen = t.chosen;
      v = assigned program.params (nth args) (nth t.values);
      arguments = nth_at args;
      of_i64 = record { parameter = nth_i64 args args_fit; unknown = nth_i64 t.values numbers.0 };
      follows = subst (Follows m path (assigned program.params (nth args) (nth t.values))) (ap ended (sym g.1)) (whole m path (assigned program.params (nth args) (nth t.values)) (at_start program args) g.0 refl refl (t.segment body ranged (nth t.values) 0 (agrees_nth t.values)));
    }

-- and it is the only one
pub only_path : (tables : List TableDecl) (number : ℕ) (program : ProgramTree) (args : List ℤ) (m : TableState) (f : FollowsPath tables number program args m) (j : ℕ) (q : Path) → slice_get (program_paths tables number program) j ≡ Some q → q.choices ≡ program_choices tables program args m → j ≡ f.place
only_path tables number program args m f j q at same = one_path tables number program j f.place q f.path at f.at (same ∙ sym f.chosen)
