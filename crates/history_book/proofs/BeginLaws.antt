-- Begins at a number.
use Rattle.std.proofs.Common.{◌≡◌, ℕ, ◌+◌, ◌<◌, ◌≤◌, ◌==◌, nat_lt, Bool, true, false, cond, leb, true≢false, ◌⊎◌, inl, inr, if◌then◌else◌, List, [], ◌∷◌, ◌++◌, length, refl, ap, sym, ◌∙◌, arith}
use Rattle.std.specs.Prelude.{All, Option, Some, None, ℤ, nat_le, not, ◌||◌, slice_get}
use Rattle.std.specs.BTreeMap.{insert_entry}
use Rattle.std.specs.List.Sorted.{IsStrictlySortedBy}
use Rattle.std.specs.Map.{keys_of}
use Rattle.std.specs.Option.{option_map, option_or}
use Rattle.std.specs.Ordering.{nat_cmp}
use Rattle.std.proofs.lemmas.Bool.Decides.{nat_tests, leb_tells}
use Rattle.std.proofs.lemmas.List.Elements.{All-weaker}
use Rattle.std.proofs.lemmas.Option.{slice_get-map}
use Rattle.std.proofs.lemmas.Bool.{eq-eqb, ltb-false}
use Rattle.prog_tree.specs.declared.program.Program.{Program}
use Rattle.prog_tree.specs.Number.{IsI64}
use Rattle.prog_tree.specs.Syntax.{ProgramTree}
use Rattle.prog_tree.specs.Tree.{program_tree, draft_tree}
use Rattle.history_book.specs.History.{Instance, IsCalled}
use Rattle.history_book.specs.TrueBook.{IsTrueActive, IsTrueBook}
use Rattle.history_book.specs.View.{BookView, most_begins, is_full, full_fault, start_fault, fault_at, begin_at_fault_of, instance_at, most_endings}
use Rattle.history_book.specs.declared.fault.BeginFault.{BeginFault}
use Rattle.history_book.specs.declared.fault.BeginFault.TheVariants as begin
use Rattle.history_book.proofs.ActiveLaws.{Entry, insert_last}
use Rattle.history_book.proofs.BookLaws.{true-begin}

-- ---- what is wrong with a begin

-- a program that was found and fits is refused by its start, or for want of room
pub fault_found : (v : BookView) (start : ℕ) (found : Option Program) (p : Program) (args : List ℤ) → found ≡ Some p → length p.params.items ≡ length args →
    fault_at v start found args ≡ option_or (start_fault v start) (full_fault v)
fault_found v start found p args is same =
    ap (λ (f : Option Program). fault_at v start f args) is
    ∙ ap (λ b. if not b then Some begin.WrongArguments else option_or (start_fault v start) (full_fault v)) (eq-eqb (length p.params.items) (length args) same)

-- ---- a begin that nothing is wrong with

-- its program has as many parameters, its start is one of the book's, and there is room
pub record IsAllowed (v : BookView) (start program : ℕ) (args : List ℤ) : Type 0 where
  pub called : (p : ProgramTree) × (slice_get (draft_tree v.set).programs program ≡ Some p) × (length p.params ≡ length args)
  pub above : v.floor ≤ start
  pub within : start ≤ length v.rows
  pub room : is_full v ≡ false

pub allowed : (v : BookView) (start program : ℕ) (args : List ℤ) → begin_at_fault_of v start program args ≡ None → IsAllowed v start program args
allowed v start program args none = go (slice_get v.set.programs.items program) refl none
  where
    by_room : (b : Bool) → is_full v ≡ b → cond b (Some begin.Full) None ≡ None → is_full v ≡ false
    by_room true is h = absurd (cc)
    by_room false is h = is

    by_commits : (b : Bool) → nat_lt (length v.rows) start ≡ b → option_or (cond b (Some (begin.TooNew (length v.rows))) None) (full_fault v) ≡ None →
        (start ≤ length v.rows) × (is_full v ≡ false)
    by_commits true is h = absurd (cc)
    by_commits false is h = (ltb-false (length v.rows) start is, by_room (is_full v) refl h)

    by_floor : (b : Bool) → nat_lt start v.floor ≡ b →
        option_or (cond b (Some (begin.TooOld v.floor)) (cond (nat_lt (length v.rows) start) (Some (begin.TooNew (length v.rows))) None)) (full_fault v) ≡ None →
        (v.floor ≤ start) × (start ≤ length v.rows) × (is_full v ≡ false)
    by_floor true is h = absurd (cc)
    by_floor false is h = let rest = by_commits (nat_lt (length v.rows) start) refl h in (ltb-false start v.floor is, rest.0, rest.1)

    by_length : (p : Program) → slice_get v.set.programs.items program ≡ Some p → (b : Bool) → (length p.params.items == length args) ≡ b →
        cond (not b) (Some begin.WrongArguments) (option_or (start_fault v start) (full_fault v)) ≡ None → IsAllowed v start program args
    by_length p is true fits h =
        let same : length p.params.items ≡ length args = grind (arith, nat_tests) in
        let rest = by_floor (nat_lt start v.floor) refl h in
        record {
          called = (program_tree p, slice_get-map program_tree v.set.programs.items program ∙ ap (option_map program_tree) is, same);
          above = rest.0;
          within = rest.1;
          room = rest.2;
        }
    by_length p is false fits h = absurd (cc)

    go : (o : Option Program) → slice_get v.set.programs.items program ≡ o → fault_at v start o args ≡ None → IsAllowed v start program args
    go None is h = absurd (cc)
    go (Some p) is h = by_length p is (length p.params.items == length args) refl h

-- ---- the book after a begin

-- the next number is above those of all active instances
pub below_begun : (v : BookView) → IsTrueBook v → All (λ entry. entry.0 < v.begun) v.active
below_begun v book = All-weaker (IsTrueActive v) (λ entry. entry.0 < v.begun) (λ entry old. old.number) v.active book.active

-- the active instances
pub begun-active : (v : BookView) (start program : ℕ) (args given : List ℤ) (active : List Entry) → IsTrueBook v → given ≡ args →
    active ≡ insert_entry nat_cmp v.active v.begun (record { program = program; args = given; start = start }) →
    active ≡ v.active ++ (v.begun, instance_at start program args) ∷ []
begun-active v start program args given active book same is =
    let i : Instance = record { program = program; args = given; start = start } in
    let next : i ≡ instance_at start program args = λ k. record { program = program; args = same k; start = start } in
    is ∙ insert_last v.active v.begun i (below_begun v book) ∙ ap (λ x. v.active ++ (v.begun, x) ∷ []) next

pub true-admitted :
    (v : BookView) (start program : ℕ) (args : List ℤ) (active : List Entry) → IsTrueBook v → begin_at_fault_of v start program args ≡ None → All IsI64 args →
    active ≡ v.active ++ (v.begun, instance_at start program args) ∷ [] → IsStrictlySortedBy nat_cmp (keys_of active) →
    IsTrueBook (record v { active = active; begun = v.begun + 1 })
true-admitted v start program args active book none i64 is by_number =
    let may = allowed v start program args none in
    let called : IsCalled (draft_tree v.set) (instance_at start program args) = (may.called.0, may.called.1, may.called.2, i64) in
    true-begin v (instance_at start program args) active book called may.above may.within
    (few_enough (length v.endings + length v.active) (nat_le most_begins v.begun) may.room) is by_number
  where
    few_enough : (n : ℕ) (b : Bool) → (nat_le most_endings n || b) ≡ false → n < most_endings
    few_enough n b room = go (leb_tells most_endings n) room
      where
        go : ((leb most_endings n ≡ true) × (most_endings ≤ n)) ⊎ ((leb most_endings n ≡ false) × (n < most_endings)) → (nat_le most_endings n || b) ≡ false → n < most_endings
        go (inl more) h = absurd (true≢false (sym (ap (λ x. x || b) more.0) ∙ h))
        go (inr less) h = less.1
