-- What a store knows of itself: its versions rise, no number is above that of its last commit, and its blocks are true from its floor on.
use Rattle.std.proofs.Common.{◌≡◌, ◌∙◌, ℕ, suc, ◌+◌, ◌≤◌, ◌<◌, inl, inr, Bool, true, false, cond, if◌then◌else◌, List, [], ◌∷◌, ◌++◌, refl, ap, sym, subst, arith}
use Rattle.std.specs.Prelude.{ℤ, Option, Some, None, IfSome, filter, nat_lt}
use Rattle.std.proofs.lemmas.Bool.{le-leb}
use Rattle.std.proofs.lemmas.Bool.Decides.{nat_tests}
use Rattle.std.proofs.lemmas.List.Elements.{filter-append}
use Rattle.prog_tree.specs.declared.cell.Cell.{Cell}
use Rattle.prog_tree.specs.declared.cell.Region.{Region}
use Rattle.prog_tree.specs.ChangeSet.{ChangeSet, change_at}
use Rattle.prog_tree.specs.Table.{Cells, is_cell_among, is_in}
use Rattle.version_store.specs.declared.block.RowBlock.{RowBlock}
use Rattle.version_store.specs.declared.block.Slot.{Slot}
use Rattle.version_store.specs.Blocks.{IsTrueBlock, AreTrue}
use Rattle.version_store.specs.Reading.{AllRise, AreBelow, IsBelow, MakesEach, MayBeTrimmed, MayTrim, RisesFrom, chain_at, value_at, version_number, with_change_by, with_commit, with_mark_by}
use Rattle.version_store.specs.Regions.{seen_in, IsSeen}
use Rattle.version_store.specs.StandsFor.{VersionChain}
use Rattle.version_store.proofs.BlockLaws.{all_true}
use Rattle.version_store.proofs.TrimLaws.{filtered_rest, trimmed_below, trimmed_rises, value_trimmed}

-- ---- a commit

-- numbers below n are below the next one too
below_more : {A : Type 0} (number : A → ℕ) (n : ℕ) (xs : List A) → filter (λ x. nat_lt (number x) n) xs ≡ xs → filter (λ x. nat_lt (number x) (n + 1)) xs ≡ xs
below_more number n [] below = refl
below_more number n (x ∷ xs) below =
    let first = filtered_rest (λ y. nat_lt (number y) n) x xs below in
    let low : number x < n = (let h = first.0 in grind (arith, nat_tests)) in
    ap (λ b. cond b (x ∷ filter (λ y. nat_lt (number y) (n + 1)) xs) (filter (λ y. nat_lt (number y) (n + 1)) xs)) (le-leb (suc (number x)) (n + 1) (omega (arith, low)))
    ∙ ap (λ ys. x ∷ ys) (below_more number n xs first.1)

-- and n itself is
below_push : {A : Type 0} (number : A → ℕ) (n : ℕ) (xs : List A) (x : A) → number x ≡ n → filter (λ y. nat_lt (number y) n) xs ≡ xs → filter (λ y. nat_lt (number y) (n + 1)) (xs ++ x ∷ []) ≡ xs ++ x ∷ []
below_push {A = A} number n xs x is below = filter-append (λ y. nat_lt (number y) (n + 1)) xs (x ∷ []) ∙ (λ i. below_more number n xs below i ++ last i)
  where
    last : filter (λ (y : A). nat_lt (number y) (n + 1)) (x ∷ []) ≡ x ∷ []
    last = ap (λ b. cond b (x ∷ []) []) (le-leb (suc (number x)) (n + 1) (omega (arith, is)))

commit_below : (n : ℕ) (w : ChangeSet) (c : Cell) (chain : VersionChain) → IsBelow n chain → IsBelow (n + 1) (with_commit n w c chain)
commit_below n w c chain below = go (change_at w c) (is_cell_among w.kept c)
  where
    versions : filter (λ (v : ℕ × Option ℤ). nat_lt v.0 n) chain.versions ≡ chain.versions
    versions = ap (λ (x : VersionChain). x.versions) below

    marks : filter (λ (m : ℕ). nat_lt m n) chain.marks ≡ chain.marks
    marks = ap (λ (x : VersionChain). x.marks) below

    go : (o : Option (Option ℤ)) (kept : Bool) → IsBelow (n + 1) (with_mark_by n kept (with_change_by n o chain))
    go None false i = record { versions = below_more version_number n chain.versions versions i; marks = below_more (λ m. m) n chain.marks marks i }
    go None true i = record { versions = below_more version_number n chain.versions versions i; marks = below_push (λ m. m) n chain.marks n refl marks i }
    go (Some x) false i = record { versions = below_push version_number n chain.versions (n, x) refl versions i; marks = below_more (λ m. m) n chain.marks marks i }
    go (Some x) true i = record { versions = below_push version_number n chain.versions (n, x) refl versions i; marks = below_push (λ m. m) n chain.marks n refl marks i }

-- a version above all others goes on rising
rises_push : (k n : ℕ) (x : Option ℤ) (vs : List (ℕ × Option ℤ)) → k ≤ n → filter (λ (v : ℕ × Option ℤ). nat_lt v.0 n) vs ≡ vs → RisesFrom k vs → RisesFrom k (vs ++ (n, x) ∷ [])
rises_push k n x [] less below rises = (less, tt)
rises_push k n x (v ∷ vs) less below rises =
    let first = filtered_rest (λ (u : ℕ × Option ℤ). nat_lt u.0 n) v vs below in
    let low : v.0 < n = (let h = first.0 in grind (arith, nat_tests)) in
    (rises.0, rises_push (v.0 + 1) n x vs (omega (arith, low)) first.1 rises.1)

commit_rises : (n : ℕ) (w : ChangeSet) (c : Cell) (chain : VersionChain) → IsBelow n chain → RisesFrom 0 chain.versions → RisesFrom 0 (with_commit n w c chain).versions
commit_rises n w c chain below rises = go (change_at w c) (is_cell_among w.kept c)
  where
    go : (o : Option (Option ℤ)) (kept : Bool) → RisesFrom 0 (with_mark_by n kept (with_change_by n o chain)).versions
    go None true = rises
    go None false = rises
    go (Some x) true = rises_push 0 n x chain.versions (omega arith) (ap (λ (y : VersionChain). y.versions) below) rises
    go (Some x) false = rises_push 0 n x chain.versions (omega arith) (ap (λ (y : VersionChain). y.versions) below) rises

pub committed_rise : (n : ℕ) (w : ChangeSet) (before after : Cells VersionChain) → MakesEach (with_commit n w) before after → AreBelow n before → AllRise before → AllRise after
committed_rise n w before after made below rise c =
    subst (λ (x : VersionChain). RisesFrom 0 x.versions) (sym (made c)) (commit_rises n w c (chain_at before c) (below c) (rise c))

pub committed_below : (n : ℕ) (w : ChangeSet) (before after : Cells VersionChain) → MakesEach (with_commit n w) before after → AreBelow n before → AreBelow (n + 1) after
committed_below n w before after made below c = subst (IsBelow (n + 1)) (sym (made c)) (commit_below n w c (chain_at before c) (below c))

-- ---- a vacuum

pub trim_rises : (f : ℕ) (before after : Cells VersionChain) → MayTrim f before after → AllRise before → AllRise after
trim_rises f before after trims rise c = go (trims c)
  where
    go : MayBeTrimmed f (chain_at before c) (chain_at after c) → RisesFrom 0 (chain_at after c).versions
    go (inl is) = subst (λ (x : VersionChain). RisesFrom 0 x.versions) (sym is) (rise c)
    go (inr is) = subst (λ (x : VersionChain). RisesFrom 0 x.versions) (sym is) (trimmed_rises f (chain_at before c) (rise c))

pub trim_below : (f n : ℕ) (before after : Cells VersionChain) → MayTrim f before after → AreBelow (n + 1) before → AreBelow (n + 1) after
trim_below f n before after trims below c = go (trims c)
  where
    go : MayBeTrimmed f (chain_at before c) (chain_at after c) → IsBelow (n + 1) (chain_at after c)
    go (inl is) = subst (IsBelow (n + 1)) (sym is) (below c)
    go (inr is) = subst (IsBelow (n + 1)) (sym is) (trimmed_below f n (chain_at before c) (below c))

trim_block :
    (floor f : ℕ) (before after : Cells VersionChain) (region : Region) (block : RowBlock) → floor ≤ f → MayTrim f before after → IsTrueBlock floor before region block → IsTrueBlock f after region block
trim_block floor f before after region block rises trims holds n above since below = (seen.0, λ c. seen.1 c ∙ ap (λ v. if is_in region c then v else None) (go c (trims c)))
  where
    seen : IsSeen (seen_in region n) before block.rows
    seen = holds n (omega (arith, rises, above)) since below

    go : (c : Cell) → MayBeTrimmed f (chain_at before c) (chain_at after c) → value_at n (chain_at before c) ≡ value_at n (chain_at after c)
    go c (inl is) = ap (value_at n) (sym is)
    go c (inr is) = sym (value_trimmed f n above (chain_at before c)) ∙ ap (value_at n) (sym is)

-- blocks that are true before a vacuum are true behind it from its floor on
pub trim_true : (floor f : ℕ) (before after : Cells VersionChain) (slots : Cells Slot) → floor ≤ f → MayTrim f before after → AreTrue floor before slots → AreTrue f after slots
trim_true floor f before after slots rises trims = all_true floor f before after slots (λ key slot at holds. (block slot.region slot.newest holds.0, older slot.region slot.older holds.1))
  where
    block : (region : Region) (b : RowBlock) → IsTrueBlock floor before region b → IsTrueBlock f after region b
    block region b = trim_block floor f before after region b rises trims

    older : (region : Region) (o : Option RowBlock) → IfSome o (IsTrueBlock floor before region) → IfSome o (IsTrueBlock f after region)
    older region None h = tt
    older region (Some b) h = block region b h
