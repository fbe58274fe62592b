use Rattle.std.proofs.Common.{ℕ, ◌<◌, ◌≡◌, ◌∙◌, List, length, zip, sym, min, arith}
use Rattle.std.proofs.lemmas.Grind.{common_steps, get_or_default_zero}
use Rattle.std.proofs.lemmas.Slice.Zip.{seconds-zip, length-zip}
use Rattle.prog_text.specs.Lexing.{lefts}
use Rattle.prog_text.proofs.lexing.placed_tokens.PlacedTokens.left.Goals as goal

within : {A : Type 0} (tokens : List A) (numbers : List ℕ) (i : ℕ) → length tokens ≡ length numbers → i < length (zip tokens numbers) → i < length numbers
within tokens numbers i rows h = let e : length (zip tokens numbers) ≡ min (length tokens) (length numbers) = length-zip tokens numbers in omega (arith, e, rows, h)

pub index-requires : goal.index-requires
index-requires c =
    let inside : c.args.index < length c.self.inside.lefts.items = within _ _ _ c.self.invariant (rw c.self.view_is c.requires) in
    grind (arith, common_steps, inside)

pub returns : goal.returns
returns c =
    let column : lefts c.args.self.now ≡ c.self.inside.lefts.items = rw (← c.self.view_is) (seconds-zip _ _ (sym c.self.invariant)) in
    rw column (c.index.ensures ∙ get_or_default_zero _ _ _ (within _ _ _ c.self.invariant (rw c.self.view_is c.requires)))
