-- What the functions that read leave of the tokens, beside what `Reading` gives.
use Rattle.std.specs.Prelude.{◌≡◌, ◌<◌, List, length, Bool, true, false, Some, None, Result, Ok, Err}
use Rattle.prog_tree.specs.Syntax.{Name, ExprTree, KeyTree, RangeTree, StatementTree}
use Rattle.prog_tree.specs.Tree.{expr_tree, key_tree, range_tree, stmt_tree}
use Rattle.prog_tree.specs.declared.stmt.Stmt.{Stmt}
use Rattle.prog_text.specs.declared.reading.cursor.TokenCursor.{TokenCursor}
use Rattle.prog_text.specs.declared.reading.keys.Keyed.{Keyed}
use Rattle.prog_text.specs.declared.reading.keys.Ranged.{Ranged}
use Rattle.prog_text.specs.declared.reading.statements.Assigned.{Assigned}
use Rattle.prog_text.specs.declared.reading.read_error.ReadError.{ReadError}
use Rattle.prog_text.specs.declared.lexing.token.Sign.{Sign}
use Rattle.prog_text.specs.declared.lexing.token.Token.{Token}
use Rattle.prog_text.specs.Reading.{Reading, Fails, after_sign, as_plain}

-- What is read, seen by `view`, is what the reading gives, and fewer tokens are left, unless memory runs out.
abbrev pub Reads : {X Y : Type 0} → (view : X → Y) → (List Token → Reading Y) → Result X ReadError
    → (before after : TokenCursor) → Type 0
Reads view reading (Ok x) before after =
    (reading before.tokens.now ≡ Ok (view x, after.tokens.now)) × (length after.tokens.now < length before.tokens.now)
Reads view reading (Err e) before after = Fails e (reading before.tokens.now)

-- what is read stands for itself
abbrev pub itself : {X : Type 0} → X → X
itself x = x

-- a sign or word is read, or doesn't come next
abbrev pub Eats : Sign → Bool → (before after : TokenCursor) → Type 0
Eats u true before after =
    (after_sign u before.tokens.now ≡ Some after.tokens.now) × (length after.tokens.now < length before.tokens.now)
Eats u false before after = (after_sign u before.tokens.now ≡ None) × (after.tokens.now ≡ before.tokens.now)

-- a key and its table
abbrev pub keyed_tree : Keyed → Name × KeyTree
keyed_tree k = (k.table, key_tree k.key)

-- a range and its table
abbrev pub ranged_tree : Ranged → Name × RangeTree
ranged_tree r = (r.table, range_tree r.range)

-- a key and its table, and a value for it
abbrev pub assigned_tree : Assigned → (Name × KeyTree) × ExprTree
assigned_tree a = ((a.table, key_tree a.key), expr_tree a.value)

-- a statement without blocks is read
abbrev pub ReadsPlain : (List Token → Reading StatementTree) → Result Stmt ReadError → (before after : TokenCursor) → Type 0
ReadsPlain reading = Reads stmt_tree (λ ts. as_plain (reading ts))
