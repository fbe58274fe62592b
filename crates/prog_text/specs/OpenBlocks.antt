-- What is still to be read of a block, from inside the blocks that are open in it.
use Rattle.std.specs.Prelude.{◌≡◌, ◌<◌, ◌≤◌, List, [], ◌∷◌, ◌++◌, length, Bool, true, false, Result, Ok, Err, reverse}
use Rattle.prog_tree.specs.Syntax.{BlockTree}
use Rattle.prog_tree.specs.Tree.{test_tree, listing_tree, with_stmts, stmts_tree}
use Rattle.prog_tree.specs.declared.stmt.Stmt.{Stmt}
use Rattle.prog_text.specs.declared.reading.blocks.Body.{Body}
use Rattle.prog_text.specs.declared.reading.blocks.Open.{Open}
use Rattle.prog_text.specs.declared.reading.blocks.Open.TheVariants.{First, Second, Turns}
use Rattle.prog_text.specs.declared.reading.cursor.TokenCursor.{TokenCursor}
use Rattle.prog_text.specs.declared.reading.read_error.ReadError.{ReadError}
use Rattle.prog_text.specs.declared.lexing.token.Token.{Token}
use Rattle.prog_text.specs.Reading.{Reading, ◌>>=◌, made_into, Fails, behind_first, behind_second, branch_at, behind_turns, each_at, body_at}

-- statements that were read, in front of what is read of their block
unfoldable pub in_front : List Stmt → Reading BlockTree → Reading BlockTree
in_front done read = made_into (with_stmts done) read

-- What reading the innermost block says of the outermost one. The open blocks stand from the inside out.
unfoldable pub outward : List Open → Reading BlockTree → Reading BlockTree
outward [] read = read
outward (First test before ∷ others) read = outward others (in_front before.items (do
  first ← read
  behind_first body_at (test_tree test) first.0 first.1))
outward (Second test first before ∷ others) read = outward others (in_front before.items (do
  second ← read
  behind_second body_at (test_tree test) (stmts_tree first.items) second.0 second.1))
outward (Turns listing before ∷ others) read = outward others (in_front before.items (do
  inside ← read
  behind_turns body_at (listing_tree listing) inside.0 inside.1))

-- Below, a list of open blocks stands from the outside in, and the statements are those of the innermost so far.

-- what is still to be read, where `read` goes on in the innermost block
abbrev pub unread_by : (read : List Token → Reading BlockTree) → List Open → List Stmt → List Token → Reading BlockTree
unread_by read stack done ts = outward (reverse stack) (in_front done (read ts))

-- what is still to be read
unfoldable pub unread : List Open → List Stmt → List Token → Reading BlockTree
unread stack done ts = unread_by body_at stack done ts

-- the same behind the closing sign of the innermost block
unfoldable pub unread_behind_end : List Open → List Stmt → List Token → Reading BlockTree
unread_behind_end stack done ts = outward (reverse stack) (Ok (stmts_tree done, ts))

-- the same behind the word `if`
unfoldable pub unread_behind_if : List Open → List Stmt → List Token → Reading BlockTree
unread_behind_if stack done ts = unread_by (branch_at body_at) stack done ts

-- the same behind the word `each`
unfoldable pub unread_behind_each : List Open → List Stmt → List Token → Reading BlockTree
unread_behind_each stack done ts = unread_by (each_at body_at) stack done ts

-- what is still to be read of a block
abbrev pub unread_of : Body → TokenCursor → Reading BlockTree
unread_of body cursor = unread body.stack.items body.done.items cursor.tokens.now

-- the same behind the closing sign of a block that is open in it
abbrev pub behind_end : Open → Body → TokenCursor → Reading BlockTree
behind_end last body cursor = unread_behind_end (body.stack.items ++ last ∷ []) body.done.items cursor.tokens.now

-- the same behind the word `if`
abbrev pub behind_if : Body → TokenCursor → Reading BlockTree
behind_if body cursor = unread_behind_if body.stack.items body.done.items cursor.tokens.now

-- the same behind the word `each`
abbrev pub behind_each : Body → TokenCursor → Reading BlockTree
behind_each body cursor = unread_behind_each body.stack.items body.done.items cursor.tokens.now

-- the same where the whole block has ended, and where it hasn't
abbrev pub state_of : (ended : Bool) → Body → TokenCursor → Reading BlockTree
state_of true body cursor = Ok (stmts_tree body.done.items, cursor.tokens.now)
state_of false body cursor = unread_of body cursor

-- What is still to be read gives what the reading gives, and no more tokens are left, unless memory runs out.
abbrev pub ReadsOn : Reading BlockTree → Result (Unit {0}) ReadError → (body : Body) → (before after : TokenCursor) → Type 0
ReadsOn read (Ok done) body before after =
    (unread_of body after ≡ read) × (length after.tokens.now ≤ length before.tokens.now)
ReadsOn read (Err e) body before after = Fails e read

-- The same, with fewer tokens left; `true` where the whole block has ended.
abbrev pub Steps : Reading BlockTree → Result Bool ReadError → (body : Body) → (before after : TokenCursor) → Type 0
Steps read (Ok ended) body before after =
    (state_of ended body after ≡ read) × (length after.tokens.now < length before.tokens.now)
Steps read (Err e) body before after = Fails e read
