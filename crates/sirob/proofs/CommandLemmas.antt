-- Which subcommands a parse can end with: words with no fault name one of the program's own.
use Rattle.std.proofs.lemmas.List.Elements.{All-nil, All-cons}
use Rattle.std.proofs.Common.{◌≡◌, ℕ, suc, arith, Bool, true, false, cond, List, [], ◌∷◌, ◌++◌, Option, Some, None, codes, fold, is_some, refl, sym}
use Rattle.std.specs.Str.{bytes_eq}
use Rattle.sirob.specs.CommandLine.{sirob_app, byte_in, flag_in, NamesMode}
use Rattle.sirob.specs.declared.command_line.Mode.TheVariants.{Check, Certify, Verify, Repair, Run, Audit, Work}
use Rattle.clap.specs.Kinds.{Kinds, or_else}
use Rattle.clap.specs.Walk.{Held, Names, Outcome, Rule, Step, Text, Waiting, Walk}
use Rattle.clap.specs.Walk.{next, trailing, subcommand, value, done, waits, plain, refused, idle, option, positional}
use Rattle.clap.specs.Walk.{after_flag, after_step, arg_by_index, long_or_other, plain_word, short_or_plain, subcommand_met, subcommand_or_other, to_positional, walk, walked, walked_from, word_met}
use Rattle.clap.specs.Lexer.{long_of, short_of}
use Rattle.clap.specs.Simple.{Shape, argument_words, built, entered, help_shape, names_of, subcommand_of, label_of, rows_at}
use Rattle.clap.specs.Walk.{Row, answers_to, finished, nothing_held, walk_from}
use Rattle.clap.specs.Walk.{settled}
use Rattle.std.specs.Prelude.{find, option_map}
use Rattle.std.specs.List.{All, slice_index_or}
use Rattle.std.proofs.lemmas.Slice.Eq.{bytes_eq-Decides}
use Rattle.std.proofs.Common.{◌≢◌, ◌||◌, Decides}
use Rattle.clap.specs.declared.error.kind.ErrorKind.TheVariants.{DisplayHelp, InvalidSubcommand, MissingSubcommand}
use Rattle.clap.specs.Faults.{check_fault, entered_fault, fault_of, level_fault, defaults_fault, settle_fault, other_fault, step_fault, turn_fault, walk_fault, word_fault}

-- a run of checks finds nothing only where none of them does
both_pass : (a b : Kinds) → or_else a b ≡ [] → (a ≡ []) × (b ≡ [])
both_pass [] b h = (refl, h)
both_pass (k ∷ ks) b h = absurd (cc)

-- ---- a word that is no subcommand's name leads into none

abbrev IsOther : Step → Type 0
IsOther (next waiting) = Unit {0}
IsOther (trailing position) = Unit {0}
IsOther (subcommand name) = ⊥
IsOther value = Unit {0}

plain_is_other : (c : List Rule) (waiting : Waiting) (word : Text) (h : Held) → IsOther (plain_word c waiting word h).1
plain_is_other c idle word h = tt
plain_is_other c (option id) word h = tt
plain_is_other c positional word h = tt

flag_is_other : (c : List Rule) (waiting : Waiting) (word : Text) (h : Held) (outcome : Outcome) → IsOther (after_flag c waiting word h outcome).1
flag_is_other c waiting word h done = tt
flag_is_other c waiting word h (waits id) = tt
flag_is_other c waiting word h plain = plain_is_other c waiting word h
flag_is_other c waiting word h refused = plain_is_other c waiting word h

short_is_other : (c : List Rule) (waiting : Waiting) (word : Text) (flags : Option Text) (h : Held) → IsOther (short_or_plain c waiting word flags h).1
short_is_other c waiting word (Some flags) h = flag_is_other c waiting word _ _
short_is_other c waiting word None h = plain_is_other c waiting word h

long_is_other : (c : List Rule) (waiting : Waiting) (word : Text) (parts : Option (Text × Option Text)) (h : Held) → IsOther (long_or_other c waiting word parts h).1
long_is_other c waiting word (Some p) h = flag_is_other c waiting word _ _
long_is_other c waiting word None h = short_is_other c waiting word (short_of word) h

-- ---- no walk without a fault stops at `help`

abbrev IsNotHelp : Option (Text × List Text) → Type 0
IsNotHelp None = Unit {0}
IsNotHelp (Some p) = p.0 ≢ codes "help"

positional_not_help : (c : List Rule) (a : Option Rule) (word : Text) (w : Walk) (h : Held) → IsNotHelp w.stopped → IsNotHelp (to_positional c a word w h).stopped
positional_not_help c None word w h so_far = so_far
positional_not_help c (Some a) word w h so_far = tt

other_not_help : (c : List Rule) (word : Text) (w : Walk) (h : Held) (step : Step) → IsOther step → IsNotHelp w.stopped → IsNotHelp (after_step c word w h step).stopped
other_not_help c word w h (next waiting) other so_far = so_far
other_not_help c word w h (trailing position) other so_far = so_far
other_not_help c word w h (subcommand name) other so_far = absurd other
other_not_help c word w h value other so_far = positional_not_help c (arg_by_index c w.position) word w h so_far

-- a word that is no trailing one
met_not_help : (s : Shape) (w : Walk) (word : Text) (h : Held) (position : ℕ) (waiting : Waiting) (met : Option Text) → s.disable_help_subcommand ≡ false
    → IsNotHelp w.stopped → other_fault s met word h ≡ []
    → IsNotHelp (after_step s.rules word w (subcommand_or_other s.rules met waiting position word h).0 (subcommand_or_other s.rules met waiting position word h).1).stopped
met_not_help s w word h position waiting (Some name) enabled so_far none = λ is.
    let here : bytes_eq name (codes "help") ≡ true = rw is refl in
    let some : other_fault s (Some name) word h ≡ DisplayHelp ∷ InvalidSubcommand ∷ [] = rw (here, enabled) refl in
    cc
met_not_help s w word h position waiting None enabled so_far none = go (bytes_eq word (45 ∷ 45 ∷ []))
  where
    go : (b : Bool) → IsNotHelp (after_step s.rules word w (cond b (h, trailing position) (long_or_other s.rules waiting word (long_of word) h)).0
        (cond b (h, trailing position) (long_or_other s.rules waiting word (long_of word) h)).1).stopped
    go true = so_far
    go false = other_not_help s.rules word w _ _ (long_is_other s.rules waiting word (long_of word) h) so_far

word_not_help : (s : Shape) (names : Names) (w : Walk) (word : Text) (is_trailing : Bool) (waiting : Waiting) (position : ℕ) (h : Held) → s.disable_help_subcommand ≡ false
    → IsNotHelp w.stopped → word_fault s names is_trailing waiting word h ≡ []
    → IsNotHelp (after_step s.rules word w (word_met s.rules names is_trailing waiting position word h).0 (word_met s.rules names is_trailing waiting position word h).1).stopped
word_not_help s names w word true waiting position h enabled so_far none = positional_not_help s.rules (arg_by_index s.rules w.position) word w h so_far
word_not_help s names w word false waiting position h enabled so_far none = met_not_help s w word h position waiting (subcommand_met names waiting word) enabled so_far none

turn_not_help : (s : Shape) (names : Names) (w : Walk) (word : Text) (stop : Option (Text × List Text)) → s.disable_help_subcommand ≡ false → w.stopped ≡ stop → IsNotHelp stop
    → turn_fault s names w word ≡ [] → IsNotHelp (walked_from s.rules names stop w word).stopped
turn_not_help s names w word (Some p) enabled is so_far none = so_far
turn_not_help s names w word None enabled is so_far none =
    let met = word_met s.rules names w.is_trailing w.waiting w.position word w.held in
    let step : or_else (word_fault s names w.is_trailing w.waiting word w.held) (step_fault s w.position met.0 met.1) ≡ [] = rw is at none in
    word_not_help s names w word w.is_trailing w.waiting w.position w.held enabled (rw is so_far) (both_pass _ _ step).0

never_help : (s : Shape) (names : Names) (w : Walk) (words : List Text) → s.disable_help_subcommand ≡ false → IsNotHelp w.stopped → walk_fault s names w words ≡ []
    → IsNotHelp (fold (walked s.rules names) w words).stopped
unfolding walk_fault walked
never_help s names w [] enabled so_far none = so_far
never_help s names w (word ∷ words) enabled so_far none =
    let parts = both_pass (turn_fault s names w word) (walk_fault s names (walked s.rules names w word) words) none in
    never_help s names (walked s.rules names w word) words enabled (turn_not_help s names w word w.stopped enabled refl so_far parts.0) parts.1

-- ---- the words of the program

-- what a level without a fault has
record Passes (s : Shape) (names : Names) (words : List Text) (has_subcommand : Bool) : Type 0 where
  pub walk_passes : walk_fault s names (walk_from nothing_held) words ≡ []
  pub checks_pass : check_fault s (finished s.rules (walk s.rules names nothing_held words).held) has_subcommand ≡ []

level_passes : (s : Shape) (names : Names) (words : List Text) (has_subcommand : Bool) (below : Kinds) → level_fault s names nothing_held words has_subcommand below ≡ []
    → Passes s names words has_subcommand
level_passes s names words has_subcommand below none =
    let end = (walk s.rules names nothing_held words).held in
    let first = both_pass (walk_fault s names (walk_from nothing_held) words) _ none in
    let second = both_pass below _ first.1 in
    let third = both_pass (settle_fault s.rules s.args_override_self end) _ second.1 in
    let fourth = both_pass (defaults_fault (settled s.rules end).rows s.rules) _ third.1 in
    record { walk_passes = first.0; checks_pass = fourth.1 }

-- a subcommand that is asked for was met
met_one : (s : Shape) (rows : List Row) (has_subcommand : Bool) → s.subcommand_required ≡ true → s.arg_required_else_help ≡ false → check_fault s rows has_subcommand ≡ []
    → has_subcommand ≡ true
met_one s rows true required quiet none = refl
met_one s rows false required quiet none =
    let missing : check_fault s rows false ≡ MissingSubcommand ∷ [] = rw (quiet, required) refl in
    cc

-- one of the subcommands before the last was met, where the words don't name the last
own_met : (P : Option (Text × List Row) → Type 0) (name : Text) (words : List Text) (own : List Shape) (last : Shape)
    → All (λ s. P (Some (rows_at s words))) own → answers_to name (label_of last) ≡ false
    → is_some (option_map (λ s. rows_at s words) (find (λ s. answers_to name (label_of s)) (own ++ last ∷ []))) ≡ true
    → P (option_map (λ s. rows_at s words) (find (λ s. answers_to name (label_of s)) (own ++ last ∷ [])))
own_met P name words [] last all other some = go (answers_to name (label_of last)) other some
  where
    go : (x : Bool) → x ≡ false → is_some (option_map (λ s. rows_at s words) (cond x (Some last) None)) ≡ true → P (option_map (λ s. rows_at s words) (cond x (Some last) None))
    go true none met = absurd (cc)
    go false none met = absurd (cc)
own_met P name words (s ∷ own) last all other some =
    go (answers_to name (label_of s)) (own_met P name words own last (λ k d within. all (suc k) d (omega (arith, within))) other) some
  where
    later : Option Shape
    later = find (λ s. answers_to name (label_of s)) (own ++ last ∷ [])

    go : (x : Bool) → (is_some (option_map (λ s. rows_at s words) later) ≡ true → P (option_map (λ s. rows_at s words) later))
        → is_some (option_map (λ s. rows_at s words) (cond x (Some s) later)) ≡ true → P (option_map (λ s. rows_at s words) (cond x (Some s) later))
    go true in_later met = all 0 s (omega arith)
    go false in_later met = in_later met

-- the words name `help` by its name alone
no_help : (name : Text) → name ≢ codes "help" → bytes_eq (codes "help") name || false ≡ false
no_help name other = go (bytes_eq (codes "help") name) (bytes_eq-Decides (codes "help") name)
  where
    go : (b : Bool) → Decides b (codes "help" ≡ name) → b || false ≡ false
    go true is = absurd (other (sym (is.0 refl)))
    go false is = refl

entered_own : (stop : Option (Text × List Text)) → IsNotHelp stop → is_some (entered (built sirob_app) stop) ≡ true → NamesMode (entered (built sirob_app) stop)
entered_own None other some = absurd (cc)
entered_own (Some p) other some =
    let subs = (built sirob_app).subs in
    let check = slice_index_or subs 0 help_shape in
    let certify = slice_index_or subs 1 help_shape in
    let verify = slice_index_or subs 2 help_shape in
    let repair = slice_index_or subs 3 help_shape in
    let run = slice_index_or subs 4 help_shape in
    let audit = slice_index_or subs 5 help_shape in
    let work = slice_index_or subs 6 help_shape in
    let Named : Shape → Type 0 = λ s. NamesMode (Some (rows_at s p.1)) in
    let named : All Named (check ∷ certify ∷ verify ∷ repair ∷ run ∷ audit ∷ work ∷ []) =
    All-cons Named check (certify ∷ verify ∷ repair ∷ run ∷ audit ∷ work ∷ []) (Check, refl)
    (All-cons Named certify (verify ∷ repair ∷ run ∷ audit ∷ work ∷ []) (Certify, refl)
    (All-cons Named verify (repair ∷ run ∷ audit ∷ work ∷ []) (Verify, refl)
    (All-cons Named repair (run ∷ audit ∷ work ∷ []) (Repair (flag_in (codes "promote") (Some (rows_at repair p.1))), (refl, refl))
    (All-cons Named run (audit ∷ work ∷ []) (Run (flag_in (codes "robust") (Some (rows_at run p.1))), (refl, refl))
    (All-cons Named audit (work ∷ []) (Audit, refl)
    (All-cons Named work [] (Work (byte_in (codes "workers") (Some (rows_at work p.1))), (refl, refl)) (All-nil Named))))))) in
    own_met NamesMode p.0 p.1 (check ∷ certify ∷ verify ∷ repair ∷ run ∷ audit ∷ work ∷ []) (slice_index_or subs 7 help_shape) named (no_help p.0 other) some

pub names_mode : (words : List Text) → fault_of sirob_app words ≡ [] → NamesMode (subcommand_of sirob_app words)
names_mode words none =
    let app = built sirob_app in
    let rest = argument_words app words in
    let stop = (walk app.top.rules (names_of app) nothing_held rest).stopped in
    let passes = level_passes app.top (names_of app) rest (is_some (entered app stop)) (entered_fault app stop) none in
    entered_own stop (never_help app.top (names_of app) (walk_from nothing_held) rest refl tt passes.walk_passes)
    (met_one app.top (finished app.top.rules (walk app.top.rules (names_of app) nothing_held rest).held) (is_some (entered app stop)) refl refl passes.checks_pass)
