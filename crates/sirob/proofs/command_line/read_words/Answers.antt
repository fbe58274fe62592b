use Rattle.std.proofs.Common.{◌≡◌, true, List, [], ap, ◌∙◌, refl, sym, subst, map, string_bytes}
use Rattle.std.proofs.lemmas.Result.{err_from_is_err_and}
use Rattle.clap.specs.Words.{App, HasKind, Text, fault_of, subcommand_of, is_simple}
use Rattle.clap.specs.declared.error.Error.{Error}
use Rattle.clap.specs.Faults.{is_simple_and_free}
use Rattle.clap.proofs.OnLiterals.{clap_on_literals}
use Rattle.sirob.specs.CommandLine.{sirob_app, NamesMode}
use Rattle.sirob.proofs.CommandLemmas.{names_mode}
use Rattle.sirob.proofs.command_line.read_words.Goals as goal

is_free_line : is_simple_and_free sirob_app ≡ true
unfolding clap_on_literals
is_free_line = refl

is_simple_line : is_simple sirob_app ≡ true
unfolding clap_on_literals
is_simple_line = refl

-- what is told of the command that was built holds for the one that is meant
no_fault : (app : App) (words : List Text) → app ≡ sirob_app → (is_simple_and_free app ≡ true → fault_of app words ≡ []) → fault_of sirob_app words ≡ []
no_fault app words same none = subst (λ (a : App). fault_of a words ≡ []) same (none (ap is_simple_and_free same ∙ is_free_line))

-- and so does what is told of an error
fails_so : (app : App) (words : List Text) (f : Error) → app ≡ sirob_app → (is_simple_and_free app ≡ true → HasKind (fault_of app words) f) → HasKind (fault_of sirob_app words) f
fails_so app words f same has = subst (λ (a : App). HasKind (fault_of a words) f) same (has (ap is_simple_and_free same ∙ is_free_line))

pub mode_in-requires : goal.mode_in-requires
mode_in-requires c =
    let app = c.in_ok-command.ensures in
    let words = map string_bytes c.args.words.now in
    let rows = (c.in_ok-matches.ensures.matches (ap is_simple app ∙ is_simple_line)).1 in
    let named = names_mode words (no_fault _ words app c.in_ok-matches.ensures.kinds) in
    subst NamesMode (sym (rows ∙ ap (λ (a : App). subcommand_of a words) app)) named

pub returns-clause-fault : goal.returns-clause-fault
returns-clause-fault c = no_fault _ (map string_bytes c.args.words.now) c.in_ok-command.ensures c.in_ok-matches.ensures.kinds

pub returns-in_err-matches-clause-fault : goal.returns-in_err-matches-clause-fault
returns-in_err-matches-clause-fault c =
    let exit = err_from_is_err_and c.from_residual-in_err-matches.result c.from_residual-in_err-matches.ensures.1 in
    rw (exit.1, exit.2) (fails_so _ (map string_bytes c.args.words.now) c.in_err-matches.field-0.0 c.in_ok-command.ensures c.in_err-matches.ensures.kinds)
