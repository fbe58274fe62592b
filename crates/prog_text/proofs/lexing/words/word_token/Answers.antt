use Rattle.std.proofs.Common.{◌∙◌, sym, ap}
use Rattle.prog_text.specs.declared.lexing.token.Token.TheVariants as t
use Rattle.prog_text.proofs.Reserved.{token_of_word}
use Rattle.prog_text.proofs.lexing.words.word_token.Goals as goal

pub returns-in-Some : goal.returns-in-Some
returns-in-Some c = token_of_word c.args.bytes.now _ (sym c.in-Some.is ∙ c.lookup.ensures)

pub returns-in-None : goal.returns-in-None
returns-in-None c = ap t.Name c.word.ensures ∙ token_of_word c.args.bytes.now _ (sym c.in-None.is ∙ c.lookup.ensures)
