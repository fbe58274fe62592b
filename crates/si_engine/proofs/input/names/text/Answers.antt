use Rattle.std.proofs.Common.{◌≡◌, true, ◌∙◌, sym}
use Rattle.std.specs.Char.{is_ascii}
use Rattle.std.specs.List.{list_all}
use Rattle.si_engine.proofs.TextLemmas.{IsUtf8-from_list_all, text_read}
use Rattle.si_engine.proofs.input.names.text.Goals as goal

pub returns : goal.returns
returns c =
    let ascii : list_all is_ascii c.args.word.now ≡ true = sym c.is_ascii.ensures ∙ c.if-not-is_ascii.false in
    rw (c.ok.ensures.value, ascii) (text_read _ c.from_utf8.result c.args.word.now (IsUtf8-from_list_all _ ascii) c.from_utf8.ensures.cases)
