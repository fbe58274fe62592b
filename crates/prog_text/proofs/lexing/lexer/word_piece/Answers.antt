use Rattle.std.proofs.Common.{◌≤◌, ◌-◌, length, length-drop, drop, arith}
use Rattle.std.proofs.lemmas.List.{take_all}
use Rattle.prog_text.proofs.WordBytes.{word_passes}
use Rattle.prog_text.proofs.lexing.lexer.word_piece.Goals as goal

pub word_token-requires : goal.word_token-requires
word_token-requires c =
    let all : length (drop 1 c.args.bytes.now) ≤ length c.args.bytes.now - 1 = grind (arith, length-drop) in
    rw (c.split_at.ensures.front, c.word_len-len.ensures.value, take_all _ _ all) (word_passes c.args.bytes.now c.requires.letter)
