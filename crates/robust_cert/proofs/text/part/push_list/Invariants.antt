use Rattle.std.proofs.Common.{◌≡◌, ◌++◌, string_bytes, take}
use Rattle.std.specs.Prelude.{All}
use Rattle.robust_cert.proofs.Texts.{behind_commas}
use Rattle.robust_cert.proofs.text.part.push_list.Given as goal

-- the parts so far are written
abbrev pub invariant-loop-part : goal.invariant-loop-part
invariant-loop-part g l = record {
  text : string_bytes l.text ≡ string_bytes l.initial.text ++ behind_commas g.T.JsonPart.json (take l.part-index l.others);
  fits : All g.T.JsonPart.fits (take l.part-index l.others);
}
