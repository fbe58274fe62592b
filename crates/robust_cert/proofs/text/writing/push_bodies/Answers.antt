use Rattle.std.proofs.Common.{codes, string_bytes}
use Rattle.serde_json.specs.Written.{compact_text}
use Rattle.robust_cert.specs.Json.{list_data, whole_data}
use Rattle.robust_cert.proofs.Texts.{last_piece, three_written}
use Rattle.robust_cert.proofs.text.writing.push_bodies.Goals as goal

pub push_list-requires : goal.push_list-requires
push_list-requires c i d within = tt

pub returns-clause-text : goal.returns-clause-text
returns-clause-text c =
    last_piece c.push_str-2.result _ (string_bytes c.push_list.new.text) (codes ",\"entries\":") _ c.push_str-2.ensures.bytes
    (three_written (string_bytes c.args.text.now) _ _ (codes "{\"bodies\":") (compact_text (list_data whole_data c.args.bodies.now)) (codes ",\"entries\":")
    c.in_ok-push_str.ensures.bytes c.in_ok-push_list.ensures.text)
