use Rattle.std.proofs.Common.{codes, string_bytes, ◌∙◌}
use Rattle.std.proofs.lemmas.Result.{on_ok_weaker}
use Rattle.serde_json.specs.Written.{compact_text}
use Rattle.robust_cert.specs.Json.{list_data, whole_data}
use Rattle.robust_cert.proofs.Texts.{three_written}
use Rattle.robust_cert.proofs.text.writing.push_levels.Goals as goal

pub push_list-requires : goal.push_list-requires
push_list-requires c i d within = tt

pub returns-clause-text : goal.returns-clause-text
returns-clause-text c =
    on_ok_weaker c.push_list.result
    (λ e. e ∙ three_written (string_bytes c.args.text.now) _ _ (codes "]") (codes ",\"levels\":") (compact_text (list_data whole_data c.args.levels.now))
    c.in_ok-push_str.ensures.bytes c.in_ok-push_str-2.ensures.bytes)
    c.push_list.ensures.text
