use Rattle.std.proofs.Common.{[], ◌∷◌, ◌++◌, sym, ◌≡◌, not, ap, ◌∙◌, map, if◌then◌else◌}
use Rattle.std.specs.Prelude.{string_bytes}
use Rattle.std.specs.String.{string_eq}
use Rattle.std.specs.List.{list_any}
use Rattle.prog_tree.specs.Value.{same_name}
use Rattle.prog_check.specs.Names.{is_among}
use Rattle.prog_check.proofs.NameLemmas.{list_any-map, map-inserted}
use Rattle.prog_check.proofs.names.Names.insert.Goals as goal

-- a look among texts is one among their names
looked : (c : goal.In_ok-insert) → list_any (string_eq c.in_ok-text.text) c.self.inside.texts.keys ≡ is_among c.args.self.now c.args.name.now
looked c =
    let same : string_bytes c.in_ok-text.text ≡ c.args.name.now = c.in_ok-text.ensures.ok ∙ c.as_str.ensures in
    sym (list_any-map (same_name (string_bytes c.in_ok-text.text)) string_bytes c.self.inside.texts.keys) ∙ (λ i. is_among (c.self.view_is i) (same i))

pub returns-clause-new : goal.returns-clause-new
returns-clause-new c = c.in_ok-insert.ensures.added ∙ ap not (looked c)

pub returns-clause-names : goal.returns-clause-names
returns-clause-names c =
    let same : string_bytes c.in_ok-text.text ≡ c.args.name.now = c.in_ok-text.ensures.ok ∙ c.as_str.ensures in
    let keys = c.self.inside.texts.keys in
    let held = list_any (string_eq c.in_ok-text.text) keys in
    rw (c.in_ok-insert.ensures.keys, c.in_ok-insert.ensures.added, ← c.self.view_is)
    (map-inserted string_bytes held keys c.in_ok-text.text ∙ ap (λ x. if not held then map string_bytes keys ++ x ∷ [] else map string_bytes keys) same)
