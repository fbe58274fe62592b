use Rattle.std.proofs.Common.{◌≡◌, ◌∙◌}
use Rattle.analysis_words.specs.Nodes.{Sight}
use Rattle.analysis_words.proofs.shown_set.ShownSet.shown.Goals as goal

pub returns : goal.returns
returns c =
    let inside = c.self.inside in
    let set = inside.set.now in
    let own : ◌≡◌ {A = Sight} (record { text = inside.text; set = set; paths = c.deref.result.now }) (record { text = inside.text; set = set; paths = inside.paths.items }) =
    λ i. record { text = inside.text; set = set; paths = c.deref.ensures.value i } in
    own ∙ c.self.view_is
