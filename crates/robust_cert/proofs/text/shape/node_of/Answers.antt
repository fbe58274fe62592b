use Rattle.std.proofs.Common.{ap, ◌∙◌, Some, arith}
use Rattle.serde_json.specs.View.{items_view}
use Rattle.robust_cert.proofs.Shapes.{not_node}
use Rattle.robust_cert.proofs.text.shape.node_of.Goals as goal

pub returns-in_default-clause-none : goal.returns-in_default-clause-none
returns-in_default-clause-none c node fits =
    not_node _ c.as_slice.result.now (ap (λ vs. Some (items_view vs)) c.as_slice.ensures.value ∙ c.in_ok-as_array.ensures) (λ e. omega arith) node

pub returns-in_default-3-clause-none : goal.returns-in_default-3-clause-none
returns-in_default-3-clause-none c node fits =
    not_node _ c.as_slice.result.now (ap (λ vs. Some (items_view vs)) c.as_slice.ensures.value ∙ c.in_ok-as_array.ensures) (λ e. omega arith) node
