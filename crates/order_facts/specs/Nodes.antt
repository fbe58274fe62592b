-- The nodes that stand in a row.
use Rattle.std.specs.Prelude.{List}
use Rattle.order_facts.specs.declared.steps.Node.{Node}
use Rattle.order_facts.specs.declared.nodes.NodeList.{NodeList}
use Rattle.order_facts.specs.declared.nodes.NodeList.TheVariants.{One, Two, Listed}

abbrev pub nodes_held : NodeList → List Node
nodes_held (One nodes) = nodes
nodes_held (Two nodes) = nodes
nodes_held (Listed nodes) = nodes.items
