use Rattle.std.proofs.Common.{◌<◌, ℕ, length, sym, subst, ap, ◌∙◌}
use Rattle.conflict_pairs.specs.Classes.{nodes_at}
use Rattle.conflict_pairs.proofs.KnownClasses.{nodes-read}
use Rattle.conflict_pairs.proofs.classes.nodes_like.Goals as goal

pub number_at-class-requires : goal.number_at-class-requires
number_at-class-requires c = rw c.deref.ensures.value c.requires.access

pub index-requires : goal.index-requires
index-requires c =
    let class = rw c.deref.ensures.value at c.number_at-class.ensures in
    rw (class, c.args.classes.now.nodes.ok.0) c.requires.class

pub returns : goal.returns
returns c =
    let nodes = c.args.classes.now.nodes.items in
    let class = rw c.deref.ensures.value at c.number_at-class.ensures in
    let there : c.number_at-class.result < length nodes = subst (λ (m : ℕ). m < length nodes) (sym class) c.requires.class in
    c.deref-2.ensures.value
    ∙ nodes-read nodes c.number_at-class.result c.index.result.now c.index.result.now there c.index.ensures
    ∙ ap (nodes_at nodes) class
