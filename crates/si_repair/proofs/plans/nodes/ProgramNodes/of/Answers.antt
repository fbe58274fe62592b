use Rattle.std.proofs.Common.{◌≡◌, ◌<◌, ℕ, List, length, refl, sym, subst, ap, arith}
use Rattle.std.proofs.lemmas.Option.{slice_get_read}
use Rattle.prog_check.specs.declared.path.Path.{Path}
use Rattle.si_repair.specs.Planning.{NodesBy, AreNodesOf}
use Rattle.si_repair.proofs.plans.nodes.ProgramNodes.of.Goals as goal

pub returns : goal.returns
returns c =
    let inside = c.self.inside in
    let lists = inside.lists.items in
    let program = c.args.program in
    let list = c.index.result.now in
    let many : length lists ≡ c.args.self.now.programs = ap (λ (n : NodesBy). n.programs) c.self.view_is in
    let within : program < length lists = omega (arith, many, c.requires) in
    let at = slice_get_read lists (length lists) program list refl within c.index.ensures in
    let own = subst (λ (xs : List ℕ). AreNodesOf inside.paths.now program xs) (sym c.deref.ensures.value) (c.self.invariant program list at) in
    subst (λ (paths : List Path). AreNodesOf paths program c.deref.result.now) (ap (λ (n : NodesBy). n.paths) c.self.view_is) own
