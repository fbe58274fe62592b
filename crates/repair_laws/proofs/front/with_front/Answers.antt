use Rattle.std.proofs.Common.{List, map, ap, ◌∙◌}
use Rattle.std.specs.List.{flat_map}
use Rattle.prog_tree.specs.Syntax.{Name, Plain}
use Rattle.repair_laws.specs.Materialised.{keeps_for}
use Rattle.repair_laws.proofs.Putting.{program_front}
use Rattle.repair_laws.proofs.front.with_front.Goals as goal

pub returns : goal.returns
returns c =
    let made = c.args.made.now in
    let number = c.args.number in
    let program = c.args.program.now in
    let same = c.in_ok-name.ensures in
    let kept = c.in_ok-stmts.ensures ∙ ap (λ (params : List Name). map Plain (flat_map (keeps_for number params) made)) c.deref.ensures.value in
    let body = program_front made number c.in_ok-name.field-0 program c.in_ok-stmts.stmts.items c.append.new.self.items same kept c.in_ok-append.ensures.items in
    λ i. record { name = (same i).name; params = (same i).params; body = body i }
