use Rattle.std.proofs.Common.{◌≡◌, ◌<◌, List, drop, get_or, length, sym, ap, subst, ◌∙◌, arith}
use Rattle.std.proofs.lemmas.List.{take_at}
use Rattle.std.specs.Prelude.{All}
use Rattle.prog_paths.specs.declared.accesses.places.Placed.{Placed}
use Rattle.prog_paths.specs.Places.{IsAt}
use Rattle.si_repair.specs.declared.entries.ToldPart.{ToldPart}
use Rattle.si_repair.specs.Telling.{firsts_in}
use Rattle.si_repair.proofs.Telling.{firsts-of, same_firsts}
use Rattle.si_repair.proofs.entries.tell_parts.Goals as goal

pub par_for_each_mut-requires-after_bounds : goal.par_for_each_mut-requires-after_bounds
par_for_each_mut-requires-after_bounds g c κs within = λ i p lt is.
    let paths = c.args.table.now.paths in
    let old = c.args.parts.now.items in
    let at : p.now ≡ get_or old i p.now = is ∙ ap (λ (l : List ToldPart). get_or l i p.now) c.deref_mut.ensures.value in
    let there : i < length old = subst (λ (l : List ToldPart). i < length l) c.deref_mut.ensures.value lt in
    let own = subst (λ (q : ToldPart). All (λ x. IsAt paths x) q.firsts.now) (sym at) (firsts-of (λ (x : Placed). IsAt paths x) old i p.now there c.requires.firsts) in
    (c.requires.few, (c.requires.changers, (c.requires.given, own)))

pub returns-clause-firsts : goal.returns-clause-firsts
returns-clause-firsts g c =
    let old = c.args.parts.now.items in
    let new = c.par_for_each_mut.new.s in
    let same : length new ≡ c.args.parts.now.len = omega (arith, c.par_for_each_mut.auto.s, c.deref_mut.ensures.len) in
    let back = take_at new (drop (length new) old) c.args.parts.now.len same in
    let count : length old ≡ length new = omega (arith, c.par_for_each_mut.auto.s, ap length c.deref_mut.ensures.value) in
    ap firsts_in back
    ∙ same_firsts old new count
    (λ k d lt.
    let at = (c.par_for_each_mut.ensures k d (omega (arith, lt, c.par_for_each_mut.auto.s))).1 in
    ap (λ (p : ToldPart). p.firsts.now) (sym at.left) ∙ at.call.0 ∙ ap (λ (p : ToldPart). p.firsts.now) (at.argument_is ∙ ap (λ (l : List ToldPart). get_or l k d) c.deref_mut.ensures.value))
