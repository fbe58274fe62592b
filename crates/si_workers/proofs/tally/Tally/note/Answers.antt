use Rattle.std.proofs.Common.{◌≡◌, ◌∙◌, ◌+◌, ℕ, ap, min, rules, subst, sym}
use Rattle.std.specs.Prelude.{Option, unwrap_or}
use Rattle.std.specs.BTreeMap.{BTreeMap}
use Rattle.std.specs.BTreeMap.Entry.{map_with_value}
use Rattle.si_workers.specs.Tally.{count_in, more, most}
use Rattle.si_workers.proofs.TallyLemmas.{noted_more}
use Rattle.si_workers.proofs.tally.Tally.note.Goals as goal

pub returns : goal.returns
returns g c =
    let cmp = g.K.Ord.cmp in
    let m = c.self.inside.counts.entries in
    let key = c.args.key in
    let times = c.args.times in
    let count = c.saturating_add.result in
    let after = map_with_value c.in_ok-entry.entry count in
    let back : c.self-3-1.given.0 ≡ after = search rules in
    let had : c.or_insert-noted.result.now ≡ count_in cmp m key =
    c.or_insert-noted.ensures.value ∙ ap (λ (o : Option ℕ). unwrap_or o 0) c.in_ok-entry.ensures.value in
    let is : count ≡ min (count_in cmp m key + times) most = c.saturating_add.ensures ∙ ap (λ n. min (n + times) most) had in
    rw (← c.self.view_is)
    (λ q. subst (λ (t : BTreeMap g.row.K.Denot ℕ). count_in cmp t.entries q ≡ more cmp key times q (count_in cmp m q)) (sym back)
    (noted_more cmp g.met.K.Ord.total m after.entries key times count is (c.in_ok-entry.ensures.update.0 count).0 q))
