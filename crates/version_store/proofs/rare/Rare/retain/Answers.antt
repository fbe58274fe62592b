use Rattle.std.proofs.Common.{◌≡◌, [], rules, refl}
use Rattle.std.specs.Prelude.{None}
use Rattle.version_store.proofs.rare.Rare.retain.Goals as goal

-- of a list that has never held an item nothing is tested
pub returns-in_default-clause-filtered : goal.returns-in_default-clause-filtered
returns-in_default-clause-filtered g c =
    let none : c.self.inside.items ≡ None = search rules in
    rw (← c.self.view_is, none) ([], c.args.f, refl, refl, refl)
