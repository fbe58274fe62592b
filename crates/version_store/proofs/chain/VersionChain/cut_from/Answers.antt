use Rattle.std.proofs.Common.{◌≡◌, ℕ, nat_lt, rules}
use Rattle.std.specs.Prelude.{filter}
use Rattle.std.proofs.lemmas.Fn.{filter_same}
use Rattle.version_store.proofs.chain.VersionChain.cut_from.Goals as goal

pub returns : goal.returns
returns c =
    let n = c.args.number in
    let marks : c.retain.new.self ≡ filter (λ (m : ℕ). nat_lt m n) c.self.inside.marks =
    filter_same _ (λ (m : ℕ). nat_lt m n) _ (λ m b f k. search rules) _ _ c.retain.ensures.filtered in
    rw (← c.self.view_is) (λ i. record { versions = c.cut_from.ensures i; marks = marks i })
