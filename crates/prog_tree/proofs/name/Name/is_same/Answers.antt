use Rattle.std.proofs.Common.{◌≡◌, ◌∙◌, Bool, bytes_eq, sym, subst}
use Rattle.std.specs.Prelude.{◌↔◌, IsTrue}
use Rattle.std.proofs.lemmas.Slice.Eq.{bytes_eq-Decides}
use Rattle.prog_tree.proofs.name.Name.is_same.Goals as goal

pub returns-clause-same : goal.returns-clause-same
returns-clause-same c =
    let x = c.args.self.now in
    let y = c.args.other.now in
    let test : c.same_bytes.result ≡ bytes_eq x y =
    c.same_bytes.ensures ∙ (λ i. bytes_eq ((c.as_bytes.ensures.value ∙ c.self.view_is) i) ((c.as_bytes-2.ensures.value ∙ c.other.view_is) i)) in
    subst (λ (b : Bool). IsTrue b ↔ (x ≡ y)) (sym test) (bytes_eq-Decides x y)
