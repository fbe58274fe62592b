use Rattle.std.proofs.Common.{ap}
use Rattle.std.proofs.lemmas.Bool.Decides.{Decides-eqb, Decides-int_eq, Decides-and, Decides-at, Decides-like}
use Rattle.prog_tree.specs.declared.cell.Region.{Region}
use Rattle.prog_tree.proofs.cell.Region.is_same.Goals as goal

-- regions are equal where each field is
pub returns : goal.returns
returns c =
    let a = c.args.self.now in
    let b = c.args.other.now in
    let fields =
    Decides-and _ _ (Decides-eqb a.table b.table)
    (Decides-and _ _ (Decides-int_eq a.first_low b.first_low)
    (Decides-and _ _ (Decides-int_eq a.first_high b.first_high)
    (Decides-and _ _ (Decides-int_eq a.second_low b.second_low) (Decides-int_eq a.second_high b.second_high)))) in
    Decides-like _
    (λ e i. record { table = e.0 i; first_low = e.1.0 i; first_high = e.1.1.0 i; second_low = e.1.1.1.0 i; second_high = e.1.1.1.1 i })
    (λ e. (ap (λ (r : Region). r.table) e, (ap (λ (r : Region). r.first_low) e, (ap (λ (r : Region). r.first_high) e, (ap (λ (r : Region). r.second_low) e, ap (λ (r : Region). r.second_high) e)))))
    (Decides-at _ _ c.eq.ensures fields)
