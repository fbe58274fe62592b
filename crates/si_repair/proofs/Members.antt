-- Elements of lists, and what is told of a table's entries.
use Rattle.std.proofs.Common.{zero, suc, List, [], ◌∷◌, sym, subst, arith}
use Rattle.std.specs.Prelude.{Contains}
use Rattle.std.proofs.lemmas.List.Elements.{Contains-append_left, Contains-append_right}
use Rattle.conflict_pairs.specs.Table.{Judged}
use Rattle.robust_cert.specs.Sharing.{Entry}
use Rattle.si_repair.specs.Certificates.{told_by, told_of}

-- what is told of one of the entries is told
pub told_one : (es : List Judged) (e : Judged) (x : Entry) → Contains es e → Contains (told_by e.question e.verdict) x → Contains (told_of es) x
told_one [] e x (k, lt, is) m = absurd (omega (arith, lt))
told_one (d ∷ es) e x (zero, lt, is) m =
    Contains-append_left (told_by d.question d.verdict) (told_of es) x
    (subst (λ (f : Judged). Contains (told_by f.question f.verdict) x) (sym is) m)
told_one (d ∷ es) e x (suc k, lt, is) m =
    Contains-append_right (told_by d.question d.verdict) (told_of es) x (told_one es e x (k, omega (arith, lt), is) m)
