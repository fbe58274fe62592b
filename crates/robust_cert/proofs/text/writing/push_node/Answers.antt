use Rattle.std.proofs.Common.{◌≡◌, ◌++◌, ◌∙◌, OnOk, codes, string_bytes, ap, subst, arith, w64, to_z, of_z}
use Rattle.std.specs.Fmt.{signed_decimal}
use Rattle.std.proofs.lemmas.Int.{ints}
use Rattle.robust_cert.proofs.Texts.{mine_text, mine_unknown_text, theirs_text, theirs_unknown_text, integer_text}
use Rattle.robust_cert.proofs.text.writing.push_node.Goals as goal

pub returns-in-Mine : goal.returns-in-Mine
returns-in-Mine c = rw c.in-Mine.is (subst (λ s. OnOk c.push_lettered.result (string_bytes c.push_lettered.new.text ≡ string_bytes c.args.text.now ++ s)) (mine_text c.in-Mine.index) c.push_lettered.ensures)

pub returns-in-MineUnknown : goal.returns-in-MineUnknown
returns-in-MineUnknown c = rw c.in-MineUnknown.is (subst (λ s. OnOk c.push_lettered-in-MineUnknown.result (string_bytes c.push_lettered-in-MineUnknown.new.text ≡ string_bytes c.args.text.now ++ s)) (mine_unknown_text c.in-MineUnknown.index) c.push_lettered-in-MineUnknown.ensures)

pub returns-in-Theirs : goal.returns-in-Theirs
returns-in-Theirs c = rw c.in-Theirs.is (subst (λ s. OnOk c.push_lettered-in-Theirs.result (string_bytes c.push_lettered-in-Theirs.new.text ≡ string_bytes c.args.text.now ++ s)) (theirs_text c.in-Theirs.index) c.push_lettered-in-Theirs.ensures)

pub returns-in-TheirsUnknown : goal.returns-in-TheirsUnknown
returns-in-TheirsUnknown c = rw c.in-TheirsUnknown.is (subst (λ s. OnOk c.push_lettered-in-TheirsUnknown.result (string_bytes c.push_lettered-in-TheirsUnknown.new.text ≡ string_bytes c.args.text.now ++ s)) (theirs_unknown_text c.in-TheirsUnknown.index) c.push_lettered-in-TheirsUnknown.ensures)

pub returns-in-Number : goal.returns-in-Number
returns-in-Number c =
    let number = c.in-Number.number in
    let same : to_z w64 (of_z w64 number) ≡ number = omega (arith, ints) in
    let text = ap (λ k. codes "[\"n\"," ++ (signed_decimal k ++ codes "]")) same ∙ integer_text number in
    rw c.in-Number.is (subst (λ s. OnOk c.push_lettered-in-Number.result (string_bytes c.push_lettered-in-Number.new.text ≡ string_bytes c.args.text.now ++ s)) text c.push_lettered-in-Number.ensures)
