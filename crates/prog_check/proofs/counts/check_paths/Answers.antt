use Rattle.std.proofs.Common.{◌≡◌, ◌∙◌, ap, sym, refl, true, false, nat_lt, length, arith, tests}
use Rattle.std.specs.List.{list_any}
use Rattle.prog_tree.specs.Tree.{program_tree}
use Rattle.prog_check.specs.Counts.{is_above}
use Rattle.prog_check.specs.Paths.{program_paths}
use Rattle.prog_check.proofs.CountLemmas.{many_paths, many_accesses}
use Rattle.prog_check.proofs.counts.check_paths.Goals as goal

pub returns-then-count_paths-gt-MAX_PATHS : goal.returns-then-count_paths-gt-MAX_PATHS
returns-then-count_paths-gt-MAX_PATHS c =
    let tables = c.args.tables.now in
    let p = program_tree c.args.program.now in
    let many : nat_lt 32 (length (program_paths tables c.args.number p)) ≡ true = many_paths tables c.args.number p ∙ ap (nat_lt 32) (sym c.count_paths.ensures) ∙ search (tests, arith) in
    rw many refl

pub returns-then-is_above : goal.returns-then-is_above
returns-then-is_above c =
    let tables = c.args.tables.now in
    let p = program_tree c.args.program.now in
    let few : nat_lt 32 (length (program_paths tables c.args.number p)) ≡ false = many_paths tables c.args.number p ∙ ap (nat_lt 32) (sym c.count_paths.ensures) ∙ search (tests, arith) in
    let heavy : list_any (λ path. nat_lt 24 (length path.accesses)) (program_paths tables c.args.number p) ≡ true =
    many_accesses tables c.args.number p ∙ ap (is_above 24) (sym c.heaviest_path-heaviest.ensures) ∙ sym c.is_above.ensures ∙ c.if-is_above.true
    in
    rw (few, heavy) refl

pub returns : goal.returns
returns c =
    let tables = c.args.tables.now in
    let p = program_tree c.args.program.now in
    let few : nat_lt 32 (length (program_paths tables c.args.number p)) ≡ false = many_paths tables c.args.number p ∙ ap (nat_lt 32) (sym c.count_paths.ensures) ∙ search (tests, arith) in
    let light : list_any (λ path. nat_lt 24 (length path.accesses)) (program_paths tables c.args.number p) ≡ false =
    many_accesses tables c.args.number p ∙ ap (is_above 24) (sym c.heaviest_path-heaviest.ensures) ∙ sym c.is_above.ensures ∙ c.if-is_above.false
    in
    (rw (few, light) refl, tt)
