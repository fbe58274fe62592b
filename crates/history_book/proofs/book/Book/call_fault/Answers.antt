use Rattle.std.proofs.Common.{◌≡◌, length, sym, subst, arith}
use Rattle.std.specs.Prelude.{All}
use Rattle.std.proofs.lemmas.List.{length-map}
use Rattle.prog_tree.specs.declared.program.Program.{Program}
use Rattle.prog_tree.specs.Number.{IsI64}
use Rattle.prog_tree.specs.Tree.{program_tree}
use Rattle.prog_tree.proofs.Elements.{mapped_at}
use Rattle.history_book.specs.View.{instance_of, history_of}
use Rattle.history_book.proofs.book.Book.call_fault.Goals as goal

pub returns-then-len : goal.returns-then-len
returns-then-len c =
    let v = c.args.self.now in
    let p : Program = c.in-Some.program.now in
    let row = c.args.row.now in
    (_, mapped_at program_tree v.set.programs.items row.program p (sym c.in-Some.ensures), λ (same : length p.params.items ≡ length row.args). c.if-len.true (omega arith))

pub returns-then-row-commits : goal.returns-then-row-commits
returns-then-row-commits c =
    let v = c.args.self.now in
    let p : Program = c.in-Some.program.now in
    let row = c.args.row.now in
    let size : length (history_of v.rows) ≡ length v.rows = length-map v.rows instance_of in
    let same : length p.params.items ≡ length row.args = omega arith in
    ((_, mapped_at program_tree v.set.programs.items row.program p (sym c.in-Some.ensures), same, subst (All IsI64) c.as_slice.ensures c.read_numbers.ensures), omega (arith, c.commits.ensures.count))

pub returns : goal.returns
returns c =
    let v = c.args.self.now in
    let p : Program = c.in-Some.program.now in
    let row = c.args.row.now in
    let size : length (history_of v.rows) ≡ length v.rows = length-map v.rows instance_of in
    let same : length p.params.items ≡ length row.args = omega arith in
    record {
      called = (_, mapped_at program_tree v.set.programs.items row.program p (sym c.in-Some.ensures), same, subst (All IsI64) c.as_slice.ensures c.read_numbers.ensures);
      start = omega (arith, c.commits.ensures.count);
    }
