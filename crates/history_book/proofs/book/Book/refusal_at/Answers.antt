use Rattle.std.proofs.Common.{◌≡◌, length, ap, sym, ◌∙◌, arith}
use Rattle.std.specs.Prelude.{Option, Some, None, slice_get, if◌then◌else◌}
use Rattle.std.specs.Option.{option_or}
use Rattle.prog_tree.specs.declared.program.Program.{Program}
use Rattle.history_book.specs.View.{full_fault}
use Rattle.history_book.specs.declared.fault.BeginFault.{BeginFault}
use Rattle.history_book.specs.declared.fault.BeginFault.TheVariants.{Full}
use Rattle.history_book.proofs.BeginLaws.{fault_found}
use Rattle.history_book.proofs.book.Book.refusal_at.Goals as goal

pub returns-in-Some-start_fault : goal.returns-in-Some-start_fault
returns-in-Some-start_fault c =
    let v = c.args.self.now in
    let p : Program = c.in-Some.found.now in
    let same : length p.params.items ≡ length c.args.args.now = omega arith in
    sym (fault_found v c.args.start (slice_get v.set.programs.items c.args.program) p c.args.args.now (sym c.in-Some.ensures) same
    ∙ ap (λ (o : Option BeginFault). option_or o (full_fault v)) (sym c.in-Some-start_fault.ensures))

pub returns-then-is_full : goal.returns-then-is_full
returns-then-is_full c =
    let v = c.args.self.now in
    let p : Program = c.in-Some.found.now in
    let same : length p.params.items ≡ length c.args.args.now = omega arith in
    sym (fault_found v c.args.start (slice_get v.set.programs.items c.args.program) p c.args.args.now (sym c.in-Some.ensures) same
    ∙ ap (λ (o : Option BeginFault). option_or o (full_fault v)) (sym c.in_default-start_fault.ensures)
    ∙ ap (λ b. if b then Some Full else None) (sym c.is_full.ensures ∙ c.if-is_full.true))

pub returns : goal.returns
returns c =
    let v = c.args.self.now in
    let p : Program = c.in-Some.found.now in
    let same : length p.params.items ≡ length c.args.args.now = omega arith in
    sym (fault_found v c.args.start (slice_get v.set.programs.items c.args.program) p c.args.args.now (sym c.in-Some.ensures) same
    ∙ ap (λ (o : Option BeginFault). option_or o (full_fault v)) (sym c.in_default-start_fault.ensures)
    ∙ ap (λ b. if b then Some Full else None) (sym c.is_full.ensures ∙ c.if-is_full.false))
