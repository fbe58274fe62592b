use Rattle.std.proofs.Common.{arith, ◌≡◌, ◌+◌, ◌∙◌, ap, drop, get_or, string_bytes}
use Rattle.std.proofs.lemmas.List.{take_rest}
use Rattle.run_words.specs.Cycles.{first_or, line_text}
use Rattle.run_words.proofs.Lines.{line_more, lines_at_end}
use Rattle.run_words.proofs.cycle.push_lines.Goals as goal

pub loop-index-preserved : goal.loop-index-preserved
loop-index-preserved c =
    let cycle = c.args.cycle.now in
    let index = c.loop-index.index in
    let end = first_or cycle 0 in
    let number = get_or cycle index 0 in
    let next_is : c.first_or-next.result ≡ first_or (drop (index + 1) cycle) end =
    c.first_or-next.ensures
    ∙ (ap (λ rest. first_or rest c.first_or-first.result) (take_rest cycle (index + 1))
    ∙ ap (λ first. first_or (drop (index + 1) cycle) first) c.first_or-first.ensures) in
    let told = c.deref.ensures ∙ c.in_ok-line.ensures ∙ ap (λ next. line_text c.args.book.now number next) next_is in
    line_more c.args.book.now cycle index 0 end _ (string_bytes c.loop-index.out) (string_bytes c.push_str.new.self) c.deref.result.now
    c.loop-index-test.true told c.in_ok-push_str.ensures.bytes c.loop-index.invariant

pub returns : goal.returns
returns c =
    lines_at_end c.args.book.now c.args.cycle.now c.loop-index.index (first_or c.args.cycle.now 0) _ (string_bytes c.loop-index.out)
    (omega (arith, c.loop-index-test.false)) c.loop-index.invariant
