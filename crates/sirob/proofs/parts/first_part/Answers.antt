use Rattle.std.proofs.Common.{◌≡◌, ◌-◌, ℕ, List, ◌∷◌, length, take, drop, sym, subst, rules}
use Rattle.std.proofs.lemmas.List.{take_rest}
use Rattle.sirob.specs.Parts.{parts_of, full_lines_of}
use Rattle.sirob.proofs.PartLemmas.{before_parts-nil, parts_of-some, one_more_line}
use Rattle.sirob.proofs.QuietLines.{whole_part}
use Rattle.sirob.proofs.parts.first_part.Goals as goal

pub returns-then-not-has_percent-clause-parts : goal.returns-then-not-has_percent-clause-parts
returns-then-not-has_percent-clause-parts c = whole_part c.args.bytes.now (c.has_percent.ensures c.if-not-has_percent.true)

pub loop-at-init : goal.loop-at-init
loop-at-init c = record {
  within = search rules;
  same = sym (before_parts-nil (parts_of c.args.bytes.now) (parts_of-some c.args.bytes.now));
}

pub loop-at-preserved : goal.loop-at-preserved
loop-at-preserved c =
    let rest = take_rest c.args.bytes.now c.loop-at.at in
    let line = c.first_line-line.result.now in
    let front = c.first_line-line.ensures.front in
    let first = c.first_line-line.ensures.first in record {
      within = search rules;
      same = one_more_line c.args.bytes.now line c.loop-at.at c.loop-at.invariant.same
          (subst (λ (l : List ℕ). full_lines_of l ≡ line ∷ full_lines_of (drop (length line) l)) rest first) (sym c.if-begins_separator.ensures)
          (subst (λ (l : List ℕ). line ≡ take (length line) l) rest front);
    }
