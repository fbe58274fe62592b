use Rattle.std.proofs.Common.{◌≡◌, ◌++◌, ◌∙◌, ◌<◌, ◌-◌, ℕ, List, Option, Some, None, ap, drop, get_or, length, length-drop, slice_get, string_bytes, subst, sym, take, take_all, arith}
use Rattle.std.proofs.lemmas.Option.{slice_get-get_or, slice_get_past}
use Rattle.text_places.specs.Listing.{TellsEach}
use Rattle.run_words.specs.PartPointing.{HasNoLineOf, PointsAtLineIn}
use Rattle.run_words.specs.ToldLines.{TellsLine, first_told, line_of, told_lines}
use Rattle.run_words.specs.declared.in_input.Part.{Part}
use Rattle.run_words.specs.declared.refusals.Refused.{Refused}
use Rattle.run_words.proofs.refused_lines.refused_words.Goals as goal

-- what points at the line of the first of some lines points at the first that is told
first_points : (part : Part) (lines told : List Refused) (d : Refused) (words : List ℕ) → lines ≡ told → 0 < length lines
    → PointsAtLineIn part (Some (get_or lines 0 d).line) words → PointsAtLineIn part (line_of (slice_get told 0)) words
first_points part lines told d words same some points =
    subst (λ (line : Option ℕ). PointsAtLineIn part line words)
    (sym (ap line_of (ap (λ (l : List Refused). slice_get l 0) (sym same) ∙ slice_get-get_or lines 0 d some))) points

-- and those behind it are all but the first
rest_told : (lines told : List Refused) → lines ≡ told → take (length lines - 1) (drop 1 lines) ≡ drop 1 told
rest_told lines told same =
    take_all (length lines - 1) (drop 1 lines) (omega (arith, length-drop 1 lines))
    ∙ ap (λ (l : List Refused). drop 1 l) same

pub returns-clause-said : goal.returns-clause-said
returns-clause-said c =
    let told = told_lines c.args.refusals.now in
    let first = string_bytes c.in-Some.first in
    let points = rw c.in-Some.is at c.in_ok-first.ensures.said in
    let points_first = first_points c.args.part c.told_lines.result.now told _ first c.told_lines.ensures c.in-len1-up.len_at_least points in
    let lines = c.in_ok-push_lines.ensures in
    let others : string_bytes c.push_lines.new.out ≡ lines.0 = lines.2 ∙ ap (λ old. old ++ lines.0) c.new-others.ensures.bytes in (
      first,
      lines.0,
      points_first,
      subst (λ (rest : List Refused). TellsEach (TellsLine c.args.part) rest lines.0) (rest_told c.told_lines.result.now told c.told_lines.ensures) lines.1,
      c.in_ok-words.ensures.ok ∙ (λ i. first ++ (others i ++ (c.in_ok-following.ensures i ++ c.in_ok-further.ensures i))),
    )

pub returns-in_default-clause-none : goal.returns-in_default-clause-none
returns-in_default-clause-none c =
    let told = told_lines c.args.refusals.now in
    let none : first_told c.args.refusals.now ≡ None =
    ap line_of (slice_get_past told 0 (omega (arith, ap length c.told_lines.ensures))) in
    subst (λ (line : Option ℕ). HasNoLineOf c.args.part.bytes.now line) (sym none) tt
