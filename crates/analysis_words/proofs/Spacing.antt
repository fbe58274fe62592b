-- A line whose blanks are gathered, byte by byte.
use Rattle.std.proofs.Common.{◌≡◌, ℕ, ◌+◌, ◌<◌, ◌≤◌, ◌∙◌, Bool, true, false, List, [], ◌∷◌, ◌++◌, ap, sym, drop, length, get_or, append_assoc, if◌then◌else◌}
use Rattle.std.specs.Char.{is_ascii_whitespace}
use Rattle.std.proofs.lemmas.List.{append-nil, drop_more, drop_all}
use Rattle.analysis_words.specs.Quoting.{gap_before, spaced_byte, spaced_from}

pub no_gap : (line : List ℕ) (gap : Bool) → gap ≡ false → line ≡ line ++ gap_before gap
no_gap line gap none = sym (append-nil line) ∙ ap (λ (b : Bool). line ++ gap_before b) (sym none)

pub with_gap : (line new : List ℕ) (gap : Bool) → gap ≡ true → new ≡ line ++ 32 ∷ [] → new ≡ line ++ gap_before gap
with_gap line new gap some added = added ∙ ap (λ (b : Bool). line ++ gap_before b) (sym some)

-- a blank adds nothing
pub by_blank : (line : List ℕ) (gap : Bool) (byte : ℕ) → is_ascii_whitespace byte ≡ true → line ≡ line ++ spaced_byte gap byte
by_blank line gap byte blank =
    sym (append-nil line) ∙ ap (λ (b : Bool). line ++ (if b then [] else gap_before gap ++ byte ∷ [])) (sym blank)

-- another byte adds itself behind the gap
pub by_other : (line behind new : List ℕ) (gap : Bool) (byte : ℕ) → is_ascii_whitespace byte ≡ false
    → behind ≡ line ++ gap_before gap → new ≡ behind ++ byte ∷ [] → new ≡ line ++ spaced_byte gap byte
by_other line behind new gap byte other gapped is =
    is ∙ ap (λ (l : List ℕ). l ++ byte ∷ []) gapped ∙ append_assoc line (gap_before gap) (byte ∷ [])
    ∙ ap (λ (b : Bool). line ++ (if b then [] else gap_before gap ++ byte ∷ [])) (sym other)

-- the line so far and what the bytes behind it add are the whole
pub byte_further : (gap next : Bool) (bytes : List ℕ) (number d : ℕ) (whole line new : List ℕ)
    → number < length bytes → new ≡ line ++ spaced_byte gap (get_or bytes number d)
    → next ≡ is_ascii_whitespace (get_or bytes number d)
    → line ++ spaced_from gap (drop number bytes) ≡ whole
    → new ++ spaced_from next (drop (number + 1) bytes) ≡ whole
byte_further gap next bytes number d whole line new within is after before =
    let byte = get_or bytes number d in
    let rest = spaced_from (is_ascii_whitespace byte) (drop (number + 1) bytes) in
    ap (λ (b : Bool). new ++ spaced_from b (drop (number + 1) bytes)) after
    ∙ ap (λ (l : List ℕ). l ++ rest) is ∙ append_assoc line (spaced_byte gap byte) rest
    ∙ ap (λ (l : List ℕ). line ++ spaced_from gap l) (sym (drop_more bytes number d within)) ∙ before

-- at the end the line so far is the whole
pub line_at_end : (gap : Bool) (bytes : List ℕ) (number : ℕ) (whole line : List ℕ)
    → length bytes ≤ number → line ++ spaced_from gap (drop number bytes) ≡ whole → line ≡ whole
line_at_end gap bytes number whole line past is =
    sym (append-nil line) ∙ ap (λ (l : List ℕ). line ++ spaced_from gap l) (sym (drop_all number bytes past)) ∙ is
