-- A page of the canonical text, and how it grows.
use Rattle.std.specs.Prelude.{◌≡◌, ℕ, List, ◌++◌, Result, OnOk, refl}
use Rattle.std.specs.Coded.{Coded, code_by, coded×, coded_ℕ, coded_list}
use Rattle.prog_text.specs.Canonical.{Mark, bytes_of}

-- the text so far, and how many blocks the next line stands in
pub record Page : Type 0 where
  pub bytes : List ℕ
  pub depth : ℕ

abbrev pub page_code : Coded Page
page_code =
    code_by (List ℕ × ℕ) (coded× (coded_list coded_ℕ) coded_ℕ) (λ p. (p.bytes, p.depth)) (λ p. record { bytes = p.0; depth = p.1 }) (λ _. refl)

-- the page with these bytes behind its own
abbrev pub added : List ℕ → Page → Page
added bytes page = record { bytes = page.bytes ++ bytes; depth = page.depth }

-- the page has grown by these bytes, unless memory ran out
abbrev pub AddsText : {E : Type 0} → List ℕ → Page → Result (Unit {0}) E → Page → Type 0
AddsText bytes old result new = OnOk result (new ≡ added bytes old)

-- the same, by these marks
abbrev pub Writes : {E : Type 0} → List Mark → Page → Result (Unit {0}) E → Page → Type 0
Writes marks old result new = AddsText (bytes_of marks) old result new
