-- One line behind others, and what the whole says by it.
use Rattle.std.proofs.Common.{◌≤◌, Bool, true, false, Option, Some, IfSome, ◌≡◌, ℕ, ◌+◌, ◌<◌, ◌==◌, List, [], ◌∷◌, ◌++◌, length, map, None, Result, Ok, refl, sym, ◌∙◌, ap, subst, arith}
use Rattle.std.specs.List.{before_first, after_first}
use Rattle.std.specs.Str.Lines.{strip_carriage_return}
use Rattle.si_engine.specs.declared.input.line_fault.LineFault.{LineFault}
use Rattle.si_engine.specs.declared.input.line_fault.LineFault.TheVariants as f
use Rattle.si_engine.specs.declared.input.part_fault.PartFault.TheVariants as fault
use Rattle.si_engine.specs.declared.input.source.InputFault.{InputFault}
use Rattle.si_engine.specs.declared.input.source.InputFault.TheVariants as i
use Rattle.si_engine.specs.Limits.{input_limit}
use Rattle.si_engine.specs.Lines.{lines_of}
use Rattle.si_engine.specs.Sources.{CanGive, ForInput}
use Rattle.si_engine.specs.LineFaults.{◌>>=◌, Fails, IsFault}
use Rattle.si_engine.specs.Sayings.{sayings_from, IsPartFault}
use Rattle.si_engine.proofs.LineLemmas.{pieces-cut}
use Rattle.si_engine.proofs.RunLaws.{longer_than}

-- the first line, and those behind it
lines-cut : (bs : List ℕ) → 0 < length bs → lines_of bs ≡ strip_carriage_return (before_first (λ c. c == 10) bs) ∷ lines_of (after_first (λ c. c == 10) bs)
lines-cut bs some = ap (map strip_carriage_return) (pieces-cut 10 bs some)

-- a whole fails where its first step fails
pub fails_on : {X Y : Type 0} (read : Result X LineFault) (go : X → Result Y LineFault) (fault : LineFault) → Fails fault read → Fails fault (read >>= go)
fails_on read go f.Memory bad = tt
fails_on read go (f.BadLine n) bad = rw bad refl
fails_on read go (f.UnknownName n) bad = rw bad refl
fails_on read go (f.WrongKeys n) bad = rw bad refl
fails_on read go (f.LateRow n) bad = rw bad refl
fails_on read go (f.RepeatedRow n) bad = rw bad refl
fails_on read go (f.TooManyEvents n) bad = rw bad refl

-- how lines are read: what each says, and what is wrong with it behind others
module _ {S : Type 0} (say : (line : ℕ) → List ℕ → Result S LineFault) (wrong : (line : ℕ) → List S → S → Option LineFault) where
  -- a line that is right where it stands
  step : (line : ℕ) (before : List S) (bytes : List ℕ) (lines : List (List ℕ)) (said : S) → say line bytes ≡ Ok said → wrong line before said ≡ None
      → sayings_from say wrong line before (bytes ∷ lines) ≡ sayings_from say wrong (line + 1) (before ++ said ∷ []) lines
  unfolding sayings_from
  step line before bytes lines said read placed = rw (read, placed) refl

  -- a line that says nothing
  bad : (line : ℕ) (before : List S) (bytes : List ℕ) (lines : List (List ℕ)) (fault : LineFault)
      → Fails fault (say line bytes) → Fails fault (sayings_from say wrong line before (bytes ∷ lines))
  unfolding sayings_from
  bad line before bytes lines fault fails = fails_on (say line bytes) _ fault fails

  -- a line that is wrong where it stands
  misplaced : (line : ℕ) (before : List S) (bytes : List ℕ) (lines : List (List ℕ)) (said : S) (fault : LineFault) → say line bytes ≡ Ok said
      → IsFault fault (wrong line before said) → Fails fault (sayings_from say wrong line before (bytes ∷ lines))
  unfolding sayings_from
  misplaced line before bytes lines said f.Memory read is = tt
  misplaced line before bytes lines said (f.BadLine n) read is = rw (read, is) refl
  misplaced line before bytes lines said (f.UnknownName n) read is = rw (read, is) refl
  misplaced line before bytes lines said (f.WrongKeys n) read is = rw (read, is) refl
  misplaced line before bytes lines said (f.LateRow n) read is = rw (read, is) refl
  misplaced line before bytes lines said (f.RepeatedRow n) read is = rw (read, is) refl
  misplaced line before bytes lines said (f.TooManyEvents n) read is = rw (read, is) refl

  -- no line is left
  pub all_said : (line : ℕ) (before : List S) (rest : List ℕ) (all : Result (List S) LineFault) → sayings_from say wrong line before (lines_of rest) ≡ all
      → length rest ≡ 0 → all ≡ Ok before
  unfolding sayings_from
  all_said line before [] all same none = sym same
  all_said line before (b ∷ bs) all same none = absurd (omega arith)

-- a whole that all lines make
pub made : {S W : Type 0} (whole : List S → W) (all : Result (List S) LineFault) (sayings : List S) (is : W) → all ≡ Ok sayings → is ≡ whole sayings → (all >>= (λ s. Ok (whole s))) ≡ Ok is
made whole all sayings is said same = rw said (ap Ok (sym same))

-- a line stands in front of those that are left, behind which the others say what the whole says
pub record Stands {S : Type 0} (say : (line : ℕ) → List ℕ → Result S LineFault) (wrong : (line : ℕ) → List S → S → Option LineFault)
    (all : Result (List S) LineFault) (line : ℕ) (before : List S) (rest bytes : List ℕ) : Type 0 where
  pub same : sayings_from say wrong line before (lines_of rest) ≡ all
  pub some : 0 < length rest
  pub first : bytes ≡ strip_carriage_return (before_first (λ c. c == 10) rest)

pub stands : {S : Type 0} {say : (line : ℕ) → List ℕ → Result S LineFault} {wrong : (line : ℕ) → List S → S → Option LineFault}
    {all : Result (List S) LineFault} {line : ℕ} {before : List S} {rest bytes : List ℕ} → sayings_from say wrong line before (lines_of rest) ≡ all
    → 0 < length rest → bytes ≡ strip_carriage_return (before_first (λ c. c == 10) rest) → Stands say wrong all line before rest bytes
stands same some first = record { same = same; some = some; first = first }

module _ {S : Type 0} (say : (line : ℕ) → List ℕ → Result S LineFault) (wrong : (line : ℕ) → List S → S → Option LineFault)
    (all : Result (List S) LineFault) (line : ℕ) (before : List S) (rest bytes : List ℕ) (s : Stands say wrong all line before rest bytes) where
  -- so the whole says what this line and those behind it say
  from_here : sayings_from say wrong line before (bytes ∷ lines_of (after_first (λ c. c == 10) rest)) ≡ all
  from_here = ap (sayings_from say wrong line before) (ap (λ b. b ∷ lines_of (after_first (λ c. c == 10) rest)) s.first ∙ sym (lines-cut rest s.some)) ∙ s.same

  pub line_fails : (fault : LineFault) → Fails fault (say line bytes) → Fails fault all
  line_fails fault fails = subst (λ (r : Result (List S) LineFault). Fails fault r) from_here (bad say wrong line before bytes _ fault fails)

  pub said_fails : (said : S) (fault : LineFault) → say line bytes ≡ Ok said → IsFault fault (wrong line before said) → Fails fault all
  said_fails said fault read is = subst (λ (r : Result (List S) LineFault). Fails fault r) from_here (misplaced say wrong line before bytes _ said fault read is)

  pub said_stands : (said : S) (behind : List ℕ) → say line bytes ≡ Ok said → wrong line before said ≡ None → behind ≡ after_first (λ c. c == 10) rest
      → sayings_from say wrong (line + 1) (before ++ said ∷ []) (lines_of behind) ≡ all
  said_stands said behind read placed is =
      ap (λ bs. sayings_from say wrong (line + 1) (before ++ said ∷ []) (lines_of bs)) is ∙ (sym (step say wrong line before bytes _ said read placed) ∙ from_here)

-- ---- the bytes of a source

-- the bytes can't be had
pub unread_part : {Y : Type 0} (read : List ℕ → Result Y LineFault) (f : InputFault) (left : Option (List ℕ)) (failed : Bool)
    → (f ≡ i.TooLong → IfSome left (λ all. input_limit < length all)) → (f ≡ i.ReadFault → failed ≡ true) → failed ≡ false
    → ForInput left (λ part. IsPartFault (read part) part (fault.Input f))
unread_part read i.TooLong None failed long fails works = let input = longer_than input_limit in (input.0, tt, input.1)
unread_part read i.TooLong (Some bytes) failed long fails works = (bytes, refl, long refl)
unread_part read i.ReadFault left failed long fails works = let never : true ≡ false = sym (fails refl) ∙ works in absurd (cc)
unread_part read i.Memory None failed long fails works = ([], tt, tt)
unread_part read i.Memory (Some bytes) failed long fails works = (bytes, refl, tt)

-- the bytes can't be read without this fault
pub fault_here : {Y : Type 0} (read : List ℕ → Result Y LineFault) (left : Option (List ℕ)) (items part : List ℕ) (f : LineFault) → part ≡ items → length items ≤ input_limit
    → CanGive left items → Fails f (read part) → ForInput left (λ bytes. IsPartFault (read bytes) bytes (fault.Line f))
fault_here read left items part f same short can fails = (items, can, (short, subst (λ (p : List ℕ). Fails f (read p)) same fails))
