-- What a reading gives, whichever it is.
use Rattle.std.proofs.Common.{◌≡◌, ◌≢◌, ℕ, List, Some, Result, Ok, Err, IfOk, IfErr, IsErrAnd, inl, inr, refl, sym, ap, subst, ◌∙◌}
use Rattle.serde_json.specs.Data.{Data}
use Rattle.robust_cert.specs.declared.certificate.Certificate.{Certificate}
use Rattle.robust_cert.specs.declared.fault.JsonFault.{JsonFault}
use Rattle.robust_cert.specs.declared.fault.JsonFault.TheVariants.{NotJson, WrongShape, WrongVersion, Memory}
use Rattle.robust_cert.specs.Json.{IsValueOf}
use Rattle.robust_cert.specs.Reading.{ReadsAs, IsTextOf, IsOtherVersion, IsFaultOf, HasFault, Answers, version_of}
use Rattle.robust_cert.proofs.Values.{version_known, same_value}

-- bytes are the text of one value
same_data : (bytes : List ℕ) (d e : Data) → ReadsAs bytes d → ReadsAs bytes e → e ≡ d
same_data bytes d e first second = let h : Some d ≡ Some e = sym first.1 ∙ second.1 in cc

value_of : (bytes : List ℕ) (d : Data) → ReadsAs bytes d → (c : Certificate) → IsTextOf c bytes → IsValueOf c d
value_of bytes d reads c text = subst (IsValueOf c) (same_data bytes d text.0 reads text.1) text.2

-- the value of a certificate is of no other version
pub not_other : (d : Data) → IsOtherVersion (version_of d) → (c : Certificate) → IsValueOf c d → ⊥
not_other d other c value = elim (version_known c d value) [ inl e ↦ other.1 e | inr e ↦ other.2 e ]

pub all_taken : (bytes : List ℕ) (d : Data) (r : Result Certificate JsonFault) → ReadsAs bytes d → IfOk r (λ c. IsValueOf c d) → IfErr r (λ fault. fault ≢ Memory → IsFaultOf d fault)
    → (c : Certificate) → IsTextOf c bytes → Answers r (Ok c)
all_taken bytes d (Ok b) reads ok err c text = inl (ap Ok (same_value b c d ok (value_of bytes d reads c text)))
all_taken bytes d (Err NotJson) reads ok err c text = absurd (err (λ e. cc))
all_taken bytes d (Err WrongShape) reads ok err c text =
    let h : IsFaultOf d WrongShape = err (λ e. cc) in absurd (h.1 c (value_of bytes d reads c text))
all_taken bytes d (Err WrongVersion) reads ok err c text =
    let h : IsFaultOf d WrongVersion = err (λ e. cc) in absurd (not_other d h c (value_of bytes d reads c text))
all_taken bytes d (Err Memory) reads ok err c text = inr refl

none_refused : (bytes : List ℕ) (fault : JsonFault) → (fault ≢ Memory → HasFault bytes fault) → (c : Certificate) → IsTextOf c bytes → fault ≡ Memory
none_refused bytes NotJson h c text = absurd (h (λ e. cc) text.0 text.1)
none_refused bytes WrongShape h c text = let g : HasFault bytes WrongShape = h (λ e. cc) in absurd (g.2.1 c (value_of bytes g.0 g.1 c text))
none_refused bytes WrongVersion h c text = let g : HasFault bytes WrongVersion = h (λ e. cc) in absurd (not_other g.0 g.2 c (value_of bytes g.0 g.1 c text))
none_refused bytes Memory h c text = refl

-- a fault that a `?` passes on is want of memory, where the bytes are a certificate's text
pub only_memory : (bytes : List ℕ) (fault : JsonFault) (r : Result Certificate JsonFault) → IsErrAnd r (λ e. e ≡ fault) → (fault ≢ Memory → HasFault bytes fault) → (c : Certificate) → IsTextOf c bytes → Answers r (Ok c)
only_memory bytes fault (Ok b) is h c text = absurd is
only_memory bytes fault (Err e) is h c text = inr (ap Err (is ∙ none_refused bytes fault h c text))

-- bytes that are a certificate's text have no other reading
pub only_taken : (bytes : List ℕ) (b : Certificate) → IsTextOf b bytes → (c : Certificate) → IsTextOf c bytes → Answers (Ok b) (Ok c)
only_taken bytes b h c text = all_taken bytes h.0 (Ok b) h.1 h.2 tt c text

pub not_refused : (bytes : List ℕ) (b : Certificate) → IsTextOf b bytes → (fault : JsonFault) → HasFault bytes fault → Answers (Ok b) (Err fault)
not_refused bytes b h fault wrong = absurd (subst (HasFault bytes) (none_refused bytes fault (λ _. wrong) b h) wrong)
