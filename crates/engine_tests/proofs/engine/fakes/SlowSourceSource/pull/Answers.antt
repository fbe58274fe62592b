use Rattle.std.proofs.Common.{◌≡◌, ◌<◌, ◌-◌, ◌++◌, ℕ, List, [], ◌∷◌, length, take, drop, suc, ap, sym, rules, arith, slice_index_or, slice_set}
use Rattle.std.proofs.lemmas.List.{take_all}
use Rattle.engine_tests.proofs.engine.fakes.SlowSourceSource.pull.Goals as goal

-- the first byte, written to the front of the buffer, and then the others
first_given : (bytes buffer : List ℕ) → 0 < length bytes → 0 < length buffer
    → bytes ≡ take 1 (slice_set buffer 0 (slice_index_or bytes 0 0)) ++ take (length bytes - 1) (drop 1 bytes)
first_given [] buffer some room = absurd (omega arith)
first_given (x ∷ xs) [] some room = absurd (omega arith)
first_given (x ∷ xs) (b ∷ bs) some room = ap (λ (l : List ℕ). x ∷ l) (sym (take_all (suc (length xs) - 1) xs (omega arith)))

pub returns-clause-bytes : goal.returns-clause-bytes
returns-clause-bytes c = (first_given c.args.self.now.bytes.now c.args.buffer.now (omega arith) (search rules), λ none. absurd (omega arith))
