-- Arrays that are filled byte by byte, as memories.
use Rattle.std.proofs.Common.{◌≡◌, ℕ, ◌⊎◌, inl, inr, ◌+◌, ◌<◌, ◌≤◌, Bool, true, false, List, length, get_or, set, ◌==◌, refl, sym, ap, ◌∙◌, arith, get_or-set_same, get_or-set_other}
use Rattle.std.proofs.Math.Path.{fun_ext}
use Rattle.std.proofs.lemmas.Bool.{cases_lt, eqb-true, eqb-false}
use Rattle.std.proofs.lemmas.List.{get_or_past}
use Rattle.pic_regs.specs.declared.starts.Start.{Start}
use Rattle.pic_regs.specs.Bytes.{Byte, bits, zeros}
use Rattle.pic_regs.specs.Start.{plain_start}
use Rattle.pic_regs.specs.State.{memory_of}

-- One more byte is written.
pub filled-more : (f : ℕ → Byte) (xs : List ℕ) (here at value : ℕ) → at ≡ here → at < length xs → bits value ≡ f here
    → ((k : ℕ) → k < here → bits (get_or xs k 0) ≡ f k) → (k : ℕ) → k < here + 1 → bits (get_or (set xs at value) k 0) ≡ f k
filled-more f xs here at value same inside e below k small = by_test (k == at) refl
  where
    by_test : (test : Bool) → (k == at) ≡ test → bits (get_or (set xs at value) k 0) ≡ f k
    by_test true t =
        let k_is : k ≡ at = eqb-true k at t in
        ap (λ j. bits (get_or (set xs at value) j 0)) k_is ∙ ap bits (get_or-set_same xs at value 0 inside) ∙ e ∙ sym (ap f (k_is ∙ same))
    by_test false t =
        let other = eqb-false k at t in
        ap bits (get_or-set_other xs at k value 0 other) ∙ below k (omega (arith, other))

-- Past the last address of data memory.
pub past-plain : (s : Start) (k : ℕ) → 512 ≤ k → plain_start s k ≡ zeros
past-plain s k h = grind arith

-- All bytes are written.
pub filled : (f : ℕ → Byte) (xs : List ℕ) (size : ℕ) → length xs ≡ size → ((k : ℕ) → k < size → bits (get_or xs k 0) ≡ f k) → ((k : ℕ) → size ≤ k → f k ≡ zeros) → memory_of 0x00 xs ≡ f
filled f xs size long below past = fun_ext (λ k. at_each k (cases_lt k size))
  where
    at_each : (k : ℕ) → (k < size) ⊎ (size ≤ k) → bits (get_or xs k 0) ≡ f k
    at_each k (inl small) = below k small
    at_each k (inr large) = ap bits (get_or_past xs k 0 (omega (arith, long, large))) ∙ sym (past k large)
