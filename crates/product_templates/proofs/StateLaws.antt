-- Runs of acts: one list after another, and bytes that no act of a list writes.
use Rattle.std.proofs.Common.{◌≡◌, ℕ, zero, suc, ◌*◌, ◌≤◌, Bool, true, false, None, List, [], ◌++◌, refl, sym, subst, arith}
use Rattle.pic_regs.specs.Bytes.{Byte}
use Rattle.code_acts.specs.declared.acts.Act.{Act}
use Rattle.code_acts.specs.Acts.{State, run}
use Rattle.code_acts.specs.Codes.{sound}
use Rattle.product_templates.specs.Templates.{repeated}
use Rattle.code_acts.proofs.RunLaws.{run-append, run_keeps}

-- The state with these parts and no skip pending.
abbrev pub at : Byte → Bool → Bool → (ℕ → Byte) → State
at w c z m = record { w = w; carry = c; zero = z; skip = false; mem = m }

-- `run` as a word that doesn't compute, so that a list of many acts isn't run in the proof.
pub ran : List Act → State → State
ran acts s = run acts s

pub ran-is : (acts : List Act) (s : State) → ran acts s ≡ run acts s
unfolding ran
ran-is acts s = refl

pub ran-append : (xs ys : List Act) (s : State) → ran (xs ++ ys) s ≡ ran ys (ran xs s)
unfolding ran
ran-append xs ys s = run-append xs ys s

-- What holds after a list holds after it by its two parts.
pub in_parts : (P : State → Type 0) (xs ys : List Act) (s : State) → P (ran ys (ran xs s)) → P (ran (xs ++ ys) s)
in_parts P xs ys s h = subst P (sym (ran-append xs ys s)) h

-- What holds from a state with no skip pending, by its parts.
pub from_parts : (P : State → Type 0) (acts : List Act) (s : State) → s.skip ≡ false → P (run acts (at s.w s.carry s.zero s.mem)) → P (ran acts s)
from_parts P acts s none h =
    subst P (sym (ran-is acts s)) (subst (λ (b : Bool). P (run acts (record { w = s.w; carry = s.carry; zero = s.zero; skip = b; mem = s.mem }))) (sym none) h)

-- Sound acts keep each byte that they may not write.
pub ran-keeps : (uses writes : ℕ → Bool) (n : ℕ) (acts : List Act) (s : State) → sound uses writes None false acts ≡ true → writes n ≡ false → (ran acts s).mem n ≡ s.mem n
unfolding ran
ran-keeps uses writes n acts s sounds missed = run_keeps uses writes None false acts s n sounds missed

-- The bytes of any acts are used.
abbrev pub any : ℕ → Bool
any n = true

-- A number doubled so many times.
abbrev pub doubled : ℕ → ℕ → ℕ
doubled zero p = p
doubled (suc k) p = doubled k (2 * p)

doubled-more : (k p : ℕ) → p ≤ doubled k p
doubled-more zero p = omega arith
doubled-more (suc k) p = omega (arith, doubled-more k (2 * p))

-- What holds at p before acts holds at 2 * p after them, where that is at most m; so it does after them so many times.
pub iterate : (P : ℕ → State → Type 0) (m : ℕ) (acts : List Act) → ((p : ℕ) (s : State) → 2 * p ≤ m → P p s → P (2 * p) (ran acts s))
    → (k p : ℕ) (s : State) → doubled k p ≤ m → P p s → P (doubled k p) (ran (repeated k acts) s)
iterate P m acts step zero p s room h = subst (λ (t : State). P p t) (sym (ran-is [] s)) h
iterate P m acts step (suc k) p s room h =
    in_parts (λ t. P (doubled k (2 * p)) t) acts (repeated k acts) s
    (iterate P m acts step k (2 * p) (ran acts s) room (step p s (omega (arith, room, doubled-more k (2 * p))) h))
