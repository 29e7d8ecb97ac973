-- A write to an array is one to the memory that it is.
use Rattle.std.proofs.Common.{◌≡◌, ℕ, ◌<◌, Bool, true, false, List, length, get_or, set, ◌==◌, if◌then◌else◌, refl, ap, ◌∙◌, get_or-set_same, get_or-set_other}
use Rattle.std.proofs.Math.Path.{fun_ext}
use Rattle.std.proofs.lemmas.Bool.{eqb-true, eqb-false}
use Rattle.pic_regs.specs.Bytes.{Byte, bits, updated}
use Rattle.pic_regs.specs.State.{memory_of}

pub memory-set : (past : ℕ) (xs : List ℕ) (place value : ℕ) → place < length xs → memory_of past (set xs place value) ≡ updated (memory_of past xs) place (bits value)
memory-set past xs place value inside = fun_ext (λ at. by_test at (at == place) refl)
  where
    by_test : (at : ℕ) (test : Bool) → (at == place) ≡ test → memory_of past (set xs place value) at ≡ (if test then bits value else memory_of past xs at)
    by_test at true e =
        ap bits (ap (λ k. get_or (set xs place value) k past) (eqb-true at place e) ∙ get_or-set_same xs place value past inside)
    by_test at false e = ap bits (get_or-set_other xs place at value past (eqb-false at place e))

-- The same at a place that another number gives, for a byte.
pub set_at : (past : ℕ) (xs : List ℕ) (at place value : ℕ) (x : Byte) → at < length xs → at ≡ place → bits value ≡ x → memory_of past (set xs at value) ≡ updated (memory_of past xs) place x
set_at past xs at place value x inside here e = memory-set past xs at value inside ∙ (λ j. updated (memory_of past xs) (here j) (e j))
