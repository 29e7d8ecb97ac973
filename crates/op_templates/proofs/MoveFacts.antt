-- The templates of operations without a carry.
use Rattle.std.proofs.lemmas.Bool.{and_from, lt-ltb}
use Rattle.std.proofs.lemmas.Nat.{and_le_l, or_of_8, xor_of_8}
use Rattle.std.proofs.Common.{◌≡◌, ℕ, zero, suc, ◌+◌, ◌-◌, ◌<◌, Bool, true, false, not, ◌&&◌, ◌||◌, nat_lt, IsTrue, refl, ◌∙◌, sym, subst, arith, lit≤, bit_and, bit_or}
use Rattle.std.specs.Prelude.{bit_xor}
use Rattle.frp_tree.specs.declared.syntax.BinOp.{BinOp}
use Rattle.frp_tree.specs.declared.syntax.BinOp.TheVariants.{Or, And, BitOr, BitXor, BitAnd}
use Rattle.efrp_meaning.specs.Values.{truth_number, holds}
use Rattle.byte_ops.specs.declared.operations.Op.TheVariants as op
use Rattle.byte_ops.specs.Kinds.{is_bits, is_logic}
use Rattle.pic_regs.specs.Bytes.{Byte, num, bits, one_if}
use Rattle.pic_regs.proofs.ByteLaws.{num-bits, num-below, bits-num}
use Rattle.pic_regs.proofs.BitLaws.{bits-and, bits-or, bits-xor, num_of}
use Rattle.pic_machine.specs.Results.{complement, both, either, differing}
use Rattle.op_templates.specs.Laws.{IsTemplate}
use Rattle.op_templates.specs.Templates.{template_of}
use Rattle.op_templates.proofs.TemplateFacts.{template-from}

pub set-template : (to k : ℕ) → k < 256 → IsTemplate (op.Set to k) (template_of (op.Set to k))
set-template to k small =
    let fits : (nat_lt k 256 && true && true) ≡ true = and_from (nat_lt k 256 && true) true (and_from (nat_lt k 256) true (lt-ltb k 256 small) refl) refl in
    template-from (op.Set to k) (template_of (op.Set to k)) (λ w c z mem h. omega (arith, num-bits k, small)) fits (lit≤ tt, lit≤ tt)

pub copy-template : (to a : ℕ) → IsTemplate (op.Copy to a) (template_of (op.Copy to a))
copy-template to a = template-from (op.Copy to a) (template_of (op.Copy to a)) (λ w c z mem h. refl) refl (lit≤ tt, lit≤ tt)

-- A bit turned.
turned : (b : Bool) → one_if (not b) + one_if b ≡ 1
turned true = refl
turned false = refl

num-complement : (x : Byte) → num (complement x) ≡ 255 - num x
num-complement x = omega (arith, turned x.b7, turned x.b6, turned x.b5, turned x.b4, turned x.b3, turned x.b2, turned x.b1, turned x.b0)

pub com-template : (to a : ℕ) → IsTemplate (op.Com to a) (template_of (op.Com to a))
com-template to a =
    template-from (op.Com to a) (template_of (op.Com to a)) (λ w c z mem h. num-complement (mem 14)) refl (lit≤ tt, lit≤ tt)

-- What holds of 0 and of 1 holds of a byte that is a bool.
pub bool_cases : (P : Byte → Type 0) → P (bits 0) → P (bits 1) → (x : Byte) → num x < 2 → P x
bool_cases P of_0 of_1 x below = subst P (bits-num x) (at (num x) below)
  where
    at : (n : ℕ) → n < 2 → P (bits n)
    at zero h = of_0
    at (suc zero) h = of_1
    at (suc (suc n)) h = absurd (omega (arith, h))

num-not : (x : Byte) → num x < 2 → num (differing x (bits 1)) ≡ truth_number (not (holds (num x)))
num-not = bool_cases (λ x. num (differing x (bits 1)) ≡ truth_number (not (holds (num x)))) refl refl

pub not-template : (to a : ℕ) → IsTemplate (op.Not to a) (template_of (op.Not to a))
not-template to a =
    template-from (op.Not to a) (template_of (op.Not to a)) (λ w c z mem below. num-not (mem 14) below) refl (lit≤ tt, lit≤ tt)

-- Two bytes bit by bit, as numbers.
num-both : (x y : Byte) → num (both x y) ≡ bit_and (num x) (num y)
num-both x y =
    let below : bit_and (num x) (num y) < 256 = omega (arith, and_le_l (num x) (num y), num-below x) in
    sym (num_of (bit_and (num x) (num y)) (both x y) below (bits-and (num x) (num y) ∙ (λ j. both (bits-num x j) (bits-num y j))))

pub num-either : (x y : Byte) → num (either x y) ≡ bit_or (num x) (num y)
num-either x y =
    let below : bit_or (num x) (num y) < 256 = or_of_8 (num x) (num y) (num-below x) (num-below y) in
    sym (num_of (bit_or (num x) (num y)) (either x y) below (bits-or (num x) (num y) ∙ (λ j. either (bits-num x j) (bits-num y j))))

num-differing : (x y : Byte) → num (differing x y) ≡ bit_xor (num x) (num y)
num-differing x y =
    let below : bit_xor (num x) (num y) < 256 = xor_of_8 (num x) (num y) (num-below x) (num-below y) in
    sym (num_of (bit_xor (num x) (num y)) (differing x y) below (bits-xor (num x) (num y) ∙ (λ j. differing (bits-num x j) (bits-num y j))))

pub bits-template : (f : BinOp) (to a b : ℕ) → IsTrue (is_bits f) → IsTemplate (op.Bits f to a b) (template_of (op.Bits f to a b))
bits-template BitOr to a b kind =
    template-from (op.Bits BitOr to a b) (template_of (op.Bits BitOr to a b)) (λ w c z mem h. num-either (mem 14) (mem 16)) refl (lit≤ tt, lit≤ tt)
bits-template BitXor to a b kind =
    template-from (op.Bits BitXor to a b) (template_of (op.Bits BitXor to a b)) (λ w c z mem h. num-differing (mem 14) (mem 16)) refl (lit≤ tt, lit≤ tt)
bits-template BitAnd to a b kind =
    template-from (op.Bits BitAnd to a b) (template_of (op.Bits BitAnd to a b)) (λ w c z mem h. num-both (mem 14) (mem 16)) refl (lit≤ tt, lit≤ tt)
bits-template _ to a b kind = absurd (cc)

-- Two bools.
bool_and : (x y : Byte) → num x < 2 → num y < 2 → num (both x y) ≡ truth_number (holds (num x) && holds (num y))
bool_and x y x_below y_below =
    bool_cases (λ u. num (both u y) ≡ truth_number (holds (num u) && holds (num y)))
    (bool_cases (λ v. num (both (bits 0) v) ≡ truth_number (holds 0 && holds (num v))) refl refl y y_below)
    (bool_cases (λ v. num (both (bits 1) v) ≡ truth_number (holds 1 && holds (num v))) refl refl y y_below) x x_below

bool_or : (x y : Byte) → num x < 2 → num y < 2 → num (either x y) ≡ truth_number (holds (num x) || holds (num y))
bool_or x y x_below y_below =
    bool_cases (λ u. num (either u y) ≡ truth_number (holds (num u) || holds (num y)))
    (bool_cases (λ v. num (either (bits 0) v) ≡ truth_number (holds 0 || holds (num v))) refl refl y y_below)
    (bool_cases (λ v. num (either (bits 1) v) ≡ truth_number (holds 1 || holds (num v))) refl refl y y_below) x x_below

pub logic-template : (f : BinOp) (to a b : ℕ) → IsTrue (is_logic f) → IsTemplate (op.Logic f to a b) (template_of (op.Logic f to a b))
logic-template Or to a b kind =
    template-from (op.Logic Or to a b) (template_of (op.Logic Or to a b)) (λ w c z mem h. bool_or (mem 14) (mem 16) h.0 h.1) refl (lit≤ tt, lit≤ tt)
logic-template And to a b kind =
    template-from (op.Logic And to a b) (template_of (op.Logic And to a b)) (λ w c z mem h. bool_and (mem 14) (mem 16) h.0 h.1) refl (lit≤ tt, lit≤ tt)
logic-template _ to a b kind = absurd (cc)
