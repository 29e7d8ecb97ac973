-- The templates of `+` and `-`.
use Rattle.std.proofs.lemmas.Bool.{cases_lt, lt-ltb, le-leb, false_from_ne_true, ltb-true, leb-true}
use Rattle.std.proofs.Common.{◌≡◌, ℕ, ◌+◌, ◌-◌, ◌*◌, ◌/◌, ◌%◌, ◌<◌, Bool, true, false, not, nat_lt, nat_le, IsTrue, refl, ap, sym, ◌∙◌, inl, inr, arith, lit≤}
use Rattle.frp_tree.specs.declared.syntax.BinOp.{BinOp}
use Rattle.frp_tree.specs.declared.syntax.BinOp.TheVariants.{Add, Sub}
use Rattle.byte_ops.specs.declared.operations.Op.TheVariants as op
use Rattle.byte_ops.specs.declared.operations.Pair.{Pair}
use Rattle.byte_ops.specs.Kinds.{is_sum}
use Rattle.pic_regs.specs.Bytes.{Byte, num, bits, one_if}
use Rattle.pic_regs.proofs.ByteLaws.{num-bits, num-below}
use Rattle.code_acts.specs.Acts.{State, run}
use Rattle.op_templates.specs.Laws.{IsTemplate}
use Rattle.op_templates.specs.Sums.{high_sum, sum_template}
use Rattle.op_templates.specs.Templates.{template_of}
use Rattle.op_templates.proofs.TemplateFacts.{at_rest, template-from}

-- A carry and a borrow as numbers.
carry_number : (n : ℕ) → n < 512 → one_if (nat_lt 255 n) ≡ n / 256
carry_number n small = elim (cases_lt 255 n) [
  | inl more ↦ ap one_if (lt-ltb 255 n more) ∙ omega (arith, more, small)
  | inr less ↦ ap one_if (false_from_ne_true (nat_lt 255 n) (λ e. omega (arith, ltb-true 255 n e, less))) ∙ omega (arith, less)
]

borrow_number : (x y : ℕ) → x < 256 → y < 256 → x + 256 * one_if (not (nat_le y x)) ≡ (x + 256 - y) % 256 + y
borrow_number x y x_below y_below = elim (cases_lt x y) [
  | inl less ↦
      let none : nat_le y x ≡ false = false_from_ne_true (nat_le y x) (λ e. omega (arith, leb-true y x e, less)) in
      ap (λ b. x + 256 * one_if (not b)) none ∙ omega (arith, less, x_below, y_below)
  | inr more ↦ ap (λ b. x + 256 * one_if (not b)) (le-leb y x more) ∙ omega (arith, more, x_below, y_below)
]

-- The high byte, after the low one: it takes the carry or the borrow, and keeps the low byte.
high-added : (w : Byte) (c z : Bool) (mem : ℕ → Byte) → num ((run (high_sum Add) (at_rest w c z mem)).mem 13) ≡ (num (mem 15) + num (mem 17) + one_if c) % 256
high-added w true z mem = num-bits (num (bits (num (mem 17) + 1)) + num (mem 15)) ∙ ap (λ n. (n + num (mem 15)) % 256) (num-bits (num (mem 17) + 1)) ∙ omega arith
high-added w false z mem = num-bits (num (mem 17) + num (mem 15)) ∙ omega arith

high-subtracted : (w : Byte) (c z : Bool) (mem : ℕ → Byte)
    → num ((run (high_sum Sub) (at_rest w c z mem)).mem 13) ≡ (num (mem 15) + 256 - (num (mem 17) + one_if (not c)) % 256) % 256
high-subtracted w true z mem = num-bits (num (mem 15) + 256 - num (mem 17)) ∙ omega (arith, num-below (mem 17))
high-subtracted w false z mem =
    num-bits (num (mem 15) + 256 - num (bits (num (mem 17) + 1))) ∙ ap (λ n. (num (mem 15) + 256 - n) % 256) (num-bits (num (mem 17) + 1))

low-kept : (f : BinOp) (w : Byte) (c z : Bool) (mem : ℕ → Byte) → IsTrue (is_sum f) → (run (high_sum f) (at_rest w c z mem)).mem 12 ≡ mem 12
low-kept Add w true z mem kind = refl
low-kept Add w false z mem kind = refl
low-kept Sub w true z mem kind = refl
low-kept Sub w false z mem kind = refl
low-kept _ w c z mem kind = absurd (cc)

-- Two bytes and a carry, as one number.
added : (low high al ah bl bh k : ℕ) → low ≡ (bl + al) % 256 → k ≡ (bl + al) / 256 → high ≡ (ah + bh + k) % 256 → al < 256 → bl < 256
    → low + 256 * high ≡ ((al + 256 * ah) + (bl + 256 * bh)) % 65536
added low high al ah bl bh k of_low of_k of_high a_below b_below = omega arith

subtracted : (low high al ah bl bh k : ℕ) → low < 256 → al + 256 * k ≡ low + bl → high ≡ (ah + 256 - (bh + k) % 256) % 256 → al < 256 → bl < 256 → ah < 256 → bh < 256
    → low + 256 * high ≡ ((al + 256 * ah) + 65536 - (bl + 256 * bh)) % 65536
subtracted low high al ah bl bh k below of_k of_high a_below b_below a_high b_high = omega arith

module _ (w : Byte) (c z : Bool) (mem : ℕ → Byte) where
  wide-added : num ((run (sum_template Add true) (at_rest w c z mem)).mem 12) + 256 * num ((run (sum_template Add true) (at_rest w c z mem)).mem 13)
      ≡ ((num (mem 14) + 256 * num (mem 15)) + (num (mem 16) + 256 * num (mem 17))) % 65536
  wide-added =
      let s : State = run (sum_template Add false) (at_rest w c z mem) in
      let al = num-below (mem 14) in let bl = num-below (mem 16) in
      added _ _ (num (mem 14)) (num (mem 15)) (num (mem 16)) (num (mem 17)) (one_if (nat_lt 255 (num (mem 16) + num (mem 14))))
      (ap num (low-kept Add s.w s.carry s.zero s.mem refl) ∙ num-bits (num (mem 16) + num (mem 14)))
      (carry_number (num (mem 16) + num (mem 14)) (omega (arith, al, bl)))
      (high-added s.w s.carry s.zero s.mem) al bl

  wide-subtracted : num ((run (sum_template Sub true) (at_rest w c z mem)).mem 12) + 256 * num ((run (sum_template Sub true) (at_rest w c z mem)).mem 13)
      ≡ ((num (mem 14) + 256 * num (mem 15)) + 65536 - (num (mem 16) + 256 * num (mem 17))) % 65536
  wide-subtracted =
      let s : State = run (sum_template Sub false) (at_rest w c z mem) in
      let al = num-below (mem 14) in let bl = num-below (mem 16) in
      let low : num ((run (sum_template Sub true) (at_rest w c z mem)).mem 12) ≡ (num (mem 14) + 256 - num (mem 16)) % 256
      = ap num (low-kept Sub s.w s.carry s.zero s.mem refl) ∙ num-bits (num (mem 14) + 256 - num (mem 16)) in
      subtracted _ _ (num (mem 14)) (num (mem 15)) (num (mem 16)) (num (mem 17)) (one_if (not (nat_le (num (mem 16)) (num (mem 14)))))
      (num-below ((run (sum_template Sub true) (at_rest w c z mem)).mem 12))
      (borrow_number (num (mem 14)) (num (mem 16)) al bl ∙ ap (λ n. n + num (mem 16)) (sym low))
      (high-subtracted s.w s.carry s.zero s.mem) al bl (num-below (mem 15)) (num-below (mem 17))

pub sum-template : (f : BinOp) (wide : Bool) (to a b : Pair) → IsTrue (is_sum f) → IsTemplate (op.Sum f wide to a b) (template_of (op.Sum f wide to a b))
sum-template Add false to a b kind =
    template-from (op.Sum Add false to a b) (template_of (op.Sum Add false to a b))
    (λ w c z mem h. num-bits (num (mem 16) + num (mem 14)) ∙ omega arith) refl (lit≤ tt, lit≤ tt)
sum-template Add true to a b kind =
    template-from (op.Sum Add true to a b) (template_of (op.Sum Add true to a b)) (λ w c z mem h. wide-added w c z mem) refl (lit≤ tt, lit≤ tt)
sum-template Sub false to a b kind =
    template-from (op.Sum Sub false to a b) (template_of (op.Sum Sub false to a b))
    (λ w c z mem h. num-bits (num (mem 14) + 256 - num (mem 16))) refl (lit≤ tt, lit≤ tt)
sum-template Sub true to a b kind =
    template-from (op.Sum Sub true to a b) (template_of (op.Sum Sub true to a b)) (λ w c z mem h. wide-subtracted w c z mem) refl (lit≤ tt, lit≤ tt)
sum-template _ wide to a b kind = absurd (cc)
