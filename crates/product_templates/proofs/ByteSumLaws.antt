-- Sums, differences and turns of bytes, as equations between numbers.
use Rattle.std.proofs.Common.{◌≡◌, ◌+◌, ◌-◌, ◌*◌, ◌%◌, Bool, true, false, not, ◌&&◌, nat_lt, nat_le, ◌==◌, refl, ap, ◌∙◌, arith}
use borrow.Author.Tests.{leb-true, leb-false, ltb-true, ltb-false, eqb-true, eqb-false}
use Rattle.pic_regs.specs.Bytes.{Byte, num, bits, one_if, swapped, is_zero}
use Rattle.pic_regs.proofs.ByteLaws.{num-bits, num-below, one_if-small, bits-num}
use Rattle.pic_regs.proofs.BitLaws.{zero-bits}
use Rattle.pic_machine.specs.Results.{plus, minus, turned_left, turned_right, both, one_more}

pub plus-num : (x y : Byte) → num (plus x y).byte ≡ (num x + num y) % 256
plus-num x y = num-bits (num x + num y)

-- A difference, and its borrow.
pub minus-num : (x y : Byte) → num (minus x y).byte + num y ≡ num x + 256 * one_if (not (nat_le (num y) (num x)))
minus-num x y = by_borrow (nat_le (num y) (num x)) refl
  where
    by_borrow : (b : Bool) → nat_le (num y) (num x) ≡ b → num (minus x y).byte + num y ≡ num x + 256 * one_if (not b)
    by_borrow true e = omega (arith, num-bits (num x + 256 - num y), num-below x, num-below y, leb-true (num y) (num x) e)
    by_borrow false e = omega (arith, num-bits (num x + 256 - num y), num-below x, num-below y, leb-false (num y) (num x) e)

pub left-num : (c : Bool) (x : Byte) → num (turned_left c x).byte + 256 * one_if x.b7 ≡ 2 * num x + one_if c
left-num c x = omega arith

pub right-num : (c : Bool) (x : Byte) → 2 * num (turned_right c x).byte + one_if x.b0 ≡ num x + 256 * one_if c
right-num c x = omega arith

kept : (b : Bool) → one_if (b && true) ≡ one_if b
kept true = refl
kept false = refl

dropped : (b : Bool) → one_if (b && false) ≡ 0
dropped true = refl
dropped false = refl

-- The lower half of a byte as an upper half.
pub upper-num : (x : Byte) → num (both (swapped x) (bits 0xF0)) ≡ 16 * num x % 256
upper-num x =
    omega (arith, kept x.b3, kept x.b2, kept x.b1, kept x.b0, dropped x.b7, dropped x.b6, dropped x.b5, dropped x.b4, one_if-small x.b3, one_if-small x.b2, one_if-small x.b1, one_if-small x.b0)

-- A sum, and its carry.
pub plus-carry : (x y : Byte) → num (plus x y).byte + 256 * one_if (nat_lt 255 (num x + num y)) ≡ num x + num y
plus-carry x y = by_carry (nat_lt 255 (num x + num y)) refl
  where
    by_carry : (b : Bool) → nat_lt 255 (num x + num y) ≡ b → num (plus x y).byte + 256 * one_if b ≡ num x + num y
    by_carry true e = omega (arith, num-bits (num x + num y), num-below x, num-below y, ltb-true 255 (num x + num y) e)
    by_carry false e = omega (arith, num-bits (num x + num y), num-below x, num-below y, ltb-false 255 (num x + num y) e)

-- A byte that is 0, and one that isn't.
zero_test : (x : Byte) → (num x == 0) ≡ is_zero x
zero_test x = zero-bits (num x) (num-below x) ∙ ap is_zero (bits-num x)

-- The byte after this one is 0 where this one is 255, and else one more.
pub full : (x : Byte) → is_zero (one_more x) ≡ true → num x ≡ 255
full x e = omega (arith, eqb-true (num (one_more x)) 0 (zero_test (one_more x) ∙ e), num-bits (num x + 1), num-below x)

pub not_full : (x : Byte) → is_zero (one_more x) ≡ false → num (one_more x) ≡ num x + 1
not_full x e = let some = eqb-false (num (one_more x)) 0 (zero_test (one_more x) ∙ e) in omega (arith, some, num-bits (num x + 1), num-below x)
