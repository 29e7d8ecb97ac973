-- Bytes and numbers: each is the other's, up to 256.
use Rattle.std.proofs.Common.{◌≡◌, ℕ, ◌%◌, ◌/◌, ◌<◌, ◌≤◌, ◌==◌, Bool, true, false, refl, ap, ◌∙◌, arith, lit≤, lit<, suc}
use Rattle.pic_regs.specs.Bytes.{Byte, num, bits, one_if, bit}

-- A bit of a number, as 1 or 0.
pub one_if-odd : (n : ℕ) → one_if ((n % 2) == 1) ≡ n % 2
one_if-odd n = grind arith

pub num-bits : (n : ℕ) → num (bits n) ≡ n % 256
num-bits n = omega (arith, one_if-odd (n / 128), one_if-odd (n / 64), one_if-odd (n / 32), one_if-odd (n / 16), one_if-odd (n / 8), one_if-odd (n / 4), one_if-odd (n / 2), one_if-odd n)

pub one_if-small : (b : Bool) → one_if b ≤ 1
one_if-small true = lit≤ tt
one_if-small false = lit≤ tt

pub num-below : (x : Byte) → num x < 256
num-below x = omega (arith, one_if-small x.b7, one_if-small x.b6, one_if-small x.b5, one_if-small x.b4, one_if-small x.b3, one_if-small x.b2, one_if-small x.b1, one_if-small x.b0)

one_if-is_one : (b : Bool) → (one_if b == 1) ≡ b
one_if-is_one true = refl
one_if-is_one false = refl

-- A bit of the number that a byte is.
pub bit-num : (b : Bool) (n : ℕ) → n % 2 ≡ one_if b → ((n % 2) == 1) ≡ b
bit-num b n e = ap (λ m. m == 1) e ∙ one_if-is_one b

-- Two bytes with the same bits are the same.
pub by_each_bit : (x y : Byte) → ((i : ℕ) → i < 8 → bit i x ≡ bit i y) → x ≡ y
by_each_bit x y h =
    λ j. record { b7 = h 7 (lit< tt) j; b6 = h 6 (lit< tt) j; b5 = h 5 (lit< tt) j; b4 = h 4 (lit< tt) j; b3 = h 3 (lit< tt) j; b2 = h 2 (lit< tt) j; b1 = h 1 (lit< tt) j; b0 = h 0 (lit< tt) j }

pub bits-num : (x : Byte) → bits (num x) ≡ x
bits-num x = by_each_bit (bits (num x)) x at_each
  where
    at_each : (i : ℕ) → i < 8 → bit i (bits (num x)) ≡ bit i x
    at_each (suc (suc (suc (suc (suc (suc (suc (suc i)))))))) h = absurd (omega (arith, h))
    at_each _ h =
        bit-num _ _ (omega (arith, one_if-small x.b7, one_if-small x.b6, one_if-small x.b5, one_if-small x.b4, one_if-small x.b3, one_if-small x.b2, one_if-small x.b1, one_if-small x.b0))
