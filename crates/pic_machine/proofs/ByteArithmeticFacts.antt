-- What the code computes with bytes, in numbers, and what the definitions say of their bits.
use Rattle.std.proofs.Common.{◌≡◌, ℕ, zero, suc, ◌+◌, ◌-◌, ◌*◌, ◌/◌, ◌%◌, ◌<◌, Bool, true, false, ◌==◌, nat_le, nat_lt, refl, ap, ◌∙◌, arith}
use mir.Val.{bool_byte}
use Rattle.pic_regs.specs.Bytes.{Byte, bit, num, bits, one_if, is_zero}
use Rattle.pic_regs.proofs.ByteLaws.{by_each_bit, one_if-small, bit-num}
use Rattle.pic_regs.proofs.BitLaws.{num_of}
use Rattle.pic_machine.specs.Results.{Outcome, All, plus, minus, one_more, one_less, turned_left, turned_right}

-- A number's low eight bits are those of its rest by 256.
pub low-bits : (n : ℕ) → bits (n % 256) ≡ bits n
low-bits n = by_each_bit (bits (n % 256)) (bits n) at_each
  where
    at_each : (i : ℕ) → i < 8 → bit i (bits (n % 256)) ≡ bit i (bits n)
    at_each (suc (suc (suc (suc (suc (suc (suc (suc i)))))))) h = absurd (omega (arith, h))
    at_each _ h = ap (λ m. m == 1) (omega arith)

-- A byte is the number of its bits.
pub itself : (n : ℕ) → n < 256 → n ≡ num (bits n)
itself n small = num_of n (bits n) small refl

pub bits-more : (n : ℕ) → n < 256 → bits (n + 1) ≡ one_more (bits n)
bits-more n small = ap (λ m. bits (m + 1)) (itself n small)

pub bits-less : (n : ℕ) → n < 256 → bits (n + 255) ≡ one_less (bits n)
bits-less n small = ap (λ m. bits (m + 255)) (itself n small)

-- A sum and a difference, of which the code has the low byte.
abbrev sum_of : ℕ → ℕ → Outcome
sum_of m n = let byte = bits (m + n) in record { byte = byte; flags = All (nat_lt 255 (m + n)) (nat_lt 15 (m % 16 + n % 16)) (is_zero byte) }

pub sum-bits : (x y low : ℕ) → x < 256 → y < 256 → bits low ≡ bits (x + y)
    → record { byte = bits low; flags = All (nat_lt 255 (x + y)) (nat_lt 15 (x % 16 + y % 16)) (is_zero (bits low)) } ≡ plus (bits x) (bits y)
sum-bits x y low small below e =
    let by_numbers : record { byte = bits low; flags = All (nat_lt 255 (x + y)) (nat_lt 15 (x % 16 + y % 16)) (is_zero (bits low)) } ≡ sum_of x y =
    ap (λ (b : Byte). record { byte = b; flags = All (nat_lt 255 (x + y)) (nat_lt 15 (x % 16 + y % 16)) (is_zero b) }) e
    in by_numbers ∙ (λ j. sum_of (itself x small j) (itself y below j))

abbrev difference_of : ℕ → ℕ → Outcome
difference_of m n = let byte = bits (m + 256 - n) in record { byte = byte; flags = All (nat_le n m) (nat_le (n % 16) (m % 16)) (is_zero byte) }

pub difference-bits : (x y low : ℕ) → x < 256 → y < 256 → bits low ≡ bits (x + 256 - y)
    → record { byte = bits low; flags = All (nat_le y x) (nat_le (y % 16) (x % 16)) (is_zero (bits low)) } ≡ minus (bits x) (bits y)
difference-bits x y low small below e =
    let by_numbers : record { byte = bits low; flags = All (nat_le y x) (nat_le (y % 16) (x % 16)) (is_zero (bits low)) } ≡ difference_of x y =
    ap (λ (b : Byte). record { byte = b; flags = All (nat_le y x) (nat_le (y % 16) (x % 16)) (is_zero b) }) e
    in by_numbers ∙ (λ j. difference_of (itself x small j) (itself y below j))

-- A Bool as the number that it is in the code.
pub one_if-bool : (b : Bool) → bool_byte b ≡ one_if b
one_if-bool true = refl
one_if-bool false = refl

-- A byte turned by one, with a bit that comes in.
pub left-bits : (n k : ℕ) (low : Bool) → k ≡ one_if low → bits (n % 128 * 2 + k) ≡ (turned_left low (bits n)).byte
left-bits n k low e = by_each_bit (bits (n % 128 * 2 + k)) (turned_left low (bits n)).byte at_each
  where
    at_each : (i : ℕ) → i < 8 → bit i (bits (n % 128 * 2 + k)) ≡ bit i (turned_left low (bits n)).byte
    at_each zero h = bit-num low (n % 128 * 2 + k) (omega (arith, e, one_if-small low))
    at_each (suc (suc (suc (suc (suc (suc (suc (suc i)))))))) h = absurd (omega (arith, h))
    at_each _ h = ap (λ m. m == 1) (omega (arith, e, one_if-small low))

pub right-bits : (n k : ℕ) (high : Bool) → n < 256 → k ≡ one_if high → bits (n / 2 + 128 * k) ≡ (turned_right high (bits n)).byte
right-bits n k high below e = by_each_bit (bits (n / 2 + 128 * k)) (turned_right high (bits n)).byte at_each
  where
    at_each : (i : ℕ) → i < 8 → bit i (bits (n / 2 + 128 * k)) ≡ bit i (turned_right high (bits n)).byte
    at_each (suc (suc (suc (suc (suc (suc (suc zero))))))) h = bit-num high ((n / 2 + 128 * k) / 128) (omega (arith, e, below, one_if-small high))
    at_each (suc (suc (suc (suc (suc (suc (suc (suc i)))))))) h = absurd (omega (arith, h))
    at_each _ h = ap (λ m. m == 1) (omega (arith, e, one_if-small high))
