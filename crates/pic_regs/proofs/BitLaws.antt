-- The bits of a number that the code computes by `&`, `|`, `^`, `!` and shifts, as those of a byte.
use Rattle.std.proofs.Common.{◌≡◌, ℕ, zero, suc, ◌+◌, ◌-◌, ◌*◌, ◌/◌, ◌%◌, ◌^◌, ◌<◌, min, max, Bool, true, false, not, ◌&&◌, ◌||◌, ◌==◌, if◌then◌else◌, bit_and, bit_or, w8, refl, ap, ◌∙◌, sym, arith}
use Rattle.std.specs.Prelude.{bit_xor}
use Rattle.std.specs.Int.{bit_at, bit_not}
use Rattle.std.proofs.lemmas.Bool.{ne_eqb}
use Rattle.std.proofs.lemmas.Nat.Bits.{bit_at_lowest, bit_at_and, bit_at_or, bit_at_xor, bit_at_not, bit_at-lt, shr_and_one}
use Rattle.pic_regs.specs.Bytes.{Byte, num, bits, one_if, bit, with_bit, bit_by_bit, chosen, is_zero, swapped}
use Rattle.pic_regs.proofs.ByteLaws.{by_each_bit, num-bits}

pub bit-bits : (i n : ℕ) → i < 8 → bit i (bits n) ≡ (bit_at n i == 1)
bit-bits zero n h = ap (λ m. m == 1) (sym (bit_at_lowest n))
bit-bits (suc (suc (suc (suc (suc (suc (suc (suc i)))))))) n h = absurd (omega (arith, h))
bit-bits _ n h = refl

-- A number's byte, by its bits.
pub from_bits : (n : ℕ) (x : Byte) → ((i : ℕ) → i < 8 → (bit_at n i == 1) ≡ bit i x) → bits n ≡ x
from_bits n x h = by_each_bit (bits n) x (λ i below. bit-bits i n below ∙ h i below)

bit-bit_by_bit : (op : Bool → Bool → Bool) (i : ℕ) (x y : Byte) → bit i (bit_by_bit op x y) ≡ op (bit i x) (bit i y)
bit-bit_by_bit op (suc (suc (suc (suc (suc (suc (suc i))))))) x y = refl
bit-bit_by_bit op _ x y = refl

bit-chosen : (i : ℕ) (c x y : Byte) → bit i (chosen c x y) ≡ (if bit i c then bit i y else bit i x)
bit-chosen (suc (suc (suc (suc (suc (suc (suc i))))))) c x y = refl
bit-chosen _ c x y = refl

-- An operation on numbers that is one on bits at each place.
by_bits : (op : Bool → Bool → Bool) (n x y : ℕ) → ((i : ℕ) → i < 8 → (bit_at n i == 1) ≡ op (bit_at x i == 1) (bit_at y i == 1)) → bits n ≡ bit_by_bit op (bits x) (bits y)
by_bits op n x y h =
    from_bits n (bit_by_bit op (bits x) (bits y)) (λ i below.
    h i below
    ∙ sym (ap (λ b. op b (bit_at y i == 1)) (bit-bits i x below))
    ∙ sym (ap (λ b. op (bit i (bits x)) b) (bit-bits i y below))
    ∙ sym (bit-bit_by_bit op i (bits x) (bits y)))

-- What the operations do to bits that are 0 or 1.
pub and_one : (a b : ℕ) → a < 2 → b < 2 → (min a b == 1) ≡ ((a == 1) && (b == 1))
and_one (suc (suc a)) b p q = absurd (omega (arith, p))
and_one a (suc (suc b)) p q = absurd (omega (arith, q))
and_one _ _ p q = refl

or_one : (a b : ℕ) → a < 2 → b < 2 → (max a b == 1) ≡ ((a == 1) || (b == 1))
or_one (suc (suc a)) b p q = absurd (omega (arith, p))
or_one a (suc (suc b)) p q = absurd (omega (arith, q))
or_one _ _ p q = refl

xor_one : (a b : ℕ) → a < 2 → b < 2 → ((a + b) % 2 == 1) ≡ (if a == 1 then not (b == 1) else b == 1)
xor_one (suc (suc a)) b p q = absurd (omega (arith, p))
xor_one a (suc (suc b)) p q = absurd (omega (arith, q))
xor_one _ _ p q = refl

pub not_one : (a : ℕ) → a < 2 → ((1 - a) == 1) ≡ not (a == 1)
not_one zero p = refl
not_one (suc zero) p = refl
not_one (suc (suc a)) p = absurd (omega (arith, p))

pick_one : (c x y : ℕ) → c < 2 → x < 2 → y < 2 → (max (min x (1 - c)) (min y c) == 1) ≡ (if c == 1 then y == 1 else x == 1)
pick_one (suc (suc c)) x y p q r = absurd (omega (arith, p))
pick_one c (suc (suc x)) y p q r = absurd (omega (arith, q))
pick_one c x (suc (suc y)) p q r = absurd (omega (arith, r))
pick_one _ _ _ p q r = refl

pub bits-and : (x y : ℕ) → bits (bit_and x y) ≡ bit_by_bit (λ p q. p && q) (bits x) (bits y)
bits-and x y = by_bits (λ p q. p && q) (bit_and x y) x y (λ i below. ap (λ n. n == 1) (bit_at_and x y i) ∙ and_one (bit_at x i) (bit_at y i) (bit_at-lt x i) (bit_at-lt y i))

pub bits-or : (x y : ℕ) → bits (bit_or x y) ≡ bit_by_bit (λ p q. p || q) (bits x) (bits y)
bits-or x y = by_bits (λ p q. p || q) (bit_or x y) x y (λ i below. ap (λ n. n == 1) (bit_at_or x y i) ∙ or_one (bit_at x i) (bit_at y i) (bit_at-lt x i) (bit_at-lt y i))

pub bits-xor : (x y : ℕ) → bits (bit_xor x y) ≡ bit_by_bit (λ p q. if p then not q else q) (bits x) (bits y)
bits-xor x y = by_bits (λ p q. if p then not q else q) (bit_xor x y) x y (λ i below. ap (λ n. n == 1) (bit_at_xor x y i) ∙ xor_one (bit_at x i) (bit_at y i) (bit_at-lt x i) (bit_at-lt y i))

pub bits-not : (x : ℕ) → x < 256 → bits (bit_not w8 x) ≡ bit_by_bit (λ p q. not p) (bits x) (bits x)
bits-not x small = by_bits (λ p q. not p) (bit_not w8 x) x x (λ i below. ap (λ n. n == 1) (bit_at_not w8 x i small below) ∙ not_one (bit_at x i) (bit_at-lt x i))

pub bits-pick : (c x y : ℕ) → c < 256 → bits (bit_or (bit_and x (bit_not w8 c)) (bit_and y c)) ≡ chosen (bits c) (bits x) (bits y)
bits-pick c x y small =
    from_bits (bit_or (bit_and x (bit_not w8 c)) (bit_and y c)) (chosen (bits c) (bits x) (bits y)) (λ i below.
    let its_bit : bit_at (bit_or (bit_and x (bit_not w8 c)) (bit_and y c)) i ≡ max (min (bit_at x i) (1 - bit_at c i)) (min (bit_at y i) (bit_at c i)) =
    bit_at_or (bit_and x (bit_not w8 c)) (bit_and y c) i
    ∙ ap (λ n. max n (bit_at (bit_and y c) i)) (bit_at_and x (bit_not w8 c) i ∙ ap (λ n. min (bit_at x i) n) (bit_at_not w8 c i small below))
    ∙ ap (λ n. max (min (bit_at x i) (1 - bit_at c i)) n) (bit_at_and y c i)
    in
    ap (λ n. n == 1) its_bit
    ∙ pick_one (bit_at c i) (bit_at x i) (bit_at y i) (bit_at-lt c i) (bit_at-lt x i) (bit_at-lt y i)
    ∙ sym (ap (λ b. if b then bit_at y i == 1 else bit_at x i == 1) (bit-bits i c below))
    ∙ sym (ap (λ b. if bit i (bits c) then b else bit_at x i == 1) (bit-bits i y below))
    ∙ sym (ap (λ b. if bit i (bits c) then bit i (bits y) else b) (bit-bits i x below))
    ∙ sym (bit-chosen i (bits c) (bits x) (bits y)))

pub bits-swapped : (x : ℕ) → x < 256 → bits (x % 16 * 16 + x / 16) ≡ swapped (bits x)
bits-swapped x small = by_each_bit (bits (x % 16 * 16 + x / 16)) (swapped (bits x)) at_each
  where
    at_each : (i : ℕ) → i < 8 → bit i (bits (x % 16 * 16 + x / 16)) ≡ bit i (swapped (bits x))
    at_each (suc (suc (suc (suc (suc (suc (suc (suc i)))))))) h = absurd (omega (arith, h))
    at_each _ h = ap (λ m. m == 1) (omega (arith, small))

-- The test of one bit.
pub bit-shifted : (i n : ℕ) → i < 8 → (bit_and (n / 2 ^ i) 1 == 1) ≡ bit i (bits n)
bit-shifted i n below = ap (λ m. m == 1) (shr_and_one n i) ∙ sym (bit-bits i n below)

-- One bit set, and one cleared.
pub pick-set : (i : ℕ) (x : Byte) → i < 8 → chosen (bits (1 * 2 ^ i % 2 ^ 8)) x (bits 0xFF) ≡ with_bit i true x
pick-set (suc (suc (suc (suc (suc (suc (suc (suc i)))))))) x h = absurd (omega (arith, h))
pick-set _ x h = refl

pub pick-clear : (i : ℕ) (x : Byte) → i < 8 → chosen (bits (1 * 2 ^ i % 2 ^ 8)) x (bits 0x00) ≡ with_bit i false x
pick-clear (suc (suc (suc (suc (suc (suc (suc (suc i)))))))) x h = absurd (omega (arith, h))
pick-clear _ x h = refl

-- A byte is 00h where no bit is set.
zero_test : (a b c d e f g h : Bool) → ((128 * one_if a + 64 * one_if b + 32 * one_if c + 16 * one_if d + 8 * one_if e + 4 * one_if f + 2 * one_if g + one_if h) == 0) ≡ not (a || b || c || d || e || f || g || h)
zero_test false false false false false false false false = refl
zero_test false false false false false false false true = refl
zero_test _ _ _ _ _ _ _ _ = ne_eqb _ 0 (λ e. omega arith)

pub zero-bits : (n : ℕ) → n < 256 → (n == 0) ≡ is_zero (bits n)
zero-bits n small =
    let x : Byte = bits n in
    let itself : n ≡ num x = (let m : n ≡ n % 256 = omega (arith, small) in m) ∙ sym (num-bits n) in
    ap (λ m. m == 0) itself ∙ zero_test x.b7 x.b6 x.b5 x.b4 x.b3 x.b2 x.b1 x.b0

-- A number is the byte whose bits it has.
pub num_of : (n : ℕ) (x : Byte) → n < 256 → bits n ≡ x → n ≡ num x
num_of n x small e = (let m : n ≡ n % 256 = omega (arith, small) in m) ∙ sym (num-bits n) ∙ ap num e
