-- A division bit by bit, in numbers: what the dividend so far, the quotient so far and the rest say of each other.
use Rattle.std.proofs.Common.{◌≡◌, ℕ, ◌+◌, ◌-◌, ◌*◌, ◌/◌, ◌%◌, ◌==◌, ◌<◌, ◌≤◌, Bool, true, false, not, ◌||◌, if◌then◌else◌, refl, sym, ap, ◌∙◌, arith}
use Rattle.std.proofs.Math.Arith.{digits_div, digits_mod}
use borrow.Author.Tests.{eqb-true, eqb-false}
use Rattle.pic_regs.specs.Bytes.{one_if}
use Rattle.pic_regs.proofs.ByteLaws.{one_if-small}

-- Of a dividend a with m values and a divisor d, the p - 1 highest values have gone, p a power of 2: the dividend so far is their
-- number, and its quotient and the rest r are known. The dividend's register n has the bits that are left, and below them the
-- bits of the quotient, of which the last one is c. The bit g came in first.
pub record Divided (m a d g p n c r : ℕ) : Type 0 where
  pub so_far : ℕ
  pub quotient : ℕ
  pub below : ℕ
  pub register : m * so_far + n ≡ a * p + below
  pub shifted : 2 * below + c ≡ g * p + quotient
  pub whole : so_far ≡ quotient * d + r
  pub below_fits : below < p
  pub so_far_fits : so_far < p
  pub quotient_fits : quotient < p
  pub rest_fits : 0 < d → r < d
  pub by_zero : d ≡ 0 → quotient + 1 ≡ p

pub begins : (m a d g : ℕ) → Divided m a d g 1 a g 0
begins m a d g = record {
  so_far = 0;
  quotient = 0;
  below = 0;
  register = omega arith;
  shifted = omega arith;
  whole = omega arith;
  below_fits = omega arith;
  so_far_fits = omega arith;
  quotient_fits = omega arith;
  rest_fits = λ h. h;
  by_zero = λ h. refl;
}

-- The next bit b: the rest is doubled, with b below it, which gives `low` and the bit e above; `difference` is `low` less the
-- divisor, without borrow where k is true. The next bit of the quotient is `e || k`.
module _ (m a d g p n c r : ℕ) (before : Divided m a d g p n c r) (n' low difference : ℕ) (b : Bool)
    (turned : n' + m * one_if b ≡ 2 * n + c) (carried : c ≤ 1) (room : 2 * p ≤ m) (fits : d < m) (low_fits : low < m) (difference_fits : difference < m) where
  -- What the next bit of the quotient has to be.
  taken : (v s : ℕ) → v ≤ 1 → s + v * d ≡ 2 * r + one_if b → (0 < d → s < d) → (d ≡ 0 → v ≡ 1) → Divided m a d g (2 * p) n' v s
  taken v s bit sum small none = record {
    so_far = 2 * before.so_far + one_if b;
    quotient = 2 * before.quotient + v;
    below = 2 * before.below + c;
    register = omega (arith, before.register, turned);
    shifted = omega (arith, before.shifted);
    whole = omega (arith, before.whole, sum);
    below_fits = omega (arith, before.below_fits, carried);
    so_far_fits = omega (arith, before.so_far_fits, one_if-small b);
    quotient_fits = omega (arith, before.quotient_fits, bit);
    rest_fits = small;
    by_zero = λ h. omega (arith, before.by_zero h, none h);
  }

  pub next : (e k : Bool) → low + m * one_if e ≡ 2 * r + one_if b → difference + d ≡ low + m * one_if (not k)
      → Divided m a d g (2 * p) n' (one_if (e || k)) (if e || k then difference else low)
  next true true doubled differs =
      let positive : 0 < d = omega (arith, before.whole, before.so_far_fits, one_if-small b) in
      absurd (omega (arith, doubled, differs, before.rest_fits positive, one_if-small b))
  next true false doubled differs =
      let positive : 0 < d = omega (arith, before.whole, before.so_far_fits, one_if-small b) in
      taken 1 difference (omega arith) (omega (arith, doubled, differs)) (λ h. omega (arith, doubled, differs, before.rest_fits positive, one_if-small b)) (λ h. refl)
  next false true doubled differs =
      taken 1 difference (omega arith) (omega (arith, doubled, differs)) (λ h. omega (arith, doubled, differs, before.rest_fits h, one_if-small b)) (λ h. refl)
  next false false doubled differs =
      taken 0 low (omega arith) (omega (arith, doubled)) (λ h. omega (arith, differs, difference_fits)) (λ h. absurd (omega (arith, h, differs, difference_fits)))

-- Where all bits have come, the dividend so far is the dividend, and the bits below are those of the quotient but its last.
module _ (m a d g n c r : ℕ) (after : Divided m a d g m n c r) (register_fits : n < m) where
  all_came : after.so_far ≡ a
  all_came =
      sym (digits_div after.so_far register_fits)
      ∙ ap (λ v. v / m) (omega (arith, after.register))
      ∙ digits_div a after.below_fits

  of_dividend : a ≡ after.quotient * d + r
  of_dividend = sym all_came ∙ after.whole

  by_nothing : d ≡ 0 → after.quotient * d ≡ 0
  by_nothing zeros = ap (λ v. after.quotient * v) zeros ∙ omega arith

  pub rest_is : r ≡ (if d == 0 then a else a % d)
  rest_is = by_divisor (d == 0) refl
    where
      by_divisor : (v : Bool) → (d == 0) ≡ v → r ≡ (if v then a else a % d)
      by_divisor true e = omega (arith, of_dividend, by_nothing (eqb-true d 0 e))
      by_divisor false e = sym (ap (λ v. v % d) of_dividend ∙ digits_mod after.quotient (after.rest_fits (let some = eqb-false d 0 e in omega arith)))

  quotient_of : after.quotient ≡ (if d == 0 then m - 1 else a / d)
  quotient_of = by_divisor (d == 0) refl
    where
      by_divisor : (v : Bool) → (d == 0) ≡ v → after.quotient ≡ (if v then m - 1 else a / d)
      by_divisor true e = omega (arith, after.by_zero (eqb-true d 0 e))
      by_divisor false e = sym (ap (λ v. v / d) of_dividend ∙ digits_div after.quotient (after.rest_fits (let some = eqb-false d 0 e in omega arith)))

  -- The register once the last bit of the quotient has come in and the first bit has gone.
  pub quotient_is : (n' : ℕ) (b : Bool) → n' < m → n' + m * one_if b ≡ 2 * n + c → n' ≡ (if d == 0 then m - 1 else a / d)
  quotient_is n' b fits turned =
      let left : n ≡ after.below = omega (arith, after.register, ap (λ v. m * v) all_came) in
      sym (digits_mod (one_if b) fits)
      ∙ ap (λ v. v % m) (omega (arith, turned, left, after.shifted))
      ∙ digits_mod g after.quotient_fits
      ∙ quotient_of
