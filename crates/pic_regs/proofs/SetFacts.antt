-- Sets of sources as numbers: the flags that they are in the registers, and what two of them share.
use Rattle.std.proofs.Common.{◌≡◌, ℕ, ◌+◌, ◌*◌, ◌/◌, ◌%◌, ◌<◌, not, ◌&&◌, ◌==◌, bit_and, w16, sym, ap, ◌∙◌, arith, lit<}
use Rattle.std.proofs.Math.Path.{fun_ext}
use Rattle.std.specs.Int.{bit_at, bit_not}
use Rattle.std.proofs.lemmas.Nat.{and_le_l}
use Rattle.std.proofs.lemmas.Nat.Bits.{bit_at_and, bit_at_not, bit_at-lt}
use Rattle.pic_isa.specs.declared.sources.Source.{Source}
use Rattle.pic_isa.specs.declared.sources.Source.TheVariants.{T0, Int, Psp, Ad, Ssp, Ccp1, Tmr2, Tmr1, Ee, Bcl, Ccp2}
use Rattle.pic_isa.specs.Sources.{source_number}
use Rattle.pic_regs.specs.Bytes.{bits, zeros}
use Rattle.pic_regs.specs.Arrivals.{Sources, set_of, number_of}
use Rattle.pic_regs.proofs.ArrivalLaws.{number_of-set_of, set_of-number_of}
use Rattle.pic_regs.proofs.BitLaws.{and_one, not_one}
use Rattle.pic_regs.proofs.ByteLaws.{one_if-small}

pub bits-intcon : (n : ℕ) → bits (n % 2 * 4 + n / 2 % 2 * 2) ≡ record zeros { b2 = set_of n T0; b1 = set_of n Int }
bits-intcon n =
    let m : ℕ = n % 2 * 4 + n / 2 % 2 * 2 in
    let h7 : m / 128 % 2 ≡ 0 = omega arith in
    let h6 : m / 64 % 2 ≡ 0 = omega arith in
    let h5 : m / 32 % 2 ≡ 0 = omega arith in
    let h4 : m / 16 % 2 ≡ 0 = omega arith in
    let h3 : m / 8 % 2 ≡ 0 = omega arith in
    let h2 : m / 4 % 2 ≡ n / 1 % 2 = omega arith in
    let h1 : m / 2 % 2 ≡ n / 2 % 2 = omega arith in
    let h0 : m % 2 ≡ 0 = omega arith in
    λ j. record { b7 = h7 j == 1; b6 = h6 j == 1; b5 = h5 j == 1; b4 = h4 j == 1; b3 = h3 j == 1; b2 = h2 j == 1; b1 = h1 j == 1; b0 = h0 j == 1 }

pub bits-pir1 : (n : ℕ) → bits (n / 4 % 2 * 128 + n / 8 % 2 * 64 + (n / 16 % 2 * 8 + n / 32 % 2 * 4 + n / 64 % 2 * 2 + n / 128 % 2))
    ≡ record zeros { b7 = set_of n Psp; b6 = set_of n Ad; b3 = set_of n Ssp; b2 = set_of n Ccp1; b1 = set_of n Tmr2; b0 = set_of n Tmr1 }
bits-pir1 n =
    let m : ℕ = n / 4 % 2 * 128 + n / 8 % 2 * 64 + (n / 16 % 2 * 8 + n / 32 % 2 * 4 + n / 64 % 2 * 2 + n / 128 % 2) in
    let h7 : m / 128 % 2 ≡ n / 4 % 2 = omega arith in
    let h6 : m / 64 % 2 ≡ n / 8 % 2 = omega arith in
    let h5 : m / 32 % 2 ≡ 0 = omega arith in
    let h4 : m / 16 % 2 ≡ 0 = omega arith in
    let h3 : m / 8 % 2 ≡ n / 16 % 2 = omega arith in
    let h2 : m / 4 % 2 ≡ n / 32 % 2 = omega arith in
    let h1 : m / 2 % 2 ≡ n / 64 % 2 = omega arith in
    let h0 : m % 2 ≡ n / 128 % 2 = omega arith in
    λ j. record { b7 = h7 j == 1; b6 = h6 j == 1; b5 = h5 j == 1; b4 = h4 j == 1; b3 = h3 j == 1; b2 = h2 j == 1; b1 = h1 j == 1; b0 = h0 j == 1 }

pub bits-pir2 : (n : ℕ) → bits (n / 256 % 2 * 16 + n / 512 % 2 * 8 + n / 1024 % 2)
    ≡ record zeros { b4 = set_of n Ee; b3 = set_of n Bcl; b0 = set_of n Ccp2 }
bits-pir2 n =
    let m : ℕ = n / 256 % 2 * 16 + n / 512 % 2 * 8 + n / 1024 % 2 in
    let h7 : m / 128 % 2 ≡ 0 = omega arith in
    let h6 : m / 64 % 2 ≡ 0 = omega arith in
    let h5 : m / 32 % 2 ≡ 0 = omega arith in
    let h4 : m / 16 % 2 ≡ n / 256 % 2 = omega arith in
    let h3 : m / 8 % 2 ≡ n / 512 % 2 = omega arith in
    let h2 : m / 4 % 2 ≡ 0 = omega arith in
    let h1 : m / 2 % 2 ≡ 0 = omega arith in
    let h0 : m % 2 ≡ n / 1024 % 2 = omega arith in
    λ j. record { b7 = h7 j == 1; b6 = h6 j == 1; b5 = h5 j == 1; b4 = h4 j == 1; b3 = h3 j == 1; b2 = h2 j == 1; b1 = h1 j == 1; b0 = h0 j == 1 }

number_small : (source : Source) → source_number source < 16
number_small T0 = lit< tt
number_small _ = lit< tt

number_of-small : (set : Sources) → number_of set < 2048
number_of-small set =
    omega (arith, one_if-small (set T0), one_if-small (set Int), one_if-small (set Psp), one_if-small (set Ad), one_if-small (set Ssp), one_if-small (set Ccp1), one_if-small (set Tmr2), one_if-small (set Tmr1), one_if-small (set Ee), one_if-small (set Bcl), one_if-small (set Ccp2))

set_of-and : (m n : ℕ) (source : Source) → set_of (bit_and m n) source ≡ (set_of m source && set_of n source)
set_of-and m n source =
    let i : ℕ = source_number source in
    ap (λ b. b == 1) (bit_at_and m n i) ∙ and_one (bit_at m i) (bit_at n i) (bit_at-lt m i) (bit_at-lt n i)

set_of-not : (n : ℕ) (source : Source) → n < 2048 → set_of (bit_not w16 n) source ≡ not (set_of n source)
set_of-not n source small =
    let i : ℕ = source_number source in
    ap (λ b. b == 1) (bit_at_not w16 n i (omega (arith, small)) (number_small source)) ∙ not_one (bit_at n i) (bit_at-lt n i)

-- Those of a set that are in another, and those that are not.
pub shared : (n : ℕ) (set : Sources) → n < 2048 → bit_and n (number_of set) ≡ number_of (λ source. set_of n source && set source)
shared n set small =
    let m : ℕ = bit_and n (number_of set) in
    sym (number_of-set_of m (let h = and_le_l n (number_of set) in omega (arith, h, small)))
    ∙ ap number_of (fun_ext (λ source. set_of-and n (number_of set) source ∙ ap (λ b. set_of n source && b) (set_of-number_of set source)))

pub others : (n : ℕ) (set : Sources) → n < 2048 → bit_and n (bit_not w16 (number_of set)) ≡ number_of (λ source. set_of n source && not (set source))
others n set small =
    let rest : ℕ = bit_not w16 (number_of set) in
    sym (number_of-set_of (bit_and n rest) (let h = and_le_l n rest in omega (arith, h, small)))
    ∙ ap number_of (fun_ext (λ source.
    set_of-and n rest source
    ∙ ap (λ b. set_of n source && b) (set_of-not (number_of set) source (number_of-small set) ∙ ap (λ b. not b) (set_of-number_of set source))))
