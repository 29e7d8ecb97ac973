-- Arrivals, sets and numbers.
use Rattle.std.proofs.Common.{◌≡◌, ℕ, ◌/◌, ◌<◌, false, ◌||◌, refl, arith, lit<}
use Rattle.std.proofs.Math.Path.{fun_ext}
use Rattle.pic_isa.specs.declared.sources.Source.{Source}
use Rattle.pic_isa.specs.declared.sources.Source.TheVariants.{T0, Int, Psp, Ad, Ssp, Ccp1, Tmr2, Tmr1, Ee, Bcl, Ccp2}
use Rattle.pic_isa.specs.Sources.{flag_of}
use Rattle.pic_regs.specs.Bytes.{bit}
use Rattle.pic_regs.specs.FlagBits.{flags_at, with_flag_at}
use Rattle.pic_regs.specs.Single.{only}
use Rattle.pic_regs.specs.Registers.{Registers, flag}
use Rattle.pic_regs.specs.Arrivals.{Sources, no_source, set_of, number_of, arrived}
use Rattle.pic_regs.proofs.ByteLaws.{one_if-odd, one_if-small, bit-num}

-- The set that 0 is.
pub set_of-zero : set_of 0 ≡ no_source
set_of-zero = fun_ext is_absent
  where
    is_absent : (source : Source) → set_of 0 source ≡ false
    is_absent T0 = refl
    is_absent _ = refl

-- After its arrival a source's flag is set, and all others are as they were; so are the enables.
pub flag-arrived : (source : Source) (arrivals : Sources) (r : Registers) → flag source (arrived arrivals r) ≡ (arrivals source || flag source r)
flag-arrived T0 arrivals r = refl
flag-arrived _ arrivals r = refl

-- A source's flag is the bit that the table of sources gives, and so is the one that its arrival sets.
pub flag-at : (source : Source) (r : Registers) → bit (flag_of source).bit (flags_at (flag_of source).address r) ≡ flag source r
flag-at T0 r = refl
flag-at _ r = refl

pub flag-raised : (source : Source) (r : Registers) → with_flag_at (flag_of source) r ≡ arrived (only source) r
flag-raised T0 r = refl
flag-raised _ r = refl

pub flag_bit-below : (source : Source) → (flag_of source).bit < 8
flag_bit-below T0 = lit< tt
flag_bit-below _ = lit< tt

-- A set and its number are each other's.
pub number_of-set_of : (n : ℕ) → n < 2048 → number_of (set_of n) ≡ n
number_of-set_of n below =
    omega (arith, below, one_if-odd (n / 1), one_if-odd (n / 2), one_if-odd (n / 4), one_if-odd (n / 8), one_if-odd (n / 16), one_if-odd (n / 32), one_if-odd (n / 64), one_if-odd (n / 128), one_if-odd (n / 256), one_if-odd (n / 512), one_if-odd (n / 1024))

pub set_of-number_of : (set : Sources) (source : Source) → set_of (number_of set) source ≡ set source
set_of-number_of set T0 = bit-num _ (number_of set / 1) (omega (arith, one_if-small (set T0)))
set_of-number_of set _ =
    bit-num _ _ (omega (arith, one_if-small (set T0), one_if-small (set Int), one_if-small (set Psp), one_if-small (set Ad), one_if-small (set Ssp), one_if-small (set Ccp1), one_if-small (set Tmr2), one_if-small (set Tmr1), one_if-small (set Ee), one_if-small (set Bcl), one_if-small (set Ccp2)))
