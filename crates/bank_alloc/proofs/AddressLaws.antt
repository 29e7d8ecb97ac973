-- Addresses of cells differ, are those of general bytes, and these are plain bytes of the register map.
use Rattle.std.proofs.Common.{◌≡◌, ℕ, ◌-◌, ◌<◌, ◌==◌, nat_lt, if◌then◌else◌, Bool, true, false, refl, sym, ap, ◌∙◌, arith}
use Rattle.std.proofs.lemmas.Bool.{eqb-true, agree_below_at}
use Rattle.std.proofs.lemmas.Bool.Decides.{nat_tests}
use Rattle.pic_regs.specs.Map.{Reg, Plain, reg_at}
use Rattle.bank_alloc.specs.declared.needs.Needs.{Needs}
use Rattle.bank_alloc.specs.Addresses.{banked_byte, is_general, place_of}
use Rattle.bank_alloc.specs.Laws.{AddressesAreGeneral, AddressesDiffer, GeneralIsPlain}
use Rattle.bank_alloc.specs.Needs.{bytes_of}

-- Each of the 352 is general.
banked_byte-general : (k : ℕ) → k < 352 → is_general (banked_byte k) ≡ true
banked_byte-general k below = agree_below_at (λ k. is_general (banked_byte k)) (λ k. true) 352 k refl below

-- The number of a banked byte.
abbrev number_of : ℕ → ℕ
number_of address =
    if nat_lt address 128 then address - 32
    else if nat_lt address 256 then address - 80
    else if nat_lt address 384 then address - 112
    else address - 144

number_of-banked_byte : (k : ℕ) → k < 352 → number_of (banked_byte k) ≡ k
number_of-banked_byte k below =
    eqb-true (number_of (banked_byte k)) k (agree_below_at (λ k. number_of (banked_byte k) == k) (λ k. true) 352 k refl below)

place_of-below : (need : Needs) (cell : ℕ) → cell < bytes_of need → place_of need cell < bytes_of need
place_of-below need cell below = grind (arith, nat_tests)

place_of-differ : (need : Needs) (j k : ℕ) → place_of need j ≡ place_of need k → j < bytes_of need → k < bytes_of need → j ≡ k
place_of-differ need j k same j_below k_below = grind (arith, nat_tests)

pub addresses-differ : (need : Needs) → AddressesDiffer need
addresses-differ need fits j k j_below k_below same =
    let j_fits : place_of need j < 352 = omega (arith, place_of-below need j j_below) in
    let k_fits : place_of need k < 352 = omega (arith, place_of-below need k k_below) in
    place_of-differ need j k
    (sym (number_of-banked_byte (place_of need j) j_fits) ∙ ap number_of same ∙ number_of-banked_byte (place_of need k) k_fits)
    j_below k_below

pub addresses-general : (need : Needs) → AddressesAreGeneral need
addresses-general need fits cell below =
    banked_byte-general (place_of need cell) (omega (arith, place_of-below need cell below))

abbrev is_plain : ℕ → Reg → Bool
is_plain address (Plain its_address) = its_address == address
is_plain address _ = false

is_plain-true : (address : ℕ) (reg : Reg) → is_plain address reg ≡ true → reg ≡ Plain address
is_plain-true address (Plain its_address) e = ap Plain (eqb-true its_address address e)
is_plain-true address _ e = cc

-- A test of one address. It holds of all addresses.
abbrev right : ℕ → Bool → Bool
right address true = is_plain address (reg_at address)
right address false = true

each_address : (address : ℕ) → address < 512 → right address (is_general address) ≡ true
each_address address below = agree_below_at (λ a. right a (is_general a)) (λ a. true) 512 address refl below

general-below : (address : ℕ) → is_general address ≡ true → address < 512
general-below address general = grind (arith, nat_tests)

pub general-plain : (address : ℕ) → GeneralIsPlain address
general-plain address general =
    is_plain-true address (reg_at address) (sym (ap (right address) general) ∙ each_address address (general-below address general))
