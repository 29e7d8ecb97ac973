-- What the laws of `laws.rt` promise.
use Rattle.std.specs.Prelude.{◌≡◌, ℕ, ◌<◌, ◌≤◌, true}
use Rattle.pic_regs.specs.Map.{Plain, reg_at}
use Rattle.bank_alloc.specs.declared.needs.Needs.{Needs}
use Rattle.bank_alloc.specs.Addresses.{address_of, is_general}
use Rattle.bank_alloc.specs.Needs.{bytes_of}

-- Two cells with one address are one cell.
abbrev pub AddressesDiffer : Needs → Type 0
AddressesDiffer need =
    bytes_of need ≤ 352 → (j k : ℕ) → j < bytes_of need → k < bytes_of need
    → address_of need j ≡ address_of need k → j ≡ k

-- Each address is that of a general byte.
abbrev pub AddressesAreGeneral : Needs → Type 0
AddressesAreGeneral need = bytes_of need ≤ 352 → (cell : ℕ) → cell < bytes_of need → is_general (address_of need cell) ≡ true

-- The register map has a plain byte at the address of a general byte.
abbrev pub GeneralIsPlain : ℕ → Type 0
GeneralIsPlain address = is_general address ≡ true → reg_at address ≡ Plain address
