-- Addresses of cells, computed.
use Rattle.std.specs.Prelude.{◌≡◌, false, refl}
use Rattle.bank_alloc.specs.declared.needs.Needs.{Needs}
use Rattle.bank_alloc.specs.Addresses.{address_of, banked_byte, is_general}
use Rattle.bank_alloc.specs.Needs.{bytes_of}

-- 173 bytes of the state, as many of scratch and one level fill the banks, and one more doesn't fit.
abbrev full : Needs
full = record { states = 173; levels = 1; scratch = 173 }

pub needs_352 : bytes_of full ≡ 352
needs_352 = refl

pub needs_353 : bytes_of (record full { states = 174 }) ≡ 353
needs_353 = refl

-- The level's first byte has the lowest address, then come the state and scratch.
pub level_first : address_of full 346 ≡ 0x020
level_first = refl

pub then_states : address_of full 0 ≡ 0x026
then_states = refl

pub scratch_last : address_of full 345 ≡ 0x1EF
scratch_last = refl

-- Where banks end.
pub ends_bank_0 : banked_byte 79 ≡ 0x06F
ends_bank_0 = refl

pub begins_bank_1 : banked_byte 80 ≡ 0x0A0
begins_bank_1 = refl

pub ends_bank_1 : banked_byte 159 ≡ 0x0EF
ends_bank_1 = refl

pub begins_bank_2 : banked_byte 160 ≡ 0x110
begins_bank_2 = refl

pub ends_bank_2 : banked_byte 255 ≡ 0x16F
ends_bank_2 = refl

pub begins_bank_3 : banked_byte 256 ≡ 0x190
begins_bank_3 = refl

pub common_is_not_general : is_general 0x070 ≡ false
common_is_not_general = refl
