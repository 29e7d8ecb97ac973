-- Banked general bytes of the chip, and which of them each byte gets.
use Rattle.std.specs.Prelude.{ℕ, ◌+◌, ◌-◌, ◌*◌, Bool, ◌||◌, nat_lt, if◌then◌else◌}
use Rattle.pic_regs.specs.Map.{within}
use Rattle.bank_alloc.specs.declared.needs.Needs.{Needs}

-- The addresses of general bytes that lie in one bank alone.
abbrev pub is_general : ℕ → Bool
is_general address = within 0x020 0x06F address || within 0x0A0 0x0EF address || within 0x110 0x16F address || within 0x190 0x1EF address

-- The addresses of these 352 bytes, from 0 on, as they rise.
abbrev pub banked_byte : ℕ → ℕ
banked_byte k =
    if nat_lt k 80 then 0x020 + k
    else if nat_lt k 160 then 0x0A0 + (k - 80)
    else if nat_lt k 256 then 0x110 + (k - 160)
    else 0x190 + (k - 256)

-- Bytes of levels come first, then those of the state, and scratch last, so that bank 0 has the bytes of most work. The cells of
-- states and scratch are numbered before those of levels.
abbrev pub place_of : Needs → ℕ → ℕ
place_of need cell =
    if nat_lt cell (need.states + need.scratch) then 6 * need.levels + cell
    else cell - (need.states + need.scratch)

-- The address of a cell.
abbrev pub address_of : Needs → ℕ → ℕ
address_of need cell = banked_byte (place_of need cell)
