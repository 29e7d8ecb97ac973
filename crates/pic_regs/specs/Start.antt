-- The registers at power-on (data sheet DS30292, "Reset").
use Rattle.std.specs.Prelude.{◌≡◌, ℕ, ◌<◌, ◌+◌, ◌-◌, zero, suc, false, true, length, get_or, ◌||◌, ◌==◌, if◌then◌else◌, Option, Some, None}
use Rattle.std.specs.List.{All}
use Rattle.pic_regs.specs.declared.starts.Start.{Start}
use Rattle.pic_regs.specs.Bytes.{Byte, bits, zeros, ones}
use Rattle.pic_regs.specs.Map.{within}
use Rattle.pic_regs.specs.Registers.{Registers}

-- A start as it may be handed in: 368 bytes of RAM, and bytes for W and the flags.
pub record IsStart (s : Start) : Type 0 where
  pub places : length s.ram ≡ 368
  pub bytes : All (λ byte. byte < 256) s.ram
  pub w : s.w < 256
  pub flags : s.flags < 256

-- The place of a byte of general RAM among the 368, by its lowest address, in rising order; None for other addresses.
abbrev pub ram_place : ℕ → Option ℕ
ram_place address =
    if within 0x020 0x07F address then Some (address - 0x020)
    else if within 0x0A0 0x0EF address then Some (address - 0x0A0 + 96)
    else if within 0x110 0x16F address then Some (address - 0x110 + 176)
    else if within 0x190 0x1EF address then Some (address - 0x190 + 272)
    else None

-- A special register that is a plain byte, at power-on: OPTION_REG and PR2 are FFh, the others 0.
abbrev pub special_start : ℕ → Byte
special_start address = if address == 0x081 || address == 0x092 then ones else zeros

-- A plain byte at power-on, by its lowest address: one of general RAM is the start's.
abbrev pub plain_start : Start → ℕ → Byte
plain_start s address = elim (ram_place address) [ Some place ↦ bits (get_or s.ram place 0) | None ↦ special_start address ]

-- TRIS of a port at power-on: each of its bits that exist is 1, and all pins are inputs.
abbrev pub tris_start : ℕ → Byte
tris_start zero = bits 0x3F
tris_start (suc (suc (suc (suc zero)))) = bits 0x07
tris_start _ = ones

-- The registers at power-on. STATUS is 0001 1xxx with the start's flags, which are Z, DC and C from bit 2 down.
abbrev pub registers_on : Start → Registers
registers_on s = record {
  status = record (bits s.flags) { b7 = false; b6 = false; b5 = false; b4 = true; b3 = true };
  fsr = zeros;
  pclath = zeros;
  intcon = zeros;
  pir1 = zeros;
  pir2 = zeros;
  pie1 = zeros;
  pie2 = zeros;
  latch = λ port. zeros;
  tris = tris_start;
  pins = λ port. zeros;
  plain = plain_start s;
}
