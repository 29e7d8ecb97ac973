-- Pins that change at a boundary.
use Rattle.std.specs.Prelude.{ℕ, ◌==◌, if◌then◌else◌}
use Rattle.std.proofs.Common.{◌≡◌, refl, Option, Some, None}
use Rattle.pic_regs.specs.Bytes.{Byte, num, bits}
use Rattle.pic_regs.specs.Registers.{with_pins}
use Rattle.pic_machine.specs.Chip.{Chip}
use Rattle.pic_machine.specs.Boundary.{Step, no_pins, no_outer, with_changed_pins, boundary}
use Rattle.pic_machine.proofs.SettingFacts.{fresh, with_byte, w_and_status}

-- A port with TRISB F0h and latch 5Ah, and PORTC with pins 77h.
abbrev chip : Chip
chip =
    let c = with_byte 0x006 0x5A (with_byte 0x086 0xF0 fresh) in
    record c { regs = with_pins 2 (bits 0x77) c.regs }

-- The pins of PORTB become 3Ch.
abbrev portb : ℕ → Option Byte
portb port = if port == 1 then Some (bits 0x3C) else None

abbrev step : ℕ → Step
step word = boundary (λ address. word) (record no_outer { pins = portb }) chip

-- 0806h is MOVF PORTB,W: the pins where TRIS is 1, and the latch where it is 0.
pins_are_read_at_once : w_and_status (step 0x0806).after ≡ (0x3A, 0x18)
pins_are_read_at_once = refl

pins_before : num ((step 0x0806).before.regs.pins 1) ≡ 0x00
pins_before = refl

pins_come_with_the_arrivals : num ((step 0x0806).arrived.regs.pins 1) ≡ 0x3C
pins_come_with_the_arrivals = refl

pins_stay : num ((step 0x0806).after.regs.pins 1) ≡ 0x3C
pins_stay = refl

latch_is_unchanged : num ((step 0x0806).after.regs.latch 1) ≡ 0x5A
latch_is_unchanged = refl

other_pins_are_unchanged : num ((step 0x0806).after.regs.pins 2) ≡ 0x77
other_pins_are_unchanged = refl

-- Where no pin changes a chip is as it was.
no_pin_changes : (c : Chip) → with_changed_pins no_pins c ≡ c
no_pin_changes c = refl
