-- A piece of glue, computed: a flag cleared, two bytes copied, one put on a port, a bit set; and a skip.
use Rattle.std.proofs.Common.{◌≡◌, ℕ, ◌+◌, ◌%◌, ◌≤◌, ◌<◌, true, false, not, List, [], ◌∷◌, map, ap, ◌∙◌, refl, arith, lit≤, lit<}
use Rattle.pic_isa.specs.declared.instructions.Dest.TheVariants.{W}
use Rattle.pic_isa.specs.declared.instructions.Instr.TheVariants.{Bcf, Bsf, Movf, Movwf}
use Rattle.pic_isa.specs.declared.sources.Source.TheVariants.{T0}
use Rattle.pic_regs.specs.declared.places.Place.TheVariants as place
use Rattle.pic_regs.specs.Bytes.{num}
use Rattle.pic_machine.specs.Chip.{Chip, advanced, skipping}
use Rattle.code_steps.specs.declared.banks.Bank.TheVariants.{Known}
use Rattle.code_acts.specs.Standing.{StandFrom}
use Rattle.glue_steps.specs.declared.lines.Line.{Line}
use Rattle.glue_steps.specs.declared.lines.Line.TheVariants.{Load, Store, Clear, Bit, Lower, Skip}
use Rattle.glue_steps.specs.Tells.{Tells}
use Rattle.glue_steps.specs.Lines.{instr_of, is_glue}
use Rattle.glue_steps.specs.Still.{Off, Still}
use Rattle.glue_steps.specs.Stretches.{ran_all, puts_of, bits_of_bank, Banked, Fits}
use Rattle.glue_steps.proofs.StretchLaws.{straight_still}

-- The flag of T0 is cleared, 20h and 21h are copied to 22h and 23h, 22h is put on port B, and bit 0 of 70h is set.
abbrev copies : List Line
copies = Load (place.Plain 0x20) ∷ Store (place.Plain 0x22) ∷ Load (place.Plain 0x21) ∷ Store (place.Plain 0x23) ∷ Load (place.Plain 0x22) ∷ Store (place.Port 1)
    ∷ Bit true (place.Plain 0x70) 0 ∷ []

abbrev piece : List Line
piece = Lower T0 ∷ copies

-- Its instructions.
its_code : map instr_of piece
    ≡ Bcf 0x0B 2 ∷ Movf 0x20 W ∷ Movwf 0x22 ∷ Movf 0x21 W ∷ Movwf 0x23 ∷ Movf 0x22 W ∷ Movwf 0x06 ∷ Bsf 0x70 0 ∷ []
its_code = refl

-- It fits in bank 0.
copies_fit : Fits false (bits_of_bank (Known 0)) copies
copies_fit = (refl, refl, (refl, refl, (refl, refl, (refl, refl, (refl, refl, (refl, refl, (refl, refl, refl)))))))

fits : Fits false (bits_of_bank (Known 0)) piece
fits = (refl, refl, copies_fit)

-- What it puts, and what it leaves.
its_puts : (c : Chip) → puts_of false piece c [] ≡ record { port = 1; byte = num (c.regs.plain 0x20) } ∷ []
its_puts c = refl

copied : (c : Chip) → (ran_all false piece c).regs.plain 0x23 ≡ c.regs.plain 0x21
copied c = refl

marked : (c : Chip) → ((ran_all false piece c).regs.plain 0x70).b0 ≡ true
marked c = refl

flag_cleared : (c : Chip) → (ran_all false piece c).regs.intcon.b2 ≡ false
flag_cleared c = refl

-- The copies and the put, told: whatever arrives on the way, and with steps of glue from 20 to 26 that write 22h, 23h, 70h and
-- port B alone.
abbrev InPiece : ℕ → Type 0
InPiece p = (20 ≤ p) × (p < 27)

told : (program : ℕ → ℕ) (c : Chip) → StandFrom program 20 (map instr_of copies) → c.pc ≡ 20 → Banked (bits_of_bank (Known 0)) c → Off c
    → Tells program (Still program InPiece (λ a. 0 < a)) (λ e. (e.pc ≡ 27) × (e.regs.plain 0x22 ≡ c.regs.plain 0x20))
    (record { port = 1; byte = num (c.regs.plain 0x20) } ∷ []) 7 c
told program c stand at banked off =
    straight_still program InPiece (λ a. 0 < a) (λ e. (e.pc ≡ 27) × (e.regs.plain 0x22 ≡ c.regs.plain 0x20))
    (λ d e r q. (ap (λ (x : Chip). x.pc) r.only ∙ q.0, ap (λ (x : Chip). x.regs.plain 0x22) r.only ∙ q.1))
    (bits_of_bank (Known 0)) 20 copies c copies_fit stand (
      refl,
      inside 0 (lit≤ tt),
      tt,
      (refl, inside 1 (lit≤ tt), lit< tt, (refl, inside 2 (lit≤ tt), tt, (refl, inside 3 (lit≤ tt), lit< tt, (refl, inside 4 (lit≤ tt), tt, (refl, inside 5 (lit≤ tt), lit< tt, (refl, inside 6 (lit≤ tt), lit< tt, tt)))))),
    )
    at banked off (ap (λ p. after_seven p) at, refl)
  where
    inside : (n : ℕ) → n ≤ 6 → InPiece (20 + n)
    inside n few = (omega arith, omega arith)

    after_seven : ℕ → ℕ
    after_seven p = (((((((p + 1) % 8192 + 1) % 8192 + 1) % 8192 + 1) % 8192 + 1) % 8192 + 1) % 8192 + 1) % 8192

-- INTCON isn't written whole; a flag of it isn't cleared by BCF of another bit.
no_whole_write : is_glue (Store place.Intcon) ≡ false
no_whole_write = refl

no_whole_clear : is_glue (Clear place.Intcon) ≡ false
no_whole_clear = refl

no_flag_bit : is_glue (Bit false place.Intcon 2) ≡ false
no_flag_bit = refl

no_port_read : is_glue (Load (place.Port 1)) ≡ false
no_port_read = refl

-- A skip: INTE is set where bit 4 of 40h is.
abbrev restores : List Line
restores = Skip false (place.Plain 0x40) 4 ∷ Bit true place.Intcon 4 ∷ []

restores_fit : Fits false (bits_of_bank (Known 0)) restores
restores_fit = (refl, refl, (refl, refl, refl))

restored : (c : Chip) → (c.regs.plain 0x40).b4 ≡ true → (ran_all false restores c).regs.intcon.b4 ≡ true
restored c set = ap (λ b. (ran_all (not b) (Bit true place.Intcon 4 ∷ []) (skipping (not b) (advanced c))).regs.intcon.b4) set
