-- Own steps, jumps and banks, computed at examples.
use Rattle.std.proofs.Common.{◌≡◌, ℕ, ◌==◌, if◌then◌else◌, None, Some, refl, ◌∙◌, inr}
use Rattle.pic_isa.specs.declared.instructions.Instr.TheVariants.{Bcf, Bsf, Movwf}
use Rattle.pic_regs.specs.Bytes.{bits, updated}
use Rattle.pic_machine.specs.Chip.{Chip}
use Rattle.pic_machine.specs.Results.{Done}
use Rattle.code_steps.specs.declared.banks.Bank.TheVariants.{Known}
use Rattle.code_steps.specs.Steps.{next, Is, own, Comes}
use Rattle.code_steps.specs.Between.{Others}
use Rattle.code_steps.specs.Ends.{Holds}
use Rattle.code_steps.specs.Jumps.{high_page, low_page, setting, with_page}

-- MOVWF 75h at 8191, and all else words that are no instruction.
abbrev stores : ℕ → ℕ
stores address = if address == 8191 then 0x00F5 else 0x0062

after_the_last : next 8191 ≡ 0
after_the_last = refl

it_stands : Is stores 8191 (Movwf 0x75)
it_stands = refl

-- Its own step, from any chip that is there: 75h holds W, and the program counter is at 0.
its_step : (c : Chip) → own stores (record c { pc = 8191 })
    ≡ Some (record { chip = record c { pc = 0; regs = record c.regs { plain = updated c.regs.plain 0x75 c.w } }; wrote = Some 0x75; port = None })
its_step c = refl

-- Elsewhere nothing can run.
none_elsewhere : (c : Chip) → own stores (record c { pc = 0 }) ≡ None
none_elsewhere c = refl

-- Within one step it comes to 0, whatever others do before it.
it_comes : (c : Chip) → c.pc ≡ 8191 → Comes stores Others (λ d done. done.wrote ≡ Some 0x75) (λ e. e.pc ≡ 0) 1 c
it_comes c at = inr (λ d r. from d (r.pc ∙ at))
  where
    from : (d : Chip) → d.pc ≡ 8191 → (done : Done) × (own stores d ≡ Some done) × (done.wrote ≡ Some 0x75) × (done.chip.pc ≡ 0)
    from d here = (
      record { chip = record d { pc = 0; regs = record d.regs { plain = updated d.regs.plain 0x75 d.w } }; wrote = Some 0x75; port = None },
      (λ j. own stores (record d { pc = here j })) ∙ its_step d,
      refl,
      refl,
    )

-- The page of 1A34h is the last of the four. Its bits are 11; those of 0800h are 01, those of 1000h are 10.
page_of_1A34 : with_page 0x1A34 (bits 0x00) ≡ bits 0x18
page_of_1A34 = refl

page_of_0800 : with_page 0x0800 (bits 0xFF) ≡ bits 0xEF
page_of_0800 = refl

page_of_1000 : with_page 0x1000 (bits 0x08) ≡ bits 0x10
page_of_1000 = refl

-- PCLATH is 0Ah, and its bits for pages are 4 and 3.
settings_of_0800 : setting 3 (low_page 0x0800) ≡ Bsf 0x0A 3
settings_of_0800 = refl

settings_of_0800_high : setting 4 (high_page 0x0800) ≡ Bcf 0x0A 4
settings_of_0800_high = refl

-- Bank 2 is RP1 set and RP0 clear.
bank_2 : (c : Chip) → Holds (Known 2) (record c { regs = record c.regs { status = bits 0x40 } })
bank_2 c = (refl, refl)
