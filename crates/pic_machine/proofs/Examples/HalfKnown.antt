-- Steps of a chip of which only the program counter, the bank and GIE are known, and that no interrupt is due, compute: nothing else is asked of it.
use Rattle.std.specs.Prelude.{ℕ}
use Rattle.std.proofs.Common.{ap, Bool, ◌≡◌, refl, true, false, Some}
use Rattle.pic_regs.specs.Bytes.{updated}
use Rattle.pic_isa.specs.declared.sources.Source.{Source}
use Rattle.pic_regs.specs.Registers.{flag}
use Rattle.pic_machine.specs.Chip.{Chip, with_gie}
use Rattle.pic_machine.specs.Boundary.{Outer, no_outer, boundary, turn}
use Rattle.pic_machine.proofs.TurnLaws.{with_outer}

-- The chip at an address, in bank 0 or 1, with GIE clear and no interrupt due.
abbrev in_bank_0 : ℕ → Chip → Chip
in_bank_0 address c =
    record c { pc = address; due = false; regs = record c.regs { status = record c.regs.status { b6 = false; b5 = false }; intcon = record c.regs.intcon { b7 = false } } }

abbrev in_bank_1 : ℕ → Chip → Chip
in_bank_1 address c =
    record c { pc = address; due = false; regs = record c.regs { status = record c.regs.status { b6 = false; b5 = true }; intcon = record c.regs.intcon { b7 = false } } }

abbrev next : ℕ → Chip → Chip
next word c = (boundary (λ address. word) no_outer c).after

-- BSF STATUS,5 and BCF STATUS,5.
bank_1_chosen : (c : Chip) → next 0x1683 (in_bank_0 20 c) ≡ in_bank_1 21 c
bank_1_chosen c = refl

bank_0_chosen : (c : Chip) → next 0x1283 (in_bank_1 20 c) ≡ in_bank_0 21 c
bank_0_chosen c = refl

-- MOVWF 20h in bank 1.
banked_movwf : (c : Chip) → next 0x00A0 (in_bank_1 20 c) ≡ (let d = in_bank_1 21 c in record d { regs = record d.regs { plain = updated c.regs.plain 0x0A0 c.w } })
banked_movwf c = refl

banked_movwf_wrote : (c : Chip) → (boundary (λ address. 0x00A0) no_outer (in_bank_1 20 c)).wrote ≡ Some 0x0A0
banked_movwf_wrote c = refl

-- SWAPF STATUS,W; MOVWF 7Dh; SWAPF 7Dh,W; MOVWF STATUS.
status_saved_and_brought_back : (c : Chip) → (next 0x0083 (next 0x0E7D (next 0x00FD (next 0x0E03 (in_bank_0 20 c))))).regs.status ≡ (in_bank_0 20 c).regs.status
status_saved_and_brought_back c = refl

-- The same with anything coming from outside at each boundary.
abbrev next_with : Outer → ℕ → Chip → Chip
next_with outer word c = (boundary (λ address. word) outer c).after

bank_0_chosen_under_outer : (c : Chip) (outer : Outer) → next_with outer 0x1283 (in_bank_1 20 c) ≡ with_outer outer (in_bank_0 21 c)
bank_0_chosen_under_outer c outer = refl

status_under_outer : (c : Chip) (o0 o1 o2 o3 : Outer) →
    (next_with o3 0x0083 (next_with o2 0x0E7D (next_with o1 0x00FD (next_with o0 0x0E03 (in_bank_0 20 c))))).regs.status ≡ (in_bank_0 20 c).regs.status
status_under_outer c o0 o1 o2 o3 = refl

-- A context saved in common RAM and brought back, in any bank: MOVWF 70h; SWAPF STATUS,W; MOVWF 71h; MOVF PCLATH,W;
-- MOVWF 72h; CLRF PCLATH; and then MOVF 72h,W; MOVWF PCLATH; SWAPF 71h,W; MOVWF STATUS; SWAPF 70h,F; SWAPF 70h,W.
abbrev masked : ℕ → Chip → Chip
masked address c = record c { pc = address; due = false; regs = record c.regs { intcon = record c.regs.intcon { b7 = false } } }

abbrev saved : Outer → Chip → Chip
saved outer c =
    next_with outer 0x018A (next_with outer 0x00F2 (next_with outer 0x080A (next_with outer 0x00F1 (next_with outer 0x0E03 (next_with outer 0x00F0 (masked 4 c))))))

abbrev brought_back : Outer → Chip → Chip
brought_back outer c =
    next_with outer 0x0E70 (next_with outer 0x0EF0 (next_with outer 0x0083 (next_with outer 0x0E71 (next_with outer 0x008A (next_with outer 0x0872 c)))))

pclath_cleared : (c : Chip) (outer : Outer) → (saved outer c).regs.pclath.b3 ≡ false
pclath_cleared c outer = refl

context_w : (c : Chip) (outer : Outer) → (brought_back outer (saved outer c)).w ≡ c.w
context_w c outer = refl

context_status : (c : Chip) (outer : Outer) → (brought_back outer (saved outer c)).regs.status ≡ c.regs.status
context_status c outer = refl

context_pclath : (c : Chip) (outer : Outer) → (brought_back outer (saved outer c)).regs.pclath ≡ c.regs.pclath
context_pclath c outer = refl

context_leads_on : (c : Chip) (outer : Outer) → (brought_back outer (saved outer c)).pc ≡ 16
context_leads_on c outer = refl

-- GIE is no part of any flag: changing it leaves the flag of a source that isn't known.
flag_apart_from_gie : (source : Source) (gie : Bool) (c : Chip) → flag source (with_gie gie c).regs ≡ flag source c.regs
flag_apart_from_gie source gie c = refl

-- The program may be unknown but for one word.
gie_set_by_one_word : (program : ℕ → ℕ) (c : Chip) → program 20 ≡ 0x178B → (boundary program no_outer (masked 20 c)).after ≡ with_gie true (masked 21 c)
gie_set_by_one_word program c here = ap (λ word. (turn false false false word (masked 20 c)).after) here
