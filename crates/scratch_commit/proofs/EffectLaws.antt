-- What deeds leave in whatever bank is known.
use Rattle.std.proofs.Common.{◌≡◌, ℕ, Bool, true, false, not, ◌&&◌, ◌||◌, if◌then◌else◌, Option, Some, None, List, [], ◌∷◌, ◌++◌, refl, sym, ap, subst, ◌∙◌, append_assoc}
use Rattle.std.specs.List.{AllByRecursion}
use Rattle.std.proofs.lemmas.Bool.{and_parts}
use Rattle.pic_regs.specs.declared.places.Place.{Place}
use Rattle.pic_regs.specs.declared.places.Place.TheVariants as place
use Rattle.pic_regs.specs.Bytes.{Byte, bits, bit, with_bit}
use Rattle.pic_regs.specs.Map.{Reg, Absent, Indf, Pcl, Status, Fsr, Pclath, Intcon, Pir1, Pir2, Pie1, Pie2, Port, Tris, Plain}
use Rattle.pic_regs.specs.Places.{reg_of}
use Rattle.pic_regs.specs.Registers.{Registers, read, write}
use Rattle.pic_machine.specs.declared.steps.PortWrite.{PortWrite}
use Rattle.pic_machine.specs.Chip.{Chip, advanced, skipping}
use Rattle.code_steps.specs.declared.banks.Bank.{Bank}
use Rattle.code_steps.specs.declared.banks.Bank.TheVariants.{Known, Unknown}
use Rattle.code_acts.specs.Acts.{agrees}
use Rattle.code_acts.specs.Codes.{moved}
use Rattle.glue_steps.specs.declared.lines.Line.{Line}
use Rattle.glue_steps.specs.declared.lines.Line.TheVariants.{Load, Store, Bit, Skip}
use Rattle.glue_steps.specs.Lines.{is_steady, takes_bit}
use Rattle.glue_steps.specs.Stretches.{BankBits, bits_of_bank, Reached, ran_all, puts_of}
use Rattle.glue_parts.specs.Places.{bank_of, IsNumbered, is_status, may_be_written, may_be_changed, may_be_read}
use Rattle.glue_parts.specs.Pieces.{lines_for, lines_to_load}
use Rattle.glue_parts.specs.Effects.{Effect, none, after, Blind, Makes, left, bit_made, copied}
use Rattle.glue_parts.proofs.MakeLaws.{makes_none, blind_none, makes_then, blind_after, makes_choice, makes_bank, makes_write, blind_write, reached}
use Rattle.glue_parts.proofs.PieceLaws.{makes_bit, blind_bit, blind_lower, makes_lower, makes_nothing, makes_change, blind_change, makes_copy, blind_copy}
use Rattle.scratch_commit.specs.Deeds.{Deed, Change, Choose, Copy, LowerFlag, Make, Pause, SetIf, Write, bank_behind, bank_past, lines_in, lines_of}
use Rattle.scratch_commit.specs.Effects.{DeedFits, copied_to, effect_in, effect_of, set_if}
use Rattle.scratch_commit.specs.Laws.{DeedsMake}

-- A register that is in each bank is reached in whatever bank is known.
reached_anywhere : (bank : Bank) (reg : Reg) → IsNumbered reg → bank_of reg ≡ None → Reached (bits_of_bank bank) (Some reg)
reached_anywhere bank reg numbered everywhere = subst (λ o. Reached (bits_of_bank (moved bank o)) (Some reg)) everywhere (reached bank reg numbered)

-- W is loaded and then stored in STATUS.
load_line : (known : BankBits) (p : Place) → may_be_read (reg_of p) ≡ true → Reached known (Some (reg_of p)) → Makes known known none (Load p ∷ [])
load_line known p may at = record {
  fits = (ap (λ b. b && true) (and_parts (is_steady (reg_of p)) (not (is_status (reg_of p))) may).0, at, refl);
  banked = refl;
  leaves = λ c. refl;
  puts = λ c later. refl;
}

pub makes_load : (bank : Bank) (p : Place) → IsNumbered (reg_of p) → may_be_read (reg_of p) ≡ true
    → Makes (bits_of_bank bank) (bits_of_bank (moved bank (bank_of (reg_of p)))) none (lines_to_load bank p)
makes_load bank p numbered may =
    let there = bits_of_bank (moved bank (bank_of (reg_of p))) in
    makes_then (bits_of_bank bank) there there none none (lines_for bank (bank_of (reg_of p))) (Load p ∷ []) blind_none
    (makes_bank bank (bank_of (reg_of p))) (load_line there p may (reached bank (reg_of p) numbered))

status_stored : (bank : Bank) → Makes (bits_of_bank bank) (bits_of_bank Unknown) none (Store place.Status ∷ [])
status_stored bank = record {
  fits = (refl, reached_anywhere bank Status tt refl, refl);
  banked = refl;
  leaves = λ c. refl;
  puts = λ c later. refl;
}

-- A bit of INTCON is set where it is set in another register.
tested_bit : (reg : Reg) (b : ℕ) → may_be_read reg ≡ true → takes_bit reg b ≡ true
tested_bit Status b may = absurd (cc)
tested_bit Intcon b may = absurd (cc)
tested_bit reg b may = (and_parts (is_steady reg) (not (is_status reg)) may).0

set_where : (b : ℕ) (x : Bool) (c : Chip)
    → ran_all (agrees false x) (Bit true place.Intcon b ∷ []) (skipping (agrees false x) (advanced c))
    ≡ left (if x then write Intcon (with_bit b true (read Intcon c.regs)) c.regs else c.regs) (ran_all (agrees false x) (Bit true place.Intcon b ∷ []) (skipping (agrees false x) (advanced c))) c
set_where b true c = refl
set_where b false c = refl

no_puts : (b : ℕ) (x : Bool) (d : Chip) (later : List PortWrite) → puts_of (agrees false x) (Bit true place.Intcon b ∷ []) d later ≡ later
no_puts b true d later = refl
no_puts b false d later = refl

set_line : (known : BankBits) (p : Place) (b : ℕ) → may_be_read (reg_of p) ≡ true → may_be_changed Intcon b ≡ true → Reached known (Some (reg_of p)) → Reached known (Some Intcon)
    → Makes known known (set_if (reg_of p) b) (Skip false p b ∷ Bit true place.Intcon b ∷ [])
set_line known p b may change at there = record {
  fits = (ap (λ t. t && true) (tested_bit (reg_of p) b may), at, (change, there, refl));
  banked = refl;
  leaves = λ c. set_where b (bit b (read (reg_of p) c.regs)) c;
  puts = λ c later. no_puts b (bit b (read (reg_of p) c.regs)) (skipping (agrees false (bit b (read (reg_of p) c.regs))) (advanced c)) later;
}

-- A register other than STATUS is read the same whatever STATUS is.
read_blind : (reg : Reg) (r : Registers) (status : Byte) → may_be_read reg ≡ true → read reg (record r { status = status }) ≡ read reg r
read_blind Status r status may = absurd (cc)
read_blind _ r status may = refl

set_blind : (b : ℕ) (x : Bool) (r : Registers) (status : Byte)
    → (if x then write Intcon (with_bit b true (read Intcon r)) (record r { status = status }) else record r { status = status })
    ≡ record (if x then write Intcon (with_bit b true (read Intcon r)) r else r) { status = status }
set_blind b true r status = refl
set_blind b false r status = refl

blind_set : (reg : Reg) (b : ℕ) → may_be_read reg ≡ true → Blind (set_if reg b)
blind_set reg b may = record {
  change = λ r status.
      ap (λ (x : Byte). if bit b x then write Intcon (with_bit b true (read Intcon r)) (record r { status = status }) else record r { status = status }) (read_blind reg r status may)
      ∙ set_blind b (bit b (read reg r)) r status;
  puts = λ r status. refl;
}

makes_set : (bank : Bank) (p : Place) (b : ℕ) → IsNumbered (reg_of p) → may_be_read (reg_of p) ≡ true → may_be_changed Intcon b ≡ true
    → Makes (bits_of_bank bank) (bits_of_bank (moved bank (bank_of (reg_of p)))) (set_if (reg_of p) b) (lines_of bank (SetIf p b))
makes_set bank p b numbered may change =
    let there = moved bank (bank_of (reg_of p)) in
    let before = lines_for bank (bank_of (reg_of p)) in
    subst (Makes (bits_of_bank bank) (bits_of_bank there) (set_if (reg_of p) b)) (sym (append_assoc before (Skip false p b ∷ []) (Bit true place.Intcon b ∷ [])))
    (makes_then (bits_of_bank bank) (bits_of_bank there) (bits_of_bank there) none (set_if (reg_of p) b) before (Skip false p b ∷ Bit true place.Intcon b ∷ [])
    (blind_set (reg_of p) b may) (makes_bank bank (bank_of (reg_of p)))
    (set_line (bits_of_bank there) p b may change (reached bank (reg_of p) numbered) (reached_anywhere there Intcon tt refl)))

-- A copy to STATUS, and to another register.
copies_to : (bank : Bank) (from to : Place) → IsNumbered (reg_of from) → IsNumbered (reg_of to) → may_be_read (reg_of from) ≡ true → (may_be_written (reg_of to) || is_status (reg_of to)) ≡ true
    → Makes (bits_of_bank bank) (bits_of_bank (bank_behind bank (Copy from to))) (copied_to (reg_of from) (reg_of to)) (lines_of bank (Copy from to)) × Blind (copied_to (reg_of from) (reg_of to))
copies_to bank from place.Status numbered also may write =
    let middle = moved bank (bank_of (reg_of from)) in (
      makes_then (bits_of_bank bank) (bits_of_bank middle) (bits_of_bank Unknown) none none (lines_to_load bank from) (Store place.Status ∷ []) blind_none
          (makes_load bank from numbered may) (status_stored middle),
      blind_none,
    )
copies_to bank from place.Absent numbered also may write = absurd also
copies_to bank from place.Indf numbered also may write = absurd (cc)
copies_to bank from place.Pcl numbered also may write = absurd (cc)
copies_to bank from place.Intcon numbered also may write = absurd (cc)
copies_to bank from place.Pir1 numbered also may write = absurd (cc)
copies_to bank from place.Pir2 numbered also may write = absurd (cc)
copies_to bank from to numbered also may write = (makes_copy bank from to numbered also may refl, blind_copy (reg_of from) (reg_of to) may refl)

-- A deed, and deeds one after another.
makes_deed : (bank : Bank) (deed : Deed) → DeedFits deed
    → Makes (bits_of_bank bank) (bits_of_bank (bank_behind bank deed)) (effect_of deed) (lines_of bank deed) × Blind (effect_of deed)
makes_deed bank Pause fits = (makes_nothing (bits_of_bank bank), blind_none)
makes_deed bank (Make v p b) fits =
    (makes_bit (bits_of_bank bank) p b v fits.2 (reached_anywhere bank (reg_of p) fits.0 fits.1), blind_bit (reg_of p) b v fits.2)
makes_deed bank (Choose k) fits = (makes_choice bank k, blind_none)
makes_deed bank (Copy from to) fits = copies_to bank from to fits.0 fits.1 fits.2 fits.3
makes_deed bank (Write p byte) fits = (makes_write bank p byte fits.0 fits.1, blind_write (reg_of p) (bits byte) fits.1)
makes_deed bank (Change p changing byte) fits = (makes_change bank p changing byte fits.0 fits.1 fits.2, blind_change (reg_of p) changing byte fits.1 fits.2)
makes_deed bank (LowerFlag source) fits = (makes_lower bank source, blind_lower source)
makes_deed bank (SetIf p b) fits = (makes_set bank p b fits.0 fits.1 fits.2, blind_set (reg_of p) b fits.1)

pub deeds-make : (bank : Bank) (deeds : List Deed) → DeedsMake bank deeds
deeds-make bank [] fits = (makes_none (bits_of_bank bank), blind_none)
deeds-make bank (deed ∷ deeds) fits =
    let first = makes_deed bank deed fits.0 in
    let rest = deeds-make (bank_behind bank deed) deeds fits.1 in (
      makes_then (bits_of_bank bank) (bits_of_bank (bank_behind bank deed)) (bits_of_bank (bank_past (bank_behind bank deed) deeds)) (effect_of deed) (effect_in deeds)
          (lines_of bank deed) (lines_in (bank_behind bank deed) deeds) rest.1 first.0 rest.0,
      blind_after (effect_of deed) (effect_in deeds) first.1 rest.1,
    )

-- What some deeds and then others leave.
pub effect_then : (xs ys : List Deed) (r : Registers) → (effect_in (xs ++ ys)).change r ≡ (effect_in ys).change ((effect_in xs).change r)
effect_then [] ys r = refl
effect_then (deed ∷ xs) ys r = effect_then xs ys ((effect_of deed).change r)
