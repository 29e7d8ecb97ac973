-- Deeds that stand in program memory as steps of glue: what they lead to, over arrivals.
use Rattle.std.proofs.Common.{◌≡◌, ℕ, suc, ◌+◌, ◌/◌, ◌%◌, ◌==◌, Bool, true, false, ◌&&◌, if◌then◌else◌, Option, Some, None, List, [], ◌∷◌, ◌++◌, length, map, refl, ap, subst, ◌∙◌, arith}
use Rattle.std.specs.Prelude.{nat_le}
use Rattle.std.proofs.lemmas.Bool.{and_parts, leb-true}
use Rattle.std.specs.List.{AllByRecursion}
use Rattle.pic_regs.specs.declared.places.Place.{Place}
use Rattle.pic_regs.specs.declared.places.Place.TheVariants as place
use Rattle.pic_regs.specs.Bytes.{Byte, bits, bit, with_bit, is_zero}
use Rattle.pic_regs.specs.Map.{Reg, Intcon}
use Rattle.pic_regs.specs.Places.{reg_of}
use Rattle.pic_regs.specs.Registers.{Registers, read, write}
use Rattle.pic_machine.specs.declared.steps.PortWrite.{PortWrite}
use Rattle.pic_machine.specs.Chip.{Chip}
use Rattle.code_steps.specs.declared.banks.Bank.{Bank}
use Rattle.code_steps.specs.declared.banks.Bank.TheVariants.{Known, Unknown}
use Rattle.code_steps.specs.Ends.{Holds}
use Rattle.code_acts.specs.Codes.{low_bit, high_bit, moved}
use Rattle.code_acts.specs.Standing.{StandFrom}
use Rattle.glue_steps.specs.declared.lines.Line.{Line}
use Rattle.glue_steps.specs.declared.lines.Line.TheVariants.{Constant, Load, Store, Clear, Bit, Skip}
use Rattle.glue_steps.specs.Lines.{instr_of}
use Rattle.glue_steps.specs.Stretches.{BankBits, Banked, bits_of_bank, place_behind, puts_of, ran_all}
use Rattle.glue_steps.specs.Still.{MayWrite, Off, PlacesIn, Still, StillLines, is_glue_reg, is_still}
use Rattle.glue_steps.specs.Tells.{Tells, Withstands, Given}
use Rattle.glue_steps.proofs.StillLaws.{given_still, off_stays, still_all, still_parts}
use Rattle.glue_steps.proofs.StraightLaws.{banked_ends, ran_place, straight_then}
use Rattle.glue_steps.proofs.TellsLaws.{tells_given}
use Rattle.glue_parts.specs.Places.{bank_of}
use Rattle.glue_parts.specs.Pieces.{knows, bit_lines, is_known, lines_to_choose, lines_for, writing, lines_of_change, only_bit}
use Rattle.glue_parts.specs.Effects.{Effect, Makes, change_made, left, none}
use Rattle.scratch_commit.specs.Deeds.{Deed, Change, Choose, Copy, LowerFlag, Make, Pause, SetIf, Write, bank_behind, bank_past, lines_in, lines_of}
use Rattle.scratch_commit.specs.Effects.{DeedFits, effect_in, effect_of}
use Rattle.scratch_commit.proofs.EffectLaws.{deeds-make}
use Rattle.run_steps.specs.Deeds.{DeedStill}

-- Lines that are steps of glue, one part after another.
pub still_both : (May : ℕ → Type 0) (xs ys : List Line) → StillLines May xs → StillLines May ys → StillLines May (xs ++ ys)
still_both May [] ys first second = second
still_both May (line ∷ xs) ys first second = (first.0, first.1, still_both May xs ys first.2 second)

still_bit : (May : ℕ → Type 0) (b : ℕ) (v there : Bool) → StillLines May (if there then [] else Bit v place.Status b ∷ [])
still_bit May b v true = tt
still_bit May b v false = (refl, tt, tt)

still_choice_by : (May : ℕ → Type 0) (bank : Bank) (k : ℕ) (there first : Bool)
    → StillLines May (if there then [] else if first then Clear place.Status ∷ [] else bit_lines 5 (low_bit bank) (k % 2 == 1) ++ bit_lines 6 (high_bit bank) (k / 2 == 1))
still_choice_by May bank k true first = tt
still_choice_by May bank k false true = (refl, tt, tt)
still_choice_by May bank k false false =
    still_both May (bit_lines 5 (low_bit bank) (k % 2 == 1)) (bit_lines 6 (high_bit bank) (k / 2 == 1))
    (still_bit May 5 (k % 2 == 1) (knows (low_bit bank) (k % 2 == 1))) (still_bit May 6 (k / 2 == 1) (knows (high_bit bank) (k / 2 == 1)))

pub still_choice : (May : ℕ → Type 0) (bank : Bank) (k : ℕ) → StillLines May (lines_to_choose bank k)
still_choice May bank k = still_choice_by May bank k (is_known bank k) (k == 0)

pub still_for : (May : ℕ → Type 0) (bank : Bank) (o : Option ℕ) → StillLines May (lines_for bank o)
still_for May bank None = tt
still_for May bank (Some k) = still_choice May bank k

still_then : (May : ℕ → Type 0) (bank : Bank) (o : Option ℕ) (lines : List Line) → StillLines May lines → StillLines May (lines_for bank o ++ lines)
still_then May bank o lines still = still_both May (lines_for bank o) lines (still_for May bank o) still

still_writing : (May : ℕ → Type 0) (p : Place) (byte : ℕ) (none : Bool) → is_glue_reg (reg_of p) ≡ true → MayWrite May (reg_of p)
    → StillLines May (if none then Clear p ∷ [] else Constant byte ∷ Store p ∷ [])
still_writing May p byte true glue may = (glue, may, tt)
still_writing May p byte false glue may = (refl, tt, (glue, may, tt))

-- A bit of a register that glue may write whole.
still_bit_of : (v : Bool) (p : Place) (b : ℕ) → is_glue_reg (reg_of p) ≡ true → is_still (Bit v p b) ≡ true
still_bit_of v place.Intcon b glue = absurd (cc)
still_bit_of v _ b glue = glue

still_change : (May : ℕ → Type 0) (bank : Bank) (p : Place) (byte : ℕ) (o : Option ℕ) (none : Bool) → (none ≡ false → (is_glue_reg (reg_of p) ≡ true) × MayWrite May (reg_of p))
    → StillLines May (if none then [] else lines_of_change o bank p byte)
still_change May bank p byte o true still = tt
still_change May bank p byte None false still =
    still_then May bank (bank_of (reg_of p)) (writing p byte) (still_writing May p byte (is_zero (bits byte)) (still refl).0 (still refl).1)
still_change May bank p byte (Some b) false still =
    still_then May bank (bank_of (reg_of p)) (Bit (bit b (bits byte)) p b ∷ []) (still_bit_of (bit b (bits byte)) p b (still refl).0, (still refl).1, tt)

still_deed : (May : ℕ → Type 0) (bank : Bank) (deed : Deed) → DeedStill May deed → StillLines May (lines_of bank deed)
still_deed May bank Pause still = (refl, tt, tt)
still_deed May bank (Make v p b) still = (still.0, still.1, tt)
still_deed May bank (Choose k) still = still_choice May bank k
still_deed May bank (Copy from to) still =
    let middle = moved bank (bank_of (reg_of from)) in
    still_both May (lines_for bank (bank_of (reg_of from)) ++ Load from ∷ []) (lines_for middle (bank_of (reg_of to)) ++ Store to ∷ [])
    (still_then May bank (bank_of (reg_of from)) (Load from ∷ []) (refl, tt, tt)) (still_then May middle (bank_of (reg_of to)) (Store to ∷ []) (still.0, still.1, tt))
still_deed May bank (Write p byte) still =
    still_then May bank (bank_of (reg_of p)) (writing p byte) (still_writing May p byte (is_zero (bits byte)) still.0 still.1)
still_deed May bank (Change p changing byte) still = still_change May bank p byte (only_bit changing) (is_zero (bits changing)) still
still_deed May bank (LowerFlag source) still = absurd still
still_deed May bank (SetIf p b) still =
    still_both May (lines_for bank (bank_of (reg_of p)) ++ Skip false p b ∷ []) (Bit true place.Intcon b ∷ [])
    (still_then May bank (bank_of (reg_of p)) (Skip false p b ∷ []) (refl, tt, tt)) (still.0, still.1, tt)

pub still_in : (May : ℕ → Type 0) (bank : Bank) (deeds : List Deed) → AllByRecursion (DeedStill May) deeds → StillLines May (lines_in bank deeds)
still_in May bank [] still = tt
still_in May bank (deed ∷ deeds) still =
    still_both May (lines_of bank deed) (lines_in (bank_behind bank deed) deeds) (still_deed May bank deed still.0) (still_in May (bank_behind bank deed) deeds still.1)

-- GIE stays.
gie_kept : (reg : Reg) (x : Byte) (r : Registers) → is_glue_reg reg ≡ true → (write reg x r).intcon.b7 ≡ r.intcon.b7
gie_kept Intcon x r glue = absurd (cc)
gie_kept _ x r glue = refl

gie_bit : (b : ℕ) (v : Bool) (x : Byte) → (nat_le 4 b && nat_le b 6) ≡ true → (with_bit b v x).b7 ≡ x.b7
gie_bit (suc (suc (suc (suc (suc (suc (suc b))))))) v x inside =
    let n : ℕ = suc (suc (suc (suc (suc (suc (suc b)))))) in
    let high = leb-true n 6 (and_parts (nat_le 4 n) (nat_le n 6) inside).1 in absurd (omega (arith, high))
gie_bit _ v x inside = refl

gie_make : (v : Bool) (p : Place) (b : ℕ) (r : Registers) → is_still (Bit v p b) ≡ true → ((effect_of (Make v p b)).change r).intcon.b7 ≡ r.intcon.b7
gie_make v place.Intcon b r still = gie_bit b v r.intcon still
gie_make v p b r still = gie_kept (reg_of p) (with_bit b v (read (reg_of p) r)) r still

gie_copy : (from to : Place) (r : Registers) → is_glue_reg (reg_of to) ≡ true → ((effect_of (Copy from to)).change r).intcon.b7 ≡ r.intcon.b7
gie_copy from place.Status r glue = refl
gie_copy from to r glue = gie_kept (reg_of to) (read (reg_of from) r) r glue

gie_change : (p : Place) (byte : ℕ) (o : Option ℕ) (r : Registers) → is_glue_reg (reg_of p) ≡ true → ((change_made o (reg_of p) byte).change r).intcon.b7 ≡ r.intcon.b7
gie_change p byte None r glue = gie_kept (reg_of p) (bits byte) r glue
gie_change p byte (Some b) r glue = gie_kept (reg_of p) (with_bit b (bit b (bits byte)) (read (reg_of p) r)) r glue

gie_change_by : (p : Place) (byte : ℕ) (o : Option ℕ) (none_changes : Bool) (r : Registers) → (none_changes ≡ false → is_glue_reg (reg_of p) ≡ true)
    → ((if none_changes then none else change_made o (reg_of p) byte).change r).intcon.b7 ≡ r.intcon.b7
gie_change_by p byte o true r glue = refl
gie_change_by p byte o false r glue = gie_change p byte o r (glue refl)

gie_set : (b : ℕ) (t : Bool) (r : Registers) → (nat_le 4 b && nat_le b 6) ≡ true
    → (if t then write Intcon (with_bit b true (read Intcon r)) r else r).intcon.b7 ≡ r.intcon.b7
gie_set b true r inside = gie_bit b true r.intcon inside
gie_set b false r inside = refl

gie_deed : (May : ℕ → Type 0) (deed : Deed) (r : Registers) → DeedStill May deed → ((effect_of deed).change r).intcon.b7 ≡ r.intcon.b7
gie_deed May Pause r still = refl
gie_deed May (Make v p b) r still = gie_make v p b r still.0
gie_deed May (Choose k) r still = refl
gie_deed May (Copy from to) r still = gie_copy from to r still.0
gie_deed May (Write p byte) r still = gie_kept (reg_of p) (bits byte) r still.0
gie_deed May (Change p changing byte) r still = gie_change_by p byte (only_bit changing) (is_zero (bits changing)) r (λ some. (still some).0)
gie_deed May (LowerFlag source) r still = absurd still
gie_deed May (SetIf p b) r still = gie_set b (bit b (read (reg_of p) r)) r still.0

pub gie_deeds : (May : ℕ → Type 0) (deeds : List Deed) (r : Registers) → AllByRecursion (DeedStill May) deeds → ((effect_in deeds).change r).intcon.b7 ≡ r.intcon.b7
gie_deeds May [] r still = refl
gie_deeds May (deed ∷ deeds) r still = gie_deeds May deeds ((effect_of deed).change r) still.1 ∙ gie_deed May deed r still.0

-- What is known of the bank, as bank bits.
pub banked_of : (bank : Bank) (c : Chip) → Holds bank c → Banked (bits_of_bank bank) c
banked_of Unknown c holds = (tt, tt)
banked_of (Known k) c holds = (holds.0, holds.1)

pub holds_of : (bank : Bank) (c : Chip) → Banked (bits_of_bank bank) c → Holds bank c
holds_of Unknown c banked = tt
holds_of (Known k) c banked = (banked.0, banked.1)

-- Where a stretch of lines has led from the chip `c`.
pub record Led (e : Effect) (behind : BankBits) (place : ℕ) (c d : Chip) : Type 0 where
  pub only : d ≡ left (e.change c.regs) d c
  pub there : d.pc ≡ place
  pub banked : Banked behind d

-- Lines that leave this lead there, and the code goes on.
module _ (program : ℕ → ℕ) (In May : ℕ → Type 0) (Q : Chip → Type 0) (stays : Withstands Q) where
  pub lines_then : (known behind : BankBits) (e : Effect) (lines : List Line) (p m : ℕ) (later : List PortWrite) (c : Chip)
      → Makes known behind e lines → StandFrom program p (map instr_of lines) → PlacesIn In p lines → StillLines May lines
      → c.pc ≡ p → Banked known c → Off c
      → ((d : Chip) → Led e behind (place_behind p lines) c d → Tells program (Still program In May) Q later m d)
      → Tells program (Still program In May) Q (e.puts c.regs ++ later) (length lines + m) c
  lines_then known behind e lines p m later c makes stand places still at banked off told =
      let d : Chip = ran_all false lines c in
      let led : Led e behind (place_behind p lines) c d = record {
        only = makes.leaves c;
        there = ran_place lines false false known p c (λ b. b) makes.fits at;
        banked = subst (λ k. Banked k d) makes.banked (banked_ends lines false false known c (λ b. b) makes.fits banked);
      } in
      subst (λ puts. Tells program (Still program In May) Q puts (length lines + m) c) (makes.puts c later)
      (tells_given program Off (Still program In May) Q off_stays (puts_of false lines c later) (length lines + m) c off
      (straight_then program (Given Off (Still program In May)) Q stays lines known p later m c makes.fits stand
      (still_all program In May p lines (still_parts In May p lines places still)) at banked
      (given_still program In May Q later m d (told d led))))

  -- Deeds that are glue, in whatever bank is known.
  pub deeds_then : (bank : Bank) (deeds : List Deed) (p m : ℕ) (later : List PortWrite) (c : Chip)
      → AllByRecursion DeedFits deeds → AllByRecursion (DeedStill May) deeds → StandFrom program p (map instr_of (lines_in bank deeds)) → PlacesIn In p (lines_in bank deeds)
      → c.pc ≡ p → Holds bank c → Off c
      → ((d : Chip) → Led (effect_in deeds) (bits_of_bank (bank_past bank deeds)) (place_behind p (lines_in bank deeds)) c d → Off d
      → Tells program (Still program In May) Q later m d)
      → Tells program (Still program In May) Q ((effect_in deeds).puts c.regs ++ later) (length (lines_in bank deeds) + m) c
  deeds_then bank deeds p m later c fits still stand places at holds off told =
      lines_then (bits_of_bank bank) (bits_of_bank (bank_past bank deeds)) (effect_in deeds) (lines_in bank deeds) p m later c (deeds-make bank deeds fits).0 stand places
      (still_in May bank deeds still) at (banked_of bank c holds) off
      (λ d led. told d led (ap (λ (x : Chip). x.regs.intcon.b7) led.only ∙ gie_deeds May deeds c.regs still ∙ off))
