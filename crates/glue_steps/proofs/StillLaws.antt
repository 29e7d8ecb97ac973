-- Steps of glue: those of lines, those of work with interrupts off, and that GIE stays clear.
use Rattle.std.proofs.Common.{◌≡◌, ℕ, zero, suc, ◌+◌, ◌⊎◌, Bool, true, false, ◌==◌, ◌&&◌, if◌then◌else◌, Option, Some, None, IfSome, List, [], ◌∷◌, ap, ◌∙◌, sym, refl, subst, arith, inl, inr, length, ◌≤◌}
use Rattle.std.specs.Prelude.{nat_le}
use Rattle.std.proofs.lemmas.Bool.{and_parts, eqb-true, leb-true}
use Rattle.pic_isa.specs.declared.instructions.Instr.{Instr}
use Rattle.pic_isa.specs.declared.instructions.Instr.TheVariants.{Retfie}
use Rattle.pic_isa.specs.declared.sources.Source.{Source}
use Rattle.pic_isa.specs.Instructions.{instruction_of}
use Rattle.pic_regs.specs.declared.places.Place.{Place}
use Rattle.pic_regs.specs.declared.places.Place.TheVariants as place
use Rattle.pic_regs.specs.Bytes.{Byte, with_bit, zeros}
use Rattle.pic_regs.specs.Map.{Reg, Absent, Indf, Pcl, Status, Fsr, Pclath, Intcon, Pir1, Pir2, Pie1, Pie2, Port, Tris, Plain, over}
use Rattle.pic_regs.specs.Places.{reg_of}
use Rattle.pic_regs.specs.Registers.{read, flag}
use Rattle.pic_machine.specs.Chip.{Chip, advanced}
use Rattle.pic_machine.specs.Results.{Done, Outcome, Flags, Same, Zero, Carry, All, just, tested, with_flags, status_byte, stored, written}
use Rattle.code_steps.specs.Steps.{next, Is}
use Rattle.glue_steps.specs.declared.lines.Line.{Line}
use Rattle.glue_steps.specs.declared.lines.Line.TheVariants.{Load, Store, Clear, Bit, Lower, Skip}
use Rattle.glue_steps.specs.Tells.{Withstands, Given, Tells}
use Rattle.glue_steps.specs.Still.{with_glue_of, own_byte, MayWrite, Off, Still, is_glue_reg, is_still, target_of, StillAll, PlacesIn, StillLines}
use Rattle.glue_steps.specs.Lines.{instr_of, did, ran}
use Rattle.glue_steps.specs.Stretches.{Grants, GrantsAll}
use Rattle.code_steps.specs.Between.{placed_at}
use Rattle.code_steps.specs.Ends.{Own, Between}
use Rattle.code_steps.proofs.JumpLaws.{Passes, PassesSettings}
use Rattle.glue_steps.proofs.TellsLaws.{tells_wider}
use Rattle.pic_machine.specs.declared.steps.PortWrite.{PortWrite}

pub off_stays : Withstands Off
off_stays c d r off = ap (λ (x : Chip). x.regs.intcon.b7) r.only ∙ off

-- Only the word 0009h is RETFIE.
abbrev is_retfie : Option Instr → Bool
is_retfie (Some Retfie) = true
is_retfie _ = false

no_return_by : (word : ℕ) (i : Instr) → instruction_of word ≡ Some i → is_retfie (Some i) ≡ false → (b : Bool) → (word == 9) ≡ b → b ≡ false
no_return_by word i is other false same = refl
no_return_by word i is other true same =
    let nine : word ≡ 9 = eqb-true word 9 same in
    let found : instruction_of 9 ≡ Some i = ap instruction_of (sym nine) ∙ is in
    let clash : true ≡ false = ap is_retfie found ∙ other in absurd (cc)

pub no_return : (program : ℕ → ℕ) (p : ℕ) (i : Instr) → Is program p i → is_retfie (Some i) ≡ false → (program p == 0x0009) ≡ false
no_return program p i is other = no_return_by (program p) i is other (program p == 9) refl

line_returns_not : (line : Line) → is_retfie (Some (instr_of line)) ≡ false
line_returns_not (Bit true p b) = refl
line_returns_not (Bit false p b) = refl
line_returns_not (Skip true p b) = refl
line_returns_not (Skip false p b) = refl
line_returns_not _ = refl

-- Bits 4 and 3 of STATUS stay.
keeps_high : (flags : Flags) (status : Byte) → with_flags flags status ≡ record (with_flags flags status) { b4 = status.b4; b3 = status.b3 }
keeps_high Same status = refl
keeps_high (Zero z) status = refl
keeps_high (Carry c) status = refl
keeps_high (All c dc z) status = refl

-- What a result that is stored in a register of glue leaves.
kept_stored : (reg : Reg) (result : Outcome) (d : Chip) → is_glue_reg reg ≡ true → stored reg result (advanced d) ≡ with_glue_of (stored reg result (advanced d)) d
kept_stored Pcl result d ok = absurd (cc)
kept_stored Fsr result d ok = absurd (cc)
kept_stored Intcon result d ok = absurd (cc)
kept_stored Pir1 result d ok = absurd (cc)
kept_stored Pir2 result d ok = absurd (cc)
kept_stored Status result d ok =
    let e : Chip = stored Status result (advanced d) in
    ap (λ (s : Byte). record e { regs = record e.regs { status = s } }) (keeps_high result.flags (over Status d.regs.status (status_byte result.flags result.byte d.regs.status)))
kept_stored reg result d ok =
    let e : Chip = stored reg result (advanced d) in
    ap (λ (s : Byte). record e { regs = record e.regs { status = s } }) (keeps_high result.flags d.regs.status)

enable_bit : (b : ℕ) (v : Bool) (i : Byte) → (nat_le 4 b && nat_le b 6) ≡ true → with_bit b v i ≡ record i { b6 = (with_bit b v i).b6; b5 = (with_bit b v i).b5; b4 = (with_bit b v i).b4 }
enable_bit zero v i inside = absurd (cc)
enable_bit (suc zero) v i inside = absurd (cc)
enable_bit (suc (suc zero)) v i inside = absurd (cc)
enable_bit (suc (suc (suc zero))) v i inside = absurd (cc)
enable_bit (suc (suc (suc (suc (suc (suc (suc b))))))) v i inside =
    let n : ℕ = suc (suc (suc (suc (suc (suc (suc b)))))) in
    let high = leb-true n 6 (and_parts (nat_le 4 n) (nat_le n 6) inside).1 in absurd (omega (arith, high))
enable_bit _ v i inside = refl

kept_bit : (v : Bool) (p : Place) (b : ℕ) (d : Chip) → is_still (Bit v p b) ≡ true → ran (Bit v p b) d ≡ with_glue_of (ran (Bit v p b) d) d
kept_bit v place.Intcon b d ok =
    ap (λ (i : Byte). record (advanced d) { regs = record d.regs { intcon = i } }) (enable_bit b v d.regs.intcon ok)
kept_bit v p b d ok = kept_stored (reg_of p) (just (with_bit b v (read (reg_of p) d.regs))) d ok

kept_by : (line : Line) (d : Chip) → is_still line ≡ true → ran line d ≡ with_glue_of (ran line d) d
kept_by (Store p) d ok = kept_stored (reg_of p) (just d.w) d ok
kept_by (Clear p) d ok = kept_stored (reg_of p) (tested zeros) d ok
kept_by (Bit v p b) d ok = kept_bit v p b d ok
kept_by (Lower source) d ok = absurd (cc)
kept_by _ d ok = refl

-- Only the register that is written changes, and STATUS.
updated_or : (May : ℕ → Type 0) (memory : ℕ → Byte) (at other : ℕ) (x : Byte) → May at → (b : Bool) → (other == at) ≡ b
    → ((if b then x else memory other) ≡ memory other) ⊎ May other
updated_or May memory at other x may true same = inr (subst May (sym (eqb-true other at same)) may)
updated_or May memory at other x may false same = inl refl

changed_or : (May : ℕ → Type 0) (reg other : Reg) (result : Outcome) (d : Chip) → is_glue_reg reg ≡ true → MayWrite May reg
    → (own_byte other (stored reg result (advanced d)).regs ≡ own_byte other d.regs) ⊎ MayWrite May other
changed_or May Fsr Fsr result d ok may = inr may
changed_or May Pclath Pclath result d ok may = inr may
changed_or May Pie1 Pie1 result d ok may = inr may
changed_or May Pie2 Pie2 result d ok may = inr may
changed_or May (Port n) (Port m) result d ok may = updated_or (λ k. May (0x005 + k)) d.regs.latch n m (over (Port n) (d.regs.latch n) result.byte) may (m == n) refl
changed_or May (Tris n) (Tris m) result d ok may = updated_or (λ k. May (0x085 + k)) d.regs.tris n m (over (Tris n) (d.regs.tris n) result.byte) may (m == n) refl
changed_or May (Plain a) (Plain b) result d ok may = updated_or May d.regs.plain a b result.byte may (b == a) refl
changed_or May Intcon Intcon result d ok may = inr may
changed_or May Pir1 Pir1 result d ok may = inr may
changed_or May Pir2 Pir2 result d ok may = inr may
changed_or May _ Status result d ok may = inr tt
changed_or May _ _ result d ok may = inl refl

wrote_may : (May : ℕ → Type 0) (reg : Reg) → MayWrite May reg → IfSome (written reg) (λ address. (address ≡ 0x003) ⊎ May address)
wrote_may May Status may = inl refl
wrote_may May Indf may = tt
wrote_may May Absent may = tt
wrote_may May _ may = inr may

-- What a line of glue changes, and what it wrote.
pub record Changed (May : ℕ → Type 0) (line : Line) (d : Chip) : Type 0 where
  pub changes : (reg : Reg) → (own_byte reg (ran line d).regs ≡ own_byte reg d.regs) ⊎ MayWrite May reg
  pub wrote : IfSome (did line d).wrote (λ address. (address ≡ 0x003) ⊎ May address)

status_or : (May : ℕ → Type 0) (x : Byte) (other : Reg) (d : Chip) → (own_byte other (record d.regs { status = x }) ≡ own_byte other d.regs) ⊎ MayWrite May other
status_or May x Status d = inr tt
status_or May x _ d = inl refl

bit_changes : (May : ℕ → Type 0) (v : Bool) (p : Place) (b : ℕ) (d : Chip) → is_still (Bit v p b) ≡ true → MayWrite May (reg_of p) → (reg : Reg)
    → (own_byte reg (ran (Bit v p b) d).regs ≡ own_byte reg d.regs) ⊎ MayWrite May reg
bit_changes May v place.Intcon b d ok may Intcon = inr may
bit_changes May v place.Intcon b d ok may _ = inl refl
bit_changes May v p b d ok may reg = changed_or May (reg_of p) reg (just (with_bit b v (read (reg_of p) d.regs))) d ok may

changed_by : (May : ℕ → Type 0) (line : Line) (d : Chip) → is_still line ≡ true → IfSome (target_of line) (MayWrite May) → Changed May line d
changed_by May (Load p) d ok may = record { changes = λ reg. status_or May (ran (Load p) d).regs.status reg d; wrote = tt }
changed_by May (Store p) d ok may = record { changes = λ reg. changed_or May (reg_of p) reg (just d.w) d ok may; wrote = wrote_may May (reg_of p) may }
changed_by May (Clear p) d ok may = record { changes = λ reg. changed_or May (reg_of p) reg (tested zeros) d ok may; wrote = wrote_may May (reg_of p) may }
changed_by May (Bit v p b) d ok may = record { changes = bit_changes May v p b d ok may; wrote = wrote_may May (reg_of p) may }
changed_by May (Lower source) d ok may = absurd (cc)
changed_by May _ d ok may = record { changes = λ reg. inl refl; wrote = tt }

-- The step of a line is one of glue, where GIE is clear; and it stays so.
pub still_line : (program : ℕ → ℕ) (In May : ℕ → Type 0) (p : ℕ) (line : Line) → is_still line ≡ true → In p → IfSome (target_of line) (MayWrite May)
    → Grants program (Given Off (Still program In May)) p line
still_line program In May p line ok inside may d at is off =
    let kept = kept_by line d ok in
    let by = changed_by May line d ok may in (
      record {
        inside = subst In (sym at) inside;
        off = off;
        no_return = no_return program d.pc (instr_of line) (subst (λ q. Is program q (instr_of line)) (sym at) is) (line_returns_not line);
        kept = kept;
        changes = by.changes;
        wrote = by.wrote;
      },
      ap (λ (x : Chip). x.regs.intcon.b7) kept ∙ off,
    )

pub still_all : (program : ℕ → ℕ) (In May : ℕ → Type 0) (p : ℕ) (lines : List Line) → StillAll In May p lines
    → GrantsAll program (Given Off (Still program In May)) p lines
still_all program In May p [] still = tt
still_all program In May p (line ∷ lines) still =
    (still_line program In May p line still.0 still.1 still.2, still_all program In May (next p) lines still.3)

-- GIE stays clear in a step of glue, and so do all flags.
pub still_off : (program : ℕ → ℕ) (In May : ℕ → Type 0) (d : Chip) (done : Done) → Still program In May d done → Off done.chip
still_off program In May d done step = ap (λ (x : Chip). x.regs.intcon.b7) step.kept ∙ step.off

pub still_flags : (program : ℕ → ℕ) (In May : ℕ → Type 0) (d : Chip) (done : Done) → Still program In May d done → (source : Source)
    → flag source done.chip.regs ≡ flag source d.regs
still_flags program In May d done step source = ap (λ (x : Chip). flag source x.regs) step.kept

-- A step of glue is one at more places, and one that may write more.
may_more : (May Also : ℕ → Type 0) → ((address : ℕ) → May address → Also address) → (reg : Reg) → MayWrite May reg → MayWrite Also reg
may_more May Also more Status may = tt
may_more May Also more Indf may = more 0 may
may_more May Also more Absent may = tt
may_more May Also more Pcl may = more 2 may
may_more May Also more reg may = more _ may

pub still_wider : (program : ℕ → ℕ) (In Wide May Also : ℕ → Type 0) → ((p : ℕ) → In p → Wide p) → ((address : ℕ) → May address → Also address)
    → (d : Chip) (done : Done) → Still program In May d done → Still program Wide Also d done
still_wider program In Wide May Also places more d done step = record {
  inside = places d.pc step.inside;
  off = step.off;
  no_return = step.no_return;
  kept = step.kept;
  changes = λ reg. either_way (may_more May Also more reg) (step.changes reg);
  wrote = written_more done.wrote step.wrote;
}
  where
    either_way : {A B C : Type 0} → (B → C) → A ⊎ B → A ⊎ C
    either_way f (inl a) = inl a
    either_way f (inr b) = inr (f b)

    written_more : (o : Option ℕ) → IfSome o (λ address. (address ≡ 0x003) ⊎ May address) → IfSome o (λ address. (address ≡ 0x003) ⊎ Also address)
    written_more (Some address) wrote = either_way (more address) wrote
    written_more None wrote = tt

-- Jumps, skips and page settings are such steps, at places whose word isn't RETFIE's; so are steps of work with GIE clear.
module _ (program : ℕ → ℕ) (In May : ℕ → Type 0) (none : (p : ℕ) → In p → (program p == 0x0009) ≡ false) where
  same_page : (reg : Reg) (place : ℕ) (d : Chip) → own_byte reg (placed_at place d.regs.pclath d).regs ≡ own_byte reg d.regs
  same_page Status place d = refl
  same_page _ place d = refl

  other_page : (reg : Reg) (place : ℕ) (pclath : Byte) (d : Chip) → May 0x00A → (own_byte reg (placed_at place pclath d).regs ≡ own_byte reg d.regs) ⊎ MayWrite May reg
  other_page Pclath place pclath d may = inr may
  other_page _ place pclath d may = inl refl

  pub still_passes : Passes In (Given Off (Still program In May))
  still_passes d place inside off =
      (record { inside = inside; off = off; no_return = none d.pc inside; kept = refl; changes = λ reg. inl (same_page reg place d); wrote = tt }, off)

  pub still_settings : May 0x00A → PassesSettings In (Given Off (Still program In May))
  still_settings may d place pclath inside off = (
    record { inside = inside; off = off; no_return = none d.pc inside; kept = refl; changes = λ reg. other_page reg place pclath d may; wrote = inr may },
    off,
  )

  worked : (reg : Reg) (start stop : ℕ) (d : Chip) (done : Done) → Own May start stop d done → (own_byte reg done.chip.regs ≡ own_byte reg d.regs) ⊎ MayWrite May reg
  worked Status start stop d done step = inr tt
  worked Pclath start stop d done step = step.pclath
  worked (Plain address) start stop d done step = step.plain address
  worked reg start stop d done step = inl (ap (λ (x : Chip). own_byte reg x.regs) step.kept)

  pub still_work : (start stop : ℕ) (d : Chip) (done : Done) → In d.pc → Off d → Own May start stop d done → Still program In May d done
  still_work start stop d done inside off step = record {
    inside = inside;
    off = off;
    no_return = none d.pc inside;
    kept = subst (λ (x : Chip). x ≡ with_glue_of x d) (sym step.kept) refl;
    changes = λ reg. worked reg start stop d done step;
    wrote = step.wrote;
  }

-- Lines at places with In, which are such steps.
pub still_parts : (In May : ℕ → Type 0) (p : ℕ) (lines : List Line) → PlacesIn In p lines → StillLines May lines → StillAll In May p lines
still_parts In May p [] places still = tt
still_parts In May p (line ∷ lines) places still = (still.0, places.0, still.1, still_parts In May (next p) lines places.1 still.2)

-- The places of lines lie in an interval that has room for them.
pub places_between : (start stop p : ℕ) (lines : List Line) → stop ≤ 8192 → start ≤ p → p + length lines ≤ stop → PlacesIn (Between start stop) p lines
places_between start stop p [] top low room = tt
places_between start stop p (line ∷ []) top low room = ((low, omega arith), tt)
places_between start stop p (line ∷ second ∷ lines) top low room =
    let onward : next p ≡ p + 1 = omega arith in
    ((low, omega arith), places_between start stop (next p) (second ∷ lines) top (omega arith) (omega arith))

-- Code that comes to something by steps of glue does so from chips with GIE clear.
pub given_still : (program : ℕ → ℕ) (In May : ℕ → Type 0) (Q : Chip → Type 0) (puts : List PortWrite) (k : ℕ) (c : Chip)
    → Tells program (Still program In May) Q puts k c → Tells program (Given Off (Still program In May)) Q puts k c
given_still program In May Q puts k c told =
    tells_wider program (Still program In May) (Given Off (Still program In May)) Q Q (λ d done step off. (step, still_off program In May d done step)) (λ e q. q) puts k c told
