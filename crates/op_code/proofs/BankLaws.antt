-- Steps that keep the bank: those of instructions that name STATUS for its bits alone, and set no bank bit.
use Rattle.std.proofs.Common.{◌≡◌, ℕ, zero, suc, ◌+◌, ◌<◌, ◌≤◌, ◌*◌, ◌⊎◌, Bool, true, false, not, ◌&&◌, ◌||◌, ◌==◌, Option, Some, None, List, [], ◌∷◌, length, ap, ◌∙◌, sym, refl, subst, arith, inl, inr}
use Rattle.std.proofs.lemmas.Bool.{agree_below_at, cases_lt, eq-eqb, eqb-true, ne_eqb}
use Rattle.std.proofs.Math.Bool.{or-true}
use Rattle.std.specs.List.{AllByRecursion}
use Rattle.pic_isa.specs.declared.instructions.Dest.{Dest}
use Rattle.pic_isa.specs.declared.instructions.Dest.TheVariants.{W, F}
use Rattle.pic_isa.specs.declared.instructions.Instr.{Instr}
use Rattle.pic_isa.specs.declared.instructions.Instr.TheVariants.{Addwf, Andwf, Clrf, Comf, Decf, Decfsz, Incf, Incfsz, Iorwf, Movf, Movwf, Rlf, Rrf, Subwf, Swapf, Xorwf, Bcf, Bsf, Btfsc, Btfss, Sleep}
use Rattle.pic_regs.specs.Bytes.{Byte, is_zero, one_if, swapped, with_bit, zeros}
use Rattle.pic_regs.specs.Map.{Reg, Indf, Pcl, Status, reg_in}
use Rattle.pic_regs.specs.Registers.{Registers}
use Rattle.pic_machine.specs.Chip.{Chip, advanced, bank, got, named, skipping, through}
use Rattle.pic_machine.specs.Exec.{counts, exec, exec_on, field, operand}
use Rattle.pic_machine.specs.Results.{Done, Flags, Outcome, Same, both, complement, differing, either, gives, just, minus, one_less, one_more, plus, stored, tested, turned_left, turned_right, with_flags}
use Rattle.code_steps.specs.Steps.{Comes, Is, next, own}
use Rattle.code_steps.specs.Ends.{Own}
use Rattle.code_steps.proofs.ComesLaws.{own_is}
use Rattle.code_steps.proofs.JumpLaws.{reg_in-common}
use Rattle.code_acts.specs.Laws.{sets_bank}
use Rattle.code_acts.specs.Standing.{StandFrom}
use Rattle.op_code.specs.Laws.{KeepsBank, SameBank}
use Rattle.op_code.specs.Operations.{NamesBitsOfStatus, is_of_bit}

-- A byte has bits 6 and 5 of another.
abbrev SameBits : (now before : Byte) → Type 0
SameBits now before = (now.b6 ≡ before.b6) × (now.b5 ≡ before.b5)

-- What an instruction leaves has the bank of a chip.
abbrev Leaves : Chip → Option Done → Type 0
Leaves c (Some done) = SameBits done.chip.regs.status c.regs.status
Leaves c None = Unit {0}

flags_same : (flags : Flags) (status : Byte) → SameBits (with_flags flags status) status
flags_same Same status = (refl, refl)
flags_same _ status = (refl, refl)

-- A result that goes to W, or to any register but STATUS.
stored_same : (reg : Reg) (result : Outcome) (c : Chip) → (reg ≡ Status → ⊥) → SameBits (stored reg result c).regs.status c.regs.status
stored_same Status result c other = absurd (other refl)
stored_same Pcl result c other = flags_same result.flags c.regs.status
stored_same _ result c other = flags_same result.flags c.regs.status

gives_same : (d : Dest) (reg : Reg) (result : Outcome) (c : Chip) → (reg ≡ Status → ⊥) → Leaves c (gives d reg result c)
gives_same W reg result c other = flags_same result.flags c.regs.status
gives_same F reg result c other = stored_same reg result c other

counts_same : (d : Dest) (reg : Reg) (x : Byte) (c : Chip) → (reg ≡ Status → ⊥) → Leaves c (counts d reg x c)
counts_same d reg x c other = gives_same d reg (just x) (skipping (is_zero x) c) other

-- Each instruction on another register.
exec_same : (i : Instr) (reg : Reg) (c : Chip) → (reg ≡ Status → ⊥) → Leaves c (exec_on i reg c)
exec_same (Addwf f d) reg c other = gives_same d reg (plus c.w (got reg c)) c other
exec_same (Andwf f d) reg c other = gives_same d reg (tested (both c.w (got reg c))) c other
exec_same (Comf f d) reg c other = gives_same d reg (tested (complement (got reg c))) c other
exec_same (Decf f d) reg c other = gives_same d reg (tested (one_less (got reg c))) c other
exec_same (Decfsz f d) reg c other = counts_same d reg (one_less (got reg c)) c other
exec_same (Incf f d) reg c other = gives_same d reg (tested (one_more (got reg c))) c other
exec_same (Incfsz f d) reg c other = counts_same d reg (one_more (got reg c)) c other
exec_same (Iorwf f d) reg c other = gives_same d reg (tested (either c.w (got reg c))) c other
exec_same (Movf f d) reg c other = gives_same d reg (tested (got reg c)) c other
exec_same (Rlf f d) reg c other = gives_same d reg (turned_left c.regs.status.b0 (got reg c)) c other
exec_same (Rrf f d) reg c other = gives_same d reg (turned_right c.regs.status.b0 (got reg c)) c other
exec_same (Subwf f d) reg c other = gives_same d reg (minus (got reg c) c.w) c other
exec_same (Swapf f d) reg c other = gives_same d reg (just (swapped (got reg c))) c other
exec_same (Xorwf f d) reg c other = gives_same d reg (tested (differing c.w (got reg c))) c other
exec_same (Clrf f) reg c other = stored_same reg (tested zeros) c other
exec_same (Movwf f) reg c other = stored_same reg (just c.w) c other
exec_same (Bcf f b) reg c other = stored_same reg (just (with_bit b false (got reg c))) c other
exec_same (Bsf f b) reg c other = stored_same reg (just (with_bit b true (got reg c))) c other
exec_same Sleep reg c other = tt
exec_same _ reg c other = (refl, refl)

-- Bits 6 and 5 of a byte of which another bit is made what is given.
bits_same : (b : ℕ) (v : Bool) (x : Byte) → (b ≡ 5 → ⊥) → (b ≡ 6 → ⊥) → SameBits (with_bit b v x) x
bits_same (suc (suc (suc (suc (suc zero))))) v x five six = absurd (five refl)
bits_same (suc (suc (suc (suc (suc (suc zero)))))) v x five six = absurd (six refl)
bits_same _ v x five six = (refl, refl)

bank_bit : (b : ℕ) → (b == 5 || b == 6) ≡ false → (b ≡ 5 → ⊥) × (b ≡ 6 → ⊥)
bank_bit b none = (
  λ e. let clash : true ≡ false = ap (λ t. t || b == 6) (sym (eq-eqb b 5 e)) ∙ none in cc,
  λ e. let clash : true ≡ false = sym (or-true (b == 5)) ∙ ap (λ t. b == 5 || t) (sym (eq-eqb b 6 e)) ∙ none in cc,
)

-- One that clears, sets or tests a bit of STATUS.
status_same : (i : Instr) (c : Chip) → is_of_bit i ≡ true → field i ≡ Some 0x03 → sets_bank i ≡ false → Leaves c (exec i c)
status_same (Bcf f b) c bit at none =
    let here : f ≡ 0x03 = cc in
    let other = bank_bit b (subst (λ g. (g == 0x03 && (b == 5 || b == 6)) ≡ false) here none) in
    subst (λ g. Leaves c (exec (Bcf g b) c)) (sym here) (bits_same b false c.regs.status other.0 other.1)
status_same (Bsf f b) c bit at none =
    let here : f ≡ 0x03 = cc in
    let other = bank_bit b (subst (λ g. (g == 0x03 && (b == 5 || b == 6)) ≡ false) here none) in
    subst (λ g. Leaves c (exec (Bsf g b) c)) (sym here) (bits_same b true c.regs.status other.0 other.1)
status_same (Btfsc f b) c bit at none = (refl, refl)
status_same (Btfss f b) c bit at none = (refl, refl)
status_same _ c bit at none = absurd (cc)

-- Seven bits of an address that are neither those of INDF nor those of STATUS name neither.
abbrev is_free : Reg → Bool
is_free Indf = false
is_free Status = false
is_free _ = true

abbrev names_free : ℕ → Bool
names_free f = not (f == 0x00) && not (f == 0x03)

free_in : (high low : Bool) (f : ℕ) → f < 128 → is_free (reg_in (2 * one_if high + one_if low) f) ≡ names_free f
free_in true true f below = agree_below_at (λ k. is_free (reg_in 3 k)) names_free 128 f refl below
free_in true false f below = agree_below_at (λ k. is_free (reg_in 2 k)) names_free 128 f refl below
free_in false true f below = agree_below_at (λ k. is_free (reg_in 1 k)) names_free 128 f refl below
free_in false false f below = agree_below_at (λ k. is_free (reg_in 0 k)) names_free 128 f refl below

free_of : (r : Registers) (f : ℕ) → (f ≡ 0x00 → ⊥) → (f ≡ 0x03 → ⊥) → is_free (reg_in (bank r) f) ≡ true
free_of r f indf status = elim (cases_lt f 128) as (λ s. is_free (reg_in (bank r) f) ≡ true) [
  | inl below ↦ free_in r.status.b6 r.status.b5 f below ∙ ap (λ b. not b && not (f == 0x03)) (ne_eqb f 0x00 indf) ∙ ap not (ne_eqb f 0x03 status)
  | inr from ↦ ap is_free (reg_in-common (bank r) f (omega (arith, from)))
]

through_free : (r : Registers) (reg : Reg) → is_free reg ≡ true → through r reg ≡ Status → ⊥
through_free r Indf free is = absurd (cc)
through_free r Status free is = absurd (cc)
through_free r _ free is = absurd (cc)

same_or : (i : Instr) (c : Chip) (o : Option ℕ) → field i ≡ o → NamesBitsOfStatus i → sets_bank i ≡ false → (operand o c.regs ≡ Status → ⊥) ⊎ Leaves c (exec i c)
same_or i c None at names none = inl (λ is. absurd (cc))
same_or i c (Some f) at names none = by_test (f == 0x03) refl
  where
    by_test : (b : Bool) → (f == 0x03) ≡ b → (named f c.regs ≡ Status → ⊥) ⊎ Leaves c (exec i c)
    by_test true same =
        let here : field i ≡ Some 0x03 = at ∙ ap Some (eqb-true f 0x03 same) in
        inr (status_same i c (names.status here) here none)
    by_test false other =
        inl (through_free c.regs (reg_in (bank c.regs) f) (free_of c.regs f (λ e. names.indf (at ∙ ap Some e)) (λ e. let clash : true ≡ false = sym (eq-eqb f 0x03 e) ∙ other in cc)))

pub keeps_bank : (i : Instr) (c : Chip) (done : Done) → KeepsBank i c done
keeps_bank i c done names none is =
    let left : Leaves c (exec i c) = elim (same_or i c (field i) refl names none) as (λ s. Leaves c (exec i c)) [
      | inl other ↦ exec_same i (operand (field i) c.regs) (advanced c) other
      | inr same ↦ same
    ] in
    let there : Leaves c (Some done) = subst (Leaves c) is left in
    record { rp1 = there.0; rp0 = there.1 }

-- What holds of each of some instructions holds of the one that stands at a place among theirs.
pub stands_there : (P : Instr → Type 0) (program : ℕ → ℕ) (p : ℕ) (instrs : List Instr) → StandFrom program p instrs → AllByRecursion P instrs → p + length instrs ≤ 8192
    → (q : ℕ) → p ≤ q → q < p + length instrs → (i : Instr) × Is program q i × P i
stands_there P program p [] stand all room q from below = absurd (omega arith)
stands_there P program p (i ∷ more) stand all room q from below = elim (cases_lt p q) as (λ s. (j : Instr) × Is program q j × P j) [
  | inl further ↦
      let there : next p ≡ p + 1 = omega arith in
      stands_there P program (p + 1) more (subst (λ a. StandFrom program a more) there stand.1) all.1 (omega arith) q (omega arith) (omega arith)
  | inr here ↦ let same : p ≡ q = omega arith in (i, subst (λ a. Is program a i) same stand.0, all.0)
]

-- Steps of instructions that name STATUS for its bits alone keep the bank, where none of them sets a bank bit.
module _ (program : ℕ → ℕ) (R : Chip → Chip → Type 0) (may : ℕ → Type 0) (start : ℕ) (instrs : List Instr) (stand : StandFrom program start instrs) (room : start + length instrs ≤ 8192)
    (names : AllByRecursion NamesBitsOfStatus instrs) (Q : Chip → Type 0) where
  abbrev None_sets : Type 0
  None_sets = AllByRecursion (λ i. sets_bank i ≡ false) instrs

  abbrev pub Step : Chip → Done → Type 0
  Step d done = Own may start (start + length instrs) d done × (None_sets → SameBank d done.chip)

  both_all : (is : List Instr) → AllByRecursion NamesBitsOfStatus is → AllByRecursion (λ i. sets_bank i ≡ false) is → AllByRecursion (λ i. NamesBitsOfStatus i × (sets_bank i ≡ false)) is
  both_all [] first second = tt
  both_all (i ∷ is) first second = ((first.0, second.0), both_all is first.1 second.1)

  step_same : (d : Chip) (done : Done) → own program d ≡ Some done → Own may start (start + length instrs) d done → None_sets → SameBank d done.chip
  step_same d done is step none =
      let there = stands_there (λ i. NamesBitsOfStatus i × (sets_bank i ≡ false)) program start instrs stand (both_all instrs names none) room d.pc step.from step.below in
      keeps_bank there.0 d done there.2.0 there.2.1 (sym (own_is program d there.0 there.1) ∙ is)

  pub comes_with_bank : (k : ℕ) (c : Chip) → Comes program R (Own may start (start + length instrs)) Q k c → Comes program R Step Q k c
  comes_with_bank zero c q = q
  comes_with_bank (suc k) c (inl q) = inl q
  comes_with_bank (suc k) c (inr goes) = inr (λ d r. let step = goes d r in (step.0, step.1, (step.2, step_same d step.0 step.1 step.2), comes_with_bank k step.0.chip step.3))
