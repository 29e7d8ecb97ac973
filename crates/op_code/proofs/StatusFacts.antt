-- The code of acts names STATUS for its bits alone, and never INDF.
use Rattle.std.proofs.Common.{◌≡◌, ℕ, ◌/◌, ◌%◌, Bool, true, false, ◌==◌, Option, Some, None, List, [], ◌∷◌, refl, subst, arith}
use Rattle.std.proofs.lemmas.Bool.{and_parts}
use Rattle.std.specs.List.{AllByRecursion}
use Rattle.pic_isa.specs.declared.instructions.Dest.{Dest}
use Rattle.pic_isa.specs.declared.instructions.Instr.{Instr}
use Rattle.pic_regs.specs.Map.{Indf, Plain, Status, reg_in}
use Rattle.pic_machine.specs.Exec.{field}
use Rattle.code_steps.specs.declared.banks.Bank.{Bank}
use Rattle.code_acts.specs.declared.acts.FileOp.{FileOp}
use Rattle.code_acts.specs.declared.acts.FileOp.TheVariants.{Add}
use Rattle.code_acts.specs.declared.acts.ConstOp.{ConstOp}
use Rattle.code_acts.specs.declared.acts.ConstOp.TheVariants.{AddK}
use Rattle.code_acts.specs.declared.acts.Act.{Act}
use Rattle.code_acts.specs.declared.acts.Act.TheVariants.{File, Store, Clear, Const, SkipBit, SkipCarry, SkipZero, MakeCarry, Near}
use Rattle.code_acts.specs.Acts.{name_of, number}
use Rattle.code_acts.specs.Codes.{bit_setting, code, const_instr, far, file_instr, high_bit, instr_of, latest, low_bit, may_skip, moved, names_allowed, settings, skip_instr, sound, status_setting, with_own}
use Rattle.code_acts.specs.Standing.{Placed}
use Rattle.op_code.specs.Operations.{NamesBitsOfStatus, is_of_bit}

abbrev All : List Instr → Type 0
All instrs = AllByRecursion NamesBitsOfStatus instrs

-- An instruction with another field; with none; and one that sets or tests a bit of STATUS.
other_field : (i : Instr) (f : ℕ) → field i ≡ Some f → (f ≡ 0x00 → ⊥) → (f ≡ 0x03 → ⊥) → NamesBitsOfStatus i
other_field i f is indf status = record { indf = λ e. indf (cc); status = λ e. absurd (status (cc)) }

no_field : (i : Instr) → field i ≡ None → NamesBitsOfStatus i
no_field i none = record { indf = λ e. absurd (cc); status = λ e. absurd (cc) }

of_status : (i : Instr) → field i ≡ Some 0x03 → is_of_bit i ≡ true → NamesBitsOfStatus i
of_status i is bit = record { indf = λ e. let same : ◌≡◌ {A = ℕ} 0x03 0x00 = cc in absurd (omega (arith, same)); status = λ e. bit }

setting_names : (b : ℕ) (v : Bool) → NamesBitsOfStatus (status_setting b v)
setting_names b true = of_status (status_setting b true) refl refl
setting_names b false = of_status (status_setting b false) refl refl

bit_names : (b : ℕ) (known : Option Bool) (v : Bool) (rest : List Instr) → All rest → All (bit_setting b known v rest)
bit_names b None v rest all = (setting_names b v, all)
bit_names b (Some true) true rest all = all
bit_names b (Some true) false rest all = (setting_names b false, all)
bit_names b (Some false) true rest all = (setting_names b true, all)
bit_names b (Some false) false rest all = all

settings_name : (bank : Bank) (target : Option ℕ) (rest : List Instr) → All rest → All (settings bank target rest)
settings_name bank None rest all = all
settings_name bank (Some k) rest all =
    bit_names 5 (low_bit bank) (k % 2 == 1) (bit_setting 6 (high_bit bank) (k / 2 == 1) rest) (bit_names 6 (high_bit bank) (k / 2 == 1) rest all)

-- Seven bits of the address of a plain byte are neither those of INDF nor those of STATUS.
not_indf : (f address : ℕ) → reg_in (address / 128) f ≡ Plain address → f ≡ 0x00 → ⊥
not_indf f address plain same =
    let clash : Indf ≡ Plain address = subst (λ x. reg_in (address / 128) x ≡ Plain address) same plain in cc

not_status : (f address : ℕ) → reg_in (address / 128) f ≡ Plain address → f ≡ 0x03 → ⊥
not_status f address plain same =
    let clash : Status ≡ Plain address = subst (λ x. reg_in (address / 128) x ≡ Plain address) same plain in cc

field-file : (op : FileOp) (f : ℕ) (d : Dest) → field (file_instr op f d) ≡ Some f
field-file Add f d = refl
field-file _ f d = refl

field-const : (op : ConstOp) (k : ℕ) → field (const_instr op k) ≡ None
field-const AddK k = refl
field-const _ k = refl

field-skip : (v : Bool) (f b : ℕ) → field (skip_instr v f b) ≡ Some f
field-skip true f b = refl
field-skip false f b = refl

skip_is_of_bit : (v : Bool) (f b : ℕ) → is_of_bit (skip_instr v f b) ≡ true
skip_is_of_bit true f b = refl
skip_is_of_bit false f b = refl

module _ (uses writes : ℕ → Bool) (place : ℕ → ℕ) (placed : Placed uses writes place) where
  -- An instruction on a named byte.
  on_name : (i : Instr) (n : ℕ) → uses n ≡ true → field i ≡ Some (place n % 128) → NamesBitsOfStatus i
  on_name i n used is =
      let f = place n % 128 in
      other_field i f is (not_indf f (place n) (placed.plain n used)) (not_status f (place n) (placed.plain n used))

  own_names : (a : Act) (rest : List Instr) → names_allowed uses (name_of a) ≡ true → All rest → All (with_own (instr_of place a) rest)
  own_names (File op n d) rest used all = (on_name (file_instr op (place (number n) % 128) d) (number n) used (field-file op (place (number n) % 128) d), all)
  own_names (Store n) rest used all = (on_name _ (number n) used refl, all)
  own_names (Clear n) rest used all = (on_name _ (number n) used refl, all)
  own_names (Const op k) rest used all = (no_field (const_instr op k) (field-const op k), all)
  own_names (SkipBit v n b) rest used all = (on_name (skip_instr v (place (number n) % 128) b) (number n) used (field-skip v (place (number n) % 128) b), all)
  own_names (SkipCarry v) rest used all = (of_status (skip_instr v 0x03 0) (field-skip v 0x03 0) (skip_is_of_bit v 0x03 0), all)
  own_names (SkipZero v) rest used all = (of_status (skip_instr v 0x03 2) (field-skip v 0x03 2) (skip_is_of_bit v 0x03 2), all)
  own_names (MakeCarry v) rest used all = (setting_names 0 v, all)
  own_names (Near n) rest used all = all

  pub instrs_name : (last : Option ℕ) (behind : Bool) (bank : Bank) (acts : List Act) → sound uses writes last behind acts ≡ true → All (code place bank acts)
  instrs_name last behind bank [] sounds = tt
  instrs_name last behind bank (a ∷ more) sounds =
      let parts = and_parts _ _ sounds in
      let used = (and_parts _ _ (and_parts _ _ (and_parts _ _ parts.0).0).0).0 in
      let then_in = moved bank (far place (name_of a)) in
      let rest = code place then_in more in
      settings_name bank (far place (name_of a)) (with_own (instr_of place a) rest)
      (own_names a rest used (instrs_name (latest last (name_of a)) (may_skip a) then_in more parts.1))
