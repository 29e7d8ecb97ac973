-- The own step of an act: what its instruction leaves, in closed form, and that it is one that code may take.
use Rattle.std.proofs.Common.{◌≡◌, ℕ, ◌%◌, ◌<◌, ◌≤◌, ◌⊎◌, Bool, true, false, ◌==◌, if◌then◌else◌, Option, Some, None, IfSome, ap, sym, refl, subst, inl, inr}
use Rattle.std.proofs.lemmas.Bool.{eqb-true}
use Rattle.pic_isa.specs.declared.instructions.Dest.TheVariants.{W, F}
use Rattle.pic_isa.specs.declared.instructions.Instr.{Instr}
use Rattle.pic_isa.specs.declared.instructions.Instr.TheVariants.{Addwf, Andwf, Clrf, Comf, Incfsz, Iorwf, Movf, Movwf, Rlf, Rrf, Subwf, Swapf, Xorwf, Btfsc, Btfss}
use Rattle.pic_regs.specs.Bytes.{Byte, updated}
use Rattle.pic_regs.specs.Map.{Plain, reg_in}
use Rattle.pic_machine.specs.Chip.{Chip, bank, advanced, skipping, through}
use Rattle.pic_machine.specs.Results.{Done, Flags, Same, Zero, Carry, All, Outcome, with_flags}
use Rattle.pic_machine.specs.Exec.{exec_on}
use Rattle.code_steps.specs.Steps.{own_of}
use Rattle.code_steps.specs.Ends.{Own}
use Rattle.code_acts.specs.declared.acts.FileOp.TheVariants.{Add, And, Com, IncSkip, Ior, Mov, Left, Right, Sub, Swap, Xor}
use Rattle.code_acts.specs.declared.acts.ConstOp.TheVariants.{AddK, AndK, MovK, XorK}
use Rattle.code_acts.specs.declared.acts.Act.{Act}
use Rattle.code_acts.specs.declared.acts.Act.TheVariants.{File, Store, Clear, Const, SkipBit, SkipCarry, SkipZero, MakeCarry, Near}
use Rattle.code_acts.specs.Acts.{Into, Nowhere, IntoW, IntoName, number, into, name_of, byte_of, result, skips, w_after}
use Rattle.code_acts.specs.Codes.{instr_of, has_word}

-- The byte that an act names, and what the act gives, on a chip.
abbrev pub named_byte : (place : ℕ → ℕ) → Act → Chip → Byte
named_byte place a d = byte_of (name_of a) (λ n. d.regs.plain (place n))

abbrev pub outcome : (place : ℕ → ℕ) → Act → Chip → Outcome
outcome place a d = result a d.w d.regs.status.b0 (named_byte place a d)

-- It skips the next act.
abbrev pub skips_on : (place : ℕ → ℕ) → Act → Chip → Bool
skips_on place a d = skips a d.regs.status.b0 d.regs.status.b2 (named_byte place a d) (outcome place a d).byte

-- Plain bytes after a result.
abbrev pub plain_after : (place : ℕ → ℕ) → Into → Byte → (ℕ → Byte) → ℕ → Byte
plain_after place (IntoName n) byte plain = updated plain (place n) byte
plain_after place _ byte plain = plain

-- The chip after an act, and the act's own step.
abbrev pub after : (place : ℕ → ℕ) → Act → Chip → Chip
after place a d =
    let r = outcome place a d in
    skipping (skips_on place a d) (record (advanced d) {
      w = w_after (into a) r.byte d.w;
      regs = record d.regs { status = with_flags r.flags d.regs.status; plain = plain_after place (into a) r.byte d.regs.plain };
    })

abbrev pub wrote_into : (place : ℕ → ℕ) → Into → Option ℕ
wrote_into place (IntoName n) = Some (place n)
wrote_into place _ = None

abbrev pub wrote_by : (place : ℕ → ℕ) → Act → Option ℕ
wrote_by place (MakeCarry v) = Some 0x003
wrote_by place a = wrote_into place (into a)

abbrev pub done : (place : ℕ → ℕ) → Act → Chip → Done
done place a d = record { chip = after place a d; wrote = wrote_by place a; port = None }

-- The name of an act is reached in the bank of the chip.
abbrev pub Reached : (place : ℕ → ℕ) → Option ℕ → Chip → Type 0
Reached place None d = Unit {0}
Reached place (Some n) d = reg_in (bank d.regs) (place n % 128) ≡ Plain (place n)

-- An instruction on a register that is known.
on_plain : (i : Instr) (f a : ℕ) (d : Chip) → reg_in (bank d.regs) f ≡ Plain a
    → exec_on i (through d.regs (reg_in (bank d.regs) f)) (advanced d) ≡ exec_on i (Plain a) (advanced d)
on_plain i f a d e = λ j. exec_on i (through d.regs (e j)) (advanced d)

-- What the instruction of an act leaves.
pub step_of : (place : ℕ → ℕ) (a : Act) (d : Chip) → Reached place (name_of a) d → has_word a ≡ true → own_of (instr_of place a) d ≡ Some (done place a d)
step_of place (File Add n W) d at word = on_plain (Addwf (place (number n) % 128) W) (place (number n) % 128) (place (number n)) d at
step_of place (File Add n F) d at word = on_plain (Addwf (place (number n) % 128) F) (place (number n) % 128) (place (number n)) d at
step_of place (File And n W) d at word = on_plain (Andwf (place (number n) % 128) W) (place (number n) % 128) (place (number n)) d at
step_of place (File And n F) d at word = on_plain (Andwf (place (number n) % 128) F) (place (number n) % 128) (place (number n)) d at
step_of place (File Com n W) d at word = on_plain (Comf (place (number n) % 128) W) (place (number n) % 128) (place (number n)) d at
step_of place (File Com n F) d at word = on_plain (Comf (place (number n) % 128) F) (place (number n) % 128) (place (number n)) d at
step_of place (File IncSkip n W) d at word = on_plain (Incfsz (place (number n) % 128) W) (place (number n) % 128) (place (number n)) d at
step_of place (File IncSkip n F) d at word = on_plain (Incfsz (place (number n) % 128) F) (place (number n) % 128) (place (number n)) d at
step_of place (File Ior n W) d at word = on_plain (Iorwf (place (number n) % 128) W) (place (number n) % 128) (place (number n)) d at
step_of place (File Ior n F) d at word = on_plain (Iorwf (place (number n) % 128) F) (place (number n) % 128) (place (number n)) d at
step_of place (File Mov n W) d at word = on_plain (Movf (place (number n) % 128) W) (place (number n) % 128) (place (number n)) d at
step_of place (File Mov n F) d at word = on_plain (Movf (place (number n) % 128) F) (place (number n) % 128) (place (number n)) d at
step_of place (File Left n W) d at word = on_plain (Rlf (place (number n) % 128) W) (place (number n) % 128) (place (number n)) d at
step_of place (File Left n F) d at word = on_plain (Rlf (place (number n) % 128) F) (place (number n) % 128) (place (number n)) d at
step_of place (File Right n W) d at word = on_plain (Rrf (place (number n) % 128) W) (place (number n) % 128) (place (number n)) d at
step_of place (File Right n F) d at word = on_plain (Rrf (place (number n) % 128) F) (place (number n) % 128) (place (number n)) d at
step_of place (File Sub n W) d at word = on_plain (Subwf (place (number n) % 128) W) (place (number n) % 128) (place (number n)) d at
step_of place (File Sub n F) d at word = on_plain (Subwf (place (number n) % 128) F) (place (number n) % 128) (place (number n)) d at
step_of place (File Swap n W) d at word = on_plain (Swapf (place (number n) % 128) W) (place (number n) % 128) (place (number n)) d at
step_of place (File Swap n F) d at word = on_plain (Swapf (place (number n) % 128) F) (place (number n) % 128) (place (number n)) d at
step_of place (File Xor n W) d at word = on_plain (Xorwf (place (number n) % 128) W) (place (number n) % 128) (place (number n)) d at
step_of place (File Xor n F) d at word = on_plain (Xorwf (place (number n) % 128) F) (place (number n) % 128) (place (number n)) d at
step_of place (Store n) d at word = on_plain (Movwf (place (number n) % 128)) (place (number n) % 128) (place (number n)) d at
step_of place (Clear n) d at word = on_plain (Clrf (place (number n) % 128)) (place (number n) % 128) (place (number n)) d at
step_of place (Const AddK k) d at word = refl
step_of place (Const AndK k) d at word = refl
step_of place (Const MovK k) d at word = refl
step_of place (Const XorK k) d at word = refl
step_of place (SkipBit true n b) d at word = on_plain (Btfss (place (number n) % 128) b) (place (number n) % 128) (place (number n)) d at
step_of place (SkipBit false n b) d at word = on_plain (Btfsc (place (number n) % 128) b) (place (number n) % 128) (place (number n)) d at
step_of place (SkipCarry true) d at word = refl
step_of place (SkipCarry false) d at word = refl
step_of place (SkipZero true) d at word = refl
step_of place (SkipZero false) d at word = refl
step_of place (MakeCarry true) d at word = refl
step_of place (MakeCarry false) d at word = refl
step_of place (Near n) d at word = absurd (cc)

-- Flags leave bits 7 to 3 of STATUS.
pub flags_keep : (flags : Flags) (status : Byte)
    → with_flags flags status ≡ record (with_flags flags status) { b7 = status.b7; b6 = status.b6; b5 = status.b5; b4 = status.b4; b3 = status.b3 }
flags_keep Same status = refl
flags_keep (Zero z) status = refl
flags_keep (Carry c) status = refl
flags_keep (All c dc z) status = refl

-- A result goes to a byte that may be written.
abbrev pub MayGo : (may : ℕ → Type 0) → (place : ℕ → ℕ) → Into → Type 0
MayGo may place (IntoName n) = may (place n)
MayGo may place _ = Unit {0}

updated_or_kept : (may : ℕ → Type 0) (plain : ℕ → Byte) (at address : ℕ) (byte : Byte) (b : Bool) → (address == at) ≡ b → may at
    → ((if b then byte else plain address) ≡ plain address) ⊎ may address
updated_or_kept may plain at address byte true same allowed = inr (subst may (sym (eqb-true address at same)) allowed)
updated_or_kept may plain at address byte false same allowed = inl refl

plain_kept : (may : ℕ → Type 0) (place : ℕ → ℕ) (to : Into) (byte : Byte) (plain : ℕ → Byte) (address : ℕ) → MayGo may place to
    → (plain_after place to byte plain address ≡ plain address) ⊎ may address
plain_kept may place Nowhere byte plain address allowed = inl refl
plain_kept may place IntoW byte plain address allowed = inl refl
plain_kept may place (IntoName n) byte plain address allowed = updated_or_kept may plain (place n) address byte (address == place n) refl allowed

wrote_may : (may : ℕ → Type 0) (place : ℕ → ℕ) (to : Into) → MayGo may place to → IfSome (wrote_into place to) (λ address. (address ≡ 0x003) ⊎ may address)
wrote_may may place Nowhere allowed = tt
wrote_may may place IntoW allowed = tt
wrote_may may place (IntoName n) allowed = inr allowed

written_may : (may : ℕ → Type 0) (place : ℕ → ℕ) (a : Act) → MayGo may place (into a) → IfSome (wrote_by place a) (λ address. (address ≡ 0x003) ⊎ may address)
written_may may place (MakeCarry v) allowed = inl refl
written_may may place (File op n d) allowed = wrote_may may place (into (File op n d)) allowed
written_may may place (Store n) allowed = inr allowed
written_may may place (Clear n) allowed = inr allowed
written_may may place (Const op k) allowed = tt
written_may may place (SkipBit v n b) allowed = tt
written_may may place (SkipCarry v) allowed = tt
written_may may place (SkipZero v) allowed = tt
written_may may place (Near n) allowed = tt

-- The step is one that code may take.
pub own_act : (may : ℕ → Type 0) (place : ℕ → ℕ) (a : Act) (start stop : ℕ) (d : Chip) → start ≤ d.pc → d.pc < stop → MayGo may place (into a)
    → Own may start stop d (done place a d)
own_act may place a start stop d from below allowed = record {
  from = from;
  below = below;
  kept =
      let e : Chip = after place a d in
      ap (λ (s : Byte). record e { regs = record e.regs { status = record e.regs.status { b7 = s.b7; b4 = s.b4; b3 = s.b3 } } }) (flags_keep (outcome place a d).flags d.regs.status);
  pclath = inl refl;
  plain = λ address. plain_kept may place (into a) (outcome place a d).byte d.regs.plain address allowed;
  wrote = written_may may place a allowed;
  port = refl;
}
