-- No step changes the bits of PCLATH that don't exist: where they are 0 they stay so.
use Rattle.std.proofs.Common.{◌≡◌, ℕ, zero, suc, Option, Some, None, List, [], refl, sym, ap, ◌∙◌, subst, inl, inr, rules}
use Rattle.pic_isa.specs.declared.instructions.Dest.{Dest}
use Rattle.pic_isa.specs.declared.instructions.Dest.TheVariants.{W, F}
use Rattle.pic_isa.specs.declared.instructions.Instr.{Instr}
use Rattle.pic_isa.specs.declared.instructions.Instr.TheVariants.{Nop}
use Rattle.pic_isa.specs.Instructions.{instruction_of}
use Rattle.pic_regs.specs.Bytes.{Byte, zeros}
use Rattle.pic_regs.specs.Map.{Reg, Pcl, Pclath, Status, existing}
use Rattle.pic_machine.specs.declared.steps.PortWrite.{PortWrite}
use Rattle.pic_machine.specs.Chip.{Chip, advanced}
use Rattle.pic_machine.specs.Results.{Done, Outcome, gives, stored}
use Rattle.pic_machine.specs.Exec.{exec, exec_on, field, operand}
use Rattle.code_steps.specs.Steps.{own, own_of}
use Rattle.code_steps.specs.Between.{Alone}
use Rattle.glue_steps.specs.Tells.{Tells}

-- Bits 7 to 5 of PCLATH.
abbrev pub beyond : Chip → Byte
beyond c = record zeros { b7 = c.regs.pclath.b7; b6 = c.regs.pclath.b6; b5 = c.regs.pclath.b5 }

abbrev pub Whole : Chip → Type 0
Whole c = existing Pclath c.regs.pclath ≡ c.regs.pclath

stored-beyond : (reg : Reg) (result : Outcome) (c : Chip) → beyond (stored reg result c) ≡ beyond c
stored-beyond Pcl result c = refl
stored-beyond Status result c = refl
stored-beyond _ result c = refl

-- Those bits once an instruction has run; SLEEP leaves them.
abbrev beyond_of : Byte → Option Done → Byte
beyond_of before (Some done) = beyond done.chip
beyond_of before None = before

gives-beyond : (d : Dest) (reg : Reg) (result : Outcome) (c : Chip) → beyond_of (beyond c) (gives d reg result c) ≡ beyond c
gives-beyond W reg result c = refl
gives-beyond F reg result c = stored-beyond reg result c

exec_on-beyond : (i : Instr) (reg : Reg) (c : Chip) → beyond_of (beyond c) (exec_on i reg c) ≡ beyond c
exec_on-beyond Nop reg c = refl
exec_on-beyond _ reg c = search (rules, gives-beyond, stored-beyond)

own_by : (o : Option Instr) (c : Chip) (done : Done) → own_of o c ≡ Some done → beyond done.chip ≡ beyond c
own_by (Some i) c done is = sym (ap (beyond_of (beyond c)) is) ∙ exec_on-beyond i (operand (field i) c.regs) (advanced c)
own_by None c done is = absurd (cc)

whole_by : (c d : Chip) → beyond d ≡ beyond c → Whole c → Whole d
whole_by c d same whole =
    let none : beyond d ≡ zeros = same ∙ ap (λ (x : Byte). record zeros { b7 = x.b7; b6 = x.b6; b5 = x.b5 }) (sym whole) in
    λ j. record d.regs.pclath { b7 = (sym none j).b7; b6 = (sym none j).b6; b5 = (sym none j).b5 }

-- An own step keeps PCLATH whole, and so do arrivals.
pub own-whole : (program : ℕ → ℕ) (c : Chip) (done : Done) → own program c ≡ Some done → Whole c → Whole done.chip
own-whole program c done is = whole_by c done.chip (own_by (instruction_of (program c.pc)) c done is)

pub alone-whole : (c d : Chip) → Alone c d → Whole c → Whole d
alone-whole c d r = whole_by c d (ap beyond r.only)

-- So PCLATH is whole where code comes to that is told from a chip where it is.
pub tells_whole : (program : ℕ → ℕ) (G : Chip → Done → Type 0) (Q : Chip → Type 0) (puts : List PortWrite) (k : ℕ) (c : Chip) → Whole c
    → Tells program G Q puts k c → Tells program G (λ e. Q e × Whole e) puts k c
tells_whole program G Q puts zero c whole q = (q.0, (q.1, whole))
tells_whole program G Q puts (suc k) c whole (inl q) = inl (q.0, (q.1, whole))
tells_whole program G Q puts (suc k) c whole (inr goes) = inr (λ d r.
    let step = goes d r in
    (step.0, step.1, step.2, step.3, step.4, tells_whole program G Q step.3 k step.0.chip (own-whole program d step.0 step.1 (alone-whole c d r whole)) step.5))
