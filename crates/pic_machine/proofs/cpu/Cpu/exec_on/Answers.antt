use Rattle.std.proofs.Common.{rules, refl, ◌≡◌, Some, ap, ◌∙◌, arith}
use Rattle.pic_isa.specs.declared.instructions.Instr.{Instr}
use Rattle.pic_isa.specs.declared.instructions.Instr.TheVariants.{Movwf}
use Rattle.pic_machine.specs.Exec.{exec, field}
use Rattle.pic_machine.specs.State.{cpu_of}
use Rattle.pic_machine.proofs.cpu.Cpu.exec_on.Goals as goal

-- Of the instructions with a register MOVWF alone is left.
pub returns-in_default : goal.returns-in_default
returns-in_default c = ap (λ i. exec i (cpu_of c.args.self.now)) (left c.args.i.now refl c.requires.row) ∙ search rules
  where
    left : (i : Instr) → c.args.i.now ≡ i → field i ≡ Some c.args.f → i ≡ Movwf c.args.f
    left (Movwf f) is row = cc
    left _ is row = absurd (first_of (cc, grind arith))
