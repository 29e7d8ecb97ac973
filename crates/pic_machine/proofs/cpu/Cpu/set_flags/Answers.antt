use Rattle.std.proofs.Common.{◌≡◌, ap, sym, ◌∙◌}
use Rattle.pic_regs.specs.Registers.{Registers}
use Rattle.pic_regs.specs.State.{registers_of}
use Rattle.pic_machine.specs.declared.cpu.Cpu.{Cpu}
use Rattle.pic_machine.specs.declared.outcomes.Flags.{Flags}
use Rattle.pic_machine.specs.Results.{flagged}
use Rattle.pic_machine.specs.State.{cpu_of, flags_of}
use Rattle.pic_machine.proofs.cpu.Cpu.set_flags.Goals as goal

-- Registers that have been given these flags have been given those that are the same.
with_flags : (old : Cpu) (new : Registers) (these given : Flags) → new ≡ flagged (flags_of these) (registers_of old.regs) → given ≡ these
    → record (cpu_of old) { regs = new } ≡ record (cpu_of old) { regs = flagged (flags_of given) (registers_of old.regs) }
with_flags old new these given set same =
    ap (λ r. record (cpu_of old) { regs = r }) (set ∙ ap (λ flags. flagged (flags_of flags) (registers_of old.regs)) (sym same))

pub returns-in-Zero : goal.returns-in-Zero
returns-in-Zero c = with_flags c.args.self.now _ _ _ c.set_zero.ensures c.in-Zero.is

pub returns-in-Carry : goal.returns-in-Carry
returns-in-Carry c = with_flags c.args.self.now _ _ _ c.set_carry.ensures c.in-Carry.is

pub returns-in-All : goal.returns-in-All
returns-in-All c = with_flags c.args.self.now _ _ _ c.set_three_flags.ensures c.in-All.is
