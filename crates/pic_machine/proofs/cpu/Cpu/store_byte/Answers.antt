use Rattle.std.proofs.Common.{ap, ◌∙◌}
use Rattle.pic_machine.specs.Results.{flagged}
use Rattle.pic_machine.specs.State.{cpu_of, flags_of, outcome_of}
use Rattle.pic_machine.proofs.StateFacts.{stored-elsewhere}
use Rattle.pic_machine.proofs.cpu.Cpu.store_byte.Goals as goal

pub returns-in_default : goal.returns-in_default
returns-in_default c =
    ap (λ r. record (cpu_of c.args.self.now) { regs = flagged (flags_of c.args.outcome.flags) r }) c.write_place.ensures
    ∙ stored-elsewhere c.args.place (outcome_of c.args.outcome) (cpu_of c.args.self.now) c.in_default.not-Pcl c.in_default.not-Status
