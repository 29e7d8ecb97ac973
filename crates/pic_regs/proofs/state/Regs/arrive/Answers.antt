use Rattle.std.proofs.Common.{◌-◌, bit_and, ap, ◌∙◌}
use Rattle.pic_regs.specs.Registers.{flag}
use Rattle.pic_regs.specs.State.{registers_of}
use Rattle.pic_regs.proofs.SetFacts.{others, shared}
use Rattle.pic_regs.proofs.state.Regs.arrive.Goals as goal

pub returns-clause-latched : goal.returns-clause-latched
returns-clause-latched c =
    ap (λ n. bit_and c.args.arrivals (65535 - n)) c.flags-flags.ensures.set ∙ others c.args.arrivals (λ source. flag source (registers_of c.args.self.now)) c.requires

pub returns-clause-merged : goal.returns-clause-merged
returns-clause-merged c =
    ap (λ n. bit_and c.args.arrivals n) c.flags-flags.ensures.set ∙ shared c.args.arrivals (λ source. flag source (registers_of c.args.self.now)) c.requires
