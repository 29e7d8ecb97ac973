use Rattle.std.proofs.Common.{ap, ◌∙◌}
use Rattle.pic_regs.specs.Registers.{requested}
use Rattle.pic_machine.specs.Boundary.{Turn, turn}
use Rattle.pic_machine.specs.Chip.{Chip}
use Rattle.pic_machine.specs.Memory.{words_of}
use Rattle.pic_machine.proofs.chip.Chip.step.Goals as goal

pub returns-clause-report : goal.returns-clause-report
returns-clause-report c =
    let turned = c.turn-turned.ensures ∙ ap (λ (d : Chip). turn d.due (requested d.regs) c.args.late (words_of c.args.self.now.memory d.pc) d) c.take_in-arrived.ensures.chip in
    λ j. record {
      latched = c.take_in-arrived.ensures.latched j;
      merged = c.take_in-arrived.ensures.merged j;
      did = (turned j).did;
      wrote = (turned j).wrote;
      port = (turned j).port;
    }

pub returns-clause-chip : goal.returns-clause-chip
returns-clause-chip c =
    ap (λ (t : Turn). t.after)
    (c.turn-turned.ensures ∙ ap (λ (d : Chip). turn d.due (requested d.regs) c.args.late (words_of c.args.self.now.memory d.pc) d) c.take_in-arrived.ensures.chip)
