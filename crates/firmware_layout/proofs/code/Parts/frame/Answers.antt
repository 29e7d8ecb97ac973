use Rattle.firmware_layout.specs.Codes.{makings_of, program_in}
use Rattle.firmware_layout.proofs.CodeFacts.{frame_is}
use Rattle.firmware_layout.proofs.code.Parts.frame.Goals as goal

pub returns : goal.returns
returns c = λ source.
    frame_is (makings_of c.args.self.now c.args.spread source) c.args.event c.run.result c.frame_of.result
    (c.frame_of.ensures (program_in c.args.self.now) c.run.ensures.levels) (c.run.ensures.plan source)
