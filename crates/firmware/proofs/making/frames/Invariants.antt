use Rattle.std.proofs.Common.{ℕ}
use Rattle.pic_isa.specs.declared.sources.Source.{Source}
use Rattle.firmware_layout.specs.Codes.{makings_of}
use Rattle.firmware.specs.Making.{AreFramesOf}
use Rattle.firmware.proofs.making.frames.Given as goal

abbrev pub invariant-loop-event : goal.invariant-loop-event
invariant-loop-event l = (source : ℕ → Source) → AreFramesOf (makings_of l.parts l.spread source) l.event l.frames.items
