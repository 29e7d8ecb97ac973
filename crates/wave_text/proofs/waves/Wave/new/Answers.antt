use Rattle.std.proofs.Common.{ap, ◌∙◌}
use Rattle.pic_machine.specs.State.{chip_of}
use Rattle.wave_text.specs.Signals.{level_in}
use Rattle.wave_text.proofs.DrawFacts.{drawn-first}
use Rattle.wave_text.proofs.waves.Wave.new.Goals as goal

pub returns : goal.returns
returns c = λ log n chip.
    drawn-first c.args.map.now log n (chip_of c.args.chip.now) _ _ _ chip c.in_ok-signals.ensures (c.level_in-level.ensures ∙ ap level_in c.as_slice.ensures.value) c.new-text.ensures.bytes c.in_ok-write_header.ensures
    (rw c.as_slice-2.ensures.value at c.in_ok-write_first.ensures)
