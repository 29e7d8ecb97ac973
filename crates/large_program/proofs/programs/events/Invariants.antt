use Rattle.std.specs.Prelude.{◌≡◌, map, take}
use Rattle.large_program.specs.LargePrograms.{event_on}
use Rattle.large_program.proofs.programs.events.Given as goal

abbrev pub invariant-loop-source : goal.invariant-loop-source
invariant-loop-source l = l.events ≡ map event_on (take l.source-index l.sources)
