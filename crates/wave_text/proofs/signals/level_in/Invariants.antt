use Rattle.std.proofs.Common.{◌≡◌, take}
use Rattle.wave_text.specs.Signals.{level_in}
use Rattle.wave_text.proofs.signals.level_in.Given as goal

abbrev pub invariant-loop-signal : goal.invariant-loop-signal
invariant-loop-signal l = l.level ≡ level_in (take l.signal-index l.signals)
