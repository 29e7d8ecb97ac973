use Rattle.std.proofs.Common.{◌≡◌, ◌++◌, string_bytes, take}
use Rattle.std.specs.List.{flat_map}
use Rattle.wave_text.specs.Waves.{signal_line}
use Rattle.wave_text.proofs.changes.write_signals.Given as goal

abbrev pub invariant-loop-signal : goal.invariant-loop-signal
invariant-loop-signal l = string_bytes l.text ≡ string_bytes l.initial.text ++ flat_map signal_line (take l.signal-index l.signals)
