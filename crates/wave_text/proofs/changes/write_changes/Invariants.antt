use Rattle.std.proofs.Common.{◌≡◌, ◌++◌, string_bytes, take}
use Rattle.wave_text.specs.Waves.{change_lines}
use Rattle.wave_text.proofs.changes.write_changes.Given as goal

abbrev pub invariant-loop-i : goal.invariant-loop-i
invariant-loop-i l = string_bytes l.text ≡ string_bytes l.initial.text ++ change_lines (take l.i l.before) (take l.i l.now)
