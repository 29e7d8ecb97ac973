-- What is drawn of a run, step by step.
use Rattle.std.specs.Prelude.{◌≡◌, ℕ, ◌++◌, string_bytes}
use Rattle.pic_machine.specs.Run.{Log}
use Rattle.map_file.specs.declared.maps.Map.{Map}
use Rattle.wave_text.specs.declared.waves.Wave.{Wave}
use Rattle.wave_text.specs.Signals.{signals, level_after}
use Rattle.wave_text.specs.Waves.{header, first_lines, moments}

-- The first k of n steps are drawn: the signals and the level are those after them, and the text has their lines.
pub record Drawn (m : Map) (log : Log) (n k : ℕ) (wave : Wave) : Type 0 where
  pub now : wave.signals.items ≡ signals m log k
  pub level : wave.level ≡ level_after m log k
  pub text : string_bytes wave.text ≡ (header m ++ first_lines (signals m log 0) (level_after m log 0)) ++ moments m log n k
