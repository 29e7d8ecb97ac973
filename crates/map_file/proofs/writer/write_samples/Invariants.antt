use Rattle.std.proofs.Common.{◌≡◌, ◌++◌, string_bytes, take}
use Rattle.std.specs.List.{flat_map}
use Rattle.map_file.specs.MapText.{sample_line}
use Rattle.map_file.proofs.writer.write_samples.Given as goal

abbrev pub invariant-loop-sample : goal.invariant-loop-sample
invariant-loop-sample l = string_bytes l.text ≡ string_bytes l.initial.text ++ flat_map sample_line (take l.sample-index l.samples)
