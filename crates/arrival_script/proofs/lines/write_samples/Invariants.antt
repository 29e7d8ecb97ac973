use Rattle.std.proofs.Common.{◌≡◌, ◌++◌, string_bytes, take}
use Rattle.std.specs.List.{flat_map}
use Rattle.arrival_script.specs.Trace.{sample_line}
use Rattle.arrival_script.proofs.lines.write_samples.Given as goal

abbrev pub invariant-loop-sample : goal.invariant-loop-sample
invariant-loop-sample l = string_bytes l.text ≡ string_bytes l.initial.text ++ flat_map (sample_line l.step l.did l.w) (take l.sample-index l.samples)
