use Rattle.std.proofs.Common.{◌≡◌, ◌++◌, string_bytes, take}
use Rattle.std.specs.List.{flat_map}
use Rattle.pic_regs.specs.Arrivals.{set_of}
use Rattle.arrival_script.specs.Trace.{arrival_line}
use Rattle.arrival_script.proofs.lines.write_arrivals.Given as goal

abbrev pub invariant-loop-source : goal.invariant-loop-source
invariant-loop-source l = string_bytes l.text ≡ string_bytes l.initial.text ++ flat_map (arrival_line l.step (set_of l.latched) (set_of l.merged)) (take l.source-index l.sources)
