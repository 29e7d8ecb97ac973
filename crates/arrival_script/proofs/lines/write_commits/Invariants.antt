use Rattle.std.proofs.Common.{◌≡◌, ◌++◌, string_bytes, take}
use Rattle.std.specs.List.{flat_map}
use Rattle.pic_regs.specs.State.{registers_of}
use Rattle.arrival_script.specs.Trace.{commit_line}
use Rattle.arrival_script.proofs.lines.write_commits.Given as goal

abbrev pub invariant-loop-event : goal.invariant-loop-event
invariant-loop-event l = string_bytes l.text ≡ string_bytes l.initial.text ++ flat_map (commit_line l.map l.step l.did (registers_of l.regs)) (take l.event-index l.map.events)
