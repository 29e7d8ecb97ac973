use Rattle.std.proofs.Common.{◌≡◌, ◌++◌, string_bytes, take}
use Rattle.std.specs.List.{flat_map}
use Rattle.arrival_script.specs.Trace.{open_line}
use Rattle.arrival_script.proofs.lines.write_opens.Given as goal

abbrev pub invariant-loop-event : goal.invariant-loop-event
invariant-loop-event l = string_bytes l.text ≡ string_bytes l.initial.text ++ flat_map (open_line l.step l.did) (take l.event-index l.events)
