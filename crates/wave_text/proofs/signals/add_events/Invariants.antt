use Rattle.std.proofs.Common.{◌≡◌, ◌++◌, take}
use Rattle.std.specs.List.{flat_map}
use Rattle.pic_regs.specs.State.{registers_of}
use Rattle.wave_text.specs.Signals.{event_at_first}
use Rattle.wave_text.proofs.signals.add_events.Given as goal

abbrev pub invariant-loop-event : goal.invariant-loop-event
invariant-loop-event l = l.signals.items ≡ l.initial.signals.items ++ flat_map (event_at_first (registers_of l.regs)) (take l.event-index l.events)
