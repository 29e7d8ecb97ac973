use Rattle.std.proofs.Common.{◌≡◌, length, map, take}
use Rattle.pic_machine.specs.Boundary.{Step}
use Rattle.pic_machine.specs.State.{chip_of}
use Rattle.arrival_script.specs.Playing.{IsSeen}
use Rattle.wave_text.specs.Signals.{next}
use Rattle.wave_text.proofs.signals.next_signals.Given as goal

abbrev pub invariant-loop-signal : goal.invariant-loop-signal
invariant-loop-signal l = record {
  is : (step : Step) → IsSeen step l.seen → chip_of l.chip ≡ step.after → l.now.items ≡ map (next step) (take l.signal-index l.signals);
  same : length l.now.items ≡ l.signal-index;
}
