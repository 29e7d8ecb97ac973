use Rattle.std.proofs.Common.{◌-◌, ◌≤◌}
use Rattle.arrival_script.specs.Playing.{Played}
use Rattle.arrival_script.specs.Running.{log_of}
use Rattle.arrival_script.specs.Trace.{GoesOn}
use Rattle.wave_text.specs.Drawing.{Drawn}
use Rattle.wave_text.proofs.waves.draw.Given as goal

abbrev pub invariant-loop-step : goal.invariant-loop-step
invariant-loop-step l = record {
  inside : l.step ≤ l.script.steps;
  played : Played l.image l.script l.step l.player;
  goes : GoesOn (log_of l.image l.script) l.step;
  drawn : Drawn l.map (log_of l.image l.script) l.script.steps l.step l.wave;
}

abbrev pub decreases-loop-step : goal.decreases-loop-step
decreases-loop-step l = l.script.steps - l.step
