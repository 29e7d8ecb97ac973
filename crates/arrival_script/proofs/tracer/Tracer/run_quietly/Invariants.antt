use Rattle.std.proofs.Common.{ℕ, ◌-◌, ◌<◌, ◌≤◌, List, Option}
use Rattle.hex_file.specs.declared.images.Image.{Image}
use Rattle.map_file.specs.declared.maps.Map.{Map}
use Rattle.arrival_script.specs.declared.scripts.Script.{Script}
use Rattle.arrival_script.specs.Running.{Ready}
use Rattle.arrival_script.specs.Sends.{ChangeFrom, RiseFrom}
use Rattle.arrival_script.specs.TraceParts.{Marks}
use Rattle.arrival_script.proofs.tracer.Tracer.run_quietly.Given as goal

abbrev pub invariant-loop-last : goal.invariant-loop-last
invariant-loop-last l = record {
  above : l.step ≤ l.last;
  inside : l.last < l.until;
  change : ChangeFrom l.until l.self.changes.now;
  rise : RiseFrom l.until l.self.pending.now;
  ready : (m : Map) (image : Image) (s : Script) (old new : Option (List ℕ)) → l.until ≤ s.steps → Marks l.marked m
      → Ready m image s l.step l.arrived l.initial.self old new → Ready m image s l.last l.arrived l.self old new;
}

abbrev pub decreases-loop-last : goal.decreases-loop-last
decreases-loop-last l = l.until - l.last
