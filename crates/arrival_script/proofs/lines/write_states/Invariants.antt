use Rattle.std.proofs.Common.{◌≡◌, ◌++◌, string_bytes, take}
use Rattle.std.specs.List.{flat_map}
use Rattle.pic_regs.specs.State.{registers_of}
use Rattle.arrival_script.specs.Trace.{state_field}
use Rattle.arrival_script.specs.TraceParts.{spaced}
use Rattle.arrival_script.proofs.lines.write_states.Given as goal

abbrev pub invariant-loop-state : goal.invariant-loop-state
invariant-loop-state l = string_bytes l.text ≡ string_bytes l.initial.text ++ flat_map (λ s. spaced (state_field (registers_of l.regs) s)) (take l.state-index l.states)
