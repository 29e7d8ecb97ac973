use Rattle.std.proofs.Common.{◌≡◌, ◌++◌, map, take}
use Rattle.pic_regs.specs.State.{registers_of}
use Rattle.wave_text.specs.Signals.{state_at_first}
use Rattle.wave_text.proofs.signals.add_states.Given as goal

abbrev pub invariant-loop-state : goal.invariant-loop-state
invariant-loop-state l = l.signals.items ≡ l.initial.signals.items ++ map (state_at_first (registers_of l.regs)) (take l.state-index l.states)
