-- The signals of a run after each number of steps, as functions of a map and the run's log.
use Rattle.std.specs.Prelude.{ℕ, zero, suc, Bool, true, false, not, ◌&&◌, ◌||◌, ◌==◌, max, if◌then◌else◌, List, [], ◌∷◌, ◌++◌, map, Option, Some, None}
use Rattle.std.specs.List.{flat_map}
use Rattle.frp_tree.specs.declared.syntax.Ty.{Ty}
use Rattle.frp_tree.specs.declared.syntax.Ty.TheVariants as ty
use Rattle.pic_regs.specs.Registers.{Registers, flag}
use Rattle.pic_machine.specs.declared.steps.PortWrite.{PortWrite}
use Rattle.pic_machine.specs.Chip.{Chip}
use Rattle.pic_machine.specs.Boundary.{Step}
use Rattle.pic_machine.specs.Run.{Log}
use Rattle.pic_machine.specs.StateValues.{value_in}
use Rattle.map_file.specs.declared.maps.MapEvent.{MapEvent}
use Rattle.map_file.specs.declared.maps.MapState.{MapState}
use Rattle.map_file.specs.declared.maps.Map.{Map}
use Rattle.map_file.specs.MapRules.{AddressesFit}
use Rattle.firmware_promises.specs.Counts.{chip_after, clears, ran_at}
use Rattle.wave_text.specs.declared.signals.Signal.{Signal}
use Rattle.wave_text.specs.declared.signals.Signal.TheVariants.{Latch, Run, Window, Port, State, Depth}

-- An event is latched: its source's flag is set.
abbrev pub latch_after : Log → MapEvent → ℕ → Bool
latch_after log e k = flag e.source (chip_after log k).regs

-- An event runs from the step that clears its flag to its commit, also while it is interrupted.
abbrev pub run_after : Log → MapEvent → ℕ → Bool
run_after log e zero = false
run_after log e (suc k) = not (ran_at e.commit (log k)) && (run_after log e k || clears e.source (log k))

-- Its window is open from its open to its commit.
abbrev pub window_after : Log → MapEvent → ℕ → Bool
window_after log e zero = false
window_after log e (suc k) = not (ran_at e.commit (log k)) && (window_after log e k || ran_at e.«open» (log k))

-- The byte that was last put on a port, by what a step put.
abbrev pub port_next : ℕ → Option PortWrite → Option ℕ → Option ℕ
port_next port None last = last
port_next port (Some write) last = if write.port == port then Some write.byte else last

-- The byte that was last put on a port. There is none before the first.
abbrev pub port_after : Log → ℕ → ℕ → Option ℕ
port_after log port zero = None
port_after log port (suc k) = port_next port (log k).port (port_after log port k)

-- The value that is shown of a state: of a bool 0 where its byte is 0, and otherwise 1.
abbrev pub shown : Ty → ℕ → ℕ
shown ty.Bool value = if value == 0 then 0 else 1
shown ty.U8 value = value
shown ty.U16 value = value

abbrev pub shown_value : Registers → Ty → ℕ → ℕ → ℕ
shown_value r ty low high = shown ty (value_in r ty low high)

-- The signals of an event, of a port and of a state after k steps.
abbrev pub event_signals : Log → ℕ → MapEvent → List Signal
event_signals log k e =
    Latch e.source (latch_after log e k)
    ∷ Run e.source e.priority e.commit (run_after log e k)
    ∷ Window e.source e.«open» e.commit (window_after log e k)
    ∷ []

abbrev pub port_signal : Log → ℕ → ℕ → Signal
port_signal log k port = Port port (port_after log port k)

abbrev pub state_at_first : Registers → MapState → Signal
state_at_first r s = State s.ty s.low s.high (shown_value r s.ty s.low s.high)

abbrev pub state_signal : Log → ℕ → MapState → Signal
state_signal log k s = state_at_first (chip_after log k).regs s

-- All signals after k steps: those of the events, of the ports and of the states, in the map's order, and the depth of the return
-- stack.
abbrev pub signals : Map → Log → ℕ → List Signal
signals m log k =
    flat_map (event_signals log k) m.events
    ++ (map (port_signal log k) m.outputs ++ (map (state_signal log k) m.states ++ Depth (chip_after log k).depth ∷ []))

-- The level that runs: the greatest priority of the events that do, and 0 where none does.
abbrev pub level_in : List Signal → ℕ
level_in [] = 0
level_in (Run source priority commits true ∷ more) = max priority (level_in more)
level_in (_ ∷ more) = level_in more

abbrev pub level_after : Map → Log → ℕ → ℕ
level_after m log k = level_in (signals m log k)

-- What a signal becomes with a step.
abbrev pub next : Step → Signal → Signal
next step (Latch source on) = Latch source (flag source step.after.regs)
next step (Run source priority commits on) = Run source priority commits (not (ran_at commits step) && (on || clears source step))
next step (Window source opens commits on) = Window source opens commits (not (ran_at commits step) && (on || ran_at opens step))
next step (Port port byte) = Port port (port_next port step.port byte)
next step (State ty low high value) = State ty low high (shown_value step.after.regs ty low high)
next step (Depth depth) = Depth step.after.depth

-- The signals of a map before the first step.
abbrev pub event_at_first : Registers → MapEvent → List Signal
event_at_first r e = Latch e.source (flag e.source r) ∷ Run e.source e.priority e.commit false ∷ Window e.source e.«open» e.commit false ∷ []

abbrev pub at_first : Map → Chip → List Signal
at_first m c =
    flat_map (event_at_first c.regs) m.events
    ++ (map (λ port. Port port None) m.outputs ++ (map (state_at_first c.regs) m.states ++ Depth c.depth ∷ []))

-- The addresses of a state's signal are in range.
abbrev pub HasPlace : Signal → Type 0
HasPlace (State ty low high value) = AddressesFit ty low high
HasPlace _ = Unit {0}
