-- What the boot, the ready address and a taking do on the chip.
use Rattle.std.specs.Prelude.{◌≡◌, ℕ, ◌<◌, true, ◌⊎◌, List, [], Some}
use Rattle.frp_tree.specs.Tree.{ProgramTree}
use Rattle.pic_regs.specs.declared.starts.Start.{Start}
use Rattle.pic_regs.specs.Bytes.{zeros}
use Rattle.pic_regs.specs.Registers.{flag}
use Rattle.pic_regs.specs.Start.{IsStart}
use Rattle.pic_machine.specs.Chip.{Chip}
use Rattle.pic_machine.specs.Boundary.{took}
use Rattle.pic_machine.specs.Run.{power_on}
use Rattle.firmware_promises.specs.Follows.{setup_puts}
use Rattle.core_story.specs.Interface.{AreSetUp}
use Rattle.code_steps.specs.declared.banks.Bank.TheVariants.{Known}
use Rattle.code_steps.specs.Steps.{next, own}
use Rattle.code_steps.specs.Ends.{Holds}
use Rattle.glue_steps.specs.Lines.{did, quiet}
use Rattle.glue_steps.specs.Still.{Off}
use Rattle.firmware_parts.specs.Layout.{Layout, Usual}
use Rattle.firmware_parts.specs.Layout.Part.{Boot, Taking}
use Rattle.firmware_parts.specs.Contexts.{AtLevel, Entered}
use Rattle.firmware_parts.specs.Runs.{Leads, turns}

-- At the step of the boot that turns interrupts on: the states are the initial ones, what is set up stands, and the events are heard.
pub record AtBootEnd (p : ProgramTree) (l : Layout) (initial : List ℕ) (c : Chip) : Type 0 where
  pub there : c.pc ≡ l.boot_end
  pub off : Off c
  pub states : l.states c.regs.plain ≡ initial
  pub heard : AtLevel l 0 c
  pub bank : Holds (Known 0) c
  pub page : c.regs.pclath ≡ zeros
  pub set_up : AreSetUp p c.regs

-- At the start of the run of an event whose flag is set, which is above what was interrupted, and of all events whose flags were set
-- on the chip `x` that was interrupted the most urgent.
pub record Chosen (l : Layout) (x : Chip) (low : ℕ) (c : Chip) : Type 0 where
  pub event : ℕ
  pub there : c.pc ≡ l.entry event
  pub off : Off c
  pub set : flag (l.source event) c.regs ≡ true
  pub best : (y : ℕ) → 0 < l.level y → flag (l.source y) x.regs ≡ true → (y ≡ event → ⊥) → (l.level y < l.level event) ⊎ ((l.level y ≡ l.level event) × (event < y))
  pub above : low < l.level event
  pub entered : Entered l x c

-- The vector of firmware. `booting` bounds the steps of the boot, and `dispatching` those from a taking to the start of a run.
pub record DoesVector (p : ProgramTree) (l : Layout) (initial : List ℕ) (booting dispatching : ℕ) : Type 0 where
  pub boots : (start : Start) → IsStart start → Leads l Boot (AtBootEnd p l initial) (setup_puts p) booting (power_on start)
  pub boot_turns_on : (c : Chip) → c.pc ≡ l.boot_end → own l.program c ≡ Some (did (turns true) c)
  pub ready_next : next l.boot_end ≡ l.ready
  pub rests : (c : Chip) → c.pc ≡ l.ready → c.regs.pclath ≡ zeros → own l.program c ≡ Some (quiet c)
  pub takes : (x : Chip) (low event : ℕ) → Usual l x → AtLevel l low x → low < l.level event → flag (l.source event) x.regs ≡ true
      → Leads l Taking (Chosen l x low) [] dispatching (took x).after
