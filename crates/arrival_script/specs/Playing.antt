-- A run of a script on the chip, and what is seen of its steps.
use Rattle.std.specs.Prelude.{◌≡◌, ℕ, ◌≤◌}
use Rattle.hex_file.specs.declared.images.Image.{Image}
use Rattle.pic_isa.specs.declared.sources.Source.{Source}
use Rattle.pic_regs.specs.Arrivals.{set_of}
use Rattle.pic_regs.specs.Registers.{flag}
use Rattle.pic_machine.specs.Boundary.{Step}
use Rattle.pic_machine.specs.Run.{program_of}
use Rattle.pic_machine.specs.State.{chip_of, memory_of}
use Rattle.arrival_script.specs.declared.scripts.Script.{Script}
use Rattle.arrival_script.specs.declared.player.Player.{Player}
use Rattle.arrival_script.specs.declared.player.Seen.{Seen}
use Rattle.arrival_script.specs.Sends.{ChangeFrom, RiseFrom}
use Rattle.arrival_script.specs.Trace.{set_at, pins_at}
use Rattle.arrival_script.specs.Running.{chip_at}

-- The first k steps are done: the chip is the one after them, and the arrivals and changes of pins from boundary k on are left.
pub record Played (image : Image) (s : Script) (k : ℕ) (p : Player) : Type 0 where
  pub memory : memory_of p.chip ≡ program_of image
  pub chip : chip_of p.chip ≡ chip_at image s k
  pub late : p.late ≡ s.late
  pub rise : RiseFrom k p.pending.now
  pub left : (i : ℕ) → k ≤ i → set_at p.pending.now i ≡ set_at s.arrivals i
  pub change : ChangeFrom k p.changes.now
  pub pins : (i : ℕ) → k ≤ i → pins_at p.changes.now i ≡ pins_at s.pins i

-- What is seen of a step is the step's: the flags after its arrivals, what it did, and what it put on a port.
pub record IsSeen (step : Step) (seen : Seen) : Type 0 where
  pub flags : (source : Source) → set_of seen.arrived source ≡ flag source step.arrived.regs
  pub did : seen.did ≡ step.did
  pub port : seen.port ≡ step.port
