-- The story of a log: a tale of the core, and what joins it to the log at each boundary.
use Rattle.std.specs.Prelude.{◌≡◌, ℕ, suc, true, false, ◌||◌, List, [], Some}
use Rattle.frp_tree.specs.Tree.{ProgramTree}
use Rattle.efrp_meaning.specs.Decls.{inputs_of}
use Rattle.efrp_meaning.specs.Meaning.{initial_state}
use Rattle.pic_isa.specs.declared.sources.Source.{Source}
use Rattle.pic_regs.specs.Registers.{flag}
use Rattle.pic_machine.specs.Run.{Log}
use Rattle.map_file.specs.declared.maps.Map.{Map}
use Rattle.firmware_promises.specs.Counts.{chip_after, latches, interrupts_on, put_by}
use Rattle.firmware_promises.specs.Urgent.{TakesInTime}
use Rattle.timed_core.specs.Timing.{Timing}
use Rattle.timed_core.specs.Steps.{is_on}
use Rattle.timed_core.specs.Tale.{Tale}
use Rattle.core_story.specs.Values.{Values, Valued, first_values}
use Rattle.core_story.specs.Interface.{Fitted, Told, Seen, flag_at, latched_at}

pub record Story (p : ProgramTree) (m : Map) (t : Timing) (log : Log) : Type 0 where
  pub fitted : Fitted p m t
  pub no_inputs : inputs_of p ≡ []
  pub initial : List ℕ
  pub begins : initial_state p ≡ Some initial
  -- The core, and the values after each number of steps.
  pub tale : Tale t
  pub values : ℕ → Values
  pub starts : values 0 ≡ first_values p initial
  -- Of the tale's flags and arrivals: its arrivals are the latches. A latch sets a flag that was clear.
  pub flags : (n x : ℕ) → tale.flags n x ≡ flag_at m (chip_after log n).regs x
  pub arrives : (n x : ℕ) → tale.arrives n x ≡ latched_at m (log n) x
  pub arrived : (n : ℕ) (source : Source) → flag source (log n).arrived.regs ≡ (flag source (chip_after log n).regs || latches source (log n))
  pub latches_clear : (n : ℕ) (source : Source) → latches source (log n) ≡ true → flag source (chip_after log n).regs ≡ false
  pub on : (n : ℕ) → interrupts_on (log n) ≡ is_on (tale.phase n)
  -- Each step is told by its label, and each chip is seen.
  pub valued : (n : ℕ) → Valued p m (tale.label n) (put_by (log n).port) (values n) (values (suc n))
  pub told : (n : ℕ) → Told m t (tale.phase n) (tale.stack n) (tale.label n) (log n)
  pub seen : (n : ℕ) → Seen p m (tale.phase n) (tale.stack n) (values n) (chip_after log n)
  -- What is heard with its flag set is taken at that boundary or the next.
  pub in_time : (n : ℕ) → TakesInTime m log n
