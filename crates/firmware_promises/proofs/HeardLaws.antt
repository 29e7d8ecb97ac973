-- An event that is heard with its flag set: the chip takes an interrupt at that boundary or the next, whatever the firmware.
use Rattle.std.specs.Prelude.{ℕ, zero, suc, ◌+◌, true, ◌||◌, ◌&&◌, List, [], ◌∷◌, ◌⊎◌}
use Rattle.std.specs.List.{AllByRecursion}
use Rattle.std.proofs.Common.{◌≡◌, refl, sym, subst, add-one}
use Rattle.std.proofs.lemmas.Bool.{and_parts}
use Rattle.std.proofs.Math.Bool.{or-true}
use Rattle.pic_isa.specs.declared.sources.Source.{Source}
use Rattle.pic_isa.specs.declared.sources.Source.TheVariants.{T0, Int}
use Rattle.pic_regs.specs.Registers.{Registers, flag, enable, requested}
use Rattle.pic_machine.specs.Chip.{Chip}
use Rattle.pic_machine.specs.Boundary.{Outer, Step}
use Rattle.pic_machine.specs.Run.{Log, log, after}
use Rattle.pic_machine.proofs.TurnLaws.{taken-in_time}
use Rattle.map_file.specs.declared.maps.MapEvent.{MapEvent}
use Rattle.map_file.specs.declared.maps.Map.{Map}
use Rattle.firmware_promises.specs.Counts.{takes, chip_after}
use Rattle.firmware_promises.specs.Urgent.{is_in_intcon, is_heard, TakesInTime}

-- Where an event is heard and its flag is set, the chip's interrupt is requested.
requested_by : (source : Source) (r : Registers) → r.intcon.b7 ≡ true → enable source r ≡ true → (is_in_intcon source || r.intcon.b6) ≡ true → flag source r ≡ true → requested r ≡ true
requested_by T0 r gie its_enable peie its_flag = rw (gie, its_enable, its_flag) refl
requested_by Int r gie its_enable peie its_flag = rw (gie, its_enable, its_flag) (simp or-true)
requested_by _ r gie its_enable peie its_flag = rw (gie, peie, its_enable, its_flag) (simp or-true)

pub heard_is_requested : (e : MapEvent) (s : Step) → is_heard e s ≡ true → flag e.source s.arrived.regs ≡ true → requested s.arrived.regs ≡ true
heard_is_requested e s heard its_flag =
    let outer = and_parts (s.arrived.regs.intcon.b7 && enable e.source s.arrived.regs) (is_in_intcon e.source || s.arrived.regs.intcon.b6) heard in
    let inner = and_parts s.arrived.regs.intcon.b7 (enable e.source s.arrived.regs) outer.0 in
    requested_by e.source s.arrived.regs inner.0 inner.1 outer.1 its_flag

module _ (program : ℕ → ℕ) (c : Chip) (outer : ℕ → Outer) where
  abbrev steps : Log
  steps = log program c outer

  -- So in each run of the chip an interrupt is taken at this step or the next.
  pub heard_is_taken : (e : MapEvent) (k : ℕ) → is_heard e (steps k) ≡ true → flag e.source (steps k).arrived.regs ≡ true → (takes (steps k) ≡ true) ⊎ (takes (steps (suc k)) ≡ true)
  heard_is_taken e k heard its_flag = taken-in_time program c outer k (heard_is_requested e (steps k) heard its_flag)

  abbrev InTime : ℕ → MapEvent → Type 0
  InTime k e = is_heard e (steps k) ≡ true → flag e.source (steps k).arrived.regs ≡ true → (takes (steps k) ≡ true) ⊎ (takes (steps (k + 1)) ≡ true)

  each_in_time : (k : ℕ) (events : List MapEvent) → AllByRecursion (InTime k) events
  each_in_time k [] = tt
  each_in_time k (e ∷ events) =
      ((λ heard its_flag. subst (λ j. (takes (steps k) ≡ true) ⊎ (takes (steps j) ≡ true)) (sym (add-one k)) (heard_is_taken e k heard its_flag)), each_in_time k events)

  pub takes_in_time : (m : Map) (n : ℕ) → TakesInTime m steps n
  takes_in_time m n k h = each_in_time k m.events

  -- In a log of the chip's run the chip after n steps is the run's.
  pub chip_after_is_of_the_run : (n : ℕ) → chip_after steps n ≡ after program c outer n
  chip_after_is_of_the_run zero = refl
  chip_after_is_of_the_run (suc n) = refl
