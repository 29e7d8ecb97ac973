-- From the relation between a core and a chip: the story of each run.
use Rattle.std.specs.Prelude.{ℕ, zero, suc, ◌<◌, Bool, true, false, ◌&&◌, ◌||◌, not, List, [], Option, Some, None}
use Rattle.std.proofs.Common.{◌≡◌, refl, sym, ap, subst, ◌∙◌, arith}
use Rattle.frp_tree.specs.Tree.{ProgramTree}
use Rattle.pic_isa.specs.declared.sources.Source.{Source}
use Rattle.pic_isa.specs.declared.sources.Source.TheVariants.{T0}
use Rattle.pic_regs.specs.declared.starts.Start.{Start}
use Rattle.pic_regs.specs.Registers.{flag}
use Rattle.pic_regs.specs.Start.{IsStart, registers_on}
use Rattle.pic_regs.proofs.ArrivalLaws.{flag-arrived}
use Rattle.pic_machine.specs.Chip.{Chip}
use Rattle.pic_machine.specs.Boundary.{Outer, Step, boundary, with_changed_pins}
use Rattle.pic_machine.specs.Run.{Log, log, after, power_on}
use Rattle.map_file.specs.declared.maps.MapEvent.{MapEvent}
use Rattle.map_file.specs.declared.maps.Map.{Map}
use Rattle.map_file.specs.MapRules.{IsMap}
use Rattle.firmware_promises.specs.Counts.{chip_after, latches}
use Rattle.firmware_promises.proofs.HeardLaws.{takes_in_time, chip_after_is_of_the_run}
use Rattle.timed_core.specs.Timing.{Timing}
use Rattle.timed_core.specs.Steps.{Run, Phase, Label, at, is_on}
use Rattle.timed_core.specs.Steps as core
use Rattle.timed_core.specs.Steps.Phase.{Boots, Owes, Chooses}
use Rattle.timed_core.specs.Tale.{Tale, is_clearing}
use Rattle.timed_core.specs.Shape.{Shape, StillSet}
use Rattle.timed_core.proofs.MoveLaws.{Move, move}
use Rattle.timed_core.proofs.ShapeLaws.{shape_kept, still_kept}
use Rattle.core_story.specs.Values.{Values, first_values, item}
use Rattle.core_story.specs.Interface.{Told, Seen, Next, Simulated, flag_at, latched_at}
use Rattle.core_story.specs.Story.{Story}
use Rattle.core_story.proofs.ItemLaws.{kept_item, joined_item, none_item, bit_is_of, event_has_level}

-- A boundary's arrivals: a latch sets a flag that was clear, and all flags that were set stay so.
one_more_latch : (a f : Bool) → (a || f) ≡ (f || (a && not f))
one_more_latch true true = refl
one_more_latch true false = refl
one_more_latch false true = refl
one_more_latch false false = refl

latch_was_clear : (a f : Bool) → (a && not f) ≡ true → f ≡ false
latch_was_clear a false h = refl
latch_was_clear true true h = absurd cc
latch_was_clear false true h = absurd cc

stays_set : (a f : Bool) → f ≡ true → (a || f) ≡ true
stays_set true f h = refl
stays_set false f h = h

none_set : (source : Source) (start : Start) → flag source (registers_on start) ≡ false
none_set T0 start = refl
none_set _ start = refl

module _ (program : ℕ → ℕ) (outer : Outer) (c : Chip) where
  abbrev step : Step
  step = boundary program outer c

  pub flag_arrived : (source : Source) → flag source step.arrived.regs ≡ (flag source c.regs || latches source step)
  flag_arrived source = flag-arrived source outer.arrivals (with_changed_pins outer.pins c).regs ∙ one_more_latch (outer.arrivals source) (flag source c.regs)

  pub latch_is_new : (source : Source) → latches source step ≡ true → flag source c.regs ≡ false
  latch_is_new source h = latch_was_clear (outer.arrivals source) (flag source c.regs) h

  flag_stays : (source : Source) → flag source c.regs ≡ true → flag source step.arrived.regs ≡ true
  flag_stays source h = flag-arrived source outer.arrivals (with_changed_pins outer.pins c).regs ∙ stays_set (outer.arrivals source) (flag source c.regs) h

  module _ (m : Map) where
    pub flags_arrived : (x : ℕ) → flag_at m step.arrived.regs x ≡ (flag_at m c.regs x || latched_at m step x)
    flags_arrived x = joined_item (item m.events x) (λ source. flag source step.arrived.regs) (λ source. flag source c.regs) (λ source. latches source step) flag_arrived

    flags_stay : (x : ℕ) → flag_at m c.regs x ≡ true → flag_at m step.arrived.regs x ≡ true
    flags_stay x h = by (item m.events x) h
      where
        by : (o : Option MapEvent) → elim o [ Some e ↦ flag e.source c.regs | None ↦ false ] ≡ true → elim o [ Some e ↦ flag e.source step.arrived.regs | None ↦ false ] ≡ true
        by None h = absurd cc
        by (Some e) h = flag_stays e.source h

still_more : (f g : ℕ → Bool) (ph : Phase) → ((x : ℕ) → f x ≡ true → g x ≡ true) → StillSet f ph → StillSet g ph
still_more f g (Owes on k) more h = λ x e. more x (h x e)
still_more f g (Chooses j k) more h = λ x e. more x (h x e)
still_more _ _ _ more h = tt

module _ (p : ProgramTree) (m : Map) (t : Timing) (program : ℕ → ℕ) (Sim : Phase → List Run → Values → Chip → Type 0) (s : Simulated p m t program Sim) where
  -- What is known of a chip.
  record Moment (c : Chip) : Type 0 where
    phase : Phase
    stack : List Run
    values : Values
    holds : Sim phase stack values c
    shape : Shape t phase stack
    still : StillSet (flag_at m c.regs) phase

  abbrev next_of : (outer : Outer) (c : Chip) (h : Moment c) → Next p m t Sim h.phase h.stack h.values (boundary program outer c)
  next_of outer c h = s.next outer h.phase h.stack h.values c h.shape h.still h.holds

  kept_flags : (label : Label) (ph : Phase) (st : List Run) (step : Step) → Told m t ph st label step → (x : ℕ)
      → flag_at m step.after.regs x ≡ (flag_at m step.arrived.regs x && not (is_clearing x label))
  kept_flags label ph st step told x =
      kept_item (item m.events x) (λ source. flag source step.arrived.regs) (λ source. flag source step.after.regs) (is_clearing x label) (λ e is_it. told.flags x e is_it)

  abbrev next_moment : (outer : Outer) (c : Chip) → Moment c → Moment (boundary program outer c).after
  next_moment outer c h =
      let n : Next p m t Sim h.phase h.stack h.values (boundary program outer c) = next_of outer c h in
      let now : ℕ → Bool = flag_at m (boundary program outer c).arrived.regs in
      let still_now : StillSet now h.phase = still_more (flag_at m c.regs) now h.phase (flags_stay program outer c m) h.still in
      let moves : Move t now h.phase n.label h.stack n.phase n.stack = move t now h.phase n.label h.stack n.phase n.stack n.goes in
      record {
        phase = n.phase;
        stack = n.stack;
        values = n.values;
        holds = n.keeps;
        shape = shape_kept t now moves h.shape still_now;
        still = still_kept t now (flag_at m (boundary program outer c).after.regs) moves still_now (kept_flags n.label h.phase h.stack (boundary program outer c) n.told);
      }

  module _ (is_map : IsMap m) (start : Start) (is_start : IsStart start) (outer : ℕ → Outer) where
    abbrev chip : ℕ → Chip
    chip n = after program (power_on start) outer n

    abbrev steps : Log
    steps = log program (power_on start) outer

    abbrev moment : (n : ℕ) → Moment (chip n)
    moment zero = record {
      phase = Boots t.boot;
      stack = [];
      values = first_values p s.initial;
      holds = s.starts start is_start;
      shape = (tt, omega arith);
      still = tt;
    }
    moment (suc n) = next_moment (outer n) (chip n) (moment n)

    abbrev next : (n : ℕ) → Next p m t Sim (moment n).phase (moment n).stack (moment n).values (steps n)
    next n = next_of (outer n) (chip n) (moment n)

    real_arrival : (n x : ℕ) → latched_at m (steps n) x ≡ true → 0 < t.level x
    real_arrival n x h =
        let e = bit_is_of m x (λ source. latches source (steps n)) h in
        omega (arith, event_has_level m is_map x e.0 e.1, s.fitted.level x)

    goes : (n : ℕ) → core.Step t (λ x. flag_at m (chip n).regs x || latched_at m (steps n) x) (moment n).phase (next n).label (moment n).stack (at (next n).phase (next n).stack)
    goes n =
        subst (λ (now : ℕ → Bool). core.Step t now (moment n).phase (next n).label (moment n).stack (at (next n).phase (next n).stack))
        (λ i x. flags_arrived program (outer n) (chip n) m x i) (next n).goes

    abbrev tale : Tale t
    tale = record {
      flags = λ n. flag_at m (chip n).regs;
      arrives = λ n. latched_at m (steps n);
      phase = λ n. (moment n).phase;
      stack = λ n. (moment n).stack;
      label = λ n. (next n).label;
      starts = refl;
      empty = refl;
      clear = λ x. none_item (item m.events x) (λ source. flag source (registers_on start)) (λ source. none_set source start);
      real = real_arrival;
      goes = goes;
      keeps = λ n x.
          kept_flags (next n).label (moment n).phase (moment n).stack (steps n) (next n).told x
          ∙ ap (λ b. b && not (is_clearing x (next n).label)) (flags_arrived program (outer n) (chip n) m x);
    }

    abbrev same : (n : ℕ) → chip n ≡ chip_after steps n
    same n = sym (chip_after_is_of_the_run program (power_on start) outer n)

    pub story : Story p m t steps
    story = record {
      fitted = s.fitted;
      no_inputs = s.no_inputs;
      initial = s.initial;
      begins = s.begins;
      tale = tale;
      values = λ n. (moment n).values;
      starts = refl;
      flags = λ n x. ap (λ (c : Chip). flag_at m c.regs x) (same n);
      arrives = λ n x. refl;
      arrived = λ n source. flag_arrived program (outer n) (chip n) source ∙ ap (λ (c : Chip). flag source c.regs || latches source (steps n)) (same n);
      latches_clear = λ n source h. ap (λ (c : Chip). flag source c.regs) (sym (same n)) ∙ latch_is_new program (outer n) (chip n) source h;
      on = λ n. (s.seen (moment n).phase (moment n).stack (moment n).values (chip n) (moment n).holds).on;
      valued = λ n. (next n).valued;
      told = λ n. (next n).told;
      seen = λ n. subst (Seen p m (moment n).phase (moment n).stack (moment n).values) (same n) (s.seen (moment n).phase (moment n).stack (moment n).values (chip n) (moment n).holds);
      in_time = takes_in_time program (power_on start) outer m;
    }
