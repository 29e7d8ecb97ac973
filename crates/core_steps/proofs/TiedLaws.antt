-- A log that has a story is tied to the core of lists at every step; and so is each run of an image with stories.
use Rattle.std.specs.Prelude.{ℕ, zero, suc, ◌<◌, Bool, true, ◌&&◌, ◌||◌, not, List, [], ◌++◌, length, reverse}
use Rattle.std.specs.List.{AllByRecursion}
use Rattle.std.proofs.Common.{◌≡◌, refl, sym, ap, ap₂, subst, ◌∙◌, arith}
use Rattle.std.proofs.lemmas.Bool.{and_parts}
use Rattle.frp_tree.specs.Tree.{ProgramTree}
use Rattle.pic_isa.specs.declared.sources.Source.{Source}
use Rattle.pic_regs.specs.Registers.{flag}
use Rattle.pic_machine.specs.Chip.{Chip}
use Rattle.pic_machine.specs.Boundary.{Outer, boundary, with_changed_pins}
use Rattle.pic_machine.specs.Run.{Log, program_of, power_on, outer_of, run}
use Rattle.map_file.specs.declared.maps.Map.{Map}
use Rattle.map_file.specs.MapRules.{IsMap}
use Rattle.firmware_promises.specs.Counts.{chip_after, latches}
use Rattle.firmware_promises.proofs.HeardLaws.{chip_after_is_of_the_run}
use Rattle.preempt_core.specs.Runs.{start}
use Rattle.timed_core.specs.Timing.{Timing}
use Rattle.timed_core.specs.Steps.{Run, Phase}
use Rattle.timed_core.specs.Steps.Phase.{Boots}
use Rattle.timed_core.specs.Tale.{Tale, now, is_clearing}
use Rattle.timed_core.specs.Counts.{committed_by}
use Rattle.timed_core.proofs.ShapeLaws as shapes
use Rattle.core_story.specs.Values.{item}
use Rattle.core_story.specs.Story.{Story}
use Rattle.core_steps.specs.LogSteps.{Reading, arriving, arrive_all, take_all, commit_all, resume, turn_on, choose, read_step, reading, held_back}
use Rattle.core_steps.specs.Tied.{IsTied, Tied, priorities_of, next_state, cleared_events, committed_events}
use Rattle.core_steps.specs.Laws.{IsJoined, MergesSet, StoriesTied, ImagesTied}
use Rattle.core_steps.proofs.ArriveLaws.{arriving_below, arrivals_told, priorities_many}
use Rattle.core_steps.proofs.ArrivingLaws.{arriving_is, set_after}
use Rattle.core_steps.proofs.EffectLaws.{effect, tie_kept}
use Rattle.core_steps.proofs.ShownLaws.{cleared_by, clearing_is, committing_is, returns_is, turns_on_is}
use Rattle.core_steps.proofs.TieLaws.{Tie, same_flags, tie_arrivals, is_among}

module _ (p : ProgramTree) (m : Map) (is_map : IsMap m) (t : Timing) (log : Log) (story : Story p m t log) (joined : IsJoined log) (merges : MergesSet log) where
  abbrev tale : Tale t
  tale = story.tale

  abbrev TieAt : ℕ → Type 0
  TieAt n = Tie p m story.initial (tale.flags n) (tale.phase n) (tale.stack n) (reading m log n) (cleared_events m log n) (committed_events m log n)

  at_first : TieAt zero
  at_first =
      subst (λ (ph : Phase). Tie p m story.initial (tale.flags zero) ph (tale.stack zero) (reading m log zero) [] []) (sym tale.starts)
      (subst (λ (st : List Run). Tie p m story.initial (tale.flags zero) (Boots t.boot) st (reading m log zero) [] []) (sym tale.empty) (record {
        core = start story.initial;
        allowed = refl;
        waits = tale.clear;
        below = tt;
        choosing = refl;
        stands = tt;
        low = omega arith;
        marked = refl;
        takes = refl;
        commits = refl;
      }))

  -- What a step reads is what its label tells.
  read_is : (n : ℕ) (r : Reading) → read_step m r (log n) ≡ effect (tale.label n) (arrive_all r (arriving m (log n)))
  read_is n r =
      ap₂ choose (story.told n).takes_is
      (ap₂ turn_on (turns_on_is p m t log story n)
      (ap₂ resume (returns_is p m t log story n)
      (ap₂ commit_all (ap (take_all (arrive_all r (arriving m (log n)))) (clearing_is p m t log story n)) (committing_is p m t log story n))))

  -- What waits after a boundary's arrivals.
  now_is : (n x : ℕ) → now tale n x ≡ (is_among (arriving m (log n)) x || tale.flags n x)
  now_is n x =
      ap₂ (λ (a : Bool) (b : Bool). a || b) (story.flags n x) (story.arrives n x)
      ∙ set_after (item m.events x) (λ s. flag s (chip_after log n).regs) (λ s. latches s (log n)) (λ s. (log n).merged s) (λ s is_it. ap (λ (c : Chip). flag s c.regs) (sym (joined n)) ∙ merges n s is_it)
      ∙ sym (ap₂ (λ (a : Bool) (b : Bool). a || b) (arriving_is m (log n) x) (story.flags n x))

  one_step : (n : ℕ) → TieAt n → TieAt (suc n)
  one_step n tie =
      let all : AllByRecursion (λ x. x < length (priorities_of m)) (arriving m (log n)) = subst (λ (k : ℕ). AllByRecursion (λ x. x < k) (arriving m (log n))) (sym (priorities_many m)) (arriving_below m (log n)) in
      let r : Reading = arrive_all (reading m log n) (arriving m (log n)) in
      let ts : List ℕ = cleared_events m log n in
      let cs : List ℕ = committed_events m log n in
      let come = tie_arrivals p m story.initial (tale.phase n) (tale.stack n) ts cs (arriving m (log n)) (tale.flags n) (reading m log n) all tie in
      let met = same_flags p m story.initial (λ x. is_among (arriving m (log n)) x || tale.flags n x) (now tale n) (tale.phase n) (tale.stack n) r ts cs (now_is n) come in
      let kept = tie_kept p m is_map t story.fitted story.initial (now tale n) r ts cs (shapes.moves t tale n) (shapes.shape_at t tale n) met in
      let next = same_flags p m story.initial (λ x. now tale n x && not (is_clearing x (tale.label n))) (tale.flags (suc n)) (tale.phase (suc n)) (tale.stack (suc n)) (effect (tale.label n) r)
      (ts ++ cleared_by (tale.label n)) (cs ++ committed_by (tale.label n)) (tale.keeps n) kept in
      subst (λ (s : Reading). Tie p m story.initial (tale.flags (suc n)) (tale.phase (suc n)) (tale.stack (suc n)) s (cleared_events m log (suc n)) (committed_events m log (suc n))) (sym (read_is n (reading m log n)))
      (subst (λ (xs : List ℕ). Tie p m story.initial (tale.flags (suc n)) (tale.phase (suc n)) (tale.stack (suc n)) (effect (tale.label n) r) (ts ++ xs) (committed_events m log (suc n))) (sym (clearing_is p m t log story n))
      (subst (λ (xs : List ℕ). Tie p m story.initial (tale.flags (suc n)) (tale.phase (suc n)) (tale.stack (suc n)) (effect (tale.label n) r) (ts ++ cleared_by (tale.label n)) (cs ++ xs)) (sym (committing_is p m t log story n)) next))

  tie_at : (n : ℕ) → TieAt n
  tie_at zero = at_first
  tie_at (suc n) = one_step n (tie_at n)

  -- The arrivals that are still held back stand last.
  is_tied : (n : ℕ) → IsTied p m story.initial log n
  is_tied n =
      let tie = tie_at n in
      let come = arrivals_told (priorities_of m) (next_state p m) story.initial (held_back (reading m log n)) (reading m log n).steps tie.core tie.allowed tie.below in
      record {
        core = come.0;
        allowed = come.1;
        takes = ap (λ (xs : List ℕ). reverse xs) come.2.taken ∙ tie.takes;
        commits = ap (λ (xs : List ℕ). reverse xs) come.2.committed ∙ tie.commits;
      }

  log_tied : (n : ℕ) → Tied p m log n
  log_tied n = (story.initial, story.begins, is_tied n)

pub stories_tied : StoriesTied
stories_tied p image m t log maps its_story joined merges n = log_tied p m maps.rules t log its_story joined merges n

-- At a boundary of the chip a source merges where its flag is set.
merges_there : (program : ℕ → ℕ) (outer : Outer) (c : Chip) (source : Source) → (boundary program outer c).merged source ≡ true → flag source c.regs ≡ true
merges_there program outer c source is_it = let parts = and_parts (outer.arrivals source) (flag source (with_changed_pins outer.pins c).regs) is_it in parts.1

pub images_tied : ImagesTied
images_tied p image m t maps tells start outers n is_start =
    stories_tied p image m t (run image start outers) maps (tells start outers is_start)
    (λ k. sym (chip_after_is_of_the_run (program_of image) (power_on start) (outer_of outers) k))
    (λ k source. merges_there (program_of image) (outer_of outers k) (run image start outers k).before source) n
