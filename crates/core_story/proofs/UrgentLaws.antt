-- A log that has a story is urgent: none is overtaken, interrupts come on, events are heard, work opens, and what is heard is
-- taken in time.
use Rattle.std.specs.Prelude.{ℕ, suc, ◌+◌, ◌-◌, ◌<◌, ◌≤◌, Bool, true, false, not, ◌&&◌, ◌||◌, List, [], ◌∷◌, Some, zero}
use Rattle.std.proofs.Common.{◌≡◌, refl, sym, ap, ap₂, ◌∙◌, arith}
use Rattle.std.proofs.lemmas.Bool.{eq-eqb, eqb-true}
use Rattle.frp_tree.specs.Tree.{ProgramTree}
use Rattle.efrp_meaning.specs.Bounds.{off}
use Rattle.pic_machine.specs.Boundary.{Step}
use Rattle.pic_machine.specs.Run.{Log}
use Rattle.map_file.specs.declared.maps.MapEvent.{MapEvent}
use Rattle.map_file.specs.declared.maps.Map.{Map}
use Rattle.map_file.specs.MapRules.{IsMap}
use Rattle.firmware_promises.specs.Counts.{takes, ran_at, clears, interrupts_on, latched_count, commit_count, is_under_way}
use Rattle.firmware_promises.specs.Urgent.{Urgent, NoOvertaking, Stretch, AtOne, InterruptsComeOn, NoneUrgentUnderWay, Listens, WorkIsOpen, clears_one, opens_one, gives_opening, is_heard}
use Rattle.timed_core.specs.Timing.{Timing}
use Rattle.timed_core.specs.Steps.{Label, is_on}
use Rattle.timed_core.specs.Steps.Label.{Clears, Opens}
use Rattle.timed_core.specs.Tale.{Tale, is_clearing}
use Rattle.timed_core.specs.Counts.{runs_of}
use Rattle.timed_core.specs.Promises.{is_boot, is_taking, is_clear_step, is_open_step}
use Rattle.timed_core.proofs.OnLaws.{comes_on}
use Rattle.timed_core.proofs.OpenLaws.{work_opens, listens}
use Rattle.timed_core.proofs.OvertakingLaws.{no_overtaking}
use Rattle.core_story.specs.Values.{item}
use Rattle.core_story.specs.Interface.{is_opening}
use Rattle.core_story.specs.Story.{Story}
use Rattle.core_story.proofs.ItemLaws.{all_by_item, item_of_all, event_with_level, level_of_item, event_has_level}
use Rattle.core_story.proofs.CountLaws.{latched_count_is, commit_count_is, clears_is, opens_event}
use Rattle.core_story.proofs.OnceLaws.{no_run_of}
use Rattle.core_story.proofs.BootLaws.{ready_from, past_boot}

opening_is : (x : ℕ) (l : Label) → is_opening x l ≡ true → l ≡ Opens x
opening_is x (Opens e) h = ap Opens (sym (eqb-true x e h))
opening_is x _ h = absurd cc

is_clear : (x : ℕ) (l : Label) → is_clearing x l ≡ true → is_clear_step l ≡ true
is_clear x (Clears h) e = refl
is_clear x _ e = absurd cc

opened_event : (l : Label) → is_open_step l ≡ true → (e : ℕ) × (l ≡ Opens e)
opened_event (Opens e) h = (e, refl)
opened_event _ h = absurd cc

-- One of a list of events is cleared, or opens.
cleared_item : (es : List MapEvent) (step : Step) → clears_one es step ≡ true → (x : ℕ) × (e : MapEvent) × (item es x ≡ Some e) × (clears e.source step ≡ true)
cleared_item [] step h = absurd cc
cleared_item (e ∷ es) step h = by (clears e.source step) refl h (λ rest. cleared_item es step rest)
  where
    by : (b : Bool) → clears e.source step ≡ b → (b || clears_one es step) ≡ true
        → (clears_one es step ≡ true → (x : ℕ) × (d : MapEvent) × (item es x ≡ Some d) × (clears d.source step ≡ true))
        → (x : ℕ) × (d : MapEvent) × (item (e ∷ es) x ≡ Some d) × (clears d.source step ≡ true)
    by true here h rest = (zero, e, refl, here)
    by false here h rest = let it = rest h in (suc it.0, it.1, it.2, it.3)

opens_at : (es : List MapEvent) (step : Step) (x : ℕ) (e : MapEvent) → item es x ≡ Some e → ran_at e.«open» step ≡ true → opens_one es step ≡ true
opens_at [] step x e there h = absurd cc
opens_at (d ∷ ds) step zero e there h = let same : d ≡ e = cc in rw (ap (λ (a : MapEvent). ran_at a.«open» step) same ∙ h) refl
opens_at (d ∷ ds) step (suc x) e there h = by (ran_at d.«open» step) (opens_at ds step x e there h)
  where
    by : (b : Bool) → opens_one ds step ≡ true → (b || opens_one ds step) ≡ true
    by true rest = refl
    by false rest = rest

either : (a b c d : Bool) → (a ≡ true → c ≡ true) → b ≡ d → (a || b) ≡ true → (c || d) ≡ true
either true b c d first second h = rw (first refl) refl
either false b true d first second h = refl
either false b false d first second h = sym second ∙ h

one_of : (a b c d e : Bool) → a ≡ d → (b ≡ true → e ≡ true) → (a || b || c) ≡ true → (d || e || c) ≡ true
one_of true b c d e first second h = rw (sym first) refl
one_of false b c true e first second h = refl
one_of false true c false e first second h = rw (second refl) refl
one_of false false c false true first second h = refl
one_of false false c false false first second h = h

module _ (p : ProgramTree) (m : Map) (is_map : IsMap m) (t : Timing) (log : Log) (story : Story p m t log) (n : ℕ) where
  abbrev tale : Tale t
  tale = story.tale

  level_is : (x : ℕ) (e : MapEvent) → item m.events x ≡ Some e → t.level x ≡ e.priority
  level_is x e h = story.fitted.level x ∙ level_of_item m x e h

  overtakes_none : NoOvertaking m log n
  overtakes_none s before = all_by_item _ m.events (λ x e at_x. all_by_item _ m.events (λ y h at_y. by x e at_x y h at_y))
    where
      by : (x : ℕ) (e : MapEvent) → item m.events x ≡ Some e → (y : ℕ) (h : MapEvent) → item m.events y ≡ Some h → ran_at e.«open» (log s) ≡ true → e.priority < h.priority
          → latched_count log h (s - 15) ≤ commit_count m log h s
      by x e at_x y h at_y ran more_urgent =
          let opened = opening_is x (tale.label s) (sym ((story.told s).opened x e at_x) ∙ ran) in
          let low : t.level x < t.level y = omega (arith, level_is x e at_x, level_is y h at_y, more_urgent) in
          omega (arith, no_overtaking t tale story.fitted.quick s x y opened low, latched_count_is p m t log story (s - 15) y h at_y, commit_count_is p m t log story is_map s y h at_y)

  past_in : (s : ℕ) → Stretch p m log n s → is_boot (tale.phase s) ≡ false
  past_in s h = past_boot p m t log story s (let from = ready_from p m t log story n h.0 h.1 in let later = h.2 in omega (arith, from, later))

  interrupts_come_on : InterruptsComeOn p m log n
  interrupts_come_on s h = let it = comes_on t tale (off p) story.fitted.in_time s (past_in s h) in (it.0, it.1, it.2, story.on it.0 ∙ it.3)

  each_listens : Listens p m log n
  each_listens s h = all_by_item _ m.events by
    where
      none_above : (e : MapEvent) → NoneUrgentUnderWay p m log s e.priority → (x : ℕ) → item m.events x ≡ Some e → (k y : ℕ) → s ≤ k → k ≤ s + off p → t.level x ≤ t.level y → runs_of y (tale.stack k) ≡ 0
      none_above e none x at_x k y from to above =
          let there = event_with_level m y (omega (arith, above, level_is x e at_x, event_has_level m is_map x e at_x, story.fitted.level y, story.fitted.level x)) in
          no_run_of p m is_map t log story k y there.0 there.1
          (item_of_all (λ h. e.priority ≤ h.priority → is_under_way m log h k ≡ false) m.events (none k from to) y there.0 there.1 (omega (arith, above, level_is x e at_x, level_is y there.0 there.1)))

      by : (x : ℕ) (e : MapEvent) → item m.events x ≡ Some e → NoneUrgentUnderWay p m log s e.priority → AtOne p log s (is_heard e)
      by x e at_x none =
          let it = listens t tale (off p) story.fitted.in_time s x (omega (arith, story.fitted.level x, event_has_level m is_map x e at_x)) (past_in s h) (none_above e none x at_x) in
          (it.0, it.1, it.2, (story.told it.0).heard x e at_x it.3 it.4)

  work_is_open : WorkIsOpen m log n
  work_is_open k h asks =
      let it = work_opens t tale story.fitted.quick k (either (clears_one m.events (log k)) (interrupts_on (log k) && not (takes (log k))) (is_clear_step (tale.label k)) (is_on (tale.phase k) && not (is_taking (tale.label k))) clears_some
      (ap₂ (λ a b. a && not b) (story.on k) (story.told k).takes_is) asks) in
      (it.0, it.1, it.2, given it.0 it.3)
    where
      clears_some : clears_one m.events (log k) ≡ true → is_clear_step (tale.label k) ≡ true
      clears_some c = let it = cleared_item m.events (log k) c in is_clear it.0 (tale.label k) (sym (clears_is p m t log story k it.0 it.1 it.2) ∙ it.3)

      opens_some : (j : ℕ) → is_open_step (tale.label j) ≡ true → opens_one m.events (log j) ≡ true
      opens_some j o =
          let it = opened_event (tale.label j) o in
          let there = event_with_level m it.0 (opens_event p m t log story j it.0 it.1) in
          opens_at m.events (log j) it.0 there.0 there.1 ((story.told j).opened it.0 there.0 there.1 ∙ ap (is_opening it.0) it.1 ∙ eq-eqb it.0 it.0 refl)

      given : (j : ℕ) → (is_on (tale.phase j) || is_open_step (tale.label j) || is_taking (tale.label j)) ≡ true → gives_opening m (log j) ≡ true
      given j g =
          ap (λ b. interrupts_on (log j) || opens_one m.events (log j) || b) (story.told j).takes_is
          ∙ one_of (is_on (tale.phase j)) (is_open_step (tale.label j)) (is_taking (tale.label j)) (interrupts_on (log j)) (opens_one m.events (log j)) (sym (story.on j)) (opens_some j) g

  pub urgent : Urgent p m log n
  urgent = record { no_overtaking = overtakes_none; interrupts_off = interrupts_come_on; listening = each_listens; open_work = work_is_open; in_time = story.in_time n }
