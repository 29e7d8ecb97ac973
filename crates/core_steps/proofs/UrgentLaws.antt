-- The event that a tale chooses is the most urgent in the core of lists.
use Rattle.std.specs.Prelude.{ℕ, zero, suc, ◌<◌, Bool, true, List, [], ◌∷◌, length, Some, ◌≢◌, ◌⊎◌}
use Rattle.std.proofs.Common.{◌≡◌, refl, sym, ◌∙◌, arith, inl, inr}
use Rattle.frp_tree.specs.Tree.{ProgramTree}
use Rattle.map_file.specs.declared.maps.MapEvent.{MapEvent}
use Rattle.map_file.specs.declared.maps.Map.{Map}
use Rattle.map_file.specs.MapRules.{IsMap}
use Rattle.preempt_core.specs.Runs.{priority, most_urgent}
use Rattle.timed_core.specs.Timing.{Timing}
use Rattle.timed_core.specs.Steps.{Before, Best}
use Rattle.core_story.specs.Values.{item}
use Rattle.core_story.specs.Interface.{Fitted}
use Rattle.core_story.proofs.ItemLaws.{event_has_level}
use Rattle.core_steps.specs.Tied.{priorities_of}
use Rattle.core_steps.proofs.ArriveLaws.{priorities_many, priority_is}
use Rattle.core_steps.proofs.ChosenLaws.{FirstOf, chosen_is}

event_below : (es : List MapEvent) (x : ℕ) → x < length es → (e : MapEvent) × (item es x ≡ Some e)
event_below [] x h = absurd (omega (arith, h))
event_below (e ∷ es) zero h = (e, refl)
event_below (e ∷ es) (suc x) h = event_below es x (omega (arith, h))

module _ (p : ProgramTree) (m : Map) (is_map : IsMap m) (t : Timing) (fitted : Fitted p m t) where
  pub level_of : (x : ℕ) → priority (priorities_of m) x ≡ t.level x
  level_of x = priority_is m x ∙ sym (fitted.level x)

  -- Where all that wait but it were set at the taking.
  pub urgent_is : (h : ℕ) (g waits : ℕ → Bool) → Best t g h → h < length m.events → waits h ≡ true → ((x : ℕ) → waits x ≡ true → x ≢ h → g x ≡ true)
      → most_urgent (priorities_of m) waits (length (priorities_of m)) ≡ Some h
  urgent_is h g waits best low set at_taking =
      chosen_is (priorities_of m) waits h (length (priorities_of m)) (omega (arith, low, priorities_many m)) set first
    where
      order : (x : ℕ) → Before t h x → (priority (priorities_of m) x < priority (priorities_of m) h) ⊎ ((priority (priorities_of m) x ≡ priority (priorities_of m) h) × (h < x))
      order x (inl up) = inl (omega (arith, up, level_of x, level_of h))
      order x (inr same) = inr (level_of x ∙ same.0 ∙ sym (level_of h), same.1)

      first : FirstOf (priorities_of m) waits (length (priorities_of m)) h
      first x under also other =
          let e = event_below m.events x (omega (arith, under, priorities_many m)) in
          order x (best x (at_taking x also other) (omega (arith, event_has_level m is_map x e.0 e.1, fitted.level x)) other)
