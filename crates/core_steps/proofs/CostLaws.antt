-- What other events cost one that waits: by the core's timing the same as by the program and the map.
use Rattle.std.specs.Prelude.{ℕ, zero, suc, ◌+◌, ◌-◌, ◌*◌, ◌==◌, Bool, true, false, ◌&&◌, ◌||◌, not, max, nat_le, List, [], ◌∷◌, sum_by, Some, if◌then◌else◌}
use Rattle.std.specs.List.{list_any}
use Rattle.std.specs.Str.{bytes_eq}
use Rattle.std.proofs.Common.{◌≡◌, refl, sym, ap, ap₂, subst, ◌∙◌, arith}
use Rattle.std.proofs.Math.Nat.{zero-max}
use Rattle.std.proofs.lemmas.List.Sums.{sum_by-cons}
use Rattle.frp_tree.specs.Tree.{ProgramTree}
use Rattle.efrp_meaning.specs.Bounds.{body, off}
use Rattle.pic_machine.specs.Run.{Log}
use Rattle.map_file.specs.declared.maps.MapEvent.{MapEvent}
use Rattle.map_file.specs.declared.maps.Map.{Map}
use Rattle.map_file.specs.MapRules.{IsMap}
use Rattle.firmware_promises.specs.Counts.{latched_count, commit_count}
use Rattle.firmware_promises.specs.Account as logs
use Rattle.firmware_promises.specs.Account.{cost_of_others}
use Rattle.timed_core.specs.Timing.{Timing}
use Rattle.timed_core.specs.Counts.{latched, committed}
use Rattle.timed_core.specs.Response as cores
use Rattle.core_story.specs.Values.{item}
use Rattle.core_story.specs.Interface.{Fitted, numbers_from}
use Rattle.core_story.specs.Story.{Story}
use Rattle.core_story.proofs.ItemLaws.{level_of_item}
use Rattle.core_story.proofs.NameLaws.{same_name, name_of_item}
use Rattle.core_story.proofs.CountLaws.{latched_count_is, commit_count_is}

-- A sum over the numbers is one over the events.
sum_is : (f : ℕ → ℕ) (g : MapEvent → ℕ) (es : List MapEvent) (k : ℕ) → ((x y : ℕ) (e : MapEvent) → y ≡ k + x → item es x ≡ Some e → f y ≡ g e) → sum_by f (numbers_from k es) ≡ sum_by g es
sum_is f g [] k h = refl
sum_is f g (e ∷ es) k h =
    let first = h 0 k e (omega arith) refl in
    let rest = sum_is f g es (suc k) (λ x y d at there. h (suc x) y d (omega (arith, at)) there) in
    sum_by-cons f k (numbers_from (suc k) es) ∙ ap₂ (λ a b. a + b) first rest ∙ sym (sum_by-cons g e es)

module _ (p : ProgramTree) (t : Timing) where
  -- The levels and the work of the events from one number on are the priorities and the bodies of these events.
  abbrev Alike : ℕ → List MapEvent → Type 0
  Alike k es = (x y : ℕ) (e : MapEvent) → y ≡ k + x → item es x ≡ Some e → (t.level y ≡ e.priority) × (t.body y - t.spare ≡ body p e.name)

  alike_rest : (k : ℕ) (e : MapEvent) (es : List MapEvent) → Alike k (e ∷ es) → Alike (suc k) es
  alike_rest k e es h x y d at there = h (suc x) y d (omega (arith, at)) there

  peak_is : (q : ℕ) (es : List MapEvent) (k : ℕ) → Alike k es → cores.peak t q (numbers_from k es) ≡ logs.peak p es q
  peak_is q [] k h = refl
  peak_is q (e ∷ es) k h = by (e.priority == q) refl (h 0 k e (omega arith) refl) (peak_is q es (suc k) (alike_rest k e es h))
    where
      by : (b : Bool) → (e.priority == q) ≡ b → (t.level k ≡ e.priority) × (t.body k - t.spare ≡ body p e.name) → cores.peak t q (numbers_from (suc k) es) ≡ logs.peak p es q
          → cores.peak t q (numbers_from k (e ∷ es)) ≡ logs.peak p (e ∷ es) q
      by true it first rest = rw (ap (λ l. l == q) first.0 ∙ it, it) (ap₂ max first.1 rest)
      by false it first rest = rw (ap (λ l. l == q) first.0 ∙ it, it) (zero-max (cores.peak t q (numbers_from (suc k) es)) ∙ rest)

  any_is : (q : ℕ) (es : List MapEvent) (k : ℕ) → Alike k es → list_any (λ x. t.level x == q) (numbers_from k es) ≡ list_any (λ (e : MapEvent). e.priority == q) es
  any_is q [] k h = refl
  any_is q (e ∷ es) k h = let first = h 0 k e (omega arith) refl in ap₂ (λ a b. a || b) (ap (λ l. l == q) first.0) (any_is q es (suc k) (alike_rest k e es h))

  module _ (m : Map) (fitted : Fitted p m t) where
    pub level_is : (x : ℕ) (e : MapEvent) → item m.events x ≡ Some e → t.level x ≡ e.priority
    level_is x e h = fitted.level x ∙ level_of_item m x e h

    pub body_is : (x : ℕ) (e : MapEvent) → item m.events x ≡ Some e → t.body x - t.spare ≡ body p e.name
    body_is x e h = omega (arith, fitted.body x e h)

    moved : (x y : ℕ) (e : MapEvent) → y ≡ 0 + x → item m.events x ≡ Some e → item m.events y ≡ Some e
    moved x y e at there = let same : x ≡ y = omega (arith, at) in subst (λ z. item m.events z ≡ Some e) same there

    alike : Alike 0 m.events
    alike x y e at there = (level_is y e (moved x y e at there), body_is y e (moved x y e at there))

    restarts_is : (low q : ℕ) → cores.restarts t (off p) low q ≡ logs.restarts p m.events low q
    restarts_is low zero = refl
    restarts_is low (suc q) =
        ap₂ (λ a b. a + b) (restarts_is low q)
        (ap₂ (λ (b : Bool) (n : ℕ). if nat_le low q && b then off p + n else 0)
        (ap (list_any (λ x. t.level x == q)) fitted.events ∙ any_is q m.events 0 alike)
        (ap (cores.peak t q) fitted.events ∙ peak_is q m.events 0 alike))

    cost_is : (x y : ℕ) (e d : MapEvent) → item m.events x ≡ Some e → item m.events y ≡ Some d → cores.cost t (off p) x y ≡ logs.cost p m.events e d
    cost_is x y e d at_x at_y =
        ap₂ (λ b r. 4 * off p + 2 * b + r) (body_is y d at_y)
        (ap₂ (cores.restarts t (off p)) (level_is x e at_x) (level_is y d at_y) ∙ restarts_is e.priority d.priority)

    module _ (is_map : IsMap m) where
      is_other_is : (x y : ℕ) (e d : MapEvent) → item m.events x ≡ Some e → item m.events y ≡ Some d → cores.is_other t x y ≡ logs.is_other e d
      is_other_is x y e d at_x at_y =
          ap₂ (λ a b. not a && b)
          (sym (same_name m is_map.event_names y x d e at_y at_x) ∙ ap (bytes_eq d.name) (name_of_item m x e at_x))
          (ap₂ nat_le (level_is x e at_x) (level_is y d at_y))

      module _ (log : Log) (story : Story p m t log) where
        other_is : (x y : ℕ) (e d : MapEvent) (b n : ℕ) → item m.events x ≡ Some e → item m.events y ≡ Some d
            → (if cores.is_other t x y then (latched story.tale y n - committed story.tale y b) * cores.cost t (off p) x y else 0)
            ≡ (if logs.is_other e d then (latched_count log d n - commit_count m log d b) * logs.cost p m.events e d else 0)
        other_is x y e d b n at_x at_y =
            ap₂ (λ (v : Bool) (c : ℕ). if v then c else 0) (is_other_is x y e d at_x at_y)
            (ap₂ (λ k c. k * c)
            (ap₂ (λ l c. l - c) (sym (latched_count_is p m t log story n y d at_y)) (sym (commit_count_is p m t log story is_map b y d at_y)))
            (cost_is x y e d at_x at_y))

        pub others_are : (x : ℕ) (e : MapEvent) (b n : ℕ) → item m.events x ≡ Some e → cores.others t story.tale (off p) x b n ≡ cost_of_others p m log e b n
        others_are x e b n at_x =
            ap (sum_by (λ h. if cores.is_other t x h then (latched story.tale h n - committed story.tale h b) * cores.cost t (off p) x h else 0)) fitted.events
            ∙ sum_is _ _ m.events 0 (λ z y d at there. other_is x y e d b n at_x (moved z y d at there))
