-- The levels of the layout order events as the map's priorities do.
use Rattle.std.proofs.Common.{◌≡◌, ℕ, ◌<◌, ◌≤◌, ◌==◌, Bool, true, false, not, nat_lt, nat_le, ◌||◌, if◌then◌else◌, length, refl, ap, arith, inl, inr}
use Rattle.std.specs.Prelude.{◌⊎◌, ◌↔◌}
use Rattle.std.proofs.lemmas.Bool.{cases_lt, eqb-true, ltb-false, ne_eqb}
use Rattle.efrp_meaning.specs.Bounds.{levels}
use Rattle.map_file.specs.declared.maps.Map.{Map}
use Rattle.priority_masks.specs.Laws.{LevelsRise}
use Rattle.priority_masks.specs.Levels.{level_of, priority_of}
use Rattle.priority_masks.proofs.LevelLaws.{levels-rise}
use Rattle.scratch_commit.specs.declared.kinds.Kind.{Kind}
use Rattle.scratch_commit.specs.declared.kinds.Kind.TheVariants.{Short, Long, Bottom, Middle}
use Rattle.scratch_commit.specs.Plans.{is_bottom, is_short, over_idle}
use Rattle.run_steps.specs.Spots.{is_locked}
use Rattle.firmware_parts.specs.Times.{short_work}
use Rattle.firmware_layout.specs.Laws.{LayoutLevels}
use Rattle.firmware_layout.specs.Layouts.{event_level, has_lock}
use Rattle.firmware_layout.specs.Pieces.{Makings, kind_of, plan_in}
use Rattle.firmware_layout.specs.Sound.{AreMakings}
use Rattle.firmware_layout.proofs.EventLaws.{is_event, level_few, level_inside, level_outside, priority_none, priority_of_map, priority_real, real_event, sources_differ}

-- A run that is short, or without a lock, is of the highest level; one of the lowest of several is of level 1.
abbrev kind_by : (below : Bool) → (lowest few : Bool) → Kind
kind_by below lowest few = if below then (if lowest then Bottom else Middle) else if few then Short else Long

short_by : (below lowest few : Bool) → is_short (kind_by below lowest few) ≡ true → below ≡ false
short_by true true few short = absurd (cc)
short_by true false few short = absurd (cc)
short_by false lowest few short = refl

unlocked_by : (below lowest few : Bool) → is_locked (kind_by below lowest few) ≡ false → below ≡ false
unlocked_by true true few unlocked = absurd (cc)
unlocked_by true false few unlocked = absurd (cc)
unlocked_by false lowest few unlocked = refl

bottom_by : (below lowest few : Bool) → is_bottom (kind_by below lowest few) ≡ true → (below ≡ true) × (lowest ≡ true)
bottom_by true true few bottom = (refl, refl)
bottom_by true false few bottom = absurd (cc)
bottom_by false lowest true bottom = absurd (cc)
bottom_by false lowest false bottom = absurd (cc)

module _ (f : Makings) (e : ℕ) where
  abbrev below : Bool
  below = nat_lt (level_of f.p e) (levels f.p)

  abbrev lowest : Bool
  lowest = level_of f.p e == 1

  abbrev few_items : Bool
  few_items = nat_le (length (f.work e)) (short_work f.p)

  pub short_is_highest : is_short (kind_of f e) ≡ true → levels f.p ≤ level_of f.p e
  short_is_highest short = ltb-false (level_of f.p e) (levels f.p) (short_by below lowest few_items short)

  pub unlocked_is_highest : has_lock f e ≡ false → levels f.p ≤ level_of f.p e
  unlocked_is_highest unlocked = ltb-false (level_of f.p e) (levels f.p) (unlocked_by below lowest few_items unlocked)

  pub bottom_is_lowest : is_bottom (kind_of f e) ≡ true → level_of f.p e ≡ 1
  bottom_is_lowest bottom = eqb-true (level_of f.p e) 1 (bottom_by below lowest few_items bottom).1

-- Levels rise as priorities do.
module _ (f : Makings) (made : AreMakings f) where
  event_rises : (x y : ℕ) → x < length f.p.events → y < length f.p.events → (level_of f.p x < level_of f.p y) ↔ (priority_of f.p x < priority_of f.p y)
  event_rises x y inside also = (by (cases_lt (priority_of f.p x) (priority_of f.p y)) (cases_lt (priority_of f.p y) (priority_of f.p x)), rise.rise x y inside also)
    where
      rise : LevelsRise f.p
      rise = levels-rise f.p

      by : (priority_of f.p x < priority_of f.p y) ⊎ (priority_of f.p y ≤ priority_of f.p x) → (priority_of f.p y < priority_of f.p x) ⊎ (priority_of f.p x ≤ priority_of f.p y)
          → level_of f.p x < level_of f.p y → priority_of f.p x < priority_of f.p y
      by (inl lower) other less = lower
      by (inr least) (inl higher) less = let clash = rise.rise y x also inside higher in absurd (omega (arith, clash, less))
      by (inr least) (inr most) less = let clash = rise.same x y inside also (omega (arith, least, most)) in absurd (omega (arith, clash, less))

  pub levels_rise : (x y : ℕ) → (event_level f x < event_level f y) ↔ (priority_of f.p x < priority_of f.p y)
  levels_rise x y = by (cases_lt x (length f.p.events)) (cases_lt y (length f.p.events))
    where
      by : (x < length f.p.events) ⊎ (length f.p.events ≤ x) → (y < length f.p.events) ⊎ (length f.p.events ≤ y)
          → (event_level f x < event_level f y) ↔ (priority_of f.p x < priority_of f.p y)
      by (inl inside) (inl also) =
          let first = level_inside f x inside in
          let second = level_inside f y also in
          let both = event_rises x y inside also in (
            λ less. both.0 (omega (arith, first, second, less)),
            λ less. let higher = both.1 less in omega (arith, first, second, higher),
          )
      by (inl inside) (inr far) =
          let none = level_outside f y far in
          let never = priority_none f y far in (λ less. absurd (omega (arith, none, less)), λ less. absurd (omega (arith, never, less)))
      by (inr far) (inl also) =
          let none = level_outside f x far in
          let never = priority_none f x far in
          let real = real_event f y also in
          let ranked = priority_real f made y also in (λ less. omega (arith, never, ranked), λ less. omega (arith, none, real))
      by (inr far) (inr also) =
          let none = level_outside f y also in
          let never = priority_none f y also in (λ less. absurd (omega (arith, none, less)), λ less. absurd (omega (arith, never, less)))

  pub level_real : (x : ℕ) → (0 < event_level f x) ↔ (0 < priority_of f.p x)
  level_real x = by (cases_lt x (length f.p.events))
    where
      by : (x < length f.p.events) ⊎ (length f.p.events ≤ x) → (0 < event_level f x) ↔ (0 < priority_of f.p x)
      by (inl inside) = (λ _. priority_real f made x inside, λ _. real_event f x inside)
      by (inr far) =
          let none = level_outside f x far in
          let never = priority_none f x far in (λ less. absurd (omega (arith, none, less)), λ less. absurd (omega (arith, never, less)))

  highest : (e x : ℕ) → 0 < event_level f e → levels f.p ≤ level_of f.p e → event_level f x ≤ event_level f e
  highest e x real top =
      let own = level_inside f e (is_event f e real) in
      let few = level_few f x in
      omega (arith, own, few, top)

  -- A run above another tells of its commit.
  tells : (e beneath : ℕ) → 0 < event_level f beneath → event_level f beneath < event_level f e → not (over_idle (plan_in f e)) ≡ true
  tells e beneath real above = by (is_bottom (kind_of f e)) refl
    where
      inside : e < length f.p.events
      inside = is_event f e (omega (arith, real, above))

      high : 2 ≤ level_of f.p e
      high = let own = level_inside f e inside in omega (arith, own, real, above)

      several : (levels f.p == 1) ≡ false
      several = let most = (levels-rise f.p).to_all e inside in ne_eqb (levels f.p) 1 (λ same. let one : levels f.p ≡ 1 = same in absurd (omega (arith, one, most, high)))

      by : (b : Bool) → is_bottom (kind_of f e) ≡ b → not (b || levels f.p == 1) ≡ true
      by true bottom = let low = bottom_is_lowest f e bottom in absurd (omega (arith, low, high))
      by false other = ap not several

pub layout-levels : (f : Makings) (program marks : ℕ → ℕ) (m : Map) → LayoutLevels f program marks m
layout-levels f program marks m made map =
    let ranked = priority_of_map f m map.events in
    record {
      few = λ x. let most = level_few f x in let eight = made.few in omega (arith, most, eight);
      rise = λ x y.
          let both = levels_rise f made x y in
          let first = ranked x in
          let second = ranked y in (
            λ less. let lower = both.0 less in omega (arith, first, second, lower),
            λ less. both.1 (omega (arith, first, second, less)),
          );
      real = λ x.
          let both = level_real f made x in
          let own = ranked x in (λ less. let some = both.0 less in omega (arith, own, some), λ less. both.1 (omega (arith, own, less)));
      short = λ e real short. (refl, λ x. highest f made e x real (short_is_highest f e short));
      unlocked = λ e real unlocked x. highest f made e x real (unlocked_is_highest f e unlocked);
      telling = tells f made;
      sources = λ x y real also same. sources_differ f made x y (is_event f x real) (is_event f y also) same;
    }
