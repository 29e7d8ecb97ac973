-- Which events arrive at a step's boundary: those whose source does. So what waits after is what a tale's flags tell, where what
-- merges was set.
use Rattle.std.specs.Prelude.{ℕ, zero, suc, ◌+◌, ◌<◌, ◌==◌, Bool, true, false, ◌&&◌, ◌||◌, List, [], ◌∷◌, Option, Some, None, if◌then◌else◌}
use Rattle.std.specs.List.{list_any, flat_map}
use Rattle.std.proofs.Common.{◌≡◌, refl, ap₂, ◌∙◌, arith}
use Rattle.std.proofs.lemmas.Bool.{eqb-true, eq-eqb}
use Rattle.std.proofs.Math.Bool.{or-false}
use Rattle.std.proofs.lemmas.List.Folds.{list_any-append}
use Rattle.pic_isa.specs.declared.sources.Source.{Source}
use Rattle.pic_isa.specs.declared.sources.Source.TheVariants.{T0, Int, Psp, Ad, Ssp, Ccp1, Tmr2, Tmr1, Ee, Bcl, Ccp2}
use Rattle.pic_isa.specs.Sources.{sources, source_number}
use Rattle.pic_machine.specs.Boundary.{Step}
use Rattle.map_file.specs.declared.maps.MapEvent.{MapEvent}
use Rattle.map_file.specs.declared.maps.Map.{Map}
use Rattle.core_story.specs.Values.{item}
use Rattle.core_story.specs.Interface.{at_event}
use Rattle.core_steps.specs.LogSteps.{numbers_where, arrives, arriving}
use Rattle.core_steps.proofs.TieLaws.{is_among, or_left_false}

not_equal : (y k : ℕ) → (y ≡ k → ⊥) → (y == k) ≡ false
not_equal y k apart = by (y == k) refl
  where
    by : (b : Bool) → (y == k) ≡ b → b ≡ false
    by false it = refl
    by true it = absurd (apart (eqb-true y k it))

left_true : (a b : Bool) → a ≡ true → (a || b) ≡ true
left_true true b h = refl
left_true false b h = absurd cc

-- The number of an event is listed where it passes the test.
among_below : (test : MapEvent → Bool) (es : List MapEvent) (k y : ℕ) → y < k → is_among (numbers_where test k es) y ≡ false
among_below test [] k y h = refl
among_below test (e ∷ es) k y h = by (test e) (among_below test es (suc k) y (omega (arith, h)))
  where
    by : (b : Bool) → is_among (numbers_where test (suc k) es) y ≡ false → is_among (if b then k ∷ numbers_where test (suc k) es else numbers_where test (suc k) es) y ≡ false
    by true rest = or_left_false (y == k) (is_among (numbers_where test (suc k) es) y) (not_equal y k (λ same. absurd (omega (arith, same, h)))) ∙ rest
    by false rest = rest

among_numbers : (test : MapEvent → Bool) (es : List MapEvent) (k x y : ℕ) → y ≡ k + x → is_among (numbers_where test k es) y ≡ elim (item es x) [ Some e ↦ test e | None ↦ false ]
among_numbers test [] k x y h = refl
among_numbers test (e ∷ es) k zero y h = by (test e)
  where
    by : (b : Bool) → is_among (if b then k ∷ numbers_where test (suc k) es else numbers_where test (suc k) es) y ≡ b
    by true = left_true (y == k) (is_among (numbers_where test (suc k) es) y) (eq-eqb y k (omega (arith, h)))
    by false = among_below test es (suc k) y (omega (arith, h))
among_numbers test (e ∷ es) k (suc x) y h = by (test e) (among_numbers test es (suc k) x y (omega (arith, h)))
  where
    by : (b : Bool) → is_among (numbers_where test (suc k) es) y ≡ elim (item es x) [ Some d ↦ test d | None ↦ false ]
        → is_among (if b then k ∷ numbers_where test (suc k) es else numbers_where test (suc k) es) y ≡ elim (item es x) [ Some d ↦ test d | None ↦ false ]
    by true rest = or_left_false (y == k) (is_among (numbers_where test (suc k) es) y) (not_equal y k (λ same. absurd (omega (arith, same, h)))) ∙ rest
    by false rest = rest

among_flat : (f : Source → List ℕ) (g : Source → Bool) (x : ℕ) → ((s : Source) → is_among (f s) x ≡ g s) → (ss : List Source) → is_among (flat_map f ss) x ≡ list_any g ss
among_flat f g x each [] = refl
among_flat f g x each (s ∷ ss) = list_any-append (λ y. x == y) (f s) (flat_map f ss) ∙ ap₂ (λ (a : Bool) (b : Bool). a || b) (each s) (among_flat f g x each ss)

among_if : (b : Bool) (ys : List ℕ) (x : ℕ) (a : Bool) → is_among ys x ≡ a → is_among (if b then ys else []) x ≡ (a && b)
among_if true ys x true h = h
among_if true ys x false h = h
among_if false ys x true h = refl
among_if false ys x false h = refl

-- Of all sources one is an event's.
one_source : (f : Source → Bool) (source : Source) → list_any (λ s. (source_number source == source_number s) && f s) sources ≡ f source
one_source f T0 = or-false (f T0)
one_source f Int = or-false (f Int)
one_source f Psp = or-false (f Psp)
one_source f Ad = or-false (f Ad)
one_source f Ssp = or-false (f Ssp)
one_source f Ccp1 = or-false (f Ccp1)
one_source f Tmr2 = or-false (f Tmr2)
one_source f Tmr1 = or-false (f Tmr1)
one_source f Ee = or-false (f Ee)
one_source f Bcl = or-false (f Bcl)
one_source f Ccp2 = or-false (f Ccp2)

pub arriving_is : (m : Map) (step : Step) (x : ℕ) → is_among (arriving m step) x ≡ at_event m x (λ source. arrives source step)
arriving_is m step x =
    among_flat (λ source. if arrives source step then numbers_where (λ e. source_number e.source == source_number source) 0 m.events else [])
    (λ s. elim (item m.events x) [ Some e ↦ source_number e.source == source_number s | None ↦ false ] && arrives s step) x
    (λ s. among_if (arrives s step) (numbers_where (λ e. source_number e.source == source_number s) 0 m.events) x (elim (item m.events x) [ Some e ↦ source_number e.source == source_number s | None ↦ false ])
    (among_numbers (λ e. source_number e.source == source_number s) m.events 0 x x (omega arith))) sources
    ∙ by (item m.events x)
  where
    by : (o : Option MapEvent) → list_any (λ s. elim o [ Some e ↦ source_number e.source == source_number s | None ↦ false ] && arrives s step) sources ≡ elim o [ Some e ↦ arrives e.source step | None ↦ false ]
    by None = refl
    by (Some e) = one_source (λ s. arrives s step) e.source

with_merged : (flag latch merge : Bool) → (merge ≡ true → flag ≡ true) → (flag || latch) ≡ ((latch || merge) || flag)
with_merged true true merge h = refl
with_merged true false true h = refl
with_merged true false false h = refl
with_merged false true merge h = refl
with_merged false false false h = refl
with_merged false false true h = h refl

pub set_after : (o : Option MapEvent) (flags latches merges : Source → Bool) → ((s : Source) → merges s ≡ true → flags s ≡ true)
    → (elim o [ Some e ↦ flags e.source | None ↦ false ] || elim o [ Some e ↦ latches e.source | None ↦ false ])
    ≡ (elim o [ Some e ↦ latches e.source || merges e.source | None ↦ false ] || elim o [ Some e ↦ flags e.source | None ↦ false ])
set_after None flags latches merges h = refl
set_after (Some e) flags latches merges h = with_merged (flags e.source) (latches e.source) (merges e.source) (h e.source)
