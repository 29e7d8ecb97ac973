-- Arrivals in the core of lists: each is allowed for an event's number, and nothing but what waits changes.
use Rattle.std.specs.Prelude.{ℕ, zero, suc, ◌+◌, ◌<◌, ◌≤◌, ◌==◌, Bool, true, false, ◌||◌, nat_lt, List, [], ◌∷◌, ◌++◌, length, map, slice_index, Some, None, if◌then◌else◌}
use Rattle.std.specs.List.{AllByRecursion, list_any, flat_map}
use Rattle.std.proofs.Common.{◌≡◌, refl, sym, ap, subst, ◌∙◌, arith}
use Rattle.std.proofs.lemmas.Bool.{eqb-true}
use Rattle.std.proofs.lemmas.Bool.Decides.{nat_tests}
use Rattle.pic_isa.specs.declared.sources.Source.{Source}
use Rattle.pic_isa.specs.Sources.{sources, source_number}
use Rattle.pic_machine.specs.Boundary.{Step as ChipStep}
use Rattle.map_file.specs.declared.maps.MapEvent.{MapEvent}
use Rattle.map_file.specs.declared.maps.Map.{Map}
use Rattle.preempt_core.specs.declared.steps.Step.{Step}
use Rattle.preempt_core.specs.declared.steps.Step.TheVariants as core
use Rattle.preempt_core.specs.declared.steps.Done.TheVariants as answers
use Rattle.preempt_core.specs.Runs.{Told, priority, with_latch, answer, arrived, then_step, committed_in, told}
use Rattle.core_story.specs.Values.{item}
use Rattle.core_story.specs.Interface.{level_at}
use Rattle.core_steps.specs.LogSteps.{numbers_where, arrives, arriving, arrivals_of}
use Rattle.core_steps.specs.Tied.{priorities_of, taken_in}

-- The events that arrive are events of the map.
below : (test : MapEvent → Bool) (n : ℕ) (es : List MapEvent) (k : ℕ) → n ≡ k + length es → AllByRecursion (λ x. x < n) (numbers_where test k es)
below test n [] k h = tt
below test n (e ∷ es) k h = by (test e) (below test n es (suc k) (omega (arith, h)))
  where
    by : (b : Bool) → AllByRecursion (λ x. x < n) (numbers_where test (suc k) es) → AllByRecursion (λ x. x < n) (if b then k ∷ numbers_where test (suc k) es else numbers_where test (suc k) es)
    by true rest = (omega (arith, h), rest)
    by false rest = rest

all_both : (P : ℕ → Type 0) (xs ys : List ℕ) → AllByRecursion P xs → AllByRecursion P ys → AllByRecursion P (xs ++ ys)
all_both P [] ys a b = b
all_both P (x ∷ xs) ys a b = (a.0, all_both P xs ys a.1 b)

all_flat : (P : ℕ → Type 0) (f : Source → List ℕ) (ss : List Source) → ((s : Source) → AllByRecursion P (f s)) → AllByRecursion P (flat_map f ss)
all_flat P f [] h = tt
all_flat P f (s ∷ ss) h = all_both P (f s) (flat_map f ss) (h s) (all_flat P f ss h)

pub arriving_below : (m : Map) (step : ChipStep) → AllByRecursion (λ x. x < length m.events) (arriving m step)
arriving_below m step =
    all_flat (λ x. x < length m.events) (λ source. if arrives source step then numbers_where (λ e. source_number e.source == source_number source) 0 m.events else []) sources
    (λ source. by source (arrives source step))
  where
    by : (source : Source) (b : Bool) → AllByRecursion (λ x. x < length m.events) (if b then numbers_where (λ e. source_number e.source == source_number source) 0 m.events else [])
    by source true = below (λ e. source_number e.source == source_number source) (length m.events) m.events 0 (omega arith)
    by source false = tt

-- The priorities by number are the levels.
as_many : (es : List MapEvent) → length (map (λ (e : MapEvent). e.priority) es) ≡ length es
as_many [] = refl
as_many (e ∷ es) = ap suc (as_many es)

pub priorities_many : (m : Map) → length (priorities_of m) ≡ length m.events
priorities_many m = as_many m.events

priority_from : (es : List MapEvent) (x : ℕ) → slice_index (map (λ (e : MapEvent). e.priority) es) x ≡ elim (item es x) [ Some e ↦ e.priority | None ↦ 0 ]
priority_from [] x = refl
priority_from (e ∷ es) zero = refl
priority_from (e ∷ es) (suc x) = priority_from es x

pub priority_is : (m : Map) (x : ℕ) → priority (priorities_of m) x ≡ level_at m x
priority_is m x = priority_from m.events x

-- What arrivals leave of a core: more waits, and there are more answers.
pub record AfterArrivals (xs : List ℕ) (before after : Told) : Type 0 where
  pub latched : (x : ℕ) → after.latched x ≡ (list_any (λ y. x == y) xs || before.latched x)
  pub stack : after.stack ≡ before.stack
  pub last : after.last ≡ before.last
  pub state : after.state ≡ before.state
  pub longer : length before.answers ≤ length after.answers
  pub taken : taken_in after.answers ≡ taken_in before.answers
  pub committed : committed_in after.answers ≡ committed_in before.answers

module _ (priorities : List ℕ) (react : ℕ → List ℕ → ℕ → List ℕ) (first : List ℕ) where
  nat_lt_of : (a b : ℕ) → a < b → nat_lt a b ≡ true
  nat_lt_of a b h = grind (arith, nat_tests)

  one_arrival : (e : ℕ) (xs : List ℕ) (before mid : Told) → e < length priorities → AfterArrivals xs before mid
      → (after : Told) × (arrived priorities mid e ≡ Some after) × AfterArrivals (e ∷ xs) before after
  one_arrival e xs before mid low a = by (mid.latched e) refl
    where
      merged : (x : ℕ) (same : Bool) → (x == e) ≡ same → mid.latched e ≡ true → mid.latched x ≡ ((same || list_any (λ y. x == y) xs) || before.latched x)
      merged x true is_it set = ap mid.latched (eqb-true x e is_it) ∙ set
      merged x false is_it set = a.latched x

      new : (x : ℕ) (same : Bool) → (if same then true else mid.latched x) ≡ ((same || list_any (λ y. x == y) xs) || before.latched x)
      new x true = refl
      new x false = a.latched x

      low_test : nat_lt e (length priorities) ≡ true
      low_test = nat_lt_of e (length priorities) low

      by : (b : Bool) → mid.latched e ≡ b → (after : Told) × (arrived priorities mid e ≡ Some after) × AfterArrivals (e ∷ xs) before after
      by true set = (
        answer mid (answers.Merged e),
        rw (low_test, set) refl,
        record { latched = λ x. merged x (x == e) refl set; stack = a.stack; last = a.last; state = a.state; longer = (let more = a.longer in omega (arith, more)); taken = a.taken; committed = a.committed },
      )
      by false clear = (
        record mid { answers = answers.Latched e ∷ mid.answers; latched = with_latch mid.latched e true },
        rw (low_test, clear) refl,
        record { latched = λ x. new x (x == e); stack = a.stack; last = a.last; state = a.state; longer = (let more = a.longer in omega (arith, more)); taken = a.taken; committed = a.committed },
      )

  -- Arrivals of events after allowed steps are allowed.
  pub arrivals_told : (xs : List ℕ) (steps : List Step) (before : Told) → told priorities react first steps ≡ Some before → AllByRecursion (λ x. x < length priorities) xs
      → (after : Told) × (told priorities react first (arrivals_of xs ++ steps) ≡ Some after) × AfterArrivals xs before after
  arrivals_told [] steps before h all = (before, h, record { latched = λ x. refl; stack = refl; last = refl; state = refl; longer = omega arith; taken = refl; committed = refl })
  arrivals_told (e ∷ xs) steps before h all =
      let mid = arrivals_told xs steps before h all.1 in
      let one = one_arrival e xs before mid.0 all.0 mid.2 in
      (one.0, subst (λ o. then_step priorities react o (core.Arrive e) ≡ Some one.0) (sym mid.1) one.1, one.2)
