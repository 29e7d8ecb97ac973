-- The choice of an event in the core of lists: its own arrivals that were held back, the Take, and then those of the others.
use Rattle.std.specs.Prelude.{ℕ, ◌<◌, ◌==◌, Bool, true, false, not, List, [], ◌∷◌, ◌++◌, length, filter, Some, if◌then◌else◌}
use Rattle.std.specs.List.{AllByRecursion}
use Rattle.std.proofs.Common.{◌≡◌, sym, ap, subst, ◌∙◌}
use Rattle.preempt_core.specs.declared.steps.Step.{Step}
use Rattle.preempt_core.specs.declared.steps.Step.TheVariants as core
use Rattle.preempt_core.specs.declared.steps.Done.TheVariants as answers
use Rattle.preempt_core.specs.Runs.{Active, Told, priority, top_priority, most_urgent, with_latch, begins, is_left, then_step, told}
use Rattle.core_steps.specs.LogSteps.{arrivals_of}
use Rattle.core_steps.proofs.ArriveLaws.{AfterArrivals, arrivals_told}
use Rattle.core_steps.proofs.StandLaws.{takes_it}

all_filtered : (P : ℕ → Type 0) (test : ℕ → Bool) (xs : List ℕ) → AllByRecursion P xs → AllByRecursion P (filter test xs)
all_filtered P test [] h = tt
all_filtered P test (x ∷ xs) h = by (test x) (all_filtered P test xs h.1)
  where
    by : (b : Bool) → AllByRecursion P (filter test xs) → AllByRecursion P (if b then x ∷ filter test xs else filter test xs)
    by true rest = (h.0, rest)
    by false rest = rest

-- The core once an event is taken.
abbrev pub after_take : Told → ℕ → Told
after_take t h = record t { answers = answers.Took h ∷ t.answers; latched = with_latch t.latched h false; stack = begins t h ∷ t.stack }

module _ (priorities : List ℕ) (react : ℕ → List ℕ → ℕ → List ℕ) (first : List ℕ) (h : ℕ) (held : List ℕ) where
  abbrev own : List ℕ
  own = filter (λ x. x == h) held

  abbrev others : List ℕ
  others = filter (λ x. not (x == h)) held

  -- Where it is the most urgent once its own arrivals have come, the steps of the choice are allowed, and take it.
  pub choice_told : (steps : List Step) (before : Told) → told priorities react first steps ≡ Some before → AllByRecursion (λ x. x < length priorities) held
      → is_left before.stack ≡ false → ((mid : Told) → AfterArrivals own before mid → most_urgent priorities mid.latched (length priorities) ≡ Some h)
      → top_priority priorities before.stack < priority priorities h
      → (mid : Told) × (after : Told) × (told priorities react first (arrivals_of others ++ (core.Take ∷ (arrivals_of own ++ steps))) ≡ Some after) × AfterArrivals own before mid × AfterArrivals others (after_take mid h) after
  choice_told steps before is_told all up best above =
      let come = arrivals_told priorities react first own steps before is_told (all_filtered (λ x. x < length priorities) (λ x. x == h) held all) in
      let mid : Told = come.0 in
      let same : mid.stack ≡ before.stack = come.2.stack in
      let take = takes_it priorities react mid h (ap is_left same ∙ up) (best mid come.2) (subst (λ (st : List Active). top_priority priorities st < priority priorities h) (sym same) above) in
      let is_taken : told priorities react first (core.Take ∷ (arrivals_of own ++ steps)) ≡ Some (after_take mid h) = subst (λ o. then_step priorities react o core.Take ≡ Some (after_take mid h)) (sym come.1) take in
      let rest = arrivals_told priorities react first others (core.Take ∷ (arrivals_of own ++ steps)) (after_take mid h) is_taken (all_filtered (λ x. x < length priorities) (λ x. not (x == h)) held all) in
      (mid, rest.0, rest.1, come.2, rest.2)
