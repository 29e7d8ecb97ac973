-- The settling potential is at most the sum of what each event can owe: one run and one flag.
use Rattle.std.specs.Prelude.{ℕ, ◌+◌, ◌*◌, ◌<◌, ◌≤◌, Bool, true, false, ◌&&◌, ◌||◌, List, [], ◌∷◌, nat_lt, nat_le}
use Rattle.std.proofs.Common.{◌≡◌, refl, arith}
use Rattle.std.proofs.lemmas.Bool.Decides.{nat_tests}
use Rattle.timed_core.specs.Timing.{Timing, IsListed}
use Rattle.timed_core.specs.Steps.{Run, Phase, top_level}
use Rattle.timed_core.specs.Steps.Phase.{Boots, Rests, Works, Owes, Chooses, Begins, Repeats, Nears, Copies, Leaves}
use Rattle.timed_core.specs.Shape.{Tower, Shape}
use Rattle.timed_core.proofs.SumLaws.{total, total_le, total_add, total_pick, weigh, weigh_le, weigh_most, weigh_all, weigh_none, both_parts, le_test, le_of}
use Rattle.timed_core.proofs.PotentialFacts.{taking, again, commit, flag_cost, owed, calls, has_news, suspended, above_owed, potential, listed_in}

module _ (p : Timing) (listed : IsListed p) where
  -- What a run of an event owes at most.
  abbrev pub run_cost : ℕ → ℕ
  run_cost x = taking p + p.retry + 2 * p.body x + again p + commit p

  -- The runs of the events up to a level.
  abbrev upto : ℕ → ℕ
  upto m = total (λ x. weigh (nat_le (p.level x) m) (run_cost x)) p.events

  abbrev pub all_runs : ℕ
  all_runs = total run_cost p.events

  abbrev pub all_flags : ℕ
  all_flags = total (flag_cost p) p.events

  -- One more event, above a level, owes its run beside those up to that level.
  one_more : (m e : ℕ) → m < p.level e → upto m + run_cost e ≤ upto (p.level e)
  one_more m e h =
      total_pick (λ x. weigh (nat_le (p.level x) m) (run_cost x)) (λ x. weigh (nat_le (p.level x) (p.level e)) (run_cost x)) e (run_cost e) p.events (listed_in p listed e (omega arith))
      (λ x. weigh_le _ _ (run_cost x) (λ low. le_test (p.level x) (p.level e) (let bound = le_of (p.level x) m low in omega arith)))
      (let full = weigh_all (nat_le (p.level e) (p.level e)) (run_cost e) (le_test (p.level e) (p.level e) (omega arith)) in
      let none = weigh_none (nat_le (p.level e) m) (run_cost e) (λ low. let bound = le_of (p.level e) m low in omega arith) in
      omega arith)

  upto_all : (m : ℕ) → upto m ≤ all_runs
  upto_all m = total_le _ _ p.events (λ x. weigh_most (nat_le (p.level x) m) (run_cost x))

  suspended_bound : (st : List Run) → Tower p st → suspended p st ≤ upto (top_level p st)
  suspended_bound [] t = omega arith
  suspended_bound (r ∷ rs) t = let low = t.0 in omega (arith, suspended_bound rs t.2, one_more (top_level p rs) r.event t.1)

  top_bound : (r : Run) (rs : List Run) → Tower p (r ∷ rs) → run_cost r.event + suspended p rs ≤ all_runs
  top_bound r rs t = omega (arith, suspended_bound rs t.2, one_more (top_level p rs) r.event t.1, upto_all (p.level r.event))

  left_bound : (e : ℕ) (st : List Run) → Tower p st → top_level p st < p.level e → run_cost e + suspended p st ≤ all_runs
  left_bound e st t h = omega (arith, suspended_bound st t, one_more (top_level p st) e h, upto_all (p.level e))

  -- The events above a level have no run on the stack, so each may owe beginning again.
  split : (f : ℕ → Bool) (m x : ℕ) → weigh (nat_le (p.level x) m) (run_cost x) + weigh (f x && nat_lt m (p.level x)) (again p + p.body x) ≤ run_cost x
  split f m x = by (nat_le (p.level x) m) refl
    where
      by : (b : Bool) → nat_le (p.level x) m ≡ b → weigh b (run_cost x) + weigh (f x && nat_lt m (p.level x)) (again p + p.body x) ≤ run_cost x
      by true e =
          let none = weigh_none (f x && nat_lt m (p.level x)) (again p + p.body x) (λ c. let up = (both_parts (f x) (nat_lt m (p.level x)) c).1 in clash (p.level x) m (le_of (p.level x) m e) up) in
          omega arith
        where
          clash : (a b : ℕ) → a ≤ b → nat_lt b a ≡ true → ⊥
          clash a b h g = grind (arith, nat_tests)
      by false e = omega (arith, weigh_most (f x && nat_lt m (p.level x)) (again p + p.body x))

  choosing_bound : (f : ℕ → Bool) (st : List Run) → Tower p st → suspended p st + above_owed p f (top_level p st) ≤ all_runs
  choosing_bound f st t =
      omega (
        arith,
        suspended_bound st t,
        total_add (λ x. weigh (nat_le (p.level x) (top_level p st)) (run_cost x)) (λ x. weigh (f x && nat_lt (top_level p st) (p.level x)) (again p + p.body x)) p.events,
        total_le (λ x. weigh (nat_le (p.level x) (top_level p st)) (run_cost x) + weigh (f x && nat_lt (top_level p st) (p.level x)) (again p + p.body x)) run_cost p.events (split f (top_level p st)),
      )

  module _ (f : ℕ → Bool) where
    flags_bound : owed p f ≤ all_flags
    flags_bound = total_le _ _ p.events (λ x. weigh_most (f x) (flag_cost p x))

    abbrev Bounded : Phase → List Run → Type 0
    Bounded ph st = potential p f ph st ≤ taking p + p.boot + 1 + all_runs + all_flags

    -- By the order of the bounds: beginning again is no longer than a taking.
    pub bounded : again p ≤ taking p → (ph : Phase) (st : List Run) → Shape p ph st → Bounded ph st
    bounded order (Boots j) st s = let low = s.1 in omega (arith, flags_bound)
    bounded order Rests st s = omega (arith, flags_bound)
    bounded order Works [] s = absurd s.0
    bounded order Works (r ∷ rs) s = let low = s.1.0 in omega (arith, flags_bound, top_bound r rs s.1, weigh_most (r.void || calls p f (p.level r.event)) (again p + p.body r.event))
    bounded order (Owes on g) st s = omega (arith, flags_bound, suspended_bound st s.0, upto_all (top_level p st))
    bounded order (Chooses j g) st s = let low = s.2 in omega (arith, flags_bound, choosing_bound f st s.0, weigh_most (has_news p f g) (above_owed p f (top_level p st)))
    bounded order (Begins j) [] s = absurd s.0
    bounded order (Begins j) (r ∷ rs) s = let low = s.2 in omega (arith, flags_bound, top_bound r rs s.1, weigh_most (calls p f (p.level r.event)) (again p + p.body r.event))
    bounded order (Repeats j) [] s = absurd s.0
    bounded order (Repeats j) (r ∷ rs) s = let low = s.2 in omega (arith, flags_bound, top_bound r rs s.1, weigh_most (calls p f (p.level r.event)) (again p + p.body r.event))
    bounded order (Nears j) [] s = absurd s.0
    bounded order (Nears j) (r ∷ rs) s = let low = s.2 in omega (arith, flags_bound, top_bound r rs s.1)
    bounded order (Copies j) [] s = absurd s.0
    bounded order (Copies j) (r ∷ rs) s = let low = s.2 in omega (arith, flags_bound, top_bound r rs s.1)
    bounded order (Leaves e j) st s = let low = s.3 in omega (arith, flags_bound, left_bound e st s.1 s.2)
