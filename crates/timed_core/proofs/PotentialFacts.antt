-- The settling potential: a number that each step without arrivals lowers until the core is at rest with no flag set.
use Rattle.std.specs.Prelude.{ℕ, ◌+◌, ◌<◌, ◌≤◌, Bool, true, false, ◌&&◌, ◌||◌, not, List, [], ◌∷◌, ◌⊎◌, nat_lt}
use Rattle.std.specs.List.{list_any}
use Rattle.std.proofs.Common.{◌≡◌, refl, ap, arith, inl, inr}
use Rattle.std.proofs.lemmas.Bool.Decides.{nat_tests}
use Rattle.timed_core.specs.Timing.{Timing, IsListed}
use Rattle.timed_core.specs.Steps.{Run, Phase, Above, Best, locked, voided, top_level, fresh}
use Rattle.timed_core.specs.Steps.Phase.{Boots, Rests, Works, Owes, Chooses, Begins, Repeats, Nears, Copies, Leaves}
use Rattle.timed_core.specs.Shape.{IsEmpty}
use Rattle.timed_core.proofs.LiveLaws.{In, is_in, not_below}
use Rattle.timed_core.proofs.SumLaws.{total, total_le, total_pick, weigh, weigh_le, weigh_all, weigh_none, any_at, any_gives, any_le, both, both_parts, either_monotone, or_true}

module _ (p : Timing) where
  -- From a taking to the work, from a lock to the work again, and from a lock to the return.
  abbrev pub taking : ℕ
  taking = p.choose + p.start + 4 + p.retry

  abbrev pub again : ℕ
  again = p.again + 2

  abbrev pub commit : ℕ
  commit = p.opening + p.copying + p.exiting + 4

  -- What a flag owes.
  abbrev pub flag_cost : ℕ → ℕ
  flag_cost x = taking + p.body x + commit

  abbrev pub owed : (ℕ → Bool) → ℕ
  owed f = total (λ x. weigh (f x) (flag_cost x)) p.events

  -- A flag above a level is set; one is set that was not at the taking.
  abbrev pub calls : (ℕ → Bool) → ℕ → Bool
  calls f level = list_any (λ x. f x && nat_lt level (p.level x)) p.events

  abbrev pub has_news : (ℕ → Bool) → (ℕ → Bool) → Bool
  has_news f g = list_any (λ x. f x && not (g x)) p.events

  -- What suspended runs owe, which are void when they go on.
  abbrev pub suspended : List Run → ℕ
  suspended [] = 0
  suspended (r ∷ rs) = r.rest + again + p.body r.event + commit + suspended rs

  abbrev pub beneath : List Run → ℕ
  beneath [] = 0
  beneath (r ∷ rs) = suspended rs

  -- What beginning again owes.
  abbrev pub redo : Bool → Run → ℕ
  redo b r = weigh b (again + p.body r.event)

  abbrev pub fresh_top : (ℕ → Bool) → List Run → ℕ
  fresh_top f [] = 0
  fresh_top f (r ∷ rs) = p.body r.event + redo (calls f (p.level r.event)) r + commit + suspended rs

  abbrev pub working : (ℕ → Bool) → List Run → ℕ
  working f [] = 0
  working f (r ∷ rs) = r.rest + redo (r.void || calls f (p.level r.event)) r + commit + suspended rs

  -- What flags above a level may have to begin again.
  abbrev pub above_owed : (ℕ → Bool) → ℕ → ℕ
  above_owed f level = total (λ x. weigh (f x && nat_lt level (p.level x)) (again + p.body x)) p.events

  -- The potential, `taking` above what is owed.
  abbrev pub potential : (ℕ → Bool) → Phase → List Run → ℕ
  potential f (Boots j) st = taking + j + 1 + owed f
  potential f Rests st = taking + owed f
  potential f Works st = taking + working f st + owed f
  potential f (Owes on g) st = p.choose + p.start + 3 + suspended st + owed f
  potential f (Chooses j g) st = j + p.start + 2 + suspended st + owed f + weigh (has_news f g) (above_owed f (top_level p st))
  potential f (Begins j) st = taking + j + 1 + fresh_top f st + owed f
  potential f (Repeats j) st = taking + j + 1 + fresh_top f st + owed f
  potential f (Nears j) st = taking + j + p.copying + p.exiting + 3 + beneath st + owed f
  potential f (Copies j) st = taking + j + p.exiting + 2 + beneath st + owed f
  potential f (Leaves e j) st = taking + j + 1 + suspended st + owed f

  pub suspended_voided : (st : List Run) → suspended (voided st) ≡ suspended st
  suspended_voided [] = refl
  suspended_voided (r ∷ rs) = ap (λ n. r.rest + again + p.body r.event + commit + n) (suspended_voided rs)

  pub empty_suspended : (st : List Run) → IsEmpty st → suspended st ≡ 0
  empty_suspended [] h = refl
  empty_suspended (r ∷ rs) h = absurd h

  abbrev pub Sub : (ℕ → Bool) → (ℕ → Bool) → Type 0
  Sub f g = (x : ℕ) → f x ≡ true → g x ≡ true

  owed_le : (f g : ℕ → Bool) → Sub f g → owed f ≤ owed g
  owed_le f g h = total_le _ _ p.events (λ x. weigh_le (f x) (g x) (flag_cost x) (h x))

  pub calls_gives : (f : ℕ → Bool) (level : ℕ) → calls f level ≡ true → Above p f level
  calls_gives f level h =
      let it = any_gives _ p.events h in
      let parts = both_parts (f it.0) (nat_lt level (p.level it.0)) it.1 in
      (it.0, parts.0, lt_of level (p.level it.0) parts.1)
    where
      lt_of : (a b : ℕ) → nat_lt a b ≡ true → a < b
      lt_of a b h = grind (arith, nat_tests)

  above_less : (f g : ℕ → Bool) (level : ℕ) → Sub f g → Above p f level → Above p g level
  above_less f g level h a = (a.0, h a.0 a.1, a.2)

  news_gone : (f g : ℕ → Bool) → Sub f g → has_news f g ≡ true → ⊥
  news_gone f g h e =
      let it = any_gives _ p.events e in
      let parts = both_parts (f it.0) (not (g it.0)) it.1 in
      clash (g it.0) (h it.0 parts.0) parts.1
    where
      clash : (b : Bool) → b ≡ true → not b ≡ true → ⊥
      clash true h g = let it = g in cc
      clash false h g = let it = h in cc

  module _ (listed : IsListed p) where
    pub listed_in : (x : ℕ) → 0 < p.level x → In x p.events
    listed_in x h = is_in p (λ y. false) listed x h

    lt_test : (a b : ℕ) → a < b → nat_lt a b ≡ true
    lt_test a b h = grind (arith, nat_tests)

    pub above_calls : (f : ℕ → Bool) (level : ℕ) → Above p f level → calls f level ≡ true
    above_calls f level a = any_at _ a.0 p.events (listed_in a.0 (let up = a.2 in omega arith)) (both (f a.0) (nat_lt level (p.level a.0)) a.1 (lt_test level (p.level a.0) a.2))

    calls_le : (f g : ℕ → Bool) (level : ℕ) → Sub f g → calls f level ≡ true → calls g level ≡ true
    calls_le f g level h c = above_calls g level (above_less f g level h (calls_gives f level c))

    news_at : (f g : ℕ → Bool) (x : ℕ) → 0 < p.level x → f x ≡ true → (g x ≡ true) ⊎ (has_news f g ≡ true)
    news_at f g x real h = by (g x) refl
      where
        by : (b : Bool) → g x ≡ b → (g x ≡ true) ⊎ (has_news f g ≡ true)
        by true e = inl e
        by false e = inr (any_at _ x p.events (listed_in x real) (both (f x) (not (g x)) h (ap not e)))

    -- A flag above a level owes something.
    pub owes_something : (f : ℕ → Bool) (level : ℕ) → Above p f level → taking + commit ≤ owed f
    owes_something f level a =
        let one_more = total_pick (λ x. 0) (λ x. weigh (f x) (flag_cost x)) a.0 (flag_cost a.0) p.events (listed_in a.0 (let up = a.2 in omega arith)) (λ x. omega arith)
        (let full = weigh_all (f a.0) (flag_cost a.0) a.1 in omega arith) in
        omega arith

    -- A clearing pays what the flag owed.
    pub clearing_pays : (f g : ℕ → Bool) (h : ℕ) → Sub g f → 0 < p.level h → f h ≡ true → g h ≡ false → owed g + flag_cost h ≤ owed f
    clearing_pays f g h sub real set clear =
        total_pick (λ x. weigh (g x) (flag_cost x)) (λ x. weigh (f x) (flag_cost x)) h (flag_cost h) p.events (listed_in h real) (λ x. weigh_le (g x) (f x) (flag_cost x) (sub x))
        (let full = weigh_all (f h) (flag_cost h) set in let none : weigh (g h) (flag_cost h) ≡ 0 = ap (λ b. weigh b (flag_cost h)) clear in omega arith)

    above_owes : (f : ℕ → Bool) (level h : ℕ) → f h ≡ true → level < p.level h → again + p.body h ≤ above_owed f level
    above_owes f level h set above =
        let one_more = total_pick (λ x. 0) (λ x. weigh (f x && nat_lt level (p.level x)) (again + p.body x)) h (again + p.body h) p.events (listed_in h (omega arith)) (λ x. omega arith)
        (let full = weigh_all (f h && nat_lt level (p.level h)) (again + p.body h) (both (f h) (nat_lt level (p.level h)) set (lt_test level (p.level h) above)) in omega arith) in
        omega arith

    module _ (f g : ℕ → Bool) (sub : Sub g f) where
      -- f are the flags at the boundary, g those after the step.
      pub less_owed : owed g ≤ owed f
      less_owed = owed_le g f sub

      pub redo_less : (b : Bool) (r : Run) → redo (b || calls g (p.level r.event)) r ≤ redo (b || calls f (p.level r.event)) r
      redo_less b r = weigh_le _ _ _ (either_monotone b _ _ (calls_le g f (p.level r.event) sub))

      pub fresh_less : (st : List Run) → fresh_top g st ≤ fresh_top f st
      fresh_less [] = omega arith
      fresh_less (r ∷ rs) = omega (arith, redo_less false r)

      no_redo : (r : Run) → (Above p f (p.level r.event) → ⊥) → redo (calls g (p.level r.event)) r ≡ 0
      no_redo r none = weigh_none _ _ (λ c. none (above_less g f (p.level r.event) sub (calls_gives g (p.level r.event) c)))

      pub full_redo : (r : Run) → Above p f (p.level r.event) → redo (r.void || calls f (p.level r.event)) r ≡ again + p.body r.event
      full_redo r a = weigh_all _ _ (or_true r.void (calls f (p.level r.event)) (above_calls f (p.level r.event) a))

      pub no_news : (st : List Run) → weigh (has_news g f) (above_owed g (top_level p st)) ≡ 0
      no_news st = weigh_none _ _ (news_gone g f sub)

      pub news_less : (h : ℕ → Bool) (level : ℕ) → weigh (has_news g h) (above_owed g level) ≤ weigh (has_news f h) (above_owed f level)
      news_less h level = by (has_news g h) refl
        where
          more : above_owed g level ≤ above_owed f level
          more = total_le _ _ p.events (λ x. weigh_le _ _ (again + p.body x) (λ e. let parts = both_parts (g x) (nat_lt level (p.level x)) e in both (f x) (nat_lt level (p.level x)) (sub x parts.0) parts.1))

          still : has_news g h ≡ true → has_news f h ≡ true
          still e = any_le _ _ p.events (λ x new. let parts = both_parts (g x) (not (h x)) new in both (f x) (not (h x)) (sub x parts.0) parts.1) e

          by : (b : Bool) → has_news g h ≡ b → weigh b (above_owed g level) ≤ weigh (has_news f h) (above_owed f level)
          by true e = omega (arith, more, weigh_all (has_news f h) (above_owed f level) (still e))
          by false e = omega arith

      pub lock_falls : (r : Run) (rs : List Run) (b : Bool) → (Above p f (p.level r.event) → ⊥)
          → potential g (locked p b) (r ∷ rs) + 1 ≤ taking + (r.rest + redo (b || calls f (p.level r.event)) r + commit + suspended rs) + owed f
      lock_falls r rs true none = omega (arith, no_redo r none, less_owed)
      lock_falls r rs false none = omega (arith, less_owed)

      -- The chosen event pays its way, and beginning again where a more urgent one came after the taking.
      pub clear_falls : (h : ℕ) (seen : ℕ → Bool) (st : List Run) → f h ≡ true → g h ≡ false → Best p seen h → top_level p st < p.level h
          → redo (calls g (p.level h)) (fresh p h) ≤ weigh (has_news f seen) (above_owed f (top_level p st))
      clear_falls h seen st set clear best above = by (calls g (p.level h)) refl
        where
          later : (x : ℕ) → p.level h < p.level x → (seen x ≡ true) ⊎ (has_news f seen ≡ true) → has_news f seen ≡ true
          later x up (inl old) = let bound = not_below p seen listed h x best old (omega arith) in absurd (omega arith)
          later x up (inr it) = it

          by : (b : Bool) → calls g (p.level h) ≡ b → weigh b (again + p.body h) ≤ weigh (has_news f seen) (above_owed f (top_level p st))
          by false e = omega arith
          by true e =
              let a = calls_gives g (p.level h) e in
              let new = later a.0 a.2 (news_at f seen a.0 (let up = a.2 in omega arith) (sub a.0 a.1)) in
              omega (arith, weigh_all (has_news f seen) (above_owed f (top_level p st)) new, above_owes f (top_level p st) h set above)
