-- From each phase and stack that fit together a step is there.
use Rattle.std.specs.Prelude.{ℕ, zero, suc, ◌+◌, ◌<◌, ◌≤◌, ◌≢◌, ◌==◌, Bool, true, false, ◌||◌, List, [], ◌∷◌, ◌⊎◌, count_by, if◌then◌else◌}
use Rattle.std.specs.List.{list_any}
use Rattle.std.proofs.Common.{◌≡◌, refl, sym, ◌∙◌, ap, subst, arith, inl, inr}
use Rattle.std.proofs.lemmas.Bool.Decides.{nat_tests}
use Rattle.std.proofs.lemmas.List.Sums.{sum_by-cons}
use Rattle.timed_core.specs.Timing.{Timing, IsListed}
use Rattle.timed_core.specs.Steps.{Run, Phase, Label, Core, Step, Above, Best, Before, top_level}
use Rattle.timed_core.specs.Steps.Phase.{Boots, Rests, Works, Owes, Chooses, Begins, Repeats, Nears, Copies, Leaves}
use Rattle.timed_core.specs.Steps.Label.{Stays, Readies, Takes, Clears, Turns, Locks, Opens, Commits, Returns}
use Rattle.timed_core.specs.Shape.{Shape, StillSet, NeverStuck}

-- A number stands in a list.
abbrev pub In : ℕ → List ℕ → Type 0
In x xs = list_any (λ y. y == x) xs ≡ true

counted_is_in : (x : ℕ) (xs : List ℕ) → 0 < count_by (λ y. y == x) xs → In x xs
counted_is_in x [] h = absurd (omega arith)
counted_is_in x (y ∷ ys) h = by (y == x) (subst (λ n. 0 < n) (sum_by-cons (λ z. if z == x then 1 else 0) y ys) h) (counted_is_in x ys)
  where
    by : (b : Bool) → 0 < (if b then 1 else 0) + count_by (λ z. z == x) ys → (0 < count_by (λ z. z == x) ys → In x ys) → (b || list_any (λ z. z == x) ys) ≡ true
    by true g rest = refl
    by false g rest = rest (omega arith)

-- One of two, where the first element or the rest has it.
pub in_parts : (x y : ℕ) (ys : List ℕ) → In x (y ∷ ys) → (y ≡ x) ⊎ In x ys
in_parts x y ys h = by (y == x) refl h
  where
    by : (b : Bool) → (y == x) ≡ b → (b || list_any (λ z. z == x) ys) ≡ true → (y ≡ x) ⊎ In x ys
    by true e it = inl (grind (arith, nat_tests))
    by false e it = inr it

module _ (p : Timing) (flags : ℕ → Bool) where
  -- The most urgent event of a list whose flag is set, if any is.
  abbrev Calls : ℕ → Type 0
  Calls x = (flags x ≡ true) × (0 < p.level x)

  abbrev Most : List ℕ → ℕ → Type 0
  Most xs h = Calls h × ((x : ℕ) → In x xs → Calls x → x ≢ h → Before p h x)

  abbrev None : List ℕ → Type 0
  None xs = (x : ℕ) → In x xs → Calls x → ⊥

  compare : (y h : ℕ) → (y ≡ h) ⊎ (Before p y h ⊎ Before p h y)
  compare y h = grind arith

  further : (a b c : ℕ) → Before p a b → Before p b c → Before p a c
  further a b c h g = grind arith

  calls_or_not : (x : ℕ) → Calls x ⊎ (Calls x → ⊥)
  calls_or_not x = by (flags x) refl
    where
      by : (b : Bool) → flags x ≡ b → Calls x ⊎ (Calls x → ⊥)
      by true e = above (p.level x) refl
        where
          above : (n : ℕ) → p.level x ≡ n → Calls x ⊎ (Calls x → ⊥)
          above zero same = inr (λ c. let h = c.1 in absurd (omega arith))
          above (suc n) same = inl (e, omega arith)
      by false e = inr (λ c. let h = sym e in let g = c.0 in absurd cc)

  -- One element more: it doesn't call, or is less urgent than the most urgent of the others, or more, or is it.
  skip_none : (y : ℕ) (ys : List ℕ) → (Calls y → ⊥) → None ys → None (y ∷ ys)
  skip_none y ys silent none x there c = by (in_parts x y ys there)
    where
      by : (y ≡ x) ⊎ In x ys → ⊥
      by (inl e) = silent (subst Calls (sym e) c)
      by (inr h) = none x h c

  skip_most : (y h : ℕ) (ys : List ℕ) → (Calls y → ⊥) → Most ys h → Most (y ∷ ys) h
  skip_most y h ys silent m = (m.0, λ x there c other. by x c other (in_parts x y ys there))
    where
      by : (x : ℕ) → Calls x → x ≢ h → (y ≡ x) ⊎ In x ys → Before p h x
      by x c other (inl e) = absurd (silent (subst Calls (sym e) c))
      by x c other (inr it) = m.1 x it c other

  alone_most : (y : ℕ) (ys : List ℕ) → Calls y → None ys → Most (y ∷ ys) y
  alone_most y ys calls none = (calls, λ x there c other. by x c other (in_parts x y ys there))
    where
      by : (x : ℕ) → Calls x → x ≢ y → (y ≡ x) ⊎ In x ys → Before p y x
      by x c other (inl e) = absurd (other (sym e))
      by x c other (inr it) = absurd (none x it c)

  old_most : (y h : ℕ) (ys : List ℕ) → (y ≡ h) ⊎ Before p h y → Most ys h → Most (y ∷ ys) h
  old_most y h ys is m = (m.0, λ x there c other. by x c other (in_parts x y ys there) is)
    where
      by : (x : ℕ) → Calls x → x ≢ h → (y ≡ x) ⊎ In x ys → (y ≡ h) ⊎ Before p h y → Before p h x
      by x c other (inl e) (inl same) = absurd (other (sym e ∙ same))
      by x c other (inl e) (inr before) = subst (Before p h) e before
      by x c other (inr it) _ = m.1 x it c other

  new_most : (y h : ℕ) (ys : List ℕ) → Calls y → Before p y h → Most ys h → Most (y ∷ ys) y
  new_most y h ys calls before m = (calls, λ x there c other. by x c other (in_parts x y ys there) (same_or_not x h))
    where
      same_or_not : (a b : ℕ) → (a ≡ b) ⊎ (a ≢ b)
      same_or_not a b = grind arith

      by : (x : ℕ) → Calls x → x ≢ y → (y ≡ x) ⊎ In x ys → (x ≡ h) ⊎ (x ≢ h) → Before p y x
      by x c other (inl e) _ = absurd (other (sym e))
      by x c other (inr it) (inl same) = subst (Before p y) (sym same) before
      by x c other (inr it) (inr differs) = further y h x before (m.1 x it c differs)

  most : (xs : List ℕ) → None xs ⊎ ((h : ℕ) × Most xs h)
  most [] = inl (λ x there c. absurd cc)
  most (y ∷ ys) = by (calls_or_not y) (most ys)
    where
      choose : (h : ℕ) → Calls y → Most ys h → (y ≡ h) ⊎ (Before p y h ⊎ Before p h y) → None (y ∷ ys) ⊎ ((x : ℕ) × Most (y ∷ ys) x)
      choose h c m (inl same) = inr (h, old_most y h ys (inl same) m)
      choose h c m (inr (inl before)) = inr (y, new_most y h ys c before m)
      choose h c m (inr (inr after)) = inr (h, old_most y h ys (inr after) m)

      by : Calls y ⊎ (Calls y → ⊥) → None ys ⊎ ((h : ℕ) × Most ys h) → None (y ∷ ys) ⊎ ((h : ℕ) × Most (y ∷ ys) h)
      by (inl c) (inl none) = inr (y, alone_most y ys c none)
      by (inl c) (inr m) = choose m.0 c m.1 (compare y m.0)
      by (inr silent) (inl none) = inl (skip_none y ys silent none)
      by (inr silent) (inr m) = inr (m.0, skip_most y m.0 ys silent m.1)

  module _ (listed : IsListed p) where
    pub is_in : (x : ℕ) → 0 < p.level x → In x p.events
    is_in x h = counted_is_in x p.events (let e = listed x in grind (arith, nat_tests))

    -- The most urgent of all events, if any flag is set.
    pub best : ((x : ℕ) → Calls x → ⊥) ⊎ ((h : ℕ) × Calls h × Best p flags h)
    best = by (most p.events)
      where
        by : None p.events ⊎ ((h : ℕ) × Most p.events h) → ((x : ℕ) → Calls x → ⊥) ⊎ ((h : ℕ) × Calls h × Best p flags h)
        by (inl none) = inl (λ x c. none x (is_in x c.1) c)
        by (inr m) = inr (m.0, m.1.0, λ x e h other. m.1.1 x (is_in x h) (e, h) other)

    pub not_below : (h x : ℕ) → Best p flags h → flags x ≡ true → 0 < p.level x → p.level x ≤ p.level h
    not_below h x b e above = by (same_or_not x h)
      where
        same_or_not : (a c : ℕ) → (a ≡ c) ⊎ (a ≢ c)
        same_or_not a c = grind arith

        low : (p.level x < p.level h) ⊎ ((p.level x ≡ p.level h) × (h < x)) → p.level x ≤ p.level h
        low (inl l) = omega arith
        low (inr l) = let e = l.0 in omega arith

        by : (x ≡ h) ⊎ (x ≢ h) → p.level x ≤ p.level h
        by (inl same) = omega (arith, ap p.level same)
        by (inr differs) = low (b x e above differs)

    -- Whether a flag above a level is set.
    pub above_or_not : (level : ℕ) → (Above p flags level → ⊥) ⊎ Above p flags level
    above_or_not level = by best
      where
        test : (h : ℕ) → Calls h → Best p flags h → (p.level h ≤ level) ⊎ (level < p.level h) → (Above p flags level → ⊥) ⊎ Above p flags level
        test h c b (inl low) = inl (λ a. let up = a.2 in let bound = not_below h a.0 b a.1 (omega arith) in absurd (omega arith))
        test h c b (inr up) = inr (h, c.0, up)

        low_or_not : (a b : ℕ) → (a ≤ b) ⊎ (b < a)
        low_or_not a b = grind arith

        by : ((x : ℕ) → Calls x → ⊥) ⊎ ((h : ℕ) × Calls h × Best p flags h) → (Above p flags level → ⊥) ⊎ Above p flags level
        by (inl none) = inl (λ a. none a.0 (a.1, let up = a.2 in omega arith))
        by (inr it) = test it.0 it.1 it.2 (low_or_not (p.level it.0) level)

    -- Where one is, the most urgent event is above it.
    pub best_above : (level : ℕ) → Above p flags level → (h : ℕ) × (flags h ≡ true) × Best p flags h × (level < p.level h)
    best_above level a = by best
      where
        by : ((x : ℕ) → Calls x → ⊥) ⊎ ((h : ℕ) × Calls h × Best p flags h) → (h : ℕ) × (flags h ≡ true) × Best p flags h × (level < p.level h)
        by (inl none) = absurd (none a.0 (a.1, let up = a.2 in omega arith))
        by (inr it) = (it.0, it.1.0, it.2, let up = a.2 in let bound = not_below it.0 a.0 it.2 a.1 (omega arith) in omega arith)

module _ (p : Timing) (listed : IsListed p) (flags : ℕ → Bool) where
  abbrev Goes : Phase → List Run → Type 0
  Goes ph st = (label : Label) × (next : Core) × Step p flags ph label st next

  rests_on : (st : List Run) → (Above p flags 0 → ⊥) ⊎ Above p flags 0 → Goes Rests st
  rests_on st (inl none) = (Stays, _, (none, refl))
  rests_on st (inr a) = (Takes, _, (a, refl))

  works_on : (r : Run) (rs : List Run) → (Above p flags (p.level r.event) → ⊥) ⊎ Above p flags (p.level r.event) → Goes Works (r ∷ rs)
  works_on r rs (inl none) = (Locks, _, (none, refl))
  works_on r rs (inr a) = (Takes, _, (a, refl))

  chooses_on : (j : ℕ) (g : ℕ → Bool) (st : List Run) → StillSet flags (Chooses j g) → (h : ℕ) × (g h ≡ true) × Best p g h × (top_level p st < p.level h) → Goes (Chooses j g) st
  chooses_on j g st still b = (Clears b.0, _, (still b.0 b.1, b.2, b.3, refl))

  pub goes_on : (ph : Phase) (st : List Run) → Shape p ph st → StillSet flags ph → Goes ph st
  goes_on (Boots j) st s still = (Readies, _, refl)
  goes_on Rests st s still = rests_on st (above_or_not p flags listed 0)
  goes_on Works [] s still = absurd s.0
  goes_on Works (r ∷ rs) s still = works_on r rs (above_or_not p flags listed (p.level r.event))
  goes_on (Owes on g) st s still = (Takes, _, refl)
  goes_on (Chooses j g) st s still = chooses_on j g st still (best_above p g listed (top_level p st) s.1)
  goes_on (Begins j) [] s still = absurd s.0
  goes_on (Begins j) (r ∷ rs) s still = (Turns, _, refl)
  goes_on (Repeats j) [] s still = absurd s.0
  goes_on (Repeats j) (r ∷ rs) s still = (Turns, _, refl)
  goes_on (Nears j) [] s still = absurd s.0
  goes_on (Nears j) (r ∷ rs) s still = (Opens r.event, _, (refl, refl))
  goes_on (Copies j) [] s still = absurd s.0
  goes_on (Copies j) (r ∷ rs) s still = (Commits r.event, _, (refl, refl))
  goes_on (Leaves e j) [] s still = (Returns, _, refl)
  goes_on (Leaves e j) (r ∷ rs) s still = (Returns, _, refl)

pub never_stuck : (p : Timing) → IsListed p → NeverStuck p
never_stuck p listed ph st flags s still = goes_on p listed flags ph st s still
