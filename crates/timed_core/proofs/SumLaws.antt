-- Sums over a list, and tests over it and of numbers, as they grow with what they are of.
use Rattle.std.specs.Prelude.{ℕ, ◌+◌, ◌<◌, ◌≤◌, ◌==◌, Bool, true, false, ◌&&◌, ◌||◌, not, List, [], ◌∷◌, ◌⊎◌, if◌then◌else◌, nat_le, sum_by}
use Rattle.std.specs.List.{list_any}
use Rattle.std.proofs.Common.{◌≡◌, refl, sym, ap, ◌∙◌, arith, inl, inr}
use Rattle.std.proofs.lemmas.Bool.Decides.{nat_tests}
use Rattle.std.proofs.lemmas.List.Sums.{sum_by-cons}
use Rattle.timed_core.proofs.LiveLaws.{In, in_parts}

abbrev pub total : (ℕ → ℕ) → List ℕ → ℕ
total f [] = 0
total f (x ∷ xs) = f x + total f xs

pub total_is_sum : (f : ℕ → ℕ) (xs : List ℕ) → total f xs ≡ sum_by f xs
total_is_sum f [] = refl
total_is_sum f (x ∷ xs) = ap (λ n. f x + n) (total_is_sum f xs) ∙ sym (sum_by-cons f x xs)

pub total_le : (f g : ℕ → ℕ) (xs : List ℕ) → ((x : ℕ) → f x ≤ g x) → total f xs ≤ total g xs
total_le f g [] h = omega arith
total_le f g (x ∷ xs) h = omega (arith, h x, total_le f g xs h)

pub total_add : (f g : ℕ → ℕ) (xs : List ℕ) → total (λ x. f x + g x) xs ≡ total f xs + total g xs
total_add f g [] = refl
total_add f g (x ∷ xs) = omega (arith, total_add f g xs)

-- One element of the list with more has a sum with more.
pub total_pick : (f g : ℕ → ℕ) (h d : ℕ) (xs : List ℕ) → In h xs → ((x : ℕ) → f x ≤ g x) → f h + d ≤ g h → total f xs + d ≤ total g xs
total_pick f g h d [] there le more = absurd cc
total_pick f g h d (x ∷ xs) there le more = by (in_parts h x xs there) (λ it. total_pick f g h d xs it le more)
  where
    by : (x ≡ h) ⊎ In h xs → (In h xs → total f xs + d ≤ total g xs) → total f (x ∷ xs) + d ≤ total g (x ∷ xs)
    by (inl same) rest = omega (arith, more, ap f same, ap g same, total_le f g xs le)
    by (inr it) rest = omega (arith, le x, rest it)

-- A number where it holds, else 0.
abbrev pub weigh : Bool → ℕ → ℕ
weigh b n = if b then n else 0

pub weigh_le : (b c : Bool) (n : ℕ) → (b ≡ true → c ≡ true) → weigh b n ≤ weigh c n
weigh_le true true n h = omega arith
weigh_le true false n h = let e = h refl in absurd cc
weigh_le false c n h = omega arith

pub weigh_most : (b : Bool) (n : ℕ) → weigh b n ≤ n
weigh_most true n = omega arith
weigh_most false n = omega arith

pub weigh_all : (b : Bool) (n : ℕ) → b ≡ true → weigh b n ≡ n
weigh_all true n h = refl
weigh_all false n h = absurd cc

pub weigh_none : (b : Bool) (n : ℕ) → (b ≡ true → ⊥) → weigh b n ≡ 0
weigh_none true n h = absurd (h refl)
weigh_none false n h = refl

-- Tests of an element of a list.
pub any_at : (f : ℕ → Bool) (x : ℕ) (xs : List ℕ) → In x xs → f x ≡ true → list_any f xs ≡ true
any_at f x [] there h = absurd cc
any_at f x (y ∷ ys) there h = by (in_parts x y ys there) (f y) refl (λ it. any_at f x ys it h)
  where
    by : (y ≡ x) ⊎ In x ys → (b : Bool) → f y ≡ b → (In x ys → list_any f ys ≡ true) → (b || list_any f ys) ≡ true
    by _ true e rest = refl
    by (inl same) false e rest = let it = ap f same in absurd cc
    by (inr it) false e rest = rest it

pub any_gives : (f : ℕ → Bool) (xs : List ℕ) → list_any f xs ≡ true → (x : ℕ) × (f x ≡ true)
any_gives f [] h = absurd cc
any_gives f (y ∷ ys) h = by (f y) refl h (λ it. any_gives f ys it)
  where
    by : (b : Bool) → f y ≡ b → (b || list_any f ys) ≡ true → (list_any f ys ≡ true → (x : ℕ) × (f x ≡ true)) → (x : ℕ) × (f x ≡ true)
    by true e it rest = (y, e)
    by false e it rest = rest it

pub both : (b c : Bool) → b ≡ true → c ≡ true → (b && c) ≡ true
both true true h g = refl
both true false h g = absurd cc
both false c h g = absurd cc

pub both_parts : (b c : Bool) → (b && c) ≡ true → (b ≡ true) × (c ≡ true)
both_parts true true h = (refl, refl)
both_parts true false h = absurd cc
both_parts false c h = absurd cc

pub either_monotone : (a b c : Bool) → (b ≡ true → c ≡ true) → (a || b) ≡ true → (a || c) ≡ true
either_monotone true b c h g = refl
either_monotone false b c h g = h g

pub or_true : (a b : Bool) → b ≡ true → (a || b) ≡ true
or_true true b h = refl
or_true false b h = h

or_more : (a b : Bool) → a ≡ true → (a || b) ≡ true
or_more true b h = refl
or_more false b h = absurd cc

pub any_le : (f g : ℕ → Bool) (xs : List ℕ) → ((x : ℕ) → f x ≡ true → g x ≡ true) → list_any f xs ≡ true → list_any g xs ≡ true
any_le f g [] h e = absurd cc
any_le f g (y ∷ ys) h e = by (f y) refl e (λ it. any_le f g ys h it)
  where
    by : (b : Bool) → f y ≡ b → (b || list_any f ys) ≡ true → (list_any f ys ≡ true → list_any g ys ≡ true) → (g y || list_any g ys) ≡ true
    by true e it rest = or_more (g y) (list_any g ys) (h y e)
    by false e it rest = or_true (g y) (list_any g ys) (rest it)

-- Tests of numbers.
pub le_test : (a b : ℕ) → a ≤ b → nat_le a b ≡ true
le_test a b h = grind (arith, nat_tests)

pub le_of : (a b : ℕ) → nat_le a b ≡ true → a ≤ b
le_of a b h = grind (arith, nat_tests)

pub eq_test : (a b : ℕ) → a ≡ b → (a == b) ≡ true
eq_test a b h = grind (arith, nat_tests)

pub eq_of : (a b : ℕ) → (a == b) ≡ true → a ≡ b
eq_of a b h = grind (arith, nat_tests)

pub less_or_not : (a b : ℕ) → (a < b) ⊎ (b ≤ a)
less_or_not a b = grind arith

-- A flag that a step clears, or that it leaves.
pub gone : (g b c : Bool) → g ≡ (b && not c) → c ≡ true → g ≡ false
gone g true true e set = e
gone g false true e set = e
gone g b false e set = absurd cc
