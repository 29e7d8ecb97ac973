-- The runs under way are of falling levels, so they are no more than there are levels.
use Rattle.std.specs.Prelude.{ℕ, suc, ◌+◌, ◌<◌, ◌≤◌, ◌==◌, Bool, true, false, ◌||◌, List, [], ◌∷◌, length, nat_le, if◌then◌else◌}
use Rattle.std.specs.List.{list_any}
use Rattle.std.proofs.Common.{◌≡◌, refl, arith}
use Rattle.std.proofs.lemmas.Bool.Decides.{nat_tests}
use Rattle.timed_core.specs.Timing.{Timing}
use Rattle.timed_core.specs.Steps.{Run, Phase, top_level}
use Rattle.timed_core.specs.Steps.Phase.{Boots, Rests, Works, Owes, Chooses, Begins, Repeats, Nears, Copies, Leaves}
use Rattle.timed_core.specs.Tale.{Tale}
use Rattle.timed_core.specs.Shape.{Tower, Shape, NestsByLevels}
use Rattle.timed_core.proofs.ShapeLaws.{empty_tower, shape_at}

-- How many of the levels are at most m.
abbrev upto : ℕ → List ℕ → ℕ
upto m [] = 0
upto m (l ∷ ls) = (if nat_le l m then 1 else 0) + upto m ls

upto_length : (m : ℕ) (ls : List ℕ) → upto m ls ≤ length ls
upto_length m [] = omega arith
upto_length m (l ∷ ls) = by (nat_le l m) (upto_length m ls)
  where
    by : (b : Bool) → upto m ls ≤ length ls → (if b then 1 else 0) + upto m ls ≤ suc (length ls)
    by true h = omega arith
    by false h = omega arith

not_fewer : (l m k : ℕ) → m < k → (if nat_le l m then 1 else 0) ≤ (if nat_le l k then 1 else 0)
not_fewer l m k h = grind (arith, nat_tests)

one_here : (l m k : ℕ) → m < k → (l == k) ≡ true → (if nat_le l m then 1 else 0) + 1 ≤ (if nat_le l k then 1 else 0)
one_here l m k h e = grind (arith, nat_tests)

upto_more : (m k : ℕ) (ls : List ℕ) → m < k → upto m ls ≤ upto k ls
upto_more m k [] h = omega arith
upto_more m k (l ∷ ls) h = omega (arith, not_fewer l m k h, upto_more m k ls h)

one_more_upto : (m k : ℕ) (ls : List ℕ) → m < k → list_any (λ l. l == k) ls ≡ true → upto m ls + 1 ≤ upto k ls
one_more_upto m k [] h there = absurd cc
one_more_upto m k (l ∷ ls) h there = by (l == k) refl there (one_more_upto m k ls h)
  where
    by : (b : Bool) → (l == k) ≡ b → (b || list_any (λ x. x == k) ls) ≡ true → (list_any (λ x. x == k) ls ≡ true → upto m ls + 1 ≤ upto k ls) → upto m (l ∷ ls) + 1 ≤ upto k (l ∷ ls)
    by true e it rest = omega (arith, one_here l m k h e, upto_more m k ls h)
    by false e it rest = omega (arith, not_fewer l m k h, rest it)

module _ (p : Timing) (levels : List ℕ) (has : (x : ℕ) → 0 < p.level x → list_any (λ l. l == p.level x) levels ≡ true) where
  tower_nests : (st : List Run) → Tower p st → length st ≤ upto (top_level p st) levels
  tower_nests [] h = omega arith
  tower_nests (r ∷ rs) h = let here = one_more_upto (top_level p rs) (p.level r.event) levels h.1 (has r.event (let above = h.1 in omega arith)) in omega (arith, here, tower_nests rs h.2)

  pub tower_is_low : (st : List Run) → Tower p st → length st ≤ length levels
  tower_is_low st h = omega (arith, tower_nests st h, upto_length (top_level p st) levels)

-- Whatever the phase, the stack is a tower.
pub is_tower : (p : Timing) (ph : Phase) (st : List Run) → Shape p ph st → Tower p st
is_tower p (Boots j) st s = empty_tower p st s.0
is_tower p Rests st s = empty_tower p st s
is_tower p Works st s = s.1
is_tower p (Owes on g) st s = s.0
is_tower p (Chooses j g) st s = s.0
is_tower p (Begins j) st s = s.1
is_tower p (Repeats j) st s = s.1
is_tower p (Nears j) st s = s.1
is_tower p (Copies j) st s = s.1
is_tower p (Leaves e j) st s = s.1

module _ (p : Timing) (tale : Tale p) where
  pub tower_at : (n : ℕ) → Tower p (tale.stack n)
  tower_at n = is_tower p (tale.phase n) (tale.stack n) (shape_at p tale n)

  pub nests : NestsByLevels p tale
  nests levels has n = tower_is_low p levels has (tale.stack n) (tower_at n)
