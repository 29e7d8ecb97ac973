-- Numbers in lists, and paths in graphs.
use Rattle.std.specs.Prelude.{◌≡◌, ◌≢◌, ℕ, ◌<◌, ◌⊎◌, Bool, true, false, ◌||◌, ◌&&◌, ◌==◌, List, [], ◌∷◌, ◌++◌, length, get_or, refl}
use Rattle.std.specs.List.{All, list_all}
use Rattle.std.proofs.Common.{sym, ap, subst, ◌∙◌}
use Rattle.std.proofs.lemmas.Bool.{and_parts, false≢true}
use Rattle.std.proofs.lemmas.Bool.Decides.{eqb_tells}
use Rattle.std.proofs.lemmas.List.{get_or_read}
use Rattle.std.proofs.lemmas.List.Folds.{list_any-append}
use mathlib.Core.Logic.{inl, inr}
use Rattle.causality.specs.Graphs.{has, edges, Edge, Path, IsGraph, is_marked}
use Rattle.causality.proofs.ChoiceFacts.{or-none, or-right}

pub same_number : (n : ℕ) → (n == n) ≡ true
same_number n = elim (eqb_tells n n) [ inl s ↦ s.0 | inr s ↦ absurd (s.1 refl) ]

-- A list that grows by a number has that too.
pub has-push : (xs : List ℕ) (i n : ℕ) → has (xs ++ i ∷ []) n ≡ (has xs n || (i == n))
has-push xs i n = list_any-append (λ m. m == n) xs (i ∷ []) ∙ ap (λ b. has xs n || b) (or-none (i == n))

-- What all numbers of a list pass, one that it has passes.
pub has-passes : (test : ℕ → Bool) (n : ℕ) (xs : List ℕ) → list_all test xs ≡ true → has xs n ≡ true → test n ≡ true
has-passes test n [] passes found = absurd (false≢true found)
has-passes test n (x ∷ xs) passes found = by_number (eqb_tells x n) found (has-passes test n xs (and_parts _ _ passes).1)
  where
    by_number : (((x == n) ≡ true) × (x ≡ n)) ⊎ (((x == n) ≡ false) × (x ≢ n)) → ((x == n) || has xs n) ≡ true → (has xs n ≡ true → test n ≡ true) → test n ≡ true
    by_number (inl s) found rest = subst (λ m. test m ≡ true) s.1 (and_parts _ _ passes).0
    by_number (inr s) found rest = rest (sym (ap (λ b. b || has xs n) s.0) ∙ found)

pub has-head : (x : ℕ) (xs : List ℕ) → has (x ∷ xs) x ≡ true
has-head x xs = ap (λ b. b || has xs x) (same_number x)

pub has-tail : (x : ℕ) (xs : List ℕ) (n : ℕ) → has xs n ≡ true → has (x ∷ xs) n ≡ true
has-tail x xs n h = or-right (x == n) (has xs n) h

-- And the other way round.
pub all-pass : (test : ℕ → Bool) (xs : List ℕ) → ((n : ℕ) → has xs n ≡ true → test n ≡ true) → list_all test xs ≡ true
all-pass test [] each = refl
all-pass test (x ∷ xs) each = ap (λ b. b && list_all test xs) (each x (has-head x xs)) ∙ all-pass test xs (λ n h. each n (has-tail x xs n h))

-- Where not all pass, one doesn't.
pub one-fails : (test : ℕ → Bool) (xs : List ℕ) → list_all test xs ≡ false → (n : ℕ) × (has xs n ≡ true) × (test n ≡ false)
one-fails test [] fails = absurd (false≢true (sym fails))
one-fails test (x ∷ xs) fails = by_test (test x) refl fails (one-fails test xs)
  where
    by_test : (b : Bool) → test x ≡ b → (b && list_all test xs) ≡ false → (list_all test xs ≡ false → (n : ℕ) × (has xs n ≡ true) × (test n ≡ false))
        → (n : ℕ) × (has (x ∷ xs) n ≡ true) × (test n ≡ false)
    by_test true e fails rest = let found = rest fails in (found.0, has-tail x xs found.0 found.1, found.2)
    by_test false e fails rest = (x, has-head x xs, e)

-- A list in a row of lists, as it is read; and one of a graph, whose numbers are its own.
pub list-at : (g : List (List ℕ)) (i : ℕ) (x y : List ℕ) → i < length g → x ≡ get_or g i x → y ≡ x → y ≡ edges g i
list-at g i x y less is same = same ∙ get_or_read g i x less is []

pub read-below : (g : List (List ℕ)) (i : ℕ) (x y : List ℕ) (most : ℕ) → IsGraph g → i < length g → x ≡ get_or g i x → y ≡ x → length g ≡ most → All (λ n. n < most) y
read-below g i x y most graph less is same e =
    subst (λ ys. All (λ n. n < most) ys) (sym (list-at g i x y less is same)) (subst (λ m. All (λ n. n < m) (edges g i)) e (graph i))

module _ (g : List (List ℕ)) where
  -- A path goes on.
  pub path-on : (x y j : ℕ) (others : List ℕ) → Path g x others y → Edge g y j → Path g x (others ++ y ∷ []) j
  path-on x y j [] path edge = (path, edge)
  path-on x y j (o ∷ os) path edge = (path.0, path-on o y j os path.1 edge)

  -- From a number whose edges lead to marked ones, where the edges of these do, each path does.
  pub closed-path : (marked : List Bool) → ((i : ℕ) → is_marked marked i ≡ true → (j : ℕ) → Edge g i j → is_marked marked j ≡ true)
      → (i j : ℕ) (others : List ℕ) → ((k : ℕ) → Edge g i k → is_marked marked k ≡ true) → Path g i others j → is_marked marked j ≡ true
  closed-path marked closed i j [] begins path = begins j path
  closed-path marked closed i j (o ∷ os) begins path = closed-path marked closed o j os (closed o (begins o path.0)) path.1

  -- A number on a path has an edge.
  pub first-edge : (i j : ℕ) (others : List ℕ) → Path g i others j → (k : ℕ) × Edge g i k
  first-edge i j [] path = (j, path)
  first-edge i j (o ∷ os) path = (o, path.0)
