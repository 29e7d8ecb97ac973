-- An order that grows: each number is placed once, behind those to which it has an edge.
use Rattle.std.specs.Prelude.{◌≡◌, ℕ, ◌+◌, ◌<◌, ◌⊎◌, Bool, true, false, ◌||◌, ◌==◌, List, [], ◌∷◌, ◌++◌, length, take, get_or, set, refl}
use Rattle.std.specs.List.{All, count_by, list_all}
use Rattle.std.proofs.Common.{sym, ap, subst, ◌∙◌, arith}
use Rattle.std.proofs.lemmas.Bool.{eqb-true, false≢true}
use Rattle.std.proofs.lemmas.List.{length-set, length-append, get_or_append_left, take-append-le}
use Rattle.std.proofs.Math.Seq.{get_or-append_seam, take-append_seam}
use Rattle.std.proofs.lemmas.List.Sums.{sum_by_push, AllPass-from_list_all}
use Rattle.std.proofs.lemmas.List.Elements.{All-push}
use Rattle.std.proofs.lemmas.List.{get_or_past}
use mathlib.Core.Logic.{inl, inr}
use Rattle.causality.specs.Graphs.{has, edges, Edge, IsRound, is_marked, IsNext, IsSorted}
use Rattle.causality.proofs.GraphFacts.{has-push, has-passes, all-pass, closed-path, first-edge}
use Rattle.causality.proofs.MarkFacts.{marked-set}
use Rattle.causality.proofs.ChoiceFacts.{below-or-not, one_if, either, or-left}

-- What is placed so far: the order has the placed numbers, and no path from these leads round.
pub record Sorting (g : List (List ℕ)) (placed : List Bool) (order : List ℕ) : Type 0 where
  pub len : length placed ≡ length g
  pub ordered : (n : ℕ) → has order n ≡ is_marked placed n
  pub counts : (n : ℕ) → count_by (λ m. m == n) order ≡ one_if (is_marked placed n)
  pub within : All (λ n. n < length g) order
  pub before : (k : ℕ) → k < length order → list_all (has (take k order)) (edges g (get_or order k 0)) ≡ true
  pub closed : (i : ℕ) → is_marked placed i ≡ true → (j : ℕ) → Edge g i j → is_marked placed j ≡ true
  pub no_round : (i : ℕ) → is_marked placed i ≡ true → ¬ IsRound g i

once-more : (b c : Bool) → (c ≡ true → b ≡ false) → one_if b + one_if c ≡ one_if (b || c)
once-more true true h = absurd (false≢true (sym (h refl)))
once-more true false h = refl
once-more false true h = refl
once-more false false h = refl

module _ (g : List (List ℕ)) (placed : List Bool) (order : List ℕ) (i : ℕ) (so_far : Sorting g placed order) (next : IsNext g placed i) where
  inside : i < length placed
  inside = let a = next.inside in let b = so_far.len in omega (arith, a, b)

  same : (n : ℕ) → (i == n) ≡ true → i ≡ n
  same n h = eqb-true i n h

  leads-to-placed : (j : ℕ) → Edge g i j → is_marked placed j ≡ true
  leads-to-placed j edge = has-passes (is_marked placed) j (edges g i) next.ready edge

  kept : (n : ℕ) → is_marked placed n ≡ true → is_marked (set placed i true) n ≡ true
  kept n h = marked-set placed i n inside ∙ or-left (is_marked placed n) (i == n) h

  was : (n : ℕ) → is_marked (set placed i true) n ≡ true → (is_marked placed n ≡ true) ⊎ ((i == n) ≡ true)
  was n h = either (is_marked placed n) (i == n) (sym (marked-set placed i n inside) ∙ h)

  before-at : (k : ℕ) → (k < length order) ⊎ (k ≡ length order) → list_all (has (take k (order ++ i ∷ []))) (edges g (get_or (order ++ i ∷ []) k 0)) ≡ true
  before-at k (inl less) =
      ap (λ xs. list_all (has xs) (edges g (get_or (order ++ i ∷ []) k 0))) (take-append-le k order (i ∷ []) (omega (arith, less)))
      ∙ ap (λ n. list_all (has (take k order)) (edges g n)) (get_or_append_left order (i ∷ []) 0 k less) ∙ so_far.before k less
  before-at k (inr e) =
      ap (λ j. list_all (has (take j (order ++ i ∷ []))) (edges g (get_or (order ++ i ∷ []) j 0))) e
      ∙ ap (λ xs. list_all (has xs) (edges g (get_or (order ++ i ∷ []) (length order) 0))) (take-append_seam order (i ∷ []))
      ∙ ap (λ n. list_all (has order) (edges g n)) (get_or-append_seam order i [] 0)
      ∙ all-pass (has order) (edges g i) (λ j edge. so_far.ordered j ∙ leads-to-placed j edge)

  still-closed : (n : ℕ) → (is_marked placed n ≡ true) ⊎ ((i == n) ≡ true) → (j : ℕ) → Edge g n j → is_marked placed j ≡ true
  still-closed n (inl h) j edge = so_far.closed n h j edge
  still-closed n (inr h) j edge = leads-to-placed j (subst (λ m. Edge g m j) (sym (same n h)) edge)

  not-round : ¬ IsRound g i
  not-round round = false≢true (sym next.new ∙ closed-path g placed so_far.closed i i round.0 leads-to-placed round.1)

  none-round : (n : ℕ) → (is_marked placed n ≡ true) ⊎ ((i == n) ≡ true) → ¬ IsRound g n
  none-round n (inl h) round = so_far.no_round n h round
  none-round n (inr h) round = not-round (subst (IsRound g) (sym (same n h)) round)

  split : (k : ℕ) → k < length (order ++ i ∷ []) → (k < length order) ⊎ (k ≡ length order)
  split k less = let e = length-append order (i ∷ []) in let most : k < length order + 1 = omega (arith, e, less) in grind (arith, most)

  pub sort-goes : Sorting g (set placed i true) (order ++ i ∷ [])
  sort-goes = record {
    len = length-set placed i true ∙ so_far.len;
    ordered = λ n. has-push order i n ∙ ap (λ b. b || (i == n)) (so_far.ordered n) ∙ sym (marked-set placed i n inside);
    counts = λ n. sum_by_push (λ m. one_if (m == n)) order i ∙ ap (λ c. c + one_if (i == n)) (so_far.counts n)
        ∙ once-more (is_marked placed n) (i == n) (λ h. ap (is_marked placed) (sym (same n h)) ∙ next.new) ∙ ap one_if (sym (marked-set placed i n inside));
    within = All-push (λ n. n < length g) order i so_far.within next.inside;
    before = λ k less. before-at k (split k less);
    closed = λ n h j edge. kept j (still-closed n (was n h) j edge);
    no_round = λ n h. none-round n (was n h);
  }

pub sort-ends : (g : List (List ℕ)) (placed : List Bool) (order : List ℕ) → Sorting g placed order → list_all (λ b. b) placed ≡ true → IsSorted g order
sort-ends g placed order done all = record {
  once = λ n less. done.counts n ∙ ap one_if (marked n less);
  within = done.within;
  before = done.before;
  no_round = λ i round. elim (below-or-not i (length g)) [
    | inl less ↦ done.no_round i (marked i less) round
    | inr most ↦ let edge = first-edge g i i round.0 round.1 in false≢true (sym (ap (λ xs. has xs edge.0) (get_or_past g i [] most)) ∙ edge.1)
  ];
}
  where
    marked : (n : ℕ) → n < length g → is_marked placed n ≡ true
    marked n less = AllPass-from_list_all (λ b. b) placed all n false (let e = done.len in omega (arith, e, less))
