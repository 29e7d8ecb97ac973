-- The edges of a graph one number after another, and the lists of those that lead to a number.
use Rattle.std.specs.Prelude.{◌≡◌, ◌≢◌, ℕ, ◌+◌, ◌-◌, ◌<◌, ◌≤◌, ◌⊎◌, Bool, true, false, ◌&&◌, ◌==◌, List, [], ◌∷◌, ◌++◌, length, map, take, get_or, replicate, refl}
use Rattle.std.specs.List.{All, Contains, count_by}
use Rattle.std.proofs.Common.{sym, ap, ap₂, subst, ◌∙◌, arith}
use Rattle.std.proofs.lemmas.Bool.Decides.{eqb_tells}
use Rattle.std.proofs.lemmas.List.{length-append, length-map, length-replicate, length-set, get_or-set_same, get_or-set_other, get_or-replicate, get_or_past, get_or-map}
use Rattle.std.proofs.lemmas.List.Sums.{sum_by-cons, sum_by_more, sum_by-append, sum_by_push}
use Rattle.std.proofs.lemmas.List.Elements.{All-append, All-push}
use mathlib.Core.Logic.{inl, inr}
use Rattle.linked_rows.specs.Rows.{NodeLists, row, with_row, IsFree}
use Rattle.causality.specs.declared.edges.Edge.{Edge}
use Rattle.causality.specs.Graphs.{edges, IsGraph}
use Rattle.causality.specs.Waits.{between, is_between, AreEdges, user_of, from, IsEdgeNode, AreUsers}
use Rattle.causality.proofs.GraphFacts.{same_number}
use Rattle.causality.proofs.ChoiceFacts.{below-or-not, one_if}

abbrev edge_from : ℕ → ℕ → Edge
edge_from i j = record { user = i; used = j }

abbrev IsEdgeOf : ℕ → Edge → Type 0
IsEdgeOf n e = (e.user < n) × (e.used < n)

own-edges : (k j : ℕ) (ns : List ℕ) → count_by (is_between k j) (map (edge_from k) ns) ≡ count_by (λ m. m == j) ns
own-edges k j [] = refl
own-edges k j (x ∷ xs) =
    sum_by-cons (λ e. one_if (is_between k j e)) (edge_from k x) (map (edge_from k) xs) ∙ ap₂ (λ b c. one_if (b && (x == j)) + c) (same_number k) (own-edges k j xs)
    ∙ sym (sum_by-cons (λ m. one_if (m == j)) x xs)

others-edges : (i k j : ℕ) → (k == i) ≡ false → (ns : List ℕ) → count_by (is_between i j) (map (edge_from k) ns) ≡ 0
others-edges i k j other [] = refl
others-edges i k j other (x ∷ xs) =
    sum_by-cons (λ e. one_if (is_between i j e)) (edge_from k x) (map (edge_from k) xs) ∙ ap₂ (λ b c. one_if (b && (x == j)) + c) other (others-edges i k j other xs)

within-map : (n k : ℕ) → k < n → (ns : List ℕ) → All (λ m. m < n) ns → All (λ (e : Edge). (e.user < n) × (e.used < n)) (map (edge_from k) ns)
within-map n k less ns all i d inside =
    let short : i < length ns = let e = length-map ns (edge_from k) in omega (arith, e, inside) in
    subst (λ (e : Edge). (e.user < n) × (e.used < n)) (sym (get_or-map (edge_from k) ns i 0 d short)) (less, all i 0 short)

pub edges-begin : (g : List (List ℕ)) → AreEdges g 0 []
edges-begin g = record {
  size = refl;
  within = λ k d less. absurd (omega (arith, less));
  each = λ i j less. absurd (omega (arith, less));
  later = λ i j most. refl;
}

module _ (g : List (List ℕ)) (k : ℕ) (es : List Edge) (graph : IsGraph g) (less : k < length g) (so_far : AreEdges g k es) where
  counted : (i j : ℕ) → count_by (is_between i j) (es ++ map (edge_from k) (edges g k)) ≡ count_by (is_between i j) es + count_by (is_between i j) (map (edge_from k) (edges g k))
  counted i j = sum_by-append (λ e. one_if (is_between i j e)) es (map (edge_from k) (edges g k))

  each-edge : (i j : ℕ) → i < k + 1 → (((k == i) ≡ true) × (k ≡ i)) ⊎ (((k == i) ≡ false) × (k ≢ i)) → count_by (is_between i j) (es ++ map (edge_from k) (edges g k)) ≡ between g i j
  each-edge i j small (inl s) =
      subst (λ m. count_by (is_between m j) (es ++ map (edge_from k) (edges g k)) ≡ between g m j) s.1
      (counted k j ∙ ap₂ (λ a b. a + b) (so_far.later k j (omega arith)) (own-edges k j (edges g k)) ∙ (omega arith))
  each-edge i j small (inr s) =
      let differ = s.1 in
      let below : i < k = elim (below-or-not i k) [ inl b ↦ b | inr m ↦ absurd (differ (omega arith)) ] in
      counted i j ∙ ap₂ (λ a b. a + b) (so_far.each i j below) (others-edges i k j s.0 (edges g k)) ∙ (omega arith)

  later-edge : (i j : ℕ) → k + 1 ≤ i → (((k == i) ≡ true) × (k ≡ i)) ⊎ (((k == i) ≡ false) × (k ≢ i)) → count_by (is_between i j) (es ++ map (edge_from k) (edges g k)) ≡ 0
  later-edge i j most (inl s) = absurd (let e = s.1 in omega (arith, e, most))
  later-edge i j most (inr s) = counted i j ∙ ap₂ (λ a b. a + b) (so_far.later i j (omega arith)) (others-edges i k j s.0 (edges g k))

  pub edges-go : AreEdges g (k + 1) (es ++ map (λ m. record { user = k; used = m }) (edges g k))
  edges-go = record {
    size = let a = length-append es (map (edge_from k) (edges g k)) in let b = length-map (edges g k) (edge_from k) in let c = so_far.size in let d = sum_by_more (λ (xs : List ℕ). length xs) g k [] less in omega (arith, a, b, c, d);
    within = All-append (IsEdgeOf (length g)) es (map (edge_from k) (edges g k)) so_far.within (within-map (length g) k less (edges g k) (graph k));
    each = λ i j small. each-edge i j small (eqb_tells k i);
    later = λ i j most. later-edge i j most (eqb_tells k i);
  }

-- The lists after one of them has other nodes.
pub row-same : (v : NodeLists) (t : ℕ) (xs : List ℕ) → t < length v.lists → row (with_row v t xs) t ≡ xs
row-same v t xs less = get_or-set_same v.lists t xs [] less

pub row-other : (v : NodeLists) (t j : ℕ) (xs : List ℕ) → j ≢ t → row (with_row v t xs) j ≡ row v j
row-other v t j xs differ = get_or-set_other v.lists t j xs [] differ

pub no-nodes : (P : ℕ → Type 0) (xs : List ℕ) → xs ≡ [] → All P xs
no-nodes P xs none = subst (All P) (sym none) (λ k d less. absurd (omega (arith, less)))

-- A node that a list has passes what all its nodes pass.
pub passes : (P : ℕ → Type 0) (xs : List ℕ) (x : ℕ) → All P xs → Contains xs x → P x
passes P xs x all has = subst P has.2 (all has.0 x has.1)

all-empty : (count j : ℕ) (none : List ℕ) → none ≡ [] → get_or (replicate count none) j none ≡ []
all-empty count j none is = elim (below-or-not j count) [
  | inl less ↦ get_or-replicate count j none none less ∙ is
  | inr most ↦ get_or_past (replicate count none) j none (subst (λ k. k ≤ j) (sym (length-replicate count none)) most) ∙ is
]

pub users-begin : (n : ℕ) (es : List Edge) → AreUsers n es 0 (record { lists = replicate (n + 1) []; nodes = n + length es })
users-begin n es = record {
  lists = length-replicate (n + 1) [];
  nodes = refl;
  within = λ j. no-nodes (IsEdgeNode n 0) _ (all-empty (n + 1) j [] refl);
  none_ready = all-empty (n + 1) n [] refl;
  each = λ i j. ap (from es n i) (all-empty (n + 1) j [] refl);
}

module _ (n : ℕ) (es : List Edge) (k : ℕ) (rows : NodeLists) (so_far : AreUsers n es k rows) where
  pub free-after : IsFree rows (n + k)
  free-after j has = let w = passes (IsEdgeNode n k) (row rows j) (n + k) (so_far.within j) has in let below = w.1 in omega (arith, below)

  module _ (e : Edge) (t : ℕ) (less : k < length es) (is : get_or es k (record { user = 0; used = 0 }) ≡ e) (used : e.used ≡ t) (inside : t < n) where
    t-in : t < length rows.lists
    t-in = let a = so_far.lists in omega (arith, a, inside)

    abbrev after : NodeLists
    after = with_row rows t (row rows t ++ (n + k) ∷ [])

    its-user : user_of es n (n + k) ≡ e.user
    its-user = let m : n + k - n ≡ k = omega arith in ap (λ m. (get_or es m (record { user = 0; used = 0 })).user) m ∙ ap (λ (f : Edge). f.user) is

    one-edge : (i j : ℕ) → count_by (is_between i j) (take (k + 1) es) ≡ count_by (is_between i j) (take k es) + one_if ((e.user == i) && (e.used == j))
    one-edge i j = sum_by_more (λ f. one_if (is_between i j f)) es k (record { user = 0; used = 0 }) less ∙ ap (λ f. count_by (is_between i j) (take k es) + one_if (is_between i j f)) is

    and-true : (a b : Bool) → b ≡ true → one_if a ≡ one_if (a && b)
    and-true true b h = ap one_if (sym h)
    and-true false b h = refl

    and-false : (a b : Bool) → b ≡ false → 0 ≡ one_if (a && b)
    and-false true b h = ap one_if (sym h)
    and-false false b h = refl

    within-after : (j : ℕ) → (((t == j) ≡ true) × (t ≡ j)) ⊎ (((t == j) ≡ false) × (t ≢ j)) → All (λ x. (n ≤ x) × (x < n + (k + 1))) (row after j)
    within-after j (inl s) = subst (λ m. All (λ x. (n ≤ x) × (x < n + (k + 1))) (row after m)) s.1
        (subst (All (λ x. (n ≤ x) × (x < n + (k + 1)))) (sym (row-same rows t (row rows t ++ (n + k) ∷ []) t-in))
        (All-push (IsEdgeNode n (k + 1)) (row rows t) (n + k) (λ i d small. let w = so_far.within t i d small in let a = w.0 in let b = w.1 in (a, omega (arith, b))) (omega arith, omega arith)))
    within-after j (inr s) = subst (All (λ x. (n ≤ x) × (x < n + (k + 1)))) (sym (row-other rows t j (row rows t ++ (n + k) ∷ []) (λ e. s.1 (sym e))))
        (λ i d small. let w = so_far.within j i d small in let a = w.0 in let b = w.1 in (a, omega (arith, b)))

    each-after : (i j : ℕ) → (((t == j) ≡ true) × (t ≡ j)) ⊎ (((t == j) ≡ false) × (t ≢ j)) → from es n i (row after j) ≡ count_by (is_between i j) (take (k + 1) es)
    each-after i j (inl s) =
        subst (λ m. from es n i (row after m) ≡ count_by (is_between i m) (take (k + 1) es)) s.1
        (ap (from es n i) (row-same rows t (row rows t ++ (n + k) ∷ []) t-in)
        ∙ sum_by_push (λ x. one_if (user_of es n x == i)) (row rows t) (n + k)
        ∙ ap₂ (λ a u. a + one_if (u == i)) (so_far.each i t) its-user
        ∙ ap (λ b. count_by (is_between i t) (take k es) + b) (and-true (e.user == i) (e.used == t) (ap (λ u. u == t) used ∙ same_number t))
        ∙ sym (one-edge i t))
    each-after i j (inr s) =
        ap (from es n i) (row-other rows t j (row rows t ++ (n + k) ∷ []) (λ e. s.1 (sym e)))
        ∙ so_far.each i j ∙ (let z : count_by (is_between i j) (take k es) ≡ count_by (is_between i j) (take k es) + 0 = omega arith in z)
        ∙ ap (λ b. count_by (is_between i j) (take k es) + b) (and-false (e.user == i) (e.used == j) (ap (λ u. u == j) used ∙ s.0))
        ∙ sym (one-edge i j)

    pub users-go : AreUsers n es (k + 1) (with_row rows t (row rows t ++ (n + k) ∷ []))
    users-go = record {
      lists = length-set rows.lists t (row rows t ++ (n + k) ∷ []) ∙ so_far.lists;
      nodes = so_far.nodes;
      within = λ j. within-after j (eqb_tells t j);
      none_ready = row-other rows t n (row rows t ++ (n + k) ∷ []) (λ e. omega (arith, e, inside)) ∙ so_far.none_ready;
      each = λ i j. each-after i j (eqb_tells t j);
    }
