-- What is left while numbers are placed: numbers become ready, one of them is placed, and those that have an edge to it are told.
use Rattle.std.specs.Prelude.{◌≡◌, ◌≢◌, ℕ, zero, suc, ◌+◌, ◌-◌, ◌<◌, ◌≤◌, ◌⊎◌, Bool, true, false, not, ◌||◌, ◌&&◌, ◌==◌, List, [], ◌∷◌, ◌++◌, length, map, drop, get_or, set, replicate, cond, nat_eq, slice_get, Option, Some, None, refl}
use Rattle.std.specs.List.{All, Contains, count_by, list_all}
use Rattle.std.proofs.Common.{sym, ap, ap₂, subst, ◌∙◌, arith}
use Rattle.std.proofs.lemmas.Bool.{false≢true, and_parts}
use Rattle.std.proofs.lemmas.Bool.Decides.{eqb_tells}
use Rattle.std.proofs.lemmas.List.{length-map, length-replicate, length-set, get_or-set_same, get_or-set_other, get_or_past, get_or-map, get_or_default, set-get_or}
use Rattle.std.proofs.lemmas.Option.{none-some, same_Some}
use Rattle.std.proofs.Math.Seq.{take-length}
use Rattle.std.proofs.lemmas.List.Sums.{sum_by-cons}
use Rattle.std.proofs.lemmas.List.Elements.{All-push, Contains-append_left, Contains-append_right}
use mathlib.Core.Logic.{inl, inr}
use Rattle.linked_rows.specs.Rows.{NodeLists, row, with_row, IsFree}
use Rattle.causality.specs.declared.edges.Edge.{Edge}
use Rattle.causality.specs.Graphs.{edges, is_marked, IsNext, NoneIsNext}
use Rattle.causality.specs.Waits.{is_between, AreEdges, user_of, from, IsEdgeNode, AreUsers, AreReady, Waits}
use Rattle.causality.proofs.GraphFacts.{same_number}
use Rattle.causality.proofs.MarkFacts.{marked-set, none-marked}
use Rattle.causality.proofs.EdgeFacts.{row-same, row-other, no-nodes, passes}
use Rattle.causality.proofs.ChoiceFacts.{below-or-not, either, one_if}

-- How many numbers have no mark.
abbrev unplaced : List Bool → List ℕ → ℕ
unplaced placed ns = count_by (λ j. not (is_marked placed j)) ns

none-placed : (count : ℕ) (ns : List ℕ) → unplaced (replicate count false) ns ≡ length ns
none-placed count [] = refl
none-placed count (x ∷ xs) =
    sum_by-cons (λ j. one_if (not (is_marked (replicate count false) j))) x xs ∙ ap₂ (λ b c. one_if (not b) + c) (none-marked count x) (none-placed count xs)
    ∙ (let e : 1 + length xs ≡ length (x ∷ xs) = omega arith in e)

-- A number gets its mark: so many fewer have none.
weights : (m e : Bool) → (e ≡ true → m ≡ false) → one_if (not m) ≡ one_if (not (m || e)) + one_if e
weights true true h = absurd (false≢true (sym (h refl)))
weights true false h = refl
weights false true h = refl
weights false false h = refl

turned : (i x : ℕ) → (i == x) ≡ (x == i)
turned i x = by_number (eqb_tells i x) (eqb_tells x i)
  where
    by_number : (((i == x) ≡ true) × (i ≡ x)) ⊎ (((i == x) ≡ false) × (i ≢ x)) → (((x == i) ≡ true) × (x ≡ i)) ⊎ (((x == i) ≡ false) × (x ≢ i)) → (i == x) ≡ (x == i)
    by_number (inl s) (inl t) = s.0 ∙ sym t.0
    by_number (inl s) (inr t) = absurd (t.1 (sym s.1))
    by_number (inr s) (inl t) = absurd (s.1 (sym t.1))
    by_number (inr s) (inr t) = s.0 ∙ sym t.0

equal : (i x : ℕ) → (i == x) ≡ true → i ≡ x
equal i x h = elim (eqb_tells i x) [ inl s ↦ s.1 | inr s ↦ absurd (false≢true (sym s.0 ∙ h)) ]

fewer : (placed : List Bool) (i : ℕ) → i < length placed → is_marked placed i ≡ false → (ns : List ℕ)
    → unplaced placed ns ≡ unplaced (set placed i true) ns + count_by (λ m. m == i) ns
fewer placed i less new [] = refl
fewer placed i less new (x ∷ xs) =
    let a = sum_by-cons (λ j. one_if (not (is_marked placed j))) x xs in
    let b = sum_by-cons (λ j. one_if (not (is_marked (set placed i true) j))) x xs in
    let d = sum_by-cons (λ m. one_if (m == i)) x xs in
    let rest = fewer placed i less new xs in
    let w = weights (is_marked placed x) (i == x) (λ h. subst (λ m. is_marked placed m ≡ false) (equal i x h) new) in
    let m : one_if (not (is_marked (set placed i true) x)) ≡ one_if (not (is_marked placed x || (i == x))) = ap (λ b. one_if (not b)) (marked-set placed i x less) in
    let t : one_if (i == x) ≡ one_if (x == i) = ap one_if (turned i x) in
    omega (arith, a, b, d, rest, w, m, t)

-- All are placed exactly where none has no mark.
none-left : (placed : List Bool) (ns : List ℕ) → unplaced placed ns ≡ 0 → list_all (is_marked placed) ns ≡ true
none-left placed [] e = refl
none-left placed (x ∷ xs) e = by_mark (is_marked placed x) refl (none-left placed xs)
  where
    by_mark : (b : Bool) → is_marked placed x ≡ b → (unplaced placed xs ≡ 0 → list_all (is_marked placed) xs ≡ true) → list_all (is_marked placed) (x ∷ xs) ≡ true
    by_mark true h rest =
        let a = sum_by-cons (λ j. one_if (not (is_marked placed j))) x xs in
        ap₂ (λ b c. b && c) h (rest (omega (arith, a, e)))
    by_mark false h rest =
        let a = sum_by-cons (λ j. one_if (not (is_marked placed j))) x xs in
        let w : one_if (not (is_marked placed x)) ≡ 1 = ap (λ b. one_if (not b)) h in
        absurd (omega (arith, a, e, w))

all-left : (placed : List Bool) (ns : List ℕ) → list_all (is_marked placed) ns ≡ true → unplaced placed ns ≡ 0
all-left placed [] e = refl
all-left placed (x ∷ xs) e =
    let parts = and_parts (is_marked placed x) (list_all (is_marked placed) xs) e in
    sum_by-cons (λ j. one_if (not (is_marked placed j))) x xs ∙ ap₂ (λ b c. one_if (not b) + c) parts.0 (all-left placed xs parts.1)

-- A list that is empty has no node.
empty-has : (xs : List ℕ) (x : ℕ) → xs ≡ [] → ¬ Contains xs x
empty-has xs x none has = let e : length xs ≡ 0 = ap length none in let less = has.1 in omega (arith, e, less)

-- The ready numbers, one after another.
pub ready-begins : (waits : List ℕ) (ready : ℕ) (rows : NodeLists) → row rows ready ≡ [] → AreReady waits ready 0 rows rows
ready-begins waits ready rows none = record {
  lists = refl;
  nodes = refl;
  others = λ j differ. refl;
  only = no-nodes (λ i. (i < 0) × (get_or waits i 0 ≡ 0)) (row rows ready) none;
  all = λ i less. absurd (omega (arith, less));
}

module _ (waits : List ℕ) (ready i : ℕ) (before rows : NodeLists) (so_far : AreReady waits ready i before rows) where
  pub free-of : ((x : ℕ) → i ≤ x → IsFree before x → IsFree rows x)
  free-of x above free j has = by_list (eqb_tells j ready)
    where
      by_list : (((j == ready) ≡ true) × (j ≡ ready)) ⊎ (((j == ready) ≡ false) × (j ≢ ready)) → ⊥
      by_list (inl s) =
          let w = passes (λ y. (y < i) × (get_or waits y 0 ≡ 0)) (row rows ready) x so_far.only (subst (λ k. Contains (row rows k) x) s.1 has) in
          let below = w.0 in omega (arith, below, above)
      by_list (inr s) = free j (subst (λ xs. Contains xs x) (so_far.others j s.1) has)

  module _ (inside : ready < length rows.lists) where
    ready-case : (b : Bool) → nat_eq (get_or waits i 0) 0 ≡ b → AreReady waits ready (i + 1) before (cond b (with_row rows ready (row rows ready ++ i ∷ [])) rows)
    ready-case true h = record {
      lists = length-set rows.lists ready (row rows ready ++ i ∷ []) ∙ so_far.lists;
      nodes = so_far.nodes;
      others = λ j differ. row-other rows ready j (row rows ready ++ i ∷ []) differ ∙ so_far.others j differ;
      only = subst (All (λ y. (y < i + 1) × (get_or waits y 0 ≡ 0))) (sym (row-same rows ready (row rows ready ++ i ∷ []) inside))
          (All-push (λ y. (y < i + 1) × (get_or waits y 0 ≡ 0)) (row rows ready) i (λ k d less. let w = so_far.only k d less in let a = w.0 in (omega (arith, a), w.1)) (omega arith, equal (get_or waits i 0) 0 h));
      all = λ y less none. subst (λ xs. Contains xs y) (sym (row-same rows ready (row rows ready ++ i ∷ []) inside)) (elim (below-or-not y i) [
        | inl below ↦ Contains-append_left (row rows ready) (i ∷ []) y (so_far.all y below none)
        | inr most ↦ let e : i ≡ y = omega arith in Contains-append_right (row rows ready) (i ∷ []) y (0, omega arith, e)
      ]);
    }
    ready-case false h = record {
      lists = so_far.lists;
      nodes = so_far.nodes;
      others = so_far.others;
      only = λ k d less. let w = so_far.only k d less in let a = w.0 in (omega (arith, a), w.1);
      all = λ y less none. elim (below-or-not y i) [
        | inl below ↦ so_far.all y below none
        | inr most ↦ let e : i ≡ y = omega arith in absurd (false≢true (sym h ∙ ap (λ k. nat_eq k 0) (ap (λ m. get_or waits m 0) e ∙ none)))
      ];
    }

    pub ready-goes : AreReady waits ready (i + 1) before (cond (nat_eq (get_or waits i 0) 0) (with_row rows ready (row rows ready ++ i ∷ [])) rows)
    ready-goes = ready-case (nat_eq (get_or waits i 0) 0) refl

-- At the beginning.
module _ (g : List (List ℕ)) (es : List Edge) (users rows : NodeLists) (edges_are : AreEdges g (length g) es) (users_are : AreUsers (length g) es (length es) users)
    (ready_are : AreReady (map length g) (length g) (length g) users rows) where
  length-at : (i : ℕ) → i < length g → get_or (map length g) i 0 ≡ length (edges g i)
  length-at i less = get_or-map length g i [] 0 less

  pub waits-begin : Waits g es (replicate (length g) false) (map length g) rows []
  waits-begin = record {
    lists = ready_are.lists ∙ users_are.lists;
    nodes = ready_are.nodes ∙ users_are.nodes;
    size = length-map g length;
    marks = length-replicate (length g) false;
    users = λ k d less. (edges_are.within k d less).0;
    within = λ j less. subst (All (IsEdgeNode (length g) (length es))) (sym (ready_are.others j (λ e. omega (arith, e, less)))) (users_are.within j);
    told = λ i j i_less less new. ap (from es (length g) i) (ready_are.others j (λ e. omega (arith, e, less))) ∙ users_are.each i j
        ∙ ap (count_by (is_between i j)) (take-length es) ∙ edges_are.each i j i_less;
    counts = λ i less. length-at i less ∙ sym (none-placed (length g) (edges g i)) ∙ (let e : unplaced (replicate (length g) false) (edges g i) ≡ unplaced (replicate (length g) false) (edges g i) + 0 = omega arith in e);
    past = λ i less h. absurd (false≢true (sym (none-marked (length g) i) ∙ h));
    only = λ k d less. let w = ready_are.only k d less in (w.0, none-marked (length g) (get_or (row rows (length g)) k d), w.1);
    all = λ i less new none. ready_are.all i less none;
  }

-- The first of the ready numbers is placed.
module _ (g : List (List ℕ)) (es : List Edge) (placed : List Bool) (waits : List ℕ) (rows : NodeLists) (so_far : Waits g es placed waits rows []) where
  pub none-next : row rows (length g) ≡ [] → NoneIsNext g placed
  none-next none i less new = by_test (list_all (is_marked placed) (edges g i)) refl
    where
      by_test : (b : Bool) → list_all (is_marked placed) (edges g i) ≡ b → b ≡ false
      by_test false e = refl
      by_test true e =
          let c = so_far.counts i less in
          let z = all-left placed (edges g i) e in
          absurd (empty-has (row rows (length g)) i none (so_far.all i less new (omega (arith, c, z))))

  module _ (i : ℕ) (rest : List ℕ) (first : row rows (length g) ≡ i ∷ rest) (free : IsFree (with_row rows (length g) rest) i) where
    list-in : length g < length rows.lists
    list-in = let a = so_far.lists in omega (arith, a)

    its : (i < length g) × (is_marked placed i ≡ false) × (get_or waits i 0 ≡ 0)
    its = passes (λ i. (i < length g) × (is_marked placed i ≡ false) × (get_or waits i 0 ≡ 0)) (row rows (length g)) i so_far.only (subst (λ xs. Contains xs i) (sym first) (0, omega arith, refl))

    marked-in : i < length placed
    marked-in = let a = so_far.marks in let b = its.0 in omega (arith, a, b)

    pub is-next : IsNext g placed i
    is-next = record {
      inside = its.0;
      new = its.1;
      ready = none-left placed (edges g i) (let c = so_far.counts i its.0 in let z = its.2 in omega (arith, c, z));
    }

    rest-only : All (λ x. (x < length g) × (is_marked placed x ≡ false) × (get_or waits x 0 ≡ 0)) rest
    rest-only k d less = subst (λ xs. All (λ x. (x < length g) × (is_marked placed x ≡ false) × (get_or waits x 0 ≡ 0)) xs) first so_far.only (suc k) d (omega (arith, less))

    not-in-rest : ¬ Contains rest i
    not-in-rest has = free (length g) (subst (λ xs. Contains xs i) (sym (row-same rows (length g) rest list-in)) has)

    unmarked-other : (x : ℕ) → is_marked (set placed i true) x ≡ false → (is_marked placed x ≡ false) × (i ≢ x)
    unmarked-other x h = both (is_marked placed x) (i == x) (sym (marked-set placed i x marked-in) ∙ h) (eqb_tells i x)
      where
        both : (a b : Bool) → (a || b) ≡ false → ((b ≡ true) × (i ≡ x)) ⊎ ((b ≡ false) × (i ≢ x)) → (a ≡ false) × (i ≢ x)
        both true b e s = absurd (false≢true (sym e))
        both false b e (inl s) = absurd (false≢true (sym e ∙ s.0))
        both false b e (inr s) = (refl, s.1)

    still-unmarked : (x : ℕ) → is_marked placed x ≡ false → i ≢ x → is_marked (set placed i true) x ≡ false
    still-unmarked x h differ = marked-set placed i x marked-in ∙ both (eqb_tells i x)
      where
        both : (((i == x) ≡ true) × (i ≡ x)) ⊎ (((i == x) ≡ false) × (i ≢ x)) → (is_marked placed x || (i == x)) ≡ false
        both (inl s) = absurd (differ s.1)
        both (inr s) = ap₂ (λ a b. a || b) h s.0

    rest-has : (x : ℕ) → i ≢ x → (xs : List ℕ) → xs ≡ i ∷ rest → Contains xs x → Contains rest x
    rest-has x differ xs e has = past-first (subst (λ ys. Contains ys x) e has)
      where
        past-first : Contains (i ∷ rest) x → Contains rest x
        past-first (zero, less, is) = absurd (differ is)
        past-first (suc k, less, is) = (k, (omega (arith, less)), is)

    abbrev after : NodeLists
    after = with_row rows (length g) rest

    same-row : (j : ℕ) → j < length g → row after j ≡ row rows j
    same-row j less = row-other rows (length g) j rest (λ e. omega (arith, e, less))

    pub waits-place : Waits g es (set placed i true) waits (with_row rows (length g) rest) (row (with_row rows (length g) rest) i)
    waits-place = record {
      lists = length-set rows.lists (length g) rest ∙ so_far.lists;
      nodes = so_far.nodes;
      size = so_far.size;
      marks = length-set placed i true ∙ so_far.marks;
      users = so_far.users;
      within = λ j less. subst (All (IsEdgeNode (length g) (length es))) (sym (same-row j less)) (so_far.within j less);
      told = λ k j k_less less new. ap (from es (length g) k) (same-row j less) ∙ so_far.told k j k_less less (unmarked-other j new).0;
      counts = λ k less.
          let c = so_far.counts k less in
          let f = fewer placed i marked-in its.1 (edges g k) in
          let t = ap (from es (length g) k) (same-row i its.0) ∙ so_far.told k i less its.0 its.1 in
          let none : from es (length g) k [] ≡ 0 = refl in
          omega (arith, c, f, t, none);
      past = λ k less h. elim (either (is_marked placed k) (i == k) (sym (marked-set placed i k marked-in) ∙ h)) [
        | inl was ↦ so_far.past k less was
        | inr same ↦ subst (λ m. get_or waits m 0 ≡ 0) (equal i k same) its.2
      ];
      only = subst (All (λ x. (x < length g) × (is_marked (set placed i true) x ≡ false) × (get_or waits x 0 ≡ 0))) (sym (row-same rows (length g) rest list-in))
          (λ k d less. let w = rest-only k d less in
          (w.0, still-unmarked (get_or rest k d) w.1 (λ e. not-in-rest (k, less, get_or_default rest k i d less ∙ sym e)), w.2));
      all = λ x less new none. subst (λ xs. Contains xs x) (sym (row-same rows (length g) rest list-in))
          (let w = unmarked-other x new in rest-has x w.1 (row rows (length g)) first (so_far.all x less w.0 none));
    }

-- The first edge of the list of a placed number is taken out.
module _ (g : List (List ℕ)) (es : List Edge) (placed : List Bool) (waits : List ℕ) (rows : NodeLists) (left : List ℕ) (so_far : Waits g es placed waits rows left) where
  module _ (i x : ℕ) (rest : List ℕ) (inside : i < length g) (is_placed : is_marked placed i ≡ true) (first : row rows i ≡ x ∷ rest) where
    i-in : i < length rows.lists
    i-in = let a = so_far.lists in omega (arith, a, inside)

    pub first-node : IsEdgeNode (length g) (length es) x
    first-node = passes (IsEdgeNode (length g) (length es)) (row rows i) x (so_far.within i inside) (subst (λ xs. Contains xs x) (sym first) (0, omega arith, refl))

    within-taken : (j : ℕ) → j < length g → (((i == j) ≡ true) × (i ≡ j)) ⊎ (((i == j) ≡ false) × (i ≢ j)) → All (IsEdgeNode (length g) (length es)) (row (with_row rows i rest) j)
    within-taken j less (inl s) = subst (λ m. All (IsEdgeNode (length g) (length es)) (row (with_row rows i rest) m)) s.1
        (subst (All (IsEdgeNode (length g) (length es))) (sym (row-same rows i rest i-in))
        (λ k d small. subst (All (IsEdgeNode (length g) (length es))) first (so_far.within i inside) (suc k) d (omega (arith, small))))
    within-taken j less (inr s) = subst (All (IsEdgeNode (length g) (length es))) (sym (row-other rows i j rest (λ e. s.1 (sym e)))) (so_far.within j less)

    same-ready : row (with_row rows i rest) (length g) ≡ row rows (length g)
    same-ready = row-other rows i (length g) rest (λ e. omega (arith, e, inside))

    pub waits-taken : Waits g es placed waits (with_row rows i rest) left
    waits-taken = record {
      lists = length-set rows.lists i rest ∙ so_far.lists;
      nodes = so_far.nodes;
      size = so_far.size;
      marks = so_far.marks;
      users = so_far.users;
      within = λ j less. within-taken j less (eqb_tells i j);
      told = λ k j k_less less new. ap (from es (length g) k) (row-other rows i j rest (λ e. false≢true (sym new ∙ ap (is_marked placed) e ∙ is_placed))) ∙ so_far.told k j k_less less new;
      counts = so_far.counts;
      past = so_far.past;
      only = subst (All (λ y. (y < length g) × (is_marked placed y ≡ false) × (get_or waits y 0 ≡ 0))) (sym same-ready) so_far.only;
      all = λ y less new none. subst (λ xs. Contains xs y) (sym same-ready) (so_far.all y less new none);
    }

-- The number that has an edge is told of it.
module _ (g : List (List ℕ)) (es : List Edge) (placed : List Bool) (waits : List ℕ) (rows : NodeLists) (x : ℕ) (left : List ℕ) (so_far : Waits g es placed waits rows (x ∷ left)) (edge : IsEdgeNode (length g) (length es) x)
    (o : ℕ) (is_user : user_of es (length g) x ≡ o) where
  pub user-in : o < length g
  user-in = let a = edge.0 in let b = edge.1 in subst (λ u. u < length g) is_user (so_far.users (x - length g) (record { user = 0; used = 0 }) (omega (arith, a, b)))

  one-less : (k : ℕ) → from es (length g) k (x ∷ left) ≡ one_if (o == k) + from es (length g) k left
  one-less k = sum_by-cons (λ y. one_if (user_of es (length g) y == k)) x left ∙ ap (λ u. one_if (u == k) + from es (length g) k left) is_user

  pub waits-some : 0 < get_or waits o 0
  waits-some =
      let c = so_far.counts o user-in in
      let l = one-less o in
      let e : one_if (o == o) ≡ 1 = ap one_if (same_number o) in
      omega (arith, c, l, e)

  unplaced-user : is_marked placed o ≡ false
  unplaced-user = by_mark (is_marked placed o) refl
    where
      by_mark : (b : Bool) → is_marked placed o ≡ b → b ≡ false
      by_mark false h = refl
      by_mark true h = let z = so_far.past o user-in h in let w = waits-some in absurd (omega (arith, z, w))

  -- It isn't among the ready ones.
  not-ready : ¬ Contains (row rows (length g)) o
  not-ready has =
      let p = passes (λ i. (i < length g) × (is_marked placed i ≡ false) × (get_or waits i 0 ≡ 0)) (row rows (length g)) o so_far.only has in
      let z = p.2 in let w = waits-some in omega (arith, z, w)

  pub user-free : IsFree rows o
  user-free j has = elim (below-or-not j (length g)) [
    | inl less ↦ (let p = passes (IsEdgeNode (length g) (length es)) (row rows j) o (so_far.within j less) has in let a = p.0 in let b = user-in in omega (arith, a, b))
    | inr most ↦ elim (eqb_tells j (length g)) [
      | inl s ↦ not-ready (subst (λ k. Contains (row rows k) o) s.1 has)
      | inr s ↦ empty-has (row rows j) o (get_or_past rows.lists j [] (let a = so_far.lists in let differ = s.1 in elim (below-or-not (length g) j) [ inl above ↦ omega (arith, a, above) | inr below ↦ absurd (differ (omega (arith, most, below))) ])) has
    ]
  ]

  abbrev lowered : List ℕ
  lowered = set waits o (get_or waits o 0 - 1)

  at-user : get_or lowered o 0 ≡ get_or waits o 0 - 1
  at-user = get_or-set_same waits o (get_or waits o 0 - 1) 0 (let a = so_far.size in let b = user-in in omega (arith, a, b))

  at-other : (k : ℕ) → o ≢ k → get_or lowered k 0 ≡ get_or waits k 0
  at-other k differ = get_or-set_other waits o k (get_or waits o 0 - 1) 0 (λ e. differ (sym e))

  abbrev tells-ready : Bool → NodeLists
  tells-ready b = cond b (with_row rows (length g) (row rows (length g) ++ o ∷ [])) rows

  ready-in : length g < length rows.lists
  ready-in = let a = so_far.lists in omega (arith, a)

  pub same-users : (b : Bool) (j : ℕ) → j < length g → row (tells-ready b) j ≡ row rows j
  same-users true j less = row-other rows (length g) j (row rows (length g) ++ o ∷ []) (λ e. omega (arith, e, less))
  same-users false j less = refl

  same-lists : (b : Bool) → length (tells-ready b).lists ≡ length rows.lists
  same-lists true = length-set rows.lists (length g) (row rows (length g) ++ o ∷ [])
  same-lists false = refl

  same-nodes : (b : Bool) → (tells-ready b).nodes ≡ rows.nodes
  same-nodes true = refl
  same-nodes false = refl

  counts-told : (k : ℕ) → k < length g → (((o == k) ≡ true) × (o ≡ k)) ⊎ (((o == k) ≡ false) × (o ≢ k)) → get_or lowered k 0 ≡ unplaced placed (edges g k) + from es (length g) k left
  counts-told k less (inl s) = subst (λ m. get_or lowered m 0 ≡ unplaced placed (edges g m) + from es (length g) m left) s.1
      (let c = so_far.counts o user-in in
      let l = one-less o in
      let e : one_if (o == o) ≡ 1 = ap one_if (same_number o) in
      let a = at-user in
      omega (arith, c, l, e, a))
  counts-told k less (inr s) =
      let c = so_far.counts k less in
      let l = one-less k in
      let e : one_if (o == k) ≡ 0 = ap one_if s.0 in
      let a = at-other k s.1 in
      omega (arith, c, l, e, a)

  differs : (k : ℕ) → get_or waits k 0 ≡ 0 → o ≢ k
  differs k none e = let w = waits-some in let z : get_or waits o 0 ≡ get_or waits k 0 = ap (λ m. get_or waits m 0) e in omega (arith, w, z, none)

  old-ready : All (λ y. (y < length g) × (is_marked placed y ≡ false) × (get_or lowered y 0 ≡ 0)) (row rows (length g))
  old-ready k d less = let w = so_far.only k d less in (w.0, w.1, at-other (get_or (row rows (length g)) k d) (differs (get_or (row rows (length g)) k d) w.2) ∙ w.2)

  only-told : (b : Bool) → nat_eq (get_or waits o 0 - 1) 0 ≡ b → All (λ y. (y < length g) × (is_marked placed y ≡ false) × (get_or lowered y 0 ≡ 0)) (row (tells-ready b) (length g))
  only-told true h = subst (All (λ y. (y < length g) × (is_marked placed y ≡ false) × (get_or lowered y 0 ≡ 0))) (sym (row-same rows (length g) (row rows (length g) ++ o ∷ []) ready-in))
      (All-push (λ y. (y < length g) × (is_marked placed y ≡ false) × (get_or lowered y 0 ≡ 0)) (row rows (length g)) o old-ready (user-in, unplaced-user, at-user ∙ equal (get_or waits o 0 - 1) 0 h))
  only-told false h = old-ready

  all-told : (b : Bool) → nat_eq (get_or waits o 0 - 1) 0 ≡ b → (y : ℕ) → y < length g → is_marked placed y ≡ false → get_or lowered y 0 ≡ 0
      → (((o == y) ≡ true) × (o ≡ y)) ⊎ (((o == y) ≡ false) × (o ≢ y)) → Contains (row (tells-ready b) (length g)) y
  all-told true h y less new none (inl s) = subst (λ xs. Contains xs y) (sym (row-same rows (length g) (row rows (length g) ++ o ∷ []) ready-in))
      (Contains-append_right (row rows (length g)) (o ∷ []) y (0, omega arith, s.1))
  all-told true h y less new none (inr s) = subst (λ xs. Contains xs y) (sym (row-same rows (length g) (row rows (length g) ++ o ∷ []) ready-in))
      (Contains-append_left (row rows (length g)) (o ∷ []) y (so_far.all y less new (sym (at-other y s.1) ∙ none)))
  all-told false h y less new none (inl s) = absurd (false≢true (sym h ∙ ap (λ k. nat_eq k 0) (sym at-user ∙ ap (λ m. get_or lowered m 0) s.1 ∙ none)))
  all-told false h y less new none (inr s) = so_far.all y less new (sym (at-other y s.1) ∙ none)

  waits-case : (b : Bool) → nat_eq (get_or waits o 0 - 1) 0 ≡ b → Waits g es placed lowered (tells-ready b) left
  waits-case b h = record {
    lists = same-lists b ∙ so_far.lists;
    nodes = same-nodes b ∙ so_far.nodes;
    size = length-set waits o (get_or waits o 0 - 1) ∙ so_far.size;
    marks = so_far.marks;
    users = so_far.users;
    within = λ j less. subst (All (IsEdgeNode (length g) (length es))) (sym (same-users b j less)) (so_far.within j less);
    told = λ k j k_less less new. ap (from es (length g) k) (same-users b j less) ∙ so_far.told k j k_less less new;
    counts = λ k less. counts-told k less (eqb_tells o k);
    past = λ k less h. let z = so_far.past k less h in at-other k (differs k z) ∙ z;
    only = only-told b h;
    all = λ y less new none. all-told b h y less new none (eqb_tells o y);
  }

  pub waits-tell : Waits g es placed (set waits o (get_or waits o 0 - 1)) (cond (nat_eq (get_or waits o 0 - 1) 0) (with_row rows (length g) (row rows (length g) ++ o ∷ [])) rows) left
  waits-tell = waits-case (nat_eq (get_or waits o 0 - 1) 0) refl

-- The first node of a list, as it is taken out.
pub head-row : (xs : List ℕ) (x : ℕ) → Some x ≡ slice_get xs 0 → xs ≡ x ∷ drop 1 xs
head-row [] x e = absurd (none-some x (sym e))
head-row (y ∷ ys) x e = ap (λ z. z ∷ ys) (same_Some y x (sym e))

-- The first edge of the list of a placed number is there to tell.
pub begin-telling : (g : List (List ℕ)) (es : List Edge) (placed : List Bool) (waits : List ℕ) (rows next : NodeLists) (i x : ℕ)
    → Waits g es placed waits rows (row rows i) → i < length g → is_marked placed i ≡ true → Some x ≡ slice_get (row rows i) 0 → next ≡ with_row rows i (drop 1 (row rows i))
    → Waits g es placed waits next (x ∷ row next i) × IsEdgeNode (length g) (length es) x
begin-telling g es placed waits rows next i x w inside is_placed answer is =
    let rest = drop 1 (row rows i) in
    let first = head-row (row rows i) x answer in
    let so_far = subst (Waits g es placed waits rows) first w in
    let list_in : i < length rows.lists = (let a = w.lists in omega (arith, a, inside)) in (
      subst (λ v. Waits g es placed waits v (x ∷ row v i)) (sym is)
          (subst (λ xs. Waits g es placed waits (with_row rows i rest) (x ∷ xs)) (sym (row-same rows i rest list_in)) (waits-taken g es placed waits rows (x ∷ rest) so_far i x rest inside is_placed first)),
      first-node g es placed waits rows (x ∷ rest) so_far i x rest inside is_placed first,
    )

-- And it is told.
pub end-telling : (g : List (List ℕ)) (es : List Edge) (placed : List Bool) (waits fewer_waits : List ℕ) (rows next : NodeLists) (i x o : ℕ) (b : Bool)
    → Waits g es placed waits rows (x ∷ row rows i) → IsEdgeNode (length g) (length es) x → i < length g → user_of es (length g) x ≡ o
    → b ≡ nat_eq (get_or waits o 0 - 1) 0 → fewer_waits ≡ set waits o (get_or waits o 0 - 1) → next ≡ cond b (with_row rows (length g) (row rows (length g) ++ o ∷ [])) rows
    → Waits g es placed fewer_waits next (row next i)
end-telling g es placed waits fewer_waits rows next i x o b w edge inside is_user answer is_lowered is =
    let done = waits-tell g es placed waits rows x (row rows i) w edge o is_user in
    let same = same-users g es placed waits rows x (row rows i) w edge o is_user (nat_eq (get_or waits o 0 - 1) 0) i inside in
    let e = is ∙ ap (λ t. cond t (with_row rows (length g) (row rows (length g) ++ o ∷ [])) rows) answer in
    subst (λ ws. Waits g es placed ws next (row next i)) (sym is_lowered)
    (subst (λ v. Waits g es placed (set waits o (get_or waits o 0 - 1)) v (row v i)) (sym e)
    (subst (Waits g es placed (set waits o (get_or waits o 0 - 1)) (cond (nat_eq (get_or waits o 0 - 1) 0) (with_row rows (length g) (row rows (length g) ++ o ∷ [])) rows)) (sym same) done))

-- A list without a first node is empty.
pub no-first : (o : Option ℕ) (xs : List ℕ) → ((x : ℕ) → o ≡ Some x → ⊥) → o ≡ slice_get xs 0 → xs ≡ []
no-first o [] none e = refl
no-first o (x ∷ xs) none e = absurd (none x e)

-- Nothing is taken out of an empty list.
pub unchanged : (rows next : NodeLists) (i : ℕ) → row rows i ≡ [] → next ≡ with_row rows i (drop 1 (row rows i)) → next ≡ rows
unchanged rows next i none is =
    is ∙ ap (λ xs. with_row rows i (drop 1 xs)) none ∙ ap (λ xs. with_row rows i xs) (sym none)
    ∙ ap (λ ls. record { lists = ls; nodes = rows.nodes }) (set-get_or rows.lists i [])

pub none-first : (xs : List ℕ) → None ≡ slice_get xs 0 → xs ≡ []
none-first [] e = refl
none-first (x ∷ xs) e = absurd (none-some x e)
