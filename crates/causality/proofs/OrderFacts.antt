-- What the order of a graph, a graph that has none, and its first number that leads to itself say of the program.
use Rattle.std.specs.Prelude.{◌≡◌, ◌≢◌, ℕ, ◌<◌, ◌≤◌, suc, zero, ◌⊎◌, Bool, true, false, ◌||◌, ◌&&◌, ◌==◌, List, [], ◌∷◌, ◌++◌, length, take, drop, get_or, slice_get, Some, None, refl, if◌then◌else◌}
use Rattle.std.specs.List.{All, AllByRecursion, list_any, list_all}
use Rattle.std.specs.Str.{bytes_eq}
use Rattle.std.proofs.Common.{sym, ap, subst, ◌∙◌, arith}
use Rattle.std.proofs.Math.Seq.{get_or-append_seam, take-append_seam}
use Rattle.std.proofs.lemmas.Bool.{false≢true}
use Rattle.std.proofs.lemmas.List.{length-map, length-append, get_or_past}
use Rattle.std.proofs.lemmas.List.Folds.{list_any_at}
use Rattle.std.proofs.lemmas.Option.{none-some, slice_get_within, slice_get_cases}
use Rattle.std.proofs.lemmas.Slice.Eq.{bytes_eq-Decides}
use mathlib.Core.Logic.{inl, inr}
use Rattle.frp_tree.specs.Tree.{DeclTree, ProgramTree}
use Rattle.efrp_meaning.specs.Causal.{DependsOn, IsCausalOn}
use Rattle.efrp_meaning.proofs.CycleLaws.{leads-round}
use Rattle.efrp_types.specs.NameFaults.{name_faults}
use Rattle.causality.specs.Graphs.{edges_on, graph_on, has, edges, IsRound, IsFirstRound, IsGraph, is_marked, IsStuck, IsSorted}
use Rattle.causality.specs.Orders.{IsOrder, DependsOnItself, IsFirstOn}
use Rattle.causality.proofs.GraphFacts.{has-passes, one-fails, same_number}
use Rattle.causality.proofs.NumberFacts.{same_bytes, known-numbered, depends-known}
use Rattle.causality.proofs.BridgeFacts.{edge-to, edge-from, round-to, round-from, itself-known, own-numbered}
use Rattle.causality.proofs.ChoiceFacts.{or-right}

-- A definition, or none past the last.
at-or-past : (ds : List DeclTree) (i : ℕ) → ((d : DeclTree) × (slice_get ds i ≡ Some d)) ⊎ (length ds ≤ i)
at-or-past ds i = by_case (slice_get_cases ds i).1
  where
    by_case : ((d : DeclTree) × (i < length ds) × (slice_get ds i ≡ Some d) × (get_or ds i d ≡ d)) ⊎ ((length ds ≤ i) × (slice_get ds i ≡ None))
        → ((d : DeclTree) × (slice_get ds i ≡ Some d)) ⊎ (length ds ≤ i)
    by_case (inl w) = inl (w.0, w.2)
    by_case (inr w) = inr w.0

each-number : (most : ℕ) (ns : List ℕ) → All (λ n. n < most) ns → AllByRecursion (λ n. n < most) ns
each-number most [] all = tt
each-number most (n ∷ ns) all = (all 0 n (omega arith), each-number most ns (λ k d less. all (suc k) d (omega (arith, less))))

-- A row is what stands before a place, what stands there, and what stands behind it.
pub split-at : {A : Type 0} (xs : List A) (i : ℕ) (x : A) → slice_get xs i ≡ Some x → xs ≡ take i xs ++ x ∷ drop (suc i) xs
split-at [] i x e = absurd (none-some x e)
split-at (y ∷ ys) zero x e = ap (λ z. z ∷ ys) (ap (λ o. elim o [ Some k ↦ k | None ↦ y ]) e)
split-at (y ∷ ys) (suc i) x e = ap (λ zs. y ∷ zs) (split-at ys i x e)

before-place : {A : Type 0} (P : A → Type 0) (xs : List A) (i : ℕ) → ((k : ℕ) (x : A) → k < i → slice_get xs k ≡ Some x → P x) → AllByRecursion P (take i xs)
before-place P xs zero each = tt
before-place P [] (suc i) each = tt
before-place P (x ∷ xs) (suc i) each = (each 0 x (omega arith) refl, before-place P xs i (λ k y less e. each (suc k) y (omega (arith, less)) e))

-- The names of those that aren't placed.
left_over : List DeclTree → List Bool → List (List ℕ)
left_over [] bs = []
left_over (d ∷ ds) [] = []
left_over (d ∷ ds) (b ∷ bs) = if b then left_over ds bs else d.name ∷ left_over ds bs

left-in : (ds : List DeclTree) (bs : List Bool) (i : ℕ) (d : DeclTree) → slice_get ds i ≡ Some d → length bs ≡ length ds → is_marked bs i ≡ false → list_any (bytes_eq d.name) (left_over ds bs) ≡ true
unfolding left_over
left-in [] bs i d e same new = absurd (none-some d e)
left-in (c ∷ cs) [] i d e same new = absurd (omega (arith, same))
left-in (c ∷ cs) (b ∷ bs) zero d e same new =
    ap (λ b. list_any (bytes_eq d.name) (if b then left_over cs bs else c.name ∷ left_over cs bs)) new
    ∙ ap (λ b. b || list_any (bytes_eq d.name) (left_over cs bs)) (ap (λ (k : DeclTree). bytes_eq d.name k.name) (ap (λ o. elim o [ Some k ↦ k | None ↦ c ]) e) ∙ same_bytes d.name)
left-in (c ∷ cs) (b ∷ bs) (suc i) d e same new = by_mark b (left-in cs bs i d e (omega (arith, same)) new)
  where
    by_mark : (b : Bool) → list_any (bytes_eq d.name) (left_over cs bs) ≡ true → list_any (bytes_eq d.name) (if b then left_over cs bs else c.name ∷ left_over cs bs) ≡ true
    by_mark true h = h
    by_mark false h = or-right (bytes_eq d.name c.name) (list_any (bytes_eq d.name) (left_over cs bs)) h

-- The place of a definition that isn't placed.
record LeftAt (ds : List DeclTree) (bs : List Bool) (x : List ℕ) : Type 0 where
  place : ℕ
  decl : DeclTree
  at : slice_get ds place ≡ Some decl
  new : is_marked bs place ≡ false
  same : bytes_eq x decl.name ≡ true

left-out : (ds : List DeclTree) (bs : List Bool) (x : List ℕ) → list_any (bytes_eq x) (left_over ds bs) ≡ true → LeftAt ds bs x
unfolding left_over
left-out [] bs x h = absurd (false≢true h)
left-out (c ∷ cs) [] x h = absurd (false≢true h)
left-out (c ∷ cs) (b ∷ bs) x h = by_mark b h (left-out cs bs x)
  where
    later : (b : Bool) → LeftAt cs bs x → LeftAt (c ∷ cs) (b ∷ bs) x
    later b l = record { place = suc l.place; decl = l.decl; at = l.at; new = l.new; same = l.same }

    by_name : (k : Bool) → bytes_eq x c.name ≡ k → (k || list_any (bytes_eq x) (left_over cs bs)) ≡ true → (list_any (bytes_eq x) (left_over cs bs) ≡ true → LeftAt cs bs x) → LeftAt (c ∷ cs) (false ∷ bs) x
    by_name true e g rest = record { place = 0; decl = c; at = refl; new = refl; same = e }
    by_name false e g rest = later false (rest g)

    by_mark : (b : Bool) → list_any (bytes_eq x) (if b then left_over cs bs else c.name ∷ left_over cs bs) ≡ true → (list_any (bytes_eq x) (left_over cs bs) ≡ true → LeftAt cs bs x) → LeftAt (c ∷ cs) (b ∷ bs) x
    by_mark true g rest = later true (rest g)
    by_mark false g rest = by_name (bytes_eq x c.name) refl g rest

-- Where not all are placed, one isn't.
one-left : (bs : List Bool) → list_all (λ b. b) bs ≡ false → (i : ℕ) × (i < length bs) × (is_marked bs i ≡ false)
one-left [] h = absurd (false≢true (sym h))
one-left (b ∷ bs) h = by_mark b h (one-left bs)
  where
    by_mark : (b : Bool) → (b && list_all (λ b. b) bs) ≡ false → (list_all (λ b. b) bs ≡ false → (i : ℕ) × (i < length bs) × (is_marked bs i ≡ false))
        → (i : ℕ) × (i < length (b ∷ bs)) × (is_marked (b ∷ bs) i ≡ false)
    by_mark true g rest = let found = rest g in (suc found.0, (let less = found.1 in omega (arith, less)), found.2)
    by_mark false g rest = (0, omega arith, refl)

module _ (p : ProgramTree) (event : List ℕ) (names : name_faults p ≡ []) where
  abbrev graph : List (List ℕ)
  graph = graph_on p event

  size : length graph ≡ length p.decls
  size = length-map p.decls (edges_on p event)

  -- All of its edges are to its own numbers.
  pub is-graph : IsGraph graph
  is-graph i k d less = by_place (at-or-past p.decls i)
    where
      by_place : ((c : DeclTree) × (slice_get p.decls i ≡ Some c)) ⊎ (length p.decls ≤ i) → get_or (edges graph i) k d < length graph
      by_place (inl at) =
          let edge = list_any_at (λ m. m == get_or (edges graph i) k d) (edges graph i) k d less (same_number (get_or (edges graph i) k d)) in
          let to = edge-to p event at.0.name i (get_or (edges graph i) k d) (own-numbered p event names i at.0 at.1) edge in
          let inside = slice_get_within p.decls (get_or (edges graph i) k d) to.1.decl to.1.at in
          omega (arith, inside, size)
      by_place (inr most) =
          let none : length (edges graph i) ≡ 0 = ap length (get_or_past graph i [] (omega (arith, most, size))) in
          absurd (omega (arith, none, less))

  pub is-order : (order : List ℕ) → IsSorted graph order → IsOrder p event order
  is-order order its = record {
    once = λ n less. its.once n (omega (arith, less, size));
    within = each-number (length p.decls) order (subst (λ most. All (λ n. n < most) order) size its.within);
    behind = λ front rest i d e at y depends.
        let k-less : length front < length order = (let l = length-append front (i ∷ rest) in let whole = ap length e in omega (arith, l, whole)) in
        let stands = subst (λ ns. list_all (has (take (length front) ns)) (edges graph (get_or ns (length front) 0)) ≡ true) e (its.before (length front) k-less) in
        let before = ap (λ ns. list_all (has front) (edges graph ns)) (sym (get_or-append_seam front i rest 0))
        ∙ ap (λ ns. list_all (has ns) (edges graph (get_or (front ++ i ∷ rest) (length front) 0))) (sym (take-append_seam front (i ∷ rest))) ∙ stands in
        let to = known-numbered p y (depends-known p names event d.name y depends).1 in
        let edge = edge-from p event d.name y i to.0 (own-numbered p event names i d at) depends to.1 in
        ap (λ o. elim o [ Some n ↦ has front n | None ↦ false ]) to.1.number ∙ has-passes (has front) to.0 (edges graph i) before edge;
  }

  pub sorted-is-causal : (order : List ℕ) → IsSorted graph order → IsCausalOn p event
  sorted-is-causal order its x others path =
      let known = known-numbered p x (itself-known p event names x (others, path)) in
      its.no_round known.0 (round-from p event names x known.0 known.1 (others, path))

  -- A graph that is stuck has a number that leads to itself.
  pub stuck-has-round : IsStuck graph → (x : ℕ) × (x < length graph) × IsRound graph x
  stuck-has-round stuck =
      let round = leads-round p event (left_over p.decls stuck.placed) some next in
      let known = known-numbered p round.0 (itself-known p event names round.0 (round.1, round.2)) in
      let inside = slice_get_within p.decls known.0 known.1.decl known.1.at in
      (known.0, omega (arith, inside, size), round-from p event names round.0 known.0 known.1 (round.1, round.2))
    where
      same-size : length stuck.placed ≡ length p.decls
      same-size = stuck.len ∙ size

      some : left_over p.decls stuck.placed ≢ []
      some e =
          let one = one-left stuck.placed stuck.left in
          by_place one.0 one.1 one.2 (at-or-past p.decls one.0)
        where
          by_place : (i : ℕ) → i < length stuck.placed → is_marked stuck.placed i ≡ false → ((c : DeclTree) × (slice_get p.decls i ≡ Some c)) ⊎ (length p.decls ≤ i) → ⊥
          by_place i less new (inl at) = false≢true (sym (ap (list_any (bytes_eq at.0.name)) e) ∙ left-in p.decls stuck.placed i at.0 at.1 same-size new)
          by_place i less new (inr most) = omega (arith, less, most, same-size)

      next : (x : List ℕ) → list_any (bytes_eq x) (left_over p.decls stuck.placed) ≡ true → (y : List ℕ) × (list_any (bytes_eq y) (left_over p.decls stuck.placed) ≡ true) × DependsOn p event x y
      next x inside =
          let l = left-out p.decls stuck.placed x inside in
          let less = slice_get_within p.decls l.place l.decl l.at in
          let fails = one-fails (is_marked stuck.placed) (edges graph l.place) (stuck.waits l.place (omega (arith, less, size)) l.new) in
          let to = edge-to p event l.decl.name l.place fails.0 (own-numbered p event names l.place l.decl l.at) fails.1 in
          let its = left-in p.decls stuck.placed fails.0 to.1.decl to.1.at same-size fails.2 in (
            to.0,
            subst (λ n. list_any (bytes_eq n) (left_over p.decls stuck.placed) ≡ true) (sym to.1.name) its,
            subst (λ n. DependsOn p event n to.0) (sym ((bytes_eq-Decides x l.decl.name).0 l.same)) to.2,
          )

  pub is-first-on : (i : ℕ) (d : DeclTree) → IsFirstRound graph i → slice_get p.decls i ≡ Some d → IsFirstOn p event d.name
  is-first-on i d first at = (
    take i p.decls,
    drop (suc i) p.decls,
    d,
    split-at p.decls i d at,
    refl,
    round-to p event d.name i (own-numbered p event names i d at) first.round,
    before-place (λ (c : DeclTree). ¬ DependsOnItself p event c.name) p.decls i (λ k c less e itself.
        first.first k less (round-from p event names c.name k (own-numbered p event names k c e) itself)),
  )
