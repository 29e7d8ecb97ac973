-- Sums over events by urgency are within sums over all events, so that none stands twice in their order.
use Rattle.std.proofs.Common.{◌≡◌, ℕ, zero, suc, ◌+◌, ◌<◌, ◌≤◌, ◌==◌, Bool, true, false, cond, not, List, [], ◌∷◌, length, filter, reverse, slice_get, sum_by, Option, Some, None, refl, sym, ap, subst, ◌∙◌, arith, inl, inr}
use Rattle.std.specs.Prelude.{nat_le}
use Rattle.std.specs.List.{AllByRecursion, range_with_len}
use Rattle.std.proofs.lemmas.Bool.{cases_lt, ne_eqb}
use Rattle.std.proofs.lemmas.Bool.Decides.{nat_tests}
use Rattle.std.proofs.lemmas.List.{reverse-append}
use Rattle.std.proofs.lemmas.List.Filters.{sum_by-filter_both}
use Rattle.std.proofs.lemmas.List.Sums.{sum_by-append, sum_by-cons, sum_by_push}
use Rattle.frp_tree.specs.declared.syntax.Event.{Event}
use Rattle.frp_tree.specs.Tree.{ProgramTree}
use Rattle.efrp_meaning.specs.Bounds.{levels}
use Rattle.efrp_types.specs.Numbers.{event_name}
use Rattle.priority_masks.specs.Levels.{level_of}
use Rattle.isr_vector.specs.Urgency.{by_urgency, events_at, events_down}
use Rattle.isr_vector.proofs.ListLaws.{all_of_both}

-- Level by level.
sum_if : (g : ℕ → ℕ) (b : Bool) (x : ℕ) (xs : List ℕ) → sum_by g (cond b (x ∷ xs) xs) ≡ cond b (g x) 0 + sum_by g xs
sum_if g true x xs = sum_by-cons g x xs
sum_if g false x xs = omega arith

one_of : (own m k : ℕ) → cond (m == suc k) own 0 + cond (nat_le m k) own 0 ≤ cond (nat_le m (suc k)) own 0
one_of own m k = grind (arith, nat_tests)

module _ (p : ProgramTree) (g : ℕ → ℕ) where
  level_more : (k : ℕ) (es : List ℕ)
      → sum_by g (filter (λ e. level_of p e == suc k) es) + sum_by g (filter (λ e. nat_le (level_of p e) k) es) ≤ sum_by g (filter (λ e. nat_le (level_of p e) (suc k)) es)
  level_more k [] = omega arith
  level_more k (e ∷ es) =
      let rest = level_more k es in
      let own = one_of (g e) (level_of p e) k in
      let at = sum_if g (level_of p e == suc k) e (filter (λ e. level_of p e == suc k) es) in
      let under = sum_if g (nat_le (level_of p e) k) e (filter (λ e. nat_le (level_of p e) k) es) in
      let both = sum_if g (nat_le (level_of p e) (suc k)) e (filter (λ e. nat_le (level_of p e) (suc k)) es) in
      omega (arith, rest, own, at, under, both)

  down_sum : (k : ℕ) → sum_by g (events_down p k) ≤ sum_by g (filter (λ e. nat_le (level_of p e) k) (range_with_len 0 (length p.events)))
  down_sum zero = omega arith
  down_sum (suc k) =
      let under = down_sum k in
      let more = level_more k (range_with_len 0 (length p.events)) in
      let all = sum_by-append g (events_at p (suc k)) (events_down p k) in
      omega (arith, under, more, all)

  pub order-sum : sum_by g (by_urgency p) ≤ sum_by g (range_with_len 0 (length p.events))
  order-sum =
      let few = down_sum (levels p) in
      let test = λ (e : ℕ). nat_le (level_of p e) (levels p) in
      let whole = sum_by-filter_both test (λ e. not (test e)) (λ e. refl) g (range_with_len 0 (length p.events)) in
      omega (arith, few, whole)

-- Turned round, a list has the same sum, and what holds of all holds of all.
pub reverse-sum : (g : ℕ → ℕ) (xs : List ℕ) → sum_by g (reverse xs) ≡ sum_by g xs
reverse-sum g [] = refl
reverse-sum g (x ∷ xs) =
    let turned = ap (sum_by g) (reverse-append (x ∷ []) xs) in
    let last = sum_by_push g (reverse xs) x in
    let first = sum_by-cons g x xs in
    let rest = reverse-sum g xs in
    omega (arith, turned, last, first, rest)

pub reverse-all : (P : ℕ → Type 0) (xs : List ℕ) → AllByRecursion P xs → AllByRecursion P (reverse xs)
reverse-all P [] all = tt
reverse-all P (x ∷ xs) all = subst (AllByRecursion P) (sym (reverse-append (x ∷ []) xs)) (all_of_both P (reverse xs) x (reverse-all P xs all.1) all.0)

-- The sum over a range is that over what stands there.
range_sum : (g : ℕ → ℕ) (h : Event → ℕ) (k : ℕ) (es : List Event) → ((i : ℕ) (e : Event) → slice_get es i ≡ Some e → g (k + i) ≡ h e)
    → sum_by g (range_with_len k (length es)) ≡ sum_by h es
range_sum g h k [] same = refl
range_sum g h k (e ∷ es) same =
    let here : k ≡ k + 0 = omega arith in
    let own : g k ≡ h e = ap g here ∙ same 0 e refl in
    let onward : (i : ℕ) → k + 1 + i ≡ k + suc i = λ i. omega arith in
    let rest = range_sum g h (k + 1) es (λ i x there. ap g (onward i) ∙ same (suc i) x there) in
    let first = sum_by-cons g k (range_with_len (k + 1) (length es)) in
    let all = sum_by-cons h e es in
    omega (arith, own, rest, first, all)

pub events-sum : (p : ProgramTree) (h : List ℕ → ℕ) → sum_by (λ e. h (event_name p e)) (range_with_len 0 (length p.events)) ≡ sum_by (λ (e : Event). h e.name) p.events
events-sum p h =
    range_sum (λ e. h (event_name p e)) (λ (e : Event). h e.name) 0 p.events (λ i e there.
    let at : 0 + i ≡ i = omega arith in
    ap (λ n. h (event_name p n)) at ∙ ap (λ (o : Option Event). h (elim o [ Some e ↦ e.name | None ↦ [] ])) there)

-- A number stands in a range once at most.
abbrev pub is_it : (x : ℕ) → ℕ → ℕ
is_it x e = cond (e == x) 1 0

one_at : (x a : ℕ) → is_it x a ≤ 1
one_at x a = grind (arith, nat_tests)

none_at : (x a : ℕ) → (a ≡ x → ⊥) → is_it x a ≡ 0
none_at x a differ = ap (λ (b : Bool). cond b 1 0) (ne_eqb a x differ)

-- It isn't in a range that begins behind it.
none_before : (x a n : ℕ) → x < a → sum_by (is_it x) (range_with_len a n) ≡ 0
none_before x a zero less = refl
none_before x a (suc n) less =
    let own = none_at x a (λ same. omega (arith, same, less)) in
    let rest = none_before x (a + 1) n (omega (arith, less)) in
    let first = sum_by-cons (is_it x) a (range_with_len (a + 1) n) in
    omega (arith, own, rest, first)

range_once : (x a n : ℕ) → sum_by (is_it x) (range_with_len a n) ≤ 1
range_once x a zero = omega arith
range_once x a (suc n) =
    let first = sum_by-cons (is_it x) a (range_with_len (a + 1) n) in
    let most = one_at x a in
    let rest = range_once x (a + 1) n in
    elim (cases_lt x (a + 1)) [
      | inl less ↦ let later = none_before x (a + 1) n less in omega (arith, first, most, later)
      | inr past ↦ let own = none_at x a (λ same. omega (arith, same, past)) in omega (arith, first, own, rest)
    ]

pub once-in-order : (p : ProgramTree) (x : ℕ) → sum_by (is_it x) (by_urgency p) ≤ 1
once-in-order p x = let within = order-sum p (is_it x) in let once = range_once x 0 (length p.events) in omega (arith, within, once)
