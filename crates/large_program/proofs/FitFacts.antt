-- Each large program fits the chip by its bounds: what its clauses weigh, summed over the events that they are for.
use Rattle.std.proofs.Common.{◌≡◌, ℕ, zero, suc, ◌+◌, ◌*◌, ◌==◌, ◌<◌, ◌≤◌, Bool, true, false, if◌then◌else◌, cond, List, [], ◌∷◌, ◌++◌, map, sum_by, Option, Some, None, refl, ap, sym, subst, ◌∙◌, arith}
use Rattle.std.specs.Fmt.{digits}
use Rattle.std.specs.List.{flat_map, range_with_len}
use Rattle.std.specs.Str.{bytes_eq}
use Rattle.std.proofs.lemmas.Bool.{agree_below_at, eqb-true}
use Rattle.std.proofs.lemmas.List.Sums.{sum_by-append, sum_by-cons}
use Rattle.frp_tree.specs.declared.syntax.Ty.{Ty}
use Rattle.frp_tree.specs.declared.syntax.Ty.TheVariants.{U8, U16}
use Rattle.frp_tree.specs.declared.syntax.Event.{Event}
use Rattle.frp_tree.specs.declared.syntax.BinOp.{BinOp}
use Rattle.frp_tree.specs.declared.syntax.BinOp.TheVariants.{Add, BitXor, Lt, Sub}
use Rattle.frp_tree.specs.Tree.{Tree, Name, ClauseTree, DeclTree}
use Rattle.efrp_meaning.specs.Types.{binary_type, if_type}
use Rattle.efrp_meaning.specs.Needs.{expression_of, reacting_expression}
use Rattle.efrp_meaning.specs.Bounds.{binary_weight, by_width, weight, result_bytes, body, scratch_bytes, greatest}
use Rattle.large_program.specs.Draws.{after_draws, draw}
use Rattle.large_program.specs.LargePrograms.{event_name, definition_name, expression, clause, first_event, second_event, definition, nth_definition, large_program}
use Rattle.large_program.specs.Laws.{LargeFits}
use Rattle.large_program.proofs.PassFacts.{by_form, first_below, second_below, typed, even, own_type, other_type, number_type_is}

-- The weight of an expression and the bytes of its results, by the types of its parts: 68 and 6 at most for a u8, 144 and 11 for a
-- u16.
abbrev cost : ℕ → ℕ → ℕ → ℕ
cost narrow wide i = if even i then narrow else wide

abbrev name_weight : Option Ty → ℕ
name_weight x = by_width x 6 12

abbrev number_weight : Option Ty → ℕ
number_weight y = by_width y 4 8

abbrev two_weight : BinOp → Option Ty → Option Ty → ℕ
two_weight op x y = binary_weight op x + (name_weight x + number_weight y)

abbrev names_weight : Option Ty → Option Ty → ℕ
names_weight x z = binary_weight BitXor x + (name_weight x + name_weight z)

abbrev three_weight : Option Ty → Option Ty → Option Ty → ℕ
three_weight x z y = by_width z 24 40 + (two_weight Lt x y + (name_weight z + number_weight y))

abbrev bytes : Option Ty → ℕ
bytes x = by_width x 1 2

abbrev two_bytes : BinOp → Option Ty → Option Ty → ℕ
two_bytes op x y = bytes (binary_type op x y) + (bytes x + bytes y)

abbrev three_bytes : Option Ty → Option Ty → Option Ty → ℕ
three_bytes x z y = bytes (if_type (binary_type Lt x y) z y) + (two_bytes Lt x y + (bytes z + bytes y))

few_at : (F : Option Ty → Option Ty → Option Ty → ℕ) (x z y : Option Ty) (b : Bool) (narrow wide : ℕ) → x ≡ Some (typed b) → z ≡ Some (typed b) → y ≡ Some (typed b)
    → F (Some U8) (Some U8) (Some U8) ≤ narrow → F (Some U16) (Some U16) (Some U16) ≤ wide → F x z y ≤ (if b then narrow else wide)
few_at F x z y b narrow wide e f g h k = subst (λ (m : ℕ). m ≤ (if b then narrow else wide)) (sym (ap (λ o. F o z y) e ∙ ap (λ o. F (Some (typed b)) o y) f ∙ ap (λ o. F (Some (typed b)) (Some (typed b)) o) g)) (by b h k)
  where
    by : (b : Bool) → F (Some U8) (Some U8) (Some U8) ≤ narrow → F (Some U16) (Some U16) (Some U16) ≤ wide → F (Some (typed b)) (Some (typed b)) (Some (typed b)) ≤ (if b then narrow else wide)
    by true h k = h
    by false h k = k

weighs : (n i form k : ℕ) → i < 12 → k ≤ 255 → weight (large_program n) (expression i form k) ≤ cost 68 144 i
weighs n i form k below few =
    let own = own_type n i below in
    let other = other_type n i below in
    let number = number_type_is i k few in
    by_form (λ e. weight (large_program n) e ≤ cost 68 144 i) i form k
    (few_at (λ x z y. two_weight Add x y) _ _ _ (even i) 68 144 own other number (omega arith) (omega arith))
    (few_at (λ x z y. names_weight x z) _ _ _ (even i) 68 144 own other number (omega arith) (omega arith))
    (few_at (λ x z y. two_weight Sub x y) _ _ _ (even i) 68 144 own other number (omega arith) (omega arith))
    (few_at three_weight _ _ _ (even i) 68 144 own other number (omega arith) (omega arith))

results : (n i form k : ℕ) → i < 12 → k ≤ 255 → result_bytes (large_program n) (expression i form k) ≤ cost 6 11 i
results n i form k below few =
    let own = own_type n i below in
    let other = other_type n i below in
    let number = number_type_is i k few in
    by_form (λ e. result_bytes (large_program n) e ≤ cost 6 11 i) i form k
    (few_at (λ x z y. two_bytes Add x y) _ _ _ (even i) 6 11 own other number (omega arith) (omega arith))
    (few_at (λ x z y. two_bytes BitXor x z) _ _ _ (even i) 6 11 own other number (omega arith) (omega arith))
    (few_at (λ x z y. two_bytes Sub x y) _ _ _ (even i) 6 11 own other number (omega arith) (omega arith))
    (few_at three_bytes _ _ _ (even i) 6 11 own other number (omega arith) (omega arith))

-- Sums over events.
sum-plus : {A : Type 0} (f g : A → ℕ) (xs : List A) → sum_by (λ (x : A). f x + g x) xs ≡ sum_by f xs + sum_by g xs
sum-plus f g [] = refl
sum-plus f g (x ∷ xs) = omega (arith, sum_by-cons (λ x. f x + g x) x xs, sum_by-cons f x xs, sum_by-cons g x xs, sum-plus f g xs)

sum-less : {A : Type 0} (f g : A → ℕ) → ((x : A) → f x ≤ g x) → (xs : List A) → sum_by f xs ≤ sum_by g xs
sum-less f g each [] = omega arith
sum-less f g each (x ∷ xs) = omega (arith, sum_by-cons f x xs, sum_by-cons g x xs, each x, sum-less f g each xs)

-- What a test lets through once at most adds at most this much.
abbrev where_true : ℕ → Bool → ℕ
where_true most b = if b then most else 0

abbrev events : List Event
events = (large_program 0).events

once : (a : ℕ) → a < 11 → (sum_by (λ (e : Event). where_true 1 (bytes_eq e.name (event_name a))) events == 1) ≡ true
unfolding digits
once a below = agree_below_at (λ k. sum_by (λ (e : Event). where_true 1 (bytes_eq e.name (event_name k))) events == 1) (λ k. true) 11 a refl below

at_once : {A : Type 0} (most : ℕ) (test : A → Bool) (xs : List A) → sum_by (λ (x : A). where_true most (test x)) xs ≡ most * sum_by (λ (x : A). where_true 1 (test x)) xs
at_once most test [] = omega arith
at_once most test (x ∷ xs) =
    sum_by-cons (λ x. where_true most (test x)) x xs
    ∙ by (test x) (sum_by (λ x. where_true most (test x)) xs) (sum_by (λ x. where_true 1 (test x)) xs) (at_once most test xs)
    ∙ ap (λ s. most * s) (sym (sum_by-cons (λ x. where_true 1 (test x)) x xs))
  where
    by : (b : Bool) (s t : ℕ) → s ≡ most * t → where_true most b + s ≡ most * (where_true 1 b + t)
    by true s t h = grind (arith, h)
    by false s t h = omega (arith, h)

most_once : (most a : ℕ) → a < 11 → sum_by (λ (e : Event). where_true most (bytes_eq e.name (event_name a))) events ≡ most
most_once most a below =
    at_once most (λ (e : Event). bytes_eq e.name (event_name a)) events ∙ ap (λ s. most * s) (eqb-true _ 1 (once a below)) ∙ one most
  where
    one : (m : ℕ) → m * 1 ≡ m
    one m = omega arith

-- What a definition adds to an event, and to all of them.
abbrev adds : (Tree → ℕ) → DeclTree → Event → ℕ
adds f d e = sum_by f (reacting_expression e.name d.behaviour)

abbrev adds_most : ℕ → ℕ → ℕ → Event → ℕ
adds_most most a b e = where_true most (bytes_eq e.name (event_name a)) + where_true most (bytes_eq e.name (event_name b))

by_clause : (f : Tree → ℕ) (most : ℕ) (a b : Bool) (c d : ClauseTree) → f c.expr ≤ most → f d.expr ≤ most
    → sum_by f (expression_of (cond a (Some c) (cond b (Some d) None))) ≤ where_true most a + where_true most b
by_clause f most true b c d h k = omega (arith, h)
by_clause f most false true c d h k = omega (arith, k)
by_clause f most false false c d h k = omega arith

once_by_clause : (f : Tree → ℕ) (most : ℕ) (a b : Bool) (c d : ClauseTree) → f c.expr ≤ most → f d.expr ≤ most
    → sum_by f (expression_of (cond a (Some c) (cond b (Some d) None))) ≤ most
once_by_clause f most true b c d h k = omega (arith, h)
once_by_clause f most false true c d h k = omega (arith, k)
once_by_clause f most false false c d h k = omega arith

module _ (n : ℕ) (f : Tree → ℕ) (narrow wide : ℕ) (each : (i form k : ℕ) → i < 12 → k ≤ 255 → f (expression i form k) ≤ cost narrow wide i) where
  adds_to : (e : Event) (i s : ℕ) → i < 12 → adds f (definition i s) e ≤ adds_most (cost narrow wide i) (first_event s) (second_event s) e
  adds_to e i s below =
      let c = clause i (first_event s) (after_draws 2 s) in
      let d = clause i (second_event s) (after_draws 5 s) in
      by_clause f (cost narrow wide i) (bytes_eq e.name c.event) (bytes_eq e.name d.event) c d
      (each i (draw (after_draws 2 s) 1 4) (draw (after_draws 2 s) 2 200) below (omega arith)) (each i (draw (after_draws 5 s) 1 4) (draw (after_draws 5 s) 2 200) below (omega arith))

  adds_once : (e : Event) (i s : ℕ) → i < 12 → adds f (definition i s) e ≤ cost narrow wide i
  adds_once e i s below =
      let c = clause i (first_event s) (after_draws 2 s) in
      let d = clause i (second_event s) (after_draws 5 s) in
      once_by_clause f (cost narrow wide i) (bytes_eq e.name c.event) (bytes_eq e.name d.event) c d
      (each i (draw (after_draws 2 s) 1 4) (draw (after_draws 2 s) 2 200) below (omega arith)) (each i (draw (after_draws 5 s) 1 4) (draw (after_draws 5 s) 2 200) below (omega arith))

  adds_to_all : (i s : ℕ) → i < 12 → sum_by (adds f (definition i s)) events ≤ 2 * cost narrow wide i
  adds_to_all i s below =
      let most = cost narrow wide i in
      omega (
        arith,
        sum-less (adds f (definition i s)) (adds_most most (first_event s) (second_event s)) (λ e. adds_to e i s below) events,
        sum-plus (λ (e : Event). where_true most (bytes_eq e.name (event_name (first_event s)))) (λ (e : Event). where_true most (bytes_eq e.name (event_name (second_event s)))) events,
        most_once most (first_event s) (first_below s),
        most_once most (second_event s) (second_below s),
      )

-- What a row of definitions adds.
abbrev adds_in : (Tree → ℕ) → List DeclTree → Event → ℕ
adds_in f ds e = sum_by f (flat_map (λ (d : DeclTree). reacting_expression e.name d.behaviour) ds)

abbrev row : (ℕ → ℕ) → ℕ → ℕ → ℕ
row most a zero = 0
row most a (suc n) = most a + row most (a + 1) n

row_adds : (f : Tree → ℕ) (es : List Event) (g : ℕ → DeclTree) (most : ℕ → ℕ) (a n : ℕ) → ((i : ℕ) → i < a + n → sum_by (adds f (g i)) es ≤ most i)
    → sum_by (adds_in f (map g (range_with_len a n))) es ≤ row most a n
row_adds f es g most a zero each = omega (arith, none es)
  where
    none : (es : List Event) → sum_by (λ (e : Event). 0) es ≡ 0
    none [] = refl
    none (e ∷ es) = none es
row_adds f es g most a (suc n) each =
    let ds = map g (range_with_len (a + 1) n) in
    omega (
      arith,
      sum-less (adds_in f (g a ∷ ds)) (λ (e : Event). adds f (g a) e + adds_in f ds e) (λ e. split e) es,
      sum-plus (adds f (g a)) (adds_in f ds) es,
      each a (omega arith),
      row_adds f es g most (a + 1) n (λ i below. each i (omega arith)),
    )
  where
    split : (e : Event) → adds_in f (g a ∷ map g (range_with_len (a + 1) n)) e ≤ adds f (g a) e + adds_in f (map g (range_with_len (a + 1) n)) e
    split e = omega (arith, sum_by-append f (reacting_expression e.name (g a).behaviour) (flat_map (λ (d : DeclTree). reacting_expression e.name d.behaviour) (map g (range_with_len (a + 1) n))))

-- What an event needs is what the definitions add, and the output.
needs_sum : (n : ℕ) (f : Tree → ℕ) (xs : List Tree) → sum_by f ((xs ++ Name (definition_name 0) ∷ []) ++ []) ≡ sum_by f xs + f (Name (definition_name 0))
needs_sum n f xs = omega (arith, sum_by-append f (xs ++ Name (definition_name 0) ∷ []) [], sum_by-append f xs (Name (definition_name 0) ∷ []))

body_of : (n : ℕ) (e : Event) → body (large_program n) e.name ≡ adds_in (weight (large_program n)) (large_program n).decls e + 6
body_of n e = omega (arith, needs_sum n (weight (large_program n)) (flat_map (λ (d : DeclTree). reacting_expression e.name d.behaviour) (large_program n).decls), shown)
  where
    shown : weight (large_program n) (Name (definition_name 0)) ≡ 6
    shown = ap (λ o. by_width o 6 12) (own_type n 0 (omega arith))

scratch_of : (n : ℕ) (e : Event) → scratch_bytes (large_program n) e.name ≡ adds_in (result_bytes (large_program n)) (large_program n).decls e + 1
scratch_of n e = omega (arith, needs_sum n (result_bytes (large_program n)) (flat_map (λ (d : DeclTree). reacting_expression e.name d.behaviour) (large_program n).decls), shown)
  where
    shown : result_bytes (large_program n) (Name (definition_name 0)) ≡ 1
    shown = ap (λ o. by_width o 1 2) (own_type n 0 (omega arith))

greatest-few : {A : Type 0} (g : A → ℕ) (most : ℕ) → ((x : A) → g x ≤ most) → (xs : List A) → greatest (map g xs) ≤ most
greatest-few g most each [] = omega arith
greatest-few g most each (x ∷ xs) = omega (arith, each x, greatest-few g most each xs)

scratch_few : (n : ℕ) (e : Event) → scratch_bytes (large_program n) e.name ≤ 103
scratch_few n e =
    omega (arith, scratch_of n e, row_adds (result_bytes (large_program n)) (e ∷ []) (nth_definition n) (cost 6 11) 0 12 (λ i below. omega (arith, adds_once n (result_bytes (large_program n)) 6 11 (results n) e i (after_draws (8 * i) n) below)))

bodies_few : (n : ℕ) → sum_by (λ (e : Event). 128 + body (large_program n) e.name + 6 * 19) events ≤ 5272
bodies_few n =
    let added = adds_in (weight (large_program n)) (large_program n).decls in
    omega (
      arith,
      sum-less (λ (e : Event). 128 + body (large_program n) e.name + 6 * 19) (λ (e : Event). 248 + added e) (λ e. omega (arith, body_of n e)) events,
      sum-plus (λ (e : Event). 248) added events,
      row_adds (weight (large_program n)) events (nth_definition n) (λ i. 2 * cost 68 144 i) 0 12 (λ i below. adds_to_all n (weight (large_program n)) 68 144 (weighs n) i (after_draws (8 * i) n) below),
    )

pub fits : (n : ℕ) → LargeFits n
fits n = record {
  no_inputs = refl;
  no_tables = refl;
  levels_are = refl;
  ram = omega (arith, greatest-few (λ (e : Event). scratch_bytes (large_program n) e.name) 103 (scratch_few n) (large_program n).events);
  words = omega (arith, bodies_few n);
}
