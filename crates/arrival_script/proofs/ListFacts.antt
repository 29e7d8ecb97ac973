-- Lists with one more element at the end, and searches in them.
use Rattle.std.proofs.Common.{◌≡◌, ℕ, ◌+◌, ◌-◌, ◌<◌, ◌≤◌, Bool, true, false, ◌&&◌, ◌||◌, cond, nat_lt, List, [], ◌∷◌, ◌++◌, length, map, get_or, Option, Some, None, is_some, slice_get, refl, sym, ap, ◌∙◌, ⊎_elim, arith, length-append}
use Rattle.std.specs.List.{find, filter, list_any}
use Rattle.std.specs.List.Sorted.{IsStrictlyIncreasing}
use Rattle.std.specs.Option.{option_or, option_map}
use Rattle.std.proofs.lemmas.Bool.{ltb-true, cases_lt}
use Rattle.std.proofs.lemmas.List.{append-nil, length-map, get_or_append_left}
use Rattle.std.proofs.Math.Seq.{get_or-append_seam}
use Rattle.std.proofs.lemmas.List.Elements.{filter-append}
use Rattle.std.proofs.lemmas.List.Folds.{find-append, list_any-append}
use Rattle.std.proofs.lemmas.Option.{slice_get-map, slice_get-get_or}
use Rattle.arrival_script.specs.Scripts.{has_pair}

or_none : {X : Type 0} (o : Option X) → option_or o None ≡ o
or_none None = refl
or_none (Some x) = refl

pub find-no : {X : Type 0} (p : X → Bool) (xs : List X) (x : X) → p x ≡ false → find p (xs ++ x ∷ []) ≡ find p xs
find-no p xs x h = find-append p xs (x ∷ []) ∙ ap (λ b. option_or (find p xs) (cond b (Some x) None)) h ∙ or_none (find p xs)

pub find-yes : {X : Type 0} (p : X → Bool) (xs : List X) (x : X) → find p xs ≡ None → p x ≡ true → find p (xs ++ x ∷ []) ≡ Some x
find-yes p xs x e h = find-append p xs (x ∷ []) ∙ ap (λ o. option_or o (cond (p x) (Some x) None)) e ∙ ap (λ b. cond b (Some x) None) h

pub filter-no : {X : Type 0} (p : X → Bool) (xs : List X) (x : X) → p x ≡ false → filter p (xs ++ x ∷ []) ≡ filter p xs
filter-no p xs x h = filter-append p xs (x ∷ []) ∙ ap (λ b. filter p xs ++ cond b (x ∷ []) []) h ∙ append-nil (filter p xs)

pub filter-yes : {X : Type 0} (p : X → Bool) (xs : List X) (x : X) → p x ≡ true → filter p (xs ++ x ∷ []) ≡ filter p xs ++ x ∷ []
filter-yes p xs x h = filter-append p xs (x ∷ []) ∙ ap (λ b. filter p xs ++ cond b (x ∷ []) []) h

pub any-find : {X : Type 0} (p : X → Bool) (xs : List X) → list_any p xs ≡ is_some (find p xs)
any-find p [] = refl
any-find p (x ∷ xs) = go (p x) (any-find p xs)
  where
    go : (b : Bool) → list_any p xs ≡ is_some (find p xs) → (b || list_any p xs) ≡ is_some (cond b (Some x) (find p xs))
    go true e = refl
    go false e = e

pub find-filter : {X : Type 0} (p q : X → Bool) (xs : List X) → find (λ x. p x && q x) xs ≡ find q (filter p xs)
find-filter p q [] = refl
find-filter p q (x ∷ xs) = go (p x) (find-filter p q xs)
  where
    go : (b : Bool) → find (λ y. p y && q y) xs ≡ find q (filter p xs)
        → cond (b && q x) (Some x) (find (λ y. p y && q y) xs) ≡ find q (cond b (x ∷ filter p xs) (filter p xs))
    go true e = ap (λ o. cond (q x) (Some x) o) e
    go false e = e

pub find-map : {X Y : Type 0} (p : Y → Bool) (f : X → Y) (xs : List X) → find p (map f xs) ≡ option_map f (find (λ x. p (f x)) xs)
find-map p f [] = refl
find-map p f (x ∷ xs) = go (p (f x)) (find-map p f xs)
  where
    go : (b : Bool) → find p (map f xs) ≡ option_map f (find (λ y. p (f y)) xs) → cond b (Some (f x)) (find p (map f xs)) ≡ option_map f (cond b (Some x) (find (λ y. p (f y)) xs))
    go true e = refl
    go false e = e

-- Two elements are alike, with one more element.
regroup : (a b c d : Bool) → ((a || (b || false)) || (c || d)) ≡ ((a || c) || (b || d))
regroup true b c d = refl
regroup false true true d = refl
regroup false true false d = refl
regroup false false c d = refl

pub has_pair-push : {X : Type 0} (alike : X → X → Bool) → ((x y : X) → alike x y ≡ alike y x) → (xs : List X) (y : X) → has_pair alike (xs ++ y ∷ []) ≡ (has_pair alike xs || list_any (alike y) xs)
has_pair-push alike same [] y = refl
has_pair-push alike same (x ∷ xs) y =
    ap (λ b. b || has_pair alike (xs ++ y ∷ [])) (list_any-append (alike x) xs (y ∷ []))
    ∙ ap (λ b. (list_any (alike x) xs || (alike x y || false)) || b) (has_pair-push alike same xs y)
    ∙ regroup (list_any (alike x) xs) (alike x y) (has_pair alike xs) (list_any (alike y) xs)
    ∙ ap (λ b. (list_any (alike x) xs || has_pair alike xs) || (b || list_any (alike y) xs)) (same x y)

-- The last element, where there is one more.
pub last-push : {X : Type 0} (xs : List X) (x : X) → slice_get (xs ++ x ∷ []) (length (xs ++ x ∷ []) - 1) ≡ Some x
last-push xs x =
    let total : length (xs ++ x ∷ []) - 1 ≡ length xs = let e = length-append xs (x ∷ []) in omega arith in
    let inside : length xs < length (xs ++ x ∷ []) = let e = length-append xs (x ∷ []) in omega arith in
    ap (slice_get (xs ++ x ∷ [])) total ∙ slice_get-get_or (xs ++ x ∷ []) (length xs) x inside ∙ ap (λ y. Some y) (get_or-append_seam xs x [] x)

-- The last element, if there is one, is below n by what f tells of it.
abbrev pub last_below : {X : Type 0} → (X → ℕ) → List X → ℕ → Bool
last_below f xs n = elim (slice_get xs (length xs - 1)) [ None ↦ true | Some last ↦ nat_lt (f last) n ]

pub last_below-map : {X Y : Type 0} (f : Y → ℕ) (g : X → Y) (xs : List X) (n : ℕ) → last_below f (map g xs) n ≡ last_below (λ x. f (g x)) xs n
last_below-map {X = X} f g xs n =
    ap (λ m. elim (slice_get (map g xs) (m - 1)) [ None ↦ true | Some last ↦ nat_lt (f last) n ]) (length-map xs g)
    ∙ ap (λ o. elim o [ None ↦ true | Some last ↦ nat_lt (f last) n ]) (slice_get-map g xs (length xs - 1))
    ∙ go (slice_get xs (length xs - 1))
  where
    go : (o : Option X) → elim (option_map g o) as (λ _. Bool) [ None ↦ true | Some last ↦ nat_lt (f last) n ] ≡ elim o as (λ _. Bool) [ None ↦ true | Some last ↦ nat_lt (f (g last)) n ]
    go None = refl
    go (Some x) = refl

pub rising-push : (xs : List ℕ) (n : ℕ) → IsStrictlyIncreasing xs → last_below (λ x. x) xs n ≡ true → IsStrictlyIncreasing (xs ++ n ∷ [])
rising-push xs n rises last k inside = ⊎_elim within at_end (cases_lt (k + 1) (length xs))
  where
    within : k + 1 < length xs → get_or (xs ++ n ∷ []) k 0 < get_or (xs ++ n ∷ []) (k + 1) 0
    within h =
        let first : get_or (xs ++ n ∷ []) k 0 ≡ get_or xs k 0 = get_or_append_left xs (n ∷ []) 0 k (omega arith) in
        let second : get_or (xs ++ n ∷ []) (k + 1) 0 ≡ get_or xs (k + 1) 0 = get_or_append_left xs (n ∷ []) 0 (k + 1) h in
        omega (arith, rises k h)

    at_end : length xs ≤ k + 1 → get_or (xs ++ n ∷ []) k 0 < get_or (xs ++ n ∷ []) (k + 1) 0
    at_end h =
        let total : length (xs ++ n ∷ []) ≡ length xs + 1 = length-append xs (n ∷ []) in
        let place : k + 1 ≡ length xs = omega arith in
        let before : k ≡ length xs - 1 = omega arith in
        let second : get_or (xs ++ n ∷ []) (k + 1) 0 ≡ n = ap (λ i. get_or (xs ++ n ∷ []) i 0) place ∙ get_or-append_seam xs n [] 0 in
        let first : get_or (xs ++ n ∷ []) k 0 ≡ get_or xs k 0 = get_or_append_left xs (n ∷ []) 0 k (omega arith) in
        let is_last : slice_get xs (length xs - 1) ≡ Some (get_or xs k 0) = ap (slice_get xs) (sym before) ∙ slice_get-get_or xs k 0 (omega arith) in
        let below : get_or xs k 0 < n = ltb-true (get_or xs k 0) n (sym (ap (λ o. elim o as (λ _. Bool) [ None ↦ true | Some l ↦ nat_lt l n ]) is_last) ∙ last) in
        omega arith
