-- What a table of bytes holds, and the lists that are made of it.
use Rattle.std.proofs.Common.{◌≡◌, ℕ, zero, suc, ◌+◌, ◌<◌, ◌⊎◌, inl, inr, ⊎_elim, List, [], ◌∷◌, ◌++◌, length, map, Option, None, Some, refl, sym, ◌∙◌, ap, subst, slice_index, slice_index_or, length-append, append-nil, add-one, arith}
use Rattle.std.specs.List.{Contains}
use Rattle.std.specs.List.Sorted.{IsStrictlyIncreasing}
use Rattle.std.specs.Option.{option_to_list}
use Rattle.std.proofs.lemmas.Bool.{cases_lt}
use Rattle.std.proofs.lemmas.Option.{same_Some}
use Rattle.std.proofs.lemmas.List.{get_or_append_left, get_or_default, get_or-map, length-map, map-append}
use Rattle.std.proofs.lemmas.List.Elements.{Contains-append_left, Contains-push, Contains-push_cases}
use Rattle.std.proofs.Math.Seq.{get_or-append_seam}
use Rattle.hex_file.proofs.ImageLaws.{holds_none}
use Rattle.hex_file.specs.Tables.{IsTable, items_below}

-- The items below a limit, one more.

pub items_none : {X : Type 0} (item : ℕ → Option X) → items_below item 0 ≡ []
unfolding items_below
items_none item = refl

pub items_more : {X : Type 0} (item : ℕ → Option X) (n : ℕ) (x : X) → item n ≡ Some x → items_below item (n + 1) ≡ items_below item n ++ x ∷ []
unfolding items_below
items_more item n x is = rw add-one (ap (λ o. items_below item n ++ option_to_list o) is)

pub items_same : {X : Type 0} (item : ℕ → Option X) (n : ℕ) → item n ≡ None → items_below item (n + 1) ≡ items_below item n
unfolding items_below
items_same item n is = rw add-one (ap (λ o. items_below item n ++ option_to_list o) is ∙ append-nil (items_below item n))

-- A table of nothing.

pub table_of_none : (table : List (Option ℕ)) → length table ≡ 0x10000 → ((address : ℕ) → slice_index_or table address None ≡ None) → IsTable [] table
table_of_none table size none = record { size = size; at = λ address below. none address }

-- A number above all those of a list that rises.
rising_more : (ks : List ℕ) (last : ℕ) → IsStrictlyIncreasing ks → ((k : ℕ) → k < length ks → slice_index ks k < last) → IsStrictlyIncreasing (ks ++ last ∷ [])
rising_more ks last rising above k below = ⊎_elim
    (λ inside.
    let here : slice_index (ks ++ last ∷ []) k ≡ slice_index ks k = get_or_append_left ks (last ∷ []) 0 k (omega arith) in
    let next : slice_index (ks ++ last ∷ []) (k + 1) ≡ slice_index ks (k + 1) = get_or_append_left ks (last ∷ []) 0 (k + 1) inside in
    omega (arith, rising k inside, here, next))
    (λ past.
    let at_end : k + 1 ≡ length ks = omega (arith, length-append ks (last ∷ [])) in
    let here : slice_index (ks ++ last ∷ []) k ≡ slice_index ks k = get_or_append_left ks (last ∷ []) 0 k (omega arith) in
    let end : slice_index (ks ++ last ∷ []) (k + 1) ≡ last = ap (slice_index (ks ++ last ∷ [])) at_end ∙ get_or-append_seam ks last [] 0 in
    omega (arith, above k (omega arith), here, end))
    (cases_lt (k + 1) (length ks))

pub some_or_none : {X : Type 0} (o : Option X) → ((x : X) × (o ≡ Some x)) ⊎ (o ≡ None)
some_or_none None = inr refl
some_or_none (Some x) = inl (x, refl)

-- The items, where each has its address as key.

module _ {X : Type 0} (key : X → ℕ) (item : ℕ → Option X) (keyed : (n : ℕ) (x : X) → item n ≡ Some x → key x ≡ n) where
  pub record Listed (n : ℕ) (xs : List X) : Type 0 where
    pub sound : (x : X) → Contains xs x → (key x < n) × (item (key x) ≡ Some x)
    pub complete : (k : ℕ) (x : X) → k < n → item k ≡ Some x → Contains xs x
    pub rising : IsStrictlyIncreasing (map key xs)

  listed_none : Listed 0 []
  listed_none = record {
    sound = λ x among. absurd (holds_none x among);
    complete = λ k x below is. absurd (omega arith);
    rising = λ k below. absurd (omega arith);
  }

  below_next : (n k : ℕ) → k < suc n → (k < n) ⊎ (k ≡ n)
  below_next n k below = ⊎_elim (λ less. inl less) (λ most. inr (omega arith)) (cases_lt k n)

  listed_same : (n : ℕ) (xs : List X) → item n ≡ None → Listed n xs → Listed (suc n) xs
  listed_same n xs none listed = record {
    sound = λ x among. let s = listed.sound x among in (omega (arith, s.0), s.1);
    complete = λ k x below is. ⊎_elim
        (λ less. listed.complete k x less is)
        (λ last. absurd (let both : Some x ≡ None = sym is ∙ ap item last ∙ none in cc))
        (below_next n k below);
    rising = listed.rising;
  }

  listed_more : (n : ℕ) (xs : List X) (y : X) → item n ≡ Some y → Listed n xs → Listed (suc n) (xs ++ y ∷ [])
  listed_more n xs y is listed = record {
    sound = λ x among. ⊎_elim
        (λ before. let s = listed.sound x before in (omega (arith, s.0), s.1))
        (λ last. subst (λ x. (key x < suc n) × (item (key x) ≡ Some x)) last (omega (arith, keyed n y is), ap item (keyed n y is) ∙ is))
        (Contains-push_cases xs y x among);
    complete = λ k x below at. ⊎_elim
        (λ less. Contains-append_left xs (y ∷ []) x (listed.complete k x less at))
        (λ last.
        let same : y ≡ x = same_Some y x (sym is ∙ ap item (sym last) ∙ at) in
        subst (Contains (xs ++ y ∷ [])) same (Contains-push xs y))
        (below_next n k below);
    rising = subst IsStrictlyIncreasing (sym (map-append key xs (y ∷ [])))
        (rising_more (map key xs) (key y) listed.rising
        (λ k below.
        let inside : k < length xs = omega (arith, length-map xs key) in
        let among : Contains xs (slice_index_or xs k y) = (k, inside, get_or_default xs k _ y inside) in
        let small : key (slice_index_or xs k y) < n = (listed.sound (slice_index_or xs k y) among).0 in
        omega (arith, small, keyed n y is, get_or-map key xs k y 0 inside)));
  }

  pub listed : (n : ℕ) → Listed n (items_below item n)
  unfolding items_below
  listed zero = listed_none
  listed (suc n) = ⊎_elim
      (λ some. subst (λ o. Listed (suc n) (items_below item n ++ option_to_list o)) (sym some.1) (listed_more n (items_below item n) some.0 some.1 (listed n)))
      (λ none. subst (λ o. Listed (suc n) (items_below item n ++ option_to_list o)) (sym none)
      (subst (Listed (suc n)) (sym (append-nil (items_below item n))) (listed_same n (items_below item n) none (listed n))))
      (some_or_none (item n))
