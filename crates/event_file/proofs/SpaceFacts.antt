-- The first and the last part of a text that is cut at spaces.
use Rattle.std.proofs.Common.{◌≡◌, ℕ, suc, ◌-◌, Bool, true, false, not, ◌&&◌, ◌==◌, cond, List, [], ◌∷◌, length, get_or, Some, slice_get, refl, sym, ap, ◌∙◌, arith}
use Rattle.std.specs.List.{slice_split, onto_first}
use Rattle.event_file.specs.Events.{is_some_text, has_no_outer_space}
use Rattle.event_file.specs.Parts.{is_other}

abbrev parts : List ℕ → List (List ℕ)
parts text = slice_split (λ b. b == 32) text

-- A text has one part at least.
record HasParts (found : List (List ℕ)) : Type 0 where
  first : List ℕ
  others : List (List ℕ)
  is : found ≡ first ∷ others

onto_has : (x : ℕ) (found : List (List ℕ)) → HasParts (onto_first x found)
onto_has x [] = record { first = x ∷ []; others = []; is = refl }
onto_has x (part ∷ more) = record { first = x ∷ part; others = more; is = refl }

has_parts : (text : List ℕ) → HasParts (parts text)
has_parts [] = record { first = []; others = []; is = refl }
has_parts (x ∷ xs) = elim (x == 32) as (λ b. HasParts (cond b ([] ∷ parts xs) (onto_first x (parts xs)))) [ true ↦ record { first = []; others = parts xs; is = refl } | false ↦ onto_has x (parts xs) ]

-- The first part is some text where the first byte is no space.
first_part : (text : List ℕ) → is_some_text (get_or (parts text) 0 []) ≡ is_other (slice_get text 0)
first_part [] = refl
first_part (x ∷ xs) = go (x == 32) (parts xs)
  where
    go : (b : Bool) (more : List (List ℕ)) → is_some_text (get_or (cond b ([] ∷ more) (onto_first x more)) 0 []) ≡ not b
    go true more = refl
    go false [] = refl
    go false (part ∷ more) = grind arith

-- The last part is some text where the last byte is no space.
abbrev last_of : ℕ → List ℕ → ℕ
last_of x [] = x
last_of x (y ∷ ys) = last_of y ys

abbrev ends : List (List ℕ) → Bool
ends [] = false
ends (part ∷ []) = is_some_text part
ends (part ∷ next ∷ more) = ends (next ∷ more)

ends-last : (found : List (List ℕ)) → ends found ≡ is_some_text (get_or found (length found - 1) [])
ends-last [] = refl
ends-last (part ∷ []) = refl
ends-last (part ∷ next ∷ more) = ends-last (next ∷ more) ∙ ap (λ n. is_some_text (get_or (part ∷ next ∷ more) n [])) (let e : suc (length (next ∷ more) - 1) ≡ length (part ∷ next ∷ more) - 1 = omega arith in e)

last-is : (x : ℕ) (xs : List ℕ) → slice_get (x ∷ xs) (length (x ∷ xs) - 1) ≡ Some (last_of x xs)
last-is x [] = refl
last-is x (y ∷ ys) = ap (slice_get (x ∷ y ∷ ys)) (let e : length (x ∷ y ∷ ys) - 1 ≡ suc (length (y ∷ ys) - 1) = omega arith in e) ∙ last-is y ys

some_text : (x : ℕ) (text : List ℕ) → is_some_text (x ∷ text) ≡ true
some_text x text = grind arith

only_part : (y : ℕ) (ys part : List ℕ) → parts (y ∷ ys) ≡ part ∷ [] → is_some_text part ≡ true
only_part y ys part = go (y == 32)
  where
    joined : (found : List (List ℕ)) → onto_first y found ≡ part ∷ [] → is_some_text part ≡ true
    joined [] e = let same : part ≡ y ∷ [] = cc in ap is_some_text same ∙ some_text y []
    joined (a ∷ more) e = let same : part ≡ y ∷ a = cc in ap is_some_text same ∙ some_text y a

    go : (b : Bool) → cond b ([] ∷ parts ys) (onto_first y (parts ys)) ≡ part ∷ [] → is_some_text part ≡ true
    go true e = let some : parts ys ≡ (has_parts ys).first ∷ (has_parts ys).others = (has_parts ys).is in let none : parts ys ≡ [] = cc in cc
    go false e = joined (parts ys) e

ends-more : (found : List (List ℕ)) → HasParts found → ends ([] ∷ found) ≡ ends found
ends-more [] has = let is : [] ≡ has.first ∷ has.others = has.is in cc
ends-more (part ∷ more) has = refl

ends-onto : (x : ℕ) (found : List (List ℕ)) → HasParts found → ((part : List ℕ) → found ≡ part ∷ [] → is_some_text part ≡ true) → ends (onto_first x found) ≡ ends found
ends-onto x [] has only = let is : [] ≡ has.first ∷ has.others = has.is in cc
ends-onto x (part ∷ []) has only = some_text x part ∙ sym (only part refl)
ends-onto x (part ∷ next ∷ more) has only = refl

last_part : (x : ℕ) (xs : List ℕ) → ends (parts (x ∷ xs)) ≡ not (last_of x xs == 32)
last_part x [] = go (x == 32)
  where
    go : (b : Bool) → ends (cond b ([] ∷ [] ∷ []) ((x ∷ []) ∷ [])) ≡ not b
    go true = refl
    go false = refl
last_part x (y ∷ ys) = go (x == 32) ∙ last_part y ys
  where
    go : (b : Bool) → ends (cond b ([] ∷ parts (y ∷ ys)) (onto_first x (parts (y ∷ ys)))) ≡ ends (parts (y ∷ ys))
    go true = ends-more (parts (y ∷ ys)) (has_parts (y ∷ ys))
    go false = ends-onto x (parts (y ∷ ys)) (has_parts (y ∷ ys)) (only_part y ys)

last-other : (text : List ℕ) → is_some_text (get_or (parts text) (length (parts text) - 1) []) ≡ is_other (slice_get text (length text - 1))
last-other [] = refl
last-other (x ∷ xs) = sym (ends-last (parts (x ∷ xs))) ∙ last_part x xs ∙ ap is_other (sym (last-is x xs))

-- Neither the first nor the last byte is a space.
pub no_outer_space : (text : List ℕ) → has_no_outer_space text ≡ (is_other (slice_get text 0) && is_other (slice_get text (length text - 1)))
no_outer_space text = ap (λ b. b && is_some_text (get_or (parts text) (length (parts text) - 1) [])) (first_part text) ∙ ap (λ b. is_other (slice_get text 0) && b) (last-other text)
