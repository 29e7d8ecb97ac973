-- The pieces of code by their numbers: which piece is which, that none ends in a skip, and where each begins.
use Rattle.std.proofs.Common.{◌≡◌, ℕ, zero, suc, ◌<◌, ◌≤◌, Bool, true, false, if◌then◌else◌, List, [], ◌∷◌, ◌++◌, length, map, reverse, refl, sym, ap, subst, arith, inl, inr, length-append}
use Rattle.std.specs.Prelude.{◌⊎◌}
use Rattle.std.specs.List.{AllByRecursion}
use Rattle.std.proofs.lemmas.List.{reverse-append}
use Rattle.code_items.specs.declared.items.Item.{Item}
use Rattle.code_items.specs.Places.{NoneSkips, piece_at}
use Rattle.code_items.specs.Items.{ends_skipping}

-- An element stands at a number in a list.
abbrev pub StandsIn : {A : Type 0} → List A → A → Type 0
StandsIn {A} [] x = ⊥
StandsIn {A} (y ∷ ys) x = (y ≡ x) ⊎ StandsIn ys x

pub in_front : {A : Type 0} (xs ys : List A) (x : A) → StandsIn xs x → StandsIn (xs ++ ys) x
in_front [] ys x here = absurd here
in_front (y ∷ xs) ys x (inl same) = inl same
in_front (y ∷ xs) ys x (inr later) = inr (in_front xs ys x later)

pub in_rear : {A : Type 0} (xs ys : List A) (x : A) → StandsIn ys x → StandsIn (xs ++ ys) x
in_rear [] ys x here = here
in_rear (y ∷ xs) ys x here = inr (in_rear xs ys x here)

-- One that stands in a list stands in it turned round, and what is made of it in what is made of all.
pub in_reverse : {A : Type 0} (xs : List A) (x : A) → StandsIn xs x → StandsIn (reverse xs) x
in_reverse [] x here = absurd here
in_reverse (y ∷ xs) x (inl same) = subst (λ zs. StandsIn zs x) (sym (reverse-append (y ∷ []) xs)) (in_rear (reverse xs) (y ∷ []) x (inl same))
in_reverse (y ∷ xs) x (inr later) = subst (λ zs. StandsIn zs x) (sym (reverse-append (y ∷ []) xs)) (in_front (reverse xs) (y ∷ []) x (in_reverse xs x later))

pub in_map : {A B : Type 0} (g : A → B) (xs : List A) (x : A) → StandsIn xs x → StandsIn (map g xs) (g x)
in_map g [] x here = absurd here
in_map g (y ∷ xs) x (inl same) = inl (ap g same)
in_map g (y ∷ xs) x (inr later) = inr (in_map g xs x later)

-- All elements of a list stand in it.
weaker : {A : Type 0} (xs ys : List A) (y : A) → AllByRecursion (StandsIn xs) ys → AllByRecursion (StandsIn (y ∷ xs)) ys
weaker xs [] y all = tt
weaker xs (z ∷ ys) y all = (inr all.0, weaker xs ys y all.1)

pub all_stand : {A : Type 0} (xs : List A) → AllByRecursion (StandsIn xs) xs
all_stand [] = tt
all_stand (x ∷ xs) = (inl refl, weaker xs xs x (all_stand xs))

-- A piece that stands in a list has a number there.
pub record HasNumber (pieces : List (List Item)) (piece : List Item) : Type 0 where
  pub number : ℕ
  pub inside : number < length pieces
  pub is : piece_at pieces number ≡ piece

pub has_number : (pieces : List (List Item)) (piece : List Item) → StandsIn pieces piece → HasNumber pieces piece
has_number [] piece here = absurd here
has_number (first ∷ pieces) piece (inl same) = record { number = zero; inside = omega arith; is = same }
has_number (first ∷ pieces) piece (inr later) =
    let its = has_number pieces piece later in
    let within = its.inside in record { number = suc its.number; inside = omega (arith, within); is = its.is }

-- The pieces of code, with the boot before the runs or behind them; and their numbers.
abbrev pub pieces_by : Bool → (head boot filler : List Item) → List (List Item) → List (List Item)
pieces_by paged head boot filler runs = if paged then head ∷ boot ∷ (runs ++ filler ∷ []) else head ∷ (runs ++ boot ∷ [])

abbrev pub run_number : Bool → ℕ → ℕ
run_number true i = suc (suc i)
run_number false i = suc i

abbrev pub boot_number : Bool → (runs : ℕ) → ℕ
boot_number true runs = 1
boot_number false runs = suc runs

front_piece : (xs ys : List (List Item)) (i : ℕ) → i < length xs → piece_at (xs ++ ys) i ≡ piece_at xs i
front_piece [] ys i inside = absurd (omega (arith, inside))
front_piece (x ∷ xs) ys zero inside = refl
front_piece (x ∷ xs) ys (suc i) inside = front_piece xs ys i (omega (arith, inside))

last_piece : (xs : List (List Item)) (y : List Item) → piece_at (xs ++ y ∷ []) (length xs) ≡ y
last_piece [] y = refl
last_piece (x ∷ xs) y = last_piece xs y

module _ (head boot filler : List Item) (runs : List (List Item)) where
  pub run_piece : (paged : Bool) (i : ℕ) → i < length runs → piece_at (pieces_by paged head boot filler runs) (run_number paged i) ≡ piece_at runs i
  run_piece true i inside = front_piece runs (filler ∷ []) i inside
  run_piece false i inside = front_piece runs (boot ∷ []) i inside

  pub boot_piece : (paged : Bool) → piece_at (pieces_by paged head boot filler runs) (boot_number paged (length runs)) ≡ boot
  boot_piece true = refl
  boot_piece false = last_piece runs boot

  pub head_piece : (paged : Bool) → piece_at (pieces_by paged head boot filler runs) 0 ≡ head
  head_piece true = refl
  head_piece false = refl

  pub head_inside : (paged : Bool) → 0 < length (pieces_by paged head boot filler runs)
  head_inside true = omega arith
  head_inside false = omega arith

  pub run_inside : (paged : Bool) (i : ℕ) → i < length runs → run_number paged i < length (pieces_by paged head boot filler runs)
  run_inside true i inside = let count = length-append runs (filler ∷ []) in omega (arith, count, inside)
  run_inside false i inside = let count = length-append runs (boot ∷ []) in omega (arith, count, inside)

  pub boot_inside : (paged : Bool) → boot_number paged (length runs) < length (pieces_by paged head boot filler runs)
  boot_inside true = omega arith
  boot_inside false = let count = length-append runs (boot ∷ []) in omega (arith, count)

  -- None ends in a skip, where neither head, boot nor filler does and no run.
  none_skips_in : (xs : List (List Item)) (last : List Item) → AllByRecursion (λ piece. ends_skipping false piece ≡ false) xs → ends_skipping false last ≡ false
      → NoneSkips (xs ++ last ∷ [])
  none_skips_in [] last all ends = (ends, tt)
  none_skips_in (x ∷ xs) last all ends = (all.0, none_skips_in xs last all.1 ends)

  pub none_skips : (paged : Bool) → ends_skipping false head ≡ false → ends_skipping false boot ≡ false → ends_skipping false filler ≡ false
      → AllByRecursion (λ piece. ends_skipping false piece ≡ false) runs → NoneSkips (pieces_by paged head boot filler runs)
  none_skips true first boots fills all = (first, (boots, none_skips_in runs filler all fills))
  none_skips false first boots fills all = (first, none_skips_in runs boot all boots)

-- Numbers of runs differ from each other and from the boot's.
pub run_numbers : (paged : Bool) (i j : ℕ) → run_number paged i ≡ run_number paged j → i ≡ j
run_numbers true i j same = omega (arith, same)
run_numbers false i j same = omega (arith, same)

pub run_no_boot : (paged : Bool) (i runs : ℕ) → i < runs → run_number paged i ≡ boot_number paged runs → ⊥
run_no_boot true i runs inside same = omega (arith, same)
run_no_boot false i runs inside same = omega (arith, same, inside)

-- The head comes first.
pub run_positive : (paged : Bool) (i : ℕ) → 1 ≤ run_number paged i
run_positive true i = omega arith
run_positive false i = omega arith

pub boot_positive : (paged : Bool) (runs : ℕ) → 1 ≤ boot_number paged runs
boot_positive true runs = omega arith
boot_positive false runs = omega arith
