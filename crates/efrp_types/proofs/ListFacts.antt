-- Rows of items, and the faults of each.
use Rattle.std.specs.Prelude.{◌≡◌, ℕ, Bool, true, false, List, [], ◌∷◌, ◌++◌, map, refl}
use Rattle.std.specs.List.{AllByRecursion, IsDistinct, flat_map, list_any}
use Rattle.std.specs.Str.{bytes_eq}
use Rattle.std.proofs.Common.{sym, ◌∙◌}
use Rattle.std.proofs.lemmas.Bool.{or_parts, false≢true}
use Rattle.std.proofs.lemmas.List.Folds.{list_any-append}
use Rattle.std.proofs.lemmas.Slice.Eq.{bytes_eq-Decides}
use Rattle.efrp_types.specs.declared.faults.CheckFault.{CheckFault}
use Rattle.efrp_types.specs.NameFaults.{each_after}
use Rattle.efrp_types.proofs.NodeLaws.{both-none}

pub both : {A : Type 0} (P Q R : A → Type 0) → ((x : A) → P x → Q x → R x) → (xs : List A) → AllByRecursion P xs → AllByRecursion Q xs → AllByRecursion R xs
both P Q R each [] p q = tt
both P Q R each (x ∷ xs) p q = (each x p.0 q.0, both P Q R each xs p.1 q.1)

-- None of a row has a fault.
pub none-each : {A : Type 0} (faults : A → List CheckFault) (xs : List A) → flat_map faults xs ≡ [] → AllByRecursion (λ x. faults x ≡ []) xs
none-each faults [] e = tt
none-each faults (x ∷ xs) e = let parts = both-none (faults x) (flat_map faults xs) e in (parts.0, none-each faults xs parts.1)

-- Where none has one after those before it, each has what follows from that, whatever stood before.
pub none-after : {A : Type 0} (faults : List A → A → List CheckFault) (P : A → Type 0) → ((before : List A) (x : A) → faults before x ≡ [] → P x)
    → (before xs : List A) → each_after faults before xs ≡ [] → AllByRecursion P xs
none-after faults P each before [] e = tt
none-after faults P each before (x ∷ xs) e =
    let parts = both-none (faults before x) (each_after faults (before ++ x ∷ []) xs) e in
    (each before x parts.0, none-after faults P each (before ++ x ∷ []) xs parts.1)

pub not-turned : (a b : List ℕ) → bytes_eq a b ≡ false → bytes_eq b a ≡ false
not-turned a b e = by_test (bytes_eq b a) refl
  where
    by_test : (k : Bool) → bytes_eq b a ≡ k → k ≡ false
    by_test false f = refl
    by_test true f = absurd (false≢true (sym e ∙ (bytes_eq-Decides a b).1 (sym ((bytes_eq-Decides b a).0 f))))

-- Names that each differ from those before differ.
module _ {A : Type 0} (key : A → List ℕ) (faults : List A → A → List CheckFault)
    (found : (before : List A) (x : A) → faults before x ≡ [] → list_any (λ b. bytes_eq (key x) (key b)) before ≡ false) where
  abbrev NotIn : List A → A → Type 0
  NotIn before x = list_any (λ b. bytes_eq (key x) (key b)) before ≡ false

  last : (before : List A) (x y : A) → NotIn (before ++ x ∷ []) y → bytes_eq (key x) (key y) ≡ false
  last before x y none =
      let parts = or_parts _ _ (sym (list_any-append (λ b. bytes_eq (key y) (key b)) before (x ∷ [])) ∙ none) in
      not-turned (key y) (key x) (or_parts _ _ parts.1).0

  apart : (before : List A) (x : A) (xs : List A) → AllByRecursion (NotIn (before ++ x ∷ [])) xs → AllByRecursion (λ k. bytes_eq (key x) k ≡ false) (map key xs)
  apart before x [] none = tt
  apart before x (y ∷ ys) none = (last before x y none.0, apart before x ys none.1)

  front : (before : List A) (x y : A) → NotIn (before ++ x ∷ []) y → NotIn before y
  front before x y none = (or_parts _ _ (sym (list_any-append (λ b. bytes_eq (key y) (key b)) before (x ∷ [])) ∙ none)).0

  fronts : (before : List A) (x : A) (xs : List A) → AllByRecursion (NotIn (before ++ x ∷ [])) xs → AllByRecursion (NotIn before) xs
  fronts before x [] none = tt
  fronts before x (y ∷ ys) none = (front before x y none.0, fronts before x ys none.1)

  differ-from : (before xs : List A) → each_after faults before xs ≡ [] → AllByRecursion (NotIn before) xs × IsDistinct bytes_eq (map key xs)
  unfolding IsDistinct
  differ-from before [] e = (tt, tt)
  differ-from before (x ∷ xs) e =
      let parts = both-none (faults before x) (each_after faults (before ++ x ∷ []) xs) e in
      let rest = differ-from (before ++ x ∷ []) xs parts.1 in
      ((found before x parts.0, fronts before x xs rest.0), (apart before x xs rest.0, rest.1))

  pub differ : (xs : List A) → each_after faults [] xs ≡ [] → IsDistinct bytes_eq (map key xs)
  differ xs e = (differ-from [] xs e).1
