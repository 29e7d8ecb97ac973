-- How answers are put together, and rows of items that are gone through.
use Rattle.std.specs.Prelude.{◌≡◌, ℕ, ◌+◌, ◌<◌, ◌≤◌, suc, List, [], ◌∷◌, ◌++◌, length, Option, Some, Result, Ok, Err, ◌⊎◌, refl}
use Rattle.std.specs.Result.{IsErrAnd}
use Rattle.std.proofs.Common.{sym, ap, subst, ◌∙◌, arith, take, drop, get_or, add-one, drop-cons}
use Rattle.std.proofs.lemmas.List.{take_more}
use mathlib.Core.Logic.{inl, inr}
use Rattle.frp_tree.specs.declared.syntax.Ty.{Ty}
use Rattle.efrp_types.specs.declared.faults.CheckFault.{CheckFault}
use Rattle.efrp_types.specs.declared.faults.CheckFault.TheVariants.{Memory}
use Rattle.efrp_types.specs.NameFaults.{each_after}
use Rattle.efrp_types.specs.Answers.{IsFirst, Tells, TellsType}
use Rattle.efrp_types.specs.TypeFaults.{node_of_one}

-- What the first part tells, the whole tells; and what the rest tells where the first part has no fault.
first-tells : (xs ys : List CheckFault) (fault : CheckFault) → IsFirst fault xs ⊎ (fault ≡ Memory) → IsFirst fault (xs ++ ys) ⊎ (fault ≡ Memory)
first-tells xs ys fault (inl first) = inl (first.0 ++ ys, ap (λ zs. zs ++ ys) first.1)
first-tells xs ys fault (inr memory) = inr memory

pub rest-tells : {A : Type 0} (xs ys : List CheckFault) (r : Result A CheckFault) → xs ≡ [] → Tells ys r → Tells (xs ++ ys) r
rest-tells xs ys r none tells = subst (λ zs. Tells (zs ++ ys) r) (sym none) tells

-- The same of an answer that hands on an `Err`.
pub told : {B : Type 0} (xs : List CheckFault) (fault : CheckFault) (r : Result B CheckFault) → IsErrAnd r (λ told. told ≡ fault) → IsFirst fault xs ⊎ (fault ≡ Memory) → Tells xs r
told xs fault (Ok x) handed tells = absurd handed
told xs fault (Err other) handed tells = subst (λ f. IsFirst f xs ⊎ (f ≡ Memory)) (sym handed) tells

pub told-first : {B : Type 0} (xs ys : List CheckFault) (fault : CheckFault) (r : Result B CheckFault) → IsErrAnd r (λ told. told ≡ fault) → IsFirst fault xs ⊎ (fault ≡ Memory) → Tells (xs ++ ys) r
told-first xs ys fault r handed tells = told (xs ++ ys) fault r handed (first-tells xs ys fault tells)

-- The same of a type.
pub type-told : (xs : List CheckFault) (o : Option Ty) (fault : CheckFault) (r : Result Ty CheckFault) → IsErrAnd r (λ told. told ≡ fault) → IsFirst fault xs ⊎ (fault ≡ Memory) → TellsType xs o r
type-told xs o fault (Ok t) handed tells = absurd handed
type-told xs o fault (Err other) handed tells = subst (λ f. IsFirst f xs ⊎ (f ≡ Memory)) (sym handed) tells

pub type-told-first : (xs ys : List CheckFault) (o : Option Ty) (fault : CheckFault) (r : Result Ty CheckFault) → IsErrAnd r (λ told. told ≡ fault) → IsFirst fault xs ⊎ (fault ≡ Memory)
    → TellsType (xs ++ ys) o r
type-told-first xs ys o fault r handed tells = type-told (xs ++ ys) o fault r handed (first-tells xs ys fault tells)

pub rest-type : (xs ys : List CheckFault) (o : Option Ty) (r : Result Ty CheckFault) → xs ≡ [] → TellsType ys o r → TellsType (xs ++ ys) o r
rest-type xs ys o r none tells = subst (λ zs. TellsType (zs ++ ys) o r) (sym none) tells

-- What a node tells whose operands have no fault.
abbrev pub HasType : List CheckFault → Option Ty → Ty → Type 0
HasType faults o t = (faults ≡ []) × (o ≡ Some t)

pub as-told : {B : Type 0} (f : Ty → List CheckFault) (xs : List CheckFault) (o : Option Ty) (a : Ty) (r : Result B CheckFault) → HasType xs o a → Tells (f a) r → Tells (xs ++ node_of_one f o) r
as-told f xs o a r its tells = subst (λ k. Tells (xs ++ node_of_one f k) r) (sym its.1) (rest-tells xs (f a) r its.0 tells)

-- A step of a row.
pub each-step : {A : Type 0} (faults : List A → A → List CheckFault) (xs : List A) (i : ℕ) (d : A) → i < length xs
    → each_after faults (take i xs) (drop i xs) ≡ faults (take i xs) (get_or xs i d) ++ each_after faults (take (i + 1) xs) (drop (i + 1) xs)
each-step faults xs i d less =
    ap (each_after faults (take i xs)) (drop-cons xs i d less)
    ∙ ap (λ ys. faults (take i xs) (get_or xs i d) ++ each_after faults ys (drop (suc i) xs)) (sym (take_more xs i d less))
    ∙ ap (λ k. faults (take i xs) (get_or xs i d) ++ each_after faults (take (i + 1) xs) (drop k xs)) (sym (add-one i))

-- A row in which the first i have no fault has those of the rest.
abbrev pub Gone : {A : Type 0} → (List A → A → List CheckFault) → List A → ℕ → Type 0
Gone faults xs i = each_after faults [] xs ≡ each_after faults (take i xs) (drop i xs)

pub gone-more : {A : Type 0} (faults : List A → A → List CheckFault) (xs : List A) (i : ℕ) (x : A) → i < length xs → x ≡ get_or xs i x → Gone faults xs i → faults (take i xs) x ≡ [] → Gone faults xs (i + 1)
gone-more faults xs i x less is gone none =
    gone ∙ each-step faults xs i x less ∙ ap (λ ys. ys ++ each_after faults (take (i + 1) xs) (drop (i + 1) xs)) (ap (faults (take i xs)) (sym is) ∙ none)

pub gone-told : {A C : Type 0} (faults : List A → A → List CheckFault) (xs : List A) (i : ℕ) (x : A) (fault : CheckFault) (r : Result C CheckFault) → i < length xs → x ≡ get_or xs i x → Gone faults xs i
    → IsErrAnd r (λ told. told ≡ fault) → IsFirst fault (faults (take i xs) x) ⊎ (fault ≡ Memory) → Tells (each_after faults [] xs) r
gone-told faults xs i x fault r less is gone handed tells =
    subst (λ ys. Tells ys r) (sym (gone ∙ each-step faults xs i x less ∙ ap (λ y. faults (take i xs) y ++ each_after faults (take (i + 1) xs) (drop (i + 1) xs)) (sym is)))
    (told-first (faults (take i xs) x) (each_after faults (take (i + 1) xs) (drop (i + 1) xs)) fault r handed tells)

drop-all : {A : Type 0} (xs : List A) → drop (length xs) xs ≡ []
drop-all [] = refl
drop-all (x ∷ xs) = drop-all xs

pub gone-all : {A : Type 0} (faults : List A → A → List CheckFault) (xs : List A) (i : ℕ) → i ≤ length xs → length xs ≤ i → Gone faults xs i → each_after faults [] xs ≡ []
gone-all faults xs i most least gone = let e : i ≡ length xs = omega (arith, most, least) in gone ∙ ap (each_after faults (take i xs)) (ap (λ k. drop k xs) e ∙ drop-all xs)
