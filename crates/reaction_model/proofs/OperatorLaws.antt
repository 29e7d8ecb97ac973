-- Where an operand is a value of a type and a number, what an operator gives is one of its result's.
use Rattle.std.specs.Prelude.{◌≡◌, ℕ, ◌%◌, ◌<◌, ◌≤◌, zero, suc, Bool, true, false, ◌⊎◌, min, nat_le, if◌then◌else◌, Option, Some, None, option_map, refl}
use Rattle.std.proofs.Common.{sym, ap, subst, ◌∙◌, arith}
use Rattle.std.proofs.Math.Nat.{mod-eq_of_lt, mod-lt}
use Rattle.std.proofs.Math.Path.{ap₂}
use Rattle.std.proofs.lemmas.Bool.{leb-true}
use mathlib.Core.Logic.{inl, inr}
use Rattle.frp_tree.specs.declared.syntax.Ty.{Ty}
use Rattle.frp_tree.specs.declared.syntax.Ty.TheVariants.{U8, U16}
use Rattle.frp_tree.specs.declared.syntax.Ty.TheVariants as ty
use Rattle.frp_tree.specs.declared.syntax.Value.{Value}
use Rattle.frp_tree.specs.declared.syntax.UnOp.{UnOp}
use Rattle.frp_tree.specs.declared.syntax.UnOp.TheVariants.{Com, Not}
use Rattle.frp_tree.specs.declared.syntax.BinOp.{BinOp}
use Rattle.frp_tree.specs.declared.syntax.BinOp.TheVariants.{Or}
use Rattle.frp_tree.specs.declared.syntax.Side.{Side}
use Rattle.efrp_meaning.specs.Types.{unary_type, binary_type, common_type, shift_type, if_type, convert_type}
use Rattle.efrp_meaning.specs.Values.{modulus, holds, number_of, unary_value, binary_value, shift_value, if_value, convert_value}
use Rattle.efrp_meaning.specs.Meaning.{map_two, map_three}
use Rattle.efrp_meaning.specs.States.{HasValue}
use Rattle.efrp_meaning.proofs.TypedValueLaws.{no_type}
use Rattle.reaction_model.specs.Values.{type_of_value, value_in, unary_result, binary_result, unary_on, binary_on, shift_on}
use Rattle.reaction_model.specs.Stands.{IsValue}

-- The number and the type of a value that is made of them.
pub number-in : (t : Ty) (n : ℕ) → n < modulus t → number_of (value_in t n) ≡ n
number-in ty.Bool zero h = refl
number-in ty.Bool (suc zero) h = refl
number-in ty.Bool (suc (suc n)) h = absurd (omega arith)
number-in U8 n h = mod-eq_of_lt h
number-in U16 n h = mod-eq_of_lt h

type-in : (t : Ty) (n : ℕ) → type_of_value (value_in t n) ≡ t
type-in ty.Bool n = refl
type-in U8 n = refl
type-in U16 n = refl

pub number-is : (t : Ty) (n : ℕ) (v : Value) → IsValue (Some t) (Some n) v → number_of v ≡ n
number-is t n v is = ap number_of is.1 ∙ number-in t n is.0

pub type-is : (t : Ty) (n : ℕ) (v : Value) → IsValue (Some t) (Some n) v → type_of_value v ≡ t
type-is t n v is = ap type_of_value is.1 ∙ type-in t n

pub has-value : (t : Option Ty) (o : Option ℕ) (v : Value) → IsValue t o v → HasValue t o
has-value None o v is = tt
has-value (Some t) None v is = is
has-value (Some t) (Some n) v is = is.0

-- `~` and `!`.
unary-result : (op : UnOp) (t r : Ty) → unary_type op (Some t) ≡ Some r → unary_result op t ≡ r
unary-result Com ty.Bool r e = cc
unary-result Com U8 r e = cc
unary-result Com U16 r e = cc
unary-result Not ty.Bool r e = cc
unary-result Not U8 r e = cc
unary-result Not U16 r e = cc

unary-on : (op : UnOp) (t : Ty) (n : ℕ) (a : Value) → type_of_value a ≡ t → number_of a ≡ n → unary_on op a ≡ value_in (unary_result op t) (unary_value op (modulus t) n)
unary-on op t n a type number = ap₂ (λ k m. value_in (unary_result op k) (unary_value op (modulus k) m)) type number

unary-of : (op : UnOp) (t : Ty) (n : ℕ) (a : Value) → IsValue (Some t) (Some n) a → (u : Option Ty) → unary_type op (Some t) ≡ u → HasValue u (Some (unary_value op (modulus t) n)) → IsValue u (Some (unary_value op (modulus t) n)) (unary_on op a)
unary-of op t n a is None e has = tt
unary-of op t n a is (Some r) e has =
    (has, unary-on op t n a (type-is t n a is) (number-is t n a is) ∙ ap (λ k. value_in k (unary_value op (modulus t) n)) (unary-result op t r e))

no-unary : (op : UnOp) → unary_type op None ≡ None
no-unary Com = refl
no-unary Not = refl

pub unary-is : (op : UnOp) (t : Option Ty) (o : Option ℕ) (a : Value) → IsValue t o a
    → HasValue (unary_type op t) (map_two (unary_value op) (option_map modulus t) o) → IsValue (unary_type op t) (map_two (unary_value op) (option_map modulus t) o) (unary_on op a)
unary-is op None o a is has = let none = no-unary op in rw none tt
unary-is op (Some t) None a is has = absurd is
unary-is op (Some t) (Some n) a is has = unary-of op t n a is (unary_type op (Some t)) refl has

-- Two types are alike, or they have none in common.
abbrev AreAlike : Option Ty → Option Ty → Type 0
AreAlike s t = (common_type s t ≡ None) ⊎ ((u : Ty) × (s ≡ Some u) × (t ≡ Some u) × (common_type s t ≡ Some u))

are-alike : (s t : Option Ty) → AreAlike s t
are-alike (Some ty.Bool) (Some ty.Bool) = inr (ty.Bool, refl, refl, refl)
are-alike (Some U8) (Some U8) = inr (U8, refl, refl, refl)
are-alike (Some U16) (Some U16) = inr (U16, refl, refl, refl)
are-alike _ _ = inl refl

-- The operators with two operands.
binary-result : (op : BinOp) (t r : Ty) → binary_type op (Some t) (Some t) ≡ Some r → binary_result op t ≡ r
binary-result Or ty.Bool r e = cc
binary-result Or U8 r e = cc
binary-result Or U16 r e = cc
binary-result _ ty.Bool r e = cc
binary-result _ U8 r e = cc
binary-result _ U16 r e = cc

binary-on : (op : BinOp) (t : Ty) (n m : ℕ) (a b : Value) → type_of_value a ≡ t → number_of a ≡ n → number_of b ≡ m → binary_on op a b ≡ value_in (binary_result op t) (binary_value op (modulus t) n m)
binary-on op t n m a b type first second =
    ap₂ (λ k i. value_in (binary_result op k) (binary_value op (modulus k) i (number_of b))) type first
    ∙ ap (λ i. value_in (binary_result op t) (binary_value op (modulus t) n i)) second

binary-at : (op : BinOp) (t : Ty) (n m : ℕ) (a b : Value) → IsValue (Some t) (Some n) a → IsValue (Some t) (Some m) b → (u : Option Ty) → binary_type op (Some t) (Some t) ≡ u
    → HasValue u (Some (binary_value op (modulus t) n m)) → IsValue u (Some (binary_value op (modulus t) n m)) (binary_on op a b)
binary-at op t n m a b first second None e has = tt
binary-at op t n m a b first second (Some r) e has =
    (has, binary-on op t n m a b (type-is t n a first) (number-is t n a first) (number-is t m b second) ∙ ap (λ k. value_in k (binary_value op (modulus t) n m)) (binary-result op t r e))

binary-of : (op : BinOp) (t : Ty) (x y : Option ℕ) (a b : Value) → IsValue (Some t) x a → IsValue (Some t) y b → HasValue (binary_type op (Some t) (Some t)) (map_three (binary_value op) (Some (modulus t)) x y)
    → IsValue (binary_type op (Some t) (Some t)) (map_three (binary_value op) (Some (modulus t)) x y) (binary_on op a b)
binary-of op t (Some n) (Some m) a b first second has = binary-at op t n m a b first second (binary_type op (Some t) (Some t)) refl has
binary-of op t (Some n) None a b first second has = absurd second
binary-of op t None y a b first second has = absurd first

pub binary-is : (op : BinOp) (s t : Option Ty) (x y : Option ℕ) (a b : Value) → IsValue s x a → IsValue t y b → HasValue (binary_type op s t) (map_three (binary_value op) (option_map modulus s) x y)
    → IsValue (binary_type op s t) (map_three (binary_value op) (option_map modulus s) x y) (binary_on op a b)
binary-is op s t x y a b first second has = by_types (are-alike s t)
  where
    by_types : AreAlike s t → IsValue (binary_type op s t) (map_three (binary_value op) (option_map modulus s) x y) (binary_on op a b)
    by_types (inl e) = let none = no_type op s t e in rw none tt
    by_types (inr r) =
        let same_left = r.1 in
        let same_right = r.2 in
        rw (same_left, same_right) (binary-of op r.0 x y a b (rw same_left at first) (rw same_right at second) (rw (same_left, same_right) at has))

-- Shifts.
shifted : (side : Side) (amount : ℕ) (t : Ty) (n : ℕ) (a : Value) → IsValue (Some t) (Some n) a → amount ≤ 15 → (fits : Bool) → HasValue (if fits then Some t else None) (Some (shift_value side amount (modulus t) n))
    → IsValue (if fits then Some t else None) (Some (shift_value side amount (modulus t) n)) (shift_on side a amount)
shifted side amount t n a is few false has = tt
shifted side amount t n a is few true has =
    let least : min amount 15 ≡ amount = omega arith in
    (has, ap₂ (λ k m. value_in k (shift_value side (min amount 15) (modulus k) m)) (type-is t n a is) (number-is t n a is) ∙ ap (λ m. value_in t (shift_value side m (modulus t) n)) least)

shifted-by : (side : Side) (amount most : ℕ) (t : Ty) (n : ℕ) (a : Value) → IsValue (Some t) (Some n) a → most ≤ 15 → (fits : Bool) → nat_le amount most ≡ fits
    → HasValue (if fits then Some t else None) (Some (shift_value side amount (modulus t) n)) → IsValue (if fits then Some t else None) (Some (shift_value side amount (modulus t) n)) (shift_on side a amount)
shifted-by side amount most t n a is few false e has = tt
shifted-by side amount most t n a is few true e has = let h : amount ≤ most = leb-true amount most e in shifted side amount t n a is (omega arith) true has

pub shift-is : (side : Side) (amount : ℕ) (t : Option Ty) (o : Option ℕ) (a : Value) → IsValue t o a → HasValue (shift_type t amount) (map_two (shift_value side amount) (option_map modulus t) o)
    → IsValue (shift_type t amount) (map_two (shift_value side amount) (option_map modulus t) o) (shift_on side a amount)
shift-is side amount (Some U8) (Some n) a is has = shifted-by side amount 7 U8 n a is (omega arith) (nat_le amount 7) refl has
shift-is side amount (Some U16) (Some n) a is has = shifted-by side amount 15 U16 n a is (omega arith) (nat_le amount 15) refl has
shift-is side amount (Some U8) None a is has = absurd is
shift-is side amount (Some U16) None a is has = absurd is
shift-is side amount (Some ty.Bool) o a is has = tt
shift-is side amount None o a is has = tt

-- `if`.
chosen : (t : Ty) (n m : ℕ) (a b : Value) → IsValue (Some t) (Some n) a → IsValue (Some t) (Some m) b → (k : Bool) → IsValue (Some t) (Some (if k then n else m)) (if k then a else b)
chosen t n m a b first second true = first
chosen t n m a b first second false = second

if-of : (t : Ty) (i : ℕ) (x y : Option ℕ) (c a b : Value) → number_of c ≡ i → IsValue (Some t) x a → IsValue (Some t) y b → IsValue (Some t) (map_three if_value (Some i) x y) (if holds (number_of c) then a else b)
if-of t i (Some n) (Some m) c a b number first second =
    subst (λ k. IsValue (Some t) (Some (if holds i then n else m)) (if holds k then a else b)) (sym number) (chosen t n m a b first second (holds i))
if-of t i (Some n) None c a b number first second = absurd second
if-of t i None y c a b number first second = absurd first

if-common : (s t : Option Ty) (i : ℕ) (x y : Option ℕ) (c a b : Value) → number_of c ≡ i → IsValue s x a → IsValue t y b → AreAlike s t → IsValue (common_type s t) (map_three if_value (Some i) x y) (if holds (number_of c) then a else b)
if-common s t i x y c a b number first second (inl e) = rw e tt
if-common s t i x y c a b number first second (inr r) =
    let same_left = r.1 in
    let same_right = r.2 in
    rw r.3 (if-of r.0 i x y c a b number (rw same_left at first) (rw same_right at second))

pub if-is : (r s t : Option Ty) (o x y : Option ℕ) (c a b : Value) → IsValue r o c → IsValue s x a → IsValue t y b → IsValue (if_type r s t) (map_three if_value o x y) (if holds (number_of c) then a else b)
if-is (Some ty.Bool) s t (Some i) x y c a b test first second = if-common s t i x y c a b (number-is ty.Bool i c test) first second (are-alike s t)
if-is (Some ty.Bool) s t None x y c a b test first second = absurd test
if-is (Some U8) s t o x y c a b test first second = tt
if-is (Some U16) s t o x y c a b test first second = tt
if-is None s t o x y c a b test first second = tt

-- Conversions.
to-byte : (t : Ty) (n : ℕ) (a : Value) → IsValue (Some t) (Some n) a → IsValue (Some U8) (Some (n % 256)) (value_in U8 (number_of a))
to-byte t n a is =
    let small : n % 256 < 256 = mod-lt n (omega arith) in
    (small, ap (value_in U8) (number-is t n a is) ∙ sym (ap Rattle.frp_tree.specs.declared.syntax.Value.TheVariants.U8 (mod-eq_of_lt small)))

to-word : (t : Ty) (n : ℕ) (a : Value) → IsValue (Some t) (Some n) a → n < 65536 → IsValue (Some U16) (Some n) (value_in U16 (number_of a))
to-word t n a is small = (small, ap (value_in U16) (number-is t n a is))

pub convert-is : (to : Ty) (t : Option Ty) (o : Option ℕ) (a : Value) → IsValue t o a → HasValue (convert_type to t) (option_map (convert_value to) o) → IsValue (convert_type to t) (option_map (convert_value to) o) (value_in to (number_of a))
convert-is U8 (Some ty.Bool) (Some n) a is has = to-byte ty.Bool n a is
convert-is U8 (Some U16) (Some n) a is has = to-byte U16 n a is
convert-is U16 (Some ty.Bool) (Some n) a is has = to-word ty.Bool n a is has
convert-is U16 (Some U8) (Some n) a is has = to-word U8 n a is has
convert-is U8 (Some ty.Bool) None a is has = absurd is
convert-is U8 (Some U16) None a is has = absurd is
convert-is U16 (Some ty.Bool) None a is has = absurd is
convert-is U16 (Some U8) None a is has = absurd is
convert-is U8 (Some U8) o a is has = tt
convert-is U8 None o a is has = tt
convert-is U16 (Some U16) o a is has = tt
convert-is U16 None o a is has = tt
convert-is ty.Bool t o a is has = tt
