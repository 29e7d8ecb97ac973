-- What the faults of a node say of its type, where its operands have types: there are none exactly where it has one.
use Rattle.std.specs.Prelude.{◌≡◌, ◌≢◌, ℕ, suc, Bool, true, false, nat_lt, nat_le, List, [], ◌∷◌, ◌++◌, length, Option, Some, None, refl, if◌then◌else◌}
use Rattle.std.proofs.Common.{sym, ap, subst, arith}
use Rattle.std.proofs.lemmas.Bool.{false≢true}
use Rattle.frp_tree.specs.declared.syntax.Ty.{Ty}
use Rattle.frp_tree.specs.declared.syntax.Ty.TheVariants.{U8, U16}
use Rattle.frp_tree.specs.declared.syntax.Ty.TheVariants as ty
use Rattle.frp_tree.specs.declared.syntax.UnOp.{UnOp}
use Rattle.frp_tree.specs.declared.syntax.UnOp.TheVariants.{Com, Not}
use Rattle.frp_tree.specs.declared.syntax.BinOp.{BinOp}
use Rattle.frp_tree.specs.declared.syntax.BinOp.TheVariants.{Or, And, Eq, Ne, Lt, Le, Gt, Ge, BitOr, BitXor, BitAnd, Add, Sub, Mul, Div, Rem}
use Rattle.efrp_meaning.specs.Types.{same_type, number_type, bool_type, common_type, to_bool, unary_type, binary_type, shift_type, if_type, convert_type, look_type}
use Rattle.efrp_types.specs.declared.faults.CheckFault.{CheckFault}
use Rattle.efrp_types.specs.declared.faults.CheckFault.TheVariants.{BadShift}
use Rattle.efrp_types.specs.NameFaults.{fault_if}
use Rattle.efrp_types.specs.TypeFaults.{unlike, no_number, unary_faults, binary_faults, shift_faults, convert_faults, node_of_one, node_of_two, node_of_three}

-- There is no fault where there is a type, and one where there is none.
abbrev pub Agrees : List CheckFault → Option Ty → Type 0
Agrees faults (Some t) = faults ≡ []
Agrees faults None = faults ≢ []

pub some-fault : (fault : CheckFault) (faults : List CheckFault) → fault ∷ faults ≢ []
some-fault fault faults e = let h : suc (length faults) ≡ 0 = ap length e in omega (arith, h)

pub both-none : (xs ys : List CheckFault) → xs ++ ys ≡ [] → (xs ≡ []) × (ys ≡ [])
both-none [] ys e = (refl, e)
both-none (x ∷ xs) ys e = absurd (some-fault x (xs ++ ys) e)

pub none-of-both : (xs ys : List CheckFault) → xs ≡ [] → ys ≡ [] → xs ++ ys ≡ []
none-of-both [] ys e f = f
none-of-both (x ∷ xs) ys e f = absurd (some-fault x xs e)

pub fault-false : (b : Bool) (fault : CheckFault) → fault_if b fault ≡ [] → b ≡ false
fault-false true fault e = absurd (some-fault fault [] e)
fault-false false fault e = refl

pub false-no-fault : (b : Bool) (fault : CheckFault) → b ≡ false → fault_if b fault ≡ []
false-no-fault b fault e = rw e refl

-- Where the first has a fault, so have both.
first-some : (xs ys : List CheckFault) → xs ≢ [] → xs ++ ys ≢ []
first-some xs ys some e = some (both-none xs ys e).0

second-some : (xs ys : List CheckFault) → ys ≢ [] → xs ++ ys ≢ []
second-some xs ys some e = some (both-none xs ys e).1

-- A node of one operand, of two and of three.
pub agrees-of-one : (faults : Ty → List CheckFault) (type : Option Ty → Option Ty) → type None ≡ None → ((a : Ty) → Agrees (faults a) (type (Some a)))
    → (xs : List CheckFault) (o : Option Ty) → Agrees xs o → Agrees (xs ++ node_of_one faults o) (type o)
agrees-of-one faults type none each [] (Some a) agrees = each a
agrees-of-one faults type none each (x ∷ xs) (Some a) agrees = absurd (some-fault x xs agrees)
agrees-of-one faults type none each xs None agrees = subst (Agrees (xs ++ [])) (sym none) (first-some xs [] agrees)

pub agrees-of-two : (faults : Ty → Ty → List CheckFault) (type : Option Ty → Option Ty → Option Ty)
    → ((o : Option Ty) → type None o ≡ None) → ((o : Option Ty) → type o None ≡ None) → ((a b : Ty) → Agrees (faults a b) (type (Some a) (Some b)))
    → (xs : List CheckFault) (o : Option Ty) → Agrees xs o → (ys : List CheckFault) (k : Option Ty) → Agrees ys k
    → Agrees (xs ++ (ys ++ node_of_two faults o k)) (type o k)
agrees-of-two faults type first second each xs None a ys k b = subst (Agrees _) (sym (first k)) (first-some xs _ a)
agrees-of-two faults type first second each xs (Some s) a ys None b = subst (Agrees _) (sym (second (Some s))) (second-some xs _ (first-some ys _ b))
agrees-of-two faults type first second each [] (Some s) a [] (Some t) b = each s t
agrees-of-two faults type first second each (x ∷ xs) (Some s) a ys (Some t) b = absurd (some-fault x xs a)
agrees-of-two faults type first second each [] (Some s) a (y ∷ ys) (Some t) b = absurd (some-fault y ys b)

pub agrees-of-three : (faults : Ty → Ty → Ty → List CheckFault) (type : Option Ty → Option Ty → Option Ty → Option Ty)
    → ((o k : Option Ty) → type None o k ≡ None) → ((o k : Option Ty) → type o None k ≡ None) → ((o k : Option Ty) → type o k None ≡ None)
    → ((a b c : Ty) → Agrees (faults a b c) (type (Some a) (Some b) (Some c)))
    → (xs : List CheckFault) (o : Option Ty) → Agrees xs o → (ys : List CheckFault) (k : Option Ty) → Agrees ys k → (zs : List CheckFault) (l : Option Ty) → Agrees zs l
    → Agrees (xs ++ (ys ++ (zs ++ node_of_three faults o k l))) (type o k l)
agrees-of-three faults type first second third each xs None a ys k b zs l c = subst (Agrees _) (sym (first k l)) (first-some xs _ a)
agrees-of-three faults type first second third each xs (Some s) a ys None b zs l c = subst (Agrees _) (sym (second (Some s) l)) (second-some xs _ (first-some ys _ b))
agrees-of-three faults type first second third each xs (Some s) a ys (Some t) b zs None c =
    subst (Agrees _) (sym (third (Some s) (Some t))) (second-some xs _ (second-some ys _ (first-some zs _ c)))
agrees-of-three faults type first second third each xs (Some s) a ys (Some t) b zs (Some u) c = rw (a, b, c) (each s t u)

-- What each node finds.
pub unary-agrees : (owner : List ℕ) (op : UnOp) (a : Ty) → Agrees (unary_faults owner op a) (unary_type op (Some a))
unary-agrees owner Com ty.Bool = some-fault _ []
unary-agrees owner Com U8 = refl
unary-agrees owner Com U16 = refl
unary-agrees owner Not ty.Bool = refl
unary-agrees owner Not U8 = some-fault _ []
unary-agrees owner Not U16 = some-fault _ []

pub no-unary : (op : UnOp) → unary_type op None ≡ None
no-unary Com = refl
no-unary Not = refl

pub alike : (owner : List ℕ) (a b : Ty) → Agrees (unlike owner a b) (common_type (Some a) (Some b))
alike owner ty.Bool ty.Bool = refl
alike owner ty.Bool U8 = some-fault _ []
alike owner ty.Bool U16 = some-fault _ []
alike owner U8 ty.Bool = some-fault _ []
alike owner U8 U8 = refl
alike owner U8 U16 = some-fault _ []
alike owner U16 ty.Bool = some-fault _ []
alike owner U16 U8 = some-fault _ []
alike owner U16 U16 = refl

numbers-alike : (owner : List ℕ) (a b : Ty) → Agrees (no_number owner a ++ unlike owner a b) (number_type (common_type (Some a) (Some b)))
numbers-alike owner ty.Bool ty.Bool = some-fault _ _
numbers-alike owner ty.Bool U8 = some-fault _ _
numbers-alike owner ty.Bool U16 = some-fault _ _
numbers-alike owner U8 ty.Bool = some-fault _ []
numbers-alike owner U8 U8 = refl
numbers-alike owner U8 U16 = some-fault _ []
numbers-alike owner U16 ty.Bool = some-fault _ []
numbers-alike owner U16 U8 = some-fault _ []
numbers-alike owner U16 U16 = refl

truths-alike : (owner : List ℕ) (a b : Ty) → Agrees (unlike owner ty.Bool a ++ unlike owner ty.Bool b) (bool_type (common_type (Some a) (Some b)))
truths-alike owner ty.Bool ty.Bool = refl
truths-alike owner ty.Bool U8 = some-fault _ []
truths-alike owner ty.Bool U16 = some-fault _ []
truths-alike owner U8 ty.Bool = some-fault _ _
truths-alike owner U8 U8 = some-fault _ _
truths-alike owner U8 U16 = some-fault _ _
truths-alike owner U16 ty.Bool = some-fault _ _
truths-alike owner U16 U8 = some-fault _ _
truths-alike owner U16 U16 = some-fault _ _

as-truth : (faults : List CheckFault) (o : Option Ty) → Agrees faults o → Agrees faults (to_bool o)
as-truth faults None agrees = agrees
as-truth faults (Some t) agrees = agrees

pub binary-agrees : (owner : List ℕ) (op : BinOp) (a b : Ty) → Agrees (binary_faults owner op a b) (binary_type op (Some a) (Some b))
binary-agrees owner Or a b = truths-alike owner a b
binary-agrees owner And a b = truths-alike owner a b
binary-agrees owner Eq a b = as-truth _ _ (alike owner a b)
binary-agrees owner Ne a b = as-truth _ _ (alike owner a b)
binary-agrees owner Lt a b = as-truth _ _ (numbers-alike owner a b)
binary-agrees owner Le a b = as-truth _ _ (numbers-alike owner a b)
binary-agrees owner Gt a b = as-truth _ _ (numbers-alike owner a b)
binary-agrees owner Ge a b = as-truth _ _ (numbers-alike owner a b)
binary-agrees owner BitOr a b = numbers-alike owner a b
binary-agrees owner BitXor a b = numbers-alike owner a b
binary-agrees owner BitAnd a b = numbers-alike owner a b
binary-agrees owner Add a b = numbers-alike owner a b
binary-agrees owner Sub a b = numbers-alike owner a b
binary-agrees owner Mul a b = numbers-alike owner a b
binary-agrees owner Div a b = numbers-alike owner a b
binary-agrees owner Rem a b = numbers-alike owner a b

no-common-right : (o : Option Ty) → common_type o None ≡ None
no-common-right None = refl
no-common-right (Some t) = refl

of-none : (op : BinOp) (o k : Option Ty) → common_type o k ≡ None → binary_type op o k ≡ None
of-none Or o k e = rw e refl
of-none And o k e = rw e refl
of-none Eq o k e = rw e refl
of-none Ne o k e = rw e refl
of-none Lt o k e = rw e refl
of-none Le o k e = rw e refl
of-none Gt o k e = rw e refl
of-none Ge o k e = rw e refl
of-none BitOr o k e = rw e refl
of-none BitXor o k e = rw e refl
of-none BitAnd o k e = rw e refl
of-none Add o k e = rw e refl
of-none Sub o k e = rw e refl
of-none Mul o k e = rw e refl
of-none Div o k e = rw e refl
of-none Rem o k e = rw e refl

pub no-binary-left : (op : BinOp) (o : Option Ty) → binary_type op None o ≡ None
no-binary-left op o = of-none op None o refl

pub no-binary-right : (op : BinOp) (o : Option Ty) → binary_type op o None ≡ None
no-binary-right op o = of-none op o None (no-common-right o)

within : (owner : List ℕ) (t : Ty) (most amount : ℕ) → Agrees (fault_if (nat_lt most amount) (BadShift owner)) (if nat_le amount most then Some t else None)
within owner t most amount = by_test (nat_le amount most) refl
  where
    by_test : (b : Bool) → nat_le amount most ≡ b → Agrees (fault_if (nat_lt most amount) (BadShift owner)) (if b then Some t else None)
    by_test true e = false-no-fault _ _ (grind (arith, e))
    by_test false e = λ none. absurd (let h : nat_lt most amount ≡ true = grind (arith, e) in let k = fault-false (nat_lt most amount) (BadShift owner) none in grind (arith, h, k))

pub shift-agrees : (owner : List ℕ) (amount : ℕ) (a : Ty) → Agrees (shift_faults owner amount a) (shift_type (Some a) amount)
shift-agrees owner amount ty.Bool = some-fault _ []
shift-agrees owner amount U8 = within owner U8 7 amount
shift-agrees owner amount U16 = within owner U16 15 amount

pub if-agrees : (owner : List ℕ) (c a b : Ty) → Agrees (unlike owner ty.Bool c ++ unlike owner a b) (if_type (Some c) (Some a) (Some b))
if-agrees owner ty.Bool a b = alike owner a b
if-agrees owner U8 a b = some-fault _ _
if-agrees owner U16 a b = some-fault _ _

pub no-if-first : (o k : Option Ty) → if_type None o k ≡ None
no-if-first o k = refl

pub no-if-second : (o k : Option Ty) → if_type o None k ≡ None
no-if-second None k = refl
no-if-second (Some ty.Bool) k = refl
no-if-second (Some U8) k = refl
no-if-second (Some U16) k = refl

pub no-if-third : (o k : Option Ty) → if_type o k None ≡ None
no-if-third None k = refl
no-if-third (Some ty.Bool) k = no-common-right k
no-if-third (Some U8) k = refl
no-if-third (Some U16) k = refl

-- A conversion that has a word.
pub to-u8-agrees : (owner : List ℕ) (a : Ty) → Agrees (convert_faults owner U8 a) (convert_type U8 (Some a))
to-u8-agrees owner ty.Bool = refl
to-u8-agrees owner U8 = some-fault _ []
to-u8-agrees owner U16 = refl

pub to-u16-agrees : (owner : List ℕ) (a : Ty) → Agrees (convert_faults owner U16 a) (convert_type U16 (Some a))
to-u16-agrees owner ty.Bool = refl
to-u16-agrees owner U8 = refl
to-u16-agrees owner U16 = some-fault _ []

pub look-agrees : (owner : List ℕ) (t a : Ty) → Agrees (unlike owner U8 a) (look_type (Some t) (Some a))
look-agrees owner t ty.Bool = some-fault _ []
look-agrees owner t U8 = refl
look-agrees owner t U16 = some-fault _ []

-- A type that is wanted, and one that isn't.
pub same-is : (a b : Ty) → same_type a b ≡ true → a ≡ b
same-is ty.Bool ty.Bool e = refl
same-is U8 U8 e = refl
same-is U16 U16 e = refl
same-is ty.Bool U8 e = absurd (false≢true e)
same-is ty.Bool U16 e = absurd (false≢true e)
same-is U8 ty.Bool e = absurd (false≢true e)
same-is U8 U16 e = absurd (false≢true e)
same-is U16 ty.Bool e = absurd (false≢true e)
same-is U16 U8 e = absurd (false≢true e)

pub same-self : (a : Ty) → same_type a a ≡ true
same-self ty.Bool = refl
same-self U8 = refl
same-self U16 = refl
