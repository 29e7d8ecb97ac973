-- An expression that has a type has a value of that type, where the names in it have values of theirs.
use Rattle.std.specs.Prelude.{◌≡◌, ℕ, ◌+◌, ◌-◌, ◌*◌, ◌/◌, ◌%◌, ◌^◌, ◌<◌, ◌≤◌, Bool, true, false, not, ◌||◌, ◌==◌, ◌⊎◌, nat_le, nat_lt, zero, suc, List, [], ◌∷◌, ◌++◌, length, slice_get, Option, Some, None, option_map, option_and_then, if◌then◌else◌, refl}
use Rattle.std.specs.List.{AllByRecursion, list_any, last_or}
use Rattle.std.specs.Str.{bytes_eq}
use Rattle.std.proofs.Common.{rules, ap, subst, ◌∙◌, arith}
use Rattle.std.proofs.lemmas.Slice.Eq.{bytes_eq-Decides}
use Rattle.std.proofs.lemmas.List.Folds.{list_any-append}
use Rattle.std.proofs.Math.Nat.{mod-lt, mod-le, div-le_self}
use Rattle.std.proofs.lemmas.Nat.{or_lt, xor_lt, and_le_l}
use Rattle.std.proofs.lemmas.Bool.{leb-true, ltb-true}
use mathlib.Core.Logic.{inl, inr}
use Rattle.frp_tree.specs.declared.syntax.Ty.{Ty}
use Rattle.frp_tree.specs.declared.syntax.Ty.TheVariants.{U8, U16}
use Rattle.frp_tree.specs.declared.syntax.Ty.TheVariants as ty
use Rattle.frp_tree.specs.declared.syntax.Lit.{Lit}
use Rattle.frp_tree.specs.declared.syntax.Lit.TheVariants as lit
use Rattle.frp_tree.specs.declared.syntax.UnOp.{UnOp}
use Rattle.frp_tree.specs.declared.syntax.UnOp.TheVariants.{Com, Not}
use Rattle.frp_tree.specs.declared.syntax.BinOp.{BinOp}
use Rattle.frp_tree.specs.declared.syntax.BinOp.TheVariants.{Or, BitOr, BitXor, BitAnd, Add, Sub, Mul, Div, Rem}
use Rattle.frp_tree.specs.declared.syntax.Side.{Side}
use Rattle.frp_tree.specs.declared.syntax.Side.TheVariants.{Left, Right}
use Rattle.frp_tree.specs.Tree.{Tree, Const, Name, Unary, Binary, Shift, If, Convert, Look, BehaviourTree, Plain, Input, Table, Reactive, DeclTree, ProgramTree}
use Rattle.efrp_meaning.specs.Decls.{decl_named, is_table, entries_of}
use Rattle.efrp_meaning.specs.Types.{entry_type, type_of_name, type_of_table, literal_type, unary_type, binary_type, shift_type, if_type, convert_type, common_type, look_type, type_of, IsTypedAs, IsTyped}
use Rattle.efrp_meaning.specs.Values.{modulus, truth_number, holds, literal_number, unary_value, binary_value, shift_value, if_value, convert_value, number_at}
use Rattle.efrp_meaning.specs.Needs.{names_in, IsNamedIn}
use Rattle.efrp_meaning.specs.Meaning.{map_two, map_three, look_value, evaluate}
use Rattle.efrp_meaning.specs.States.{HasValue}

truth_number-below : (b : Bool) → truth_number b < 2
truth_number-below true = omega arith
truth_number-below false = omega arith

plain_literal : (n : ℕ) (b : Bool) → nat_le n 255 ≡ b → HasValue (literal_type (lit.Plain n)) (literal_number (lit.Plain n))
plain_literal n true e = rw e (let h : n ≤ 255 = leb-true n 255 e in omega arith)
plain_literal n false e = rw e tt

wide_literal : (n : ℕ) (b : Bool) → nat_le n 65535 ≡ b → HasValue (literal_type (lit.Wide n)) (literal_number (lit.Wide n))
wide_literal n true e = rw e (let h : n ≤ 65535 = leb-true n 65535 e in omega arith)
wide_literal n false e = rw e tt

pub literal-typed : (literal : Lit) → HasValue (literal_type literal) (literal_number literal)
literal-typed (lit.Plain n) = plain_literal n (nat_le n 255) refl
literal-typed (lit.Wide n) = wide_literal n (nat_le n 65535) refl
literal-typed (lit.Truth b) = truth_number-below b

unary-typed : (op : UnOp) (t : Option Ty) (a : Option ℕ) → HasValue t a → HasValue (unary_type op t) (map_two (unary_value op) (option_map modulus t) a)
unary-typed Com (Some U8) (Some n) h = omega arith
unary-typed Com (Some U16) (Some n) h = omega arith
unary-typed Com (Some ty.Bool) a h = tt
unary-typed Com None a h = tt
unary-typed Com (Some U8) None h = absurd h
unary-typed Com (Some U16) None h = absurd h
unary-typed Not (Some ty.Bool) (Some n) h = truth_number-below (not (holds n))
unary-typed Not (Some ty.Bool) None h = absurd h
unary-typed Not (Some U8) a h = tt
unary-typed Not (Some U16) a h = tt
unary-typed Not None a h = tt

quotient-below : (m a b : ℕ) → 0 < m → a < m → (zero : Bool) → (if zero then m - 1 else a / b) < m
quotient-below m a b some h true = omega arith
quotient-below m a b some h false = omega (arith, div-le_self a b)

remainder-below : (m a b : ℕ) → a < m → (zero : Bool) → (if zero then a else a % b) < m
remainder-below m a b h true = h
remainder-below m a b h false = omega (arith, mod-le a b)

-- Both operands are of one type.
at_one_type : (op : BinOp) (t : Ty) (a b : ℕ) → a < modulus t → b < modulus t → HasValue (binary_type op (Some t) (Some t)) (Some (binary_value op (modulus t) a b))
at_one_type BitOr U8 a b first second = or_lt 8 a b first second
at_one_type BitOr U16 a b first second = or_lt 16 a b first second
at_one_type BitXor U8 a b first second = xor_lt 8 a b first second
at_one_type BitXor U16 a b first second = xor_lt 16 a b first second
at_one_type BitAnd U8 a b first second = omega (arith, and_le_l a b)
at_one_type BitAnd U16 a b first second = omega (arith, and_le_l a b)
at_one_type Add U8 a b first second = mod-lt (a + b) (omega arith)
at_one_type Add U16 a b first second = mod-lt (a + b) (omega arith)
at_one_type Sub U8 a b first second = mod-lt (a + 256 - b) (omega arith)
at_one_type Sub U16 a b first second = mod-lt (a + 65536 - b) (omega arith)
at_one_type Mul U8 a b first second = mod-lt (a * b) (omega arith)
at_one_type Mul U16 a b first second = mod-lt (a * b) (omega arith)
at_one_type Div U8 a b first second = quotient-below 256 a b (omega arith) first (b == 0)
at_one_type Div U16 a b first second = quotient-below 65536 a b (omega arith) first (b == 0)
at_one_type Rem U8 a b first second = remainder-below 256 a b first (b == 0)
at_one_type Rem U16 a b first second = remainder-below 65536 a b first (b == 0)
at_one_type _ _ a b first second = search (rules, truth_number-below)

-- Two types are alike, or there is none.
abbrev AreAlike : Option Ty → Option Ty → Type 0
AreAlike s t = (common_type s t ≡ None) ⊎ ((u : Ty) × (s ≡ Some u) × (t ≡ Some u) × (common_type s t ≡ Some u))

are_alike : (s t : Option Ty) → AreAlike s t
are_alike (Some ty.Bool) (Some ty.Bool) = inr (ty.Bool, refl, refl, refl)
are_alike (Some U8) (Some U8) = inr (U8, refl, refl, refl)
are_alike (Some U16) (Some U16) = inr (U16, refl, refl, refl)
are_alike _ _ = inl refl

pub no_type : (op : BinOp) (s t : Option Ty) → common_type s t ≡ None → binary_type op s t ≡ None
no_type Or s t e = rw e refl
no_type _ s t e = rw e refl

of_one_type : (op : BinOp) (t : Ty) (a b : Option ℕ) → HasValue (Some t) a → HasValue (Some t) b → HasValue (binary_type op (Some t) (Some t)) (map_three (binary_value op) (Some (modulus t)) a b)
of_one_type op t (Some a) (Some b) first second = at_one_type op t a b first second
of_one_type op t (Some a) None first second = absurd second
of_one_type op t None b first second = absurd first

binary-typed : (op : BinOp) (s t : Option Ty) (a b : Option ℕ) → HasValue s a → HasValue t b → AreAlike s t → HasValue (binary_type op s t) (map_three (binary_value op) (option_map modulus s) a b)
binary-typed op s t a b first second (inl e) = rw (no_type op s t e) tt
binary-typed op s t a b first second (inr r) =
    let same_left = r.1 in
    let same_right = r.2 in
    rw (same_left, same_right) (of_one_type op r.0 a b (rw same_left at first) (rw same_right at second))

guarded : (fits : Bool) (t : Ty) (n : ℕ) → n < modulus t → HasValue (if fits then Some t else None) (Some n)
guarded true t n h = h
guarded false t n h = tt

shifted-below : (side : Side) (amount m a : ℕ) → 0 < m → a < m → shift_value side amount m a < m
shifted-below Left amount m a some h = mod-lt (a * 2 ^ amount) some
shifted-below Right amount m a some h = omega (arith, div-le_self a (2 ^ amount))

unguarded : (fits : Bool) (t : Ty) → HasValue (Some t) None → HasValue (if fits then Some t else None) None
unguarded true t h = h
unguarded false t h = tt

shift-typed : (side : Side) (amount : ℕ) (t : Option Ty) (a : Option ℕ) → HasValue t a → HasValue (shift_type t amount) (map_two (shift_value side amount) (option_map modulus t) a)
shift-typed side amount (Some U8) (Some n) h = guarded (nat_le amount 7) U8 (shift_value side amount 256 n) (shifted-below side amount 256 n (omega arith) h)
shift-typed side amount (Some U16) (Some n) h = guarded (nat_le amount 15) U16 (shift_value side amount 65536 n) (shifted-below side amount 65536 n (omega arith) h)
shift-typed side amount (Some U8) None h = unguarded (nat_le amount 7) U8 h
shift-typed side amount (Some U16) None h = unguarded (nat_le amount 15) U16 h
shift-typed side amount (Some ty.Bool) a h = tt
shift-typed side amount None a h = tt

chosen-below : (m a b : ℕ) → a < m → b < m → (c : Bool) → (if c then a else b) < m
chosen-below m a b first second true = first
chosen-below m a b first second false = second

branches_of_one_type : (t : Ty) (c : ℕ) (a b : Option ℕ) → HasValue (Some t) a → HasValue (Some t) b → HasValue (Some t) (map_three if_value (Some c) a b)
branches_of_one_type t c (Some a) (Some b) first second = chosen-below (modulus t) a b first second (holds c)
branches_of_one_type t c (Some a) None first second = absurd second
branches_of_one_type t c None b first second = absurd first

branches-typed : (c : ℕ) (s t : Option Ty) (a b : Option ℕ) → HasValue s a → HasValue t b → AreAlike s t → HasValue (common_type s t) (map_three if_value (Some c) a b)
branches-typed c s t a b first second (inl e) = rw e tt
branches-typed c s t a b first second (inr r) =
    let same_left = r.1 in
    let same_right = r.2 in
    rw r.3 (branches_of_one_type r.0 c a b (rw same_left at first) (rw same_right at second))

if-typed : (r s t : Option Ty) (c a b : Option ℕ) → HasValue r c → HasValue s a → HasValue t b → HasValue (if_type r s t) (map_three if_value c a b)
if-typed (Some ty.Bool) s t (Some c) a b test first second = branches-typed c s t a b first second (are_alike s t)
if-typed (Some ty.Bool) s t None a b test first second = absurd test
if-typed (Some U8) s t c a b test first second = tt
if-typed (Some U16) s t c a b test first second = tt
if-typed None s t c a b test first second = tt

convert-typed : (to : Ty) (t : Option Ty) (a : Option ℕ) → HasValue t a → HasValue (convert_type to t) (option_map (convert_value to) a)
convert-typed U8 (Some ty.Bool) (Some n) h = mod-lt n (omega arith)
convert-typed U8 (Some U16) (Some n) h = mod-lt n (omega arith)
convert-typed U16 (Some ty.Bool) (Some n) h = omega arith
convert-typed U16 (Some U8) (Some n) h = omega arith
convert-typed U8 (Some ty.Bool) None h = absurd h
convert-typed U8 (Some U16) None h = absurd h
convert-typed U16 (Some ty.Bool) None h = absurd h
convert-typed U16 (Some U8) None h = absurd h
convert-typed U8 (Some U8) a h = tt
convert-typed U8 None a h = tt
convert-typed U16 (Some U16) a h = tt
convert-typed U16 None a h = tt
convert-typed ty.Bool t a h = tt

-- The entries of a table: each of them has a value of the table's type, and so has the one that is looked up.
abbrev AreTyped : Ty → List Lit → Type 0
AreTyped t entries = AllByRecursion (λ (entry : Lit). literal_type entry ≡ Some t) entries

entry-typed : (t : Ty) (entry : Lit) → literal_type entry ≡ Some t → HasValue (Some t) (literal_number entry)
entry-typed t entry typed = subst (λ o. HasValue o (literal_number entry)) typed (literal-typed entry)

entry_within : (t : Ty) (entries : List Lit) (i : ℕ) → AreTyped t entries → i < length entries → HasValue (Some t) (option_and_then literal_number (slice_get entries i))
entry_within t [] i typed inside = absurd (omega arith)
entry_within t (e ∷ es) zero typed inside = entry-typed t e typed.0
entry_within t (e ∷ es) (suc i) typed inside = entry_within t es i typed.1 (omega arith)

last_entry : (t : Ty) (e : Lit) (es : List Lit) → literal_type e ≡ Some t → AreTyped t es → HasValue (Some t) (option_and_then literal_number (last_or (Some e) es))
last_entry t e [] first typed = entry-typed t e first
last_entry t e (f ∷ es) first typed = last_entry t f es typed.0 typed.1

last_of : (t : Ty) (entries : List Lit) → 0 < length entries → AreTyped t entries → HasValue (Some t) (option_and_then literal_number (last_or None entries))
last_of t [] some typed = absurd (omega arith)
last_of t (e ∷ es) some typed = last_entry t e es typed.0 typed.1

number_at-typed : (t : Ty) (entries : List Lit) (i : ℕ) → 0 < length entries → AreTyped t entries → HasValue (Some t) (number_at entries i)
number_at-typed t entries i some typed = by_test (nat_lt i (length entries)) refl
  where
    by_test : (b : Bool) → nat_lt i (length entries) ≡ b → HasValue (Some t) (option_and_then literal_number (if b then slice_get entries i else last_or None entries))
    by_test true e = entry_within t entries i typed (ltb-true _ _ e)
    by_test false e = last_of t entries some typed

-- What is known of a definition that was found.
abbrev pub FoundTyped : ProgramTree → Option DeclTree → Type 0
FoundTyped p None = Unit {0}
FoundTyped p (Some d) = IsTypedAs p d.ty d.behaviour

look-typed : (p : ProgramTree) (found : Option DeclTree) (i : ℕ) → FoundTyped p found → HasValue (option_and_then entry_type found) (option_and_then (λ entries. number_at entries i) (option_and_then (λ d. entries_of d.behaviour) found))
look-typed p None i typed = tt
look-typed p (Some d) i typed = by_behaviour d.ty d.behaviour typed
  where
    by_behaviour : (t : Ty) (b : BehaviourTree) → IsTypedAs p t b → HasValue (if is_table b then Some t else None) (option_and_then (λ entries. number_at entries i) (entries_of b))
    by_behaviour t (Plain e) h = tt
    by_behaviour t (Input port) h = tt
    by_behaviour t (Table entries) h = number_at-typed t entries i h.0 h.1
    by_behaviour t (Reactive init clauses) h = tt

index-typed : (t : Option Ty) (value : ℕ → Option ℕ) → ((i : ℕ) → HasValue t (value i)) → (s : Option Ty) (index : Option ℕ) → HasValue s index → HasValue (look_type t s) (option_and_then value index)
index-typed t value typed (Some U8) (Some i) h = typed i
index-typed t value typed (Some U8) None h = absurd h
index-typed t value typed (Some U16) index h = tt
index-typed t value typed (Some ty.Bool) index h = tt
index-typed t value typed None index h = tt

found-typed : (p : ProgramTree) (ds : List DeclTree) → AllByRecursion (λ (d : DeclTree). IsTypedAs p d.ty d.behaviour) ds → (x : List ℕ) → FoundTyped p (decl_named ds x)
found-typed p [] typed x = tt
found-typed p (d ∷ ds) typed x = by_name (bytes_eq x d.name) (found-typed p ds typed.1 x)
  where
    by_name : (b : Bool) → FoundTyped p (decl_named ds x) → FoundTyped p (if b then Some d else decl_named ds x)
    by_name true rest = typed.0
    by_name false rest = rest

pub decl-typed : (p : ProgramTree) → IsTyped p → (x : List ℕ) → FoundTyped p (decl_named p.decls x)
decl-typed p typed x = found-typed p p.decls typed.decls x

-- A name of a part of an expression is one of the whole.
any-left : (x : List ℕ) (xs ys : List (List ℕ)) → list_any (bytes_eq x) xs ≡ true → list_any (bytes_eq x) (xs ++ ys) ≡ true
any-left x xs ys h = list_any-append (bytes_eq x) xs ys ∙ ap (λ b. b || list_any (bytes_eq x) ys) h

any-right : (x : List ℕ) (xs ys : List (List ℕ)) → list_any (bytes_eq x) ys ≡ true → list_any (bytes_eq x) (xs ++ ys) ≡ true
any-right x xs ys h = list_any-append (bytes_eq x) xs ys ∙ ap (λ b. list_any (bytes_eq x) xs || b) h ∙ or_true (list_any (bytes_eq x) xs)
  where
    or_true : (b : Bool) → (b || true) ≡ true
    or_true true = refl
    or_true false = refl

module _ (p : ProgramTree) (typed : IsTyped p) (names : List ℕ → Option ℕ) where
  pub evaluate-typed : (e : Tree) → ((x : List ℕ) → IsNamedIn x e → HasValue (type_of_name p x) (names x)) → HasValue (type_of p e) (evaluate p names e)
  evaluate-typed (Const literal) known = literal-typed literal
  evaluate-typed (Name x) known = known x (ap (λ b. b || false) ((bytes_eq-Decides x x).1 refl))
  evaluate-typed (Unary op a) known = unary-typed op (type_of p a) (evaluate p names a) (evaluate-typed a known)
  evaluate-typed (Binary op a b) known =
      let left = evaluate-typed a (λ x h. known x (any-left x (names_in a) (names_in b) h)) in
      let right = evaluate-typed b (λ x h. known x (any-right x (names_in a) (names_in b) h)) in
      binary-typed op (type_of p a) (type_of p b) (evaluate p names a) (evaluate p names b) left right (are_alike (type_of p a) (type_of p b))
  evaluate-typed (Shift side a amount) known = shift-typed side amount (type_of p a) (evaluate p names a) (evaluate-typed a known)
  evaluate-typed (If c a b) known =
      let branches = names_in a ++ names_in b in
      let test = evaluate-typed c (λ x h. known x (any-left x (names_in c) branches h)) in
      let first = evaluate-typed a (λ x h. known x (any-right x (names_in c) branches (any-left x (names_in a) (names_in b) h))) in
      let second = evaluate-typed b (λ x h. known x (any-right x (names_in c) branches (any-right x (names_in a) (names_in b) h))) in
      if-typed (type_of p c) (type_of p a) (type_of p b) (evaluate p names c) (evaluate p names a) (evaluate p names b) test first second
  evaluate-typed (Convert to a) known = convert-typed to (type_of p a) (evaluate p names a) (evaluate-typed a known)
  evaluate-typed (Look table index) known =
      let entry = λ (i : ℕ). look-typed p (decl_named p.decls table) i (decl-typed p typed table) in
      index-typed (type_of_table p table) (look_value p table) entry (type_of p index) (evaluate p names index) (evaluate-typed index known)
