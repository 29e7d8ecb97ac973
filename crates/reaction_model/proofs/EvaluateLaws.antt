-- Where what stands at a name's number is its value, an expression in memory has the value that it means.
use Rattle.std.specs.Prelude.{◌≡◌, ℕ, ◌-◌, ◌<◌, ◌≤◌, Bool, true, false, ◌||◌, nat_lt, nat_le, if◌then◌else◌, List, ◌++◌, length, slice_get, Option, Some, None, option_and_then, refl}
use Rattle.std.specs.List.{AllByRecursion, list_any, last_or}
use Rattle.std.specs.Str.{bytes_eq}
use Rattle.std.proofs.Common.{sym, ap, subst, ◌∙◌, arith, ltb-true, get_or}
use Rattle.std.proofs.Math.Nat.{mod-eq_of_lt}
use Rattle.std.proofs.lemmas.Bool.{leb-true}
use Rattle.std.proofs.lemmas.List.Folds.{list_any-append}
use Rattle.std.proofs.lemmas.Option.{slice_get-get_or}
use Rattle.std.proofs.lemmas.Slice.Eq.{bytes_eq-Decides}
use Rattle.frp_tree.specs.declared.syntax.Ty.{Ty}
use Rattle.frp_tree.specs.declared.syntax.Ty.TheVariants.{U8, U16}
use Rattle.frp_tree.specs.declared.syntax.Ty.TheVariants as ty
use Rattle.frp_tree.specs.declared.syntax.Lit.{Lit}
use Rattle.frp_tree.specs.declared.syntax.Lit.TheVariants as lit
use Rattle.frp_tree.specs.declared.syntax.Value.{Value}
use Rattle.frp_tree.specs.declared.syntax.Value.TheVariants as value
use Rattle.frp_tree.specs.Literals.{lit_value_of}
use Rattle.frp_tree.specs.Tree.{Tree, Const, Name, Unary, Binary, Shift, If, Convert, Look, BehaviourTree, Plain, Input, Table, Reactive, DeclTree, ProgramTree}
use Rattle.efrp_meaning.specs.Decls.{decl_named, is_table, entries_of}
use Rattle.efrp_meaning.specs.Types.{literal_type, entry_type, type_of, type_of_name, type_of_table, look_type, IsTypedAs, IsTyped}
use Rattle.efrp_meaning.specs.Values.{number_of, literal_number, entry_at, number_at}
use Rattle.efrp_meaning.specs.Needs.{names_in, IsNamedIn}
use Rattle.efrp_meaning.specs.Meaning.{look_value, evaluate}
use Rattle.efrp_meaning.specs.States.{HasValue}
use Rattle.efrp_meaning.proofs.TypedValueLaws.{FoundTyped, decl-typed, evaluate-typed}
use Rattle.reaction_model.specs.Values.{value_or_nothing, entry_in, value_named, value_of}
use Rattle.reaction_model.specs.Stands.{IsValue}
use Rattle.reaction_model.proofs.LookupFacts.{last-at}
use Rattle.reaction_model.proofs.NumberFacts.{each-at}
use Rattle.reaction_model.proofs.OperatorLaws.{number-is, has-value, unary-is, binary-is, shift-is, if-is, convert-is}

-- Literals.
plain-is : (n : ℕ) (b : Bool) → nat_le n 255 ≡ b → IsValue (literal_type (lit.Plain n)) (literal_number (lit.Plain n)) (value_or_nothing (lit_value_of (lit.Plain n)))
plain-is n true e = let h : n ≤ 255 = leb-true n 255 e in let small : n < 256 = omega arith in rw e (small, sym (ap value.U8 (mod-eq_of_lt small)))
plain-is n false e = rw e tt

wide-is : (n : ℕ) (b : Bool) → nat_le n 65535 ≡ b → IsValue (literal_type (lit.Wide n)) (literal_number (lit.Wide n)) (value_or_nothing (lit_value_of (lit.Wide n)))
wide-is n true e = let h : n ≤ 65535 = leb-true n 65535 e in let small : n < 65536 = omega arith in rw e (small, sym (ap value.U16 (mod-eq_of_lt small)))
wide-is n false e = rw e tt

pub literal-is : (l : Lit) → IsValue (literal_type l) (literal_number l) (value_or_nothing (lit_value_of l))
literal-is (lit.Plain n) = plain-is n (nat_le n 255) refl
literal-is (lit.Wide n) = wide-is n (nat_le n 65535) refl
literal-is (lit.Truth true) = (omega arith, refl)
literal-is (lit.Truth false) = (omega arith, refl)

-- Entries of tables.

abbrev IsEntryOf : Ty → List Lit → ℕ → Type 0
IsEntryOf t entries i = (l : Lit) × (entry_at entries i ≡ Some l) × (literal_type l ≡ Some t)

entry-typed : (t : Ty) (entries : List Lit) (i : ℕ) → 0 < length entries → AllByRecursion (λ (l : Lit). literal_type l ≡ Some t) entries → IsEntryOf t entries i
entry-typed t entries i some typed = by_test (nat_lt i (length entries)) refl
  where
    at : (k : ℕ) → k < length entries → (o : Option Lit) → o ≡ slice_get entries k → (l : Lit) × (o ≡ Some l) × (literal_type l ≡ Some t)
    at k inside o e =
        let found = slice_get-get_or entries k (lit.Truth false) inside in
        (get_or entries k (lit.Truth false), e ∙ found, each-at (λ (l : Lit). literal_type l ≡ Some t) entries k (get_or entries k (lit.Truth false)) typed found)

    by_test : (b : Bool) → nat_lt i (length entries) ≡ b → (l : Lit) × ((if b then slice_get entries i else last_or None entries) ≡ Some l) × (literal_type l ≡ Some t)
    by_test true e = at i (ltb-true _ _ e) (slice_get entries i) refl
    by_test false e = at (length entries - 1) (omega arith) (last_or None entries) (last-at entries some)

table-is : (t : Ty) (entries : List Lit) (i : ℕ) → 0 < length entries → AllByRecursion (λ (l : Lit). literal_type l ≡ Some t) entries
    → IsValue (Some t) (number_at entries i) (value_or_nothing (option_and_then lit_value_of (entry_at entries i)))
table-is t entries i some typed =
    let entry = entry-typed t entries i some typed in
    subst (λ o. IsValue (Some t) (option_and_then literal_number o) (value_or_nothing (option_and_then lit_value_of o))) (sym entry.1)
    (subst (λ u. IsValue u (literal_number entry.0) (value_or_nothing (lit_value_of entry.0))) entry.2 (literal-is entry.0))

found-is : (p : ProgramTree) (found : Option DeclTree) (i : ℕ) → FoundTyped p found
    → IsValue (option_and_then entry_type found) (option_and_then (λ entries. number_at entries i) (option_and_then (λ (d : DeclTree). entries_of d.behaviour) found))
    (value_or_nothing (option_and_then (λ entries. option_and_then lit_value_of (entry_at entries i)) (option_and_then (λ (d : DeclTree). entries_of d.behaviour) found)))
found-is p None i typed = tt
found-is p (Some d) i typed = by_behaviour d.ty d.behaviour typed
  where
    by_behaviour : (t : Ty) (b : BehaviourTree) → IsTypedAs p t b → IsValue (if is_table b then Some t else None) (option_and_then (λ entries. number_at entries i) (entries_of b))
        (value_or_nothing (option_and_then (λ entries. option_and_then lit_value_of (entry_at entries i)) (entries_of b)))
    by_behaviour t (Plain e) h = tt
    by_behaviour t (Input port) h = tt
    by_behaviour t (Table entries) h = table-is t entries i h.0 h.1
    by_behaviour t (Reactive init clauses) h = tt

look-is : (t : Option Ty) (number : ℕ → Option ℕ) (entry : ℕ → Value) → ((i : ℕ) → IsValue t (number i) (entry i)) → (s : Option Ty) (o : Option ℕ) (index : Value) → IsValue s o index
    → IsValue (look_type t s) (option_and_then number o) (entry (number_of index))
look-is t number entry each (Some U8) (Some i) index is = subst (λ k. IsValue t (number i) (entry k)) (sym (number-is U8 i index is)) (each i)
look-is t number entry each (Some U8) None index is = absurd is
look-is t number entry each (Some U16) o index is = tt
look-is t number entry each (Some ty.Bool) o index is = tt
look-is t number entry each None o index is = tt

-- A name of a part of an expression is one of the whole.
any-left : (x : List ℕ) (xs ys : List (List ℕ)) → list_any (bytes_eq x) xs ≡ true → list_any (bytes_eq x) (xs ++ ys) ≡ true
any-left x xs ys h = list_any-append (bytes_eq x) xs ys ∙ ap (λ b. b || list_any (bytes_eq x) ys) h

any-right : (x : List ℕ) (xs ys : List (List ℕ)) → list_any (bytes_eq x) ys ≡ true → list_any (bytes_eq x) (xs ++ ys) ≡ true
any-right x xs ys h = list_any-append (bytes_eq x) xs ys ∙ ap (λ b. list_any (bytes_eq x) xs || b) h ∙ or_true (list_any (bytes_eq x) xs)
  where
    or_true : (b : Bool) → (b || true) ≡ true
    or_true true = refl
    or_true false = refl

module _ (p : ProgramTree) (typed : IsTyped p) (values : List Value) (names : List ℕ → Option ℕ) where
  -- What stands at the number of each name in the expression is the name's value.
  abbrev pub AreNamed : Tree → Type 0
  AreNamed e = (x : List ℕ) → IsNamedIn x e → IsValue (type_of_name p x) (names x) (value_named p values x)

  has : (e : Tree) → AreNamed e → HasValue (type_of p e) (evaluate p names e)
  has e named = evaluate-typed p typed names e (λ x inside. has-value (type_of_name p x) (names x) (value_named p values x) (named x inside))

  pub value-is : (e : Tree) → AreNamed e → IsValue (type_of p e) (evaluate p names e) (value_of p values e)
  value-is (Const l) named = literal-is l
  value-is (Name x) named = named x (ap (λ b. b || false) ((bytes_eq-Decides x x).1 refl))
  value-is (Unary op a) named = unary-is op (type_of p a) (evaluate p names a) (value_of p values a) (value-is a named) (has (Unary op a) named)
  value-is (Binary op a b) named =
      let left = value-is a (λ x h. named x (any-left x (names_in a) (names_in b) h)) in
      let right = value-is b (λ x h. named x (any-right x (names_in a) (names_in b) h)) in
      binary-is op (type_of p a) (type_of p b) (evaluate p names a) (evaluate p names b) (value_of p values a) (value_of p values b) left right (has (Binary op a b) named)
  value-is (Shift side a amount) named = shift-is side amount (type_of p a) (evaluate p names a) (value_of p values a) (value-is a named) (has (Shift side a amount) named)
  value-is (If c a b) named =
      let branches = names_in a ++ names_in b in
      let test = value-is c (λ x h. named x (any-left x (names_in c) branches h)) in
      let first = value-is a (λ x h. named x (any-right x (names_in c) branches (any-left x (names_in a) (names_in b) h))) in
      let second = value-is b (λ x h. named x (any-right x (names_in c) branches (any-right x (names_in a) (names_in b) h))) in
      if-is (type_of p c) (type_of p a) (type_of p b) (evaluate p names c) (evaluate p names a) (evaluate p names b) (value_of p values c) (value_of p values a) (value_of p values b) test first second
  value-is (Convert to a) named = convert-is to (type_of p a) (evaluate p names a) (value_of p values a) (value-is a named) (has (Convert to a) named)
  value-is (Look table index) named =
      look-is (type_of_table p table) (look_value p table) (λ i. value_or_nothing (entry_in p table i)) (λ i. found-is p (decl_named p.decls table) i (decl-typed p typed table))
      (type_of p index) (evaluate p names index) (value_of p values index) (value-is index named)
