-- The names in an expression that has a type are those of definitions that are no tables; and the expression that a definition is
-- assigned has its type.
use Rattle.std.specs.Prelude.{◌≡◌, ℕ, ◌<◌, ◌⊎◌, Bool, true, false, List, ◌++◌, Option, Some, None, if◌then◌else◌, refl, option_map, option_and_then}
use Rattle.std.specs.List.{list_any}
use Rattle.std.specs.Str.{bytes_eq}
use Rattle.std.proofs.Common.{sym, ap, subst, ◌∙◌, arith}
use Rattle.std.proofs.lemmas.Bool.{false≢true, or_cases}
use Rattle.std.proofs.lemmas.List.Folds.{list_any-append}
use Rattle.std.proofs.lemmas.Option.{none-some, same_Some}
use Rattle.std.proofs.lemmas.Slice.Eq.{bytes_eq-Decides}
use mathlib.Core.Logic.{inl, inr}
use Rattle.frp_tree.specs.declared.syntax.Ty.{Ty}
use Rattle.frp_tree.specs.declared.syntax.Ty.TheVariants as ty
use Rattle.frp_tree.specs.Tree.{Tree, Const, Name, Unary, Binary, Shift, If, Convert, Look, ClauseTree, BehaviourTree, Plain, Input, Table, Reactive, DeclTree, ProgramTree}
use Rattle.efrp_meaning.specs.Decls.{decl_named, is_table}
use Rattle.efrp_meaning.specs.Meaning.{map_two, map_three, Later, Now, clause_rule, modulus_of, look_value, evaluate}
use Rattle.efrp_meaning.specs.Needs.{names_in, IsNamedIn, clause_for}
use Rattle.efrp_meaning.specs.States.{HasValue}
use Rattle.efrp_meaning.specs.Types.{type_of, type_of_name, value_type, IsTyped, IsTypedAs}
use Rattle.efrp_meaning.specs.Values.{unary_value, binary_value, shift_value, if_value, convert_value, modulus}
use Rattle.efrp_meaning.proofs.DefinedLaws.{ClauseTyped, clause-typed}
use Rattle.efrp_meaning.proofs.TypedValueLaws.{evaluate-typed}
use Rattle.two_phase.specs.Plans.{assigned_expression, expression_by}

-- An expression has no value where a name in it has none.
no-two : (f : ℕ → ℕ → ℕ) (a : Option ℕ) → map_two f a None ≡ None
no-two f None = refl
no-two f (Some a) = refl

no-middle : (f : ℕ → ℕ → ℕ → ℕ) (a c : Option ℕ) → map_three f a None c ≡ None
no-middle f None c = refl
no-middle f (Some a) c = refl

no-last : (f : ℕ → ℕ → ℕ → ℕ) (a b : Option ℕ) → map_three f a b None ≡ None
no-last f None b = refl
no-last f (Some a) None = refl
no-last f (Some a) (Some b) = refl

module _ (p : ProgramTree) (names : List ℕ → Option ℕ) (y : List ℕ) (none : names y ≡ None) where
  in-part : (xs ys : List (List ℕ)) → list_any (bytes_eq y) (xs ++ ys) ≡ true → (list_any (bytes_eq y) xs ≡ true) ⊎ (list_any (bytes_eq y) ys ≡ true)
  in-part xs ys h = or_cases (list_any (bytes_eq y) xs) (list_any (bytes_eq y) ys) (sym (list_any-append (bytes_eq y) xs ys) ∙ h)

  no-value : (e : Tree) → IsNamedIn y e → evaluate p names e ≡ None
  no-value (Const literal) h = absurd (false≢true h)
  no-value (Name x) h = elim (or_cases (bytes_eq y x) false h) [ inl same ↦ ap names (sym ((bytes_eq-Decides y x).0 same)) ∙ none | inr none_there ↦ absurd (false≢true none_there) ]
  no-value (Unary op a) h = ap (map_two (unary_value op) (modulus_of p a)) (no-value a h) ∙ no-two (unary_value op) (modulus_of p a)
  no-value (Binary op a b) h = elim (in-part (names_in a) (names_in b) h) [
    | inl g ↦ ap (λ o. map_three (binary_value op) (modulus_of p a) o (evaluate p names b)) (no-value a g) ∙ no-middle (binary_value op) (modulus_of p a) (evaluate p names b)
    | inr g ↦ ap (map_three (binary_value op) (modulus_of p a) (evaluate p names a)) (no-value b g) ∙ no-last (binary_value op) (modulus_of p a) (evaluate p names a)
  ]
  no-value (Shift side a amount) h = ap (map_two (shift_value side amount) (modulus_of p a)) (no-value a h) ∙ no-two (shift_value side amount) (modulus_of p a)
  no-value (If c a b) h = elim (in-part (names_in c) (names_in a ++ names_in b) h) [
    | inl g ↦ ap (λ o. map_three if_value o (evaluate p names a) (evaluate p names b)) (no-value c g)
    | inr g ↦ elim (in-part (names_in a) (names_in b) g) [
      | inl k ↦ ap (λ o. map_three if_value (evaluate p names c) o (evaluate p names b)) (no-value a k) ∙ no-middle if_value (evaluate p names c) (evaluate p names b)
      | inr k ↦ ap (map_three if_value (evaluate p names c) (evaluate p names a)) (no-value b k) ∙ no-last if_value (evaluate p names c) (evaluate p names a)
    ]
  ]
  no-value (Convert to a) h = ap (option_map (convert_value to)) (no-value a h)
  no-value (Look table index) h = ap (option_and_then (look_value p table)) (no-value index h)

-- So the names in an expression that has a type have one.
module _ (p : ProgramTree) (typed : IsTyped p) where
  zero-below : (t : Ty) → 0 < modulus t
  zero-below ty.Bool = omega arith
  zero-below ty.U8 = omega arith
  zero-below ty.U16 = omega arith

  -- Each name that has a type stands for 0, but for one.
  abbrev zeros-but : List ℕ → List ℕ → Option ℕ
  zeros-but y x = if bytes_eq y x then None else option_map (λ (k : Ty). 0) (type_of_name p x)

  no-type : (e : Tree) (t : Ty) (y : List ℕ) → type_of p e ≡ Some t → IsNamedIn y e → type_of_name p y ≡ None → ⊥
  no-type e t y its inside none =
      subst (HasValue (Some t)) (no-value p (zeros-but y) y (ap (λ b. if b then None else option_map (λ (k : Ty). 0) (type_of_name p y)) ((bytes_eq-Decides y y).1 refl)) e inside)
      (subst (λ o. HasValue o (evaluate p (zeros-but y) e)) its (evaluate-typed p typed (zeros-but y) e known))
    where
      of-type : (o : Option Ty) → HasValue o (option_map (λ (k : Ty). 0) o)
      of-type None = tt
      of-type (Some k) = zero-below k

      known : (x : List ℕ) → IsNamedIn x e → HasValue (type_of_name p x) (zeros-but y x)
      known x h = by_name (bytes_eq y x) refl
        where
          by_name : (b : Bool) → bytes_eq y x ≡ b → HasValue (type_of_name p x) (if b then None else option_map (λ (k : Ty). 0) (type_of_name p x))
          by_name true same = subst (λ o. HasValue o None) (sym none ∙ ap (type_of_name p) ((bytes_eq-Decides y x).0 same)) tt
          by_name false other = of-type (type_of_name p x)

  -- A name in it is that of a definition which is no table.
  pub value-named : (e : Tree) (t : Ty) (y : List ℕ) → type_of p e ≡ Some t → IsNamedIn y e → (k : DeclTree) × (decl_named p.decls y ≡ Some k) × (is_table k.behaviour ≡ false)
  value-named e t y its inside = by_found (decl_named p.decls y) refl
    where
      by_found : (o : Option DeclTree) → decl_named p.decls y ≡ o → (k : DeclTree) × (decl_named p.decls y ≡ Some k) × (is_table k.behaviour ≡ false)
      by_found None found = absurd (no-type e t y its inside (ap (option_and_then value_type) found))
      by_found (Some k) found = by_table (is_table k.behaviour) refl
        where
          by_table : (b : Bool) → is_table k.behaviour ≡ b → (c : DeclTree) × (decl_named p.decls y ≡ Some c) × (is_table c.behaviour ≡ false)
          by_table false not_so = (k, found, not_so)
          by_table true is = absurd (no-type e t y its inside (ap (option_and_then value_type) found ∙ ap (λ b. if b then None else Some k.ty) is))

-- The expression that a definition is assigned has a type.
module _ (p : ProgramTree) where
  by-clause : (t : Ty) (o : Option ClauseTree) (e : Tree) → ClauseTyped p t o → expression_by (clause_rule o) ≡ Some e → type_of p e ≡ Some t
  by-clause t None e its is = absurd (none-some e is)
  by-clause t (Some c) e its is = by_later c.later is
    where
      by_later : (b : Bool) → expression_by (if b then Later c.expr else Now c.expr) ≡ Some e → type_of p e ≡ Some t
      by_later true h = ap (type_of p) (sym (same_Some c.expr e h)) ∙ its
      by_later false h = ap (type_of p) (sym (same_Some c.expr e h)) ∙ its

  pub assigned-typed : (event : List ℕ) (t : Ty) (b : BehaviourTree) (e : Tree) → IsTypedAs p t b → assigned_expression event b ≡ Some e → type_of p e ≡ Some t
  assigned-typed event t (Plain k) e its is = ap (type_of p) (sym (same_Some k e is)) ∙ its
  assigned-typed event t (Input port) e its is = absurd (none-some e is)
  assigned-typed event t (Table entries) e its is = absurd (none-some e is)
  assigned-typed event t (Reactive init clauses) e its is = by-clause t (clause_for event clauses) e (clause-typed p t event clauses its.1) is
