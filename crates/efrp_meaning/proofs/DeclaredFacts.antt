-- The names in an expression that has a type are declared; so a typed program's definitions depend on declared ones alone.
use Rattle.std.specs.Prelude.{◌≡◌, ℕ, ◌⊎◌, Bool, true, false, not, ◌||◌, List, [], ◌∷◌, ◌++◌, map, Option, Some, None, if◌then◌else◌, refl, option_and_then}
use Rattle.std.specs.Str.{bytes_eq}
use Rattle.std.proofs.Common.{sym, ap, subst, ◌∙◌}
use Rattle.std.proofs.lemmas.Option.{none-some}
use Rattle.std.proofs.lemmas.Bool.{false≢true}
use Rattle.std.proofs.lemmas.List.Folds.{list_any-append}
use Rattle.std.proofs.lemmas.Slice.Eq.{bytes_eq-Decides}
use mathlib.Core.Logic.{inl, inr}
use Rattle.frp_tree.specs.declared.syntax.Ty.{Ty}
use Rattle.frp_tree.specs.declared.syntax.Ty.TheVariants.{U8, U16}
use Rattle.frp_tree.specs.declared.syntax.Ty.TheVariants as ty
use Rattle.frp_tree.specs.declared.syntax.UnOp.{UnOp}
use Rattle.frp_tree.specs.declared.syntax.UnOp.TheVariants.{Com, Not}
use Rattle.frp_tree.specs.Tree.{Tree, Const, Name, Unary, Binary, Shift, If, Convert, Look, ClauseTree, BehaviourTree, Plain, Input, Table, Reactive, DeclTree, ProgramTree}
use Rattle.efrp_meaning.specs.Decls.{decl_named}
use Rattle.efrp_meaning.specs.Types.{value_type, type_of, type_of_name, type_of_table, unary_type, binary_type, common_type, shift_type, if_type, convert_type, look_type, IsTypedAs, IsTyped}
use Rattle.efrp_meaning.specs.Needs.{names_in, IsNamedIn, clause_for}
use Rattle.efrp_meaning.specs.Meaning.{Later, Now, clause_rule, rule_on}
use Rattle.efrp_meaning.specs.Causal.{dependencies_by, DependsOn}
use Rattle.efrp_meaning.proofs.NameFacts.{is_in, without}
use Rattle.efrp_meaning.proofs.TypedValueLaws.{FoundTyped, decl-typed, no_type}
use Rattle.efrp_meaning.proofs.DefinedLaws.{declared-is-named, ClauseTyped, clause-typed}

-- Where an operator has a type, so have its operands.
abbrev HasType : Option Ty → Type 0
HasType o = (t : Ty) × (o ≡ Some t)

operand-typed : (f : Option Ty → Option Ty) → f None ≡ None → (o : Option Ty) → HasType (f o) → HasType o
operand-typed f strict None has = absurd (none-some has.0 (sym strict ∙ has.1))
operand-typed f strict (Some t) has = (t, refl)

no-common-right : (a : Option Ty) → common_type a None ≡ None
no-common-right None = refl
no-common-right (Some t) = refl

no-unary : (op : UnOp) → unary_type op None ≡ None
no-unary Com = refl
no-unary Not = refl

no-convert : (to : Ty) → convert_type to None ≡ None
no-convert ty.Bool = refl
no-convert U8 = refl
no-convert U16 = refl

no-if-first : (c b : Option Ty) → if_type c None b ≡ None
no-if-first None b = refl
no-if-first (Some ty.Bool) b = refl
no-if-first (Some U8) b = refl
no-if-first (Some U16) b = refl

no-if-second : (c a : Option Ty) → if_type c a None ≡ None
no-if-second None a = refl
no-if-second (Some ty.Bool) a = no-common-right a
no-if-second (Some U8) a = refl
no-if-second (Some U16) a = refl

-- A name of two parts is one of the first or of the second.
in-part : (xs ys : List (List ℕ)) (x : List ℕ) → is_in (xs ++ ys) x ≡ true → (is_in xs x ≡ true) ⊎ (is_in ys x ≡ true)
in-part xs ys x h = by_first (is_in xs x) (sym (list_any-append (bytes_eq x) xs ys) ∙ h)
  where
    by_first : (b : Bool) → (b || is_in ys x) ≡ true → (b ≡ true) ⊎ (is_in ys x ≡ true)
    by_first true e = inl refl
    by_first false e = inr e

or-neither : (b : Bool) → (b || false) ≡ true → b ≡ true
or-neither true h = refl
or-neither false h = h

in-kept : (x y : List ℕ) (names : List (List ℕ)) → is_in (without x names) y ≡ true → is_in names y ≡ true
in-kept x y [] h = h
in-kept x y (n ∷ ns) h = by_tests (bytes_eq x n) (bytes_eq y n) refl h (in-kept x y ns)
  where
    by_tests : (k b : Bool) → bytes_eq y n ≡ b → is_in (if not k then n ∷ without x ns else without x ns) y ≡ true → (is_in (without x ns) y ≡ true → is_in ns y ≡ true) → (b || is_in ns y) ≡ true
    by_tests k true e h rest = refl
    by_tests true false e h rest = rest h
    by_tests false false e h rest = rest (sym (ap (λ b. b || is_in (without x ns) y) e) ∙ h)

module _ (p : ProgramTree) where
  abbrev declared : List (List ℕ)
  declared = map (λ (d : DeclTree). d.name) p.decls

  name-declared : (x : List ℕ) → HasType (type_of_name p x) → is_in declared x ≡ true
  name-declared x has = by_found (decl_named p.decls x) refl has
    where
      by_found : (o : Option DeclTree) → decl_named p.decls x ≡ o → HasType (option_and_then value_type o) → is_in declared x ≡ true
      by_found None e has = absurd (none-some has.0 has.1)
      by_found (Some d) e has = declared-is-named p.decls x d e

  names-declared : (e : Tree) → HasType (type_of p e) → (x : List ℕ) → IsNamedIn x e → is_in declared x ≡ true
  names-declared (Const literal) has x inside = absurd (false≢true inside)
  names-declared (Name y) has x inside = subst (λ z. is_in declared z ≡ true) (sym ((bytes_eq-Decides x y).0 (or-neither (bytes_eq x y) inside))) (name-declared y has)
  names-declared (Unary op a) has x inside = names-declared a (operand-typed (unary_type op) (no-unary op) (type_of p a) has) x inside
  names-declared (Binary op a b) has x inside =
      let first = operand-typed (λ (t : Option Ty). binary_type op t (type_of p b)) (no_type op None (type_of p b) refl) (type_of p a) has in
      let second = operand-typed (binary_type op (type_of p a)) (no_type op (type_of p a) None (no-common-right (type_of p a))) (type_of p b) has in
      elim (in-part (names_in a) (names_in b) x inside) [ inl h ↦ names-declared a first x h | inr h ↦ names-declared b second x h ]
  names-declared (Shift side a amount) has x inside = names-declared a (operand-typed (λ (t : Option Ty). shift_type t amount) refl (type_of p a) has) x inside
  names-declared (If c a b) has x inside =
      let test = operand-typed (λ (t : Option Ty). if_type t (type_of p a) (type_of p b)) refl (type_of p c) has in
      let first = operand-typed (λ (t : Option Ty). if_type (type_of p c) t (type_of p b)) (no-if-first (type_of p c) (type_of p b)) (type_of p a) has in
      let second = operand-typed (if_type (type_of p c) (type_of p a)) (no-if-second (type_of p c) (type_of p a)) (type_of p b) has in
      elim (in-part (names_in c) (names_in a ++ names_in b) x inside) [
        | inl h ↦ names-declared c test x h
        | inr h ↦ elim (in-part (names_in a) (names_in b) x h) [ inl g ↦ names-declared a first x g | inr g ↦ names-declared b second x g ]
      ]
  names-declared (Convert to a) has x inside = names-declared a (operand-typed (convert_type to) (no-convert to) (type_of p a) has) x inside
  names-declared (Look table index) has x inside = names-declared index (operand-typed (look_type (type_of_table p table)) refl (type_of p index) has) x inside

  by-clause : (t : Ty) (x y : List ℕ) (expr : Tree) (later : Bool) → type_of p expr ≡ Some t → is_in (dependencies_by x (if later then Later expr else Now expr)) y ≡ true → is_in declared y ≡ true
  by-clause t x y expr true its inside = absurd (false≢true inside)
  by-clause t x y expr false its inside = names-declared expr (t, its) y (in-kept x y (names_in expr) inside)

  by-clauses : (t : Ty) (x y : List ℕ) (c : Option ClauseTree) → ClauseTyped p t c → is_in (dependencies_by x (clause_rule c)) y ≡ true → is_in declared y ≡ true
  by-clauses t x y None its inside = absurd (false≢true inside)
  by-clauses t x y (Some c) its inside = by-clause t x y c.expr c.later its inside

  by-behaviour : (event : List ℕ) (t : Ty) (b : BehaviourTree) → IsTypedAs p t b → (x y : List ℕ) → is_in (dependencies_by x (rule_on event b)) y ≡ true → is_in declared y ≡ true
  by-behaviour event t (Plain e) its x y inside = names-declared e (t, its) y inside
  by-behaviour event t (Input port) its x y inside = absurd (false≢true inside)
  by-behaviour event t (Table entries) its x y inside = absurd (false≢true inside)
  by-behaviour event t (Reactive init clauses) its x y inside = by-clauses t x y (clause_for event clauses) (clause-typed p t event clauses its.1) inside

  pub depends-on-declared : IsTyped p → (event x y : List ℕ) → DependsOn p event x y → is_in declared y ≡ true
  depends-on-declared typed event x y depends = by_found (decl_named p.decls x) (decl-typed p typed x) depends
    where
      by_found : (o : Option DeclTree) → FoundTyped p o → is_in (elim o [ Some d ↦ dependencies_by x (rule_on event d.behaviour) | None ↦ [] ]) y ≡ true → is_in declared y ≡ true
      by_found None its inside = absurd (false≢true inside)
      by_found (Some d) its inside = by-behaviour event d.ty d.behaviour its x y inside
