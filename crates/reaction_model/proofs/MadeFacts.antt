-- Rows of values that are made one definition or output after the other.
use Rattle.std.specs.Prelude.{◌≡◌, ℕ, ◌+◌, Bool, true, false, List, [], ◌∷◌, ◌++◌, map, filter, slice_get, flat_map, Option, Some, None, option_and_then, if◌then◌else◌, refl}
use Rattle.std.specs.List.{AllByRecursion}
use Rattle.std.specs.Str.{bytes_eq}
use Rattle.std.proofs.Common.{sym, ap, subst, ◌∙◌, arith, take}
use Rattle.std.proofs.Math.Nat.{mod-eq_of_lt, mod-lt}
use Rattle.std.proofs.Math.Path.{ap₂}
use Rattle.std.proofs.lemmas.Grind.{flat_map-append}
use Rattle.std.proofs.lemmas.List.{append-nil, take_more}
use Rattle.std.proofs.lemmas.Option.{slice_get_within, get_or_from_slice_get}
use Rattle.std.proofs.lemmas.Slice.Eq.{bytes_eq-Decides}
use Rattle.frp_tree.specs.declared.syntax.Ty.{Ty}
use Rattle.frp_tree.specs.declared.syntax.Ty.TheVariants.{U8, U16}
use Rattle.frp_tree.specs.declared.syntax.Ty.TheVariants as ty
use Rattle.frp_tree.specs.declared.syntax.Value.{Value}
use Rattle.frp_tree.specs.Literals.{lit_value_of}
use Rattle.frp_tree.specs.Tree.{Tree, ClauseTree, BehaviourTree, Plain, Input, Table, Reactive, DeclTree, OutputTree, ProgramTree}
use Rattle.efrp_meaning.specs.Decls.{decl_named, is_table, is_reactive}
use Rattle.efrp_meaning.specs.Types.{type_of, type_of_name, value_type, IsTypedAs, IsTyped}
use Rattle.efrp_meaning.specs.Values.{literal_number}
use Rattle.efrp_meaning.specs.Needs.{clause_for}
use Rattle.efrp_meaning.specs.Meaning.{State, Samples, map_two, all_defined, old_state, Later, Now, clause_rule, rule_on, stands_for, value_by, value_on, expression_on, depth, new_state_by, new_state, port_values, first_state_of, initial_state}
use Rattle.efrp_meaning.specs.States.{NamesDiffer}
use Rattle.efrp_meaning.proofs.TypedValueLaws.{FoundTyped, decl-typed}
use Rattle.efrp_meaning.proofs.DefinedLaws.{ClauseTyped, clause-typed}
use Rattle.efrp_meaning.proofs.MeaningLaws.{value_on-solves}
use Rattle.efrp_types.specs.Numbers.{decl_number}
use Rattle.reaction_model.specs.States.{IsOf, AreOf, HasTypes, numbers_of}
use Rattle.reaction_model.specs.Values.{value_in, value_or_nothing, value_named, value_of, new_values_by, first_values, byte_of}
use Rattle.reaction_model.specs.Stands.{IsValue, AreValues}
use Rattle.reaction_model.proofs.LookupFacts.{named-at}
use Rattle.reaction_model.proofs.OperatorLaws.{number-is}
use Rattle.reaction_model.proofs.EvaluateLaws.{literal-is, value-is}
use Rattle.reaction_model.proofs.NumberFacts.{number-at, name-finds, by-number}
use Rattle.reaction_model.proofs.SettledFacts.{at}

-- Each is the value of the type and the number at its place.
abbrev pub Made : List Ty → List (Option ℕ) → List Value → Type 0
Made [] [] [] = Unit {0}
Made (t ∷ ts) (o ∷ os) (v ∷ vs) = IsValue (Some t) o v × Made ts os vs
Made _ _ _ = ⊥

pub made-after : (ts ts' : List Ty) (os os' : List (Option ℕ)) (vs vs' : List Value) → Made ts os vs → Made ts' os' vs' → Made (ts ++ ts') (os ++ os') (vs ++ vs')
made-after [] ts' [] os' [] vs' first second = second
made-after (t ∷ ts) ts' (o ∷ os) os' (v ∷ vs) vs' first second = (first.0, made-after ts ts' os os' vs vs' first.1 second)
made-after [] ts' (o ∷ os) os' vs vs' first second = absurd first
made-after [] ts' [] os' (v ∷ vs) vs' first second = absurd first
made-after (t ∷ ts) ts' [] os' vs vs' first second = absurd first
made-after (t ∷ ts) ts' (o ∷ os) os' [] vs' first second = absurd first

is-of : (t : Ty) (n : ℕ) → IsOf t (value_in t n)
is-of ty.Bool n = tt
is-of U8 n = mod-lt n (omega arith)
is-of U16 n = mod-lt n (omega arith)

pub made-defined : (ts : List Ty) (os : List (Option ℕ)) (vs : List Value) → Made ts os vs → (all_defined os ≡ Some (numbers_of vs)) × AreOf ts vs
made-defined [] [] [] made = (refl, tt)
made-defined (t ∷ ts) (Some n ∷ os) (v ∷ vs) made =
    let rest = made-defined ts os vs made.1 in (
      ap₂ (map_two (λ m ns. m ∷ ns)) (ap Some (sym (number-is t n v made.0))) rest.0,
      (subst (IsOf t) (sym made.0.1) (is-of t n), rest.1),
    )
made-defined (t ∷ ts) (None ∷ os) (v ∷ vs) made = absurd made.0
made-defined [] (o ∷ os) vs made = absurd made
made-defined [] [] (v ∷ vs) made = absurd made
made-defined (t ∷ ts) [] vs made = absurd made
made-defined (t ∷ ts) (o ∷ os) [] made = absurd made

-- The type of a definition that has a state.
abbrev pub state_type : Ty → BehaviourTree → List Ty
state_type t b = if is_reactive b then t ∷ [] else []

abbrev pub state_types : List DeclTree → List Ty
state_types ds = flat_map (λ (d : DeclTree). state_type d.ty d.behaviour) ds

pub types-of-states : (ds : List DeclTree) → state_types ds ≡ map (λ (d : DeclTree). d.ty) (filter (λ d. is_reactive d.behaviour) ds)
types-of-states [] = refl
types-of-states (d ∷ ds) = by_test (is_reactive d.behaviour) (types-of-states ds)
  where
    by_test : (b : Bool) → state_types ds ≡ map (λ (c : DeclTree). c.ty) (filter (λ c. is_reactive c.behaviour) ds)
        → (if b then d.ty ∷ [] else []) ++ state_types ds ≡ map (λ (c : DeclTree). c.ty) (if b then d ∷ filter (λ c. is_reactive c.behaviour) ds else filter (λ c. is_reactive c.behaviour) ds)
    by_test true rest = ap (λ ts. d.ty ∷ ts) rest
    by_test false rest = rest

-- First states.
module _ (p : ProgramTree) where
  first-made : (d : DeclTree) (b : BehaviourTree) → IsTypedAs p d.ty b → Made (state_type d.ty b) (first_state_of b) (first_values b)
  first-made d (Plain e) its = tt
  first-made d (Input port) its = tt
  first-made d (Table entries) its = tt
  first-made d (Reactive init clauses) its = (subst (λ o. IsValue o (literal_number init) (value_or_nothing (lit_value_of init))) its.0 (literal-is init), tt)

  all-first-made : (ds : List DeclTree) → AllByRecursion (λ (d : DeclTree). IsTypedAs p d.ty d.behaviour) ds
      → Made (state_types ds) (flat_map (λ d. first_state_of d.behaviour) ds) (flat_map (λ d. first_values d.behaviour) ds)
  all-first-made [] its = tt
  all-first-made (d ∷ ds) its =
      made-after (state_type d.ty d.behaviour) (state_types ds) (first_state_of d.behaviour) (flat_map (λ c. first_state_of c.behaviour) ds) (first_values d.behaviour) (flat_map (λ c. first_values c.behaviour) ds)
      (first-made d d.behaviour its.0) (all-first-made ds its.1)

  pub initial-is : IsTyped p → (initial_state p ≡ Some (numbers_of (flat_map (λ (d : DeclTree). first_values d.behaviour) p.decls))) × HasTypes p (flat_map (λ (d : DeclTree). first_values d.behaviour) p.decls)
  initial-is typed =
      let all = made-defined (state_types p.decls) (flat_map (λ d. first_state_of d.behaviour) p.decls) (flat_map (λ d. first_values d.behaviour) p.decls) (all-first-made p.decls typed.decls) in
      (all.0, subst (λ ts. AreOf ts (flat_map (λ (d : DeclTree). first_values d.behaviour) p.decls)) (types-of-states p.decls) all.1)

-- The new states of these definitions.
abbrev pub new_of : ProgramTree → State → Samples → List ℕ → List DeclTree → List (Option ℕ)
new_of p s j event ds = flat_map (λ (d : DeclTree). new_state_by p s j event d.name (rule_on event d.behaviour)) ds

flat-more : {A B : Type 0} (f : A → List B) (xs : List A) (x : A) → flat_map f (xs ++ x ∷ []) ≡ flat_map f xs ++ f x
flat-more f xs x = flat_map-append f xs (x ∷ []) ∙ ap (λ ys. flat_map f xs ++ ys) (append-nil (f x))

-- New states and port values, where the values of an event stand at the numbers of the definitions.
module _ (p : ProgramTree) (typed : IsTyped p) (differ : NamesDiffer p) (s : State) (j : Samples) (event : List ℕ) (values : List Value) (are : AreValues p s j event values) where
  abbrev on : List ℕ → Option ℕ
  on y = value_on p s j event y (depth p)

  named : (y : List ℕ) → IsValue (type_of_name p y) (on y) (value_named p values y)
  named y = of_number (decl_number p y) refl
    where
      of_number : (o : Option ℕ) → decl_number p y ≡ o → IsValue (type_of_name p y) (on y) (value_named p values y)
      of_number None e =
          let none = named-at p y ∙ ap (option_and_then (slice_get p.decls)) e in
          subst (λ o. IsValue (option_and_then value_type o) (on y) (value_named p values y)) (sym none) tt
      of_number (Some k) e =
          let c = by-number p y k e in
          subst (λ z. IsValue (type_of_name p y) (on z) (value_named p values y)) c.name
          (subst (λ o. IsValue (option_and_then value_type o) (on c.decl.name) (value_named p values y)) (sym c.found)
          (subst (λ o. IsValue (value_type c.decl) (on c.decl.name) (value_or_nothing (option_and_then (slice_get values) o))) (sym e)
          (are k c.decl c.there)))

  port-is : (e : Tree) → IsValue (type_of p e) (expression_on p s j event e None (depth p)) (value_of p values e)
  port-is e = value-is p typed values (stands_for p s on None) e (λ y inside. named y)

  -- The own name stands for the old state.
  own-is : (x : List ℕ) (e : Tree) → IsValue (type_of_name p x) (old_state p s x) (value_named p values x) → IsValue (type_of p e) (expression_on p s j event e (Some x) (depth p)) (value_of p values e)
  own-is x e own = value-is p typed values (stands_for p s on (Some x)) e (λ y inside. by_name y (bytes_eq x y) refl)
    where
      by_name : (y : List ℕ) (b : Bool) → bytes_eq x y ≡ b → IsValue (type_of_name p y) ((if b then old_state p s else on) y) (value_named p values y)
      by_name y true same = subst (λ z. IsValue (type_of_name p z) (old_state p s z) (value_named p values z)) ((bytes_eq-Decides x y).0 same) own
      by_name y false other = named y

  -- What has a value has it by another way too.
  other-way : (t : Ty) (o o' : Option ℕ) (v : Value) → ((n : ℕ) → o ≡ Some n → o' ≡ Some n) → IsValue (Some t) o v → IsValue (Some t) o' v
  other-way t None o' v same is = absurd is
  other-way t (Some n) o' v same is = subst (λ k. IsValue (Some t) k v) (sym (same n refl)) is

  module _ (i : ℕ) (d : DeclTree) (found : slice_get p.decls i ≡ Some d) where
    finds : decl_named p.decls d.name ≡ Some d
    finds = name-finds p differ i d found

    by_clause : (e : Tree) (later : Bool) → type_of p e ≡ Some d.ty → type_of_name p d.name ≡ Some d.ty → rule_on event d.behaviour ≡ (if later then Later e else Now e) → IsValue (Some d.ty) (on d.name) (at values i)
        → Made (d.ty ∷ []) (new_state_by p s j event d.name (if later then Later e else Now e)) (new_values_by p values (at values i) (if later then Later e else Now e))
    by_clause e false its type rule is = (is, tt)
    by_clause e true its type rule is = (subst (λ t. IsValue t (expression_on p s j event e (Some d.name) (depth p)) (value_of p values e)) its (own-is d.name e own), tt)
      where
        old : IsValue (Some d.ty) (old_state p s d.name) (at values i)
        old = other-way d.ty (on d.name) (old_state p s d.name) (at values i) (λ n h. sym (ap (value_by p s j on d.name) rule) ∙ value_on-solves p s j event (depth p) d.name n d finds h) is

        own : IsValue (type_of_name p d.name) (old_state p s d.name) (value_named p values d.name)
        own = subst (λ o. IsValue (type_of_name p d.name) (old_state p s d.name) (value_or_nothing (option_and_then (slice_get values) o))) (sym (number-at p differ i d found))
            (subst (λ t. IsValue t (old_state p s d.name) (at values i)) (sym type) old)

    by_clauses : (c : Option ClauseTree) → ClauseTyped p d.ty c → type_of_name p d.name ≡ Some d.ty → rule_on event d.behaviour ≡ clause_rule c → IsValue (Some d.ty) (on d.name) (at values i)
        → Made (d.ty ∷ []) (new_state_by p s j event d.name (clause_rule c)) (new_values_by p values (at values i) (clause_rule c))
    by_clauses None its type rule is =
        (other-way d.ty (on d.name) (old_state p s d.name) (at values i) (λ n h. sym (ap (value_by p s j on d.name) rule) ∙ value_on-solves p s j event (depth p) d.name n d finds h) is, tt)
    by_clauses (Some c) its type rule is = by_clause c.expr c.later its type rule is

    by_behaviour : (b : BehaviourTree) → d.behaviour ≡ b → IsTypedAs p d.ty b → Made (state_type d.ty b) (new_state_by p s j event d.name (rule_on event b)) (new_values_by p values (at values i) (rule_on event b))
    by_behaviour (Plain e) is its = tt
    by_behaviour (Input port) is its = tt
    by_behaviour (Table entries) is its = tt
    by_behaviour (Reactive init clauses) is its =
        by_clauses (clause_for event clauses) (clause-typed p d.ty event clauses its.1)
        (ap (option_and_then value_type) finds ∙ ap (λ b. if is_table b then None else Some d.ty) is)
        (ap (rule_on event) is)
        (subst (λ b. IsValue (if is_table b then None else Some d.ty) (on d.name) (at values i)) is (are i d found))

    new-made : Made (state_type d.ty d.behaviour) (new_state_by p s j event d.name (rule_on event d.behaviour)) (new_values_by p values (at values i) (rule_on event d.behaviour))
    new-made = by_behaviour d.behaviour refl (subst (FoundTyped p) finds (decl-typed p typed d.name))

  -- One definition more.
  pub new-more : (i : ℕ) (d : DeclTree) (new : List Value) → slice_get p.decls i ≡ Some d → Made (state_types (take i p.decls)) (new_of p s j event (take i p.decls)) new
      → Made (state_types (take (i + 1) p.decls)) (new_of p s j event (take (i + 1) p.decls)) (new ++ new_values_by p values (at values i) (rule_on event d.behaviour))
  new-more i d new found made =
      let inside = slice_get_within p.decls i d found in
      let more = take_more p.decls i d inside ∙ ap (λ c. take i p.decls ++ c ∷ []) (get_or_from_slice_get p.decls i d d found) in
      subst (λ ds. Made (state_types ds) (new_of p s j event ds) (new ++ new_values_by p values (at values i) (rule_on event d.behaviour))) (sym more)
      (subst (λ ts. Made ts (new_of p s j event (take i p.decls ++ d ∷ [])) (new ++ new_values_by p values (at values i) (rule_on event d.behaviour))) (sym (flat-more (λ (c : DeclTree). state_type c.ty c.behaviour) (take i p.decls) d))
      (subst (λ os. Made (state_types (take i p.decls) ++ state_type d.ty d.behaviour) os (new ++ new_values_by p values (at values i) (rule_on event d.behaviour)))
      (sym (flat-more (λ (c : DeclTree). new_state_by p s j event c.name (rule_on event c.behaviour)) (take i p.decls) d))
      (made-after (state_types (take i p.decls)) (state_type d.ty d.behaviour) (new_of p s j event (take i p.decls)) (new_state_by p s j event d.name (rule_on event d.behaviour)) new
      (new_values_by p values (at values i) (rule_on event d.behaviour)) made (new-made i d found))))

  pub new-state-is : (new : List Value) → Made (state_types p.decls) (new_of p s j event p.decls) new → (new_state p s j event ≡ Some (numbers_of new)) × HasTypes p new
  new-state-is new made =
      let all = made-defined (state_types p.decls) (new_of p s j event p.decls) new made in
      (all.0, subst (λ ts. AreOf ts new) (types-of-states p.decls) all.1)

  byte-is : (o : Option ℕ) (v : Value) → IsValue (Some U8) o v → o ≡ Some (byte_of v)
  byte-is (Some n) v is = ap Some (sym (ap byte_of is.1 ∙ mod-eq_of_lt is.0))
  byte-is None v is = absurd is

  all-bytes : (os : List OutputTree) → AllByRecursion (λ (o : OutputTree). type_of p o.expr ≡ Some U8) os
      → all_defined (map (λ (o : OutputTree). expression_on p s j event o.expr None (depth p)) os) ≡ Some (map (λ (o : OutputTree). byte_of (value_of p values o.expr)) os)
  all-bytes [] its = refl
  all-bytes (o ∷ os) its =
      ap₂ (map_two (λ m ns. m ∷ ns))
      (byte-is (expression_on p s j event o.expr None (depth p)) (value_of p values o.expr) (subst (λ t. IsValue t (expression_on p s j event o.expr None (depth p)) (value_of p values o.expr)) its.0 (port-is o.expr)))
      (all-bytes os its.1)

  pub port-values-are : port_values p s j event ≡ Some (map (λ (o : OutputTree). byte_of (value_of p values o.expr)) p.outputs)
  port-values-are = all-bytes p.outputs typed.outputs
