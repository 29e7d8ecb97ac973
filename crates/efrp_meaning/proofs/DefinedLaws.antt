-- Where no definition depends on itself on an event, each has a value of its type at the depth of as many as there are.
use Rattle.std.specs.Prelude.{◌≡◌, ℕ, zero, suc, ◌≤◌, ◌⊎◌, Bool, true, false, ◌||◌, List, [], ◌∷◌, length, map, filter, Option, Some, None, if◌then◌else◌, refl, option_and_then}
use Rattle.std.specs.List.{AllByRecursion, list_any}
use Rattle.std.specs.Str.{bytes_eq}
use Rattle.std.proofs.Common.{sym, ap, subst, ◌∙◌, arith}
use Rattle.std.proofs.lemmas.List.{length-map}
use Rattle.std.proofs.lemmas.Option.{none-some, same_Some}
use Rattle.std.proofs.lemmas.Bool.{false≢true}
use Rattle.std.proofs.lemmas.Slice.Eq.{bytes_eq-Decides}
use mathlib.Core.Logic.{inl, inr}
use Rattle.frp_tree.specs.declared.syntax.Ty.{Ty}
use Rattle.frp_tree.specs.declared.syntax.Ty.TheVariants.{U8}
use Rattle.frp_tree.specs.Tree.{Tree, ClauseTree, BehaviourTree, Plain, Input, Table, Reactive, DeclTree, ProgramTree}
use Rattle.efrp_meaning.specs.Decls.{decl_named, is_input, is_table, is_reactive}
use Rattle.efrp_meaning.specs.Types.{type_of, type_of_name, value_type, IsTypedAs, IsTyped}
use Rattle.efrp_meaning.specs.Needs.{names_in, IsNamedIn, clause_for}
use Rattle.efrp_meaning.specs.Meaning.{State, Samples, value_at, old_state, sample_of, Always, Now, Later, clause_rule, rule_on, evaluate, stands_for, value_by, value_on, depth}
use Rattle.efrp_meaning.specs.Causal.{dependencies_by, DependsOn, DependsThrough, IsCausalOn}
use Rattle.efrp_meaning.specs.States.{HasValue, AreValuesOf, IsState, AreSamples}
use Rattle.efrp_meaning.proofs.NameFacts.{without, without-shorter, others-kept}
use Rattle.efrp_meaning.proofs.TypedValueLaws.{evaluate-typed, decl-typed, FoundTyped}

-- The value at the place of a definition that a program finds by name: of its type, where each value is of its definition's.
module _ (keep : BehaviourTree → Bool) (type : DeclTree → Ty) where
  abbrev kept : List DeclTree → List DeclTree
  kept ds = filter (λ d. keep d.behaviour) ds

  abbrev AreOf : List DeclTree → List ℕ → Type 0
  AreOf ds values = AreValuesOf (map type ds) values

  value_here : (c : DeclTree) (cs : List DeclTree) (values x : List ℕ) → AreOf (c ∷ cs) values → bytes_eq x c.name ≡ true → HasValue (Some (type c)) (value_at (c ∷ cs) values x)
  value_here c cs [] x are named = absurd are
  value_here c cs (n ∷ ns) x are named = rw named are.0

  value_further : (c d : DeclTree) (cs : List DeclTree) (values x : List ℕ) → AreOf (c ∷ cs) values → bytes_eq x c.name ≡ false
      → ((ns : List ℕ) → AreOf cs ns → HasValue (Some (type d)) (value_at cs ns x)) → HasValue (Some (type d)) (value_at (c ∷ cs) values x)
  value_further c d cs [] x are other rest = absurd are
  value_further c d cs (n ∷ ns) x are other rest = rw other (rest ns are.1)

  value_at-step : (c d : DeclTree) (cs : List DeclTree) (values x : List ℕ) → keep d.behaviour ≡ true
      → (decl_named cs x ≡ Some d → (ns : List ℕ) → AreOf (kept cs) ns → HasValue (Some (type d)) (value_at (kept cs) ns x))
      → (b : Bool) → bytes_eq x c.name ≡ b → (k : Bool) → keep c.behaviour ≡ k
      → (if b then Some c else decl_named cs x) ≡ Some d → AreOf (if k then c ∷ kept cs else kept cs) values
      → HasValue (Some (type d)) (value_at (if k then c ∷ kept cs else kept cs) values x)
  value_at-step c d cs values x keeps rest true named true kind found are =
      subst (λ e. HasValue (Some (type e)) (value_at (c ∷ kept cs) values x)) (same_Some c d found) (value_here c (kept cs) values x are named)
  value_at-step c d cs values x keeps rest true named false kind found are =
      absurd (false≢true (sym kind ∙ ap (λ e. keep e.behaviour) (same_Some c d found) ∙ keeps))
  value_at-step c d cs values x keeps rest false other true kind found are = value_further c d (kept cs) values x are other (rest found)
  value_at-step c d cs values x keeps rest false other false kind found are = rest found values are

  value_at-found : (ds : List DeclTree) (values x : List ℕ) (d : DeclTree) → keep d.behaviour ≡ true → decl_named ds x ≡ Some d → AreOf (kept ds) values → HasValue (Some (type d)) (value_at (kept ds) values x)
  value_at-found [] values x d keeps found are = absurd (none-some d found)
  value_at-found (c ∷ cs) values x d keeps found are =
      value_at-step c d cs values x keeps (λ later ns its. value_at-found cs ns x d keeps later its) (bytes_eq x c.name) refl (keep c.behaviour) refl found are

-- An expression over names that stand for the old state of a definition, or for values.
module _ (p : ProgramTree) (typed : IsTyped p) (s : State) (values : List ℕ → Option ℕ) where
  pub always-typed : (e : Tree) → ((y : List ℕ) → IsNamedIn y e → HasValue (type_of_name p y) (values y)) → HasValue (type_of p e) (evaluate p (stands_for p s values None) e)
  always-typed e known = evaluate-typed p typed (stands_for p s values None) e known

  -- The own name of a definition stands for its old state.
  pub own-typed : (x : List ℕ) (e : Tree) → HasValue (type_of_name p x) (old_state p s x)
      → ((y : List ℕ) → list_any (bytes_eq y) (without x (names_in e)) ≡ true → HasValue (type_of_name p y) (values y))
      → HasValue (type_of p e) (evaluate p (stands_for p s values (Some x)) e)
  own-typed x e old known = evaluate-typed p typed (stands_for p s values (Some x)) e (λ y named. by_name y named (bytes_eq x y) refl)
    where
      by_name : (y : List ℕ) → IsNamedIn y e → (b : Bool) → bytes_eq x y ≡ b → HasValue (type_of_name p y) ((if b then old_state p s else values) y)
      by_name y named true same = subst (λ z. HasValue (type_of_name p z) (old_state p s z)) ((bytes_eq-Decides x y).0 same) old
      by_name y named false other = known y (others-kept x y other (names_in e) named)

-- The clause for an event is of the definition's type.
abbrev pub ClauseTyped : ProgramTree → Ty → Option ClauseTree → Type 0
ClauseTyped p t None = Unit {0}
ClauseTyped p t (Some c) = type_of p c.expr ≡ Some t

pub clause-typed : (p : ProgramTree) (t : Ty) (event : List ℕ) (clauses : List ClauseTree) → AllByRecursion (λ (c : ClauseTree). type_of p c.expr ≡ Some t) clauses → ClauseTyped p t (clause_for event clauses)
clause-typed p t event [] typed = tt
clause-typed p t event (c ∷ cs) typed = by_event (bytes_eq event c.event) (clause-typed p t event cs typed.1)
  where
    by_event : (b : Bool) → ClauseTyped p t (clause_for event cs) → ClauseTyped p t (if b then Some c else clause_for event cs)
    by_event true rest = typed.0
    by_event false rest = rest

module _ (p : ProgramTree) (typed : IsTyped p) (s : State) (is_state : IsState p s) (j : Samples) (are_samples : AreSamples p j) where
  pub old-typed : (x : List ℕ) (d : DeclTree) → decl_named p.decls x ≡ Some d → is_reactive d.behaviour ≡ true → HasValue (Some d.ty) (old_state p s x)
  old-typed x d found reactive = value_at-found is_reactive (λ c. c.ty) p.decls s x d reactive found is_state

  sample-typed : (x : List ℕ) (d : DeclTree) → decl_named p.decls x ≡ Some d → is_input d.behaviour ≡ true → HasValue (Some U8) (sample_of p j x)
  sample-typed x d found input = value_at-found is_input (λ c. U8) p.decls j x d input found are_samples

  module _ (event x : List ℕ) (values : List ℕ → Option ℕ) where
    abbrev pub IsKnown : List (List ℕ) → Type 0
    IsKnown names = (y : List ℕ) → list_any (bytes_eq y) names ≡ true → HasValue (type_of_name p y) (values y)

    -- By the clause of a reactive definition.
    by_clause : (t : Ty) (expr : Tree) (later : Bool) → type_of p expr ≡ Some t → type_of_name p x ≡ Some t → HasValue (Some t) (old_state p s x)
        → IsKnown (dependencies_by x (if later then Later expr else Now expr)) → HasValue (Some t) (value_by p s j values x (if later then Later expr else Now expr))
    by_clause t expr true its own old known = old
    by_clause t expr false its own old known =
        subst (λ o. HasValue o (value_by p s j values x (Now expr))) its (own-typed p typed s values x expr (subst (λ o. HasValue o (old_state p s x)) (sym own) old) known)

    by_clauses : (t : Ty) (c : Option ClauseTree) → ClauseTyped p t c → type_of_name p x ≡ Some t → HasValue (Some t) (old_state p s x)
        → IsKnown (dependencies_by x (clause_rule c)) → HasValue (Some t) (value_by p s j values x (clause_rule c))
    by_clauses t None its own old known = old
    by_clauses t (Some c) its own old known = by_clause t c.expr c.later its own old known

    by_behaviour : (t : Ty) (b : BehaviourTree) → IsTypedAs p t b → (is_input b ≡ true → HasValue (Some U8) (sample_of p j x)) → (is_reactive b ≡ true → HasValue (Some t) (old_state p s x))
        → (is_reactive b ≡ true → type_of_name p x ≡ Some t) → IsKnown (dependencies_by x (rule_on event b))
        → HasValue (if is_table b then None else Some t) (value_by p s j values x (rule_on event b))
    by_behaviour t (Plain e) its sampled old own known = subst (λ o. HasValue o (value_by p s j values x (Always e))) its (always-typed p typed s values e known)
    by_behaviour t (Input port) its sampled old own known = subst (λ u. HasValue (Some u) (sample_of p j x)) (sym its) (sampled refl)
    by_behaviour t (Table entries) its sampled old own known = tt
    by_behaviour t (Reactive init clauses) its sampled old own known = by_clauses t (clause_for event clauses) (clause-typed p t event clauses its.1) (own refl) (old refl) known

    -- A definition's value by its rule is one of its type, where those are that it depends on.
    pub value_by-typed : (d : DeclTree) → decl_named p.decls x ≡ Some d → IsKnown (dependencies_by x (rule_on event d.behaviour)) → HasValue (value_type d) (value_by p s j values x (rule_on event d.behaviour))
    value_by-typed d found known = by_behaviour d.ty d.behaviour
        (subst (FoundTyped p) found (decl-typed p typed x)) (sample-typed x d found) (old-typed x d found) own known
      where
        own : is_reactive d.behaviour ≡ true → type_of_name p x ≡ Some d.ty
        own reactive = ap (option_and_then value_type) found ∙ no_table d.behaviour reactive
          where
            no_table : (b : BehaviourTree) → is_reactive b ≡ true → (if is_table b then None else Some d.ty) ≡ Some d.ty
            no_table (Plain e) h = refl
            no_table (Input port) h = refl
            no_table (Table entries) h = absurd (false≢true h)
            no_table (Reactive init clauses) h = refl

-- A name that is declared is one of the names of the definitions.
pub declared-is-named : (ds : List DeclTree) (x : List ℕ) (d : DeclTree) → decl_named ds x ≡ Some d → list_any (bytes_eq x) (map (λ c. c.name) ds) ≡ true
declared-is-named [] x d found = absurd (none-some d found)
declared-is-named (c ∷ cs) x d found = by_name (bytes_eq x c.name) found (declared-is-named cs x d)
  where
    by_name : (b : Bool) → (if b then Some c else decl_named cs x) ≡ Some d → (decl_named cs x ≡ Some d → list_any (bytes_eq x) (map (λ e. e.name) cs) ≡ true) → (b || list_any (bytes_eq x) (map (λ e. e.name) cs)) ≡ true
    by_name true found rest = refl
    by_name false found rest = rest found

-- What a definition leads to on an event: itself, and what it depends on, directly or through others.
abbrev LeadsTo : ProgramTree → List ℕ → List ℕ → List ℕ → Type 0
LeadsTo p event x z = (z ≡ x) ⊎ ((others : List (List ℕ)) × DependsThrough p event x others z)

leads-through : (p : ProgramTree) (event x y z : List ℕ) → DependsOn p event x y → LeadsTo p event y z → (others : List (List ℕ)) × DependsThrough p event x others z
leads-through p event x y z depends (inl same) = ([], subst (DependsOn p event x) (sym same) depends)
leads-through p event x y z depends (inr path) = (y ∷ path.0, (depends, path.1))

-- The induction is on a list of names that has each declared name that a definition leads to. A definition isn't led to by those
-- that it depends on, so their lists are shorter.
module _ (p : ProgramTree) (typed : IsTyped p) (s : State) (is_state : IsState p s) (j : Samples) (are_samples : AreSamples p j) (event : List ℕ) (causal : IsCausalOn p event) where
  abbrev HasAll : List ℕ → List (List ℕ) → Type 0
  HasAll x names = (z : List ℕ) (d : DeclTree) → decl_named p.decls z ≡ Some d → LeadsTo p event x z → list_any (bytes_eq z) names ≡ true

  depended-has-all : (x y : List ℕ) (names : List (List ℕ)) → DependsOn p event x y → HasAll x names → HasAll y (without x names)
  depended-has-all x y names depends all z d found leads = by_name (bytes_eq x z) refl
    where
      path : (others : List (List ℕ)) × DependsThrough p event x others z
      path = leads-through p event x y z depends leads

      by_name : (b : Bool) → bytes_eq x z ≡ b → list_any (bytes_eq z) (without x names) ≡ true
      by_name true same = absurd (causal x path.0 (subst (DependsThrough p event x path.0) (sym ((bytes_eq-Decides x z).0 same)) path.1))
      by_name false other = others-kept x z other names (all z d found (inr path))

  defined-within : (k : ℕ) (names : List (List ℕ)) (x : List ℕ) → length names ≤ k → HasAll x names → HasValue (type_of_name p x) (value_on p s j event x k)
  defined-within zero names x short all = by_definition (decl_named p.decls x) refl
    where
      no_name : (names : List (List ℕ)) → length names ≤ 0 → list_any (bytes_eq x) names ≡ true → ⊥
      no_name [] short h = false≢true h
      no_name (n ∷ ns) short h = omega arith

      by_definition : (o : Option DeclTree) → decl_named p.decls x ≡ o → HasValue (option_and_then value_type o) None
      by_definition None e = tt
      by_definition (Some d) e = absurd (no_name names short (all x d e (inl refl)))
  defined-within (suc k) names x short all = by_definition (decl_named p.decls x) refl (λ y depends shorter. defined-within k (without x names) y shorter (depended-has-all x y names depends all))
    where
      by_definition : (o : Option DeclTree) → decl_named p.decls x ≡ o
          → ((y : List ℕ) → DependsOn p event x y → length (without x names) ≤ k → HasValue (type_of_name p y) (value_on p s j event y k))
          → HasValue (option_and_then value_type o) (option_and_then (λ d. value_by p s j (λ y. value_on p s j event y k) x (rule_on event d.behaviour)) o)
      by_definition None e rest = tt
      by_definition (Some d) e rest =
          let less = without-shorter x names (all x d e (inl refl)) in
          let known = λ (y : List ℕ) (h : list_any (bytes_eq y) (dependencies_by x (rule_on event d.behaviour)) ≡ true).
          rest y (ap (λ o. list_any (bytes_eq y) (elim o [ Some c ↦ dependencies_by x (rule_on event c.behaviour) | None ↦ [] ])) e ∙ h) (omega (arith, less)) in
          value_by-typed p typed s is_state j are_samples event x (λ y. value_on p s j event y k) d e known

  pub defined-at-depth : (x : List ℕ) → HasValue (type_of_name p x) (value_on p s j event x (depth p))
  defined-at-depth x =
      defined-within (depth p) (map (λ d. d.name) p.decls) x (simp length-map (omega arith)) (λ z d found leads. declared-is-named p.decls z d found)
