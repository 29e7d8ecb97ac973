-- What an assignment reads is known by then: the values in an event's order, and new states behind them.
use Rattle.std.specs.Prelude.{◌≡◌, ℕ, Bool, true, false, not, ◌||◌, ◌&&◌, ◌==◌, List, [], ◌∷◌, slice_get, Option, Some, None, IsSome, if◌then◌else◌, refl}
use Rattle.std.specs.List.{flat_map, list_any}
use Rattle.std.specs.Str.{bytes_eq}
use Rattle.std.proofs.Common.{sym, ap, subst, ◌∙◌}
use Rattle.std.proofs.lemmas.Bool.{eqb-true, false≢true, or_cases}
use Rattle.std.proofs.lemmas.List.Folds.{list_any-append}
use Rattle.std.proofs.lemmas.Option.{none-some, same_Some}
use Rattle.std.proofs.lemmas.Slice.Eq.{bytes_eq-Decides}
use mathlib.Core.Logic.{inl, inr}
use Rattle.frp_tree.specs.Tree.{Tree, ClauseTree, BehaviourTree, Plain, Input, Table, Reactive, DeclTree, ProgramTree}
use Rattle.efrp_meaning.specs.Causal.{dependencies_by, DependsOn}
use Rattle.efrp_meaning.specs.Decls.{decl_named, is_plain, is_reactive, is_table}
use Rattle.efrp_meaning.specs.Meaning.{Now, Later, clause_rule, rule_on}
use Rattle.efrp_meaning.specs.Needs.{names_in, IsNamedIn, is_named_in, clause_for, expression_of, needed, reacting_expression}
use Rattle.efrp_meaning.specs.States.{NamesDiffer}
use Rattle.efrp_meaning.specs.Types.{IsTyped}
use Rattle.efrp_meaning.proofs.TypedValueLaws.{FoundTyped, decl-typed}
use Rattle.efrp_types.specs.Numbers.{decl_number}
use Rattle.efrp_types.proofs.NumberLaws.{decl_number_agrees, numbered}
use Rattle.event_needs.specs.Needed.{is_needed}
use Rattle.event_needs.proofs.NeededLaws.{clause-needs, named-needed, plain-needs}
use Rattle.event_needs.proofs.NumberLaws.{numbered-name, own-decl}
use Rattle.two_phase.specs.declared.plans.Assign.{Assign}
use Rattle.two_phase.specs.Assigned.{number_wanted, assigned}
use Rattle.two_phase.specs.Plans.{assigned_expression, expression_by, is_wanted, is_wanted_by, assigns, is_known_by, IsKnown, is_own_state}
use Rattle.two_phase.proofs.NameFacts.{others-left}
use Rattle.two_phase.proofs.NamedLaws.{assigned-typed, value-named}

-- The expression of a reactive definition by its clause.
clause-expression : (o : Option ClauseTree) (e : Tree) → expression_by (clause_rule o) ≡ Some e → expression_of o ≡ e ∷ []
clause-expression None e is = absurd (none-some e is)
clause-expression (Some c) e is = by_later c.later is
  where
    by_later : (b : Bool) → expression_by (if b then Later c.expr else Now c.expr) ≡ Some e → c.expr ∷ [] ≡ e ∷ []
    by_later true h = ap (λ k. k ∷ []) (same_Some c.expr e h)
    by_later false h = ap (λ k. k ∷ []) (same_Some c.expr e h)

-- What stands among the numbers is assigned where it is wanted.
module _ (p : ProgramTree) (event : List ℕ) (m : ℕ) (wanted : number_wanted p event false m ≡ true) where
  pub any-assigned : (ms : List ℕ) → list_any (λ k. k == m) ms ≡ true → list_any (assigns m false) (flat_map (assigned p event false) ms) ≡ true
  any-assigned [] h = absurd (false≢true h)
  any-assigned (n ∷ ns) h =
      list_any-append (assigns m false) (assigned p event false n) (flat_map (assigned p event false) ns)
      ∙ elim (or_cases (n == m) (list_any (λ k. k == m) ns) h) [
        | inl here ↦
            let is = eqb-true n m here in
            ap (λ b. b || list_any (assigns m false) (flat_map (assigned p event false) ns))
            (ap (λ w. list_any (assigns m false) (if w then record { decl = n; next = false } ∷ [] else [])) (ap (number_wanted p event false) is ∙ wanted) ∙ ap (λ b. (b && true) || false) here)
        | inr later ↦ or-right (list_any (assigns m false) (assigned p event false n)) (list_any (assigns m false) (flat_map (assigned p event false) ns)) (any-assigned ns later)
      ]
    where
      or-right : (a b : Bool) → b ≡ true → (a || b) ≡ true
      or-right true b h = refl
      or-right false b h = h

-- Where all definitions that are wanted and named in an expression are assigned, what it reads is known.
module _ (p : ProgramTree) (typed : IsTyped p) (differ : NamesDiffer p) (event : List ℕ) where
  pub wanted-at : (n : ℕ) (d : DeclTree) (next : Bool) → slice_get p.decls n ≡ Some d → number_wanted p event next n ≡ is_wanted p event d next
  wanted-at n d next at = ap (λ o. elim o [ Some k ↦ is_wanted p event k next | None ↦ false ]) at

  -- What is named in what is assigned is named in what the event needs.
  named-by : (n m : ℕ) (d k : DeclTree) (e : Tree) (next : Bool) → slice_get p.decls n ≡ Some d → slice_get p.decls m ≡ Some k → is_wanted p event d next ≡ true → assigned_expression event d.behaviour ≡ Some e
      → list_any (bytes_eq k.name) (names_in e) ≡ true → is_named_in k.name (needed p event) ≡ true
  named-by n m d k e next at there wants is h = by_kind d.behaviour refl wants is
    where
      and-first : (a b : Bool) → (a && b) ≡ true → a ≡ true
      and-first true b g = refl
      and-first false b g = absurd (false≢true g)

      by_kind : (b : BehaviourTree) → d.behaviour ≡ b → is_wanted_by (is_needed p event d) next (rule_on event b) ≡ true → assigned_expression event b ≡ Some e → is_named_in k.name (needed p event) ≡ true
      by_kind (Plain g) kind wants is = plain-needs p differ event n m d k e at there (and-first (is_needed p event d) (not next) wants) (kind ∙ ap Plain (same_Some g e is)) h
      by_kind (Input port) kind wants is = absurd (none-some e is)
      by_kind (Table entries) kind wants is = absurd (none-some e is)
      by_kind (Reactive init clauses) kind wants is = clause-needs p differ event n d e k.name at (ap (reacting_expression event) kind ∙ clause-expression (clause_for event clauses) e is) h

  module _ (front : List Assign) (m : ℕ) (k : DeclTree) (there : slice_get p.decls m ≡ Some k) (no_table : is_table k.behaviour ≡ false) (named : is_named_in k.name (needed p event) ≡ true)
      (done : number_wanted p event false m ≡ true → list_any (assigns m false) front ≡ true) where
    by-kind : (b : BehaviourTree) → k.behaviour ≡ b → is_known_by front m (rule_on event b) ≡ true
    by-kind (Plain g) is =
        done (wanted-at m k false there ∙ ap (λ b. is_wanted_by (is_needed p event k) false (rule_on event b)) is ∙ ap (λ b. b && true) (named-needed p differ event m k there (ap is_plain is) named))
    by-kind (Input port) is = refl
    by-kind (Table entries) is = absurd (false≢true (sym no_table ∙ ap is_table is))
    by-kind (Reactive init clauses) is = by-clauses (clause_for event clauses) refl
      where
        by-clauses : (o : Option ClauseTree) → clause_for event clauses ≡ o → is_known_by front m (clause_rule o) ≡ true
        by-clauses None e = refl
        by-clauses (Some c) e = by_later c.later refl
          where
            by_later : (b : Bool) → c.later ≡ b → is_known_by front m (if b then Later c.expr else Now c.expr) ≡ true
            by_later true l = refl
            by_later false l =
                done (wanted-at m k false there ∙ ap (λ b. is_wanted_by (is_needed p event k) false (rule_on event b)) is
                ∙ ap (λ o. is_wanted_by (is_needed p event k) false (clause_rule o)) e ∙ ap (λ b. is_wanted_by (is_needed p event k) false (if b then Later c.expr else Now c.expr)) l)

    pub known-by : is_known_by front m (rule_on event k.behaviour) ≡ true
    known-by = by-kind k.behaviour refl

  -- A name that an assigned expression has.
  module _ (n : ℕ) (d : DeclTree) (e : Tree) (y : List ℕ) (next : Bool) (at : slice_get p.decls n ≡ Some d) (wants : is_wanted p event d next ≡ true) (is : assigned_expression event d.behaviour ≡ Some e) (inside : IsNamedIn y e) where
    pub reads-known : (front : List Assign) → ((m : ℕ) → decl_number p y ≡ Some m → number_wanted p event false m ≡ true → list_any (assigns m false) front ≡ true) → IsKnown p event front y
    reads-known front done =
        let its = assigned-typed p event d.ty d.behaviour e (subst (FoundTyped p) (own-decl p differ n d at) (decl-typed p typed d.name)) is in
        let found = value-named p typed e d.ty y its inside in
        by_number found.0 found.1 found.2 (decl_number p y) refl (numbered p y (subst IsSome (sym found.1) refl))
      where
        by_number : (k : DeclTree) → decl_named p.decls y ≡ Some k → is_table k.behaviour ≡ false → (o : Option ℕ) → decl_number p y ≡ o → IsSome o → IsKnown p event front y
        by_number k found no_table None number some = absurd (false≢true some)
        by_number k found no_table (Some m) number some =
            let there = decl_number_agrees p y m number ∙ found in
            let same = (bytes_eq-Decides y k.name).0 (numbered-name p y m k number there) in
            let named = named-by n m d k e next at there wants is (subst (λ z. list_any (bytes_eq z) (names_in e) ≡ true) same inside) in
            (m, k, there, sym same, known-by front m k there no_table named (done m number))

    -- A value depends on it, where it isn't the own old state.
    pub depends-on : next ≡ false → is_own_state d y ≡ false → DependsOn p event d.name y
    depends-on now other =
        ap (λ o. list_any (bytes_eq y) (elim o [ Some k ↦ dependencies_by d.name (rule_on event k.behaviour) | None ↦ [] ])) (own-decl p differ n d at)
        ∙ by_kind d.behaviour refl (subst (λ b. is_wanted p event d b ≡ true) now wants) is
      where
        by_kind : (b : BehaviourTree) → d.behaviour ≡ b → is_wanted_by (is_needed p event d) false (rule_on event b) ≡ true → assigned_expression event b ≡ Some e → list_any (bytes_eq y) (dependencies_by d.name (rule_on event d.behaviour)) ≡ true
        by_kind (Plain g) kind wants is = ap (λ b. list_any (bytes_eq y) (dependencies_by d.name (rule_on event b))) kind ∙ ap (λ k. list_any (bytes_eq y) (names_in k)) (same_Some g e is) ∙ inside
        by_kind (Input port) kind wants is = absurd (none-some e is)
        by_kind (Table entries) kind wants is = absurd (none-some e is)
        by_kind (Reactive init clauses) kind wants is =
            ap (λ b. list_any (bytes_eq y) (dependencies_by d.name (rule_on event b))) kind ∙ by-clauses (clause_for event clauses) wants is
          where
            not-own : bytes_eq d.name y ≡ false
            not-own = sym (ap (λ b. b && bytes_eq d.name y) (ap is_reactive kind)) ∙ other

            by-clauses : (o : Option ClauseTree) → is_wanted_by (is_needed p event d) false (clause_rule o) ≡ true → expression_by (clause_rule o) ≡ Some e → list_any (bytes_eq y) (dependencies_by d.name (clause_rule o)) ≡ true
            by-clauses None wants is = absurd (none-some e is)
            by-clauses (Some c) wants is = by_later c.later wants is
              where
                by_later : (b : Bool) → is_wanted_by (is_needed p event d) false (if b then Later c.expr else Now c.expr) ≡ true → expression_by (if b then Later c.expr else Now c.expr) ≡ Some e
                    → list_any (bytes_eq y) (dependencies_by d.name (if b then Later c.expr else Now c.expr)) ≡ true
                by_later true wants is = absurd (false≢true wants)
                by_later false wants is = others-left d.name y not-own (names_in c.expr) (ap (λ k. list_any (bytes_eq y) (names_in k)) (same_Some c.expr e is) ∙ inside)
