-- Definitions by name and by number, and the names that a program whose names have no fault depends on.
use Rattle.std.specs.Prelude.{◌≡◌, ℕ, ◌⊎◌, Bool, true, false, not, ◌||◌, List, [], ◌∷◌, ◌++◌, filter, slice_get, Option, Some, None, IsSome, cond, refl, if◌then◌else◌}
use Rattle.std.specs.List.{flat_map, list_any}
use Rattle.std.specs.Str.{bytes_eq}
use Rattle.std.proofs.Common.{sym, ap, subst, ◌∙◌}
use Rattle.std.proofs.lemmas.Bool.{false≢true}
use Rattle.std.proofs.lemmas.Option.{none-some}
use Rattle.std.proofs.lemmas.List.Folds.{list_any-append}
use Rattle.std.proofs.lemmas.Slice.Eq.{bytes_eq-Decides}
use mathlib.Core.Logic.{inl, inr}
use Rattle.frp_tree.specs.Tree.{Tree, Const, Name, Unary, Binary, Shift, If, Convert, Look, ClauseTree, BehaviourTree, Plain, Input, Table, Reactive, DeclTree, ProgramTree}
use Rattle.efrp_meaning.specs.Decls.{decl_named, is_table}
use Rattle.efrp_meaning.specs.Needs.{names_in, clause_for}
use Rattle.efrp_meaning.specs.Meaning.{Now, Later, rule_on, clause_rule}
use Rattle.efrp_meaning.specs.Causal.{dependencies_by, DependsOn}
use Rattle.efrp_types.specs.declared.faults.CheckFault.{CheckFault}
use Rattle.efrp_types.specs.declared.faults.CheckFault.TheVariants.{TableUse, UnknownName}
use Rattle.efrp_types.specs.NameFaults.{fault_if, index_fault, use_faults, clause_event_faults, clause_faults, behaviour_faults, each_after, item_faults, expression_faults, name_faults}
use Rattle.efrp_types.specs.Numbers.{decl_number}
use Rattle.efrp_types.proofs.NodeLaws.{both-none, some-fault}
use Rattle.efrp_types.proofs.NumberLaws.{decl_number_agrees, decl_number_within, item_at, numbered}
use Rattle.causality.proofs.ChoiceFacts.{either, or-none}

pub same_bytes : (x : List ℕ) → bytes_eq x x ≡ true
same_bytes x = (bytes_eq-Decides x x).1 refl

-- The definition of a name has it.
named-name : (ds : List DeclTree) (x : List ℕ) (d : DeclTree) → decl_named ds x ≡ Some d → x ≡ d.name
named-name [] x d e = absurd (none-some d e)
named-name (c ∷ cs) x d e = by_name (bytes_eq x c.name) refl e (named-name cs x d)
  where
    by_name : (b : Bool) → bytes_eq x c.name ≡ b → (if b then Some c else decl_named cs x) ≡ Some d → (decl_named cs x ≡ Some d → x ≡ d.name) → x ≡ d.name
    by_name true same e rest = (bytes_eq-Decides x c.name).0 same ∙ ap (λ o. elim o [ Some k ↦ k.name | None ↦ x ]) e
    by_name false other e rest = rest e

module _ (p : ProgramTree) where
  -- A definition has this name.
  abbrev pub Known : List ℕ → Type 0
  Known x = (d : DeclTree) × (decl_named p.decls x ≡ Some d)

  -- The definition of a number, by its name.
  pub record Numbered (x : List ℕ) (i : ℕ) : Type 0 where
    pub decl : DeclTree
    pub named : decl_named p.decls x ≡ Some decl
    pub at : slice_get p.decls i ≡ Some decl
    pub name : x ≡ decl.name
    pub number : decl_number p x ≡ Some i

  pub number-numbered : (x : List ℕ) (i : ℕ) → decl_number p x ≡ Some i → Numbered x i
  number-numbered x i e =
      let d = item_at p.decls i (decl_number_within p x i e) in
      let named = sym (decl_number_agrees p x i e) ∙ d.1 in
      record { decl = d.0; named = named; at = d.1; name = named-name p.decls x d.0 named; number = e }

  pub known-numbered : (x : List ℕ) → Known x → (i : ℕ) × Numbered x i
  known-numbered x known = by_number (decl_number p x) refl (numbered p x (subst IsSome (sym known.1) refl))
    where
      by_number : (o : Option ℕ) → decl_number p x ≡ o → IsSome o → (i : ℕ) × Numbered x i
      by_number None e some = absurd (false≢true some)
      by_number (Some i) e some = (i, number-numbered x i e)

  module _ (names : name_faults p ≡ []) where
    -- The names in an expression that has no fault.
    abbrev fault_of : List ℕ → Option DeclTree → List CheckFault
    fault_of x o = elim o [ Some d ↦ fault_if (is_table d.behaviour) (TableUse x) | None ↦ UnknownName x ∷ [] ]

    known-name : (x : List ℕ) (o : Option DeclTree) → fault_of x o ≡ [] → (d : DeclTree) × (o ≡ Some d)
    known-name x None e = absurd (some-fault (UnknownName x) [] e)
    known-name x (Some d) e = (d, refl)

    in-part : (xs ys : List (List ℕ)) (y : List ℕ) → list_any (bytes_eq y) (xs ++ ys) ≡ true → (list_any (bytes_eq y) xs ≡ true) ⊎ (list_any (bytes_eq y) ys ≡ true)
    in-part xs ys y h = either (list_any (bytes_eq y) xs) (list_any (bytes_eq y) ys) (sym (list_any-append (bytes_eq y) xs ys) ∙ h)

    names-known : (e : Tree) → use_faults p e ≡ [] → (y : List ℕ) → list_any (bytes_eq y) (names_in e) ≡ true → Known y
    names-known (Const literal) none y h = absurd (false≢true h)
    names-known (Name x) none y h = subst Known (sym ((bytes_eq-Decides y x).0 (sym (or-none (bytes_eq y x)) ∙ h))) (known-name x (decl_named p.decls x) none)
    names-known (Unary op a) none y h = names-known a none y h
    names-known (Binary op a b) none y h =
        let parts = both-none (use_faults p a) (use_faults p b) none in
        elim (in-part (names_in a) (names_in b) y h) [ inl k ↦ names-known a parts.0 y k | inr k ↦ names-known b parts.1 y k ]
    names-known (Shift side a amount) none y h = names-known a none y h
    names-known (If c a b) none y h =
        let parts = both-none (use_faults p c) (use_faults p a ++ use_faults p b) none in
        let more = both-none (use_faults p a) (use_faults p b) parts.1 in
        elim (in-part (names_in c) (names_in a ++ names_in b) y h) [
          | inl k ↦ names-known c parts.0 y k
          | inr k ↦ elim (in-part (names_in a) (names_in b) y k) [ inl m ↦ names-known a more.0 y m | inr m ↦ names-known b more.1 y m ]
        ]
    names-known (Convert to a) none y h = names-known a none y h
    names-known (Look table index) none y h = names-known index (both-none (index_fault p table) (use_faults p index) none).1 y h

    -- A name that is left where one is taken out was there.
    in-kept : (x y : List ℕ) (ns : List (List ℕ)) → list_any (bytes_eq y) (filter (λ n. not (bytes_eq x n)) ns) ≡ true → list_any (bytes_eq y) ns ≡ true
    in-kept x y [] h = h
    in-kept x y (n ∷ ns) h = by_tests (bytes_eq x n) (bytes_eq y n) refl h (in-kept x y ns)
      where
        kept : List (List ℕ)
        kept = filter (λ m. not (bytes_eq x m)) ns

        by_tests : (k b : Bool) → bytes_eq y n ≡ b → list_any (bytes_eq y) (if not k then n ∷ filter (λ m. not (bytes_eq x m)) ns else filter (λ m. not (bytes_eq x m)) ns) ≡ true
            → (list_any (bytes_eq y) (filter (λ m. not (bytes_eq x m)) ns) ≡ true → list_any (bytes_eq y) ns ≡ true) → (b || list_any (bytes_eq y) ns) ≡ true
        by_tests k true e h rest = refl
        by_tests true false e h rest = rest h
        by_tests false false e h rest = rest (sym (ap (λ b. b || list_any (bytes_eq y) (filter (λ m. not (bytes_eq x m)) ns)) e) ∙ h)

    by-clause : (x y : List ℕ) (expr : Tree) (later : Bool) → use_faults p expr ≡ [] → list_any (bytes_eq y) (dependencies_by x (if later then Later expr else Now expr)) ≡ true → Known y
    by-clause x y expr true none h = absurd (false≢true h)
    by-clause x y expr false none h = names-known expr none y (in-kept x y (names_in expr) h)

    by-clauses : (event x y : List ℕ) (before clauses : List ClauseTree) → each_after (clause_faults p x) before clauses ≡ []
        → list_any (bytes_eq y) (dependencies_by x (clause_rule (clause_for event clauses))) ≡ true → Known y
    by-clauses event x y before [] none h = absurd (false≢true h)
    by-clauses event x y before (c ∷ cs) none h = by_event (bytes_eq event c.event) h (by-clauses event x y (before ++ c ∷ []) cs parts.1)
      where
        parts : (clause_faults p x before c ≡ []) × (each_after (clause_faults p x) (before ++ c ∷ []) cs ≡ [])
        parts = both-none (clause_faults p x before c) (each_after (clause_faults p x) (before ++ c ∷ []) cs) none

        uses : use_faults p c.expr ≡ []
        uses = (both-none (clause_event_faults p x before c) (use_faults p c.expr) parts.0).1

        by_event : (b : Bool) → list_any (bytes_eq y) (dependencies_by x (clause_rule (cond b (Some c) (clause_for event cs)))) ≡ true
            → (list_any (bytes_eq y) (dependencies_by x (clause_rule (clause_for event cs))) ≡ true → Known y) → Known y
        by_event true h rest = by-clause x y c.expr c.later uses h
        by_event false h rest = rest h

    by-behaviour : (event x y : List ℕ) (b : BehaviourTree) → behaviour_faults p x b ≡ [] → list_any (bytes_eq y) (dependencies_by x (rule_on event b)) ≡ true → Known y
    by-behaviour event x y (Plain e) none h = names-known e none y h
    by-behaviour event x y (Input port) none h = absurd (false≢true h)
    by-behaviour event x y (Table entries) none h = absurd (false≢true h)
    by-behaviour event x y (Reactive init clauses) none h = by-clauses event x y [] clauses none h

    no-fault-at : (ds : List DeclTree) (x : List ℕ) (d : DeclTree) → flat_map (λ (c : DeclTree). behaviour_faults p c.name c.behaviour) ds ≡ [] → decl_named ds x ≡ Some d → behaviour_faults p x d.behaviour ≡ []
    no-fault-at [] x d none e = absurd (none-some d e)
    no-fault-at (c ∷ cs) x d none e = by_name (bytes_eq x c.name) refl e (no-fault-at cs x d parts.1)
      where
        parts : (behaviour_faults p c.name c.behaviour ≡ []) × (flat_map (λ (k : DeclTree). behaviour_faults p k.name k.behaviour) cs ≡ [])
        parts = both-none (behaviour_faults p c.name c.behaviour) (flat_map (λ (k : DeclTree). behaviour_faults p k.name k.behaviour) cs) none

        by_name : (b : Bool) → bytes_eq x c.name ≡ b → (if b then Some c else decl_named cs x) ≡ Some d → (decl_named cs x ≡ Some d → behaviour_faults p x d.behaviour ≡ []) → behaviour_faults p x d.behaviour ≡ []
        by_name true same e rest =
            let is : c ≡ d = ap (λ o. elim o [ Some k ↦ k | None ↦ c ]) e in
            subst (λ (k : DeclTree). behaviour_faults p x k.behaviour ≡ []) is (subst (λ n. behaviour_faults p n c.behaviour ≡ []) (sym ((bytes_eq-Decides x c.name).0 same)) parts.0)
        by_name false other e rest = rest e

    -- What depends on something is known, and so is that.
    pub depends-known : (event x y : List ℕ) → DependsOn p event x y → Known x × Known y
    depends-known event x y depends = by_found (decl_named p.decls x) refl depends
      where
        by_found : (o : Option DeclTree) → decl_named p.decls x ≡ o → list_any (bytes_eq y) (elim o [ Some d ↦ dependencies_by x (rule_on event d.behaviour) | None ↦ [] ]) ≡ true → Known x × Known y
        by_found None e h = absurd (false≢true h)
        by_found (Some d) e h =
            let bodies = both-none (flat_map (λ (c : DeclTree). behaviour_faults p c.name c.behaviour) p.decls) _ (both-none (item_faults p) (expression_faults p) names).1 in
            ((d, e), by-behaviour event x y d.behaviour (no-fault-at p.decls x d bodies.0 e) h)
