-- Reactions are defined and lead from states to states, with a byte for each output; and so do serial runs.
use Rattle.std.specs.Prelude.{◌≡◌, ℕ, Bool, true, false, ◌||◌, List, [], ◌∷◌, ◌++◌, map, filter, fold, flat_map, Option, Some, None, if◌then◌else◌, refl, option_map, option_and_then}
use Rattle.std.specs.List.{AllByRecursion, IsDistinct, list_any}
use Rattle.std.specs.Str.{bytes_eq}
use Rattle.std.proofs.Common.{sym, ap, subst, ◌∙◌}
use Rattle.std.proofs.lemmas.Bool.{false≢true}
use Rattle.std.proofs.lemmas.Slice.Eq.{bytes_eq-Decides}
use Rattle.frp_tree.specs.declared.syntax.Ty.{Ty}
use Rattle.frp_tree.specs.declared.syntax.Ty.TheVariants.{U8}
use Rattle.frp_tree.specs.declared.syntax.Event.{Event}
use Rattle.frp_tree.specs.Tree.{ClauseTree, BehaviourTree, Plain, Input, Table, Reactive, DeclTree, OutputTree, ProgramTree}
use Rattle.efrp_meaning.specs.Decls.{decl_named, is_table, is_reactive, reactive_decls}
use Rattle.efrp_meaning.specs.Types.{type_of, type_of_name, value_type, IsTypedAs, IsTyped}
use Rattle.efrp_meaning.specs.Values.{literal_number}
use Rattle.efrp_meaning.specs.Needs.{clause_for}
use Rattle.efrp_meaning.specs.Meaning.{State, Samples, Occurrence, SerialRun, map_two, all_defined, old_state, Later, Now, clause_rule, rule_on, value_on, expression_on, depth, new_state_by, new_state, port_values, first_state_of, add_reaction, and_then_on}
use Rattle.efrp_meaning.specs.Causal.{IsCausalOn, IsCausal}
use Rattle.efrp_meaning.specs.States.{HasValue, AreValuesOf, IsState, AreSamples, ArePortValues, IsOccurrence, NamesDiffer}
use Rattle.efrp_meaning.specs.Laws.{HasPortValues, BeginsInAState, ReactsToAState, RunsToAState}
use Rattle.efrp_meaning.proofs.TypedValueLaws.{literal-typed}
use Rattle.efrp_meaning.proofs.DefinedLaws.{always-typed, own-typed, old-typed, ClauseTyped, clause-typed, defined-at-depth}

-- A value for each type, of it.
abbrev AllHave : List Ty → List (Option ℕ) → Type 0
AllHave [] [] = Unit {0}
AllHave (t ∷ ts) (o ∷ os) = HasValue (Some t) o × AllHave ts os
AllHave _ _ = ⊥

all-defined : (ts : List Ty) (os : List (Option ℕ)) → AllHave ts os → (values : List ℕ) × (all_defined os ≡ Some values) × AreValuesOf ts values
all-defined [] [] have = ([], refl, tt)
all-defined [] (o ∷ os) have = absurd have
all-defined (t ∷ ts) [] have = absurd have
all-defined (t ∷ ts) (None ∷ os) have = absurd have.0
all-defined (t ∷ ts) (Some n ∷ os) have =
    let rest = all-defined ts os have.1 in
    (n ∷ rest.0, ap (map_two (λ m ns. m ∷ ns) (Some n)) rest.1, (have.0, rest.2))

abbrev types_of : List DeclTree → List Ty
types_of ds = map (λ d. d.ty) ds

abbrev reactive_in : List DeclTree → List DeclTree
reactive_in ds = filter (λ d. is_reactive d.behaviour) ds

-- Each first value is of its definition's type.
first-have : (p : ProgramTree) (ds : List DeclTree) → AllByRecursion (λ (d : DeclTree). IsTypedAs p d.ty d.behaviour) ds → AllHave (types_of (reactive_in ds)) (flat_map (λ d. first_state_of d.behaviour) ds)
first-have p [] typed = tt
first-have p (d ∷ ds) typed = by_behaviour d.behaviour typed.0 (first-have p ds typed.1)
  where
    by_behaviour : (b : BehaviourTree) → IsTypedAs p d.ty b → AllHave (types_of (reactive_in ds)) (flat_map (λ c. first_state_of c.behaviour) ds)
        → AllHave (types_of (if is_reactive b then d ∷ reactive_in ds else reactive_in ds)) (first_state_of b ++ flat_map (λ c. first_state_of c.behaviour) ds)
    by_behaviour (Plain e) its rest = rest
    by_behaviour (Input port) its rest = rest
    by_behaviour (Table entries) its rest = rest
    by_behaviour (Reactive init clauses) its rest = (subst (λ o. HasValue o (literal_number init)) its.0 (literal-typed init), rest)

pub begins-in-a-state : (p : ProgramTree) → BeginsInAState p
begins-in-a-state p typed = all-defined (types_of (reactive_decls p)) (flat_map (λ d. first_state_of d.behaviour) p.decls) (first-have p p.decls typed.decls)

-- Where no two definitions have one name, each is the one that its name finds.
abbrev FoundIn : List DeclTree → List DeclTree → Type 0
FoundIn all ds = AllByRecursion (λ (d : DeclTree). decl_named all d.name ≡ Some d) ds

found-behind : (c : DeclTree) (all ds : List DeclTree) → AllByRecursion (λ (name : List ℕ). bytes_eq c.name name ≡ false) (map (λ d. d.name) ds) → FoundIn all ds → FoundIn (c ∷ all) ds
found-behind c all [] differ found = tt
found-behind c all (d ∷ ds) differ found = (by_name (bytes_eq d.name c.name) refl, found-behind c all ds differ.1 found.1)
  where
    by_name : (b : Bool) → bytes_eq d.name c.name ≡ b → (if bytes_eq d.name c.name then Some c else decl_named all d.name) ≡ Some d
    by_name true same = absurd (false≢true (sym differ.0 ∙ (bytes_eq-Decides c.name d.name).1 (sym ((bytes_eq-Decides d.name c.name).0 same))))
    by_name false other = ap (λ b. if b then Some c else decl_named all d.name) other ∙ found.0

found-in : (ds : List DeclTree) → IsDistinct bytes_eq (map (λ d. d.name) ds) → FoundIn ds ds
unfolding IsDistinct
found-in [] differ = tt
found-in (d ∷ ds) differ =
    (ap (λ b. if b then Some d else decl_named ds d.name) ((bytes_eq-Decides d.name d.name).1 refl), found-behind d ds ds differ.0 (found-in ds differ.1))

module _ (p : ProgramTree) (typed : IsTyped p) (s : State) (is_state : IsState p s) (j : Samples) (are_samples : AreSamples p j) (event : List ℕ) (causal : IsCausalOn p event) where
  abbrev values : List ℕ → Option ℕ
  values y = value_on p s j event y (depth p)

  known : (y : List ℕ) → HasValue (type_of_name p y) (values y)
  known y = defined-at-depth p typed s is_state j are_samples event causal y

  outputs-have : (os : List OutputTree) → AllByRecursion (λ (o : OutputTree). type_of p o.expr ≡ Some U8) os → AllHave (map (λ o. U8) os) (map (λ o. expression_on p s j event o.expr None (depth p)) os)
  outputs-have [] its = tt
  outputs-have (o ∷ os) its =
      (subst (λ t. HasValue t (expression_on p s j event o.expr None (depth p))) its.0 (always-typed p typed s values o.expr (λ y named. known y)), outputs-have os its.1)

  pub ports-have : (ports : List ℕ) × (port_values p s j event ≡ Some ports) × ArePortValues p ports
  ports-have = all-defined (map (λ o. U8) p.outputs) (map (λ o. expression_on p s j event o.expr None (depth p)) p.outputs) (outputs-have p.outputs typed.outputs)

  -- The new value of a reactive definition by its clause.
  new-by-clause : (x : List ℕ) (t : Ty) (c : Option ClauseTree) → ClauseTyped p t c → type_of_name p x ≡ Some t → HasValue (Some t) (old_state p s x) → (ts : List Ty) (os : List (Option ℕ)) → AllHave ts os
      → AllHave (t ∷ ts) (new_state_by p s j event x (clause_rule c) ++ os)
  new-by-clause x t None its own old ts os rest = (old, rest)
  new-by-clause x t (Some c) its own old ts os rest = by_later c.later
    where
      now : HasValue (Some t) (values x)
      now = subst (λ o. HasValue o (values x)) own (known x)

      after : HasValue (Some t) (expression_on p s j event c.expr (Some x) (depth p))
      after = subst (λ o. HasValue o (expression_on p s j event c.expr (Some x) (depth p))) its (own-typed p typed s values x c.expr (subst (λ o. HasValue o (old_state p s x)) (sym own) old) (λ y named. known y))

      by_later : (later : Bool) → AllHave (t ∷ ts) (new_state_by p s j event x (if later then Later c.expr else Now c.expr) ++ os)
      by_later true = (after, rest)
      by_later false = (now, rest)

  new-by-behaviour : (d : DeclTree) → decl_named p.decls d.name ≡ Some d → (b : BehaviourTree) → d.behaviour ≡ b → IsTypedAs p d.ty b → (ds : List DeclTree) (os : List (Option ℕ)) → AllHave (types_of (reactive_in ds)) os
      → AllHave (types_of (if is_reactive b then d ∷ reactive_in ds else reactive_in ds)) (new_state_by p s j event d.name (rule_on event b) ++ os)
  new-by-behaviour d found (Plain e) is its ds os rest = rest
  new-by-behaviour d found (Input port) is its ds os rest = rest
  new-by-behaviour d found (Table entries) is its ds os rest = rest
  new-by-behaviour d found (Reactive init clauses) is its ds os rest =
      new-by-clause d.name d.ty (clause_for event clauses) (clause-typed p d.ty event clauses its.1)
      (ap (option_and_then value_type) found ∙ ap (λ b. if is_table b then None else Some d.ty) is)
      (old-typed p typed s is_state j are_samples d.name d found (ap is_reactive is)) (types_of (reactive_in ds)) os rest

  new-have : (ds : List DeclTree) → FoundIn p.decls ds → AllByRecursion (λ (d : DeclTree). IsTypedAs p d.ty d.behaviour) ds → AllHave (types_of (reactive_in ds)) (flat_map (λ d. new_state_by p s j event d.name (rule_on event d.behaviour)) ds)
  new-have [] found its = tt
  new-have (d ∷ ds) found its =
      new-by-behaviour d found.0 d.behaviour refl its.0 ds (flat_map (λ c. new_state_by p s j event c.name (rule_on event c.behaviour)) ds) (new-have ds found.1 its.1)

  pub new-state-has : NamesDiffer p → (new : State) × (new_state p s j event ≡ Some new) × IsState p new
  new-state-has differ =
      all-defined (types_of (reactive_decls p)) (flat_map (λ d. new_state_by p s j event d.name (rule_on event d.behaviour)) p.decls) (new-have p.decls (found-in p.decls differ) typed.decls)

pub has-port-values : (p : ProgramTree) → HasPortValues p
has-port-values p s j event typed is_state are_samples causal = ports-have p typed s is_state j are_samples event causal

pub reacts-to-a-state : (p : ProgramTree) → ReactsToAState p
reacts-to-a-state p s j event typed differ is_state are_samples causal =
    let new = new-state-has p typed s is_state j are_samples event causal differ in
    let ports = ports-have p typed s is_state j are_samples event causal in (
      record { state = new.0; ports = ports.0 },
      ap (λ o. map_two (λ n values. record { state = n; ports = values }) o (port_values p s j event)) new.1 ∙ ap (map_two (λ n values. record { state = n; ports = values }) (Some new.0)) ports.1,
      new.2,
      ports.2,
    )

-- Each of a program's events is one on which none depends on itself.
causal-on : (p : ProgramTree) (event : List ℕ) (es : List Event) → AllByRecursion (λ (e : Event). IsCausalOn p e.name) es → list_any (λ e. bytes_eq event e.name) es ≡ true → IsCausalOn p event
causal-on p event [] causal h = absurd (false≢true h)
causal-on p event (e ∷ es) causal h = by_name (bytes_eq event e.name) refl h (causal-on p event es causal.1)
  where
    by_name : (b : Bool) → bytes_eq event e.name ≡ b → (b || list_any (λ c. bytes_eq event c.name) es) ≡ true → (list_any (λ c. bytes_eq event c.name) es ≡ true → IsCausalOn p event) → IsCausalOn p event
    by_name true same h rest = subst (IsCausalOn p) (sym ((bytes_eq-Decides event e.name).0 same)) causal.0
    by_name false other h rest = rest h

module _ (p : ProgramTree) (typed : IsTyped p) (differ : NamesDiffer p) (causal : IsCausal p) where
  goes-on : (events : List Occurrence) → AllByRecursion (IsOccurrence p) events → (run : SerialRun) → IsState p run.state → (last : SerialRun) × (fold (and_then_on p) (Some run) events ≡ Some last) × IsState p last.state
  goes-on [] are run is_state = (run, refl, is_state)
  goes-on (o ∷ os) are run is_state =
      let r = reacts-to-a-state p run.state o.samples o.event typed differ is_state are.0.are_samples (causal-on p o.event p.events causal are.0.is_event) in
      let rest = goes-on os are.1 (add_reaction run r.0) r.2 in
      (rest.0, ap (λ next. fold (and_then_on p) (option_map (add_reaction run) next) os) r.1 ∙ rest.1, rest.2)

pub runs-to-a-state : (p : ProgramTree) → RunsToAState p
runs-to-a-state p events typed differ causal are =
    let first = begins-in-a-state p typed in
    let rest = goes-on p typed differ causal events are (record { state = first.0; ports = [] }) first.2 in
    (rest.0, ap (λ s. fold (and_then_on p) (option_map (λ its. record { state = its; ports = [] }) s) events) first.1 ∙ rest.1, rest.2)
