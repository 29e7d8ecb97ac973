-- The assignment of a definition by its clause, and that of a non-reactive one, as the code does it.
use Rattle.std.specs.List.{AllByRecursion}
use Rattle.std.proofs.Common.{◌≡◌, ℕ, ◌+◌, ◌<◌, Bool, true, false, List, ◌++◌, filter, length, slice_get, Option, Some, None, if◌then◌else◌, refl, sym, ap, subst, ◌∙◌, arith}
use Rattle.std.proofs.lemmas.Bool.{false≢true}
use Rattle.std.proofs.lemmas.List.{append-nil}
use Rattle.std.proofs.lemmas.Option.{none-some, slice_get_within}
use Rattle.frp_tree.specs.Tree.{Tree, ClauseTree, BehaviourTree, Plain, Input, Table, Reactive, DeclTree, ProgramTree}
use Rattle.efrp_meaning.specs.Decls.{is_plain}
use Rattle.efrp_meaning.specs.Meaning.{Later, Now, clause_rule, rule_on}
use Rattle.efrp_meaning.specs.Needs.{needed_plain}
use Rattle.efrp_meaning.specs.States.{NamesDiffer}
use Rattle.efrp_meaning.specs.Types.{IsTyped}
use Rattle.event_needs.specs.Needed.{is_needed, reacting_clause}
use Rattle.event_needs.proofs.ListLaws.{each-at}
use Rattle.byte_ops.specs.declared.operations.Pair.{Pair}
use Rattle.expr_lower.specs.declared.cells.Cells.{Cells}
use Rattle.expr_lower.specs.declared.places.Place.{Place}
use Rattle.expr_lower.specs.Numbered.{Binds, CanBind}
use Rattle.expr_lower.specs.Places.{AreCellsOf, is_wide}
use Rattle.two_phase.specs.declared.plans.Assign.{Assign}
use Rattle.two_phase.specs.declared.plans.Plan.{Plan}
use Rattle.two_phase.specs.Plans.{assigned_expression, expression_by, is_wanted_by}
use Rattle.event_ops.specs.declared.drafts.Draft.{Draft}
use Rattle.event_ops.specs.Drafts.{Adds, IsDraftedTo, IsReady, Lasting, Values, state_copies}
use Rattle.event_ops.specs.Works.{state_of}
use Rattle.event_ops.proofs.PieceFacts.{adds-values}
use Rattle.event_ops.proofs.ReadyFacts.{Assigning, wanted}
use Rattle.event_ops.proofs.StepFacts.{can-bind, drafted-on, one-step}

-- An assignment of a plan is one of a definition.
pub within-at : (p : ProgramTree) (work : List Assign) (k : ℕ) (a : Assign) → AllByRecursion (λ (x : Assign). x.decl < length p.decls) work → slice_get work k ≡ Some a → a.decl < length p.decls
within-at p work k a all at = each-at (λ (x : Assign). x.decl < length p.decls) work k a all at

-- By a clause for the event.
pub clause-assigns : (event : List ℕ) (b : BehaviourTree) (cl : ClauseTree) → Some cl ≡ reacting_clause event b → assigned_expression event b ≡ Some cl.expr
clause-assigns event (Plain e) cl is = absurd (none-some cl (sym is))
clause-assigns event (Input port) cl is = absurd (none-some cl (sym is))
clause-assigns event (Table entries) cl is = absurd (none-some cl (sym is))
clause-assigns event (Reactive init clauses) cl is = ap (λ (o : Option ClauseTree). expression_by (clause_rule o)) (sym is) ∙ by_later cl.later
  where
    by_later : (k : Bool) → expression_by (if k then Later cl.expr else Now cl.expr) ≡ Some cl.expr
    by_later true = refl
    by_later false = refl

-- By its own expression.
pub plain-assigns : (event : List ℕ) (b : BehaviourTree) (e : Tree) → b ≡ Plain e → assigned_expression event b ≡ Some e
plain-assigns event b e is = ap (assigned_expression event) is

-- Without one a reactive definition isn't assigned, and an input or a table never is.
pub no-clause : (event : List ℕ) (b : BehaviourTree) (needed next : Bool) → is_plain b ≡ false → None ≡ reacting_clause event b → is_wanted_by needed next (rule_on event b) ≡ true → ⊥
no-clause event (Plain e) needed next isnt is wants = false≢true (sym isnt)
no-clause event (Input port) needed next isnt is wants = false≢true wants
no-clause event (Table entries) needed next isnt is wants = false≢true wants
no-clause event (Reactive init clauses) needed next isnt is wants = false≢true (ap (λ (o : Option ClauseTree). is_wanted_by needed next (clause_rule o)) is ∙ wants)

-- A value of a non-reactive definition is assigned.
plain-now : (event : List ℕ) (e : Tree) (needed next : Bool) → is_wanted_by needed next (rule_on event (Plain e)) ≡ true → next ≡ false
plain-now event e true true wants = absurd (false≢true wants)
plain-now event e false true wants = absurd (false≢true wants)
plain-now event e needed false wants = refl

module _ (p : ProgramTree) (typed : IsTyped p) (differ : NamesDiffer p) (event : List ℕ) (plan : Plan) (ready : IsReady p event plan) (plain : filter (is_needed p event) p.decls ≡ needed_plain p event)
    (k : ℕ) (a : Assign) (d : DeclTree) (e : Tree) (it : Assigning p event plan k a d e) (old middle : Draft) (so_far : IsDraftedTo p event plan k old) (at : Pair) where
  -- A non-reactive definition is bound.
  module _ (adds : Adds p old middle e d.ty at) where
    values : Values p old middle e d.ty at
    values = adds-values p old middle e d.ty at adds

    pub plain-ours : AreCellsOf p middle.cells
    plain-ours = (drafted-on p typed differ event plan ready plain k a d e it old middle so_far at values).ours

    pub plain-bind : CanBind middle.cells a.decl at
    plain-bind = can-bind p typed differ event plan ready plain k a d e it old middle so_far at values middle refl refl

    pub plain-step : d.behaviour ≡ Plain e → (new : Draft) → new.ops ≡ middle.ops → new.states ≡ middle.states → new.copies ≡ middle.copies → AreCellsOf p new.cells → Binds a.decl at middle.cells new.cells → IsDraftedTo p event plan (k + 1) new
    plain-step kind new ops states copies ours binds =
        one-step p typed differ event plan ready plain k a d e it old middle so_far at values new
        (λ q is. absurd (none-some q (sym no-state ∙ is))) ops states (copies ∙ sym (ap (λ (o : Option Pair). middle.copies ++ state_copies (is_wide d.ty) at o) no-state ∙ append-nil middle.copies)) ours binds.next
        (λ later. absurd (false≢true (sym now ∙ later))) (λ still. binds)
      where
        no-state : state_of p a.decl d ≡ None
        no-state = rw kind refl

        now : a.next ≡ false
        now = plain-now event e (is_needed p event d) a.next (sym (ap (λ b. is_wanted_by (is_needed p event d) a.next (rule_on event b)) kind) ∙ wanted p typed differ event plan ready plain k a d it.assign it.at)

  -- Its place is still there.
  pub place-inside : Values p old middle e d.ty at → a.decl < length middle.cells.places.items
  place-inside values =
      let here = so_far.places a.decl d it.at in
      slice_get_within middle.cells.places.items a.decl here.0 (ap (λ (items : List Place). slice_get items a.decl) values.grows.goes_on.places ∙ here.1)

  -- The state of a reactive one is copied, and its value is bound.
  module _ (lasting : Lasting p old middle e d.ty at) (wide : Bool) (is : wide ≡ is_wide d.ty) (noted : Draft) (ops : noted.ops ≡ middle.ops) (states : noted.states ≡ middle.states) (cells : noted.cells ≡ middle.cells)
      (copies : (place : Place) → slice_get middle.cells.places.items a.decl ≡ Some place → noted.copies ≡ middle.copies ++ state_copies wide at place.state) where
    step : (new : Draft) → new.ops ≡ noted.ops → new.states ≡ noted.states → new.copies ≡ noted.copies → AreCellsOf p new.cells → new.cells.next ≡ middle.cells.next
        → (a.next ≡ true → new.cells.places.items ≡ middle.cells.places.items) → (a.next ≡ false → Binds a.decl at middle.cells new.cells) → IsDraftedTo p event plan (k + 1) new
    step new new_ops new_states new_copies ours next keeps binds =
        let here = (drafted-on p typed differ event plan ready plain k a d e it old middle so_far at lasting.values).places a.decl d it.at in
        one-step p typed differ event plan ready plain k a d e it old middle so_far at lasting.values new
        (λ q its. (omega (arith, lasting.low, so_far.states), omega (arith, lasting.high, so_far.states))) (new_ops ∙ ops) (new_states ∙ states)
        (new_copies ∙ copies here.0 here.1 ∙ ap (λ w. middle.copies ++ state_copies w at here.0.state) is ∙ ap (λ (o : Option Pair). middle.copies ++ state_copies (is_wide d.ty) at o) here.2.state)
        ours next keeps binds

    pub clause-ours : AreCellsOf p noted.cells
    clause-ours = subst (λ (x : Cells). AreCellsOf p x) (sym cells) (drafted-on p typed differ event plan ready plain k a d e it old middle so_far at lasting.values).ours

    pub clause-later : a.next ≡ true → IsDraftedTo p event plan (k + 1) noted
    clause-later later =
        step noted refl refl refl
        clause-ours (ap (λ (x : Cells). x.next) cells) (λ same. ap (λ (x : Cells). x.places.items) cells) (λ now. absurd (false≢true (sym now ∙ later)))

    pub clause-bind : CanBind noted.cells a.decl at
    clause-bind =
        can-bind p typed differ event plan ready plain k a d e it old middle so_far at lasting.values noted (ap (λ (x : Cells). x.places.items) cells) (ap (λ (x : Cells). x.next) cells)

    pub clause-now : a.next ≡ false → (new : Draft) → new.ops ≡ noted.ops → new.states ≡ noted.states → new.copies ≡ noted.copies → AreCellsOf p new.cells → Binds a.decl at noted.cells new.cells → IsDraftedTo p event plan (k + 1) new
    clause-now now new new_ops new_states new_copies ours binds =
        let bound = subst (λ (x : Cells). Binds a.decl at x new.cells) cells binds in
        step new new_ops new_states new_copies ours bound.next (λ later. absurd (false≢true (sym now ∙ later))) (λ same. bound)
