-- An assignment of a plan behind those before it: what names stand for, that it can be bound, and what its cells hold.
use Rattle.std.specs.List.{list_any}
use Rattle.std.specs.Str.{bytes_eq}
use Rattle.std.proofs.Common.{◌≡◌, ℕ, suc, ◌+◌, ◌≤◌, ◌&&◌, Bool, true, false, List, [], ◌∷◌, ◌++◌, filter, fold, is_some, slice_get, sum_by, take, drop, Option, Some, None, if◌then◌else◌, option_and_then, refl, sym, ap, subst, ◌∙◌, arith, eq-eqb}
use Rattle.std.proofs.lemmas.Bool.{false≢true, or_parts}
use Rattle.std.proofs.lemmas.List.Sums.{sum_by_push}
use Rattle.std.proofs.lemmas.Slice.Eq.{bytes_eq-Decides}
use Rattle.frp_tree.specs.Tree.{Tree, BehaviourTree, Plain, Input, Table, Reactive, DeclTree, ProgramTree}
use Rattle.efrp_meaning.specs.Bounds.{result_bytes, state_bytes, weight}
use Rattle.efrp_meaning.specs.Decls.{is_reactive}
use Rattle.efrp_meaning.specs.Meaning.{State, evaluate, old_state, stands_for}
use Rattle.efrp_meaning.specs.Needs.{needed_plain}
use Rattle.efrp_meaning.specs.States.{IsState, NamesDiffer}
use Rattle.efrp_meaning.specs.Types.{IsTyped}
use Rattle.event_needs.specs.Needed.{is_needed}
use Rattle.event_needs.proofs.NumberLaws.{own-decl, same-place}
use Rattle.event_needs.proofs.ListLaws.{split-at, take-one}
use Rattle.byte_ops.specs.declared.operations.Pair.{Pair}
use Rattle.expr_lower.specs.declared.places.Place.{Place}
use Rattle.expr_lower.specs.Lowered.{IsHeld}
use Rattle.expr_lower.specs.Numbered.{Binds, CanBind}
use Rattle.expr_lower.specs.Places.{AreCellsOf, is_wide}
use Rattle.expr_lower.specs.Running.{DoAll, HoldBytes}
use Rattle.two_phase.specs.declared.plans.Assign.{Assign}
use Rattle.two_phase.specs.declared.plans.Plan.{Plan}
use Rattle.two_phase.specs.Plans.{after, assigned_expression, assigns, bound, given, given_by, names_after, names_before, own_name, same_kind}
use Rattle.event_ops.specs.declared.drafts.Draft.{Draft}
use Rattle.event_ops.specs.Drafts.{Drafted, HoldNames, IsDraftedTo, IsReady, Values, by_expression, state_copies}
use Rattle.event_ops.specs.Works.{HoldState, state_of}
use Rattle.event_ops.proofs.DraftFacts.{Held, Step, assigned-more, grows, names-held}
use Rattle.event_ops.proofs.NameFacts.{any-set}
use Rattle.event_ops.proofs.ReadyFacts.{Assigning, can-add, is-fresh}

-- A definition of which no value is assigned stands for what it did before.
module _ (p : ProgramTree) (differ : NamesDiffer p) (event : List ℕ) (s : State) (n : ℕ) (d : DeclTree) (at : slice_get p.decls n ≡ Some d) where
  one-kept : (names : List ℕ → Option ℕ) (a : Assign) → assigns n false a ≡ false → after p s event names a d.name ≡ names d.name
  one-kept names a other = by_kind a.next refl (slice_get p.decls a.decl) refl
    where
      by_kind : (b : Bool) → a.next ≡ b → (o : Option DeclTree) → slice_get p.decls a.decl ≡ o
          → (if b then names else elim o as (λ o. List ℕ → Option ℕ) [ Some c ↦ bound names c.name (given p s event names c) | None ↦ names ]) d.name ≡ names d.name
      by_kind true now o there = refl
      by_kind false now None there = refl
      by_kind false now (Some c) there = by_name (bytes_eq c.name d.name) refl
        where
          by_name : (b : Bool) → bytes_eq c.name d.name ≡ b → (if b then given p s event names c else names d.name) ≡ names d.name
          by_name false e = refl
          by_name true e =
              let same = same-place p differ a.decl n c d there at e in
              absurd (false≢true (sym other ∙ ap (λ b. b && same_kind a.next false) (eq-eqb a.decl n same) ∙ ap (λ b. same_kind b false) now))

  pub names-kept-by : (front : List Assign) (names : List ℕ → Option ℕ) → list_any (assigns n false) front ≡ false → fold (after p s event) names front d.name ≡ names d.name
  names-kept-by [] names h = refl
  names-kept-by (a ∷ later) names h =
      let parts = or_parts (assigns n false a) (list_any (assigns n false) later) h in
      names-kept-by later (after p s event names a) parts.1 ∙ one-kept names a parts.0

-- A definition's value in what is given.
pub given-is : (p : ProgramTree) (s : State) (event : List ℕ) (names : List ℕ → Option ℕ) (d : DeclTree) (e : Tree) → assigned_expression event d.behaviour ≡ Some e
    → given p s event names d ≡ evaluate p (stands_for p s names (own_name d)) e
given-is p s event names d e is = ap (option_and_then (evaluate p (stands_for p s names (own_name d)))) is

module _ (p : ProgramTree) (typed : IsTyped p) (differ : NamesDiffer p) (event : List ℕ) (plan : Plan) (ready : IsReady p event plan) (plain : filter (is_needed p event) p.decls ≡ needed_plain p event)
    (k : ℕ) (a : Assign) (d : DeclTree) (e : Tree) (it : Assigning p event plan k a d e) (old middle : Draft) (so_far : IsDraftedTo p event plan k old) (at : Pair) (values : Values p old middle e d.ty at) where
  abbrev front : List Assign
  front = take k plan.work

  abbrev bytes_before : ℕ
  bytes_before = sum_by (by_expression p event (result_bytes p)) front

  abbrev weight_before : ℕ
  weight_before = sum_by (by_expression p event (weight p)) front

  -- Its operations are drafted, which leaves room.
  pub drafted-on : Drafted p event front (bytes_before + result_bytes p e) (weight_before + weight p e) middle
  drafted-on =
      grows p typed differ ready.no_inputs event front bytes_before weight_before old middle so_far values.ops (result_bytes p e) (weight p e) values.grows
      (can-add p typed differ event plan ready plain k a d e it old so_far).room

  unset : (next : Bool) → list_any (assigns a.decl next) front ≡ false
  unset next = by_test (list_any (assigns a.decl next) front) refl
    where
      by_test : (b : Bool) → list_any (assigns a.decl next) front ≡ b → b ≡ false
      by_test false is = refl
      by_test true is = absurd (false≢true (sym (is-fresh p typed differ event plan ready plain k a d it.assign it.at) ∙ any-set a.decl next front is))

  -- It isn't bound before, and can be.
  pub can-bind : (draft : Draft) → draft.cells.places.items ≡ middle.cells.places.items → draft.cells.next ≡ middle.cells.next → CanBind draft.cells a.decl at
  can-bind draft same next =
      let here = drafted-on.places a.decl d it.at in
      record {
        place = here.0;
        is_there = ap (λ (items : List Place). slice_get items a.decl) same ∙ here.1;
        free = no-bound here.0.bound (here.2.bound ∙ unset false);
        fits = (omega (arith, values.result_in.0, next), omega (arith, values.result_in.1.0, next), (λ narrow. values.narrow (ap is_wide (sym here.2.ty) ∙ narrow)));
      }
    where
      no-bound : (o : Option Pair) → is_some o ≡ false → o ≡ None
      no-bound None h = refl
      no-bound (Some x) h = absurd (false≢true (sym h))

  -- What is given is held in its cells.
  module _ (s : State) (start finish : ℕ → ℕ) (is_state : IsState p s) (bytes : HoldBytes start) (hold : HoldState p s start) (done : DoAll middle.ops start finish) where
    abbrev names : List ℕ → Option ℕ
    names = names_after p s [] event front

    h : Held p typed differ ready.no_inputs event front bytes_before weight_before old middle so_far values.ops (result_bytes p e) (weight p e) values.grows s start finish
    h = names-held p typed differ ready.no_inputs event front bytes_before weight_before old middle so_far values.ops (result_bytes p e) (weight p e) values.grows s start finish is_state bytes hold done

    given-old : (b : BehaviourTree) → d.behaviour ≡ b → is_reactive b ≡ true → given_by p s [] d ≡ old_state p s d.name
    given-old (Plain x) is r = absurd (false≢true r)
    given-old (Input port) is r = absurd (false≢true r)
    given-old (Table entries) is r = absurd (false≢true r)
    given-old (Reactive init clauses) is r = rw is refl

    old-name : is_reactive d.behaviour ≡ true → names d.name ≡ old_state p s d.name
    old-name reactive =
        names-kept-by p differ event s a.decl d it.at front (names_before p s []) (unset false)
        ∙ ap (option_and_then (given_by p s [])) (own-decl p differ a.decl d it.at) ∙ given-old d.behaviour refl reactive

    own-held : HoldNames p old.cells (stands_for p s names (own_name d)) h.middle
    own-held y u pair type has = by_reactive (is_reactive d.behaviour) refl
      where
        by_reactive : (b : Bool) → is_reactive d.behaviour ≡ b → IsHeld u (stands_for p s names (if b then Some d.name else None) y) pair h.middle
        by_reactive false isnt = h.names y u pair type has
        by_reactive true holds = by_name (bytes_eq d.name y) refl
          where
            by_name : (b : Bool) → bytes_eq d.name y ≡ b → IsHeld u ((if b then old_state p s else names) y) pair h.middle
            by_name false other = h.names y u pair type has
            by_name true same =
                let name = (bytes_eq-Decides d.name y).0 same in
                subst (λ o. IsHeld u o pair h.middle) (ap names (sym name) ∙ old-name holds ∙ ap (old_state p s) name) (h.names y u pair type has)

    given-held : IsHeld d.ty (given p s event names d) at finish
    given-held =
        subst (λ o. IsHeld d.ty o at finish) (sym (given-is p s event names d e it.expression))
        (values.value (stands_for p s names (own_name d)) h.middle finish h.bytes (λ y named u pair type has. own-held y u pair type has) h.done)

  -- The assignment is drafted, where cells are copied and bound.
  pub one-step : (new : Draft)
      → ((q : Pair) → state_of p a.decl d ≡ Some q → (state_bytes p ≤ at.low) × (state_bytes p ≤ at.high))
      → new.ops ≡ middle.ops → new.states ≡ middle.states → new.copies ≡ middle.copies ++ state_copies (is_wide d.ty) at (state_of p a.decl d)
      → AreCellsOf p new.cells → new.cells.next ≡ middle.cells.next
      → (a.next ≡ true → new.cells.places.items ≡ middle.cells.places.items) → (a.next ≡ false → Binds a.decl at middle.cells new.cells)
      → IsDraftedTo p event plan (k + 1) new
  one-step new lasting ops states copies ours next keeps binds =
      let f = by_expression p event (result_bytes p) in
      let g = by_expression p event (weight p) in
      subst (λ (later : List Assign). Drafted p event later (sum_by f later) (sum_by g later) new) (sym more)
      (subst (λ m. Drafted p event (front ++ a ∷ []) m (sum_by g (front ++ a ∷ [])) new) (sym (sum_by_push f front a ∙ ap (λ m. sum_by f front + m) (own-number (result_bytes p))))
      (subst (λ m. Drafted p event (front ++ a ∷ []) (bytes_before + result_bytes p e) m new) (sym (sum_by_push g front a ∙ ap (λ m. sum_by g front + m) (own-number (weight p))))
      (assigned-more p typed differ ready.no_inputs event front (bytes_before + result_bytes p e) (weight_before + weight p e) a d middle new at drafted-on the-step)))
    where
      more : take (k + 1) plan.work ≡ front ++ a ∷ []
      more = take-one plan.work k a it.assign

      own-number : (f : Tree → ℕ) → by_expression p event f a ≡ f e
      own-number f =
          ap (λ o. elim o [ Some c ↦ elim (assigned_expression event c.behaviour) [ Some x ↦ f x | None ↦ 0 ] | None ↦ 0 ]) it.at
          ∙ ap (λ o. elim o [ Some x ↦ f x | None ↦ 0 ]) it.expression

      the-step : Step p typed differ ready.no_inputs event front a d middle new at
      the-step = record {
        at = it.at;
        fresh = is-fresh p typed differ event plan ready plain k a d it.assign it.at;
        low = values.result_in.0;
        high = values.result_in.1.0;
        lasting = lasting;
        value = given-held;
        gives = λ s. ready.gives s [] front (drop (suc k) plan.work) a d (split-at plan.work k a it.assign) it.at;
        ops = ops;
        states = states;
        copies = copies;
        ours = ours;
        next = next;
        keeps = keeps;
        can = λ now. can-bind middle refl refl;
        binds = binds;
      }
