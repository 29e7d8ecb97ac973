-- What an assignment of a plan asks for holds behind those before it, and what the outputs ask for behind all.
use Rattle.std.specs.List.{AllByRecursion, list_any}
use Rattle.std.specs.Str.{bytes_eq}
use Rattle.std.proofs.Common.{◌≡◌, ℕ, zero, suc, ◌+◌, ◌≤◌, ◌⊎◌, ◌&&◌, cond, Bool, true, false, List, [], ◌∷◌, ◌++◌, filter, take, drop, is_some, slice_get, sum_by, count_by, Option, Some, None, if◌then◌else◌, option_and_then, refl, sym, ap, subst, ◌∙◌, arith, eq-eqb}
use Rattle.std.proofs.lemmas.Bool.{false≢true, and_parts}
use Rattle.std.proofs.lemmas.List.Sums.{sum_by-append, sum_by-cons}
use Rattle.std.proofs.lemmas.Option.{none-some, same_Some}
use Rattle.std.proofs.lemmas.Slice.Eq.{bytes_eq-Decides}
use mathlib.Core.Logic.{inl, inr}
use Rattle.frp_tree.specs.Tree.{Tree, ClauseTree, BehaviourTree, Plain, Input, Table, Reactive, DeclTree, ProgramTree}
use Rattle.efrp_meaning.specs.Bounds.{result_bytes, state_bytes}
use Rattle.efrp_meaning.specs.Decls.{is_input, is_reactive}
use Rattle.efrp_meaning.specs.Meaning.{Rule, Always, Sampled, Tabled, Now, Later, Stays, clause_rule, rule_on}
use Rattle.efrp_meaning.specs.Needs.{IsNamedIn, clause_for, needed_plain}
use Rattle.efrp_meaning.specs.States.{NamesDiffer}
use Rattle.efrp_meaning.specs.Types.{IsTyped, IsTypedAs, type_of}
use Rattle.efrp_types.specs.Numbers.{decl_number}
use Rattle.event_needs.specs.Needed.{is_needed}
use Rattle.event_needs.proofs.NumberLaws.{own-number}
use Rattle.event_needs.proofs.ListLaws.{each-at, none-counts, split-at}
use Rattle.byte_ops.specs.declared.operations.Pair.{Pair}
use Rattle.expr_lower.specs.declared.cells.Cells.{Cells}
use Rattle.expr_lower.specs.declared.places.Place.{Place}
use Rattle.expr_lower.specs.Lowered.{HasNoLook}
use Rattle.expr_lower.specs.Places.{cells_of_name, cells_of_place, first_of}
use Rattle.expr_lower.proofs.OrderLaws.{ends-after}
use Rattle.two_phase.specs.declared.plans.Assign.{Assign}
use Rattle.two_phase.specs.declared.plans.Plan.{Plan}
use Rattle.two_phase.specs.Plans.{IsKnown, assigned_expression, assigns, expression_by, is_known_by, is_own_state, is_wanted, is_wanted_by, same_kind}
use Rattle.two_phase.proofs.NamedLaws.{assigned-typed}
use Rattle.event_ops.specs.declared.drafts.Draft.{Draft}
use Rattle.event_ops.specs.Drafts.{CanAdd, Drafted, IsDraftedTo, IsPlaceOf, IsReady, by_expression, is_set}
use Rattle.event_ops.specs.Works.{LookNowhere, state_of}
use Rattle.event_ops.proofs.NameFacts.{none-set, own-kind}
use Rattle.event_ops.proofs.SumFacts.{all-sum}

-- Where none passes a test, the one at a place doesn't.
pub none-passes : {A : Type 0} (test : A → Bool) (xs : List A) → filter test xs ≡ [] → (n : ℕ) (x : A) → slice_get xs n ≡ Some x → test x ≡ false
none-passes test [] none n x at = absurd (none-some x at)
none-passes {A = A} test (y ∷ ys) none n x at = by_test (test y) refl none n at (none-passes test ys)
  where
    by_test : (b : Bool) → test y ≡ b → (if b then y ∷ filter test ys else filter test ys) ≡ [] → (m : ℕ) → slice_get (y ∷ ys) m ≡ Some x
        → (filter test ys ≡ [] → (k : ℕ) (z : A) → slice_get ys k ≡ Some z → test z ≡ false) → test x ≡ false
    by_test true e none m at rest = absurd (cc)
    by_test false e none zero at rest = ap test (sym (same_Some y x at)) ∙ e
    by_test false e none (suc m) at rest = rest none m x at

-- What holds of each clause's expression holds of that for an event.
at-clause : (P : Tree → Type 0) (event : List ℕ) (clauses : List ClauseTree) → AllByRecursion (λ (c : ClauseTree). P c.expr) clauses → (e : Tree) → expression_by (clause_rule (clause_for event clauses)) ≡ Some e → P e
at-clause P event [] all e is = absurd (none-some e is)
at-clause P event (c ∷ cs) all e is = by_event (bytes_eq event c.event) is (at-clause P event cs all.1)
  where
    by_later : (b : Bool) → expression_by (if b then Later c.expr else Now c.expr) ≡ Some e → P e
    by_later true is = subst P (same_Some c.expr e is) all.0
    by_later false is = subst P (same_Some c.expr e is) all.0

    by_event : (b : Bool) → expression_by (clause_rule (if b then Some c else clause_for event cs)) ≡ Some e → ((k : Tree) → expression_by (clause_rule (clause_for event cs)) ≡ Some k → P k) → P e
    by_event true is rest = by_later c.later is
    by_event false is rest = rest e is

looks-nowhere : (event : List ℕ) (b : BehaviourTree) (e : Tree) → LookNowhere b → assigned_expression event b ≡ Some e → HasNoLook e
looks-nowhere event (Plain k) e its is = subst HasNoLook (same_Some k e is) its
looks-nowhere event (Input port) e its is = absurd (none-some e is)
looks-nowhere event (Table entries) e its is = absurd (none-some e is)
looks-nowhere event (Reactive init clauses) e its is = at-clause HasNoLook event clauses its e is

-- Whatever has a known value is assigned, or has a state.
known-has : (event : List ℕ) (front : List Assign) (n : ℕ) (b : BehaviourTree) → is_input b ≡ false → is_known_by front n (rule_on event b) ≡ true → (list_any (assigns n false) front ≡ true) ⊎ (is_reactive b ≡ true)
known-has event front n (Plain e) isnt h = inl h
known-has event front n (Input port) isnt h = absurd (false≢true (sym isnt))
known-has event front n (Table entries) isnt h = absurd (false≢true h)
known-has event front n (Reactive init clauses) isnt h = inr refl

reactive-state : (p : ProgramTree) (n : ℕ) (d : DeclTree) (b : BehaviourTree) → d.behaviour ≡ b → is_reactive b ≡ true → is_some (state_of p n d) ≡ true
reactive-state p n d (Plain e) is h = absurd (false≢true h)
reactive-state p n d (Input port) is h = absurd (false≢true h)
reactive-state p n d (Table entries) is h = absurd (false≢true h)
reactive-state p n d (Reactive init clauses) is h = rw is refl

-- Of two kinds of assignment one alone is wanted.
one-kind : (k : Bool) (r : Rule) (a b : Bool) → is_wanted_by k a r ≡ true → is_wanted_by k b r ≡ true → a ≡ b
one-kind true (Always e) true b h g = absurd (false≢true h)
one-kind false (Always e) true b h g = absurd (false≢true h)
one-kind true (Always e) false true h g = absurd (false≢true g)
one-kind false (Always e) false true h g = absurd (false≢true g)
one-kind k (Always e) false false h g = refl
one-kind k Sampled a b h g = absurd (false≢true h)
one-kind k Tabled a b h g = absurd (false≢true h)
one-kind k (Now e) true b h g = absurd (false≢true h)
one-kind k (Now e) false true h g = absurd (false≢true g)
one-kind k (Now e) false false h g = refl
one-kind k (Later e) true true h g = refl
one-kind k (Later e) true false h g = absurd (false≢true g)
one-kind k (Later e) false b h g = absurd (false≢true h)
one-kind k Stays a b h g = absurd (false≢true h)

-- The assignment with a number, the definition that it is of, and its expression.
pub record Assigning (p : ProgramTree) (event : List ℕ) (plan : Plan) (k : ℕ) (a : Assign) (d : DeclTree) (e : Tree) : Type 0 where
  pub assign : slice_get plan.work k ≡ Some a
  pub at : slice_get p.decls a.decl ≡ Some d
  pub expression : assigned_expression event d.behaviour ≡ Some e

abbrev HasCellsNow : ProgramTree → Cells → List ℕ → Type 0
HasCellsNow p cells y = (pair : Pair) × (cells_of_name p cells y ≡ Some pair)

module _ (p : ProgramTree) (typed : IsTyped p) (differ : NamesDiffer p) (event : List ℕ) (plan : Plan) (ready : IsReady p event plan) (plain : filter (is_needed p event) p.decls ≡ needed_plain p event) where
  no-input : (n : ℕ) (d : DeclTree) → slice_get p.decls n ≡ Some d → is_input d.behaviour ≡ false
  no-input n d at = none-passes (λ (c : DeclTree). is_input c.behaviour) p.decls ready.no_inputs n d at

  -- A definition that is assigned or has a state has cells.
  module _ (front : List Assign) (b w : ℕ) (draft : Draft) (so_far : Drafted p event front b w draft) where
    pub its-cells : (n : ℕ) (d : DeclTree) (y : List ℕ) → slice_get p.decls n ≡ Some d → decl_number p y ≡ Some n → (list_any (assigns n false) front ≡ true) ⊎ (is_reactive d.behaviour ≡ true) → HasCellsNow p draft.cells y
    its-cells n d y at number either =
        let here = so_far.places n d at in
        let it = cells-at here.0 here.2 in
        (it.0, ap (option_and_then (λ k. option_and_then cells_of_place (slice_get draft.cells.places.items k))) number ∙ ap (option_and_then cells_of_place) here.1 ∙ it.1)
      where
        cells-at : (place : Place) → IsPlaceOf p front n d place → (pair : Pair) × (cells_of_place place ≡ Some pair)
        cells-at place is = by_bound place.bound refl
          where
            by_state : (o : Option Pair) → place.state ≡ o → is_some o ≡ true → place.bound ≡ None → (pair : Pair) × (cells_of_place place ≡ Some pair)
            by_state None e h none = absurd (false≢true h)
            by_state (Some x) e h none = (x, ap (λ o. first_of o place.state) none ∙ e)

            by_bound : (o : Option Pair) → place.bound ≡ o → (pair : Pair) × (cells_of_place place ≡ Some pair)
            by_bound (Some x) e = (x, ap (λ o. first_of o place.state) e)
            by_bound None e = elim either [
              | inl set ↦ absurd (false≢true (sym (ap is_some e) ∙ is.bound ∙ set))
              | inr reactive ↦ by_state place.state refl (ap is_some is.state ∙ reactive-state p n d d.behaviour refl reactive) e
            ]

    pub known-cells : (y : List ℕ) → IsKnown p event front y → HasCellsNow p draft.cells y
    known-cells y known =
        let n = known.0 in
        let d = known.1 in
        its-cells n d y known.2 (ap (decl_number p) (sym known.3) ∙ own-number p differ n d known.2) (known-has event front n d.behaviour (no-input n d known.2) known.4)

  module _ (k : ℕ) (a : Assign) (d : DeclTree) (assign : slice_get plan.work k ≡ Some a) (at : slice_get p.decls a.decl ≡ Some d) where
    abbrev front : List Assign
    front = take k plan.work

    abbrev rest : List Assign
    rest = drop (suc k) plan.work

    split : plan.work ≡ front ++ a ∷ rest
    split = split-at plan.work k a assign

    own-counts : (next : Bool) → cond (assigns a.decl next a) 1 0 + (count_by (assigns a.decl next) front + count_by (assigns a.decl next) rest) ≡ count_by (assigns a.decl next) plan.work
    own-counts next =
        let whole = ap (count_by (assigns a.decl next)) split in
        let parts = sum_by-append (λ (x : Assign). cond (assigns a.decl next x) 1 0) front (a ∷ rest) in
        let more = sum_by-cons (λ (x : Assign). cond (assigns a.decl next x) 1 0) a rest in
        omega (arith, whole, parts, more)

    this-one : ◌≡◌ {A = ℕ} (cond (assigns a.decl a.next a) 1 0) 1
    this-one = ap (λ b. cond b 1 0) (ap (λ b. b && same_kind a.next a.next) (eq-eqb a.decl a.decl refl) ∙ own-kind a.next)

    wanted-count : (b : Bool) → 1 ≤ (if b then 1 else 0) → b ≡ true
    wanted-count true h = refl
    wanted-count false h = absurd (omega (arith, h))

    pub wanted : is_wanted p event d a.next ≡ true
    wanted = let counts = own-counts a.next in let one = this-one in let once = ready.plan.once a.decl d a.next at in wanted-count (is_wanted p event d a.next) (omega (arith, counts, one, once))

    -- It isn't assigned before.
    pub is-fresh : is_set a.decl front ≡ false
    is-fresh = none-set a.decl front (each-way false) (each-way true)
      where
        by_kind : (next : Bool) (b : Bool) → is_wanted p event d next ≡ b → list_any (assigns a.decl next) front ≡ false
        by_kind next false isnt =
            let counts = own-counts next in
            let once = ready.plan.once a.decl d next at ∙ ap (λ b. if b then 1 else 0) isnt in
            none-counts (assigns a.decl next) front (omega (arith, counts, once))
        by_kind next true holds =
            let same = one-kind (is_needed p event d) (rule_on event d.behaviour) a.next next wanted holds in
            let counts = own-counts next in
            let one : ◌≡◌ {A = ℕ} (cond (assigns a.decl next a) 1 0) 1 = subst (λ m. ◌≡◌ {A = ℕ} (cond (assigns a.decl m a) 1 0) 1) same this-one in
            let once = ready.plan.once a.decl d next at ∙ ap (λ b. if b then 1 else 0) holds in
            none-counts (assigns a.decl next) front (omega (arith, counts, one, once))

        each-way : (next : Bool) → list_any (assigns a.decl next) front ≡ false
        each-way next = by_kind next (is_wanted p event d next) refl

  module _ (k : ℕ) (a : Assign) (d : DeclTree) (e : Tree) (it : Assigning p event plan k a d e) where
    pub typed-as : type_of p e ≡ Some d.ty
    typed-as = assigned-typed p event d.ty d.behaviour e (each-at (λ (c : DeclTree). IsTypedAs p c.ty c.behaviour) p.decls a.decl d typed.decls it.at) it.expression

    own-number-of : by_expression p event (result_bytes p) a ≡ result_bytes p e
    own-number-of =
        ap (λ o. elim o [ Some c ↦ elim (assigned_expression event c.behaviour) [ Some x ↦ result_bytes p x | None ↦ 0 ] | None ↦ 0 ]) it.at
        ∙ ap (λ o. elim o [ Some x ↦ result_bytes p x | None ↦ 0 ]) it.expression

    pub can-add : (draft : Draft) → IsDraftedTo p event plan k draft → CanAdd p draft e
    can-add draft so_far = record {
      typed = (d.ty, typed-as);
      no_look = looks-nowhere event d.behaviour e (each-at (λ (c : DeclTree). LookNowhere c.behaviour) p.decls a.decl d ready.no_look.decls it.at) it.expression;
      cells = so_far.ours;
      named = λ y inside. by_own y inside (is_own_state d y) refl;
      old = omega (arith, so_far.states, ends-after (state_bytes p) draft.ops draft.cells.next so_far.order);
      room =
          let f = by_expression p event (result_bytes p) in
          let sum = all-sum p event (result_bytes p) plan ready.plan plain in
          let whole = ap (sum_by f) (split k a d it.assign it.at) in
          let parts = sum_by-append f (take k plan.work) (a ∷ drop (suc k) plan.work) in
          let more = sum_by-cons f a (drop (suc k) plan.work) in
          let own = own-number-of in
          omega (arith, sum, whole, parts, more, own, so_far.count, ready.room);
    }
      where
        by_own : (y : List ℕ) → IsNamedIn y e → (b : Bool) → is_own_state d y ≡ b → HasCellsNow p draft.cells y
        by_own y inside false isnt = known-cells (take k plan.work) _ _ draft so_far y (ready.plan.behind (take k plan.work) (drop (suc k) plan.work) a d e y (split k a d it.assign it.at) it.at it.expression inside isnt)
        by_own y inside true holds =
            let tests = and_parts (is_reactive d.behaviour) (bytes_eq d.name y) holds in
            let name = (bytes_eq-Decides d.name y).0 tests.1 in
            its-cells (take k plan.work) _ _ draft so_far a.decl d y it.at (ap (decl_number p) (sym name) ∙ own-number p differ a.decl d it.at) (inr tests.0)
