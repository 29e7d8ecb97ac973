-- Behind all assignments and the outputs the work does what it promises.
use Rattle.std.specs.List.{AllByRecursion, list_any}
use Rattle.std.proofs.Common.{◌≡◌, ℕ, ◌+◌, ◌<◌, ◌≤◌, Bool, true, false, List, [], ◌∷◌, filter, is_some, map, slice_get, sum_by, take, Option, Some, None, if◌then◌else◌, option_and_then, refl, sym, ap, subst, ◌∙◌, arith}
use Rattle.std.proofs.lemmas.Bool.{false≢true}
use Rattle.std.proofs.lemmas.Option.{none-some, same_Some}
use Rattle.frp_tree.specs.declared.syntax.Ty.{Ty}
use Rattle.frp_tree.specs.Tree.{ClauseTree, BehaviourTree, Plain, Input, Table, Reactive, DeclTree, OutputTree, ProgramTree}
use Rattle.efrp_meaning.specs.Bounds.{result_bytes, state_bytes, weight}
use Rattle.efrp_meaning.specs.Causal.{IsCausalOn}
use Rattle.efrp_meaning.specs.Decls.{is_reactive, is_table}
use Rattle.efrp_meaning.specs.Meaning.{State, Rule, Always, Sampled, Tabled, Now, Later, Stays, all_defined, clause_rule, depth, expression_on, new_state, new_state_by, old_state, rule_on, value_on}
use Rattle.efrp_meaning.specs.Needs.{clause_for, needed_plain}
use Rattle.efrp_meaning.specs.States.{IsState, NamesDiffer}
use Rattle.efrp_meaning.specs.Types.{IsTyped, value_type}
use Rattle.efrp_meaning.proofs.StateLaws.{reacts-to-a-state}
use Rattle.event_needs.specs.Needed.{is_needed}
use Rattle.event_needs.proofs.NumberLaws.{count-some}
use Rattle.event_needs.proofs.ListLaws.{none-counts}
use Rattle.byte_ops.specs.declared.operations.Pair.{Pair}
use Rattle.byte_ops.specs.Cells.{held}
use Rattle.expr_lower.specs.declared.places.Place.{Place}
use Rattle.expr_lower.specs.Lowered.{IsHeld}
use Rattle.expr_lower.specs.Places.{cells_of_place, first_of, is_wide}
use Rattle.expr_lower.specs.Running.{DoAll, HoldBytes}
use Rattle.expr_lower.proofs.OrderLaws.{leaves}
use Rattle.two_phase.specs.declared.plans.Assign.{Assign}
use Rattle.two_phase.specs.declared.plans.Plan.{Plan}
use Rattle.two_phase.specs.Plans.{IsKnown, assigns, expression_by, is_known_by, is_wanted, is_wanted_by, meant, names_after}
use Rattle.event_ops.specs.declared.drafts.Draft.{Draft}
use Rattle.event_ops.specs.declared.results.Put.{Put}
use Rattle.event_ops.specs.Drafts.{Drafted, HoldNames, IsDraftedTo, IsPlaceOf, IsReady, Leaves, Shows, by_expression, is_set, is_to}
use Rattle.event_ops.specs.Works.{HoldState, IsPut, Works, copied, state_of}
use Rattle.event_ops.proofs.CopyFacts.{copied-none}
use Rattle.event_ops.proofs.DraftFacts.{grows, names-held, no-samples}
use Rattle.event_ops.proofs.NameFacts.{all-cells, each-cell, held-same, name-at, none-set}
use Rattle.event_ops.proofs.NewStateFacts.{all-some, new-at, parts}
use Rattle.event_ops.proofs.PlaceFacts.{before, has-cells, lies-in}
use Rattle.event_ops.proofs.SumFacts.{all-sum}

-- A rule of a reactive definition.
abbrev is_state_rule : Rule → Bool
is_state_rule (Always e) = false
is_state_rule Sampled = false
is_state_rule Tabled = false
is_state_rule (Now e) = true
is_state_rule (Later e) = true
is_state_rule Stays = true

map-mapped : (qs : List Put) (f : ℕ → ℕ) → map (λ (q : Put). Some (f q.from)) qs ≡ map Some (map (λ (q : Put). f q.from) qs)
map-mapped [] f = refl
map-mapped (q ∷ qs) f = ap (λ rest. Some (f q.from) ∷ rest) (map-mapped qs f)

module _ (p : ProgramTree) (typed : IsTyped p) (differ : NamesDiffer p) (event : List ℕ) (causal : IsCausalOn p event) (plan : Plan) (ready : IsReady p event plan) (plain : filter (is_needed p event) p.decls ≡ needed_plain p event)
    (known : (s : State) (y : List ℕ) → IsKnown p event plan.work y → names_after p s [] event plan.work y ≡ value_on p s [] event y (depth p)) where
  in-work : (n : ℕ) (d : DeclTree) (next : Bool) → slice_get p.decls n ≡ Some d → is_wanted p event d next ≡ true → list_any (assigns n next) plan.work ≡ true
  in-work n d next at wants =
      let once = ready.plan.once n d next at ∙ ap (λ b. if b then 1 else 0) wants in
      count-some (assigns n next) plan.work (omega (arith, once))

  not-in-work : (n : ℕ) (d : DeclTree) (next : Bool) → slice_get p.decls n ≡ Some d → is_wanted p event d next ≡ false → list_any (assigns n next) plan.work ≡ false
  not-in-work n d next at isnt = none-counts (assigns n next) plan.work (ready.plan.once n d next at ∙ ap (λ b. if b then 1 else 0) isnt)

  module _ (b w : ℕ) (draft : Draft) (so_far : Drafted p event plan.work b w draft) where
    -- A name with cells has a known value.
    known-by : (n : ℕ) (d : DeclTree) (t : Ty) (pair : Pair) (place : Place) → slice_get p.decls n ≡ Some d → value_type d ≡ Some t → IsPlaceOf p plan.work n d place → cells_of_place place ≡ Some pair
        → (r : BehaviourTree) → d.behaviour ≡ r → is_known_by plan.work n (rule_on event r) ≡ true
    known-by n d t pair place at type is has (Plain e) kind = by_bound place.bound refl has
      where
        no-state : place.state ≡ None
        no-state = is.state ∙ rw kind refl

        by_bound : (o : Option Pair) → place.bound ≡ o → first_of o place.state ≡ Some pair → list_any (assigns n false) plan.work ≡ true
        by_bound (Some x) e h = sym is.bound ∙ ap is_some e
        by_bound None e h = absurd (none-some pair (sym no-state ∙ h))
    known-by n d t pair place at type is has (Input port) kind = refl
    known-by n d t pair place at type is has (Table entries) kind = absurd (none-some t (sym (ap (λ b. if b then None else Some d.ty) (ap is_table kind)) ∙ type))
    known-by n d t pair place at type is has (Reactive init clauses) kind = by_clause (clause_for event clauses) refl
      where
        by_clause : (o : Option ClauseTree) → clause_for event clauses ≡ o → is_known_by plan.work n (clause_rule o) ≡ true
        by_clause None e = refl
        by_clause (Some c) e = by_later c.later refl
          where
            by_later : (k : Bool) → c.later ≡ k → is_known_by plan.work n (if k then Later c.expr else Now c.expr) ≡ true
            by_later true l = refl
            by_later false l =
                in-work n d false at
                (ap (λ r. is_wanted_by (is_needed p event d) false (rule_on event r)) kind ∙ ap (λ o. is_wanted_by (is_needed p event d) false (clause_rule o)) e
                ∙ ap (λ k. is_wanted_by (is_needed p event d) false (if k then Later c.expr else Now c.expr)) l)

    names-on : (s : State) (finish : ℕ → ℕ) → HoldNames p draft.cells (names_after p s [] event plan.work) finish → HoldNames p draft.cells (λ y. value_on p s [] event y (depth p)) finish
    names-on s finish hold y t pair type has =
        let its = name-at p draft.cells so_far.ours y t pair type has in
        let here = so_far.places its.n its.d its.at in
        let cells = sym (ap (λ o. option_and_then (λ n. option_and_then cells_of_place (slice_get draft.cells.places.items n)) o) its.number ∙ ap (option_and_then cells_of_place) here.1) ∙ has in
        let value = sym (ap (option_and_then value_type) its.found) ∙ type in
        let is = known s y (its.n, its.d, its.at, its.name, known-by its.n its.d t pair here.0 its.at value here.2 cells its.d.behaviour refl) in
        subst (λ o. IsHeld t o pair finish) is (hold y t pair type has)

    -- The states' cells once the work is done and copied.
    module _ (s : State) (start finish : ℕ → ℕ) (is_state : IsState p s) (bytes : HoldBytes start) (hold : HoldState p s start) (done : DoAll draft.ops start finish) (new : State) (is_new : new_state p s [] event ≡ Some new) where
      left : Leaves p event plan.work draft s finish
      left = so_far.leaves s start finish is_state bytes hold done

      by-news : (n : ℕ) (d : DeclTree) (pair : Pair) (next : Bool) → slice_get p.decls n ≡ Some d → state_of p n d ≡ Some pair → is_wanted p event d next ≡ true → meant p s [] event d next ≡ Some (held (is_wide d.ty) pair (copied draft.copies finish))
      by-news n d pair next at is wants = left.news n d pair next at is (in-work n d next at wants)

      by-old : (n : ℕ) (d : DeclTree) (pair : Pair) → slice_get p.decls n ≡ Some d → state_of p n d ≡ Some pair → is_wanted p event d false ≡ false → is_wanted p event d true ≡ false
          → old_state p s d.name ≡ Some (held (is_wide d.ty) pair (copied draft.copies finish))
      by-old n d pair at is isnt later =
          let unset = none-set n plan.work (not-in-work n d false at isnt) (not-in-work n d true at later) in
          let inside = lies-in p n d pair at is in
          let stays = λ (cell : ℕ) (below : cell < state_bytes p). leaves (state_bytes p) draft.ops draft.cells.next start finish so_far.order done cell below in
          hold n d pair at is
          ∙ ap Some (sym (held-same (is_wide d.ty) pair finish start (all-cells (λ cell. finish cell ≡ start cell) (is_wide d.ty) pair (stays pair.low inside.low) (stays pair.high inside.high))))
          ∙ ap Some (sym (held-same (is_wide d.ty) pair (copied draft.copies finish) finish
          (each-cell (λ cell. is_to draft.copies cell ≡ is_set n plan.work) (λ cell. copied draft.copies finish cell ≡ finish cell) (is_wide d.ty) pair (λ cell mark. copied-none draft.copies finish cell (mark ∙ unset)) (so_far.marks n d pair at is))))

      state-held : HoldState p new (copied draft.copies finish)
      state-held n d pair at is = by_rule (rule_on event d.behaviour) refl
        where
          reactive : is_reactive d.behaviour ≡ true
          reactive = (has-cells (before p.decls n) d.ty d.behaviour pair is).reactive

          new-is : (v : Option ℕ) → new_state_by p s [] event d.name (rule_on event d.behaviour) ≡ v ∷ [] → old_state p new d.name ≡ v
          new-is v one = new-at p s [] event differ new is_new n d at reactive v one

          wants : (next : Bool) (r : Rule) → rule_on event d.behaviour ≡ r → is_wanted p event d next ≡ is_wanted_by (is_needed p event d) next r
          wants next r rule = ap (is_wanted_by (is_needed p event d) next) rule

          no-plain : (r : BehaviourTree) → is_reactive r ≡ true → (q : Rule) → rule_on event r ≡ q → is_state_rule q ≡ true
          no-plain (Plain e) h q rule = absurd (false≢true h)
          no-plain (Input port) h q rule = absurd (false≢true h)
          no-plain (Table entries) h q rule = absurd (false≢true h)
          no-plain (Reactive init clauses) h q rule = subst (λ r. is_state_rule r ≡ true) rule (by_clause (clause_for event clauses))
            where
              by_clause : (o : Option ClauseTree) → is_state_rule (clause_rule o) ≡ true
              by_clause None = refl
              by_clause (Some c) = by_later c.later
                where
                  by_later : (k : Bool) → is_state_rule (if k then Later c.expr else Now c.expr) ≡ true
                  by_later true = refl
                  by_later false = refl

          by_rule : (r : Rule) → rule_on event d.behaviour ≡ r → old_state p new d.name ≡ Some (held (is_wide d.ty) pair (copied draft.copies finish))
          by_rule (Always e) rule = absurd (false≢true (no-plain d.behaviour reactive (Always e) rule))
          by_rule Sampled rule = absurd (false≢true (no-plain d.behaviour reactive Sampled rule))
          by_rule Tabled rule = absurd (false≢true (no-plain d.behaviour reactive Tabled rule))
          by_rule (Now e) rule =
              new-is (value_on p s [] event d.name (depth p)) (ap (new_state_by p s [] event d.name) rule) ∙ by-news n d pair false at is (wants false (Now e) rule)
          by_rule (Later e) rule =
              new-is (expression_on p s [] event e (Some d.name) (depth p)) (ap (new_state_by p s [] event d.name) rule)
              ∙ sym (ap (λ r. option_and_then (λ x. expression_on p s [] event x (Some d.name) (depth p)) (expression_by r)) rule)
              ∙ by-news n d pair true at is (wants true (Later e) rule)
          by_rule Stays rule =
              new-is (old_state p s d.name) (ap (new_state_by p s [] event d.name) rule) ∙ by-old n d pair at is (wants false Stays rule) (wants true Stays rule)

  -- All is drafted, and the outputs behind it.
  pub works : (draft last : Draft) (k : ℕ) → take k plan.work ≡ plan.work → IsDraftedTo p event plan k draft → (puts : List Put) → Shows p draft last p.outputs puts
      → Works p event (record { ops = last.ops; copies = last.copies; puts = puts; cells = last.cells.next })
  works draft last k whole upto puts shows =
      let f = by_expression p event (result_bytes p) in
      let g = by_expression p event (weight p) in
      let so_far : Drafted p event plan.work (sum_by f plan.work) (sum_by g plan.work) draft = subst (λ (later : List Assign). Drafted p event later (sum_by f later) (sum_by g later) draft) whole upto in
      let bytes_out = sum_by (λ (o : OutputTree). result_bytes p o.expr) p.outputs in
      let weight_out = sum_by (λ (o : OutputTree). weight p o.expr) p.outputs in
      let all_bytes = all-sum p event (result_bytes p) plan ready.plan plain in
      let all_weight = all-sum p event (weight p) plan ready.plan plain in
      let room : draft.cells.next + bytes_out ≤ 65536 = omega (arith, so_far.count, all_bytes, ready.room) in
      let end : Drafted p event plan.work (sum_by f plan.work + bytes_out) (sum_by g plan.work + weight_out) last = grows p typed differ ready.no_inputs event plan.work (sum_by f plan.work) (sum_by g plan.work) draft last so_far shows.ops bytes_out weight_out shows.grows room in
      record {
        order = end.order;
        runs = end.runs;
        copies = end.copies;
        once = end.once;
        puts = subst (λ n. AllByRecursion (IsPut n last.cells.next) puts) so_far.states shows.puts;
        ports = shows.ports;
        gives = λ s start finish is_state bytes hold done.
            let r = reacts-to-a-state p s [] event typed differ is_state (no-samples p ready.no_inputs) causal in
            let both = parts p s [] event r.0 r.1 in
            let h = names-held p typed differ ready.no_inputs event plan.work (sum_by f plan.work) (sum_by g plan.work) draft last so_far shows.ops bytes_out weight_out shows.grows s start finish is_state bytes hold done in
            let on = names-on (sum_by f plan.work) (sum_by g plan.work) draft so_far s h.middle h.names in
            let shown = shows.values (λ y. value_on p s [] event y (depth p)) h.middle finish h.bytes on h.done in
            record {
              reaction = r.0;
              is = r.1;
              is_state = r.2;
              states = state-held (sum_by f plan.work + bytes_out) (sum_by g plan.work + weight_out) last end s start finish is_state bytes hold done r.0.state both.state;
              ports = same_Some (map (λ (q : Put). finish q.from) puts) r.0.ports (sym (all-some (map (λ (q : Put). finish q.from) puts)) ∙ ap all_defined (sym (map-mapped puts finish) ∙ shown) ∙ both.ports);
            };
        weight = omega (arith, end.weight, all_weight);
        room = omega (arith, end.count, all_bytes);
      }
