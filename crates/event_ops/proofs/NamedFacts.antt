-- Outputs can be lowered behind all assignments.
use Rattle.std.specs.List.{flat_map, list_any}
use Rattle.std.specs.Str.{bytes_eq}
use Rattle.std.proofs.Common.{◌≡◌, ℕ, ◌⊎◌, ◌&&◌, true, false, List, filter, map, slice_get, sum_by, Option, Some, None, IsSome, if◌then◌else◌, refl, sym, ap, subst, ◌∙◌, arith}
use Rattle.std.proofs.lemmas.Bool.{false≢true, or_left, or_right}
use Rattle.std.proofs.lemmas.List.Folds.{list_any-append}
use Rattle.std.proofs.lemmas.Slice.Eq.{bytes_eq-Decides}
use mathlib.Core.Logic.{inl, inr}
use Rattle.frp_tree.specs.declared.syntax.Ty.TheVariants.{U8}
use Rattle.frp_tree.specs.Tree.{Tree, BehaviourTree, Plain, Input, Table, Reactive, DeclTree, OutputTree, ProgramTree}
use Rattle.efrp_meaning.specs.Bounds.{result_bytes, state_bytes}
use Rattle.efrp_meaning.specs.Decls.{decl_named, is_input, is_plain, is_reactive, is_table}
use Rattle.efrp_meaning.specs.Meaning.{rule_on}
use Rattle.efrp_meaning.specs.Needs.{IsNamedIn, expressions_of, first_needed, is_named_in, names_in, needed, needed_plain, reacting_expression}
use Rattle.efrp_meaning.specs.States.{NamesDiffer}
use Rattle.efrp_meaning.specs.Types.{IsTyped, type_of}
use Rattle.efrp_types.specs.Numbers.{decl_number}
use Rattle.efrp_types.proofs.NumberLaws.{decl_number_agrees, numbered}
use Rattle.event_needs.specs.Needed.{is_needed}
use Rattle.event_needs.proofs.NeededLaws.{named-needed}
use Rattle.event_needs.proofs.NumberLaws.{count-some, numbered-name}
use Rattle.event_needs.proofs.ListLaws.{all-from, any-mapped, each-at}
use Rattle.expr_lower.specs.Lowered.{NamesHaveCells}
use Rattle.expr_lower.specs.Places.{cells_of_name}
use Rattle.expr_lower.proofs.OrderLaws.{ends-after}
use Rattle.byte_ops.specs.declared.operations.Pair.{Pair}
use Rattle.two_phase.specs.declared.plans.Plan.{Plan}
use Rattle.two_phase.specs.Plans.{assigns, is_wanted_by}
use Rattle.two_phase.proofs.NamedLaws.{value-named}
use Rattle.event_ops.specs.declared.drafts.Draft.{Draft}
use Rattle.event_ops.specs.Drafts.{CanPut, Drafted, IsReady, by_expression}
use Rattle.event_ops.proofs.ReadyFacts.{its-cells, none-passes}
use Rattle.event_ops.proofs.SumFacts.{all-sum}

module _ (p : ProgramTree) (typed : IsTyped p) (differ : NamesDiffer p) (event : List ℕ) (plan : Plan) (ready : IsReady p event plan) (plain : filter (is_needed p event) p.decls ≡ needed_plain p event) where
  -- What an output names is named in what the event needs.
  output-needs : (i : ℕ) (o : OutputTree) (y : List ℕ) → slice_get p.outputs i ≡ Some o → IsNamedIn y o.expr → is_named_in y (needed p event) ≡ true
  output-needs i o y at inside =
      let test = λ (tree : Tree). list_any (bytes_eq y) (names_in tree) in
      let clauses = flat_map (λ (d : DeclTree). reacting_expression event d.behaviour) p.decls in
      let outputs = map (λ (k : OutputTree). k.expr) p.outputs in
      let found = any-mapped test (λ (k : OutputTree). k.expr) p.outputs i o at inside in
      list_any-append test (first_needed p event) (expressions_of (needed_plain p event))
      ∙ or_left (list_any test (first_needed p event)) (list_any test (expressions_of (needed_plain p event))) (list_any-append test clauses outputs ∙ or_right (list_any test clauses) (list_any test outputs) found)

  module _ (b w : ℕ) (draft : Draft) (so_far : Drafted p event plan.work b w draft) where
    output-cells : (i : ℕ) (o : OutputTree) → slice_get p.outputs i ≡ Some o → NamesHaveCells p draft.cells o.expr
    output-cells i o at y inside =
        let v = value-named p typed o.expr U8 y (each-at (λ (k : OutputTree). type_of p k.expr ≡ Some U8) p.outputs i o typed.outputs at) inside in
        by_number v.0 v.1 v.2 (decl_number p y) refl (numbered p y (subst IsSome (sym v.1) refl))
      where
        by_number : (d : DeclTree) → decl_named p.decls y ≡ Some d → is_table d.behaviour ≡ false → (o : Option ℕ) → decl_number p y ≡ o → IsSome o → (pair : Pair) × (cells_of_name p draft.cells y ≡ Some pair)
        by_number d found isnt None number some = absurd (false≢true some)
        by_number d found isnt (Some n) number some =
            its-cells p typed differ event plan ready plain plan.work b w draft so_far n d y there number (by_kind d.behaviour refl)
          where
            there : slice_get p.decls n ≡ Some d
            there = decl_number_agrees p y n number ∙ found

            named : is_named_in d.name (needed p event) ≡ true
            named = subst (λ z. is_named_in z (needed p event) ≡ true) ((bytes_eq-Decides y d.name).0 (numbered-name p y n d number there)) (output-needs i _ y at inside)

            by_kind : (r : BehaviourTree) → d.behaviour ≡ r → (list_any (assigns n false) plan.work ≡ true) ⊎ (is_reactive d.behaviour ≡ true)
            by_kind (Plain e) kind =
                let needs = named-needed p differ event n d there (ap is_plain kind) named in
                let wants = ap (λ r. is_wanted_by (is_needed p event d) false (rule_on event r)) kind ∙ ap (λ b. b && true) needs in
                let once = ready.plan.once n d false there ∙ ap (λ b. if b then 1 else 0) wants in
                inl (count-some (assigns n false) plan.work (omega (arith, once)))
            by_kind (Input port) kind = absurd (false≢true (sym (none-passes (λ (c : DeclTree). is_input c.behaviour) p.decls ready.no_inputs n d there) ∙ ap is_input kind))
            by_kind (Table entries) kind = absurd (false≢true (sym isnt ∙ ap is_table kind))
            by_kind (Reactive init clauses) kind = inr (ap is_reactive kind)

    -- The outputs can be lowered.
    pub can-put : b ≡ sum_by (by_expression p event (result_bytes p)) plan.work → CanPut p draft p.outputs
    can-put same = record {
      no_look = ready.no_look.outputs;
      cells = so_far.ours;
      named = all-from (λ (o : OutputTree). NamesHaveCells p draft.cells o.expr) p.outputs (λ i o at. output-cells i o at);
      old = omega (arith, so_far.states, ends-after (state_bytes p) draft.ops draft.cells.next so_far.order);
      room =
          let all = all-sum p event (result_bytes p) plan ready.plan plain in
          omega (arith, so_far.count, same, all, ready.room);
    }
