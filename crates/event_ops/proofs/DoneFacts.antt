-- The assignment that is done and the output that is added, as they are read of the lists in memory.
use Rattle.std.proofs.Common.{◌≡◌, ℕ, ◌<◌, false, List, length, get_or, slice_get, Some, refl, sym, ap, ◌∙◌, arith}
use Rattle.std.proofs.lemmas.List.{length-map}
use Rattle.std.proofs.lemmas.Option.{slice_get-get_or}
use Rattle.frp_tree.specs.declared.syntax.Behaviour.{Behaviour}
use Rattle.frp_tree.specs.declared.syntax.Behaviour.TheVariants as behaviour
use Rattle.frp_tree.specs.declared.syntax.Decl.{Decl}
use Rattle.frp_tree.specs.declared.syntax.Expr.{Expr}
use Rattle.frp_tree.specs.Tree.{Tree, ClauseTree, Plain, decl_of, behaviour_of, program_tree_of}
use Rattle.efrp_meaning.specs.Decls.{is_plain}
use Rattle.causality.specs.declared.checked.Checked.{Checked}
use Rattle.event_needs.specs.Needed.{reacting_clause}
use Rattle.event_needs.proofs.NumberLaws.{tree-at}
use Rattle.two_phase.specs.declared.plans.Assign.{Assign}
use Rattle.two_phase.specs.declared.plans.Plan.{Plan}
use Rattle.event_ops.specs.Drafts.{IsReady}
use Rattle.event_ops.proofs.AssignFacts.{clause-assigns, plain-assigns, within-at}
use Rattle.event_ops.proofs.ReadyFacts.{Assigning}

-- A behaviour in memory that is no expression is none as a tree.
pub not-plain : (b : Behaviour) → ((e : Expr) → b ≡ behaviour.Plain e → ⊥) → is_plain (behaviour_of b) ≡ false
not-plain (behaviour.Plain e) isnt = absurd (isnt e refl)
not-plain (behaviour.Input port) isnt = refl
not-plain (behaviour.Table entries) isnt = refl
not-plain (behaviour.Reactive init clauses) isnt = refl

-- What stands at a place past the end.
abbrev pub nothing : Assign
nothing = record { decl = 0; next = false }

module _ (c : Checked) (event : List ℕ) (plan : Plan) (ready : IsReady (program_tree_of c.typed.program) event plan) (k : ℕ) (inside : k < length plan.work)
    (work : List Assign) (work_is : work ≡ plan.work) (decls : List Decl) (decls_are : decls ≡ c.typed.program.decls) where
  abbrev pub assign-of : Assign
  assign-of = get_or work k nothing

  pub assign-at : slice_get plan.work k ≡ Some assign-of
  assign-at = let long = ap length work_is in ap (λ ws. slice_get ws k) (sym work_is) ∙ slice_get-get_or work k nothing (omega (arith, inside, long))

  pub decl-inside : assign-of.decl < length decls
  decl-inside =
      let within = within-at (program_tree_of c.typed.program) plan.work k assign-of ready.plan.within assign-at in
      let long = length-map c.typed.program.decls decl_of in
      let same = ap length decls_are in
      omega (arith, within, long, same)

  module _ (d : Decl) (read : d ≡ get_or decls assign-of.decl d) where
    pub decl-at : slice_get (program_tree_of c.typed.program).decls assign-of.decl ≡ Some (decl_of d)
    decl-at = tree-at decl_of decls c.typed.program.decls assign-of.decl d decls_are decl-inside read

    pub by-clause : (clause : ClauseTree) → Some clause ≡ reacting_clause event (behaviour_of d.behaviour) → Assigning (program_tree_of c.typed.program) event plan k assign-of (decl_of d) clause.expr
    by-clause clause is = record { assign = assign-at; at = decl-at; expression = clause-assigns event (behaviour_of d.behaviour) clause is }

    pub by-itself : (e : Tree) → behaviour_of d.behaviour ≡ Plain e → Assigning (program_tree_of c.typed.program) event plan k assign-of (decl_of d) e
    by-itself e is = record { assign = assign-at; at = decl-at; expression = plain-assigns event (behaviour_of d.behaviour) e is }
