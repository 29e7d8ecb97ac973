-- A definition's clause for an event: it has a type, few nodes, and is what the definition costs.
use Rattle.std.specs.Prelude.{◌≡◌, ℕ, ◌≤◌, List, Some, IsSome, refl}
use Rattle.std.proofs.Common.{ap, arith, subst, sym, ◌∙◌}
use Rattle.std.proofs.lemmas.Option.{none-some}
use Rattle.frp_tree.specs.declared.syntax.Ty.{Ty}
use Rattle.frp_tree.specs.Limits.{nodes, nodes_in}
use Rattle.frp_tree.specs.Tree.{Tree, ClauseTree, BehaviourTree, Plain, Input, Table, Reactive, ProgramTree}
use Rattle.efrp_meaning.specs.Needs.{clause_for}
use Rattle.efrp_meaning.specs.Types.{IsTypedAs, type_of}
use Rattle.efrp_meaning.proofs.DefinedLaws.{ClauseTyped, clause-typed}
use Rattle.event_needs.specs.Needed.{reacting_clause}
use Rattle.program_bounds.specs.Costing.{of_clause}
use Rattle.program_bounds.specs.Weighing.{AreTyped}
use Rattle.program_bounds.proofs.FewFacts.{clause-few}
use Rattle.program_bounds.proofs.TypedFacts.{are-typed}

some-typed : (p : ProgramTree) (e : Tree) (t : Ty) → type_of p e ≡ Some t → AreTyped p e
some-typed p e t is = are-typed p e (subst IsSome (sym is) refl)

pub plain-typed : (p : ProgramTree) (t : Ty) (b : BehaviourTree) (e : Tree) → b ≡ Plain e → IsTypedAs p t b → AreTyped p e
plain-typed p t b e is its = some-typed p e t (subst (IsTypedAs p t) is its)

module _ (p : ProgramTree) (event : List ℕ) (c : ClauseTree) where
  pub clause-is-typed : (t : Ty) (b : BehaviourTree) → IsTypedAs p t b → Some c ≡ reacting_clause event b → AreTyped p c.expr
  clause-is-typed t (Plain e) its is = absurd (none-some c (sym is))
  clause-is-typed t (Input port) its is = absurd (none-some c (sym is))
  clause-is-typed t (Table entries) its is = absurd (none-some c (sym is))
  clause-is-typed t (Reactive init clauses) its is = some-typed p c.expr t (subst (ClauseTyped p t) (sym is) (clause-typed p t event clauses its.1))

  pub clause-is-few : (b : BehaviourTree) → nodes_in b ≤ 4096 → Some c ≡ reacting_clause event b → nodes c.expr ≤ 4096
  clause-is-few (Plain e) few is = absurd (none-some c (sym is))
  clause-is-few (Input port) few is = absurd (none-some c (sym is))
  clause-is-few (Table entries) few is = absurd (none-some c (sym is))
  clause-is-few (Reactive init clauses) few is =
      let most = clause-few p nodes 1 0 (λ e. omega arith) event clauses in
      let own : of_clause nodes (clause_for event clauses) ≡ nodes c.expr = ap (of_clause nodes) (sym is) in
      omega (arith, most, own, few)
