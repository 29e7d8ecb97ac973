-- What the definitions and the outputs cost is what the event costs.
use Rattle.std.specs.Prelude.{◌≡◌, ℕ, ◌+◌, ◌*◌, ◌&&◌, Bool, true, false, cond, List, [], ◌∷◌, filter, length, sum_by, Option, Some, None, if◌then◌else◌, refl}
use Rattle.std.proofs.Common.{ap, arith}
use Rattle.std.proofs.lemmas.List.{length-map}
use Rattle.std.proofs.lemmas.List.Sums.{sum_by-cons}
use Rattle.frp_tree.specs.Tree.{Tree, ClauseTree, BehaviourTree, Plain, Input, Table, Reactive, DeclTree, OutputTree, ProgramTree}
use Rattle.efrp_meaning.specs.Decls.{inputs_of, is_input, is_plain}
use Rattle.efrp_meaning.specs.Needs.{clause_for, expression_of, inputs_needed, is_named_in, needed}
use Rattle.efrp_meaning.proofs.NeedsLaws.{needs-are-closed}
use Rattle.event_needs.proofs.SumLaws.{needed-sum, own}
use Rattle.program_bounds.specs.Costing.{decl_cost, of_clause, own_cost}

module _ (p : ProgramTree) (f : Tree → ℕ) (input : ℕ) (event : List ℕ) where
  abbrev named : DeclTree → Bool
  named d = is_named_in d.name (needed p event)

  one-of : (e : Tree) → sum_by f (e ∷ []) ≡ f e
  one-of e = let split = sum_by-cons f e [] in omega (arith, split)

  of-clause : (o : Option ClauseTree) (k : Bool) → of_clause f o ≡ sum_by f (expression_of o) + cond k 0 0
  of-clause None true = refl
  of-clause None false = refl
  of-clause (Some c) true = let one = one-of c.expr in omega (arith, one)
  of-clause (Some c) false = let one = one-of c.expr in omega (arith, one)

  -- The number of an input, beside what its own expressions do.
  abbrev of_input : Bool → BehaviourTree → ℕ
  of_input k b = cond (is_input b && k) input 0

  one-cost : (k : Bool) (b : BehaviourTree) → own_cost f input event k b ≡ own event f (is_plain b && k) b + of_input k b
  one-cost true (Plain e) = let one = one-of e in omega (arith, one)
  one-cost false (Plain e) = refl
  one-cost true (Input port) = omega arith
  one-cost false (Input port) = refl
  one-cost k (Table entries) = refl
  one-cost k (Reactive init clauses) = let is = of-clause (clause_for event clauses) false in omega (arith, is)

  all-costs : (ds : List DeclTree) → sum_by (decl_cost p f input event) ds
      ≡ sum_by (λ (d : DeclTree). own event f (is_plain d.behaviour && named d) d.behaviour) ds + sum_by (λ (d : DeclTree). of_input (named d) d.behaviour) ds
  all-costs [] = refl
  all-costs (d ∷ ds) =
      let one = one-cost (named d) d.behaviour in
      let rest = all-costs ds in
      let first = sum_by-cons (decl_cost p f input event) d ds in
      let second = sum_by-cons (λ (c : DeclTree). own event f (is_plain c.behaviour && named c) c.behaviour) d ds in
      let third = sum_by-cons (λ (c : DeclTree). of_input (named c) c.behaviour) d ds in
      omega (arith, one, rest, first, second, third)

  abbrev inputs_in : List DeclTree → List DeclTree
  inputs_in ds = filter (λ (d : DeclTree). is_input d.behaviour) ds

  abbrev total : List DeclTree → ℕ
  total ds = sum_by (λ (d : DeclTree). of_input (named d) d.behaviour) ds

  all-inputs : (ds : List DeclTree) → total ds ≡ input * length (filter named (inputs_in ds))
  all-inputs [] = omega arith
  all-inputs (d ∷ ds) = by_input (is_input d.behaviour) (sum_by-cons (λ (c : DeclTree). of_input (named c) c.behaviour) d ds) (all-inputs ds)
    where
      by_named : (b : Bool) → total (d ∷ ds) ≡ cond b input 0 + total ds → total ds ≡ input * length (filter named (inputs_in ds))
          → total (d ∷ ds) ≡ input * length (if b then d ∷ filter named (inputs_in ds) else filter named (inputs_in ds))
      by_named true split tail = omega (arith, split, tail)
      by_named false split tail = omega (arith, split, tail)

      by_input : (a : Bool) → total (d ∷ ds) ≡ cond (a && named d) input 0 + total ds → total ds ≡ input * length (filter named (inputs_in ds))
          → total (d ∷ ds) ≡ input * length (filter named (if a then d ∷ inputs_in ds else inputs_in ds))
      by_input true split tail = by_named (named d) split tail
      by_input false split tail = omega (arith, split, tail)

  -- All together.
  pub cost-is : sum_by (decl_cost p f input event) p.decls + sum_by (λ (o : OutputTree). f o.expr) p.outputs ≡ sum_by f (needed p event) + input * length (inputs_needed p event)
  cost-is =
      let costs = all-costs p.decls in
      let whole = needed-sum event f p (λ (d : DeclTree). is_plain d.behaviour && named d) (needs-are-closed p event) in
      let inputs = all-inputs p.decls in
      let names = length-map (filter named (inputs_of p)) (λ (d : DeclTree). d.name) in
      omega (arith, costs, whole, inputs, ap (λ n. input * n) names)
