-- What all that an event needs adds up to, over the definitions and the outputs of a program.
use Rattle.std.specs.Prelude.{◌≡◌, ℕ, ◌+◌, Bool, true, false, cond, List, [], ◌∷◌, ◌++◌, map, filter, sum_by, if◌then◌else◌, refl}
use Rattle.std.specs.List.{flat_map}
use Rattle.std.proofs.Common.{sym, ap, ◌∙◌, arith}
use Rattle.std.proofs.lemmas.List.Sums.{sum_by-append, sum_by-cons}
use Rattle.frp_tree.specs.Tree.{Tree, BehaviourTree, DeclTree, OutputTree, ProgramTree}
use Rattle.efrp_meaning.specs.Needs.{expressions_of, first_needed, needed, needed_plain, plain_expression, reacting_expression}

pub sum-mapped : {A B : Type 0} (f : B → ℕ) (g : A → B) (xs : List A) → sum_by f (map g xs) ≡ sum_by (λ x. f (g x)) xs
sum-mapped f g [] = refl
sum-mapped f g (x ∷ xs) = sum_by-cons f (g x) (map g xs) ∙ ap (λ n. f (g x) + n) (sum-mapped f g xs) ∙ sym (sum_by-cons (λ y. f (g y)) x xs)

module _ (event : List ℕ) (f : Tree → ℕ) where
  -- What one definition does for the event: by its clause, and by its own expression where that is needed.
  abbrev pub own : Bool → BehaviourTree → ℕ
  own k b = sum_by f (reacting_expression event b) + cond k (sum_by f (plain_expression b)) 0

  over-all : (test : DeclTree → Bool) (ds : List DeclTree) → sum_by (λ (d : DeclTree). own (test d) d.behaviour) ds
      ≡ sum_by f (flat_map (λ (d : DeclTree). reacting_expression event d.behaviour) ds) + sum_by f (expressions_of (filter test ds))
  over-all test [] = refl
  over-all test (d ∷ ds) =
      let split = sum_by-cons (λ (c : DeclTree). own (test c) c.behaviour) d ds in
      let clauses = sum_by-append f (reacting_expression event d.behaviour) (flat_map (λ (c : DeclTree). reacting_expression event c.behaviour) ds) in
      by_test (test d) split clauses (over-all test ds)
    where
      by_test : (k : Bool) → sum_by (λ (c : DeclTree). own (test c) c.behaviour) (d ∷ ds) ≡ own k d.behaviour + sum_by (λ (c : DeclTree). own (test c) c.behaviour) ds
          → sum_by f (reacting_expression event d.behaviour ++ flat_map (λ (c : DeclTree). reacting_expression event c.behaviour) ds)
          ≡ sum_by f (reacting_expression event d.behaviour) + sum_by f (flat_map (λ (c : DeclTree). reacting_expression event c.behaviour) ds)
          → sum_by (λ (c : DeclTree). own (test c) c.behaviour) ds ≡ sum_by f (flat_map (λ (c : DeclTree). reacting_expression event c.behaviour) ds) + sum_by f (expressions_of (filter test ds))
          → sum_by (λ (c : DeclTree). own (test c) c.behaviour) (d ∷ ds)
          ≡ sum_by f (reacting_expression event d.behaviour ++ flat_map (λ (c : DeclTree). reacting_expression event c.behaviour) ds)
          + sum_by f (expressions_of (if k then d ∷ filter test ds else filter test ds))
      by_test true split clauses rest = let plain = sum_by-append f (plain_expression d.behaviour) (expressions_of (filter test ds)) in omega (arith, split, clauses, rest, plain)
      by_test false split clauses rest = omega (arith, split, clauses, rest)

  -- All definitions and outputs together do what all that the event needs does.
  pub needed-sum : (p : ProgramTree) (test : DeclTree → Bool) → filter test p.decls ≡ needed_plain p event
      → sum_by (λ (d : DeclTree). own (test d) d.behaviour) p.decls + sum_by (λ (o : OutputTree). f o.expr) p.outputs ≡ sum_by f (needed p event)
  needed-sum p test plain =
      let all = over-all test p.decls in
      let clauses = flat_map (λ (d : DeclTree). reacting_expression event d.behaviour) p.decls in
      let outputs = map (λ (o : OutputTree). o.expr) p.outputs in
      let mapped = sum-mapped f (λ (o : OutputTree). o.expr) p.outputs in
      let first = sum_by-append f clauses outputs in
      let whole = sum_by-append f (first_needed p event) (expressions_of (needed_plain p event)) in
      let needed_is : sum_by f (expressions_of (filter test p.decls)) ≡ sum_by f (expressions_of (needed_plain p event)) = ap (λ ds. sum_by f (expressions_of ds)) plain in
      omega (arith, all, mapped, first, whole, needed_is)
