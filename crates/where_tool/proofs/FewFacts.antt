-- The expressions of a program that keeps the limits have no more nodes than a program may have.
use Rattle.std.proofs.Common.{ℕ, ◌≤◌, List, [], ◌∷◌, sum_by, arith}
use Rattle.std.specs.List.{AllByRecursion}
use Rattle.std.proofs.lemmas.List.Sums.{sum_by-cons}
use Rattle.frp_tree.specs.declared.limits.TheConstants.{MOST_NODES}
use Rattle.frp_tree.specs.Limits.{nodes, nodes_in, nodes_of}
use Rattle.frp_tree.specs.Tree.{ClauseTree, BehaviourTree, Plain, Input, Table, Reactive, DeclTree, OutputTree, ProgramTree}
use Rattle.efrp_types.specs.Laws.{IsWellFormed}
use Rattle.where_tool.specs.Walks.{AreFew, HaveFew}

-- Each of a sum is no more than the sum.
each-few : {A : Type 0} (f : A → ℕ) (most : ℕ) (xs : List A) → sum_by f xs ≤ most → AllByRecursion (λ x. f x ≤ most) xs
each-few f most [] few = tt
each-few f most (x ∷ xs) few = (omega (arith, few, sum_by-cons f x xs), each-few f most xs (omega (arith, few, sum_by-cons f x xs)))

all-few : {A : Type 0} (P Q : A → Type 0) → ((x : A) → P x → Q x) → (xs : List A) → AllByRecursion P xs → AllByRecursion Q xs
all-few P Q step [] all = tt
all-few P Q step (x ∷ xs) all = (step x all.0, all-few P Q step xs all.1)

behaviour-few : (b : BehaviourTree) → nodes_in b ≤ MOST_NODES → HaveFew b
behaviour-few (Plain e) few = omega (arith, few)
behaviour-few (Input port) few = tt
behaviour-few (Table entries) few = tt
behaviour-few (Reactive init clauses) few =
    all-few (λ (c : ClauseTree). nodes c.expr ≤ MOST_NODES) (λ (c : ClauseTree). AreFew 0 c.expr) (λ c each. omega (arith, each)) clauses (each-few (λ (c : ClauseTree). nodes c.expr) MOST_NODES clauses few)

pub decls-few : (p : ProgramTree) → IsWellFormed p → AllByRecursion (λ (d : DeclTree). HaveFew d.behaviour) p.decls
decls-few p formed =
    let few : nodes_of p ≤ MOST_NODES = formed.written.nodes in
    all-few (λ (d : DeclTree). nodes_in d.behaviour ≤ MOST_NODES) (λ (d : DeclTree). HaveFew d.behaviour) (λ d each. behaviour-few d.behaviour each) p.decls
    (each-few (λ (d : DeclTree). nodes_in d.behaviour) MOST_NODES p.decls (omega (arith, few)))

pub outputs-few : (p : ProgramTree) → IsWellFormed p → AllByRecursion (λ (o : OutputTree). AreFew 0 o.expr) p.outputs
outputs-few p formed =
    let few : nodes_of p ≤ MOST_NODES = formed.written.nodes in
    all-few (λ (o : OutputTree). nodes o.expr ≤ MOST_NODES) (λ (o : OutputTree). AreFew 0 o.expr) (λ o each. omega (arith, each)) p.outputs
    (each-few (λ (o : OutputTree). nodes o.expr) MOST_NODES p.outputs (omega (arith, few)))
