-- A graph of a program has no more edges than the program has nodes of expressions.
use Rattle.std.specs.Prelude.{ℕ, ◌≤◌, Bool, true, false, ◌&&◌, List, [], ◌∷◌, ◌++◌, length, map, cond, Option, Some, None, option_to_list, sum_by, if◌then◌else◌}
use Rattle.std.specs.Str.{bytes_eq}
use Rattle.std.proofs.Common.{arith}
use Rattle.std.proofs.lemmas.List.{length-append}
use Rattle.std.proofs.lemmas.List.Sums.{sum_by-cons}
use Rattle.frp_tree.specs.Tree.{Tree, Const, Name, Unary, Binary, Shift, If, Convert, Look, ClauseTree, BehaviourTree, Plain, Input, Table, Reactive, DeclTree, ProgramTree}
use Rattle.frp_tree.specs.Limits.{nodes, nodes_in}
use Rattle.efrp_meaning.specs.Meaning.{Later, Now, rule_on, clause_rule}
use Rattle.efrp_meaning.specs.Needs.{names_in, clause_for}
use Rattle.efrp_types.specs.Numbers.{decl_number}
use Rattle.efrp_types.specs.Laws.{IsWellFormed}
use Rattle.causality.specs.Graphs.{number_of, numbers_of, edges_by, edges_on, graph_on}
use Rattle.causality.specs.Waits.{edge_count}

few-names : (e : Tree) → length (names_in e) ≤ nodes e
few-names (Const literal) = omega arith
few-names (Name name) = omega arith
few-names (Unary op a) = let h = few-names a in omega (arith, h)
few-names (Binary op a b) =
    let f = few-names a in let h = few-names b in let l = length-append (names_in a) (names_in b) in omega (arith, f, h, l)
few-names (Shift side a amount) = let h = few-names a in omega (arith, h)
few-names (If c a b) =
    let e = few-names c in let f = few-names a in let h = few-names b in
    let k = length-append (names_in c) (names_in a ++ names_in b) in let l = length-append (names_in a) (names_in b) in omega (arith, e, f, h, k, l)
few-names (Convert to a) = let h = few-names a in omega (arith, h)
few-names (Look table index) = let h = few-names index in omega (arith, h)

one-at-most : (b : Bool) (o : Option ℕ) → length (if b then [] else option_to_list o) ≤ 1
one-at-most true o = omega arith
one-at-most false None = omega arith
one-at-most false (Some n) = omega arith

few-numbers : (p : ProgramTree) (owner : List ℕ) (own : Bool) (names : List (List ℕ)) → length (numbers_of p owner own names) ≤ length names
few-numbers p owner own [] = omega arith
few-numbers p owner own (x ∷ xs) =
    let one = one-at-most (own && bytes_eq owner x) (decl_number p x) in
    let rest = few-numbers p owner own xs in
    let l = length-append (number_of p owner own x) (numbers_of p owner own xs) in
    omega (arith, one, rest, l)

module _ (p : ProgramTree) (event : List ℕ) where
  few-by-expression : (owner : List ℕ) (own : Bool) (e : Tree) → length (numbers_of p owner own (names_in e)) ≤ nodes e
  few-by-expression owner own e = let a = few-numbers p owner own (names_in e) in let b = few-names e in omega (arith, a, b)

  few-by-clause : (owner : List ℕ) (later : Bool) (e : Tree) → length (edges_by p owner (if later then Later e else Now e)) ≤ nodes e
  few-by-clause owner true e = omega arith
  few-by-clause owner false e = few-by-expression owner true e

  few-by-clauses : (owner : List ℕ) (cs : List ClauseTree) → length (edges_by p owner (clause_rule (clause_for event cs))) ≤ sum_by (λ c. nodes c.expr) cs
  few-by-clauses owner [] = omega arith
  few-by-clauses owner (c ∷ cs) = by_test (bytes_eq event c.event) (few-by-clauses owner cs)
    where
      by_test : (b : Bool) → length (edges_by p owner (clause_rule (clause_for event cs))) ≤ sum_by (λ c. nodes c.expr) cs
          → length (edges_by p owner (clause_rule (cond b (Some c) (clause_for event cs)))) ≤ sum_by (λ c. nodes c.expr) (c ∷ cs)
      by_test true rest = let a = few-by-clause owner c.later c.expr in let s = sum_by-cons (λ (c : ClauseTree). nodes c.expr) c cs in omega (arith, a, s)
      by_test false rest = let s = sum_by-cons (λ (c : ClauseTree). nodes c.expr) c cs in omega (arith, rest, s)

  few-by : (owner : List ℕ) (b : BehaviourTree) → length (edges_by p owner (rule_on event b)) ≤ nodes_in b
  few-by owner (Plain e) = few-by-expression owner false e
  few-by owner (Input port) = omega arith
  few-by owner (Table entries) = omega arith
  few-by owner (Reactive init clauses) = few-by-clauses owner clauses

  few-in : (ds : List DeclTree) → sum_by length (map (edges_on p event) ds) ≤ sum_by (λ d. nodes_in d.behaviour) ds
  few-in [] = omega arith
  few-in (d ∷ ds) =
      let a = few-by d.name d.behaviour in
      let rest = few-in ds in
      let s = sum_by-cons (λ (d : DeclTree). nodes_in d.behaviour) d ds in
      let t = sum_by-cons (λ (xs : List ℕ). length xs) (edges_on p event d) (map (edges_on p event) ds) in
      omega (arith, a, rest, s, t)

  pub few-edges : IsWellFormed p → edge_count (graph_on p event) ≤ 4096
  few-edges formed = let a = few-in p.decls in let b = formed.written.nodes in omega (arith, a, b)
