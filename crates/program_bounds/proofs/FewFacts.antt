-- Weights and bytes are in proportion to the nodes, of which a program has few: so are the sums over what an event needs.
use Rattle.std.specs.Prelude.{◌≡◌, ℕ, ◌+◌, ◌*◌, ◌≤◌, Bool, true, false, List, [], ◌∷◌, length, sum_by, Option, Some, if◌then◌else◌}
use Rattle.std.specs.Str.{bytes_eq}
use Rattle.std.proofs.Common.{ap, arith}
use Rattle.std.proofs.lemmas.List.Sums.{sum_by-cons}
use Rattle.frp_tree.specs.declared.syntax.Ty.{Ty}
use Rattle.frp_tree.specs.declared.syntax.Ty.TheVariants.{U16}
use Rattle.frp_tree.specs.declared.syntax.UnOp.{UnOp}
use Rattle.frp_tree.specs.declared.syntax.UnOp.TheVariants.{Com, Not}
use Rattle.frp_tree.specs.declared.syntax.BinOp.{BinOp}
use Rattle.frp_tree.specs.declared.syntax.BinOp.TheVariants.{Or, And, BitOr, BitXor, BitAnd, Add, Sub, Mul, Div, Rem}
use Rattle.frp_tree.specs.Limits.{nodes, nodes_in}
use Rattle.frp_tree.specs.Tree.{Tree, Const, Name, Unary, Binary, Shift, If, Convert, Look, ClauseTree, BehaviourTree, Plain, Input, Table, Reactive, DeclTree, OutputTree, ProgramTree}
use Rattle.efrp_meaning.specs.Bounds.{binary_weight, body, by_width, result_bytes, scratch_bytes, unary_weight, weight}
use Rattle.efrp_meaning.specs.Needs.{clause_for, is_named_in, needed}
use Rattle.efrp_meaning.specs.Types.{type_of}
use Rattle.efrp_types.specs.Laws.{IsWellFormed}
use Rattle.program_bounds.specs.Costing.{decl_cost, of_clause, own_cost}
use Rattle.program_bounds.proofs.CostFacts.{cost-is}

width-few : (o : Option Ty) (narrow wide most : ℕ) → narrow ≤ most → wide ≤ most → by_width o narrow wide ≤ most
width-few (Some U16) narrow wide most h g = g
width-few _ narrow wide most h g = h

unary-few : (f : UnOp) (o : Option Ty) → unary_weight f o ≤ 800
unary-few Com o = width-few o 8 16 800 (omega arith) (omega arith)
unary-few Not o = omega arith

compare-few : (o : Option Ty) → by_width o 24 64 ≤ 800
compare-few o = width-few o 24 64 800 (omega arith) (omega arith)

binary-few : (f : BinOp) (o : Option Ty) → binary_weight f o ≤ 800
binary-few Or o = omega arith
binary-few And o = omega arith
binary-few BitOr o = width-few o 12 24 800 (omega arith) (omega arith)
binary-few BitXor o = width-few o 12 24 800 (omega arith) (omega arith)
binary-few BitAnd o = width-few o 12 24 800 (omega arith) (omega arith)
binary-few Add o = width-few o 16 48 800 (omega arith) (omega arith)
binary-few Sub o = width-few o 16 48 800 (omega arith) (omega arith)
binary-few Mul o = width-few o 64 320 800 (omega arith) (omega arith)
binary-few Div o = width-few o 192 800 800 (omega arith) (omega arith)
binary-few Rem o = width-few o 192 800 800 (omega arith) (omega arith)
binary-few f o = compare-few o

mul-sum : (k n a b : ℕ) → n ≡ a + b → k * n ≡ k * a + k * b
mul-sum k n a b is = omega (arith, ap (λ m. k * m) is)

module _ (p : ProgramTree) where
  pub weight-few : (e : Tree) → weight p e ≤ 800 * nodes e
  weight-few (Const literal) = let w = width-few (type_of p (Const literal)) 4 8 800 (omega arith) (omega arith) in omega (arith, w)
  weight-few (Name name) = let w = width-few (type_of p (Name name)) 6 12 800 (omega arith) (omega arith) in omega (arith, w)
  weight-few (Unary f a) = let w = unary-few f (type_of p a) in let x = weight-few a in omega (arith, w, x)
  weight-few (Binary f a b) = let w = binary-few f (type_of p a) in let x = weight-few a in let y = weight-few b in omega (arith, w, x, y)
  weight-few (Shift side a amount) = let w = width-few (type_of p a) 32 80 800 (omega arith) (omega arith) in let x = weight-few a in omega (arith, w, x)
  weight-few (If c a b) =
      let w = width-few (type_of p a) 24 40 800 (omega arith) (omega arith) in
      let x = weight-few c in
      let y = weight-few a in
      let z = weight-few b in
      omega (arith, w, x, y, z)
  weight-few (Convert to a) = let x = weight-few a in omega (arith, x)
  weight-few (Look table index) = let w = width-few (type_of p (Look table index)) 40 80 800 (omega arith) (omega arith) in let x = weight-few index in omega (arith, w, x)

  own-few : (e : Tree) → by_width (type_of p e) 1 2 ≤ 2
  own-few e = width-few (type_of p e) 1 2 2 (omega arith) (omega arith)

  pub bytes-few : (e : Tree) → result_bytes p e ≤ 2 * nodes e
  bytes-few (Const literal) = let w = own-few (Const literal) in omega (arith, w)
  bytes-few (Name name) = let w = own-few (Name name) in omega (arith, w)
  bytes-few (Unary f a) = let w = own-few (Unary f a) in let x = bytes-few a in omega (arith, w, x)
  bytes-few (Binary f a b) = let w = own-few (Binary f a b) in let x = bytes-few a in let y = bytes-few b in omega (arith, w, x, y)
  bytes-few (Shift side a amount) = let w = own-few (Shift side a amount) in let x = bytes-few a in omega (arith, w, x)
  bytes-few (If c a b) = let w = own-few (If c a b) in let x = bytes-few c in let y = bytes-few a in let z = bytes-few b in omega (arith, w, x, y, z)
  bytes-few (Convert to a) = let w = own-few (Convert to a) in let x = bytes-few a in omega (arith, w, x)
  bytes-few (Look table index) = let w = own-few (Look table index) in let x = bytes-few index in omega (arith, w, x)

-- A number of each expression, of which there are at most so many a node; and how many an input counts.
module _ (p : ProgramTree) (f : Tree → ℕ) (a_node input : ℕ) (few : (e : Tree) → f e ≤ a_node * nodes e) (event : List ℕ) where
  pub clause-few : (cs : List ClauseTree) → of_clause f (clause_for event cs) ≤ a_node * sum_by (λ (c : ClauseTree). nodes c.expr) cs
  clause-few [] = omega arith
  clause-few (c ∷ cs) = by_event (bytes_eq event c.event) (clause-few cs) (sum_by-cons (λ (k : ClauseTree). nodes k.expr) c cs)
    where
      by_event : (b : Bool) → of_clause f (clause_for event cs) ≤ a_node * sum_by (λ (k : ClauseTree). nodes k.expr) cs
          → sum_by (λ (k : ClauseTree). nodes k.expr) (c ∷ cs) ≡ nodes c.expr + sum_by (λ (k : ClauseTree). nodes k.expr) cs
          → of_clause f (if b then Some c else clause_for event cs) ≤ a_node * sum_by (λ (k : ClauseTree). nodes k.expr) (c ∷ cs)
      by_event true rest split = let own = few c.expr in let whole = mul-sum a_node _ _ _ split in omega (arith, own, whole)
      by_event false rest split = let whole = mul-sum a_node _ _ _ split in omega (arith, rest, whole)

  cost-few : (named : Bool) (b : BehaviourTree) → own_cost f input event named b ≤ a_node * nodes_in b + input
  cost-few true (Plain e) = let own = few e in omega (arith, own)
  cost-few false (Plain e) = omega arith
  cost-few true (Input port) = omega arith
  cost-few false (Input port) = omega arith
  cost-few named (Table entries) = omega arith
  cost-few named (Reactive init clauses) = let own = clause-few clauses in omega (arith, own)

  pub costs-few : (ds : List DeclTree) → sum_by (decl_cost p f input event) ds ≤ a_node * sum_by (λ (d : DeclTree). nodes_in d.behaviour) ds + input * length ds
  costs-few [] = omega arith
  costs-few (d ∷ ds) =
      let own = cost-few (is_named_in d.name (needed p event)) d.behaviour in
      let rest = costs-few ds in
      let split = sum_by-cons (decl_cost p f input event) d ds in
      let whole = mul-sum a_node _ _ _ (sum_by-cons (λ (c : DeclTree). nodes_in c.behaviour) d ds) in
      omega (arith, own, rest, split, whole)

  pub outputs-few : (os : List OutputTree) → sum_by (λ (o : OutputTree). f o.expr) os ≤ a_node * sum_by (λ (o : OutputTree). nodes o.expr) os
  outputs-few [] = omega arith
  outputs-few (o ∷ os) =
      let own = few o.expr in
      let rest = outputs-few os in
      let split = sum_by-cons (λ (k : OutputTree). f k.expr) o os in
      let whole = mul-sum a_node _ _ _ (sum_by-cons (λ (k : OutputTree). nodes k.expr) o os) in
      omega (arith, own, rest, split, whole)

-- What an event costs is within the limits of counts, and what its definitions cost.
module _ (p : ProgramTree) (formed : IsWellFormed p) (event : List ℕ) where
  pub body-costs-few : sum_by (decl_cost p (weight p) 6 event) p.decls + sum_by (λ (o : OutputTree). weight p o.expr) p.outputs ≤ 3277568
  body-costs-few =
      let decls = costs-few p (weight p) 800 6 (weight-few p) event p.decls in
      let outputs = outputs-few p (weight p) 800 6 (weight-few p) event p.outputs in
      let nodes = formed.written.nodes in
      let long = formed.written.decls in
      omega (arith, decls, outputs, nodes, long)

  pub scratch-costs-few : sum_by (decl_cost p (result_bytes p) 1 event) p.decls + sum_by (λ (o : OutputTree). result_bytes p o.expr) p.outputs ≤ 8320
  scratch-costs-few =
      let decls = costs-few p (result_bytes p) 2 1 (bytes-few p) event p.decls in
      let outputs = outputs-few p (result_bytes p) 2 1 (bytes-few p) event p.outputs in
      let nodes = formed.written.nodes in
      let long = formed.written.decls in
      omega (arith, decls, outputs, nodes, long)

  pub body-few : body p event ≤ 3277568
  body-few = let is = cost-is p (weight p) 6 event in let few = body-costs-few in omega (arith, is, few)

  pub scratch-few : scratch_bytes p event ≤ 8320
  scratch-few = let is = cost-is p (result_bytes p) 1 event in let few = scratch-costs-few in omega (arith, is, few)
