-- The walk over the names of an expression.
use Rattle.std.proofs.Common.{◌≡◌, ℕ, ◌+◌, List, None, Result, subst, arith}
use Rattle.std.specs.Result.{IsErrAnd}
use Rattle.frp_tree.specs.declared.syntax.BinOp.{BinOp}
use Rattle.frp_tree.specs.Limits.{nodes}
use Rattle.frp_tree.specs.Tree.{Tree, Binary, If, Look, ProgramTree}
use Rattle.efrp_types.specs.NameFaults.{index_fault}
use Rattle.where_tool.specs.declared.parts.Host.{Host}
use Rattle.where_tool.specs.declared.parts.Part.TheVariants as part
use Rattle.where_tool.specs.declared.parts.Halted.{Halted}
use Rattle.where_tool.specs.Visits.{visit, first_part, use_visits}
use Rattle.where_tool.specs.Walks.{Halts, Walks, IsBehind}
use Rattle.where_tool.proofs.WalkFacts.{walks-rest, walks-map, handed, halts-first, halts-rest}

module _ (p : ProgramTree) (h : Host) where
  -- The names of an expression are no faults, and its nodes end before this number.
  abbrev Gone : ℕ → Tree → ℕ → Type 0
  Gone n e next = (first_part (use_visits p h n e) ≡ None) × IsBehind n e next

  pub uses-two : (op : BinOp) (a b : Tree) (n own : ℕ) (r : Result ℕ Halted) → Gone n a own → Walks (use_visits p h (own + 1) b) (IsBehind (own + 1) b) r → Walks (use_visits p h n (Binary op a b)) (IsBehind n (Binary op a b)) r
  uses-two op a b n own r gone rest =
      walks-rest (use_visits p h n a) (use_visits p h (n + nodes a + 1) b) (IsBehind n (Binary op a b)) r gone.0
      (walks-map (use_visits p h (n + nodes a + 1) b) (IsBehind (n + nodes a + 1) b) (IsBehind n (Binary op a b)) r (λ x is. omega (arith, is))
      (subst (λ k. Walks (use_visits p h (k + 1) b) (IsBehind (k + 1) b) r) gone.1 rest))

  -- The second part of an `if` halts; and all of it.
  pub uses-second : (c a b : Tree) (n second : ℕ) (why : Halted) (r : Result ℕ Halted) → Gone (n + 1) c second → IsErrAnd r (λ told. told ≡ why) → Halts (first_part (use_visits p h second a)) why
      → Walks (use_visits p h n (If c a b)) (IsBehind n (If c a b)) r
  uses-second c a b n second why r gone is halts =
      handed (use_visits p h n (If c a b)) (IsBehind n (If c a b)) why r is
      (halts-rest (use_visits p h (n + 1) c) _ why gone.0
      (halts-first (use_visits p h (n + 1 + nodes c) a) _ why (subst (λ k. Halts (first_part (use_visits p h k a)) why) gone.1 halts)))

  pub uses-three : (c a b : Tree) (n second last : ℕ) (r : Result ℕ Halted) → Gone (n + 1) c second → Gone second a last → Walks (use_visits p h last b) (IsBehind last b) r
      → Walks (use_visits p h n (If c a b)) (IsBehind n (If c a b)) r
  uses-three c a b n second last r one two rest =
      walks-rest (use_visits p h (n + 1) c) _ (IsBehind n (If c a b)) r one.0
      (walks-rest (use_visits p h (n + 1 + nodes c) a) (use_visits p h (n + 1 + nodes c + nodes a) b) (IsBehind n (If c a b)) r there.0
      (walks-map (use_visits p h (n + 1 + nodes c + nodes a) b) (IsBehind (n + 1 + nodes c + nodes a) b) (IsBehind n (If c a b)) r (λ x is. omega (arith, is))
      (subst (λ k. Walks (use_visits p h k b) (IsBehind k b) r) there.1 rest)))
    where
      there : Gone (n + 1 + nodes c) a last
      there = subst (λ k. Gone k a last) one.1 two

  -- A look-up: its name, and then its index.
  pub uses-look : (table : List ℕ) (index : Tree) (n : ℕ) (r : Result ℕ Halted) → first_part (visit (part.Node h n) (index_fault p table)) ≡ None → Walks (use_visits p h (n + 1) index) (IsBehind (n + 1) index) r
      → Walks (use_visits p h n (Look table index)) (IsBehind n (Look table index)) r
  uses-look table index n r none rest =
      walks-rest (visit (part.Node h n) (index_fault p table)) (use_visits p h (n + 1) index) (IsBehind n (Look table index)) r none
      (walks-map (use_visits p h (n + 1) index) (IsBehind (n + 1) index) (IsBehind n (Look table index)) r (λ x is. omega (arith, is)) rest)
