-- The cells of states: each lies within those of all, and no two definitions share one.
use Rattle.std.proofs.Common.{◌≡◌, ℕ, zero, suc, ◌+◌, ◌<◌, ◌≤◌, Bool, true, false, List, [], ◌∷◌, take, sum_by, slice_get, Some, refl, sym, ap, subst, arith}
use Rattle.std.proofs.lemmas.List.Sums.{sum_by-cons}
use Rattle.std.proofs.lemmas.Option.{none-some, same_Some}
use Rattle.frp_tree.specs.declared.syntax.Ty.{Ty}
use Rattle.frp_tree.specs.declared.syntax.Ty.TheVariants as ty
use Rattle.frp_tree.specs.Tree.{BehaviourTree, Plain, Input, Table, Reactive, DeclTree, ProgramTree}
use Rattle.efrp_meaning.specs.Bounds.{bytes_in, state_bytes, type_bytes}
use Rattle.efrp_meaning.specs.Decls.{is_reactive}
use Rattle.byte_ops.specs.declared.operations.Pair.{Pair}
use Rattle.expr_lower.specs.Nodes.{new_pair, size_of}
use Rattle.expr_lower.specs.Numbered.{state_cells}
use Rattle.expr_lower.specs.Places.{is_wide}
use Rattle.event_ops.specs.Works.{state_of}

abbrev pub bytes : DeclTree → ℕ
bytes d = bytes_in d.ty d.behaviour

abbrev pub before : List DeclTree → ℕ → ℕ
before ds n = sum_by (λ (c : DeclTree). bytes_in c.ty c.behaviour) (take n ds)

split : (d : DeclTree) (ds : List DeclTree) → sum_by (λ (c : DeclTree). bytes_in c.ty c.behaviour) (d ∷ ds) ≡ bytes d + sum_by (λ (c : DeclTree). bytes_in c.ty c.behaviour) ds
split d ds = sum_by-cons (λ (c : DeclTree). bytes_in c.ty c.behaviour) d ds

pub ends-before : (ds : List DeclTree) (m n : ℕ) (c : DeclTree) → slice_get ds m ≡ Some c → m < n → before ds m + bytes c ≤ before ds n
ends-before [] m n c at less = absurd (none-some c at)
ends-before (x ∷ xs) zero zero c at less = absurd (omega (arith, less))
ends-before (x ∷ xs) zero (suc n) c at less =
    let same = same_Some x c at in
    let is : bytes x ≡ bytes c = ap bytes same in
    let whole = split x (take n xs) in
    omega (arith, is, whole)
ends-before (x ∷ xs) (suc m) zero c at less = absurd (omega (arith, less))
ends-before (x ∷ xs) (suc m) (suc n) c at less =
    let rest = ends-before xs m n c at (omega (arith, less)) in
    let first = split x (take m xs) in
    let second = split x (take n xs) in
    omega (arith, rest, first, second)

pub ends-within : (ds : List DeclTree) (n : ℕ) (d : DeclTree) → slice_get ds n ≡ Some d → before ds n + bytes d ≤ sum_by (λ (c : DeclTree). bytes_in c.ty c.behaviour) ds
ends-within [] n d at = absurd (none-some d at)
ends-within (x ∷ xs) zero d at =
    let is : bytes x ≡ bytes d = ap bytes (same_Some x d at) in
    let whole = split x xs in
    omega (arith, is, whole)
ends-within (x ∷ xs) (suc n) d at =
    let rest = ends-within xs n d at in
    let first = split x (take n xs) in
    let whole = split x xs in
    omega (arith, rest, first, whole)

-- Where a definition has a state, its cells are the next ones.
pub record HasCells (k : ℕ) (t : Ty) (b : BehaviourTree) (cells : Pair) : Type 0 where
  pub pair : cells ≡ new_pair (is_wide t) k
  pub bytes : bytes_in t b ≡ size_of (is_wide t)
  pub reactive : is_reactive b ≡ true

size-is : (t : Ty) → type_bytes t ≡ size_of (is_wide t)
size-is ty.Bool = refl
size-is ty.U8 = refl
size-is ty.U16 = refl

pub has-cells : (k : ℕ) (t : Ty) (b : BehaviourTree) (pair : Pair) → state_cells k t b ≡ Some pair → HasCells k t b pair
has-cells k t (Plain e) pair is = absurd (none-some pair is)
has-cells k t (Input port) pair is = absurd (none-some pair is)
has-cells k t (Table entries) pair is = absurd (none-some pair is)
has-cells k t (Reactive init clauses) pair is = record { pair = sym (same_Some (new_pair (is_wide t) k) pair is); bytes = size-is t; reactive = refl }

-- Both cells are from the first one on.
pub record Lies (k size : ℕ) (pair : Pair) : Type 0 where
  pub low : pair.low ≡ k
  pub high_from : k ≤ pair.high
  pub high_below : pair.high < k + size

pair-lies : (w : Bool) (k : ℕ) → Lies k (size_of w) (new_pair w k)
pair-lies false k = record { low = refl; high_from = omega arith; high_below = omega arith }
pair-lies true k = record { low = refl; high_from = omega arith; high_below = omega arith }

pub lies : (p : ProgramTree) (n : ℕ) (d : DeclTree) (pair : Pair) → state_of p n d ≡ Some pair → Lies (before p.decls n) (bytes d) pair
lies p n d pair is =
    let h = has-cells (before p.decls n) d.ty d.behaviour pair is in
    subst (λ s. Lies (before p.decls n) s pair) (sym h.bytes) (subst (Lies (before p.decls n) (size_of (is_wide d.ty))) (sym h.pair) (pair-lies (is_wide d.ty) (before p.decls n)))

pub record LiesIn (p : ProgramTree) (pair : Pair) : Type 0 where
  pub low : pair.low < state_bytes p
  pub high : pair.high < state_bytes p

pub lies-in : (p : ProgramTree) (n : ℕ) (d : DeclTree) (pair : Pair) → slice_get p.decls n ≡ Some d → state_of p n d ≡ Some pair → LiesIn p pair
lies-in p n d pair at is =
    let l = lies p n d pair is in
    let within = ends-within p.decls n d at in
    record { low = omega (arith, l.low, l.high_from, l.high_below, within); high = omega (arith, l.high_below, within) }

-- No cell of one definition's state is one of another's.
pub apart : (p : ProgramTree) (m n : ℕ) (c d : DeclTree) (a b : Pair) → slice_get p.decls m ≡ Some c → slice_get p.decls n ≡ Some d → m < n → state_of p m c ≡ Some a → state_of p n d ≡ Some b
    → (a.low < b.low) × (a.low < b.high) × (a.high < b.low) × (a.high < b.high)
apart p m n c d a b at there less is its =
    let k = lies p m c a is in
    let l = lies p n d b its in
    let ends = ends-before p.decls m n c at less in
    (omega (arith, k.low, k.high_from, k.high_below, l.low, ends), omega (arith, k.low, k.high_from, k.high_below, l.high_from, ends), omega (arith, k.high_below, l.low, ends), omega (arith, k.high_below, l.high_from, ends))
