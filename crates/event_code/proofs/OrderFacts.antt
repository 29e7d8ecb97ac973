-- What operations mean one after the other, as they do it: each leads from bytes to bytes, since a cell is written once.
use Rattle.std.specs.List.{AllByRecursion, flat_map}
use Rattle.std.proofs.Common.{◌≡◌, ℕ, ◌+◌, ◌<◌, ◌≤◌, ◌==◌, ◌||◌, Bool, true, false, List, [], ◌∷◌, length, refl, sym, subst, ◌∙◌, arith, inl, inr}
use Rattle.std.proofs.lemmas.Bool.{cases_lt, eqb-true}
use Rattle.byte_ops.specs.declared.operations.Op.{Op}
use Rattle.byte_ops.specs.Cells.{AreIn, AreNot}
use Rattle.byte_ops.specs.Meaning.{read_by, written_by}
use Rattle.event_needs.proofs.ListLaws.{all-append}
use Rattle.expr_lower.specs.Running.{AreNext, CanRun, DoAll, GiveOut, HoldBytes}
use Rattle.expr_lower.proofs.OrderLaws.{ends-after}
use Rattle.op_code.specs.Operations.{MeansInOrder, cells_of_op, is_one_of}

-- A cell before those that come next is none of them, and so is one behind them.
before-next : (first : ℕ) (cells : List ℕ) (cell : ℕ) → AreNext first cells → cell < first → AreNot cell cells
before-next first [] cell next before = tt
before-next first (x ∷ xs) cell next before = ((λ e. absurd (omega (arith, next.0, e, before))), before-next (first + 1) xs cell next.1 (omega arith))

past-next : (first : ℕ) (cells : List ℕ) (cell : ℕ) → AreNext first cells → first + length cells ≤ cell → AreNot cell cells
past-next first [] cell next past = tt
past-next first (x ∷ xs) cell next past = ((λ e. absurd (omega (arith, next.0, e, past))), past-next (first + 1) xs cell next.1 (omega arith))

-- Cells before those that operations give out are left.
pub leaves-before : (first : ℕ) (ops : List Op) (next : ℕ) (a b : ℕ → ℕ) → GiveOut first ops next → MeansInOrder ops a b → (cell : ℕ) → cell < first → b cell ≡ a cell
leaves-before first [] next a b order same cell before = same cell
leaves-before first (op ∷ ops) next a b order (middle, means, rest) cell before =
    leaves-before (first + length (written_by op)) ops next middle b order.2 rest cell (omega arith)
    ∙ means.1 cell (before-next first (written_by op) cell order.1 before)

-- From bytes to bytes, they lead over bytes.
pub do-all : (first : ℕ) (ops : List Op) (next : ℕ) (start finish : ℕ → ℕ) → GiveOut first ops next → HoldBytes start → HoldBytes finish → MeansInOrder ops start finish → DoAll ops start finish
do-all first [] next start finish order begun ended same = same
do-all first (op ∷ ops) next start finish order begun ended (middle, means, rest) = (middle, means, bytes, do-all behind ops next middle finish order.2 bytes ended rest)
  where
    behind : ℕ
    behind = first + length (written_by op)

    bytes : HoldBytes middle
    bytes cell = elim (cases_lt cell behind) as (λ s. middle cell < 256) [
      | inl before ↦ subst (λ n. n < 256) (leaves-before behind ops next middle finish order.2 rest cell before) (ended cell)
      | inr past ↦ subst (λ n. n < 256) (sym (means.1 cell (past-next first (written_by op) cell order.1 past))) (begun cell)
    ]

-- What holds of each of some cells holds of one of them, and of each of more where it holds of those too.
pub at-one : (P : ℕ → Type 0) (cells : List ℕ) (cell : ℕ) → AllByRecursion P cells → is_one_of cells cell ≡ true → P cell
at-one P [] cell all h = absurd (cc)
at-one P (x ∷ xs) cell all h = by_test (x == cell) refl h (at-one P xs cell all.1)
  where
    by_test : (b : Bool) → (x == cell) ≡ b → (b || is_one_of xs cell) ≡ true → (is_one_of xs cell ≡ true → P cell) → P cell
    by_test true same h rest = subst P (eqb-true x cell same) all.0
    by_test false other h rest = rest h

pub all-weaker : {A : Type 0} (P Q : A → Type 0) (xs : List A) → ((x : A) → P x → Q x) → AllByRecursion P xs → AllByRecursion Q xs
all-weaker P Q [] weaker all = tt
all-weaker P Q (x ∷ xs) weaker all = (weaker x all.0, all-weaker P Q xs weaker all.1)

-- Cells that operations write lie between the first that is given out and the next; all of their cells are among so many.
abbrev pub Lie : ℕ → ℕ → ℕ → Type 0
Lie low next cell = (low ≤ cell) × (cell < next)

next-lie : (low first next : ℕ) (cells : List ℕ) → low ≤ first → AreNext first cells → first + length cells ≤ next → AllByRecursion (Lie low next) cells
next-lie low first next [] from order room = tt
next-lie low first next (x ∷ xs) from order room = ((omega (arith, order.0, from), omega (arith, order.0, room)), next-lie low (first + 1) next xs (omega arith) order.1 (omega arith))

pub written-lie : (low first : ℕ) (ops : List Op) (next : ℕ) → low ≤ first → GiveOut first ops next → AllByRecursion (Lie low next) (flat_map written_by ops)
written-lie low first [] next from order = tt
written-lie low first (op ∷ ops) next from order =
    let behind = first + length (written_by op) in
    all-append (Lie low next) (written_by op) (flat_map written_by ops)
    (next-lie low first next (written_by op) from order.1 (ends-after behind ops next order.2))
    (written-lie low behind ops next (omega arith) order.2)

pub cells-lie : (count : ℕ) (ops : List Op) → AllByRecursion (CanRun count) ops → AreIn count (flat_map cells_of_op ops)
cells-lie count [] runs = tt
cells-lie count (op ∷ ops) runs =
    all-append (λ cell. cell < count) (cells_of_op op) (flat_map cells_of_op ops)
    (all-append (λ cell. cell < count) (read_by op) (written_by op) runs.0.read_in runs.0.written_in)
    (cells-lie count ops runs.1)
