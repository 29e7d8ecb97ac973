-- Operations that give out cells one after another: that each can be run, and that they leave the cells before.
use Rattle.std.specs.List.{AllByRecursion}
use Rattle.std.proofs.Common.{◌≡◌, ℕ, ◌+◌, ◌≤◌, ◌<◌, List, [], ◌∷◌, ◌++◌, length, refl, sym, subst, ◌∙◌, arith}
use Rattle.byte_ops.specs.declared.operations.Op.{Op}
use Rattle.byte_ops.specs.Cells.{AreIn, AreNot, Differ}
use Rattle.byte_ops.specs.Kinds.{IsOp}
use Rattle.byte_ops.specs.Meaning.{read_by, written_by}
use Rattle.expr_lower.specs.Running.{AreNext, CanRun, DoAll, GiveOut, HoldBytes}

all-append : {A : Type 0} (P : A → Type 0) (xs ys : List A) → AllByRecursion P xs → AllByRecursion P ys → AllByRecursion P (xs ++ ys)
all-append P [] ys first second = second
all-append P (x ∷ xs) ys first second = (first.0, all-append P xs ys first.1 second)

pub kinds-append : (xs ys : List Op) → AllByRecursion IsOp xs → AllByRecursion IsOp ys → AllByRecursion IsOp (xs ++ ys)
kinds-append xs ys first second = all-append IsOp xs ys first second

pub in-more : (a b : ℕ) (cells : List ℕ) → a ≤ b → AreIn a cells → AreIn b cells
in-more a b [] h all = tt
in-more a b (c ∷ cs) h all = (omega (arith, all.0), in-more a b cs h all.1)

-- Cells that come next.
next-in : (first : ℕ) (cells : List ℕ) → AreNext first cells → AreIn (first + length cells) cells
next-in first [] h = tt
next-in first (c ∷ cs) h = (omega (arith, h.0), in-more (first + 1 + length cs) (first + length (c ∷ cs)) cs (omega arith) (next-in (first + 1) cs h.1))

next-after : (first : ℕ) (cells : List ℕ) (cell : ℕ) → cell < first → AreNext first cells → AreNot cell cells
next-after first [] cell h next = tt
next-after first (c ∷ cs) cell h next = ((λ e. absurd (omega (arith, next.0, e, h))), next-after (first + 1) cs cell (omega arith) next.1)

not-read : (first cell : ℕ) (reads : List ℕ) → first ≤ cell → AreIn first reads → AreNot cell reads
not-read first cell [] h all = tt
not-read first cell (r ∷ rs) h all = ((λ e. absurd (omega (arith, all.0, e, h))), not-read first cell rs h all.1)

next-apart : (first start : ℕ) (cells reads : List ℕ) → first ≤ start → AreNext start cells → AreIn first reads → AllByRecursion (λ cell. AreNot cell reads) cells
next-apart first start [] reads h next all = tt
next-apart first start (c ∷ cs) reads h next all = (not-read first c reads (omega (arith, next.0)) all, next-apart first (start + 1) cs reads (omega arith) next.1 all)

next-differ : (first : ℕ) (cells : List ℕ) → AreNext first cells → Differ cells
next-differ first [] h = tt
next-differ first (c ∷ cs) h = (next-after (first + 1) cs c (omega (arith, h.0)) h.1, next-differ (first + 1) cs h.1)

-- Lists of operations.
pub ends-after : (first : ℕ) (ops : List Op) (next : ℕ) → GiveOut first ops next → first ≤ next
ends-after first [] next h = omega (arith, h)
ends-after first (op ∷ ops) next h = omega (arith, ends-after (first + length (written_by op)) ops next h.2)

pub order-append : (first : ℕ) (xs ys : List Op) (middle next : ℕ) → GiveOut first xs middle → GiveOut middle ys next → GiveOut first (xs ++ ys) next
order-append first [] ys middle next h g = subst (λ k. GiveOut k ys next) (sym h) g
order-append first (x ∷ xs) ys middle next h g = (h.0, h.1, order-append (first + length (written_by x)) xs ys middle next h.2 g)

pub all-run : (first : ℕ) (ops : List Op) (next : ℕ) → GiveOut first ops next → AllByRecursion IsOp ops → AllByRecursion (CanRun next) ops
all-run first [] next h kinds = tt
all-run first (op ∷ ops) next h kinds =
    let cells = written_by op in
    let rest = ends-after (first + length cells) ops next h.2 in (
      record {
        kind = kinds.0;
        written_in = in-more (first + length cells) next cells rest (next-in first cells h.1);
        read_in = in-more first next (read_by op) (omega (arith, rest)) h.0;
        apart = next-apart first first cells (read_by op) (omega arith) h.1 h.0;
        differ = next-differ first cells h.1;
      },
      all-run (first + length cells) ops next h.2 kinds.1,
    )

pub leaves : (first : ℕ) (ops : List Op) (next : ℕ) (start finish : ℕ → ℕ) → GiveOut first ops next → DoAll ops start finish → (cell : ℕ) → cell < first → finish cell ≡ start cell
leaves first [] next start finish h d cell before = d cell
leaves first (op ∷ ops) next start finish h d cell before =
    leaves (first + length (written_by op)) ops next d.0 finish h.2 d.3 cell (omega arith)
    ∙ d.1.1 cell (next-after first (written_by op) cell before h.1)

-- What is done by two lists.
pub record Between (xs ys : List Op) (start finish : ℕ → ℕ) : Type 0 where
  pub at : ℕ → ℕ
  pub bytes : HoldBytes at
  pub first : DoAll xs start at
  pub second : DoAll ys at finish

pub between : (xs ys : List Op) (start finish : ℕ → ℕ) → HoldBytes start → DoAll (xs ++ ys) start finish → Between xs ys start finish
between [] ys start finish bytes d = record { at = start; bytes = bytes; first = λ cell. refl; second = d }
between (x ∷ xs) ys start finish bytes d =
    let rest = between xs ys d.0 finish d.2 d.3 in
    record { at = rest.at; bytes = rest.bytes; first = (d.0, d.1, d.2, rest.first); second = rest.second }
