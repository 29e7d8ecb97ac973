-- What an operation means: which cells it reads and writes, its value, and what it leaves in the cells.
use Rattle.std.specs.Prelude.{◌≡◌, ℕ, ◌<◌, List, [], ◌∷◌, ◌++◌}
use Rattle.frp_tree.specs.declared.syntax.UnOp.TheVariants as unary
use Rattle.efrp_meaning.specs.Values.{binary_value, if_value, shift_value, unary_value}
use Rattle.byte_ops.specs.declared.operations.Op.{Op}
use Rattle.byte_ops.specs.declared.operations.Op.TheVariants.{Set, Copy, Com, Not, Bits, Sum, Compare, Logic, Choose, Shift, Product}
use Rattle.byte_ops.specs.Cells.{AreNot, cells_of, held, modulus_of}

-- The cells that an operation reads.
abbrev pub read_by : Op → List ℕ
read_by (Set to k) = []
read_by (Copy to a) = a ∷ []
read_by (Com to a) = a ∷ []
read_by (Not to a) = a ∷ []
read_by (Bits f to a b) = a ∷ b ∷ []
read_by (Sum f wide to a b) = cells_of wide a ++ cells_of wide b
read_by (Compare f wide to a b) = cells_of wide a ++ cells_of wide b
read_by (Logic f to a b) = a ∷ b ∷ []
read_by (Choose wide to c a b) = c ∷ (cells_of wide a ++ cells_of wide b)
read_by (Shift side wide n to a) = cells_of wide a
read_by (Product f wide to a b) = cells_of wide a ++ cells_of wide b

-- The cells that it writes.
abbrev pub written_by : Op → List ℕ
written_by (Set to k) = to ∷ []
written_by (Copy to a) = to ∷ []
written_by (Com to a) = to ∷ []
written_by (Not to a) = to ∷ []
written_by (Bits f to a b) = to ∷ []
written_by (Sum f wide to a b) = cells_of wide to
written_by (Compare f wide to a b) = to ∷ []
written_by (Logic f to a b) = to ∷ []
written_by (Choose wide to c a b) = cells_of wide to
written_by (Shift side wide n to a) = cells_of wide to
written_by (Product f wide to a b) = cells_of wide to

-- What the cells that it writes hold, as one number.
abbrev pub result_in : Op → (ℕ → ℕ) → ℕ
result_in (Set to k) cells = cells to
result_in (Copy to a) cells = cells to
result_in (Com to a) cells = cells to
result_in (Not to a) cells = cells to
result_in (Bits f to a b) cells = cells to
result_in (Sum f wide to a b) cells = held wide to cells
result_in (Compare f wide to a b) cells = cells to
result_in (Logic f to a b) cells = cells to
result_in (Choose wide to c a b) cells = held wide to cells
result_in (Shift side wide n to a) cells = held wide to cells
result_in (Product f wide to a b) cells = held wide to cells

-- Its value: that of its operator at what the cells hold.
abbrev pub value_of : Op → (ℕ → ℕ) → ℕ
value_of (Set to k) cells = k
value_of (Copy to a) cells = cells a
value_of (Com to a) cells = unary_value unary.Com 256 (cells a)
value_of (Not to a) cells = unary_value unary.Not 2 (cells a)
value_of (Bits f to a b) cells = binary_value f 256 (cells a) (cells b)
value_of (Sum f wide to a b) cells = binary_value f (modulus_of wide) (held wide a cells) (held wide b cells)
value_of (Compare f wide to a b) cells = binary_value f (modulus_of wide) (held wide a cells) (held wide b cells)
value_of (Logic f to a b) cells = binary_value f 2 (cells a) (cells b)
value_of (Choose wide to c a b) cells = if_value (cells c) (held wide a cells) (held wide b cells)
value_of (Shift side wide n to a) cells = shift_value side n (modulus_of wide) (held wide a cells)
value_of (Product f wide to a b) cells = binary_value f (modulus_of wide) (held wide a cells) (held wide b cells)

-- Each operand that is a bool holds 0 or 1.
abbrev pub HasBools : Op → (ℕ → ℕ) → Type 0
HasBools (Not to a) cells = cells a < 2
HasBools (Logic f to a b) cells = (cells a < 2) × (cells b < 2)
HasBools (Choose wide to c a b) cells = cells c < 2
HasBools _ cells = Unit

-- From cells before the operation to cells after it: those that it writes hold its value, where bools are 0 or 1, and no
-- other cell has changed.
abbrev pub Means : Op → (ℕ → ℕ) → (ℕ → ℕ) → Type 0
Means op before after =
    (HasBools op before → result_in op after ≡ value_of op before)
    × ((cell : ℕ) → AreNot cell (written_by op) → after cell ≡ before cell)
