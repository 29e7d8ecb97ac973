-- Cells by their numbers: which of a pair count, what they hold, and lists of cells that lie within some, or differ.
use Rattle.std.specs.Prelude.{◌≢◌, ℕ, ◌+◌, ◌*◌, ◌<◌, Bool, true, false, List, [], ◌∷◌, get_or, if◌then◌else◌}
use Rattle.std.specs.List.{AllByRecursion}
use Rattle.byte_ops.specs.declared.operations.Pair.{Pair}

-- How many values there are of 16 bits, where something is wide, and else of 8.
abbrev pub modulus_of : Bool → ℕ
modulus_of wide = if wide then 65536 else 256

-- What each cell holds, where the bytes of all are listed.
abbrev pub cell_of : List ℕ → ℕ → ℕ
cell_of bytes cell = get_or bytes cell 0

-- The cells of a pair that count.
abbrev pub cells_of : Bool → Pair → List ℕ
cells_of false pair = pair.low ∷ []
cells_of true pair = pair.low ∷ pair.high ∷ []

-- The number that they hold.
abbrev pub held : Bool → Pair → (ℕ → ℕ) → ℕ
held false pair cells = cells pair.low
held true pair cells = cells pair.low + 256 * cells pair.high

-- All of these are among the first so many cells.
abbrev pub AreIn : ℕ → List ℕ → Type 0
AreIn count cells = AllByRecursion (λ cell. cell < count) cells

-- None of these is this cell.
abbrev pub AreNot : ℕ → List ℕ → Type 0
AreNot cell cells = AllByRecursion (λ other. cell ≢ other) cells

-- No two of these are the same.
abbrev pub Differ : List ℕ → Type 0
Differ [] = Unit
Differ (cell ∷ more) = AreNot cell more × Differ more
