-- The cells of a level's frame, and which bytes firmware keeps where.
use Rattle.std.specs.Prelude.{ℕ, ◌+◌, ◌-◌, ◌*◌}
use Rattle.bank_alloc.specs.declared.needs.Needs.{Needs}

-- The cell of a byte of a level's frame: those of level 1 come directly behind states and scratch, six for each level.
abbrev pub frame_cell : Needs → (level byte : ℕ) → ℕ
frame_cell need level byte = need.states + need.scratch + 6 * (level - 1) + byte
