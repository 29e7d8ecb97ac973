-- How many bytes are needed.
use Rattle.std.specs.Prelude.{ℕ, ◌+◌, ◌*◌}
use Rattle.bank_alloc.specs.declared.needs.Needs.{Needs}

-- Those of the state, those of scratch, and six for each level.
abbrev pub bytes_of : Needs → ℕ
bytes_of need = need.states + need.scratch + 6 * need.levels
