-- Where a skip instruction runs that has a jump directly behind it.
use Rattle.std.specs.Prelude.{ℕ, Bool, true, false}
use Rattle.pic_machine.specs.Chip.{Chip}
use Rattle.code_steps.specs.Steps.{next}
use Rattle.code_steps.specs.Between.{placed_at}
use Rattle.code_steps.specs.Jumps.{with_page}

-- The chip at a skip instruction with a jump to `target` behind it, from the chip at the first word of both: the page settings,
-- where the code has such, come first.
abbrev pub at_skip : (paged : Bool) → (target : ℕ) → Chip → Chip
at_skip true target c = placed_at (next (next c.pc)) (with_page target c.regs.pclath) c
at_skip false target c = c
