-- The value of a program's state in the registers.
use Rattle.std.specs.Prelude.{ℕ, ◌+◌, ◌*◌}
use Rattle.frp_tree.specs.declared.syntax.Ty.{Ty}
use Rattle.frp_tree.specs.declared.syntax.Ty.TheVariants.{Bool, U8, U16}
use Rattle.pic_regs.specs.Registers.{Registers, byte_at}

-- The value that registers hold for a state of a type, at its low and its high data address: its byte, or of a u16 the
-- low byte and 256 times the high one.
abbrev pub value_in : Registers → Ty → ℕ → ℕ → ℕ
value_in r Bool low high = byte_at r low
value_in r U8 low high = byte_at r low
value_in r U16 low high = byte_at r low + 256 * byte_at r high
