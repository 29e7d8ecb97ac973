-- The value of a literal.
use Rattle.std.specs.Prelude.{Option, Some, None, nat_le, if◌then◌else◌}
use Rattle.frp_tree.specs.declared.syntax.Lit.{Lit}
use Rattle.frp_tree.specs.declared.syntax.Lit.TheVariants.{Plain, Wide, Truth}
use Rattle.frp_tree.specs.declared.syntax.Value.{Value}
use Rattle.frp_tree.specs.declared.syntax.Value.TheVariants as value

-- The value that a literal stands for. A number with no suffix is a u8, so one above 255 has none; one with it is a u16,
-- so one above 65,535 has none.
abbrev pub lit_value_of : Lit → Option Value
lit_value_of (Plain n) = if nat_le n 255 then Some (value.U8 n) else None
lit_value_of (Wide n) = if nat_le n 65535 then Some (value.U16 n) else None
lit_value_of (Truth b) = Some (value.Bool b)
