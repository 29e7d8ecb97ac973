-- What moves leave in the plain bytes, and what they put on ports. A move from a register that is no plain byte counts as one of 0.
use Rattle.std.specs.Prelude.{ℕ, List, [], ◌∷◌, ◌++◌}
use Rattle.pic_regs.specs.declared.places.Place.{Place}
use Rattle.pic_regs.specs.declared.places.Place.TheVariants as place
use Rattle.pic_regs.specs.Bytes.{Byte, num, updated, zeros}
use Rattle.pic_machine.specs.declared.steps.PortWrite.{PortWrite}
use Rattle.glue_parts.specs.declared.moves.Move.{Move}

-- The byte that stands at a place.
abbrev pub byte_from : Place → (ℕ → Byte) → Byte
byte_from (place.Plain address) plain = plain address
byte_from _ plain = zeros

-- The plain bytes once a byte is put at a place; and what is then put on a port.
abbrev pub put_to : Place → Byte → (ℕ → Byte) → ℕ → Byte
put_to (place.Plain address) x plain = updated plain address x
put_to _ x plain = plain

abbrev pub shown_at : Place → Byte → List PortWrite
shown_at (place.Port n) x = record { port = n; byte = num x } ∷ []
shown_at _ x = []

-- The plain bytes after a move, and after moves that are made one after the other.
abbrev pub after_move : Move → (ℕ → Byte) → ℕ → Byte
after_move move plain = put_to move.to (byte_from move.from plain) plain

abbrev pub after_moves : List Move → (ℕ → Byte) → ℕ → Byte
after_moves [] plain = plain
after_moves (move ∷ moves) plain = after_moves moves (after_move move plain)

-- What they put on ports, in order: each the byte that stands at its place when its turn comes.
abbrev pub puts_by : List Move → (ℕ → Byte) → List PortWrite
puts_by [] plain = []
puts_by (move ∷ moves) plain = shown_at move.to (byte_from move.from plain) ++ puts_by moves (after_move move plain)
