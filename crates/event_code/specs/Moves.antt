-- What an event's commit moves, and the state once that is done.
use Rattle.std.specs.Prelude.{ℕ, List, ◌++◌, map}
use Rattle.frp_tree.specs.Tree.{ProgramTree}
use Rattle.efrp_meaning.specs.Meaning.{State}
use Rattle.pic_regs.specs.declared.places.Place.{Place}
use Rattle.pic_regs.specs.declared.places.Place.TheVariants.{Plain, Port}
use Rattle.pic_regs.specs.Bytes.{Byte}
use Rattle.bank_alloc.specs.declared.needs.Needs.{Needs}
use Rattle.bank_alloc.specs.Addresses.{address_of}
use Rattle.glue_parts.specs.declared.moves.Move.{Move}
use Rattle.glue_parts.specs.Moves.{after_moves}
use Rattle.event_ops.specs.declared.results.Copied.{Copied}
use Rattle.event_ops.specs.declared.results.Put.{Put}
use Rattle.event_ops.specs.declared.results.EventOps.{EventOps}
use Rattle.event_code.specs.States.{state_in}

-- The register that a cell is.
abbrev pub register_of : Needs → ℕ → Place
register_of need cell = Plain (address_of need cell)

-- The move of a cell to a state's cell, and of a cell to a port.
abbrev pub move_of : Needs → Copied → Move
move_of need c = record { from = register_of need c.from; to = register_of need c.to }

abbrev pub put_of : Needs → Put → Move
put_of need q = record { from = register_of need q.from; to = Port q.port }

-- All moves of an event: to states first, then to ports in the order of the outputs.
abbrev pub moves_of : Needs → EventOps → List Move
moves_of need ops = map (move_of need) ops.copies ++ map (put_of need) ops.puts

-- The state once moves are made.
abbrev pub next_by : ProgramTree → Needs → List Move → (ℕ → Byte) → State
next_by p need moves plain = state_in p need (after_moves moves plain)
