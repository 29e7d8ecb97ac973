-- Where a program's states lie, and the state that plain bytes hold.
use Rattle.std.specs.Prelude.{ℕ, ◌+◌, List, [], ◌∷◌, ◌++◌, map, Option, Some, None}
use Rattle.frp_tree.specs.Tree.{DeclTree, ProgramTree}
use Rattle.efrp_meaning.specs.Bounds.{bytes_in}
use Rattle.efrp_meaning.specs.Meaning.{State}
use Rattle.pic_regs.specs.Bytes.{Byte, num}
use Rattle.map_file.specs.declared.maps.MapState.{MapState}
use Rattle.byte_ops.specs.declared.operations.Pair.{Pair}
use Rattle.byte_ops.specs.Cells.{held}
use Rattle.expr_lower.specs.Numbered.{state_cells}
use Rattle.expr_lower.specs.Places.{is_wide}
use Rattle.bank_alloc.specs.declared.needs.Needs.{Needs}
use Rattle.bank_alloc.specs.Addresses.{address_of}

-- A definition as a map lists it: with the addresses of its state's cells, where it has some.
abbrev pub listed : Needs → DeclTree → Option Pair → List MapState
listed need d None = []
listed need d (Some pair) = record { name = d.name; ty = d.ty; low = address_of need pair.low; high = address_of need pair.high } ∷ []

-- The states of definitions whose cells are numbered from this number on, those of each behind those of the one before.
abbrev pub states_from : Needs → ℕ → List DeclTree → List MapState
states_from need next [] = []
states_from need next (d ∷ ds) = listed need d (state_cells next d.ty d.behaviour) ++ states_from need (next + bytes_in d.ty d.behaviour) ds

-- The states of a program, as a map lists them: the cells are numbered from 0.
abbrev pub states_of : Needs → ProgramTree → List MapState
states_of need p = states_from need 0 p.decls

-- The number that plain bytes hold at the addresses of a state: its byte, or the low byte and 256 times the high one.
abbrev pub number_in : (ℕ → Byte) → MapState → ℕ
number_in plain s = held (is_wide s.ty) (record { low = s.low; high = s.high }) (λ address. num (plain address))

-- The state that plain bytes hold: a value for each reactive definition, in declaration order.
abbrev pub state_in : ProgramTree → Needs → (ℕ → Byte) → State
state_in p need plain = map (number_in plain) (states_of need p)
