-- What the laws of `laws.rt` promise: of maps, of operations that can be coded, and of an event's work on the chip.
use Rattle.std.specs.Prelude.{◌≡◌, ℕ, ◌<◌, ◌≤◌, true, false, List}
use Rattle.frp_tree.specs.Tree.{ProgramTree}
use Rattle.efrp_meaning.specs.Bounds.{body, state_bytes}
use Rattle.efrp_meaning.specs.States.{NamesDiffer}
use Rattle.pic_regs.specs.Bytes.{Byte}
use Rattle.pic_machine.specs.Chip.{Chip}
use Rattle.map_file.specs.declared.maps.Map.{Map}
use Rattle.bank_alloc.specs.declared.needs.Needs.{Needs}
use Rattle.bank_alloc.specs.Addresses.{address_of}
use Rattle.bank_alloc.specs.Needs.{bytes_of}
use Rattle.code_steps.specs.declared.banks.Bank.{Bank}
use Rattle.code_steps.specs.declared.banks.Bank.TheVariants.{Known}
use Rattle.code_items.specs.declared.items.Item.{Item}
use Rattle.firmware_promises.specs.MapNames.{states_in}
use Rattle.core_story.specs.Values.{name_at}
use Rattle.op_code.specs.Operations.{DoesInOrder, IsOperandByte}
use Rattle.glue_parts.specs.Moves.{puts_by}
use Rattle.event_ops.specs.declared.results.EventOps.{EventOps}
use Rattle.event_ops.specs.Works.{Works}
use Rattle.firmware_parts.specs.Layout.{Layout}
use Rattle.firmware_parts.specs.Layout.Part.{Work}
use Rattle.firmware_parts.specs.Work.{DoesWork}
use Rattle.event_code.specs.Moves.{moves_of, next_by}
use Rattle.event_code.specs.States.{state_in, states_of}
use Rattle.event_code.specs.Works.{CanBeCoded}

-- The states that a map with the program's states reads off a chip are those that its plain bytes hold.
abbrev pub MapReadsStates : ProgramTree → Needs → Map → Chip → Type 0
MapReadsStates p need m c = bytes_of need ≤ 352 → state_bytes p ≤ bytes_of need → m.states ≡ states_of need p → states_in m c ≡ state_in p need c.regs.plain

-- What an event does with bytes can be coded where its cells are placed.
abbrev pub WorksCanBeCoded : ProgramTree → (event : List ℕ) → (cells : ℕ) → EventOps → Type 0
WorksCanBeCoded p event cells ops = Works p event ops → ops.cells ≤ cells → CanBeCoded cells ops

-- The layout of firmware that keeps states and scratch at the addresses of cells: what it reads off the plain bytes as the state, the
-- state behind the event's window, and what the window puts on ports. The event's work may write operand bytes and the event's
-- scratch. Where the work may be interrupted and no taking saves the bank bits, the event's cells lie in bank 0.
pub record KeepsCells (p : ProgramTree) (need : Needs) (ops : EventOps) (l : Layout) (e : ℕ) : Type 0 where
  pub states : (plain : ℕ → Byte) → l.states plain ≡ state_in p need plain
  pub next : (plain : ℕ → Byte) → l.next_of e plain ≡ next_by p need (moves_of need ops) plain
  pub puts : (plain : ℕ → Byte) → l.puts_of e plain ≡ puts_by (moves_of need ops) plain
  pub operands : (address : ℕ) → IsOperandByte address → l.may (Work e) address ≡ true
  pub scratch : (cell : ℕ) → state_bytes p ≤ cell → cell < ops.cells → l.may (Work e) (address_of need cell) ≡ true
  pub low : l.is_locked e ≡ true → l.saves_status ≡ false → (cell : ℕ) → cell < ops.cells → address_of need cell < 128

-- Items that do an event's operations in order, begun in bank 0, do the event's work, within its body's weight.
abbrev pub DoesEventWork : ProgramTree → Map → Needs → EventOps → Layout → ℕ → Bank → List Item → Type 0
DoesEventWork p m need ops l e bank items =
    NamesDiffer p → Works p (name_at m e) ops → bytes_of need ≤ 352 → ops.cells ≤ bytes_of need
    → DoesInOrder ops.ops need (Known 0) bank items → KeepsCells p need ops l e → DoesWork p m l (body p (name_at m e)) bank e items
