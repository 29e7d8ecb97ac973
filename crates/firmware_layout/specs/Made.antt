-- What firmware is made of where each piece does its own: the program's levels, bytes and bounds, and the code of each event's work.
use Rattle.std.specs.Prelude.{◌≡◌, ℕ, ◌<◌, ◌≤◌, true, false, nat_lt, [], map, length}
use Rattle.frp_tree.specs.declared.syntax.Event.{Event}
use Rattle.efrp_meaning.specs.Bounds.{greatest, levels, ram_bound, scratch_bytes, state_bytes}
use Rattle.efrp_meaning.specs.Decls.{inputs_of}
use Rattle.efrp_types.specs.Laws.{IsWellFormed}
use Rattle.efrp_types.specs.Numbers.{event_name}
use Rattle.efrp_types.specs.Passes.{Passes}
use Rattle.bank_alloc.specs.Needs.{bytes_of}
use Rattle.code_steps.specs.declared.banks.Bank.TheVariants.{Known}
use Rattle.code_items.specs.Items.{words_in}
use Rattle.op_code.specs.Operations.{DoesInOrder}
use Rattle.event_ops.specs.declared.results.EventOps.{EventOps}
use Rattle.event_ops.specs.Works.{Works}
use Rattle.isr_vector.specs.Taking.{AreSources}
use Rattle.event_code.specs.Moves.{moves_of}
use Rattle.firmware_layout.specs.Pieces.{Makings, items_of}
use Rattle.firmware_layout.specs.Sound.{AreMakings}

-- The work of an event is the code of operations that lead to its reaction, and its window moves what they leave.
pub record DoesEvent (f : Makings) (event : ℕ) : Type 0 where
  pub ops : EventOps
  pub works : Works f.p (event_name f.p event) ops
  pub code : DoesInOrder ops.ops f.need (Known 0) (f.bank event) (f.work event)
  pub moves : f.moves event ≡ moves_of f.need ops
  pub cells : f.cells event ≡ ops.cells

-- A program that passes the checks, without inputs and with at most 8 levels; its sources; the bytes of its states, of a frame for
-- each level and of the most scratch that an event takes, which the chip has room for; banks where they don't fit into bank 0; and
-- the work of each event.
pub record IsMade (f : Makings) : Type 0 where
  pub written : IsWellFormed f.p
  pub passes : Passes f.p
  pub no_inputs : inputs_of f.p ≡ []
  pub few : levels f.p ≤ 8
  pub sources : AreSources f.p f.source
  pub states : f.need.states ≡ state_bytes f.p
  pub frames : f.need.levels ≡ levels f.p
  pub scratch : f.need.scratch ≡ greatest (map (λ (e : Event). scratch_bytes f.p e.name) f.p.events)
  pub fits : ram_bound f.p ≤ 352
  pub banks : f.spread.banks ≡ nat_lt 80 (bytes_of f.need)
  pub events : (event : ℕ) → event < length f.p.events → DoesEvent f event

-- The same, in code of one page.
abbrev pub on_one_page : Makings → Makings
on_one_page f = record (f) { spread = record (f.spread) { pages = false } }

-- Code has page settings only where it doesn't fit into one page.
abbrev pub IsSpread : Makings → Type 0
IsSpread f = f.spread.pages ≡ true → 2048 < words_in false (items_of (on_one_page f))

-- So its pieces can be put together.
abbrev pub IsMaking : Makings → Type 0
IsMaking f = IsMade f → AreMakings f
