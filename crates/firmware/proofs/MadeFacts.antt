-- What firmware is made of, from the parts of a program that can be built: each piece does its own.
use Rattle.std.proofs.Common.{◌≡◌, ℕ, ◌+◌, ◌<◌, ◌≤◌, nat_lt, Option, Some, None, true, false, inl, inr, List, [], length, slice_get, refl, sym, ap, subst, ◌∙◌, arith}
use Rattle.std.specs.Prelude.{slice_index_or}
use Rattle.std.specs.List.{AllByRecursion}
use Rattle.std.proofs.lemmas.Bool.Decides.{nat_tests}
use Rattle.std.proofs.lemmas.Option.{slice_get_within}
use Rattle.efrp_types.proofs.NumberLaws.{item_at}
use Rattle.pic_isa.specs.declared.sources.Source.{Source}
use Rattle.pic_isa.specs.declared.sources.Source.TheVariants.{T0}
use Rattle.pic_regs.specs.Places.{IsPlace}
use Rattle.causality.proofs.CycleLaws.{checked-passes}
use Rattle.bank_alloc.specs.Addresses.{address_of, is_general}
use Rattle.bank_alloc.specs.Needs.{bytes_of}
use Rattle.bank_alloc.proofs.AddressLaws.{addresses-general}
use Rattle.code_steps.specs.declared.banks.Bank.{Bank}
use Rattle.code_steps.specs.declared.banks.Bank.TheVariants.{Known}
use Rattle.code_items.specs.declared.items.Item.{Item}
use Rattle.glue_parts.specs.declared.moves.Move.{Move}
use Rattle.glue_parts.specs.declared.spread.Spread.{Spread}
use Rattle.op_code.specs.Operations.{DoesInOrder}
use Rattle.scratch_commit.specs.Plans.{IsInstruction}
use Rattle.scratch_commit.specs.Windows.{MoveNamed}
use Rattle.isr_vector.specs.Taking.{AreSources}
use Rattle.isr_vector.proofs.ListLaws.{all_mapped}
use Rattle.event_needs.proofs.ListLaws.{all-from}
use Rattle.event_ops.proofs.PortLaws.{small-port}
use Rattle.event_code.specs.declared.works.Work.{Work}
use Rattle.firmware_layout.specs.declared.code.Parts.{Parts}
use Rattle.firmware_layout.specs.Codes.{AreParts, CanRun, makings_of, program_in}
use Rattle.firmware_layout.specs.Made.{DoesEvent, IsMade}
use Rattle.firmware_layout.specs.Pieces.{Makings}
use Rattle.firmware_layout.specs.Sound.{AreMakings, IsMoveIn, IsWorkIn}
use Rattle.firmware_layout.proofs.MadeLaws.{is_making}
use Rattle.firmware.specs.Making.{AreMade, IsWorkFor}

-- The sources of events, as the levels keep them.
abbrev pub source_in : Parts → ℕ → Source
source_in parts event = slice_index_or parts.levels.now.sources event T0

pub sources_are : (parts : Parts) → AreMade parts → AreSources (program_in parts) (source_in parts)
sources_are parts made = made.levels.sources

-- What stands as the work of an event, where there is one.
abbrev items_in : Option Work → List Item
items_in o = elim o [ Some w ↦ w.coded.code.items | None ↦ [] ]

abbrev bank_in : Option Work → Bank
bank_in o = elim o [ Some w ↦ w.coded.bank | None ↦ Known 0 ]

abbrev cells_in : Option Work → ℕ
cells_in o = elim o [ Some w ↦ w.cells | None ↦ 0 ]

abbrev moves_in : Option Work → List Move
moves_in o = elim o [ Some w ↦ w.moves.items | None ↦ [] ]

pub work_at : (parts : Parts) → AreMade parts → (event : ℕ) → event < length (program_in parts).events → (w : Work) × (slice_get parts.works.now event ≡ Some w)
work_at parts made event inside = item_at parts.works.now event (let number = made.works.number in omega (arith, number, inside))

pub cells_at : (parts : Parts) (spread : Spread) (source : ℕ → Source) (event : ℕ) (w : Work) → slice_get parts.works.now event ≡ Some w
    → (makings_of parts spread source).cells event ≡ w.cells
cells_at parts spread source event w found = ap cells_in found

-- Each event's work does what it is to.
does_event : (parts : Parts) (spread : Spread) (source : ℕ → Source) (event : ℕ) (w : Work) → slice_get parts.works.now event ≡ Some w
    → IsWorkFor (program_in parts) parts.places.now.need event w → DoesEvent (makings_of parts spread source) event
does_event parts spread source event w found its = record {
  ops = its.ops;
  works = its.works;
  code = subst (λ (o : Option Work). DoesInOrder its.ops.ops parts.places.now.need (Known 0) (bank_in o) (items_in o)) (sym found) its.is_work.code;
  moves = ap moves_in found ∙ its.is_work.moves;
  cells = ap cells_in found ∙ its.is_work.cells;
}

pub is_made : (parts : Parts) → AreMade parts → (spread : Spread) (source : ℕ → Source) → AreSources (program_in parts) source
    → spread.banks ≡ nat_lt 80 (bytes_of parts.places.now.need) → IsMade (makings_of parts spread source)
is_made parts made spread source are banks = record {
  written = parts.c.now.typed.formed;
  passes = checked-passes parts.c.now;
  no_inputs = made.buildable.has_code.no_inputs;
  few = made.buildable.levels_fit;
  sources = are;
  states = made.needs.states;
  frames = made.needs.levels;
  scratch = made.needs.scratch;
  fits = made.buildable.ram_fits;
  banks = banks;
  events = λ event inside. let w = work_at parts made event inside in does_event parts spread source event w.0 w.1 (made.works.each event w.0 w.1);
}

-- What the window of an event moves are registers that exist.
general_below : (address : ℕ) → is_general address ≡ true → address < 512
general_below address general = grind (arith, nat_tests)

move_named : (f : Makings) → AreMakings f → (move : Move) → IsMoveIn f move → MoveNamed move
move_named f are move its =
    let placed : (cell : ℕ) → cell < bytes_of f.need → address_of f.need cell < 512 =
    λ cell less. general_below (address_of f.need cell) (addresses-general f.need are.bytes cell less) in
    let cell = its.from.0 in
    let inside = its.from.1 in (
      subst IsPlace (sym its.from.2) (placed cell (omega (arith, inside))),
      elim its.to as (λ _. IsPlace move.to) [
        | inl state ↦ (let less = state.1 in let states = are.states in subst IsPlace (sym state.2) (placed state.0 (omega (arith, less, states))))
        | inr output ↦ (let small = small-port output.1.port output.2 output.4 in subst IsPlace (sym output.5) (omega (arith, small)))
      ],
    )

can_run : (f : Makings) → AreMakings f → (event : ℕ) (w : Work) → w.coded.code.items ≡ f.work event → w.moves.items ≡ f.moves event → IsWorkIn f event → CanRun w
can_run f are event w items moves its = record {
  instructions = subst (AllByRecursion IsInstruction) (sym items) its.instructions;
  moves = subst (AllByRecursion MoveNamed) (sym moves) (all_mapped (IsMoveIn f) MoveNamed (move_named f are) (f.moves event) its.moves);
}

-- How far firmware is spread that fits into one page.
abbrev one_page : Parts → Spread
one_page parts = record { banks = nat_lt 80 (bytes_of parts.places.now.need); pages = false }

pub are_parts : (parts : Parts) → AreMade parts → AreParts parts
are_parts parts made =
    let f = makings_of parts (one_page parts) (source_in parts) in
    let makings = is_making f (is_made parts made (one_page parts) (source_in parts) (sources_are parts made) refl) in
    record {
      levels = made.levels;
      placed = let states = made.needs.states in omega (arith, states);
      frames = let count = made.levels.count in let levels = made.needs.levels in omega (arith, count, levels);
      events = made.works.number ∙ sym made.levels.events;
      works = all-from CanRun parts.works.now
          (λ event w found.
          let number = made.works.number in
          let inside = slice_get_within parts.works.now event w found in
          can_run f makings event w (sym (ap items_in found)) (sym (ap moves_in found)) (makings.works event (omega (arith, number, inside))));
    }
