-- What firmware is made of where it is compiled.
use Rattle.std.specs.Prelude.{◌≡◌, ℕ, ◌≤◌, slice_get, Some, None, [], length}
use Rattle.std.specs.List.{AllByRecursion}
use Rattle.frp_tree.specs.Tree.{ProgramTree, program_tree_of}
use Rattle.efrp_meaning.specs.Bounds.{state_bytes}
use Rattle.pic_isa.specs.declared.sources.Source.{Source}
use Rattle.priority_masks.specs.Levels.{AreLevelsOf}
use Rattle.code_steps.specs.declared.banks.Bank.TheVariants.{Known}
use Rattle.glue_parts.specs.declared.spread.Spread.{Spread}
use Rattle.scratch_commit.specs.declared.runs.Run.{Run}
use Rattle.scratch_commit.specs.Plans.{IsInstruction}
use Rattle.scratch_commit.specs.Windows.{MoveNamed}
use Rattle.event_code.specs.declared.works.Work.{Work}
use Rattle.firmware_layout.specs.declared.code.Parts.{Parts}
use Rattle.firmware_layout.specs.Pieces.{Makings, kind_of}

-- The program.
abbrev pub program_in : Parts → ProgramTree
program_in parts = program_tree_of parts.c.now.typed.program

-- The parts as what firmware is made of, with these sources of events. Numbers of no event have no work.
abbrev pub makings_of : Parts → Spread → (ℕ → Source) → Makings
makings_of parts spread source = record {
  p = program_in parts;
  need = parts.places.now.need;
  spread = spread;
  source = source;
  work = λ event. elim (slice_get parts.works.now event) [ Some w ↦ w.coded.code.items | None ↦ [] ];
  bank = λ event. elim (slice_get parts.works.now event) [ Some w ↦ w.coded.bank | None ↦ Known 0 ];
  cells = λ event. elim (slice_get parts.works.now event) [ Some w ↦ w.cells | None ↦ 0 ];
  moves = λ event. elim (slice_get parts.works.now event) [ Some w ↦ w.moves.items | None ↦ [] ];
}

-- The work of an event is instructions, and its moves name registers that exist.
pub record CanRun (w : Work) : Type 0 where
  pub instructions : AllByRecursion IsInstruction w.coded.code.items
  pub moves : AllByRecursion MoveNamed w.moves.items

-- The levels are the program's, the bytes of its states are placed, and a frame for each level; and each event has a work.
pub record AreParts (parts : Parts) : Type 0 where
  pub levels : AreLevelsOf (program_in parts) parts.levels.now
  pub placed : state_bytes (program_in parts) ≤ parts.places.now.need.states
  pub frames : parts.levels.now.count ≤ parts.places.now.need.levels
  pub events : length parts.works.now ≡ parts.levels.now.events
  pub works : AllByRecursion CanRun parts.works.now

-- A run is that of an event, but for its source.
pub record IsRunFor (f : Makings) (event : ℕ) (run : Run) : Type 0 where
  pub event_is : run.event ≡ event
  pub kind : run.kind ≡ kind_of f event
  pub need : run.places.now.need ≡ f.need
  pub spread : run.spread ≡ f.spread
  pub work : run.work.now.code.items ≡ f.work event
  pub bank : run.work.now.bank ≡ f.bank event
  pub moves : run.moves.now ≡ f.moves event
