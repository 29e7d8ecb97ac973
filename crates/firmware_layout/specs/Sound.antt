-- What is to be known of what firmware is made of, of program memory, and of the map.
use Rattle.std.specs.Prelude.{◌≡◌, ℕ, ◌+◌, ◌<◌, ◌≤◌, ◌⊎◌, true, false, [], map, length, slice_get, Some}
use Rattle.std.specs.List.{AllByRecursion}
use Rattle.frp_tree.specs.declared.syntax.Setup.{Setup}
use Rattle.frp_tree.specs.Tree.{OutputTree}
use Rattle.efrp_meaning.specs.Bounds.{levels, settle_bound, state_bytes}
use Rattle.efrp_meaning.specs.Decls.{inputs_of}
use Rattle.efrp_types.specs.Laws.{IsWellFormed}
use Rattle.efrp_types.specs.Passes.{Passes}
use Rattle.pic_isa.specs.Names.{port_at, register_at}
use Rattle.pic_isa.specs.Sources.{flag_of}
use Rattle.pic_regs.specs.declared.places.Place.{Place}
use Rattle.pic_regs.specs.declared.places.Place.TheVariants.{Plain, Port}
use Rattle.pic_regs.specs.Bytes.{bits, zeros}
use Rattle.pic_regs.specs.Map.{within}
use Rattle.map_file.specs.declared.maps.MapEvent.{MapEvent}
use Rattle.map_file.specs.declared.maps.Map.{Map}
use Rattle.bank_alloc.specs.Addresses.{address_of}
use Rattle.bank_alloc.specs.Needs.{bytes_of}
use Rattle.priority_masks.specs.Levels.{HasEnablesIn}
use Rattle.code_items.specs.Items.{ends_skipping, has_pages, words_in}
use Rattle.code_items.specs.Lines.{Stands}
use Rattle.glue_parts.specs.declared.moves.Move.{Move}
use Rattle.glue_parts.specs.Marks.{mark, Committing, Opening, Ready}
use Rattle.firmware_promises.specs.Firmware.{event_of}
use Rattle.firmware_promises.specs.MapNames.{is_listed}
use Rattle.scratch_commit.specs.Frames.{is_in_frame}
use Rattle.scratch_commit.specs.Plans.{IsInstruction, frame_in}
use Rattle.isr_vector.specs.Taking.{AreSources}
use Rattle.event_code.specs.States.{states_of}
use Rattle.firmware_layout.specs.Pieces.{Makings, items_of, plan_in}

-- A register is that of a cell below some number; or the port of one of the program's outputs.
abbrev pub IsCellBelow : Makings → (count : ℕ) → Place → Type 0
IsCellBelow f count at = (cell : ℕ) × (cell < count) × (at ≡ Plain (address_of f.need cell))

abbrev pub IsOutput : Makings → Place → Type 0
IsOutput f at = (n : ℕ) × (o : OutputTree) × (port : ℕ) × (slice_get f.p.outputs n ≡ Some o) × (port_at o.port ≡ Some port) × (at ≡ Port port)

-- A byte is moved from a cell of states or scratch to one of the program's states, or to an output.
pub record IsMoveIn (f : Makings) (move : Move) : Type 0 where
  pub from : IsCellBelow f (f.need.states + f.need.scratch) move.from
  pub to : IsCellBelow f (state_bytes f.p) move.to ⊎ IsOutput f move.to

-- The work of an event is instructions, of which the last skips nothing; its cells are placed; and so is what its window moves.
pub record IsWorkIn (f : Makings) (event : ℕ) : Type 0 where
  pub instructions : AllByRecursion IsInstruction (f.work event)
  pub last : ends_skipping false (f.work event) ≡ false
  pub cells : f.cells event ≤ f.need.states + f.need.scratch
  pub moves : AllByRecursion (IsMoveIn f) (f.moves event)

-- A program that passes the checks, without inputs and with at most 8 levels; its sources; the bytes of its states and of a frame
-- for each level have places; and so has what its events work on.
pub record AreMakings (f : Makings) : Type 0 where
  pub written : IsWellFormed f.p
  pub passes : Passes f.p
  pub no_inputs : inputs_of f.p ≡ []
  pub few : levels f.p ≤ 8
  pub sources : AreSources f.p f.source
  pub bytes : bytes_of f.need ≤ 352
  pub states : state_bytes f.p ≤ f.need.states
  pub frames : levels f.p ≤ f.need.levels
  pub works : (event : ℕ) → event < length f.p.events → IsWorkIn f event

-- All its code stands in program memory from address 0 on, with page settings just where it has more than one page.
pub record IsCodeIn (f : Makings) (program marks : ℕ → ℕ) : Type 0 where
  pub stop : ℕ
  pub stands : Stands f.spread.pages program marks 0 (items_of f) stop
  pub pages : f.spread.pages ≡ has_pages (items_of f)
  pub fits : words_in f.spread.pages (items_of f) ≤ 8192

-- What of the registers that parts write is listed. Where PIE1 or PIE2 isn't listed, no enable is there.
pub record ListsWritten (f : Makings) (m : Map) : Type 0 where
  pub status : is_listed m 0x003 ≡ true
  pub intcon : is_listed m 0x00B ≡ true
  pub pclath : f.spread.pages ≡ true → is_listed m 0x00A ≡ true
  pub common : (address : ℕ) → within 0x071 0x07F address ≡ true → is_listed m address ≡ true
  pub states : (cell : ℕ) → cell < state_bytes f.p → is_listed m (address_of f.need cell) ≡ true
  pub cells : (event cell : ℕ) → event < length f.p.events → cell < f.cells event → is_listed m (address_of f.need cell) ≡ true
  pub frames : (event address : ℕ) → event < length f.p.events → is_in_frame (frame_in (plan_in f event)) address ≡ true → is_listed m address ≡ true
  pub flags : (event : ℕ) → event < length f.p.events → is_listed m (flag_of (f.source event)).address ≡ true
  pub outputs : (n : ℕ) (o : OutputTree) (port : ℕ) → slice_get f.p.outputs n ≡ Some o → port_at o.port ≡ Some port → is_listed m (5 + port) ≡ true
  pub setups : (n : ℕ) (s : Setup) (address : ℕ) → slice_get f.p.setups n ≡ Some s → register_at s.register ≡ Some address → is_listed m address ≡ true
  pub pie1 : is_listed m 0x08C ≡ false → (level byte : ℕ) → HasEnablesIn f.p level 0x08C byte → bits byte ≡ zeros
  pub pie2 : is_listed m 0x08D ≡ false → (level byte : ℕ) → HasEnablesIn f.p level 0x08D byte → bits byte ≡ zeros

-- The map names the program's events and where their windows open and commit, the ready address and the states; it reports no less
-- than is needed; and it lists what parts write.
pub record IsMapIn (f : Makings) (marks : ℕ → ℕ) (m : Map) : Type 0 where
  pub events : map event_of m.events ≡ f.p.events
  pub opens : (n : ℕ) (e : MapEvent) → slice_get m.events n ≡ Some e → e.«open» ≡ marks (mark (Opening n))
  pub commits : (n : ℕ) (e : MapEvent) → slice_get m.events n ≡ Some e → e.commit ≡ marks (mark (Committing n))
  pub ready : m.ready ≡ marks (mark Ready)
  pub states : m.states ≡ states_of f.need f.p
  pub depth : levels f.p ≤ m.depth
  pub settle : settle_bound f.p ≤ m.settle
  pub lists : ListsWritten f m
