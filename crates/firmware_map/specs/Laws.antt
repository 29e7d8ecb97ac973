-- What the laws of `laws.rt` promise of a map.
use Rattle.std.specs.Prelude.{◌≡◌, ℕ, ◌+◌, ◌<◌, ◌≤◌, ◌^◌, ◌⊎◌, true, false, [], map, length, slice_get, Some, IsTrue}
use Rattle.std.specs.List.{AllByRecursion}
use Rattle.std.specs.Option.{ForSome}
use Rattle.text_parts.specs.Names.{is_name}
use Rattle.frp_tree.specs.declared.syntax.Event.{Event}
use Rattle.frp_tree.specs.declared.syntax.Setup.{Setup}
use Rattle.frp_tree.specs.Tree.{DeclTree, OutputTree, ProgramTree}
use Rattle.efrp_meaning.specs.Decls.{inputs_of, reactive_decls}
use Rattle.efrp_types.specs.Laws.{IsWellFormed}
use Rattle.efrp_types.specs.Numbers.{event_source}
use Rattle.efrp_types.specs.Passes.{IsChecked}
use Rattle.pic_isa.specs.declared.sources.Source.{Source}
use Rattle.pic_isa.specs.Names.{port_at, register_at}
use Rattle.pic_isa.specs.Sources.{enable_of, flag_of, source_name}
use Rattle.pic_regs.specs.declared.places.Place.{Place}
use Rattle.pic_regs.specs.declared.places.Place.TheVariants as place
use Rattle.pic_regs.specs.Bytes.{bits, zeros}
use Rattle.pic_regs.specs.Map.{within}
use Rattle.map_file.specs.declared.maps.Map.{Map}
use Rattle.map_file.specs.MapRules.{AllDiffer, IsMap, pair}
use Rattle.bank_alloc.specs.declared.needs.Needs.{Needs}
use Rattle.bank_alloc.specs.Addresses.{address_of}
use Rattle.bank_alloc.specs.Needs.{bytes_of}
use Rattle.priority_masks.specs.Levels.{AreLevelsOf, HasEnablesIn}
use Rattle.glue_parts.specs.declared.kept.TheConstants.{SAVED_PCLATH, SAVED_STATUS}
use Rattle.glue_parts.specs.Kept.{frame_cell}
use Rattle.scratch_commit.specs.declared.frames.Frame.{Frame}
use Rattle.scratch_commit.specs.declared.runs.Run.{Run}
use Rattle.scratch_commit.specs.Frames.{is_in_frame}
use Rattle.scratch_commit.specs.Plans.{IsFrameOf, IsRun}
use Rattle.firmware_promises.specs.MapNames.{is_listed}
use Rattle.firmware_promises.specs.Firmware.{ListsRightly, event_of, is_banked, sample_pairs, state_addresses, typed_decl, typed_state}
use Rattle.firmware_map.specs.Written.{Used}
use Rattle.firmware_map.specs.Maps.{HasCells, IsMapOf, Made}

-- A place of a frame: 71h or 72h, where a taking saves, or a byte of the frame of a level.
abbrev pub IsFramePlace : Needs → Place → Type 0
IsFramePlace need at =
    (at ≡ SAVED_STATUS)
    ⊎ ((at ≡ SAVED_PCLATH)
    ⊎ ((level : ℕ) × (byte : ℕ) × (1 ≤ level) × (level ≤ need.levels) × (byte < 6) × (at ≡ place.Plain (address_of need (frame_cell need level byte)))))

pub record IsFrame (need : Needs) (f : Frame) : Type 0 where
  pub status : ForSome f.status (IsFramePlace need)
  pub pclath : ForSome f.pclath (IsFramePlace need)
  pub intcon : ForSome f.intcon (IsFramePlace need)
  pub pie1 : ForSome f.pie1 (IsFramePlace need)
  pub pie2 : ForSome f.pie2 (IsFramePlace need)

-- What firmware uses fits the chip: all bytes have addresses, the cells are placed, and so are the frames.
pub record IsPlaced (p : ProgramTree) (u : Used) : Type 0 where
  pub fits : bytes_of u.need ≤ 352
  pub cells : HasCells p u
  pub frames : AllByRecursion (IsFrame u.need) u.frames

-- The map lists only what firmware may write, each register by its lowest address.
abbrev pub MapListsRightly : ProgramTree → Used → Made → Map → Type 0
MapListsRightly p u made m = IsPlaced p u → IsMapOf p u made m → ListsRightly p m

-- The map's events, states, outputs and samples are the program's. The states' bytes are distinct banked bytes, and are listed.
pub record NamesItems (p : ProgramTree) (m : Map) : Type 0 where
  pub events : map event_of m.events ≡ p.events
  pub states : map typed_state m.states ≡ map typed_decl (reactive_decls p)
  pub outputs : map (λ port. Some port) m.outputs ≡ map (λ o. port_at o.port) p.outputs
  pub samples : map pair m.samples ≡ sample_pairs p
  pub states_differ : AllDiffer (λ (a : ℕ). a) (state_addresses m)
  pub states_are_general : AllByRecursion (λ a. IsTrue (is_banked a)) (state_addresses m)
  pub states_are_listed : AllByRecursion (λ a. IsTrue (is_listed m a)) (state_addresses m)

abbrev pub MapNamesItems : ProgramTree → Used → Made → Map → Type 0
MapNamesItems p u made m = inputs_of p ≡ [] → IsPlaced p u → IsMapOf p u made m → NamesItems p m

-- No more banked bytes are reported than are placed.
abbrev pub MapReportsFew : ProgramTree → Used → Made → Map → Type 0
MapReportsFew p u made m = IsPlaced p u → IsMapOf p u made m → m.ram ≤ bytes_of u.need

-- Events and definitions have names, as they have in each program that a text spells.
pub record HasNames (p : ProgramTree) : Type 0 where
  pub events : AllByRecursion (λ (e : Event). IsTrue (is_name e.name)) p.events
  pub decls : AllByRecursion (λ (d : DeclTree). IsTrue (is_name d.name)) p.decls

-- What was made of the code fits a map: code addresses are below 2000h, there are at most 8,192 words, and the depth is at most 8.
pub record FitsMap (made : Made) : Type 0 where
  pub marks : (m : ℕ) → made.marks m < 0x2000
  pub words : made.words ≤ 8192
  pub depth : made.depth ≤ 8
  pub settle : made.settle < 2 ^ 32

-- The map of a program that passes the checks keeps the rules of maps.
abbrev pub MapKeepsRules : ProgramTree → Used → Made → Map → Type 0
MapKeepsRules p u made m =
    IsWellFormed p → IsChecked p → HasNames p → FitsMap made → IsPlaced p u → IsMapOf p u made m → IsMap m

-- The source of the event with this number.
abbrev pub HasSource : ProgramTree → ℕ → Source → Type 0
HasSource p event source = (event < length p.events) × (event_source p event ≡ source_name source)

-- Each register that firmware's parts write is listed: common ones; the bytes of frames, cells and setups; the registers of flags and
-- enables; the ports of outputs. Where PIE1 or PIE2 isn't listed, no enable is there, so that its byte is 0 at each level.
pub record ListsWritten (p : ProgramTree) (u : Used) (m : Map) : Type 0 where
  pub status : is_listed m 0x003 ≡ true
  pub intcon : is_listed m 0x00B ≡ true
  pub pclath : u.pages ≡ true → is_listed m 0x00A ≡ true
  pub common : (a : ℕ) → within 0x071 0x07F a ≡ true → is_listed m a ≡ true
  pub cells : (cell : ℕ) → cell < u.cells → is_listed m (address_of u.need cell) ≡ true
  pub frames : (n : ℕ) (f : Frame) (a : ℕ) → slice_get u.frames n ≡ Some f → is_in_frame f a ≡ true → is_listed m a ≡ true
  pub flags : (event : ℕ) (source : Source) → HasSource p event source → is_listed m (flag_of source).address ≡ true
  pub enables : (event : ℕ) (source : Source) → HasSource p event source → is_listed m (enable_of source).address ≡ true
  pub outputs : (n : ℕ) (o : OutputTree) (port : ℕ) → slice_get p.outputs n ≡ Some o → port_at o.port ≡ Some port → is_listed m (5 + port) ≡ true
  pub setups : (n : ℕ) (s : Setup) (a : ℕ) → slice_get p.setups n ≡ Some s → register_at s.register ≡ Some a → is_listed m a ≡ true
  pub pie1 : is_listed m 0x08C ≡ false → (level byte : ℕ) → HasEnablesIn p level 0x08C byte → bits byte ≡ zeros
  pub pie2 : is_listed m 0x08D ≡ false → (level byte : ℕ) → HasEnablesIn p level 0x08D byte → bits byte ≡ zeros

abbrev pub MapListsWritten : ProgramTree → Used → Made → Map → Type 0
MapListsWritten p u made m = IsPlaced p u → IsMapOf p u made m → ListsWritten p u m

-- The frame of a run, whose event's level is one that is placed, is such a frame.
abbrev pub FrameIsPlaced : ProgramTree → Run → Frame → Type 0
FrameIsPlaced p run f = IsRun run → AreLevelsOf p run.levels.now → IsFrameOf p run f → IsFrame run.places.now.need f
