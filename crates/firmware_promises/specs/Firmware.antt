-- What a map names, reports and lists, and what an image promises in every run: `IsFirmware`.
use Rattle.std.specs.Prelude.{◌≡◌, ℕ, ◌+◌, ◌*◌, ◌<◌, ◌≤◌, ◌==◌, Bool, true, false, ◌&&◌, ◌||◌, zero, suc, List, [], ◌∷◌, ◌++◌, length, map, Option, Some, None, IfSome, IsTrue}
use Rattle.std.specs.List.{flat_map, list_any, AllByRecursion}
use Rattle.frp_tree.specs.declared.syntax.Ty.{Ty}
use Rattle.frp_tree.specs.declared.syntax.Ty.TheVariants as ty
use Rattle.frp_tree.specs.declared.syntax.Event.{Event}
use Rattle.frp_tree.specs.Tree.{DeclTree, ProgramTree}
use Rattle.efrp_meaning.specs.Decls.{reactive_decls}
use Rattle.efrp_meaning.specs.Needs.{inputs_needed}
use Rattle.efrp_meaning.specs.Bounds.{words_bound, ram_bound, settle_bound, levels}
use Rattle.pic_isa.specs.Names.{port_at, register_at}
use Rattle.pic_isa.specs.Sources.{source_name}
use Rattle.pic_isa.specs.declared.sources.Source.{Source}
use Rattle.pic_regs.specs.declared.starts.Start.{Start}
use Rattle.pic_regs.specs.Bytes.{one_if}
use Rattle.pic_regs.specs.Map.{within, canonical}
use Rattle.pic_regs.specs.Start.{IsStart}
use Rattle.pic_machine.specs.Boundary.{Outer}
use Rattle.pic_machine.specs.Run.{Log, outer_of, run}
use Rattle.pic_machine.specs.Dids.{is_stop}
use Rattle.hex_file.specs.declared.images.Image.{Image}
use Rattle.hex_file.specs.Written.{IsWritable, written}
use Rattle.hex_file.specs.ImageOf.{IsImageOf}
use Rattle.map_file.specs.declared.maps.MapEvent.{MapEvent}
use Rattle.map_file.specs.declared.maps.MapSample.{MapSample}
use Rattle.map_file.specs.declared.maps.MapState.{MapState}
use Rattle.map_file.specs.declared.maps.Map.{Map}
use Rattle.map_file.specs.MapRules.{AllDiffer, IsMap, pair}
use Rattle.map_file.specs.MapText.{map_text}
use Rattle.firmware_promises.specs.MapNames.{is_listed}
use Rattle.firmware_promises.specs.Counts.{chip_after}
use Rattle.firmware_promises.specs.Boots.{FlagsStay}
use Rattle.firmware_promises.specs.Follows.{Follows}
use Rattle.firmware_promises.specs.Setups.{SetupsStand}
use Rattle.firmware_promises.specs.Once.{Once}
use Rattle.firmware_promises.specs.Urgent.{Urgent}
use Rattle.firmware_promises.specs.Settled.{Settled}

-- A byte of general RAM outside 70h to 7Fh, by its lowest address, and any byte of general RAM.
abbrev pub is_banked : ℕ → Bool
is_banked address = within 0x020 0x06F address || within 0x0A0 0x0EF address || within 0x110 0x16F address || within 0x190 0x1EF address

abbrev pub is_general : ℕ → Bool
is_general address = is_banked address || within 0x070 0x07F address

-- The code addresses that a map names.
abbrev pub code_addresses : Map → List ℕ
code_addresses m = m.ready ∷ (flat_map (λ e. e.«open» ∷ e.commit ∷ []) m.events ++ map (λ (s : MapSample). s.at) m.samples)

-- The data addresses of the states' bytes.
abbrev pub bytes_of : Ty → ℕ → ℕ → List ℕ
bytes_of ty.Bool low high = low ∷ []
bytes_of ty.U8 low high = low ∷ []
bytes_of ty.U16 low high = low ∷ high ∷ []

abbrev pub state_addresses : Map → List ℕ
state_addresses m = flat_map (λ (s : MapState). bytes_of s.ty s.low s.high) m.states

-- The event that a map's event stands for; a state and a definition by name and type.
abbrev pub event_of : MapEvent → Event
event_of e = record { name = e.name; source = source_name e.source; priority = e.priority }

abbrev pub typed_state : MapState → List ℕ × Ty
typed_state s = (s.name, s.ty)

abbrev pub typed_decl : DeclTree → List ℕ × Ty
typed_decl d = (d.name, d.ty)

-- Each event with each input that it needs, by name, both in declaration order.
abbrev pub sample_pairs : ProgramTree → List (List ℕ × List ℕ)
sample_pairs p = flat_map (λ (e : Event). map (λ input. (e.name, input)) (inputs_needed p e.name)) p.events

-- The map's events, states and outputs are the program's, in declaration order, and its samples are of each event and each
-- input that it needs. The code addresses that it names differ and have words in the image. The states' bytes are distinct
-- bytes of general RAM outside 70h to 7Fh, and are listed.
pub record Names (p : ProgramTree) (image : Image) (m : Map) : Type 0 where
  pub events : map event_of m.events ≡ p.events
  pub states : map typed_state m.states ≡ map typed_decl (reactive_decls p)
  pub outputs : map (λ port. Some port) m.outputs ≡ map (λ o. port_at o.port) p.outputs
  pub samples : map pair m.samples ≡ sample_pairs p
  pub code_differs : AllDiffer (λ (a : ℕ). a) (code_addresses m)
  pub code_is_there : AllByRecursion (λ a. IsTrue (list_any (λ w. w.address == a) image.words)) (code_addresses m)
  pub states_differ : AllDiffer (λ (a : ℕ). a) (state_addresses m)
  pub states_are_general : AllByRecursion (λ a. IsTrue (is_banked a)) (state_addresses m)
  pub states_are_listed : AllByRecursion (λ a. IsTrue (is_listed m a)) (state_addresses m)

-- How many of the addresses below a bound pass a test.
unfoldable pub count_below : ℕ → (ℕ → Bool) → ℕ
count_below zero test = 0
count_below (suc n) test = one_if (test n) + count_below n test

-- What the map reports: the number of the image's words, and that of the listed bytes of general RAM outside 70h to 7Fh, each
-- at most the program's bound; the steps in which it settles, at most theirs; and a depth of at most 8 and of twice the levels.
pub record Reports (p : ProgramTree) (image : Image) (m : Map) : Type 0 where
  pub words : m.words ≡ length image.words
  pub words_bounded : m.words ≤ words_bound p
  pub ram : m.ram ≡ count_below 512 (λ a. is_listed m a && is_banked a)
  pub ram_bounded : m.ram ≤ ram_bound p
  pub settle_bounded : m.settle ≤ settle_bound p
  pub depth_in_range : m.depth ≤ 8
  pub depth_bounded : m.depth ≤ 2 * levels p

-- STATUS, PCLATH, PCL, INTCON, PIR1, PIR2, PIE1 and PIE2, by their lowest addresses.
abbrev pub is_control : ℕ → Bool
is_control a = a == 0x003 || a == 0x00A || a == 0x002 || a == 0x00B || a == 0x00C || a == 0x00D || a == 0x08C || a == 0x08D

-- The address is this one, and that of this port.
abbrev pub is_at : ℕ → Option ℕ → Bool
is_at a None = false
is_at a (Some b) = a == b

abbrev pub is_port_at : ℕ → Option ℕ → Bool
is_port_at a None = false
is_port_at a (Some its_port) = a == 5 + its_port

-- A register that firmware may write: general RAM, one that control depends on, an output's port, or a setup's register.
abbrev pub may_be_written : ProgramTree → ℕ → Bool
may_be_written p a =
    is_general a || is_control a || list_any (λ o. is_port_at a (port_at o.port)) p.outputs || list_any (λ s. is_at a (register_at s.register)) p.setups

-- Each listed address is the lowest of a register that the firmware may write.
abbrev pub ListsRightly : ProgramTree → Map → Type 0
ListsRightly p m = (a : ℕ) → a < 512 → is_listed m a ≡ true → (canonical a ≡ Some a) × (may_be_written p a ≡ true)

-- Over the first n steps the log follows the program and is urgent; what is set up stands, and the boot clears no flag; no
-- step stops, each writes a listed register where it writes one, and the depth is at most the map's. After them each latch
-- has been treated once.
pub record Keeps (p : ProgramTree) (m : Map) (log : Log) (n : ℕ) : Type 0 where
  pub follows : Follows p m log n
  pub setups : SetupsStand p m log n
  pub flags : FlagsStay m log n
  pub once : Once m log n
  pub urgent : Urgent p m log n
  pub goes_on : (k : ℕ) → k < n → is_stop (log k).did ≡ false
  pub listed : (k : ℕ) → k < n → IfSome (log k).wrote (λ a. is_listed m a ≡ true)
  pub depth : (k : ℕ) → k ≤ n → (chip_after log k).depth ≤ m.depth

-- n steps are at least the map's settle, counted from power-on and from each boundary before with an arrival.
abbrev pub IsQuietLongEnough : Map → List Outer → ℕ → Type 0
IsQuietLongEnough m outers n = (m.settle ≤ n) × ((k : ℕ) (source : Source) → k < n → (outer_of outers k).arrivals source ≡ true → k + m.settle ≤ n)

-- What the image promises at every moment of every run: from every start, whatever comes from outside, be it arrivals of any
-- sources, any pins, or interrupts that are late.
abbrev pub AlwaysKeeps : ProgramTree → Image → Map → Type 0
AlwaysKeeps p image m = (start : Start) (outers : List Outer) (n : ℕ) → IsStart start → Keeps p m (run image start outers) n

-- Where no source has arrived for long enough, all have reacted, whatever the pins and however late interrupts are.
abbrev pub AlwaysSettles : ProgramTree → Image → Map → Type 0
AlwaysSettles p image m = (start : Start) (outers : List Outer) (n : ℕ) → IsStart start → IsQuietLongEnough m outers n → Settled m (run image start outers) n

-- The bytes of a HEX file and of a map file are firmware for a program. The first are the written form of the image that they
-- mean, with the configuration word 3F3Ah, and the second the text of a map. The map names what is the program's, reports and
-- lists rightly; and the image keeps its promises and settles.
pub record IsFirmware (p : ProgramTree) (hex text : List ℕ) : Type 0 where
  pub image : Image
  pub firmware_map : Map
  pub means : IsImageOf hex image
  pub writable : IsWritable image
  pub is_written : hex ≡ written image
  pub configured : image.config ≡ Some 0x3F3A
  pub rules : IsMap firmware_map
  pub is_text : text ≡ map_text firmware_map
  pub names : Names p image firmware_map
  pub reports : Reports p image firmware_map
  pub lists : ListsRightly p firmware_map
  pub keeps : AlwaysKeeps p image firmware_map
  pub settles : AlwaysSettles p image firmware_map
