-- How the code of firmware is arranged: which places and registers are whose, who hears whom, and what is to be read off memory.
use Rattle.std.specs.Prelude.{◌≡◌, ℕ, ◌+◌, ◌<◌, ◌≤◌, ◌↔◌, ◌⊎◌, ◌==◌, Bool, true, false, ◌&&◌, ◌||◌, List, [], Some}
use Rattle.frp_tree.specs.Tree.{ProgramTree}
use Rattle.efrp_meaning.specs.Decls.{inputs_of}
use Rattle.efrp_meaning.specs.Meaning.{Reaction, react, initial_state}
use Rattle.efrp_meaning.specs.States.{IsState}
use Rattle.pic_isa.specs.declared.sources.Source.{Source}
use Rattle.pic_isa.specs.Sources.{flag_of}
use Rattle.pic_regs.specs.Bytes.{Byte, bits, bit}
use Rattle.pic_regs.specs.Map.{within}
use Rattle.pic_regs.specs.Registers.{bit_of}
use Rattle.pic_machine.specs.Chip.{Chip}
use Rattle.map_file.specs.declared.maps.MapEvent.{MapEvent}
use Rattle.map_file.specs.declared.maps.Map.{Map}
use Rattle.firmware_promises.specs.MapNames.{states_in, is_listed}
use Rattle.firmware_promises.specs.Setups.{last_setup}
use Rattle.firmware_promises.specs.Urgent.{is_in_intcon}
use Rattle.priority_masks.specs.declared.tables.Enables.{Enables}
use Rattle.timed_core.specs.Timing.{Timing}
use Rattle.core_story.specs.Values.{item, name_at}
use Rattle.core_story.specs.Interface.{Fitted}
use Rattle.firmware_parts.specs.Layout.{Layout, Part}
use Rattle.firmware_parts.specs.Layout.Part.{Boot, Taking, Start, Begin, Work, Lock, Open, Copying, Commit, Exit}

-- The parts that code has: those that are common, and of the run of each event all, but that a short run has no work with interrupts
-- on, and nothing on the way to it.
abbrev pub IsPart : Layout → Part → Type 0
IsPart l Boot = Unit {0}
IsPart l Taking = Unit {0}
IsPart l (Start e) = 0 < l.level e
IsPart l (Begin e) = (0 < l.level e) × (l.is_short e ≡ false)
IsPart l (Work e) = (0 < l.level e) × (l.is_short e ≡ false)
IsPart l (Lock e) = (0 < l.level e) × (l.is_short e ≡ false)
IsPart l (Open e) = 0 < l.level e
IsPart l (Copying e) = 0 < l.level e
IsPart l (Commit e) = 0 < l.level e
IsPart l (Exit e) = 0 < l.level e

-- An event of the map is the layout's event with its number.
pub record IsEventOf (l : Layout) (x : ℕ) (e : MapEvent) : Type 0 where
  pub real : 0 < l.level x
  pub source : l.source x ≡ e.source
  pub opens : l.opens x ≡ e.«open»
  pub commits : l.commits x ≡ e.commit

-- The levels of the layout order the events as those of the timing do, and are 8 at most. A run with interrupts off throughout, or
-- whose lock makes no test, is of the highest level; one above another tells it that it has committed. Sources differ.
pub record LevelsAgree (t : Timing) (l : Layout) : Type 0 where
  pub few : (x : ℕ) → l.level x ≤ 8
  pub rise : (x y : ℕ) → (l.level x < l.level y) ↔ (t.level x < t.level y)
  pub real : (x : ℕ) → (0 < l.level x) ↔ (0 < t.level x)
  pub short : (e : ℕ) → 0 < l.level e → l.is_short e ≡ true → (t.short ≡ true) × ((x : ℕ) → l.level x ≤ l.level e)
  pub unlocked : (e : ℕ) → 0 < l.level e → l.is_locked e ≡ false → (x : ℕ) → l.level x ≤ l.level e
  pub telling : (e beneath : ℕ) → 0 < l.level beneath → l.level beneath < l.level e → l.is_telling e ≡ true
  pub sources : (x y : ℕ) → 0 < l.level x → 0 < l.level y → l.source x ≡ l.source y → x ≡ y

-- Level 0, and those of events.
abbrev pub IsLevel : Layout → ℕ → Type 0
IsLevel l level = (level ≡ 0) ⊎ ((e : ℕ) × (l.level e ≡ level))

-- With these enables a source is heard: its own is set, and PEIE where it stands in PIE1 or PIE2.
abbrev pub is_heard_by : Enables → Source → Bool
is_heard_by e source = bit_of source (bit 5 (bits e.intcon)) (bit 4 (bits e.intcon)) (bits e.pie1) (bits e.pie2) && (is_in_intcon source || bit 6 (bits e.intcon))

-- At a level exactly the sources of the events above it are heard.
pub record EnablesAgree (l : Layout) : Type 0 where
  pub heard : (level x : ℕ) → IsLevel l level → level < l.level x → is_heard_by (l.enables level) (l.source x) ≡ true
  pub only : (level : ℕ) (source : Source) → IsLevel l level → is_heard_by (l.enables level) source ≡ true → (x : ℕ) × (l.source x ≡ source) × (level < l.level x)

-- A place at which one part alone runs a step, which isn't RETFIE.
pub record StandsAlone (l : Layout) (part : Part) (place : ℕ) : Type 0 where
  pub only : (other : Part) → IsPart l other → l.inside other place ≡ true → other ≡ part
  pub not_ready : place ≡ l.ready → ⊥
  pub not_boot_end : place ≡ l.boot_end → ⊥
  pub not_clear : (e : ℕ) → 0 < l.level e → place ≡ l.clear e → ⊥
  pub not_on : (e : ℕ) → 0 < l.level e → l.is_short e ≡ false → place ≡ l.on e → ⊥
  pub not_lock : (e : ℕ) → 0 < l.level e → l.is_short e ≡ false → place ≡ l.lock e → ⊥
  pub no_return : (l.program place == 0x0009) ≡ false

-- The opens and commits are such places, and those of the map; so is the ready address. The boot is elsewhere.
pub record PlacesAgree (m : Map) (l : Layout) : Type 0 where
  pub events : (x : ℕ) (e : MapEvent) → item m.events x ≡ Some e → IsEventOf l x e
  pub ready : l.ready ≡ m.ready
  pub opens : (x : ℕ) → 0 < l.level x → StandsAlone l (Open x) (l.opens x)
  pub commits : (x : ℕ) → 0 < l.level x → StandsAlone l (Commit x) (l.commits x)
  pub boot_misses_ready : l.inside Boot l.ready ≡ false
  pub boot_end_is_before : l.boot_end ≡ l.ready → ⊥

-- A memory comes from another by what a part may write.
abbrev pub WrittenBy : Layout → Part → (before after : ℕ → Byte) → Type 0
WrittenBy l part before after = (address : ℕ) → (after address ≡ before address) ⊎ (l.may part address ≡ true)

abbrev pub is_boot_part : Part → Bool
is_boot_part Boot = true
is_boot_part _ = false

-- Parts that write no state: all but the boot, the open, the copies and the commit.
abbrev pub leaves_states : Part → Bool
leaves_states Boot = false
leaves_states (Open e) = false
leaves_states (Copying e) = false
leaves_states (Commit e) = false
leaves_states _ = true

-- Parts that change no enables: all but the boot, the start and the exit.
abbrev pub leaves_enables : Part → Bool
leaves_enables Boot = false
leaves_enables (Start e) = false
leaves_enables (Exit e) = false
leaves_enables _ = true

-- Parts that leave 73h, where runs are told of commits: all but the boot, the beginning and the commit.
abbrev pub leaves_told : Part → Bool
leaves_told Boot = false
leaves_told (Begin e) = false
leaves_told (Commit e) = false
leaves_told _ = true

-- The parts of a window, which leave PCLATH.
abbrev pub leaves_page : Part → Bool
leaves_page (Open e) = true
leaves_page (Copying e) = true
leaves_page (Commit e) = true
leaves_page _ = false

-- A part leaves the frame of an event: a taking those that may be interrupted, the start and the exit of a run those of lower levels,
-- all else of a run its own too.
abbrev pub Spares : Layout → Part → ℕ → Type 0
Spares l Boot x = ⊥
Spares l Taking x = (e : ℕ) × (l.level x < l.level e)
Spares l (Start e) x = l.level x < l.level e
Spares l (Exit e) x = l.level x < l.level e
Spares l (Begin e) x = l.level x ≤ l.level e
Spares l (Work e) x = l.level x ≤ l.level e
Spares l (Lock e) x = l.level x ≤ l.level e
Spares l (Open e) x = l.level x ≤ l.level e
Spares l (Copying e) x = l.level x ≤ l.level e
Spares l (Commit e) x = l.level x ≤ l.level e

-- What parts may write. Registers that are set up, but for ports, are the boot's alone; each that is written is listed.
pub record WritesAgree (p : ProgramTree) (m : Map) (l : Layout) : Type 0 where
  pub states : (part : Part) → IsPart l part → leaves_states part ≡ true → (before after : ℕ → Byte) → WrittenBy l part before after → l.states after ≡ l.states before
  pub next : (e : ℕ) → IsPart l (Lock e) → (before after : ℕ → Byte) → WrittenBy l (Lock e) before after → l.next_of e after ≡ l.next_of e before
  pub puts : (e : ℕ) → IsPart l (Lock e) → (before after : ℕ → Byte) → WrittenBy l (Lock e) before after → l.puts_of e after ≡ l.puts_of e before
  pub frames : (part : Part) (x address : ℕ) → IsPart l part → 0 < l.level x → Spares l part x → l.frame x address ≡ true → l.may part address ≡ false
  pub enables : (part : Part) → IsPart l part → leaves_enables part ≡ true → (l.may part 0x00B ≡ false) × (l.may part 0x08C ≡ false) × (l.may part 0x08D ≡ false)
  pub told : (part : Part) → IsPart l part → leaves_told part ≡ true → l.may part 0x073 ≡ false
  pub page : (part : Part) → IsPart l part → leaves_page part ≡ true → l.may part 0x00A ≡ false
  pub set_up : (a byte : ℕ) → within 5 9 a ≡ false → last_setup p.setups a ≡ Some byte → (part : Part) → IsPart l part → is_boot_part part ≡ false → l.may part a ≡ false
  pub listed : (part : Part) (address : ℕ) → IsPart l part → l.may part address ≡ true → is_listed m address ≡ true
  pub status_listed : is_listed m 0x003 ≡ true
  pub intcon_listed : is_listed m 0x00B ≡ true
  pub flags_listed : (e : ℕ) → 0 < l.level e → is_listed m (flag_of (l.source e)).address ≡ true

-- The program, which has no inputs: its first state, and that reactions lead from states to states.
pub record StatesAgree (p : ProgramTree) (m : Map) (l : Layout) (initial : List ℕ) : Type 0 where
  pub no_inputs : inputs_of p ≡ []
  pub begins : initial_state p ≡ Some initial
  pub first : IsState p initial
  pub reacts : (e : ℕ) (s : List ℕ) (r : Reaction) → 0 < l.level e → IsState p s → react p s [] (name_at m e) ≡ Some r → IsState p r.state
  pub read : (c : Chip) → states_in m c ≡ l.states c.regs.plain

-- All that is needed of a layout beside what its code does. `booting` bounds the steps of the boot, `dispatching` those from a taking
-- to the start of a run, `starting` those from there to the clearing of the flag.
pub record Arranged (p : ProgramTree) (m : Map) (t : Timing) (l : Layout) (initial : List ℕ) (booting dispatching starting : ℕ) : Type 0 where
  pub fitted : Fitted p m t
  pub levels : LevelsAgree t l
  pub enables : EnablesAgree l
  pub places : PlacesAgree m l
  pub writes : WritesAgree p m l
  pub states : StatesAgree p m l initial
  pub boots_in_time : booting ≤ t.boot
  pub starts_in_time : dispatching + starting ≤ t.choose
