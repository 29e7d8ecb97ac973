-- The level of an event, and the enables of the events above a level.
use Rattle.std.specs.Prelude.{◌≡◌, ℕ, ◌<◌, ◌↔◌, nat_le, List, length, map, filter, take, slice_index, slice_index_or}
use Rattle.std.specs.Int.{bit_at}
use Rattle.frp_tree.specs.declared.syntax.Event.{Event}
use Rattle.frp_tree.specs.Tree.{ProgramTree}
use Rattle.pic_isa.specs.declared.sources.Source.{Source}
use Rattle.pic_isa.specs.declared.sources.Source.TheVariants.{T0}
use Rattle.pic_isa.specs.Sources.{at, enable_of, source_name}
use Rattle.efrp_meaning.specs.Bounds.{distinct, levels}
use Rattle.efrp_types.specs.Numbers.{event_source}
use Rattle.priority_masks.specs.declared.tables.Enables.{Enables}
use Rattle.priority_masks.specs.declared.tables.Levels.{Levels}

-- The priorities of the events, in declaration order.
abbrev pub priorities_of : ProgramTree → List ℕ
priorities_of p = map (λ (e : Event). e.priority) p.events

-- The priority of the event with this number.
abbrev pub priority_of : ProgramTree → ℕ → ℕ
priority_of p event = slice_index (priorities_of p) event

-- The level of the event with this number: how many distinct priorities are at most its own.
abbrev pub level_of : ProgramTree → ℕ → ℕ
level_of p event = distinct (filter (λ n. nat_le n (priority_of p event)) (priorities_of p))

-- An event of this source has a level above this one.
abbrev pub IsAbove : ProgramTree → ℕ → Source → Type 0
IsAbove p level source = (event : ℕ) × (event < length p.events) × (event_source p event ≡ source_name source) × (level < level_of p event)

-- A bit of the byte of the register at this address is set exactly where it is the enable of a source with an event above the level.
abbrev pub HasEnablesIn : ProgramTree → ℕ → ℕ → ℕ → Type 0
HasEnablesIn p level register byte = (bit : ℕ) → (bit_at byte bit ≡ 1) ↔ ((source : Source) × (enable_of source ≡ at register bit) × IsAbove p level source)

-- So it is of INTCON, PIE1 and PIE2.
pub record HaveEnables (p : ProgramTree) (level : ℕ) (enables : Enables) : Type 0 where
  pub intcon : HasEnablesIn p level 0x00B enables.intcon
  pub pie1 : HasEnablesIn p level 0x08C enables.pie1
  pub pie2 : HasEnablesIn p level 0x08D enables.pie2

-- The levels are those of this program: its events' priorities and sources stand at their numbers.
pub record AreLevelsOf (p : ProgramTree) (l : Levels) : Type 0 where
  pub events : l.events ≡ length p.events
  pub count : l.count ≡ levels p
  pub priorities : take l.events l.priorities ≡ priorities_of p
  pub sources : (event : ℕ) → event < length p.events → event_source p event ≡ source_name (slice_index_or l.sources event T0)
