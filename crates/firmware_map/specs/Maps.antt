-- The map of a program's firmware, field by field.
use Rattle.std.specs.Prelude.{◌≡◌, ℕ, ◌≤◌, ◌&&◌, nat_lt, List, [], map, slice_get, get_or, Some}
use Rattle.frp_tree.specs.Tree.{OutputTree, ProgramTree}
use Rattle.efrp_meaning.specs.Bounds.{state_bytes}
use Rattle.pic_isa.specs.Names.{port_at}
use Rattle.map_file.specs.declared.maps.MapEvent.{MapEvent}
use Rattle.map_file.specs.declared.maps.Map.{Map}
use Rattle.map_file.specs.MapRules.{RangesRise}
use Rattle.bank_alloc.specs.Needs.{bytes_of}
use Rattle.glue_parts.specs.Marks.{mark, Committing, Opening, Ready}
use Rattle.event_code.specs.States.{states_of}
use Rattle.firmware_promises.specs.MapNames.{is_listed}
use Rattle.firmware_promises.specs.Firmware.{count_below, event_of, is_banked}
use Rattle.firmware_map.specs.Written.{Used, is_written}

-- The cells that are used are placed, and those of the program's states are among them.
pub record HasCells (p : ProgramTree) (u : Used) : Type 0 where
  pub states : state_bytes p ≤ u.cells
  pub placed : u.cells ≤ bytes_of u.need

-- What has been made of the code: the address of each mark, and how many words there are; and what is reported of it: how deep the
-- return stack gets, and in how many steps all has settled.
pub record Made : Type 0 where
  pub marks : ℕ → ℕ
  pub words : ℕ
  pub depth : ℕ
  pub settle : ℕ

-- The address of each mark by a list, and 0 past its end.
abbrev pub made_of : (marks : List ℕ) → (words depth settle : ℕ) → Made
made_of marks words depth settle = record { marks = λ m. get_or marks m 0; words = words; depth = depth; settle = settle }

-- The events are the program's in declaration order, and each opens and commits at its marks.
pub record AreEvents (p : ProgramTree) (marks : ℕ → ℕ) (events : List MapEvent) : Type 0 where
  pub named : map event_of events ≡ p.events
  pub opens : (n : ℕ) (e : MapEvent) → slice_get events n ≡ Some e → e.«open» ≡ marks (mark (Opening n))
  pub commits : (n : ℕ) (e : MapEvent) → slice_get events n ≡ Some e → e.commit ≡ marks (mark (Committing n))

-- Each output's port, in declaration order.
abbrev pub AreOutputs : ProgramTree → List ℕ → Type 0
AreOutputs p outputs = map (λ port. Some port) outputs ≡ map (λ (o : OutputTree). port_at o.port) p.outputs

-- A map of the program's firmware. It has no samples, since the program has no inputs.
pub record IsMapOf (p : ProgramTree) (u : Used) (made : Made) (m : Map) : Type 0 where
  pub events : AreEvents p made.marks m.events
  pub states : m.states ≡ states_of u.need p
  pub outputs : AreOutputs p m.outputs
  pub samples : m.samples ≡ []
  pub ready : m.ready ≡ made.marks (mark Ready)
  pub ranges : RangesRise 0 m.regs
  pub listed : (a : ℕ) → is_listed m a ≡ (nat_lt a 512 && is_written p u a)
  pub depth : m.depth ≡ made.depth
  pub ram : m.ram ≡ count_below 512 (λ a. is_listed m a && is_banked a)
  pub words : m.words ≡ made.words
  pub settle : m.settle ≡ made.settle
