-- The rules that a map keeps, whatever its text.
use Rattle.std.specs.Prelude.{◌≡◌, ◌≢◌, ℕ, ◌<◌, ◌≤◌, ◌+◌, ◌^◌, Bool, List, [], ◌∷◌, length, IsTrue}
use Rattle.std.specs.List.{AllByRecursion, list_any}
use Rattle.std.specs.Str.{bytes_eq}
use Rattle.frp_tree.specs.Priorities.{IsPriority}
use Rattle.text_parts.specs.Names.{is_name}
use Rattle.frp_tree.specs.declared.syntax.Ty.{Ty}
use Rattle.frp_tree.specs.declared.syntax.Ty.TheVariants as ty
use Rattle.map_file.specs.declared.maps.MapEvent.{MapEvent}
use Rattle.map_file.specs.declared.maps.MapState.{MapState}
use Rattle.map_file.specs.declared.maps.MapSample.{MapSample}
use Rattle.map_file.specs.declared.maps.Range.{Range}
use Rattle.map_file.specs.declared.maps.Map.{Map}

-- A code address is below 2000h, a data address below 200h.
abbrev pub IsCode : ℕ → Type 0
IsCode address = address < 0x2000

abbrev pub IsData : ℕ → Type 0
IsData address = address < 0x200

pub record IsEvent (e : MapEvent) : Type 0 where
  pub name : IsTrue (is_name e.name)
  pub priority : IsPriority e.priority
  pub opens : IsCode e.«open»
  pub commits : IsCode e.commit

-- A state of one byte has the same address twice.
abbrev pub AddressesFit : Ty → ℕ → ℕ → Type 0
AddressesFit ty.Bool low high = IsData low × (high ≡ low)
AddressesFit ty.U8 low high = IsData low × (high ≡ low)
AddressesFit ty.U16 low high = IsData low × IsData high

pub record IsState (s : MapState) : Type 0 where
  pub name : IsTrue (is_name s.name)
  pub addresses : AddressesFit s.ty s.low s.high

-- The name is that of one of the events.
abbrev pub names_event : List MapEvent → List ℕ → Bool
names_event events name = list_any (λ e. bytes_eq e.name name) events

-- Whether a program has an input of this name is nothing that a map tells.
pub record IsSample (events : List MapEvent) (s : MapSample) : Type 0 where
  pub event : IsTrue (names_event events s.event)
  pub input : IsTrue (is_name s.input)
  pub at : IsCode s.at

-- The event and the input of a sample.
abbrev pub pair : MapSample → List ℕ × List ℕ
pair s = (s.event, s.input)

-- Each differs from all after it, by what f tells of it.
abbrev pub AllDiffer : {A B : Type 0} → (A → B) → List A → Type 0
AllDiffer f [] = Unit {0}
AllDiffer f (x ∷ xs) = AllByRecursion (λ y. f y ≢ f x) xs × AllDiffer f xs

-- The ranges rise from `low` on, with at least one address between two, and the first address of each isn't above
-- its last.
abbrev pub RangesRise : ℕ → List Range → Type 0
RangesRise low [] = Unit {0}
RangesRise low (r ∷ rs) = (low ≤ r.from) × (r.from ≤ r.to) × IsData r.to × RangesRise (r.to + 2) rs

-- The rules of a map: its numbers are in range, no name is given to two events or to two states, no source to two
-- events, and no two samples are of the same event and input. The number of samples has no limit.
pub record IsMap (m : Map) : Type 0 where
  pub events : AllByRecursion IsEvent m.events
  pub event_names : AllDiffer (λ e. e.name) m.events
  pub sources : AllDiffer (λ e. e.source) m.events
  pub event_limit : length m.events ≤ 11
  pub states : AllByRecursion IsState m.states
  pub state_names : AllDiffer (λ s. s.name) m.states
  pub state_limit : length m.states ≤ 128
  pub outputs : AllByRecursion (λ port. port < 5) m.outputs
  pub output_limit : length m.outputs ≤ 5
  pub samples : AllByRecursion (IsSample m.events) m.samples
  pub sample_pairs : AllDiffer pair m.samples
  pub ready : IsCode m.ready
  pub ranges : RangesRise 0 m.regs
  pub depth : m.depth ≤ 8
  pub ram : m.ram ≤ 352
  pub words : m.words ≤ 8192
  pub settle : m.settle < 2 ^ 32
