-- What one line of a map states, its fields, and the order of such lines.
use Rattle.std.specs.Prelude.{ℕ, ◌<◌, ◌≤◌, ◌^◌, List, [], ◌∷◌, ◌++◌, map, Option, Some, None, IsTrue, codes}
use Rattle.std.specs.Fmt.{decimal}
use Rattle.text_parts.specs.Digits.{hex3, hex4}
use Rattle.text_parts.specs.Names.{is_name}
use Rattle.frp_tree.specs.Names.{type_name}
use Rattle.pic_isa.specs.Sources.{source_name}
use Rattle.pic_isa.specs.Names.{name_of_port}
use Rattle.map_file.specs.declared.maps.MapEvent.{MapEvent}
use Rattle.map_file.specs.declared.maps.MapState.{MapState}
use Rattle.map_file.specs.declared.maps.MapSample.{MapSample}
use Rattle.map_file.specs.declared.maps.Range.{Range}
use Rattle.map_file.specs.declared.maps.Map.{Map}
use Rattle.map_file.specs.declared.entries.Report.{Report as Reports}
use Rattle.map_file.specs.declared.entries.Entry.{Entry}
use Rattle.map_file.specs.declared.entries.Entry.TheVariants as entry
use Rattle.map_file.specs.declared.entries.Section.{Section}
use Rattle.map_file.specs.declared.entries.Section.TheVariants as section
use Rattle.map_file.specs.MapRules.{IsCode, IsData, IsEvent, IsState}
use Rattle.map_file.specs.MapText.{line, addresses}

-- The fields after the first word of an entry's line, by its kind.
abbrev pub event_fields : MapEvent → List (List ℕ)
event_fields e = e.name ∷ source_name e.source ∷ decimal e.priority ∷ codes "open" ∷ hex4 e.«open» ∷ codes "commit" ∷ hex4 e.commit ∷ []

abbrev pub state_fields : MapState → List (List ℕ)
state_fields s = s.name ∷ type_name s.ty ∷ addresses s.ty s.low s.high

abbrev pub sample_fields : MapSample → List (List ℕ)
sample_fields s = s.event ∷ s.input ∷ hex4 s.at ∷ []

abbrev pub range_field : Range → List ℕ
range_field r = hex3 r.from ++ codes "-" ++ hex3 r.to

abbrev pub report_fields : Reports → List (List ℕ)
report_fields r = codes "depth" ∷ decimal r.depth ∷ codes "ram" ∷ decimal r.ram ∷ codes "words" ∷ decimal r.words ∷ codes "settle" ∷ decimal r.settle ∷ []

-- The fields of the line that states an entry.
abbrev pub fields_of : Entry → List (List ℕ)
fields_of entry.Head = codes "efrp" ∷ codes "map" ∷ codes "1" ∷ []
fields_of (entry.Event e) = codes "event" ∷ event_fields e
fields_of (entry.State s) = codes "state" ∷ state_fields s
fields_of (entry.Output port) = codes "output" ∷ name_of_port port ∷ []
fields_of (entry.Sample s) = codes "sample" ∷ sample_fields s
fields_of (entry.Ready address) = codes "ready" ∷ hex4 address ∷ []
fields_of (entry.Regs r) = codes "regs" ∷ range_field r ∷ []
fields_of (entry.Report r) = codes "report" ∷ report_fields r

abbrev pub line_of : Entry → List ℕ
line_of e = line (fields_of e)

-- The line of a sample, whatever events the lines before it state.
pub record IsSampleLine (s : MapSample) : Type 0 where
  pub event : IsTrue (is_name s.event)
  pub input : IsTrue (is_name s.input)
  pub at : IsCode s.at

abbrev pub IsRange : Range → Type 0
IsRange r = (r.from ≤ r.to) × IsData r.to

pub record IsReport (r : Reports) : Type 0 where
  pub depth : r.depth ≤ 8
  pub ram : r.ram ≤ 352
  pub words : r.words ≤ 8192
  pub settle : r.settle < 2 ^ 32

-- The numbers and the names of an entry are in range.
abbrev pub IsEntry : Entry → Type 0
IsEntry entry.Head = Unit {0}
IsEntry (entry.Event e) = IsEvent e
IsEntry (entry.State s) = IsState s
IsEntry (entry.Output port) = port < 5
IsEntry (entry.Sample s) = IsSampleLine s
IsEntry (entry.Ready address) = IsCode address
IsEntry (entry.Regs r) = IsRange r
IsEntry (entry.Report r) = IsReport r

-- All but events, states and samples.
abbrev pub IsUnnamed : Entry → Type 0
IsUnnamed (entry.Event e) = ⊥
IsUnnamed (entry.State s) = ⊥
IsUnnamed (entry.Sample s) = ⊥
IsUnnamed e = Unit {0}

abbrev pub report_of : Map → Reports
report_of m = record { depth = m.depth; ram = m.ram; words = m.words; settle = m.settle }

-- The entries of a map, in the order of its text.
abbrev pub entries_of : Map → List Entry
entries_of m =
    entry.Head
    ∷ (map entry.Event m.events
    ++ (map entry.State m.states
    ++ (map entry.Output m.outputs
    ++ (map entry.Sample m.samples
    ++ (entry.Ready m.ready
    ∷ (map entry.Regs m.regs
    ++ (entry.Report (report_of m) ∷ [])))))))

-- The section that an entry belongs to, where it may stand after one of this section.
abbrev pub section_after : Section → Entry → Option Section
section_after section.Start entry.Head = Some section.Events
section_after section.Events (entry.Event e) = Some section.Events
section_after section.Events (entry.State s) = Some section.States
section_after section.Events (entry.Output port) = Some section.Outputs
section_after section.Events (entry.Sample s) = Some section.Samples
section_after section.Events (entry.Ready address) = Some section.Registers
section_after section.States (entry.State s) = Some section.States
section_after section.States (entry.Output port) = Some section.Outputs
section_after section.States (entry.Sample s) = Some section.Samples
section_after section.States (entry.Ready address) = Some section.Registers
section_after section.Outputs (entry.Output port) = Some section.Outputs
section_after section.Outputs (entry.Sample s) = Some section.Samples
section_after section.Outputs (entry.Ready address) = Some section.Registers
section_after section.Samples (entry.Sample s) = Some section.Samples
section_after section.Samples (entry.Ready address) = Some section.Registers
section_after section.Registers (entry.Regs r) = Some section.Registers
section_after section.Registers (entry.Report r) = Some section.End
section_after s e = None
