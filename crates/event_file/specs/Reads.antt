-- What is read of an events file.
use Rattle.std.specs.Prelude.{◌≡◌, ℕ, ◌<◌, ◌≤◌, List, length, map, Some, None, Result, Ok, Err}
use Rattle.std.specs.List.{AllByRecursion}
use Rattle.frp_tree.specs.Tree.{ProgramTree}
use Rattle.efrp_meaning.specs.Meaning.{Occurrence}
use Rattle.efrp_meaning.specs.States.{AreSamples}
use Rattle.efrp_types.specs.Numbers.{event_name, inputs}
use Rattle.event_file.specs.declared.occurrences.Occurrence.{Occurrence as Found}
use Rattle.event_file.specs.declared.occurrences.EventsFault.{EventsFault}
use Rattle.event_file.specs.declared.occurrences.EventsFault.TheVariants as fault
use Rattle.event_file.specs.Events.{told_events, events_of, first_unknown, AreTooMany}

-- The occurrence that an event's number and samples stand for: the event by its name.
abbrev pub occurrence_of : ProgramTree → Found → Occurrence
occurrence_of p o = record { event = event_name p o.event; samples = o.samples }

-- One of the program's events, with a byte for each input.
pub record IsFound (p : ProgramTree) (o : Found) : Type 0 where
  pub event : o.event < length p.events
  pub count : length o.samples ≡ inputs p
  pub samples : AreSamples p o.samples

-- What is answered of a text: where no line is unknown and there are at most 10,000 events these; otherwise the first
-- unknown line, or that there are more. Out of memory may come in place of each.
abbrev pub ReadsEvents : ProgramTree → List ℕ → Result (List Found) EventsFault → Type 0
ReadsEvents p bytes (Ok events) =
    (first_unknown p bytes ≡ None) × (length (told_events bytes) ≤ 10000) × (map (occurrence_of p) events ≡ events_of p bytes)
    × AllByRecursion (IsFound p) events
ReadsEvents p bytes (Err (fault.Unknown line)) = first_unknown p bytes ≡ Some line
ReadsEvents p bytes (Err fault.TooMany) = AreTooMany p bytes
ReadsEvents p bytes (Err fault.Memory) = Unit {0}
