-- What is true of every program that passes the checks.
use Rattle.std.specs.Prelude.{◌≡◌, ℕ, ◌<◌, nat_lt, Bool, true, List, [], length, map, slice_get, Some}
use Rattle.std.specs.List.{AllByRecursion, IsDistinct, list_all}
use Rattle.std.specs.Str.{bytes_eq}
use Rattle.frp_tree.specs.declared.syntax.Event.{Event}
use Rattle.frp_tree.specs.declared.syntax.Setup.{Setup}
use Rattle.frp_tree.specs.Grammar.{Spells}
use Rattle.frp_tree.specs.Limits.{CanBeWritten}
use Rattle.frp_tree.specs.Priorities.{HasPriorities}
use Rattle.frp_tree.specs.Tree.{BehaviourTree, Plain, Input, Table, Reactive, DeclTree, ProgramTree}
use Rattle.pic_isa.specs.declared.sources.Source.{Source}
use Rattle.pic_isa.specs.Sources.{source_name}
use Rattle.efrp_meaning.specs.Decls.{decl_named}
use Rattle.efrp_meaning.specs.Types.{IsTyped}
use Rattle.efrp_meaning.specs.States.{IsState, AreSamples, ArePortValues, IsOccurrence, NamesDiffer}
use Rattle.efrp_meaning.specs.Meaning.{State, Samples, Occurrence, Reaction, SerialRun, react, serial}
use Rattle.efrp_types.specs.NameFaults.{name_faults, is_event}
use Rattle.efrp_types.specs.TypeFaults.{type_faults}
use Rattle.efrp_types.specs.Numbers.{decl_number, event_number}
use Rattle.efrp_types.specs.Passes.{Passes}

-- A table has an entry.
abbrev pub has_entries : BehaviourTree → Bool
has_entries (Plain e) = true
has_entries (Input port) = true
has_entries (Table entries) = nat_lt 0 (length entries)
has_entries (Reactive init clauses) = true

-- The tree keeps the limits of counts, no conversion is to bool, and no table is empty. A tree in memory may do otherwise.
pub record IsWellFormed (p : ProgramTree) : Type 0 where
  pub written : CanBeWritten p
  pub entries : list_all (λ d. has_entries d.behaviour) p.decls ≡ true

-- What a text spells is well formed.
abbrev pub SpelledIsWellFormed : ProgramTree → Type 0
SpelledIsWellFormed p = (text : List ℕ) → Spells text p → IsWellFormed p

-- The byte of each setup is one.
abbrev pub HasSetupBytes : ProgramTree → Type 0
HasSetupBytes p = AllByRecursion (λ (s : Setup). s.byte < 256) p.setups

-- Each event's source is one of the chip's, no two events have one source, and no two have one name.
abbrev pub SourcesExist : ProgramTree → Type 0
SourcesExist p = AllByRecursion (λ (e : Event). (source : Source) × (e.source ≡ source_name source)) p.events

abbrev pub SourcesDiffer : ProgramTree → Type 0
SourcesDiffer p = IsDistinct bytes_eq (map (λ (e : Event). e.source) p.events)

abbrev pub EventsDiffer : ProgramTree → Type 0
EventsDiffer p = IsDistinct bytes_eq (map (λ (e : Event). e.name) p.events)

-- Where names have no fault, types have none exactly where the program is typed and its setups are bytes.
abbrev pub HasTypes : ProgramTree → Type 0
HasTypes p = IsTyped p × HasSetupBytes p

abbrev pub NoFaultIsTyped : ProgramTree → Type 0
NoFaultIsTyped p = IsWellFormed p → name_faults p ≡ [] → type_faults p ≡ [] → HasTypes p

abbrev pub TypedHasNoFault : ProgramTree → Type 0
TypedHasNoFault p = IsWellFormed p → name_faults p ≡ [] → HasTypes p → type_faults p ≡ []

-- What names without a fault say of events and definitions.
pub record AreGood (p : ProgramTree) : Type 0 where
  pub decls_differ : NamesDiffer p
  pub events_differ : EventsDiffer p
  pub sources_differ : SourcesDiffer p
  pub sources_exist : SourcesExist p
  pub priorities : HasPriorities p

abbrev pub NoFaultIsGood : ProgramTree → Type 0
NoFaultIsGood p = name_faults p ≡ [] → AreGood p

-- A program that passes reacts to each of its events from each state, and the reaction leads to a state.
abbrev pub PassedReacts : ProgramTree → Type 0
PassedReacts p =
    (s : State) (j : Samples) (event : List ℕ) → IsWellFormed p → Passes p → is_event p.events event ≡ true → IsState p s → AreSamples p j
    → (r : Reaction) × (react p s j event ≡ Some r) × IsState p r.state × ArePortValues p r.ports

-- And each serial run of its events is defined and ends in a state.
abbrev pub PassedRuns : ProgramTree → Type 0
PassedRuns p =
    (events : List Occurrence) → IsWellFormed p → Passes p → AllByRecursion (IsOccurrence p) events
    → (run : SerialRun) × (serial p events ≡ Some run) × IsState p run.state

-- A number that `decl_number` gives is the place of the definition that the name stands for, and one that `event_number` gives
-- that of an event of this name. Where names differ, what stands at a place has the place's number by its name.
pub record NumbersAgree (p : ProgramTree) : Type 0 where
  pub decls : (name : List ℕ) (n : ℕ) → decl_number p name ≡ Some n → slice_get p.decls n ≡ decl_named p.decls name
  pub decls_within : (name : List ℕ) (n : ℕ) → decl_number p name ≡ Some n → n < length p.decls
  pub events : (name : List ℕ) (n : ℕ) → event_number p name ≡ Some n → (e : Event) × (slice_get p.events n ≡ Some e) × (e.name ≡ name)
  pub own_decls : NamesDiffer p → (n : ℕ) (d : DeclTree) → slice_get p.decls n ≡ Some d → decl_number p d.name ≡ Some n
  pub own_events : EventsDiffer p → (n : ℕ) (e : Event) → slice_get p.events n ≡ Some e → event_number p e.name ≡ Some n
