-- Events and definitions by their numbers, which are counted from 0 in declaration order.
use Rattle.std.specs.Prelude.{◌≡◌, ℕ, List, [], length, map, slice_get, position, Option, Some, None, String}
use Rattle.std.specs.Str.{bytes_eq}
use Rattle.std.specs.String.{string_bytes}
use Rattle.indexmap.specs.IndexSet.{IndexSet}
use Rattle.frp_tree.specs.declared.syntax.Event.{Event}
use Rattle.frp_tree.specs.Tree.{DeclTree, ProgramTree}
use Rattle.efrp_meaning.specs.Decls.{inputs_of}

-- The number of the first event of a name, and of the first definition.
abbrev pub event_number : ProgramTree → List ℕ → Option ℕ
event_number p name = position (λ (e : Event). bytes_eq name e.name) p.events

abbrev pub decl_number : ProgramTree → List ℕ → Option ℕ
decl_number p name = position (λ (d : DeclTree). bytes_eq name d.name) p.decls

-- The name of the event with this number. Past the last there is none, and no call asks for it.
abbrev pub event_name : ProgramTree → ℕ → List ℕ
event_name p n = elim (slice_get p.events n) [ Some e ↦ e.name | None ↦ [] ]

-- And the name of its source.
abbrev pub event_source : ProgramTree → ℕ → List ℕ
event_source p n = elim (slice_get p.events n) [ Some e ↦ e.source | None ↦ [] ]

-- The names of events and of definitions, in declaration order.
pub record NameLists : Type 0 where
  pub events : List (List ℕ)
  pub decls : List (List ℕ)

abbrev pub names_of : ProgramTree → NameLists
names_of p = record { events = map (λ (e : Event). e.name) p.events; decls = map (λ (d : DeclTree). d.name) p.decls }

-- These are the names of this program.
abbrev pub AreNamesOf : NameLists → ProgramTree → Type 0
AreNamesOf names p = names ≡ names_of p

-- The texts of a set, in its order.
abbrev pub texts_of : {Y S : Type 0} → IndexSet (String Y) S → List (List ℕ)
texts_of set = map string_bytes set.keys

-- How many inputs a program has.
abbrev pub inputs : ProgramTree → ℕ
inputs p = length (inputs_of p)
