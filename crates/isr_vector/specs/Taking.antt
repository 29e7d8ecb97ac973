-- What runs from the taking of an interrupt on, up to the run of the event that is chosen.
use Rattle.std.specs.Prelude.{◌≡◌, ℕ, ◌<◌, ◌&&◌, nat_lt, Bool, if◌then◌else◌, List, [], ◌∷◌, ◌++◌, length, map}
use Rattle.frp_tree.specs.Tree.{ProgramTree}
use Rattle.efrp_meaning.specs.Bounds.{levels}
use Rattle.efrp_types.specs.Numbers.{event_source}
use Rattle.pic_isa.specs.declared.sources.Source.{Source}
use Rattle.pic_isa.specs.Sources.{source_name}
use Rattle.pic_regs.specs.declared.places.Place.TheVariants as place
use Rattle.code_items.specs.declared.items.Item.{Item}
use Rattle.code_items.specs.declared.items.Item.TheVariants.{Jump}
use Rattle.glue_steps.specs.declared.lines.Line.{Line}
use Rattle.glue_steps.specs.declared.lines.Line.TheVariants.{Load, Store, Clear}
use Rattle.glue_steps.specs.Lines.{item_of}
use Rattle.glue_steps.specs.Choices.{FlagTest, test_items}
use Rattle.glue_parts.specs.declared.spread.Context.{Context}
use Rattle.glue_parts.specs.declared.spread.Spread.{Spread}
use Rattle.glue_parts.specs.Marks.{Entry, mark}

-- What a taking saves: the bank bits where a cell lies outside bank 0, PCLATH where there are page settings, both only where there
-- are several levels.
abbrev pub context_of : ProgramTree → Spread → Context
context_of p spread = record { status = nat_lt 1 (levels p) && spread.banks; pclath = nat_lt 1 (levels p) && spread.pages }

-- STATUS goes to 71h, and bank 0 is chosen; PCLATH goes to 72h.
abbrev pub status_saved : Bool → List Line
status_saved status = if status then Load place.Status ∷ Store (place.Plain 0x71) ∷ Clear place.Status ∷ [] else []

abbrev pub pclath_saved : Bool → List Line
pclath_saved pclath = if pclath then Load place.Pclath ∷ Store (place.Plain 0x72) ∷ [] else []

abbrev pub context_saved : Context → List Line
context_saved context = status_saved context.status ++ pclath_saved context.pclath

-- The sources of events by their numbers are those of the program.
abbrev pub AreSources : ProgramTree → (ℕ → Source) → Type 0
AreSources p source = (event : ℕ) → event < length p.events → event_source p event ≡ source_name (source event)

-- The tests of events: each goes to the event's entry where its flag is set.
abbrev pub tests_of : (ℕ → Source) → List ℕ → List FlagTest
tests_of source events = map (λ event. record { source = source event; entry = mark (Entry event) }) events

-- Each event of the order is tested but the last one, whose run stands next, or is gone to in code of several pages.
abbrev pub all_but_last : List ℕ → List ℕ
all_but_last [] = []
all_but_last (event ∷ []) = []
all_but_last (event ∷ next ∷ events) = event ∷ all_but_last (next ∷ events)

abbrev pub last_jump : (paged : Bool) → List ℕ → List Item
last_jump paged [] = []
last_jump paged (event ∷ []) = if paged then Jump (mark (Entry event)) ∷ [] else []
last_jump paged (event ∷ next ∷ events) = last_jump paged (next ∷ events)

abbrev pub choice : (ℕ → Source) → (paged : Bool) → List ℕ → List Item
choice source paged order = test_items (tests_of source (all_but_last order)) (last_jump paged order)

-- From the taking on.
abbrev pub taking_items : (ℕ → Source) → Context → (paged : Bool) → (order : List ℕ) → List Item
taking_items source context paged order = map item_of (context_saved context) ++ choice source paged order
