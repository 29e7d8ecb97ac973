-- The events of a program by their numbers: sources, priorities, levels, and what a map says of them.
use Rattle.std.proofs.Common.{◌≡◌, ℕ, zero, suc, ◌<◌, ◌≤◌, if◌then◌else◌, List, [], ◌∷◌, length, map, get_or, Some, None, refl, sym, ap, ◌∙◌, arith, inl, inr}
use Rattle.std.specs.Prelude.{position}
use Rattle.std.specs.List.{AllByRecursion}
use Rattle.std.specs.Str.{bytes_eq}
use Rattle.std.proofs.lemmas.Bool.{cases_lt, lt-ltb, le-ltb}
use Rattle.std.proofs.lemmas.Option.{same_Some}
use Rattle.frp_tree.specs.declared.syntax.Event.{Event}
use Rattle.frp_tree.specs.Priorities.{IsPriority}
use Rattle.efrp_meaning.specs.Bounds.{levels}
use Rattle.efrp_types.specs.Numbers.{event_source}
use Rattle.efrp_types.proofs.GoodLaws.{no-fault-is-good}
use Rattle.efrp_types.proofs.NumberLaws.{item_at, own_place}
use Rattle.pic_isa.specs.declared.sources.Source.{Source}
use Rattle.pic_isa.specs.Sources.{source_name}
use Rattle.pic_isa.proofs.UniqueNameLaws.{one_source}
use Rattle.map_file.specs.declared.maps.MapEvent.{MapEvent}
use Rattle.map_file.specs.declared.maps.Map.{Map}
use Rattle.priority_masks.specs.Levels.{level_of, priority_of}
use Rattle.priority_masks.proofs.LevelLaws.{levels-rise}
use Rattle.firmware_promises.specs.Firmware.{event_of}
use Rattle.core_story.specs.Interface.{level_at}
use Rattle.core_story.specs.Values.{item}
use Rattle.firmware_layout.specs.Layouts.{event_level}
use Rattle.firmware_layout.specs.Pieces.{Makings}
use Rattle.firmware_layout.specs.Sound.{AreMakings}

-- A number is that of an event, or of none.
pub level_inside : (f : Makings) (x : ℕ) → x < length f.p.events → event_level f x ≡ level_of f.p x
level_inside f x inside = ap (λ b. if b then level_of f.p x else 0) (lt-ltb x (length f.p.events) inside)

pub level_outside : (f : Makings) (x : ℕ) → length f.p.events ≤ x → event_level f x ≡ 0
level_outside f x far = ap (λ b. if b then level_of f.p x else 0) (le-ltb x (length f.p.events) far)

pub is_event : (f : Makings) (x : ℕ) → 0 < event_level f x → x < length f.p.events
is_event f x real = elim (cases_lt x (length f.p.events)) [ inl inside ↦ inside | inr far ↦ let none = level_outside f x far in absurd (omega (arith, none, real)) ]

pub real_event : (f : Makings) (x : ℕ) → x < length f.p.events → 0 < event_level f x
real_event f x inside = let own = level_inside f x inside in let from = (levels-rise f.p).from_one x inside in omega (arith, own, from)

-- No level is above the number of levels.
pub level_few : (f : Makings) (x : ℕ) → event_level f x ≤ levels f.p
level_few f x = elim (cases_lt x (length f.p.events)) [
  | inl inside ↦ let own = level_inside f x inside in let most = (levels-rise f.p).to_all x inside in omega (arith, own, most)
  | inr far ↦ let none = level_outside f x far in omega (arith, none)
]

-- The priorities of the map's events are those of the program's.
priority_at : (es : List MapEvent) (x : ℕ) → elim (item es x) [ Some e ↦ e.priority | None ↦ 0 ] ≡ get_or (map (λ (e : Event). e.priority) (map event_of es)) x 0
priority_at [] x = refl
priority_at (e ∷ es) zero = refl
priority_at (e ∷ es) (suc x) = priority_at es x

pub priority_of_map : (f : Makings) (m : Map) → map event_of m.events ≡ f.p.events → (x : ℕ) → level_at m x ≡ priority_of f.p x
priority_of_map f m named x = priority_at m.events x ∙ ap (λ es. get_or (map (λ (e : Event). e.priority) es) x 0) named

-- They are from 1 on; other numbers have none.
priority_in : (es : List Event) (x : ℕ) → AllByRecursion (λ (e : Event). IsPriority e.priority) es → x < length es → 0 < get_or (map (λ (e : Event). e.priority) es) x 0
priority_in [] x all inside = absurd (omega (arith, inside))
priority_in (e ∷ es) zero all inside = all.0.0
priority_in (e ∷ es) (suc x) all inside = priority_in es x all.1 (omega (arith, inside))

priority_past : (es : List Event) (x : ℕ) → length es ≤ x → get_or (map (λ (e : Event). e.priority) es) x 0 ≡ 0
priority_past [] x far = refl
priority_past (e ∷ es) zero far = absurd (omega (arith, far))
priority_past (e ∷ es) (suc x) far = priority_past es x (omega (arith, far))

pub priority_real : (f : Makings) → AreMakings f → (x : ℕ) → x < length f.p.events → 0 < priority_of f.p x
priority_real f made x inside = priority_in f.p.events x (no-fault-is-good f.p made.passes.checked.names).priorities inside

pub priority_none : (f : Makings) (x : ℕ) → length f.p.events ≤ x → priority_of f.p x ≡ 0
priority_none f x far = priority_past f.p.events x far

-- The source of an event by its name.
pub source_is : (f : Makings) → AreMakings f → (x : ℕ) (source : Source) → x < length f.p.events → event_source f.p x ≡ source_name source → f.source x ≡ source
source_is f made x source inside named = one_source (f.source x) source (sym (made.sources x inside) ∙ named)

-- No two events have one source.
pub sources_differ : (f : Makings) → AreMakings f → (x y : ℕ) → x < length f.p.events → y < length f.p.events → f.source x ≡ f.source y → x ≡ y
sources_differ f made x y inside also same =
    let first = item_at f.p.events x inside in
    let second = item_at f.p.events y also in
    let differ = (no-fault-is-good f.p made.passes.checked.names).sources_differ in
    let named : event_source f.p x ≡ event_source f.p y = made.sources x inside ∙ ap source_name same ∙ sym (made.sources y also) in
    let of_first : event_source f.p x ≡ first.0.source = ap (λ o. elim o [ Some e ↦ e.source | None ↦ [] ]) first.1 in
    let of_second : event_source f.p y ≡ second.0.source = ap (λ o. elim o [ Some e ↦ e.source | None ↦ [] ]) second.1 in
    let same_name : first.0.source ≡ second.0.source = sym of_first ∙ named ∙ of_second in
    let place = own_place (λ (e : Event). e.source) f.p.events x first.0 differ first.1 in
    let other = own_place (λ (e : Event). e.source) f.p.events y second.0 differ second.1 in
    same_Some x y (sym place ∙ ap (λ name. position (λ (e : Event). bytes_eq name e.source) f.p.events) same_name ∙ other)
