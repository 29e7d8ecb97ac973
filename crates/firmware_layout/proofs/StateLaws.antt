-- Reactions lead from states to states, the map reads states off the chip, and times and map fit the program.
use Rattle.std.proofs.Common.{◌≡◌, ℕ, zero, suc, ◌+◌, ◌<◌, ◌≤◌, true, List, [], ◌∷◌, length, map, slice_get, Option, Some, None, option_map, refl, sym, ap, subst, ◌∙◌, arith}
use Rattle.std.specs.Str.{bytes_eq}
use Rattle.std.proofs.lemmas.Bool.{or_left, or_right}
use Rattle.std.proofs.lemmas.Option.{none-some, same_Some}
use Rattle.std.proofs.lemmas.Slice.Eq.{bytes_eq-Decides}
use Rattle.frp_tree.specs.declared.syntax.Event.{Event}
use Rattle.frp_tree.specs.declared.syntax.Ty.TheVariants.{U8}
use Rattle.frp_tree.specs.Tree.{DeclTree, ProgramTree}
use Rattle.efrp_meaning.specs.Bounds.{body, boot}
use Rattle.efrp_meaning.specs.Decls.{inputs_of}
use Rattle.efrp_meaning.specs.Meaning.{Reaction, SerialRun, initial_state, react}
use Rattle.efrp_meaning.specs.States.{AreSamples, AreValuesOf, IsState}
use Rattle.efrp_types.specs.NameFaults.{is_event as is_named}
use Rattle.efrp_types.specs.Numbers.{event_name}
use Rattle.efrp_types.proofs.GoodLaws.{passed-reacts, passed-runs}
use Rattle.efrp_types.proofs.NumberLaws.{item_at}
use Rattle.map_file.specs.declared.maps.MapEvent.{MapEvent}
use Rattle.map_file.specs.declared.maps.Map.{Map}
use Rattle.firmware_promises.specs.Firmware.{event_of}
use Rattle.core_story.specs.Values.{item, name_at}
use Rattle.firmware_parts.specs.Times.{dispatching, starting}
use Rattle.firmware_parts.proofs.TimesLaws.{times-quick, times-within}
use Rattle.event_code.proofs.WorkLaws.{map_reads_states}
use Rattle.firmware_layout.specs.Laws.{LayoutArranged, LayoutStates, LayoutTimes}
use Rattle.firmware_layout.specs.Pieces.{Makings}
use Rattle.firmware_layout.specs.Sound.{AreMakings}
use Rattle.firmware_layout.proofs.EnableLaws.{layout-enables}
use Rattle.firmware_layout.proofs.EventLaws.{is_event}
use Rattle.firmware_layout.proofs.LevelLaws.{layout-levels}
use Rattle.firmware_layout.proofs.PlaceLaws.{layout-places}
use Rattle.firmware_layout.proofs.WriteLaws.{layout-writes}

-- The name of an event by the map is that of the program.
abbrev name_in : Option MapEvent → List ℕ
name_in (Some e) = e.name
name_in None = []

abbrev name_of : Option Event → List ℕ
name_of (Some e) = e.name
name_of None = []

name_there : (es : List MapEvent) (x : ℕ) → name_in (item es x) ≡ name_of (slice_get (map event_of es) x)
name_there [] x = refl
name_there (e ∷ es) zero = refl
name_there (e ∷ es) (suc x) = name_there es x

pub name_is : (f : Makings) (m : Map) → map event_of m.events ≡ f.p.events → (x : ℕ) → name_at m x ≡ event_name f.p x
name_is f m named x = name_there m.events x ∙ ap (λ (es : List Event). name_of (slice_get es x)) named

-- It names an event.
named_event : (es : List Event) (x : ℕ) (e : Event) → slice_get es x ≡ Some e → is_named es e.name ≡ true
named_event [] x e is = absurd (none-some e is)
named_event (d ∷ es) zero e is =
    or_left (bytes_eq e.name d.name) (is_named es e.name) ((bytes_eq-Decides e.name d.name).1 (ap (λ (k : Event). k.name) (sym (same_Some d e is))))
named_event (d ∷ es) (suc x) e is = or_right (bytes_eq e.name d.name) (is_named es e.name) (named_event es x e is)

is_name : (f : Makings) (x : ℕ) → x < length f.p.events → is_named f.p.events (event_name f.p x) ≡ true
is_name f x inside =
    let its = item_at f.p.events x inside in
    ap (λ o. is_named f.p.events (name_of o)) its.1 ∙ named_event f.p.events x its.0 its.1

-- A program without inputs takes no samples.
no_samples : (p : ProgramTree) → inputs_of p ≡ [] → AreSamples p []
no_samples p none = subst (λ ds. AreValuesOf (map (λ (d : DeclTree). U8) ds) []) (sym none) tt

abbrev begun_with : List ℕ → SerialRun
begun_with s = record { state = s; ports = [] }

abbrev begun : Option (List ℕ) → Option SerialRun
begun o = option_map begun_with o

-- Its first state is one, and reactions lead from states to states.
module _ (f : Makings) (made : AreMakings f) where
  first_state : (initial : List ℕ) → initial_state f.p ≡ Some initial → IsState f.p initial
  first_state initial is =
      let run = passed-runs f.p [] made.written made.passes tt in
      let same : begun (Some initial) ≡ Some run.0 = sym (ap begun is) ∙ run.1 in
      subst (IsState f.p) (ap (λ (r : SerialRun). r.state) (sym (same_Some (begun_with initial) run.0 same))) run.2

  reaction_state : (name : List ℕ) (s : List ℕ) (r : Reaction) → is_named f.p.events name ≡ true → IsState f.p s → react f.p s [] name ≡ Some r → IsState f.p r.state
  reaction_state name s r found state is =
      let own = passed-reacts f.p s [] name made.written made.passes found state (no_samples f.p made.no_inputs) in
      subst (λ (q : Reaction). IsState f.p q.state) (same_Some own.0 r (sym own.1 ∙ is)) own.2

pub layout-states : (f : Makings) (program marks : ℕ → ℕ) (m : Map) (initial : List ℕ) → LayoutStates f program marks m initial
layout-states f program marks m initial made named begins = record {
  no_inputs = made.no_inputs;
  begins = begins;
  first = first_state f made initial begins;
  reacts = λ e s r real state is.
      reaction_state f made (name_at m e) s r (ap (is_named f.p.events) (name_is f m named.events e) ∙ is_name f e (is_event f e real)) state is;
  read = λ c.
      let placed = made.states in
      map_reads_states f.p f.need m c made.bytes (omega (arith, placed)) named.states;
}

pub layout-times : (f : Makings) (marks : ℕ → ℕ) (m : Map) → LayoutTimes f marks m
layout-times f marks m made named = record {
  events = refl;
  level = λ x. refl;
  body = body_is;
  boot = same_least (boot f.p);
  in_time = times-within f.p m;
  quick = times-quick f.p m;
  depth = named.depth;
  settle = named.settle;
}
  where
    same_least : (n : ℕ) → n ≤ n
    same_least n = omega arith

    none_more : (n : ℕ) → n ≡ n + 0
    none_more n = omega arith

    body_is : (x : ℕ) (e : MapEvent) → item m.events x ≡ Some e → body f.p (name_at m x) ≡ body f.p e.name + 0
    body_is x e is = ap (λ o. body f.p (name_in o)) is ∙ none_more (body f.p e.name)

pub layout-arranged : (f : Makings) (program marks : ℕ → ℕ) (m : Map) (initial : List ℕ) → LayoutArranged f program marks m initial
layout-arranged f program marks m initial made code named begins = record {
  fitted = layout-times f marks m made named;
  levels = layout-levels f program marks m made named;
  enables = layout-enables f program marks m made;
  places = layout-places f program marks m made code named;
  writes = layout-writes f program marks m made named;
  states = layout-states f program marks m initial made named begins;
  boots_in_time = least (boot f.p);
  starts_in_time = least (dispatching f.p + starting f.p);
}
  where
    least : (n : ℕ) → n ≤ n
    least n = omega arith
