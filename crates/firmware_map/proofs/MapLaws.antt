-- A map of a program's firmware lists, names and reports rightly, and keeps the rules of maps.
use Rattle.std.proofs.Common.{◌≡◌, ℕ, ◌+◌, ◌<◌, ◌≤◌, ◌&&◌, true, List, [], ◌∷◌, ◌++◌, length, filter, map, Some, ap, sym, subst, ◌∙◌, refl, arith}
use Rattle.std.specs.Prelude.{◌^◌, nat_lt, slice_get, option_map, IsTrue}
use Rattle.std.specs.List.{AllByRecursion, flat_map}
use Rattle.std.proofs.lemmas.Bool.{and_parts}
use Rattle.std.proofs.lemmas.List.{length-map}
use Rattle.std.proofs.lemmas.Option.{slice_get-map}
use Rattle.text_parts.specs.Names.{is_name}
use Rattle.frp_tree.specs.declared.syntax.Event.{Event}
use Rattle.frp_tree.specs.declared.syntax.Ty.{Ty}
use Rattle.frp_tree.specs.declared.syntax.Ty.TheVariants.{Bool as BoolTy, U8, U16}
use Rattle.frp_tree.specs.Priorities.{IsPriority}
use Rattle.frp_tree.specs.Tree.{DeclTree, OutputTree, ProgramTree}
use Rattle.efrp_meaning.specs.Bounds.{state_bytes, type_bytes}
use Rattle.efrp_meaning.specs.Decls.{inputs_of}
use Rattle.efrp_meaning.specs.Needs.{inputs_needed, is_named_in, needed}
use Rattle.efrp_types.proofs.GoodLaws.{no-fault-is-good}
use Rattle.pic_isa.specs.Names.{port_at}
use Rattle.pic_isa.specs.Sources.{source_name}
use Rattle.map_file.specs.declared.maps.MapEvent.{MapEvent}
use Rattle.map_file.specs.declared.maps.MapState.{MapState}
use Rattle.map_file.specs.declared.maps.Map.{Map}
use Rattle.map_file.specs.MapRules.{AddressesFit, AllDiffer, IsCode, IsData, IsEvent, IsSample, IsState, pair}
use Rattle.bank_alloc.specs.declared.needs.Needs.{Needs}
use Rattle.bank_alloc.specs.Addresses.{address_of}
use Rattle.bank_alloc.specs.Needs.{bytes_of}
use Rattle.bank_alloc.proofs.AddressLaws.{addresses-general}
use Rattle.glue_parts.specs.Marks.{mark, Committing, Opening, Ready}
use Rattle.event_needs.proofs.ListLaws.{all-from, each-at}
use Rattle.event_ops.proofs.PortLaws.{small-port}
use Rattle.expr_lower.specs.Nodes.{new_pair}
use Rattle.expr_lower.specs.Places.{is_wide}
use Rattle.firmware_promises.specs.MapNames.{is_listed}
use Rattle.firmware_promises.specs.Firmware.{event_of, is_banked, typed_state}
use Rattle.firmware_map.specs.Written.{Used, is_written}
use Rattle.firmware_map.specs.Maps.{IsMapOf, Made}
use Rattle.firmware_map.specs.Laws.{FitsMap, HasNames, IsPlaced, MapKeepsRules, MapListsRightly, MapListsWritten, MapNamesItems, MapReportsFew}
use Rattle.firmware_map.proofs.CellFacts.{count-few}
use Rattle.firmware_map.proofs.ListedFacts.{cell-listed, lists-written}
use Rattle.firmware_map.proofs.RowFacts.{differ-map, differ-more, distinct-differ}
use Rattle.firmware_map.proofs.StateFacts.{addresses, all-states, each-state, few-states, names-differ, states-differ, states-named}
use Rattle.firmware_map.proofs.WrittenFacts.{banked-below, banked-cell, kind-right, written-kind}

pub map-lists-written : (p : ProgramTree) (u : Used) (made : Made) (m : Map) → MapListsWritten p u made m
map-lists-written p u made m placed is = lists-written p u made m placed is

-- What is listed is written.
listed-written : (p : ProgramTree) (u : Used) (made : Made) (m : Map) → IsMapOf p u made m → (a : ℕ) → is_listed m a ≡ true → is_written p u a ≡ true
listed-written p u made m is a listed = (and_parts (nat_lt a 512) (is_written p u a) (sym (is.listed a) ∙ listed)).1

pub map-lists-rightly : (p : ProgramTree) (u : Used) (made : Made) (m : Map) → MapListsRightly p u made m
map-lists-rightly p u made m placed is a small listed = kind-right p u.need a placed.fits (written-kind p u placed a (listed-written p u made m is a listed))

pub map-reports-few : (p : ProgramTree) (u : Used) (made : Made) (m : Map) → MapReportsFew p u made m
map-reports-few p u made m placed is =
    subst (λ k. k ≤ bytes_of u.need) (sym is.ram)
    (count-few (bytes_of u.need) 512 (λ a. is_listed m a && is_banked a) (address_of u.need)
    (λ a small both.
    let parts = and_parts (is_listed m a) (is_banked a) both in
    banked-cell p u.need a (written-kind p u placed a (listed-written p u made m is a parts.0)) parts.1))

-- A program without inputs needs none.
abbrev pairs : ProgramTree → List Event → List (List ℕ × List ℕ)
pairs p es = flat_map (λ (e : Event). map (λ input. (e.name, input)) (inputs_needed p e.name)) es

abbrev pairs_of : ProgramTree → Event → List DeclTree → List (List ℕ × List ℕ)
pairs_of p e ds = map (λ input. (e.name, input)) (map (λ (d : DeclTree). d.name) (filter (λ (d : DeclTree). is_named_in d.name (needed p e.name)) ds))

none-needed : (es : List Event) (p : ProgramTree) → inputs_of p ≡ [] → [] ≡ pairs p es
none-needed [] p none = refl
none-needed (e ∷ es) p none = none-needed es p none ∙ ap (λ ds. pairs_of p e ds ++ pairs p es) (sym none)

-- The states' cells are placed and listed.
states-placed : (p : ProgramTree) (u : Used) → IsPlaced p u → 0 + state_bytes p ≤ bytes_of u.need
states-placed p u placed = let cells = placed.cells.states in let all = placed.cells.placed in omega (arith, cells, all)

pub map-names-items : (p : ProgramTree) (u : Used) (made : Made) (m : Map) → MapNamesItems p u made m
map-names-items p u made m none placed is =
    let states = sym is.states in
    let room = states-placed p u placed in
    let few = placed.cells.states in
    record {
      events = is.events.named;
      states = ap (map typed_state) is.states ∙ states-named u.need 0 p.decls;
      outputs = is.outputs;
      samples = ap (map pair) is.samples ∙ none-needed p.events p none;
      states_differ = subst (λ (ss : List MapState). AllDiffer (λ (a : ℕ). a) (addresses ss)) states (states-differ u.need placed.fits 0 p.decls room);
      states_are_general =
          subst (λ (ss : List MapState). AllByRecursion (λ a. IsTrue (is_banked a)) (addresses ss)) states
          (all-states u.need (λ a. IsTrue (is_banked a)) (bytes_of u.need) 0 p.decls (λ cell low high. addresses-general u.need placed.fits cell high) room);
      states_are_listed =
          subst (λ (ss : List MapState). AllByRecursion (λ a. IsTrue (is_listed m a)) (addresses ss)) states
          (all-states u.need (λ a. IsTrue (is_listed m a)) (state_bytes p) 0 p.decls (λ cell low high. cell-listed p u made m placed is cell (omega arith)) (omega arith));
    }

-- The rules of maps.

-- Of the events.
module _ (p : ProgramTree) (u : Used) (made : Made) (m : Map) (is : IsMapOf p u made m) where
  there : (n : ℕ) (e : MapEvent) → slice_get m.events n ≡ Some e → slice_get p.events n ≡ Some (event_of e)
  there n e at = ap (λ (es : List Event). slice_get es n) (sym is.events.named) ∙ slice_get-map event_of m.events n ∙ ap (option_map event_of) at

  event-rule : HasNames p → AllByRecursion (λ (e : Event). IsPriority e.priority) p.events → FitsMap made → (n : ℕ) (e : MapEvent) → slice_get m.events n ≡ Some e → IsEvent e
  event-rule names priorities fits n e at = record {
    name = each-at (λ (x : Event). IsTrue (is_name x.name)) p.events n (event_of e) names.events (there n e at);
    priority = each-at (λ (x : Event). IsPriority x.priority) p.events n (event_of e) priorities (there n e at);
    opens = subst IsCode (sym (is.events.opens n e at)) (fits.marks (mark (Opening n)));
    commits = subst IsCode (sym (is.events.commits n e at)) (fits.marks (mark (Committing n)));
  }

  events-differ : AllDiffer (λ (e : Event). e.name) p.events → AllDiffer (λ (e : MapEvent). e.name) m.events
  events-differ differ = differ-map (λ (e : Event). e.name) event_of m.events (subst (AllDiffer (λ (e : Event). e.name)) (sym is.events.named) differ)

  sources-differ : AllDiffer (λ (e : Event). e.source) p.events → AllDiffer (λ (e : MapEvent). e.source) m.events
  sources-differ differ =
      differ-more (λ (e : MapEvent). source_name e.source) (λ (e : MapEvent). e.source) (λ x y same. ap source_name same) m.events
      (differ-map (λ (e : Event). e.source) event_of m.events (subst (AllDiffer (λ (e : Event). e.source)) (sym is.events.named) differ))

  few-events : length p.events ≤ 11 → length m.events ≤ 11
  few-events few = let same = sym (length-map m.events event_of) ∙ ap length is.events.named in omega (arith, same, few)

-- Of a state.
state-rule : (need : Needs) → bytes_of need ≤ 352 → (d : DeclTree) (next : ℕ) → IsTrue (is_name d.name) → next + type_bytes d.ty ≤ bytes_of need
    → IsState (record { name = d.name; ty = d.ty; low = address_of need (new_pair (is_wide d.ty) next).low; high = address_of need (new_pair (is_wide d.ty) next).high })
state-rule need fits d next named room = record { name = named; addresses = by_type d.ty room }
  where
    data-address : (cell : ℕ) → cell < bytes_of need → IsData (address_of need cell)
    data-address cell below = banked-below (address_of need cell) (addresses-general need fits cell below)

    by_type : (t : Ty) → next + type_bytes t ≤ bytes_of need → AddressesFit t (address_of need (new_pair (is_wide t) next).low) (address_of need (new_pair (is_wide t) next).high)
    by_type BoolTy room = (data-address next (omega arith), refl)
    by_type U8 room = (data-address next (omega arith), refl)
    by_type U16 room = (data-address next (omega arith), data-address (next + 1) (omega arith))

-- Of outputs.
output-rule : (ports : List ℕ) (os : List OutputTree) → map (λ port. Some port) ports ≡ map (λ (o : OutputTree). port_at o.port) os → AllByRecursion (λ port. port < 5) ports
output-rule [] os same = tt
output-rule (port ∷ ports) [] same = absurd (cc)
output-rule (port ∷ ports) (o ∷ os) same =
    let first : port_at o.port ≡ Some port = cc in
    let small = small-port o.port port first in
    (omega (arith, small), output-rule ports os (cc))

pub map-keeps-rules : (p : ProgramTree) (u : Used) (made : Made) (m : Map) → MapKeepsRules p u made m
map-keeps-rules p u made m formed checked names fits placed is =
    let good = no-fault-is-good p checked.names in
    let states = sym is.states in
    let few_states = few-states u.need 0 p.decls in
    let few_decls = formed.written.decls in
    let ram = map-reports-few p u made m placed is in
    let bytes = placed.fits in
    record {
      events = all-from IsEvent m.events (event-rule p u made m is names good.priorities fits);
      event_names = events-differ p u made m is (distinct-differ (λ (e : Event). e.name) p.events good.events_differ);
      sources = sources-differ p u made m is (distinct-differ (λ (e : Event). e.source) p.events good.sources_differ);
      event_limit = few-events p u made m is formed.written.events;
      states =
          subst (AllByRecursion IsState) states
          (each-state u.need (λ (d : DeclTree). IsTrue (is_name d.name)) IsState (bytes_of u.need) (state-rule u.need placed.fits) 0 p.decls names.decls (states-placed p u placed));
      state_names = subst (AllDiffer (λ (s : MapState). s.name)) states (names-differ u.need 0 p.decls (distinct-differ (λ (d : DeclTree). d.name) p.decls good.decls_differ));
      state_limit = subst (λ (ss : List MapState). length ss ≤ 128) states (omega (arith, few_states, few_decls));
      outputs = output-rule m.outputs p.outputs is.outputs;
      output_limit = (let same = sym (length-map m.outputs (λ port. Some port)) ∙ ap length is.outputs ∙ length-map p.outputs (λ (o : OutputTree). port_at o.port) in let few = formed.written.outputs in omega (arith, same, few));
      samples = subst (AllByRecursion (IsSample m.events)) (sym is.samples) tt;
      sample_pairs = subst (AllDiffer pair) (sym is.samples) tt;
      ready = subst IsCode (sym is.ready) (fits.marks (mark Ready));
      ranges = is.ranges;
      depth = (let same = is.depth in let few = fits.depth in omega (arith, same, few));
      ram = omega (arith, ram, bytes);
      words = (let same = is.words in let few = fits.words in omega (arith, same, few));
      settle = subst (λ n. n < 2 ^ 32) (sym is.settle) fits.settle;
    }
