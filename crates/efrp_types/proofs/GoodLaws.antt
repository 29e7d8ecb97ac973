-- What names without a fault say of events and definitions; and what a program that passes does.
use Rattle.std.specs.Prelude.{◌≡◌, ℕ, Bool, true, false, not, nat_le, ◌&&◌, ◌||◌, List, [], ◌∷◌, refl}
use Rattle.std.specs.List.{AllByRecursion, flat_map, list_any}
use Rattle.std.specs.Str.{bytes_eq}
use Rattle.std.proofs.Common.{sym, subst, arith}
use Rattle.std.proofs.lemmas.Bool.{or_parts, and_parts, false≢true}
use Rattle.std.proofs.lemmas.Slice.Eq.{bytes_eq-Decides}
use Rattle.frp_tree.specs.declared.syntax.Event.{Event}
use Rattle.frp_tree.specs.Priorities.{IsPriority}
use Rattle.frp_tree.specs.Tree.{DeclTree, ProgramTree}
use Rattle.pic_isa.specs.declared.sources.Source.{Source}
use Rattle.pic_isa.specs.Sources.{sources, source_name}
use Rattle.efrp_meaning.specs.Causal.{IsCausalOn}
use Rattle.efrp_meaning.proofs.StateLaws.{reacts-to-a-state, runs-to-a-state}
use Rattle.efrp_types.specs.declared.faults.CheckFault.TheVariants.{Twice, UnknownSource, SourceTwice, BadPriority}
use Rattle.efrp_types.specs.NameFaults.{fault_if, is_source, is_event, is_decl, event_faults, decl_faults, input_faults, item_faults, expression_faults, each_after, setup_faults}
use Rattle.efrp_types.specs.Laws.{NoFaultIsGood, PassedReacts, PassedRuns}
use Rattle.efrp_types.proofs.NodeLaws.{both-none, fault-false}
use Rattle.efrp_types.proofs.ListFacts.{none-after, differ}
use Rattle.efrp_types.proofs.TypedLaws.{no-fault-is-typed}

not-false : (b : Bool) → not b ≡ false → b ≡ true
not-false true e = refl
not-false false e = absurd (false≢true (sym e))

-- The parts of an event's faults, where there is none.
record NoEventFault (before : List Event) (e : Event) : Type 0 where
  new : is_event before e.name ≡ false
  known : is_source e.source ≡ true
  other : list_any (λ (b : Event). bytes_eq e.source b.source) before ≡ false
  ranked : IsPriority e.priority

no-event-fault : (before : List Event) (e : Event) → event_faults before e ≡ [] → NoEventFault before e
no-event-fault before e none =
    let a = both-none (fault_if (is_event before e.name) (Twice e.name)) _ none in
    let b = both-none (fault_if (not (is_source e.source)) (UnknownSource e.source)) _ a.1 in
    let c = both-none (fault_if (list_any (λ (b : Event). bytes_eq e.source b.source) before) (SourceTwice e.source)) _ b.1 in
    let d = and_parts (nat_le 1 e.priority) (nat_le e.priority 11) (not-false _ (fault-false (not (nat_le 1 e.priority && nat_le e.priority 11)) (BadPriority e.name e.priority) c.1)) in
    let low = d.0 in
    let high = d.1 in
    record {
      new = fault-false _ _ a.0;
      known = not-false _ (fault-false _ _ b.0);
      other = fault-false _ _ c.0;
      ranked = (grind (arith, low), grind (arith, high));
    }

pub no-decl-fault : (events : List Event) (before : List DeclTree) (d : DeclTree) → decl_faults events before d ≡ [] → is_decl before d.name ≡ false
no-decl-fault events before d none =
    (or_parts (is_event events d.name) (is_decl before d.name) (fault-false (is_event events d.name || is_decl before d.name) (Twice d.name) (both-none _ (input_faults d.behaviour) none).0)).1

-- A name that some source has.
among : (name : List ℕ) (ss : List Source) → list_any (λ source. bytes_eq name (source_name source)) ss ≡ true → (source : Source) × (name ≡ source_name source)
among name [] found = absurd (false≢true found)
among name (s ∷ ss) found = by_name (bytes_eq name (source_name s)) refl found (among name ss)
  where
    by_name : (b : Bool) → bytes_eq name (source_name s) ≡ b → (b || list_any (λ source. bytes_eq name (source_name source)) ss) ≡ true
        → (list_any (λ source. bytes_eq name (source_name source)) ss ≡ true → (source : Source) × (name ≡ source_name source)) → (source : Source) × (name ≡ source_name source)
    by_name true e found rest = (s, (bytes_eq-Decides name (source_name s)).0 e)
    by_name false e found rest = rest found

pub no-fault-is-good : (p : ProgramTree) → NoFaultIsGood p
no-fault-is-good p names =
    let items = both-none (each_after event_faults [] p.events) _ (both-none (item_faults p) (expression_faults p) names).0 in
    let decls = both-none (each_after (decl_faults p.events) [] p.decls) _ (both-none (flat_map setup_faults p.setups) _ items.1).1 in
    record {
      decls_differ = differ (λ (d : DeclTree). d.name) (decl_faults p.events) (no-decl-fault p.events) p.decls decls.0;
      events_differ = differ (λ (e : Event). e.name) event_faults (λ before e none. (no-event-fault before e none).new) p.events items.0;
      sources_differ = differ (λ (e : Event). e.source) event_faults (λ before e none. (no-event-fault before e none).other) p.events items.0;
      sources_exist = none-after event_faults (λ (e : Event). (source : Source) × (e.source ≡ source_name source)) (λ before e none. among e.source sources (no-event-fault before e none).known) [] p.events items.0;
      priorities = none-after event_faults (λ (e : Event). IsPriority e.priority) (λ before e none. (no-event-fault before e none).ranked) [] p.events items.0;
    }

-- On each of its events a program is causal.
causal-on : (p : ProgramTree) (event : List ℕ) (es : List Event) → AllByRecursion (λ (e : Event). IsCausalOn p e.name) es → is_event es event ≡ true → IsCausalOn p event
causal-on p event [] causal found = absurd (false≢true found)
causal-on p event (e ∷ es) causal found = by_name (bytes_eq event e.name) refl found (causal-on p event es causal.1)
  where
    by_name : (b : Bool) → bytes_eq event e.name ≡ b → (b || is_event es event) ≡ true → (is_event es event ≡ true → IsCausalOn p event) → IsCausalOn p event
    by_name true same found rest = subst (IsCausalOn p) (sym ((bytes_eq-Decides event e.name).0 same)) causal.0
    by_name false same found rest = rest found

pub passed-reacts : (p : ProgramTree) → PassedReacts p
passed-reacts p s j event formed passes found is_state are_samples =
    reacts-to-a-state p s j event (no-fault-is-typed p formed passes.checked.names passes.checked.types).0 (no-fault-is-good p passes.checked.names).decls_differ is_state are_samples
    (causal-on p event p.events passes.causal found)

pub passed-runs : (p : ProgramTree) → PassedRuns p
passed-runs p events formed passes are =
    runs-to-a-state p events (no-fault-is-typed p formed passes.checked.names passes.checked.types).0 (no-fault-is-good p passes.checked.names).decls_differ passes.causal are
