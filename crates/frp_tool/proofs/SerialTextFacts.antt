-- The text of a model as it grows, reaction by reaction.
use Rattle.std.proofs.Common.{◌≡◌, ℕ, suc, ◌<◌, List, [], ◌∷◌, ◌++◌, length, get_or, drop, map, Option, Some, None, refl, ap, sym, ◌∙◌, subst}
use Rattle.std.specs.Prelude.{option_map, option_and_then}
use Rattle.std.specs.List.{AllByRecursion}
use Rattle.std.proofs.Math.Seq.{drop-cons}
use Rattle.std.proofs.lemmas.List.{append_assoc, length-map}
use Rattle.frp_tree.specs.declared.syntax.Ty.{Ty}
use Rattle.frp_tree.specs.declared.syntax.Value.{Value}
use Rattle.frp_tree.specs.Tree.{DeclTree, ProgramTree}
use Rattle.efrp_meaning.specs.Decls.{reactive_decls}
use Rattle.efrp_meaning.specs.Meaning.{State, Samples, Reaction, Occurrence, map_two, all_defined, new_state, port_values, expression_on, depth, react}
use Rattle.efrp_types.specs.Numbers.{event_name}
use Rattle.event_file.specs.declared.occurrences.Occurrence.{Occurrence as Found}
use Rattle.event_file.specs.Model.{reaction_lines, reactions_from, model_text}
use Rattle.event_file.specs.Reads.{IsFound, occurrence_of}
use Rattle.reaction_model.specs.States.{AreOf, HasTypes, numbers_of}

-- There is a value for each reactive definition.
count_of : (ts : List Ty) (vs : List Value) → AreOf ts vs → length vs ≡ length ts
count_of [] [] are = refl
count_of [] (v ∷ vs) are = absurd are
count_of (t ∷ ts) [] are = absurd are
count_of (t ∷ ts) (v ∷ vs) are = ap (λ n. suc n) (count_of ts vs are.1)

pub values_count : (p : ProgramTree) (values : List Value) → HasTypes p values → length values ≡ length (reactive_decls p)
values_count p values typed = count_of (map (λ (d : DeclTree). d.ty) (reactive_decls p)) values typed ∙ length-map (reactive_decls p) (λ (d : DeclTree). d.ty)

-- There is a byte for each output.
count_defined : (os : List (Option ℕ)) (ns : List ℕ) → all_defined os ≡ Some ns → length ns ≡ length os
count_defined [] ns is = let none : [] ≡ ns = cc in ap length (sym none)
count_defined (None ∷ os) ns is = absurd cc
count_defined (Some n ∷ os) ns is = go (all_defined os) is (count_defined os)
  where
    go : (rest : Option (List ℕ)) → map_two (λ m ms. m ∷ ms) (Some n) rest ≡ Some ns → ((ms : List ℕ) → rest ≡ Some ms → length ms ≡ length os) → length ns ≡ length (Some n ∷ os)
    go None whole count = absurd cc
    go (Some ms) whole count = let same : n ∷ ms ≡ ns = cc in ap length (sym same) ∙ ap (λ k. suc k) (count ms refl)

ports_of : (new : Option State) (values : Option (List ℕ)) (r : Reaction) → map_two (λ s vs. record { state = s; ports = vs }) new values ≡ Some r → values ≡ Some r.ports
ports_of None values r is = absurd cc
ports_of (Some s) None r is = absurd cc
ports_of (Some s) (Some vs) r is = let same : record { state = s; ports = vs } ≡ r = cc in ap (λ (x : Reaction). Some x.ports) same

pub ports_count : (p : ProgramTree) (s : State) (j : Samples) (event : List ℕ) (r : Reaction) → react p s j event ≡ Some r → length r.ports ≡ length p.outputs
ports_count p s j event r is =
    let values : port_values p s j event ≡ Some r.ports = ports_of (new_state p s j event) (port_values p s j event) r is in
    count_defined (map (λ o. expression_on p s j event o.expr None (depth p)) p.outputs) r.ports values ∙ length-map p.outputs (λ o. expression_on p s j event o.expr None (depth p))

-- The lines of a reaction, by equal parts.
pub same_lines : (p q : ProgramTree) (old new : List ℕ) (event : ℕ) (values values' : List Value) (ports ports' : List ℕ) → q ≡ p → values' ≡ values → ports' ≡ ports
    → new ≡ old ++ reaction_lines q (event_name q event) (record { state = numbers_of values'; ports = ports' }) → new ≡ old ++ reaction_lines p (event_name p event) (record { state = numbers_of values; ports = ports })
same_lines p q old new event values values' ports ports' program state bytes is =
    is
    ∙ ap (λ (x : ProgramTree). old ++ reaction_lines x (event_name x event) (record { state = numbers_of values'; ports = ports' })) program
    ∙ ap (λ (vs : List Value). old ++ reaction_lines p (event_name p event) (record { state = numbers_of vs; ports = ports' })) state
    ∙ ap (λ (bs : List ℕ). old ++ reaction_lines p (event_name p event) (record { state = numbers_of values; ports = bs })) bytes

-- What stands in the text, and behind it the reactions that are left.
abbrev pub with_rest : ProgramTree → List ℕ → State → List Occurrence → Option (List ℕ)
with_rest p text s events = option_map (λ rest. text ++ rest) (reactions_from p s events)

joined : (front lines : List ℕ) (o : Option (List ℕ)) → option_map (λ rest. front ++ rest) (option_map (λ rest. lines ++ rest) o) ≡ option_map (λ rest. (front ++ lines) ++ rest) o
joined front lines None = refl
joined front lines (Some rest) = ap (λ bytes. Some bytes) (sym (append_assoc front lines rest))

one_reaction : (p : ProgramTree) (text : List ℕ) (s : State) (o : Occurrence) (more : List Occurrence) (r : Reaction) → react p s o.samples o.event ≡ Some r
    → with_rest p text s (o ∷ more) ≡ with_rest p (text ++ reaction_lines p o.event r) r.state more
one_reaction p text s o more r is =
    ap (λ (x : Option Reaction). option_map (λ rest. text ++ rest) (option_and_then (λ q. option_map (λ rest. reaction_lines p o.event q ++ rest) (reactions_from p q.state more)) x)) is
    ∙ joined text (reaction_lines p o.event r) (reactions_from p r.state more)

-- The text after the reactions to this many events.
pub record ToldSoFar (p : ProgramTree) (events : List Found) (i : ℕ) (text : List ℕ) (values : List Value) : Type 0 where
  pub told : with_rest p text (numbers_of values) (map (occurrence_of p) (drop i events)) ≡ model_text p (map (occurrence_of p) events)
  pub typed : HasTypes p values
  pub found : AllByRecursion (IsFound p) (drop i events)

module _ (p : ProgramTree) (events : List Found) where
  -- The event that is next, and those behind it.
  module _ (i : ℕ) (text : List ℕ) (values : List Value) (so_far : ToldSoFar p events i text values) (o : Found) (inside : i < length events) (at : o ≡ get_or events i o) where
    next : drop i events ≡ o ∷ drop (suc i) events
    next = drop-cons events i o inside ∙ ap (λ x. x ∷ drop (suc i) events) (sym at)

    found_all : IsFound p o × AllByRecursion (IsFound p) (drop (suc i) events)
    found_all = subst (AllByRecursion (IsFound p)) next so_far.found

    pub told_more : (text' : List ℕ) (values' : List Value) (ports : List ℕ) → react p (numbers_of values) o.samples (event_name p o.event) ≡ Some (record { state = numbers_of values'; ports = ports }) → HasTypes p values'
        → text' ≡ text ++ reaction_lines p (event_name p o.event) (record { state = numbers_of values'; ports = ports }) → ToldSoFar p events (suc i) text' values'
    told_more text' values' ports reacts typed is =
        let more : List Occurrence = map (occurrence_of p) (drop (suc i) events) in
        record {
          told =
              ap (λ (front : List ℕ). with_rest p front (numbers_of values') more) is
              ∙ sym (one_reaction p text (numbers_of values) (occurrence_of p o) more (record { state = numbers_of values'; ports = ports }) reacts)
              ∙ ap (λ (xs : List Found). with_rest p text (numbers_of values) (map (occurrence_of p) xs)) (sym next)
              ∙ so_far.told;
          typed = typed;
          found = found_all.1;
        }
