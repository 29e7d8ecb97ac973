-- Lines of a model's text that are written part by part.
use Rattle.std.proofs.Common.{◌≡◌, ℕ, ◌<◌, List, [], ◌∷◌, ◌++◌, length, get_or, map, Some, None, Result, Ok, Err, OnOk, codes, refl, sym, ap, ◌∙◌}
use Rattle.std.specs.List.{flat_map, zip}
use Rattle.std.specs.Fmt.{decimal}
use Rattle.std.proofs.lemmas.List.{append_assoc}
use Rattle.std.proofs.lemmas.Option.{slice_get-get_or}
use Rattle.frp_tree.specs.declared.syntax.Event.{Event}
use Rattle.frp_tree.specs.Tree.{DeclTree, ProgramTree}
use Rattle.map_file.specs.MapText.{line}
use Rattle.efrp_meaning.specs.Decls.{reactive_decls}
use Rattle.efrp_meaning.specs.Meaning.{State}
use Rattle.efrp_types.specs.Numbers.{event_name}
use Rattle.event_file.specs.Model.{values_in, reaction_lines}
use Rattle.event_file.specs.Written.{value_field, named_values, port_lines}

pub on_ok : {E : Type 0} {P Q : Type 0} (answer : Result (Unit {0}) E) → (P → Q) → OnOk answer P → OnOk answer Q
on_ok (Ok done) f p = f p
on_ok (Err e) f p = tt

-- A line is its first field, the others after a space each, and LF.
line-fields : (first : List ℕ) (fields : List (List ℕ)) → line (first ∷ fields) ≡ first ++ (flat_map (λ field. codes " " ++ field) fields ++ codes "\n")
line-fields first [] = refl
line-fields first (field ∷ fields) =
    ap (λ l. first ++ (codes " " ++ l)) (line-fields field fields)
    ∙ ap (λ l. first ++ (codes " " ++ l)) (sym (append_assoc field (flat_map (λ f. codes " " ++ f) fields) (codes "\n")))

spaced-values : (pairs : List (DeclTree × ℕ)) → flat_map (λ field. codes " " ++ field) (map (λ pair. pair.0.name ++ codes "=" ++ decimal pair.1) pairs) ≡ flat_map (λ pair. codes " " ++ value_field pair.0.name pair.1) pairs
spaced-values [] = refl
spaced-values (pair ∷ pairs) = ap (λ l. (codes " " ++ value_field pair.0.name pair.1) ++ l) (spaced-values pairs)

values-line : (p : ProgramTree) (first : List ℕ) (s : State) → line (first ∷ values_in p s) ≡ first ++ (named_values p.decls s ++ codes "\n")
values-line p first s = line-fields first (values_in p s) ∙ ap (λ l. first ++ (l ++ codes "\n")) (spaced-values (zip (reactive_decls p) s))

-- The line of the first state.
pub init-written : (p : ProgramTree) (s : State) (old begun new : List ℕ) → begun ≡ old ++ codes "init" → new ≡ begun ++ (named_values p.decls s ++ codes "\n") → new ≡ old ++ line (codes "init" ∷ values_in p s)
init-written p s old begun new b n =
    n ∙ ap (λ l. l ++ (named_values p.decls s ++ codes "\n")) b ∙ append_assoc old (codes "init") (named_values p.decls s ++ codes "\n") ∙ ap (λ l. old ++ l) (sym (values-line p (codes "init") s))

-- The lines of a reaction.
pub reaction-written : (p : ProgramTree) (event : ℕ) (name : List ℕ) (s : State) (ports old put begun new : List ℕ) → event_name p event ≡ name → put ≡ old ++ port_lines p.outputs ports → begun ≡ put ++ (codes "commit " ++ name)
    → new ≡ begun ++ (named_values p.decls s ++ codes "\n") → new ≡ old ++ reaction_lines p (event_name p event) (record { state = s; ports = ports })
reaction-written p event name s ports old put begun new e u b n =
    let tail : List ℕ = named_values p.decls s ++ codes "\n" in
    let commit : line (codes "commit" ∷ event_name p event ∷ values_in p s) ≡ codes "commit " ++ (name ++ tail) =
    ap (λ x. line (codes "commit" ∷ x ∷ values_in p s)) e ∙ ap (λ l. codes "commit " ++ l) (values-line p name s) in
    n ∙ ap (λ l. l ++ tail) b ∙ append_assoc put (codes "commit " ++ name) tail ∙ ap (λ l. l ++ ((codes "commit " ++ name) ++ tail)) u
    ∙ append_assoc old (port_lines p.outputs ports) ((codes "commit " ++ name) ++ tail)
    ∙ ap (λ l. old ++ (port_lines p.outputs ports ++ l)) (append_assoc (codes "commit ") name tail ∙ sym commit)

-- The name of the event that stands at a place.
pub event-named : (p : ProgramTree) (es : List Event) (i n : ℕ) (e : Event) → es ≡ p.events → i ≡ n → n < length p.events → e ≡ get_or es i e → event_name p n ≡ e.name
event-named p es i n e same place inside at =
    let here : get_or p.events n e ≡ e = sym (at ∙ ap (λ k. get_or es k e) place ∙ ap (λ (xs : List Event). get_or xs n e) same) in
    ap (λ o. elim o as (λ _. List ℕ) [ Some x ↦ x.name | None ↦ [] ]) (slice_get-get_or p.events n e inside ∙ ap (λ x. Some x) here)
