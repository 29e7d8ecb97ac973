-- The text of a model: the reactions to events, one after the other.
use Rattle.std.specs.Prelude.{ℕ, List, [], ◌∷◌, ◌++◌, map, Option, Some, option_map, option_and_then, codes}
use Rattle.std.specs.List.{flat_map, zip}
use Rattle.std.specs.Fmt.{decimal}
use Rattle.text_parts.specs.Digits.{hex2}
use Rattle.frp_tree.specs.Tree.{ProgramTree}
use Rattle.efrp_meaning.specs.Decls.{reactive_decls}
use Rattle.efrp_meaning.specs.Meaning.{State, Reaction, Occurrence, react, initial_state}
use Rattle.map_file.specs.MapText.{line}

-- The reactive definitions' names, in declaration order, each with its value in decimal; a bool is 0 or 1.
abbrev pub values_in : ProgramTree → State → List (List ℕ)
values_in p s = map (λ pair. pair.0.name ++ codes "=" ++ decimal pair.1) (zip (reactive_decls p) s)

-- The lines of a reaction: what each output puts on its port, in order, and the new state.
abbrev pub reaction_lines : ProgramTree → List ℕ → Reaction → List ℕ
reaction_lines p event r =
    flat_map (λ pair. line (codes "port" ∷ pair.0.port ∷ hex2 pair.1 ∷ [])) (zip p.outputs r.ports) ++ line (codes "commit" ∷ event ∷ values_in p r.state)

-- The lines of the reactions to these events with their samples, one after the other, from a state on. Undefined where
-- one reaction is.
abbrev pub reactions_from : ProgramTree → State → List Occurrence → Option (List ℕ)
reactions_from p s [] = Some []
reactions_from p s (o ∷ events) =
    option_and_then (λ r. option_map (λ rest. reaction_lines p o.event r ++ rest) (reactions_from p r.state events)) (react p s o.samples o.event)

-- The model text of a program and events: the initial state, and then the reactions.
abbrev pub model_text : ProgramTree → List Occurrence → Option (List ℕ)
model_text p events =
    option_and_then (λ s. option_map (λ rest. line (codes "init" ∷ values_in p s) ++ rest) (reactions_from p s events)) (initial_state p)
