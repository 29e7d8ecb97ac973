-- The parts of a model's text, as they are added to it.
use Rattle.std.specs.Prelude.{ℕ, List, [], ◌∷◌, ◌++◌, filter, codes}
use Rattle.std.specs.List.{flat_map, zip}
use Rattle.std.specs.Fmt.{decimal}
use Rattle.text_parts.specs.Digits.{hex2}
use Rattle.frp_tree.specs.Tree.{DeclTree, OutputTree}
use Rattle.map_file.specs.MapText.{line}
use Rattle.efrp_meaning.specs.Decls.{is_reactive}

-- A name and its value.
abbrev pub value_field : List ℕ → ℕ → List ℕ
value_field name value = name ++ codes "=" ++ decimal value

-- The reactive ones among definitions with their values, each after a space.
abbrev pub named_values : List DeclTree → List ℕ → List ℕ
named_values decls values = flat_map (λ pair. codes " " ++ value_field pair.0.name pair.1) (zip (filter (λ d. is_reactive d.behaviour) decls) values)

-- What an output puts on its port, and what all do.
abbrev pub port_line : List ℕ → ℕ → List ℕ
port_line port byte = line (codes "port" ∷ port ∷ hex2 byte ∷ [])

abbrev pub port_lines : List OutputTree → List ℕ → List ℕ
port_lines outputs ports = flat_map (λ pair. port_line pair.0.port pair.1) (zip outputs ports)
