use Rattle.std.proofs.Common.{◌≡◌, ◌++◌, drop}
use Rattle.std.specs.List.{flat_map}
use Rattle.frp_tree.specs.declared.syntax.Value.{Value}
use Rattle.efrp_meaning.specs.Values.{number_of}
use Rattle.reaction_model.specs.Values.{type_of_value}
use Rattle.isr_vector.specs.Booting.{bytes_of_value}
use Rattle.isr_vector.proofs.boot.bytes_of.Given as goal

-- the bytes so far and those of the values to come are all
abbrev pub invariant-loop-value : goal.invariant-loop-value
invariant-loop-value l =
    l.bytes.items ++ flat_map (λ (v : Value). bytes_of_value (type_of_value v) (number_of v)) (drop l.value-index l.values)
    ≡ flat_map (λ (v : Value). bytes_of_value (type_of_value v) (number_of v)) l.values
