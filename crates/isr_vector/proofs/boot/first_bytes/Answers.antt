use Rattle.std.proofs.Common.{◌≡◌, IfOk, ap, subst, ◌∙◌}
use Rattle.std.specs.List.{flat_map}
use Rattle.frp_tree.specs.declared.syntax.Value.{Value}
use Rattle.frp_tree.specs.Tree.{program_tree_of}
use Rattle.efrp_meaning.specs.Values.{number_of}
use Rattle.reaction_model.specs.Values.{type_of_value}
use Rattle.isr_vector.specs.Booting.{bytes_of_value}
use Rattle.isr_vector.proofs.BootFacts.{first-bytes}
use Rattle.isr_vector.proofs.boot.first_bytes.Goals as goal

pub returns : goal.returns
returns c =
    subst (λ xs. IfOk c.bytes_of.result (λ bytes. bytes.items ≡ xs))
    (ap (flat_map (λ (v : Value). bytes_of_value (type_of_value v) (number_of v))) c.as_slice.ensures
    ∙ first-bytes (program_tree_of c.args.c.now.typed.program) c.in_ok-state.state.values c.in_ok-state.ensures.0 c.in_ok-state.ensures.1)
    c.bytes_of.ensures
