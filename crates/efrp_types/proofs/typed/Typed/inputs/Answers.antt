use Rattle.std.specs.Prelude.{length, filter}
use Rattle.std.proofs.Common.{ap, arith, ◌∙◌}
use Rattle.frp_tree.specs.declared.syntax.Decl.{Decl}
use Rattle.frp_tree.specs.Tree.{behaviour_of, program_tree_of}
use Rattle.efrp_meaning.specs.Decls.{is_input}
use Rattle.efrp_types.proofs.NumberLaws.{few_inputs, inputs_in_memory}
use Rattle.efrp_types.proofs.typed.Typed.inputs.Goals as goal

pub overflow_cast-result : goal.overflow_cast-result
overflow_cast-result c =
    let are =
    c.inputs_among.ensures
    ∙ ap (λ ds. length (filter (λ (d : Decl). is_input (behaviour_of d.behaviour)) ds)) c.as_slice.ensures
    ∙ inputs_in_memory c.args.self.now.program.decls in
    let few = few_inputs (program_tree_of c.args.self.now.program) in
    let most = c.args.self.now.formed.written.decls in
    omega (arith, are, few, most)

pub returns : goal.returns
returns c =
    c.inputs_among.ensures
    ∙ ap (λ ds. length (filter (λ (d : Decl). is_input (behaviour_of d.behaviour)) ds)) c.as_slice.ensures
    ∙ inputs_in_memory c.args.self.now.program.decls
