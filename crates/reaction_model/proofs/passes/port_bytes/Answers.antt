use Rattle.std.specs.Prelude.{map}
use Rattle.std.proofs.Common.{sym, ap, ◌∙◌}
use Rattle.std.proofs.lemmas.Simd.{map-map}
use Rattle.frp_tree.specs.declared.syntax.Output.{Output}
use Rattle.frp_tree.specs.declared.syntax.Program.{Program}
use Rattle.frp_tree.specs.Tree.{OutputTree, output_of, program_tree_of, tree_of}
use Rattle.reaction_model.specs.Values.{byte_of, value_of}
use Rattle.reaction_model.proofs.RowFacts.{whole}
use Rattle.reaction_model.proofs.passes.port_bytes.Goals as goal

pub returns : goal.returns
returns c =
    let typed = c.args.typed.now in
    let p = program_tree_of typed.program in
    let all = whole c.as_slice-o-items.result.now typed.program.outputs c.loop-o.o-index (c.as_slice-o-items.ensures ∙ ap (λ (q : Program). q.outputs) c.program.ensures) c.loop-o-test.false in
    c.loop-o.invariant ∙ ap (map (λ (o : Output). byte_of (value_of p c.args.values.now (tree_of o.expr)))) all ∙ sym (map-map (λ (o : OutputTree). byte_of (value_of p c.args.values.now o.expr)) output_of typed.program.outputs)
