use Rattle.std.proofs.Common.{List, map, ap, sym, subst, ◌∙◌}
use Rattle.std.specs.List.{AllByRecursion}
use Rattle.std.proofs.lemmas.List.{take_all}
use Rattle.frp_tree.specs.declared.syntax.Output.{Output}
use Rattle.frp_tree.specs.Tree.{output_of, program_tree_of}
use Rattle.pic_isa.specs.Names.{port_at}
use Rattle.event_ops.proofs.PortLaws.{HasPort, outputs-have-ports}
use Rattle.firmware_map.proofs.PortFacts.{none-missing, ports-of}
use Rattle.firmware_map.proofs.maps.outputs.Goals as goal

pub unreachable-requires : goal.unreachable-requires
unreachable-requires c =
    let typed = c.typed.result.now in
    let all = c.as_slice-outputs.ensures ∙ ap (λ x. x.outputs) c.program.ensures in
    let have = subst (λ (os : List Output). AllByRecursion HasPort (map output_of os)) (sym all) (outputs-have-ports (program_tree_of typed.program) typed.checked.names) in
    none-missing c.as_slice-outputs.result.now c.loop-output.output-index c.output-item.result have c.loop-output-test.true c.output-item.is
    (ap port_at (sym c.as_str.ensures) ∙ sym c.port_named.ensures ∙ c.in-None.is)

pub returns : goal.returns
returns c =
    let same = c.as_slice-outputs.ensures ∙ ap (λ x. x.outputs) (c.program.ensures ∙ ap (λ t. t.program) c.typed.ensures) in
    c.loop-output.invariant
    ∙ ap (map (λ (o : Output). port_at o.port)) (take_all c.loop-output.output-index c.as_slice-outputs.result.now c.loop-output-test.false ∙ same)
    ∙ sym (ports-of c.args.uses.now.c.now.typed.program.outputs)
