use Rattle.std.proofs.Common.{◌<◌, length, arith, ap, ◌∙◌, string_bytes, add-one}
use Rattle.std.proofs.lemmas.List.{length-map}
use Rattle.frp_tree.specs.Tree.{output_of, program_tree_of}
use Rattle.efrp_types.specs.declared.typed.Typed.{Typed}
use Rattle.reaction_model.specs.States.{numbers_of}
use Rattle.frp_tool.proofs.SerialTextFacts.{values_count, ports_count, same_lines, told_more}
use Rattle.frp_tool.proofs.models.text_of.Goals as goal

pub add_init-requires : goal.add_init-requires
add_init-requires c = rw (c.typed.ensures, c.as_slice.ensures) (values_count (program_tree_of c.args.checked.now.typed.program) c.in_ok-state.state.values c.in_ok-state.ensures.1)

pub add_reaction-requires-clause-values : goal.add_reaction-requires-clause-values
add_reaction-requires-clause-values c =
    rw (c.typed-in-loop-o.ensures, c.as_slice-in-loop-o-2.ensures) (values_count (program_tree_of c.args.checked.now.typed.program) c.in_ok-reaction.reaction.state.values c.in_ok-reaction.ensures.1)

pub add_reaction-requires-clause-ports : goal.add_reaction-requires-clause-ports
add_reaction-requires-clause-ports c =
    let program = c.args.checked.now.typed.program in
    rw (c.typed-in-loop-o.ensures, c.as_slice-in-loop-o-3.ensures)
    (ports_count (program_tree_of program) _ _ _ (record { state = numbers_of c.in_ok-reaction.reaction.state.values; ports = c.in_ok-reaction.reaction.ports }) c.in_ok-reaction.ensures.0 ∙ length-map program.outputs output_of)

pub loop-o-preserved : goal.loop-o-preserved
loop-o-preserved c =
    let p = program_tree_of c.args.checked.now.typed.program in
    let o = c.o-item.result in
    let reaction = c.in_ok-reaction.reaction in
    let inside : c.loop-o.o-index < length c.args.events.now = omega arith in
    let reacts = rw c.as_slice-in-loop-o.ensures at c.in_ok-reaction.ensures.0 in
    let lines = same_lines p (program_tree_of c.typed-in-loop-o.result.now.program) (string_bytes c.loop-o.text) (string_bytes c.add_reaction.new.text) o.event reaction.state.values c.as_slice-in-loop-o-2.result.now reaction.ports
    c.as_slice-in-loop-o-3.result.now (ap (λ (t : Typed). program_tree_of t.program) c.typed-in-loop-o.ensures) c.as_slice-in-loop-o-2.ensures c.as_slice-in-loop-o-3.ensures c.in_ok-add_reaction.ensures in
    rw add-one
    (told_more p c.args.events.now c.loop-o.o-index (string_bytes c.loop-o.text) c.loop-o.state.values c.loop-o.invariant o inside c.o-item.is (string_bytes c.add_reaction.new.text) reaction.state.values reaction.ports reacts
    c.in_ok-reaction.ensures.1 lines)
