use Rattle.std.proofs.Common.{◌∙◌}
use Rattle.frp_tree.specs.Tree.{program_tree_of}
use Rattle.isr_vector.specs.Taking.{context_of}
use Rattle.isr_vector.proofs.TestLaws.{taking_added}
use Rattle.isr_vector.proofs.code.taking.Goals as goal

pub returns : goal.returns
returns c = λ source are.
    let p = program_tree_of c.args.c.now.typed.program in
    taking_added source (context_of p c.args.spread) c.context.result c.args.spread.pages c.args.order.now c.deref.result.now c.new-code.result.items c.add_lines.new.code.items
    c.as_slice.result.now c.extend_from_slice.new.self (c.context.ensures.status p c.requires.levels) (c.context.ensures.pclath p c.requires.levels)
    (c.deref.ensures.value ∙ c.in_ok-context.ensures) c.new-code.ensures c.in_ok-add_lines.ensures.ok (c.as_slice.ensures ∙ c.in_ok-tests.ensures source are)
    c.in_ok-extend_from_slice.ensures.ok
