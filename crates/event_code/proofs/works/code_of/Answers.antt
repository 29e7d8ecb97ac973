use Rattle.std.proofs.Common.{◌++◌, get_or, ap, ◌∙◌}
use Rattle.std.proofs.lemmas.List.{take_more}
use Rattle.byte_ops.specs.declared.operations.Op.TheVariants.{Set}
use Rattle.event_code.proofs.CodeFacts.{one-behind}
use Rattle.event_code.proofs.works.code_of.Goals as goal

pub loop-op-preserved : goal.loop-op-preserved
loop-op-preserved c =
    let ops = c.args.ops.now in
    let k = c.loop-op.op-index in
    let code = c.in_ok-coded.coded.code.items in
    one-behind ops k (get_or ops k (Set 0 0)) c.args.places.now.need c.loop-op.bank c.in_ok-coded.coded.bank c.loop-op.code.items code c.extend_from_slice.new.self
    (take_more ops k (Set 0 0) c.loop-op-test.true) c.loop-op.invariant c.in_ok-coded.ensures
    (c.in_ok-extend_from_slice.ensures.ok ∙ ap (λ items. c.loop-op.code.items ++ items) c.as_slice.ensures)
