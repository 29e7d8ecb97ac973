use Rattle.code_tests.proofs.OperationFacts.{op_on}
use Rattle.code_tests.proofs.op_tests.do_op.Goals as goal

pub run-requires-clause-read_in : goal.run-requires-clause-read_in
run-requires-clause-read_in c = rw c.told-cells (op_on 352 c.args.op.now c.requires).read_in

pub run-requires-clause-written_in : goal.run-requires-clause-written_in
run-requires-clause-written_in c = rw c.told-cells (op_on 352 c.args.op.now c.requires).written_in

pub run-requires-clause-apart : goal.run-requires-clause-apart
run-requires-clause-apart c = (op_on 352 c.args.op.now c.requires).apart

pub run-requires-clause-kind : goal.run-requires-clause-kind
run-requires-clause-kind c = (op_on 352 c.args.op.now c.requires).kind

pub run-requires-clause-differ : goal.run-requires-clause-differ
run-requires-clause-differ c = (op_on 352 c.args.op.now c.requires).differ
