use Rattle.code_tests.proofs.OperationFacts.{items_fit, items_once, op_on}
use Rattle.code_tests.proofs.op_tests.coded.Goals as goal

pub code_in-requires-clause-read_in : goal.code_in-requires-clause-read_in
code_in-requires-clause-read_in c = rw c.requires.all (op_on 352 c.args.op.now c.requires.on).read_in

pub code_in-requires-clause-written_in : goal.code_in-requires-clause-written_in
code_in-requires-clause-written_in c = rw c.requires.all (op_on 352 c.args.op.now c.requires.on).written_in

pub code_in-requires-clause-apart : goal.code_in-requires-clause-apart
code_in-requires-clause-apart c = (op_on 352 c.args.op.now c.requires.on).apart

pub code_in-requires-clause-kind : goal.code_in-requires-clause-kind
code_in-requires-clause-kind c = (op_on 352 c.args.op.now c.requires.on).kind

pub code_in-requires-clause-byte : goal.code_in-requires-clause-byte
code_in-requires-clause-byte c = (op_on 352 c.args.op.now c.requires.on).byte

pub code_in-requires-clause-differ : goal.code_in-requires-clause-differ
code_in-requires-clause-differ c = (op_on 352 c.args.op.now c.requires.on).differ

pub returns-clause-fit : goal.returns-clause-fit
returns-clause-fit c = let does = c.in_ok-coded.ensures in items_fit c.in_ok-coded.coded.code.items does.instrs does.are

pub returns-clause-once : goal.returns-clause-once
returns-clause-once c = let does = c.in_ok-coded.ensures in items_once c.in_ok-coded.coded.code.items does.instrs does.are
