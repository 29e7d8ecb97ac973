use Rattle.code_tests.proofs.OperationFacts.{items_fit, items_once}
use Rattle.code_tests.proofs.event_tests.work.Goals as goal

pub returns-clause-fit : goal.returns-clause-fit
returns-clause-fit c = let does = c.in_ok-work.ensures.code in items_fit c.in_ok-work.work.coded.code.items does.instrs does.are

pub returns-clause-once : goal.returns-clause-once
returns-clause-once c = let does = c.in_ok-work.ensures.code in items_once c.in_ok-work.work.coded.code.items does.instrs does.are
