use Rattle.causality.proofs.sorts.put_if.Goals as goal

pub push_back-requires-clause-free : goal.push_back-requires-clause-free
push_back-requires-clause-free c = c.requires.free c.if-is_ready.true
