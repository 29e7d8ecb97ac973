use Rattle.std.proofs.Common.{refl}
use Rattle.part_tests.proofs.row_tests.pushed_back.Goals as goal

pub push_back-requires-clause-free : goal.push_back-requires-clause-free
push_back-requires-clause-free c = c.in-None.ensures.none.0 refl
