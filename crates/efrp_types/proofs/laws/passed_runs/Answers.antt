use Rattle.efrp_types.proofs.GoodLaws.{passed-runs}
use Rattle.efrp_types.proofs.laws.passed_runs.Goals as goal

pub returns : goal.returns
returns c = passed-runs
