use Rattle.code_acts.proofs.RunLaws.{run-append}
use Rattle.code_acts.proofs.laws.run_in_parts.Goals as goal

pub returns : goal.returns
returns c = run-append
