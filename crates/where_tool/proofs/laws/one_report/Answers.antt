use Rattle.where_tool.proofs.SpotLaws.{one-report}
use Rattle.where_tool.proofs.laws.one_report.Goals as goal

pub returns : goal.returns
returns c = one-report
