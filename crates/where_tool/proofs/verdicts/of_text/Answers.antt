use Rattle.where_tool.specs.Verdicts.{Faultless}
use Rattle.where_tool.proofs.PointFacts.{ok-map}
use Rattle.where_tool.proofs.verdicts.of_text.Goals as goal

pub returns-in-Ok : goal.returns-in-Ok
returns-in-Ok c = ok-map _ _ c.faultless.result (λ told verdict. (Faultless, (_, c.in-Ok.ensures), verdict)) c.faultless.ensures
