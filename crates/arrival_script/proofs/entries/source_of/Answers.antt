use Rattle.arrival_script.proofs.SourceFacts.{named_answer, no_text-named}
use Rattle.arrival_script.proofs.entries.source_of.Goals as goal

pub returns-in-Ok : goal.returns-in-Ok
returns-in-Ok c = named_answer c.args.field.now c.in-Ok.name.now c.source_named.result c.in-Ok.ensures.cases.0 c.source_named.ensures.found c.source_named.ensures.none

pub returns-in-Err : goal.returns-in-Err
returns-in-Err c = no_text-named c.args.field.now c.in-Err.ensures.cases.0
