use Rattle.arrival_script.proofs.PortFacts.{port_answer, no_text-port}
use Rattle.arrival_script.proofs.entries.port_of.Goals as goal

pub returns-in-Ok : goal.returns-in-Ok
returns-in-Ok c = port_answer c.in-Ok.name.now c.args.field.now c.port_named.result c.in-Ok.ensures.cases.0 c.port_named.ensures

pub returns-in-Err : goal.returns-in-Err
returns-in-Err c = no_text-port c.args.field.now c.in-Err.ensures.cases.0
