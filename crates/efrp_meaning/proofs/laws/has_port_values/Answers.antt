use Rattle.efrp_meaning.proofs.StateLaws.{has-port-values}
use Rattle.efrp_meaning.proofs.laws.has_port_values.Goals as goal

pub returns : goal.returns
returns c = has-port-values
