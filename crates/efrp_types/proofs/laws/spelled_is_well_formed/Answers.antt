use Rattle.efrp_types.proofs.FormedLaws.{spelled-is-well-formed}
use Rattle.efrp_types.proofs.laws.spelled_is_well_formed.Goals as goal

pub returns : goal.returns
returns c = spelled-is-well-formed
