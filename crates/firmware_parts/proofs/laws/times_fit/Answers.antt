use Rattle.firmware_parts.proofs.TimesLaws.{times-quick, times-within}
use Rattle.firmware_parts.proofs.laws.times_fit.Goals as goal

pub returns-clause-within : goal.returns-clause-within
returns-clause-within c = times-within

pub returns-clause-quick : goal.returns-clause-quick
returns-clause-quick c = times-quick
