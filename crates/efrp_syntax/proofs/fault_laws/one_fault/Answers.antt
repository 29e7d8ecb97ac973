use Rattle.efrp_syntax.proofs.ParsedFacts.{fault_once, spells_no_fault}
use Rattle.efrp_syntax.proofs.fault_laws.one_fault.Goals as goal

pub returns-clause-once : goal.returns-clause-once
returns-clause-once c = fault_once

pub returns-clause-none : goal.returns-clause-none
returns-clause-none c = spells_no_fault
