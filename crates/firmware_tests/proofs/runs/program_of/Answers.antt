use Rattle.firmware_tests.proofs.NameFacts.{read_has_names}
use Rattle.firmware_tests.proofs.runs.program_of.Goals as goal

pub returns : goal.returns
returns c = read_has_names c.as_bytes.result.now c.read.result c.read.ensures
