use Rattle.checked_source.proofs.ReadingLaws.{names-fault}
use Rattle.checked_source.proofs.reading.typed.Goals as goal

pub returns-in-Err : goal.returns-in-Err
returns-in-Err c = rw c.of_check.ensures (names-fault c.args.program c.in-Err.fault (rw c.in-Err.is at c.check_names.ensures.faults))
