use Rattle.checked_source.proofs.ReadingLaws.{spells-only, parses-fault}
use Rattle.checked_source.proofs.reading.program.Goals as goal

pub returns-in-Ok : goal.returns-in-Ok
returns-in-Ok c =
    let told = c.parse.ensures in
    spells-only c.args.text.now c.parse.result told.parsed told.spelled told.fault c.in-Ok.program c.in-Ok.is

pub returns-in-Err : goal.returns-in-Err
returns-in-Err c =
    let told = c.parse.ensures in
    rw c.of_syntax.ensures (parses-fault c.args.text.now c.parse.result told.parsed told.spelled told.fault c.in-Err.fault c.in-Err.is)
