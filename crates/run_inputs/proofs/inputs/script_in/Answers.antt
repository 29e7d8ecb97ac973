use Rattle.run_inputs.proofs.RunStepLaws.{script_refused}
use Rattle.run_inputs.proofs.inputs.script_in.Goals as goal

pub returns-in_ok-script_line-in-Err-Line : goal.returns-in_ok-script_line-in-Err-Line
returns-in_ok-script_line-in-Err-Line c =
    script_refused _ _ _ c.in-Err-Line.line c.in-Err-Line.cause c.in-Err-Line.field-0 c.as_slice.ensures c.in-Err-Line.field-0-is c.in-Err-Line.ensures c.in_ok-script_line-in-Err-Line.ensures
