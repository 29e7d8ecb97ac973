use Rattle.run_inputs.proofs.RunStepLaws.{hex_refused}
use Rattle.run_inputs.proofs.inputs.image_in.Goals as goal

pub returns-in_ok-hex_line-in-Err : goal.returns-in_ok-hex_line-in-Err
returns-in_ok-hex_line-in-Err c = hex_refused _ _ _ c.in-Err.fault c.as_slice.ensures c.in_ok-hex_line-in-Err.ensures c.in-Err.ensures.fault
