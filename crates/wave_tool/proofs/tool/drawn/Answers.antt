use Rattle.std.proofs.Common.{refl}
use Rattle.wave_tool.proofs.tool.drawn.Goals as goal

pub returns-in_ok-stop_line-in-Err-Stopped : goal.returns-in_ok-stop_line-in-Err-Stopped
returns-in_ok-stop_line-in-Err-Stopped c =
    let h = rw c.in-Err-Stopped.field-0-is at c.in-Err-Stopped.ensures in
    (c.in-Err-Stopped.step, c.in-Err-Stopped.address, c.in-Err-Stopped.why, (h.0, h.1), refl, c.in_ok-stop_line-in-Err-Stopped.ensures)
