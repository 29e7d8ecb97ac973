use Rattle.std.proofs.Common.{ap}
use Rattle.pic_machine.specs.Boundary.{Step}
use Rattle.code_steps.proofs.OwnLaws.{own_boundary}
use Rattle.code_steps.proofs.laws.own_step_is_a_boundary.Goals as goal

pub returns : goal.returns
returns c = λ program outer x done quiet is.
    let e = own_boundary program outer x done quiet.0 is quiet.1 in
    (ap (λ (s : Step). s.after) e, ap (λ (s : Step). s.wrote) e, ap (λ (s : Step). s.port) e)
