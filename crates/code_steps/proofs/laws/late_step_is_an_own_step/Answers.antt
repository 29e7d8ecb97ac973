use Rattle.std.proofs.Common.{ap}
use Rattle.pic_machine.specs.Boundary.{Step}
use Rattle.code_steps.proofs.OwnLaws.{own_late}
use Rattle.code_steps.proofs.laws.late_step_is_an_own_step.Goals as goal

pub returns : goal.returns
returns c = λ program outer x done none_due request late is.
    let e = own_late program outer x done none_due is request late in
    (ap (λ (s : Step). s.after) e, ap (λ (s : Step). s.wrote) e, ap (λ (s : Step). s.port) e)
