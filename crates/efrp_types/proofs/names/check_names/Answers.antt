use Rattle.efrp_types.proofs.AnswerLaws.{told, told-first, rest-tells}
use Rattle.efrp_types.proofs.NodeLaws.{none-of-both}
use Rattle.efrp_types.proofs.names.check_names.Goals as goal

pub returns-in_err-items-clause-faults : goal.returns-in_err-items-clause-faults
returns-in_err-items-clause-faults c = told-first _ _ _ c.from_residual.result c.from_residual.ensures.1 c.in_err-items.ensures

pub returns-in_err-expressions-clause-faults : goal.returns-in_err-expressions-clause-faults
returns-in_err-expressions-clause-faults c =
    rest-tells _ _ _ c.in_ok-items.ensures (told _ _ c.from_residual-in_err-expressions.result c.from_residual-in_err-expressions.ensures.1 c.in_err-expressions.ensures)

pub of_program-requires : goal.of_program-requires
of_program-requires c = none-of-both _ _ c.in_ok-items.ensures c.in_ok-expressions.ensures

pub returns-clause-faults : goal.returns-clause-faults
returns-clause-faults c = none-of-both _ _ c.in_ok-items.ensures c.in_ok-expressions.ensures
