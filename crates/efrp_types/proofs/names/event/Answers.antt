use Rattle.efrp_types.proofs.AnswerLaws.{told-first, rest-tells}
use Rattle.efrp_types.proofs.names.event.Goals as goal

pub returns-in_err-refuse_if : goal.returns-in_err-refuse_if
returns-in_err-refuse_if c = told-first _ _ _ c.from_residual.result c.from_residual.ensures.1 (rw c.is_event.ensures at c.in_err-refuse_if.ensures)

pub returns-in_err-refuse_if-2 : goal.returns-in_err-refuse_if-2
returns-in_err-refuse_if-2 c =
    rest-tells _ _ _ (rw c.is_event.ensures at c.in_ok-refuse_if.ensures)
    (told-first _ _ _ c.from_residual-in_err-refuse_if-2.result c.from_residual-in_err-refuse_if-2.ensures.1 (rw c.is_source.ensures at c.in_err-refuse_if-2.ensures))

pub returns-in_err-refuse_if-3 : goal.returns-in_err-refuse_if-3
returns-in_err-refuse_if-3 c =
    rest-tells _ _ _ (rw c.is_event.ensures at c.in_ok-refuse_if.ensures) (rest-tells _ _ _ (rw c.is_source.ensures at c.in_ok-refuse_if-2.ensures)
    (told-first _ _ _ c.from_residual-in_err-refuse_if-3.result c.from_residual-in_err-refuse_if-3.ensures.1 (rw c.is_taken.ensures at c.in_err-refuse_if-3.ensures)))
