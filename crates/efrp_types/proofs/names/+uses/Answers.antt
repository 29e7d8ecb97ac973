use Rattle.efrp_types.proofs.AnswerLaws.{told-first, rest-tells}
use Rattle.efrp_types.proofs.names.+uses.Goals as goal

pub returns-in_err-uses-in-Binary : goal.returns-in_err-uses-in-Binary
returns-in_err-uses-in-Binary t c =
    rw c.in-Binary.is (told-first _ _ _ c.from_residual.result c.from_residual.ensures.1 (rw c.deref-in-Binary.ensures at c.in_err-uses-in-Binary.ensures))

pub returns-in_err-uses-in-If : goal.returns-in_err-uses-in-If
returns-in_err-uses-in-If t c =
    rw c.in-If.is (told-first _ _ _ c.from_residual-in_err-uses-in-If.result c.from_residual-in_err-uses-in-If.ensures.1 (rw c.deref-in-If.ensures at c.in_err-uses-in-If.ensures))

pub returns-in_err-uses-in-If-2 : goal.returns-in_err-uses-in-If-2
returns-in_err-uses-in-If-2 t c =
    rw c.in-If.is (rest-tells _ _ _ (rw c.deref-in-If.ensures at c.in_ok-uses-in-If.ensures)
    (told-first _ _ _ c.from_residual-in_err-uses-in-If-2.result c.from_residual-in_err-uses-in-If-2.ensures.1 (rw c.deref-in-If-2.ensures at c.in_err-uses-in-If-2.ensures)))

pub returns-in_err-indexed-in-Look : goal.returns-in_err-indexed-in-Look
returns-in_err-indexed-in-Look t c =
    rw c.in-Look.is (told-first _ _ _ c.from_residual-in_err-indexed-in-Look.result c.from_residual-in_err-indexed-in-Look.ensures.1 c.in_err-indexed-in-Look.ensures)
