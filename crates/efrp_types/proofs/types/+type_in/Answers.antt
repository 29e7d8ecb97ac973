use Rattle.frp_tree.specs.Tree.{program_tree_of}
use Rattle.efrp_types.proofs.AnswerLaws.{type-told-first, rest-type}
use Rattle.efrp_types.proofs.types.+type_in.Goals as goal

pub returns-in-Const : goal.returns-in-Const
returns-in-Const t c = rw c.in-Const.is (c.literal.ensures (program_tree_of c.args.p.now))

pub returns-in_err-a-in-Unary : goal.returns-in_err-a-in-Unary
returns-in_err-a-in-Unary t c =
    rw c.in-Unary.is (type-told-first _ _ _ _ c.from_residual.result c.from_residual.ensures.1 (rw c.deref.ensures at c.in_err-a-in-Unary.ensures))

pub returns-in_err-a-in-Shift : goal.returns-in_err-a-in-Shift
returns-in_err-a-in-Shift t c =
    rw c.in-Shift.is (type-told-first _ _ _ _ c.from_residual-in_err-a-in-Shift.result c.from_residual-in_err-a-in-Shift.ensures.1 (rw c.deref-in-Shift.ensures at c.in_err-a-in-Shift.ensures))

pub returns-in_err-a-in-Convert : goal.returns-in_err-a-in-Convert
returns-in_err-a-in-Convert t c =
    rw c.in-Convert.is (type-told-first _ _ _ _ c.from_residual-in_err-a-in-Convert.result c.from_residual-in_err-a-in-Convert.ensures.1 (rw c.deref-in-Convert.ensures at c.in_err-a-in-Convert.ensures))

pub returns-in_err-index-in-Look : goal.returns-in_err-index-in-Look
returns-in_err-index-in-Look t c =
    rw c.in-Look.is (type-told-first _ _ _ _ c.from_residual-in_err-index-in-Look.result c.from_residual-in_err-index-in-Look.ensures.1 (rw c.deref-in-Look.ensures at c.in_err-index-in-Look.ensures))

pub returns-in_err-a-in-Binary : goal.returns-in_err-a-in-Binary
returns-in_err-a-in-Binary t c =
    rw c.in-Binary.is (type-told-first _ _ _ _ c.from_residual-in_err-a-in-Binary.result c.from_residual-in_err-a-in-Binary.ensures.1 (rw c.deref-in-Binary.ensures at c.in_err-a-in-Binary.ensures))

pub returns-in_err-b-in-Binary : goal.returns-in_err-b-in-Binary
returns-in_err-b-in-Binary t c =
    rw c.in-Binary.is (rest-type _ _ _ _ (rw c.deref-in-Binary.ensures at c.in_ok-a-in-Binary.ensures).0
    (type-told-first _ _ _ _ c.from_residual-in_err-b-in-Binary.result c.from_residual-in_err-b-in-Binary.ensures.1 (rw c.deref-in-Binary-2.ensures at c.in_err-b-in-Binary.ensures)))

pub returns-in_err-c-in-If : goal.returns-in_err-c-in-If
returns-in_err-c-in-If t c =
    rw c.in-If.is (type-told-first _ _ _ _ c.from_residual-in_err-c-in-If.result c.from_residual-in_err-c-in-If.ensures.1 (rw c.deref-in-If.ensures at c.in_err-c-in-If.ensures))

pub returns-in_err-a-in-If : goal.returns-in_err-a-in-If
returns-in_err-a-in-If t c =
    rw c.in-If.is (rest-type _ _ _ _ (rw c.deref-in-If.ensures at c.in_ok-c-in-If.ensures).0
    (type-told-first _ _ _ _ c.from_residual-in_err-a-in-If.result c.from_residual-in_err-a-in-If.ensures.1 (rw c.deref-in-If-2.ensures at c.in_err-a-in-If.ensures)))

pub returns-in_err-b-in-If : goal.returns-in_err-b-in-If
returns-in_err-b-in-If t c =
    rw c.in-If.is (rest-type _ _ _ _ (rw c.deref-in-If.ensures at c.in_ok-c-in-If.ensures).0
    (rest-type _ _ _ _ (rw c.deref-in-If-2.ensures at c.in_ok-a-in-If.ensures).0
    (type-told-first _ _ _ _ c.from_residual-in_err-b-in-If.result c.from_residual-in_err-b-in-If.ensures.1 (rw c.deref-in-If-3.ensures at c.in_err-b-in-If.ensures))))
