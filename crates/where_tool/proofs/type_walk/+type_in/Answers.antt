use Rattle.std.proofs.Common.{refl, subst, arith}
use Rattle.frp_tree.specs.Tree.{decl_of, program_tree_of, tree_of}
use Rattle.efrp_types.specs.Ready.{IsFit}
use Rattle.where_tool.proofs.TypeFacts.{unary-halts, unary-typed, convert-halts, convert-typed, look-halts, look-named, name-typed, shift-halts, shift-typed, right-halts, binary-halts, binary-typed, second-halts, last-halts, if-halts, if-typed}
use Rattle.where_tool.proofs.WalkFacts.{handed, handed-first}
use Rattle.where_tool.proofs.type_walk.+type_in.Goals as goal

pub returns-in_err-ty-in-Const : goal.returns-in_err-ty-in-Const
returns-in_err-ty-in-Const t c = rw c.in-Const.is (handed _ _ _ c.from_residual.result c.from_residual.ensures.1 (c.in_err-ty-in-Const.ensures _ _ (c.literal.ensures (program_tree_of c.args.p.now))))

pub returns-in_ok-ty-in-Const : goal.returns-in_ok-ty-in-Const
returns-in_ok-ty-in-Const t c =
    let walked = c.in_ok-ty-in-Const.ensures _ _ (c.literal.ensures (program_tree_of c.args.p.now)) in
    rw c.in-Const.is (walked.0, record { ty = walked.1; own = omega arith; next = refl })

pub returns-in-Name : goal.returns-in-Name
returns-in-Name t c =
    rw c.in-Name.is (name-typed (program_tree_of c.args.p.now) c.args.owner.now c.args.host c.in-Name.x (decl_of c.decl.result.now) c.args.node c.decl.ensures (subst (λ e. IsFit (program_tree_of c.args.p.now) (tree_of e)) c.in-Name.is c.requires.fit))

pub returns-in_err-a-in-Unary : goal.returns-in_err-a-in-Unary
returns-in_err-a-in-Unary t c =
    rw c.in-Unary.is (handed-first _ _ _ _ c.from_residual-in_err-a-in-Unary.result c.from_residual-in_err-a-in-Unary.ensures.1 (rw c.deref.ensures at c.in_err-a-in-Unary.ensures))

pub returns-in_err-ty-in-Unary : goal.returns-in_err-ty-in-Unary
returns-in_err-ty-in-Unary t c =
    rw c.in-Unary.is (handed _ _ _ c.from_residual-in_err-ty-in-Unary.result c.from_residual-in_err-ty-in-Unary.ensures.1 (unary-halts (program_tree_of c.args.p.now) c.args.owner.now c.args.host c.in-Unary.op (tree_of c.in-Unary.a.value) c.args.node c.in_ok-a-in-Unary.a _ (rw c.deref.ensures at c.in_ok-a-in-Unary.ensures) (c.in_err-ty-in-Unary.ensures _ _ c.unary.ensures)))

pub returns-in_ok-ty-in-Unary : goal.returns-in_ok-ty-in-Unary
returns-in_ok-ty-in-Unary t c =
    rw c.in-Unary.is (unary-typed (program_tree_of c.args.p.now) c.args.owner.now c.args.host c.in-Unary.op (tree_of c.in-Unary.a.value) c.args.node c.in_ok-a-in-Unary.a c.in_ok-ty-in-Unary.ty (rw c.deref.ensures at c.in_ok-a-in-Unary.ensures) (c.in_ok-ty-in-Unary.ensures _ _ c.unary.ensures))

pub returns-in_err-a-in-Convert : goal.returns-in_err-a-in-Convert
returns-in_err-a-in-Convert t c =
    rw c.in-Convert.is (handed-first _ _ _ _ c.from_residual-in_err-a-in-Convert.result c.from_residual-in_err-a-in-Convert.ensures.1 (rw c.deref-in-Convert.ensures at c.in_err-a-in-Convert.ensures))

pub returns-in_err-ty-in-Convert : goal.returns-in_err-ty-in-Convert
returns-in_err-ty-in-Convert t c =
    rw c.in-Convert.is (handed _ _ _ c.from_residual-in_err-ty-in-Convert.result c.from_residual-in_err-ty-in-Convert.ensures.1 (convert-halts (program_tree_of c.args.p.now) c.args.owner.now c.args.host c.in-Convert.to (tree_of c.in-Convert.a.value) c.args.node c.in_ok-a-in-Convert.a _ (rw c.deref-in-Convert.ensures at c.in_ok-a-in-Convert.ensures) (c.in_err-ty-in-Convert.ensures _ _ c.convert.ensures)))

pub returns-in_ok-ty-in-Convert : goal.returns-in_ok-ty-in-Convert
returns-in_ok-ty-in-Convert t c =
    rw c.in-Convert.is (convert-typed (program_tree_of c.args.p.now) c.args.owner.now c.args.host c.in-Convert.to (tree_of c.in-Convert.a.value) c.args.node c.in_ok-a-in-Convert.a c.in_ok-ty-in-Convert.ty (rw c.deref-in-Convert.ensures at c.in_ok-a-in-Convert.ensures) (c.in_ok-ty-in-Convert.ensures _ _ c.convert.ensures))

pub returns-in_err-a-in-Shift : goal.returns-in_err-a-in-Shift
returns-in_err-a-in-Shift t c =
    rw c.in-Shift.is (handed-first _ _ _ _ c.from_residual-in_err-a-in-Shift.result c.from_residual-in_err-a-in-Shift.ensures.1 (rw c.deref-in-Shift.ensures at c.in_err-a-in-Shift.ensures))

pub returns-in_err-ty-in-Shift : goal.returns-in_err-ty-in-Shift
returns-in_err-ty-in-Shift t c =
    rw c.in-Shift.is (handed _ _ _ c.from_residual-in_err-ty-in-Shift.result c.from_residual-in_err-ty-in-Shift.ensures.1 (shift-halts (program_tree_of c.args.p.now) c.args.owner.now c.args.host c.in-Shift.field-0 (tree_of c.in-Shift.a.value) c.in-Shift.amount c.args.node c.in_ok-a-in-Shift.a _ (rw c.deref-in-Shift.ensures at c.in_ok-a-in-Shift.ensures) (c.in_err-ty-in-Shift.ensures _ _ c.shift.ensures)))

pub returns-in_ok-ty-in-Shift : goal.returns-in_ok-ty-in-Shift
returns-in_ok-ty-in-Shift t c =
    rw c.in-Shift.is (shift-typed (program_tree_of c.args.p.now) c.args.owner.now c.args.host c.in-Shift.field-0 (tree_of c.in-Shift.a.value) c.in-Shift.amount c.args.node c.in_ok-a-in-Shift.a c.in_ok-ty-in-Shift.ty (rw c.deref-in-Shift.ensures at c.in_ok-a-in-Shift.ensures) (c.in_ok-ty-in-Shift.ensures _ _ c.shift.ensures))

pub returns-in_err-a-in-Binary : goal.returns-in_err-a-in-Binary
returns-in_err-a-in-Binary t c =
    rw c.in-Binary.is (handed-first _ _ _ _ c.from_residual-in_err-a-in-Binary.result c.from_residual-in_err-a-in-Binary.ensures.1 (rw c.deref-in-Binary.ensures at c.in_err-a-in-Binary.ensures))

pub returns-in_err-b-in-Binary : goal.returns-in_err-b-in-Binary
returns-in_err-b-in-Binary t c =
    rw c.in-Binary.is (handed _ _ _ c.from_residual-in_err-b-in-Binary.result c.from_residual-in_err-b-in-Binary.ensures.1 (right-halts (program_tree_of c.args.p.now) c.args.owner.now c.args.host c.in-Binary.op (tree_of c.in-Binary.a.value) (tree_of c.in-Binary.b.value) c.args.node c.in_ok-a-in-Binary.a _ (rw c.deref-in-Binary.ensures at c.in_ok-a-in-Binary.ensures) (rw c.deref-in-Binary-2.ensures at c.in_err-b-in-Binary.ensures)))

pub returns-in_err-ty-in-Binary : goal.returns-in_err-ty-in-Binary
returns-in_err-ty-in-Binary t c =
    rw c.in-Binary.is (handed _ _ _ c.from_residual-in_err-ty-in-Binary.result c.from_residual-in_err-ty-in-Binary.ensures.1 (binary-halts (program_tree_of c.args.p.now) c.args.owner.now c.args.host c.in-Binary.op (tree_of c.in-Binary.a.value) (tree_of c.in-Binary.b.value) c.args.node c.in_ok-a-in-Binary.a c.in_ok-b-in-Binary.b _ (rw c.deref-in-Binary.ensures at c.in_ok-a-in-Binary.ensures) (rw c.deref-in-Binary-2.ensures at c.in_ok-b-in-Binary.ensures) (c.in_err-ty-in-Binary.ensures _ _ c.binary.ensures)))

pub returns-in_ok-ty-in-Binary : goal.returns-in_ok-ty-in-Binary
returns-in_ok-ty-in-Binary t c =
    rw c.in-Binary.is (binary-typed (program_tree_of c.args.p.now) c.args.owner.now c.args.host c.in-Binary.op (tree_of c.in-Binary.a.value) (tree_of c.in-Binary.b.value) c.args.node c.in_ok-a-in-Binary.a c.in_ok-b-in-Binary.b c.in_ok-ty-in-Binary.ty (rw c.deref-in-Binary.ensures at c.in_ok-a-in-Binary.ensures) (rw c.deref-in-Binary-2.ensures at c.in_ok-b-in-Binary.ensures) (c.in_ok-ty-in-Binary.ensures _ _ c.binary.ensures))

pub returns-in_err-c-in-If : goal.returns-in_err-c-in-If
returns-in_err-c-in-If t c =
    rw c.in-If.is (handed-first _ _ _ _ c.from_residual-in_err-c-in-If.result c.from_residual-in_err-c-in-If.ensures.1 (rw c.deref-in-If.ensures at c.in_err-c-in-If.ensures))

pub returns-in_err-a-in-If : goal.returns-in_err-a-in-If
returns-in_err-a-in-If t c =
    rw c.in-If.is (handed _ _ _ c.from_residual-in_err-a-in-If.result c.from_residual-in_err-a-in-If.ensures.1 (second-halts (program_tree_of c.args.p.now) c.args.owner.now c.args.host (tree_of c.in-If.c.value) (tree_of c.in-If.a.value) (tree_of c.in-If.b.value) c.args.node c.in_ok-c-in-If.c _ (rw c.deref-in-If.ensures at c.in_ok-c-in-If.ensures) (rw c.deref-in-If-2.ensures at c.in_err-a-in-If.ensures)))

pub returns-in_err-b-in-If : goal.returns-in_err-b-in-If
returns-in_err-b-in-If t c =
    rw c.in-If.is (handed _ _ _ c.from_residual-in_err-b-in-If.result c.from_residual-in_err-b-in-If.ensures.1 (last-halts (program_tree_of c.args.p.now) c.args.owner.now c.args.host (tree_of c.in-If.c.value) (tree_of c.in-If.a.value) (tree_of c.in-If.b.value) c.args.node c.in_ok-c-in-If.c c.in_ok-a-in-If.a _ (rw c.deref-in-If.ensures at c.in_ok-c-in-If.ensures) (rw c.deref-in-If-2.ensures at c.in_ok-a-in-If.ensures) (rw c.deref-in-If-3.ensures at c.in_err-b-in-If.ensures)))

pub returns-in_err-ty-in-If : goal.returns-in_err-ty-in-If
returns-in_err-ty-in-If t c =
    rw c.in-If.is (handed _ _ _ c.from_residual-in_err-ty-in-If.result c.from_residual-in_err-ty-in-If.ensures.1 (if-halts (program_tree_of c.args.p.now) c.args.owner.now c.args.host (tree_of c.in-If.c.value) (tree_of c.in-If.a.value) (tree_of c.in-If.b.value) c.args.node c.in_ok-c-in-If.c c.in_ok-a-in-If.a c.in_ok-b-in-If.b _ (rw c.deref-in-If.ensures at c.in_ok-c-in-If.ensures) (rw c.deref-in-If-2.ensures at c.in_ok-a-in-If.ensures) (rw c.deref-in-If-3.ensures at c.in_ok-b-in-If.ensures) (c.in_err-ty-in-If.ensures _ _ c.choice.ensures)))

pub returns-in_ok-ty-in-If : goal.returns-in_ok-ty-in-If
returns-in_ok-ty-in-If t c =
    rw c.in-If.is (if-typed (program_tree_of c.args.p.now) c.args.owner.now c.args.host (tree_of c.in-If.c.value) (tree_of c.in-If.a.value) (tree_of c.in-If.b.value) c.args.node c.in_ok-c-in-If.c c.in_ok-a-in-If.a c.in_ok-b-in-If.b c.in_ok-ty-in-If.ty (rw c.deref-in-If.ensures at c.in_ok-c-in-If.ensures) (rw c.deref-in-If-2.ensures at c.in_ok-a-in-If.ensures) (rw c.deref-in-If-3.ensures at c.in_ok-b-in-If.ensures) (c.in_ok-ty-in-If.ensures _ _ c.choice.ensures))

pub returns-in_err-index-in-Look : goal.returns-in_err-index-in-Look
returns-in_err-index-in-Look t c =
    rw c.in-Look.is (handed-first _ _ _ _ c.from_residual-in_err-index-in-Look.result c.from_residual-in_err-index-in-Look.ensures.1 (rw c.deref-in-Look.ensures at c.in_err-index-in-Look.ensures))

pub returns-in_err-met-in-Look : goal.returns-in_err-met-in-Look
returns-in_err-met-in-Look t c =
    rw c.in-Look.is (handed _ _ _ c.from_residual-in_err-met-in-Look.result c.from_residual-in_err-met-in-Look.ensures.1 (look-halts (program_tree_of c.args.p.now) c.args.owner.now c.args.host c.in-Look.table (tree_of c.in-Look.index.value) c.args.node c.in_ok-index-in-Look.index _ (rw c.deref-in-Look.ensures at c.in_ok-index-in-Look.ensures) (c.in_err-met-in-Look.ensures _ c.unlike.ensures)))

pub returns-in_ok-met-in-Look : goal.returns-in_ok-met-in-Look
returns-in_ok-met-in-Look t c =
    rw c.in-Look.is (look-named (program_tree_of c.args.p.now) c.args.owner.now c.args.host c.in-Look.table (tree_of c.in-Look.index.value) (decl_of c.decl-in-Look.result.now) c.args.node c.in_ok-index-in-Look.index
    c.decl-in-Look.ensures (subst (λ e. IsFit (program_tree_of c.args.p.now) (tree_of e)) c.in-Look.is c.requires.fit).0 (rw c.deref-in-Look.ensures at c.in_ok-index-in-Look.ensures) (c.in_ok-met-in-Look.ensures _ c.unlike.ensures).0)
