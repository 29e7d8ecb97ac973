use Rattle.std.proofs.Common.{refl}
use Rattle.frp_tree.specs.Tree.{program_tree_of, tree_of}
use Rattle.where_tool.proofs.UseFacts.{uses-two, uses-second, uses-three, uses-look}
use Rattle.where_tool.proofs.WalkFacts.{handed, handed-first, none-visited}
use Rattle.where_tool.proofs.name_walk.+uses.Goals as goal

pub returns-in-Const : goal.returns-in-Const
returns-in-Const t c = rw c.in-Const.is (none-visited, refl)

pub returns-in_err-met-in-Name : goal.returns-in_err-met-in-Name
returns-in_err-met-in-Name t c = rw c.in-Name.is (handed _ _ _ c.from_residual.result c.from_residual.ensures.1 (c.in_err-met-in-Name.ensures _ c.name.ensures))

pub returns-in_err-own-in-Binary : goal.returns-in_err-own-in-Binary
returns-in_err-own-in-Binary t c =
    rw c.in-Binary.is (handed-first _ _ _ _ c.from_residual-in_err-own-in-Binary.result c.from_residual-in_err-own-in-Binary.ensures.1 (rw c.deref-in-Binary.ensures at c.in_err-own-in-Binary.ensures))

pub returns-in_ok-own-in-Binary : goal.returns-in_ok-own-in-Binary
returns-in_ok-own-in-Binary t c =
    rw c.in-Binary.is (uses-two (program_tree_of c.args.p.now) c.args.host c.in-Binary.field-0 (tree_of c.in-Binary.a.value) (tree_of c.in-Binary.b.value) c.args.node c.in_ok-own-in-Binary.own c.uses-in-Binary-2.result
    (rw c.deref-in-Binary.ensures at c.in_ok-own-in-Binary.ensures) (rw c.deref-in-Binary-2.ensures at c.uses-in-Binary-2.ensures))

pub returns-in_err-second-in-If : goal.returns-in_err-second-in-If
returns-in_err-second-in-If t c =
    rw c.in-If.is (handed-first _ _ _ _ c.from_residual-in_err-second-in-If.result c.from_residual-in_err-second-in-If.ensures.1 (rw c.deref-in-If.ensures at c.in_err-second-in-If.ensures))

pub returns-in_err-last-in-If : goal.returns-in_err-last-in-If
returns-in_err-last-in-If t c =
    rw c.in-If.is (uses-second (program_tree_of c.args.p.now) c.args.host (tree_of c.in-If.c.value) (tree_of c.in-If.a.value) (tree_of c.in-If.b.value) c.args.node c.in_ok-second-in-If.second _ c.from_residual-in_err-last-in-If.result
    (rw c.deref-in-If.ensures at c.in_ok-second-in-If.ensures) c.from_residual-in_err-last-in-If.ensures.1 (rw c.deref-in-If-2.ensures at c.in_err-last-in-If.ensures))

pub returns-in_ok-last-in-If : goal.returns-in_ok-last-in-If
returns-in_ok-last-in-If t c =
    rw c.in-If.is (uses-three (program_tree_of c.args.p.now) c.args.host (tree_of c.in-If.c.value) (tree_of c.in-If.a.value) (tree_of c.in-If.b.value) c.args.node c.in_ok-second-in-If.second c.in_ok-last-in-If.last c.uses-in-If-3.result
    (rw c.deref-in-If.ensures at c.in_ok-second-in-If.ensures) (rw c.deref-in-If-2.ensures at c.in_ok-last-in-If.ensures) (rw c.deref-in-If-3.ensures at c.uses-in-If-3.ensures))

pub returns-in_err-met-in-Look : goal.returns-in_err-met-in-Look
returns-in_err-met-in-Look t c =
    rw c.in-Look.is (handed-first _ _ _ _ c.from_residual-in_err-met-in-Look.result c.from_residual-in_err-met-in-Look.ensures.1 (c.in_err-met-in-Look.ensures _ c.indexed.ensures))

pub returns-in_ok-met-in-Look : goal.returns-in_ok-met-in-Look
returns-in_ok-met-in-Look t c =
    let walked = c.in_ok-met-in-Look.ensures _ c.indexed.ensures in
    rw c.in-Look.is (uses-look (program_tree_of c.args.p.now) c.args.host c.in-Look.table (tree_of c.in-Look.index.value) c.args.node c.uses-in-Look.result walked.0 (rw c.deref-in-Look.ensures at c.uses-in-Look.ensures))
