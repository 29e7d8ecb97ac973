-- What is made of the expression is its lowering.
use Rattle.frp_tree.specs.Tree.{program_tree_of, tree_of}
use Rattle.expr_lower.proofs.CheckedFacts.{checked-typed}
use Rattle.expr_lower.proofs.LowerLaws.{can-lower, has-room, lowers, still-given}
use Rattle.expr_lower.proofs.lowering.lower.Goals as goal

pub put-requires-clause-can : goal.put-requires-clause-can
put-requires-clause-can c =
    rw c.as_slice.ensures.value
    (can-lower (program_tree_of c.args.c.now.typed.program) c.args.cells.now c.requires.cells (tree_of c.args.e.now) c.requires.typed.0 c.requires.typed.1 c.requires.no_look c.requires.named)

pub put-requires-clause-room : goal.put-requires-clause-room
put-requires-clause-room c =
    simp c.as_slice.ensures.value
    (has-room (program_tree_of c.args.c.now.typed.program) c.args.cells.now c.requires.cells (checked-typed c.args.c.now) (tree_of c.args.e.now) c.requires.typed.0 c.requires.typed.1 c.requires.no_look c.requires.named c.requires.room)

pub returns-clause-lowers : goal.returns-clause-lowers
returns-clause-lowers c t is =
    let adds = simp (c.as_slice.ensures.value, c.new.ensures) at c.in_ok-result.ensures in
    lowers (program_tree_of c.args.c.now.typed.program) c.args.cells.now c.requires.cells (checked-typed c.args.c.now) (tree_of c.args.e.now) t
    c.put.new.draft.ops c.in_ok-result.field-0 c.put.new.draft.next is c.requires.no_look c.requires.named adds.0 adds.1 adds.2

pub returns-clause-kept : goal.returns-clause-kept
returns-clause-kept c =
    let adds = simp (c.as_slice.ensures.value, c.new.ensures) at c.in_ok-result.ensures in
    still-given (program_tree_of c.args.c.now.typed.program) c.args.cells.now c.requires.cells (checked-typed c.args.c.now) (tree_of c.args.e.now) c.requires.typed.0
    c.put.new.draft.next c.requires.typed.1 c.requires.no_look c.requires.named c.requires.room adds.1
