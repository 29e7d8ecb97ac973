use Rattle.std.proofs.Common.{subst}
use Rattle.std.proofs.lemmas.Result.{IfOk-weaker}
use Rattle.byte_ops.specs.declared.operations.Pair.{Pair}
use Rattle.frp_tree.specs.Tree.{program_tree_of, tree_of}
use Rattle.event_ops.specs.Drafts.{Lasting, MovesPair, moved_pair}
use Rattle.event_ops.proofs.PieceFacts.{lasting-room, moves-lasting}
use Rattle.event_ops.proofs.drafts.Draft.add_lasting.Goals as goal

pub lasting-requires : goal.lasting-requires
lasting-requires c =
    let t = c.requires.can.typed in
    let pair = c.in_ok-pair.pair in
    lasting-room (program_tree_of c.args.c.now.typed.program) c.args.self.now c.add.new.self c.add.new.self (tree_of c.args.e.now) t.0 pair pair (c.in_ok-pair.ensures t.0 t.1) c.requires.can.old
    c.args.wide (c.requires.wide t.0 t.1) c.requires.can.room

pub returns : goal.returns
returns c t is =
    let p = program_tree_of c.args.c.now.typed.program in
    let e = tree_of c.args.e.now in
    let pair = c.in_ok-pair.pair in
    let middle = c.add.new.self in
    let after = c.lasting.new.self in
    IfOk-weaker c.lasting.result (MovesPair middle after (moved_pair c.args.wide middle.states middle.cells.next pair)) (Lasting p c.args.self.now after e t)
    (λ (at : Pair) moves.
    moves-lasting p c.args.self.now middle after e t pair at (c.in_ok-pair.ensures t is) c.requires.can.old
    (subst (λ w. MovesPair middle after (moved_pair w middle.states middle.cells.next pair) at) (c.requires.wide t is) moves))
    c.lasting.ensures
