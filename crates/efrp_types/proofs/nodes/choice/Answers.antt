use Rattle.efrp_types.proofs.AnswerLaws.{type-told, type-told-first, rest-type}
use Rattle.efrp_types.proofs.NodeFacts.{if-typed}
use Rattle.efrp_types.proofs.NodeLaws.{none-of-both}
use Rattle.efrp_types.proofs.nodes.choice.Goals as goal

pub returns-in_err-unlike : goal.returns-in_err-unlike
returns-in_err-unlike c = type-told-first _ _ _ _ c.from_residual.result c.from_residual.ensures.1 c.in_err-unlike.ensures

pub returns-in_err-unlike-2 : goal.returns-in_err-unlike-2
returns-in_err-unlike-2 c =
    rest-type _ _ _ _ c.in_ok-unlike.ensures (type-told _ _ _ c.from_residual-in_err-unlike-2.result c.from_residual-in_err-unlike-2.ensures.1 c.in_err-unlike-2.ensures)

pub returns : goal.returns
returns c = (none-of-both _ _ c.in_ok-unlike.ensures c.in_ok-unlike-2.ensures, if-typed c.args.owner.now c.args.c c.args.a c.args.b c.in_ok-unlike.ensures c.in_ok-unlike-2.ensures)
