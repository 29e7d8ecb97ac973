use Rattle.efrp_syntax.proofs.CuttingFacts.{lexed_only, lexed_none, lexed_fault}
use Rattle.efrp_syntax.proofs.lexer.lex.Goals as goal

pub returns-clause-only : goal.returns-clause-only
returns-clause-only c = lexed_only c.args.text.now c.cut.result c.cut.ensures

pub returns-clause-none : goal.returns-clause-none
returns-clause-none c = lexed_none c.args.text.now c.cut.result c.cut.ensures

pub returns-clause-fault : goal.returns-clause-fault
returns-clause-fault c = lexed_fault c.args.text.now c.cut.result c.cut.ensures
