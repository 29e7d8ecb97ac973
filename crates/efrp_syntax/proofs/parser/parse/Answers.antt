use Rattle.efrp_syntax.proofs.ParsedFacts.{parsed_exits, spelled_exits, fault_exits, tokens_few, told_parsed, told_fault, spells_tree}
use Rattle.efrp_syntax.proofs.parser.parse.Goals as goal

pub returns-in_err-tokens-clause-parsed : goal.returns-in_err-tokens-clause-parsed
returns-in_err-tokens-clause-parsed c = parsed_exits _ _ _ c.from_residual.ensures.1 c.in_err-tokens.ensures.lexed

pub returns-in_err-tokens-clause-spelled : goal.returns-in_err-tokens-clause-spelled
returns-in_err-tokens-clause-spelled c = spelled_exits _ _ _ c.from_residual.ensures.1 c.in_err-tokens.ensures.lexed

pub returns-in_err-tokens-clause-fault : goal.returns-in_err-tokens-clause-fault
returns-in_err-tokens-clause-fault c = fault_exits _ _ _ c.from_residual.ensures.1 c.in_err-tokens.ensures.lexed

pub tree-requires : goal.tree-requires
tree-requires c = rw (c.as_slice.ensures) (tokens_few _ _ c.in_ok-tokens.ensures.lexed)

pub returns-clause-parsed : goal.returns-clause-parsed
returns-clause-parsed c = told_parsed _ _ _ c.in_ok-tokens.ensures.lexed (rw (← c.as_slice.ensures) c.tree.ensures.told)

pub returns-clause-spelled : goal.returns-clause-spelled
returns-clause-spelled c = λ q s. c.tree.ensures.only q (rw (c.as_slice.ensures) (spells_tree _ _ q c.in_ok-tokens.ensures.lexed s))

pub returns-clause-fault : goal.returns-clause-fault
returns-clause-fault c = told_fault _ _ _ c.in_ok-tokens.ensures.lexed (rw (← c.as_slice.ensures) c.tree.ensures.told)
