use Rattle.where_tool.proofs.part_tokens.before_nodes.Goals as goal

pub returns-in-Decl-clause-is : goal.returns-in-Decl-clause-is
returns-in-Decl-clause-is c = λ cells spelled noted. rw c.in-Decl.is (c.head.ensures.is cells noted)

pub returns-in-Clause-clause-is : goal.returns-in-Clause-clause-is
returns-in-Clause-clause-is c = λ cells spelled noted. rw c.in-Clause.is (c.arrow.ensures.is cells spelled noted)

pub returns-in-Output-clause-is : goal.returns-in-Output-clause-is
returns-in-Output-clause-is c = λ cells spelled noted. rw c.in-Output.is (c.head-in-Output.ensures.is cells noted)
