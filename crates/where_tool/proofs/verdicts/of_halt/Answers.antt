use Rattle.where_tool.proofs.verdicts.of_halt.Goals as goal

pub returns-in-Said : goal.returns-in-Said
returns-in-Said c = λ before after gives. let (why, is, due, says) = rw c.in-Said.is at gives in c.of_unread.ensures before after why is due says

pub returns-in-PutFailed : goal.returns-in-PutFailed
returns-in-PutFailed c = λ before after gives. rw c.in-PutFailed.is at gives

pub returns-in-Memory : goal.returns-in-Memory
returns-in-Memory c = λ before after gives. tt
