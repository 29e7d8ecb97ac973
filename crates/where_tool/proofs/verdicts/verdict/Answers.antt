use Rattle.where_tool.proofs.verdicts.verdict.Goals as goal

pub returns-clause-works : goal.returns-clause-works
returns-clause-works g c = c.of_read.ensures (g.F.Files.seen c.args.files.now) (g.F.Files.seen c.input-read.new.files) c.input-read.ensures.gives
