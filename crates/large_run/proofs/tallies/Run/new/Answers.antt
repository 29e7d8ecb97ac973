use Rattle.std.proofs.Common.{refl}
use Rattle.large_run.proofs.RunFacts.{run-none}
use Rattle.large_run.proofs.tallies.Run.new.Goals as goal

pub returns-clause-begun : goal.returns-clause-begun
returns-clause-begun c = λ n m pending.
    run-none n c.args.image.now m _ c.power_on.ensures.chip c.power_on.ensures.memory pending c.requires.rise (record { latched = refl; merged = refl; commits = refl; deepest = refl })
