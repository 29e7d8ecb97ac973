use Rattle.std.proofs.Common.{arith}
use Rattle.large_run.proofs.RunFacts.{later-pending}
use Rattle.large_run.proofs.tallies.next_arrival.Goals as goal

pub returns-else-from-boundary-clause-set : goal.returns-else-from-boundary-clause-set
returns-else-from-boundary-clause-set c =
    later-pending c.args.pending.now c.args.boundary (record { at = 0; source = 0 }) c.requires.rise c.in-len1-up.len_at_least (λ e. let same = c.from.ensures in omega arith)
