use Rattle.arrival_script.proofs.RunFacts.{later-pending}
use Rattle.arrival_script.proofs.tracer.next_arrivals.Goals as goal

pub returns-else-first-boundary-clause-set : goal.returns-else-first-boundary-clause-set
returns-else-first-boundary-clause-set c =
    later-pending c.args.pending.now c.args.boundary (record { at = 0; sources = 0 }) c.requires c.in-len1-up.len_at_least c.if-first-boundary.false
