use Rattle.efrp_syntax.proofs.PrintedFacts.{last_moved}
use Rattle.efrp_syntax.proofs.backward.Backward.put.Goals as goal

pub bytes-preserved : goal.bytes-preserved
bytes-preserved c = last_moved c.bytes.front.now c.bytes.self-inside.bytes.items _ _ _ c.in-len1-up.len_at_least c.in_ok-push.ensures.items c.bytes.invariant
