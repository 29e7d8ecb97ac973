use Rattle.std.proofs.Common.{◌∙◌}
use Rattle.event_needs.proofs.needs.named.Goals as goal

pub returns : goal.returns
returns c = c.from_vec.ensures ∙ c.mark_plain.ensures
