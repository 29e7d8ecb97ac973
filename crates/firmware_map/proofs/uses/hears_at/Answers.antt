use Rattle.std.proofs.Common.{sym, ◌∙◌}
use Rattle.firmware_map.proofs.NameFacts.{source-unnamed}
use Rattle.firmware_map.proofs.uses.hears_at.Goals as goal

pub returns-in-None : goal.returns-in-None
returns-in-None c = sym (source-unnamed c.args.address c.args.event.now.source (λ s same. c.in-None.ensures.none s (c.as_str.ensures ∙ same)))
