use Rattle.std.proofs.Common.{sym, ap, ◌∙◌}
use Rattle.efrp_types.specs.NameFaults.{is_source}
use Rattle.efrp_types.proofs.SourceFacts.{found-source}
use Rattle.efrp_types.proofs.lookups.is_source.Goals as goal

pub returns : goal.returns
returns c = c.is_some.ensures ∙ sym (ap is_source (sym c.as_str.ensures) ∙ found-source c.as_str.result.now c.source_named.result c.source_named.ensures.found c.source_named.ensures.none)
