use Rattle.std.proofs.Common.{sym, ap, ◌∙◌, ◌+◌}
use Rattle.arrival_script.proofs.SourceFacts.{number_of-more, number_of-same}
use Rattle.arrival_script.proofs.entries.with.Goals as goal

pub returns-then-has : goal.returns-then-has
returns-then-has c = number_of-same c.args.set c.args.source c.requires (sym c.has.ensures ∙ c.if-has.true)

pub returns-else-has : goal.returns-else-has
returns-else-has c = ap (λ bit. c.args.set + bit) c.bit_of.ensures ∙ number_of-more c.args.set c.args.source c.requires (sym c.has.ensures ∙ c.if-has.false)
