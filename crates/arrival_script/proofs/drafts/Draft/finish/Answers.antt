use Rattle.std.proofs.Common.{sym, ◌∙◌}
use Rattle.arrival_script.proofs.DraftFacts.{ends-past, ends-well}
use Rattle.arrival_script.proofs.drafts.Draft.finish.Goals as goal

pub returns-in-Some-past_number : goal.returns-in-Some-past_number
returns-in-Some-past_number c = λ told is. ends-past c.args.count told c.args.self c.in-Some.steps c.in-Some-past_number.line is c.in-Some.is (sym c.past_number.ensures ∙ c.in-Some-past_number.is)

pub returns-in-None : goal.returns-in-None
returns-in-None c = λ told is. ends-well c.args.count told c.args.self c.in-Some.steps is c.in-Some.is (sym c.past_number.ensures ∙ c.in-None.is)
