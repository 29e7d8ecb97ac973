use Rattle.op_templates.proofs.TemplateLaws.{has-template}
use Rattle.op_templates.proofs.laws.templates_are_right.Goals as goal

pub returns : goal.returns
returns c = has-template
