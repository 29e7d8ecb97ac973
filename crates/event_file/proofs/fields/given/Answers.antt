use Rattle.std.proofs.Common.{◌∙◌}
use Rattle.frp_tree.specs.Tree.{decl_of}
use Rattle.event_file.proofs.FieldFacts.{gives-none, gives-value}
use Rattle.event_file.proofs.fields.given.Goals as goal

pub returns-in-Some : goal.returns-in-Some
returns-in-Some c =
    gives-value c.args.field.now (decl_of c.args.d.now) c.as_bytes.result.now c.in-Some.value.now c.value_of.result (c.as_bytes.ensures.value ∙ c.as_str.ensures)
    c.in-Some.ensures.cases.0 c.in-Some.ensures.cases.1 c.value_of.ensures

pub returns-in-None : goal.returns-in-None
returns-in-None c = gives-none c.args.field.now (decl_of c.args.d.now) c.as_bytes.result.now (c.as_bytes.ensures.value ∙ c.as_str.ensures) c.in-None.ensures.cases
