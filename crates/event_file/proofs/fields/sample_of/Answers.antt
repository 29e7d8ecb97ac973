use Rattle.text_parts.specs.Fields.{fields_of}
use Rattle.frp_tree.specs.Tree.{decl_of}
use Rattle.event_file.proofs.FieldFacts.{no-sample, one-sample}
use Rattle.event_file.proofs.fields.sample_of.Goals as goal

pub returns-in-None : goal.returns-in-None
returns-in-None c = no-sample (fields_of c.args.text.now) (decl_of c.args.d.now) c.in-None.ensures

pub returns-in-None-first_given : goal.returns-in-None-first_given
returns-in-None-first_given c = one-sample (fields_of c.args.text.now) (decl_of c.args.d.now) c.in-Some.byte (fields_of c.in-Some.rest.now) c.in-Some.ensures c.in-None-first_given.ensures
