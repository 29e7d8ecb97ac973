use Rattle.std.proofs.Common.{◌∙◌, ap}
use Rattle.text_parts.specs.Fields.{parts_of}
use Rattle.text_parts.proofs.CutLaws.{split-cut, split-last}
use Rattle.map_file.specs.FieldWords.{parts_left}
use Rattle.map_file.proofs.fields.Fields.next.Goals as goal

pub returns-in-Some : goal.returns-in-Some
returns-in-Some c =
    let cut = c.in-Some.ensures in
    ap parts_left c.in_ok-rest.was ∙ ap parts_of cut.1 ∙ split-cut 32 c.in-Some.field.now c.in-Some.more.now cut.0

pub returns-in-None : goal.returns-in-None
returns-in-None c = ap parts_left c.in_ok-rest.was ∙ split-last 32 c.in_ok-rest.rest.now c.in-None.ensures
