use Rattle.std.proofs.Common.{sym, ◌∙◌}
use Rattle.text_parts.proofs.CutLaws.{fields-cut, fields-last}
use Rattle.text_parts.proofs.fields.next_field.Goals as goal

pub returns-in-Some-clause-field : goal.returns-in-Some-clause-field
returns-in-Some-clause-field c =
    sym c.behind_spaces-text.ensures.same
    ∙ fields-cut c.behind_spaces-text.result.now c.in-Some.field.now c.in-Some.rest.now c.behind_spaces-text.ensures.begins c.in-Some.ensures.0 c.in-Some.ensures.1

pub returns-in-None-2-clause-field : goal.returns-in-None-2-clause-field
returns-in-None-2-clause-field c =
    sym c.behind_spaces-text.ensures.same ∙ fields-last c.behind_spaces-text.result.now c.in-None.ensures (sym c.if-is_empty.ensures)
