use Rattle.std.proofs.Common.{sym, ap, ◌∙◌, ◌∷◌}
use Rattle.std.specs.Str.Lines.{lines}
use Rattle.text_parts.proofs.CutLaws.{lines-cut, lines-last}
use Rattle.text_parts.proofs.lines.next_line.Goals as goal

pub returns-in-Some-clause-line : goal.returns-in-Some-clause-line
returns-in-Some-clause-line c =
    lines-cut c.args.text.now c.in-Some.line.now c.in-Some.rest.now c.in-Some.ensures.0 c.in-Some.ensures.1
    ∙ ap (λ line. line ∷ lines c.in-Some.rest.now) (sym c.without_return.ensures)

pub returns-in-None-2-clause-line : goal.returns-in-None-2-clause-line
returns-in-None-2-clause-line c = lines-last c.args.text.now c.in-None.ensures (sym c.if-is_empty.ensures)
