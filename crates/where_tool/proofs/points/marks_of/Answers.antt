use Rattle.std.proofs.Common.{sym, ◌∙◌}
use Rattle.where_tool.proofs.PointFacts.{marks}
use Rattle.where_tool.proofs.points.marks_of.Goals as goal

pub tokens_of-requires : goal.tokens_of-requires
tokens_of-requires c = let s = c.requires.1 in (s.tokens, s.cut)

pub returns : goal.returns
returns c =
    marks c.args.text.now c.requires.0 c.in_ok-tokens.tokens c.in_ok-notes.notes c.requires.1 c.in_ok-tokens.ensures
    (λ q cells spelled within is. c.in_ok-notes.ensures q cells spelled within (is ∙ sym c.as_slice.ensures))
