use Rattle.std.proofs.Common.{sym, ◌∙◌}
use Rattle.text_parts.proofs.CutLaws.{first_part, no_part_left}
use Rattle.text_parts.proofs.cuts.split_once.Goals as goal

pub returns-in_err-at : goal.returns-in_err-at
returns-in_err-at c = rw c.from_residual.ensures (no_part_left c.args.byte c.args.text.now (sym c.in_err-at.was ∙ c.place_of.ensures))

pub returns : goal.returns
returns c = first_part c.args.byte c.args.text.now c.in_ok-at.at (sym c.in_ok-at.was ∙ c.place_of.ensures)
