use Rattle.std.proofs.Common.{[], ◌∷◌}
use Rattle.text_parts.specs.Digits.{hex4}
use Rattle.map_file.proofs.line_entries.sampled.Goals as goal

pub returns-in_err-event : goal.returns-in_err-event
returns-in_err-event c = rw c.from_residual.ensures (λ event input at form. λ other small. c.in_err-event.ensures event (input ∷ hex4 at ∷ []) form)
