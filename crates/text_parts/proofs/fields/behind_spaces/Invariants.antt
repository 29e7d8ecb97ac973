use Rattle.std.proofs.Common.{◌≡◌, ◌≤◌, length}
use Rattle.text_parts.specs.Fields.{fields_of}
use Rattle.text_parts.proofs.fields.behind_spaces.Given as goal

abbrev pub invariant-loop-rest : goal.invariant-loop-rest
invariant-loop-rest l = record { same : fields_of l.rest ≡ fields_of l.text; shorter : length l.rest ≤ length l.text }

abbrev pub decreases-loop-rest : goal.decreases-loop-rest
decreases-loop-rest l = length l.rest
