use Rattle.std.proofs.Common.{◌≡◌, ◌++◌, length}
use Rattle.std.specs.List.{flat_map}
use Rattle.frp_tree.specs.Printed.{more_entry_tokens, spaced}
use Rattle.efrp_syntax.proofs.printer.more_entries.Given as goal

abbrev pub invariant-row : goal.invariant-row
invariant-row l = spaced (flat_map more_entry_tokens l.rest) ++ l.out ≡ spaced (flat_map more_entry_tokens l.literals) ++ l.initial.out

abbrev pub decreases-row : goal.decreases-row
decreases-row l = length l.rest
