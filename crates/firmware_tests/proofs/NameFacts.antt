-- The program that is read of a text has names.
use Rattle.std.proofs.Common.{ℕ, List, Result, Ok, Err}
use Rattle.std.specs.Prelude.{IfOk}
use Rattle.frp_tree.specs.Tree.{program_tree_of}
use Rattle.causality.specs.declared.checked.Checked.{Checked}
use Rattle.checked_source.specs.declared.faults.SourceFault.{SourceFault}
use Rattle.checked_source.specs.Readings.{Found}
use Rattle.firmware_map.specs.Laws.{HasNames}
use Rattle.firmware_map.proofs.SpelledLaws.{has_names}

pub read_has_names : (text : List ℕ) (answer : Result Checked SourceFault) → Found text answer → IfOk answer (λ (c : Checked). HasNames (program_tree_of c.typed.program))
read_has_names text (Ok c) found = has_names text (program_tree_of c.typed.program) found.0.0
read_has_names text (Err fault) found = tt
