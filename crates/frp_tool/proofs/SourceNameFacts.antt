-- A source that is read as a program has names for its events and definitions.
use Rattle.std.proofs.Common.{ℕ, List, Result, Ok, Err}
use Rattle.std.specs.Prelude.{IfOk}
use Rattle.frp_tree.specs.Tree.{program_tree_of}
use Rattle.causality.specs.declared.checked.Checked.{Checked}
use Rattle.checked_source.specs.Readings.{Reading, Passing, IsRead}
use Rattle.firmware_map.specs.Laws.{HasNames}
use Rattle.firmware_map.proofs.SpelledLaws.{has_names}
use Rattle.command_parts.specs.declared.halts.Halt.{Halt}
use Rattle.command_parts.specs.Endings.{Gives}

pub read_has_names : (text : List ℕ) (Bad : Reading → Type 0) (status : Reading → ℕ) (line : Reading → List ℕ) (answer : Result Checked Halt)
    → Gives (λ (c : Checked). IsRead text (Passing (program_tree_of c.typed.program))) Bad status line answer → IfOk answer (λ (c : Checked). HasNames (program_tree_of c.typed.program))
read_has_names text Bad status line (Ok c) gives = has_names text (program_tree_of c.typed.program) gives.0.0
read_has_names text Bad status line (Err halt) gives = tt
