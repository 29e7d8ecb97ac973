-- What words ask for, in memory.
use Rattle.std.specs.Prelude.{ℕ, List, [], ◌∷◌, Option, Some, None}
use Rattle.std.specs.Borrow.{Bor}
use Rattle.run_inputs.specs.RunFaults.{RunRequest}
use Rattle.wave_tool.specs.declared.tool.Names.{Names}

-- The names that are referred to.
abbrev pub words_in : Names (Bor (List ℕ)) → RunRequest
words_in a = record { hex = a.hex.now; map = a.map.now; script = a.script.now }

-- What three words ask for.
abbrev pub asked_by : List (List ℕ) → Option RunRequest
asked_by (hex ∷ map ∷ script ∷ []) = Some (record { hex = hex; map = map; script = script })
asked_by _ = None
