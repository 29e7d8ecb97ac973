-- How a call ends: the line that was to be put, the status that was due, and what came of both.
use Rattle.std.specs.Prelude.{◌≡◌, ℕ, List, Option, Some, None, Result, Ok, Err, String, string_bytes, ◌⊎◌}
use Rattle.std.specs.declared.alloc.Global.{Global}
use Rattle.edge_io.specs.Counts.{Rose}
use Rattle.edge_io.specs.Sinks.{SinkSeen, Appends, AppendsPrefix}
use Rattle.command_parts.specs.declared.halts.Halt.{Halt}
use Rattle.command_parts.specs.declared.halts.Halt.TheVariants as halt

-- A line was to be put and a status to be given, and this status was given. The put was done; or it failed, after a
-- prefix of the line, and the status is 5; or memory ran out, nothing was put, and the status is 6.
abbrev pub Ends : SinkSeen → SinkSeen → ℕ → List ℕ → ℕ → Type 0
Ends before after due line status =
    ((status ≡ due) × Appends before.taken after.taken line)
    ⊎ ((status ≡ 5) × Rose before.put_faults after.put_faults × AppendsPrefix before.taken after.taken line)
    ⊎ ((status ≡ 6) × (before.taken ≡ after.taken))

-- The status is this one, or 5 since its put failed, or 6 since memory ran out.
abbrev pub DueOrYielded : ℕ → ℕ → Type 0
DueOrYielded due status = (status ≡ due) ⊎ (status ≡ 5) ⊎ (status ≡ 6)

-- A step of a command gives a value, or halts: with the status and the line of a fault, or since memory ran out.
abbrev pub Gives : {A B : Type 0} → (A → Type 0) → (B → Type 0) → (B → ℕ) → (B → List ℕ) → Result A Halt → Type 0
Gives Good Bad status line (Ok value) = Good value
Gives {B = B} Good Bad status line (Err (halt.Said due text)) = (fault : B) × Bad fault × (due ≡ status fault) × (string_bytes text ≡ line fault)
Gives Good Bad status line (Err halt.PutFailed) = ⊥
Gives Good Bad status line (Err halt.Memory) = Unit {0}

-- What is made of a command's work: its last line is put, where there is one, and its status is given.
abbrev pub Finishes : SinkSeen → SinkSeen → Result (Option (String Global)) Halt → ℕ → Type 0
Finishes before after (Ok (Some line)) status = Ends before after 0 (string_bytes line) status
Finishes before after (Ok None) status = (status ≡ 0) × (before ≡ after)
Finishes before after (Err (halt.Said due line)) status = Ends before after due (string_bytes line) status
Finishes before after (Err halt.PutFailed) status = (status ≡ 5) × (before ≡ after)
Finishes before after (Err halt.Memory) status = (status ≡ 6) × (before ≡ after)
