-- What the parts of a call answer.
use Rattle.std.specs.Prelude.{◌≡◌, ℕ, List, Result, Ok, Err, string_bytes}
use Rattle.edge_io.specs.Files.{FilesSeen}
use Rattle.command_parts.specs.declared.halts.Halt.{Halt}
use Rattle.command_parts.specs.declared.halts.Halt.TheVariants as halt
use Rattle.where_tool.specs.declared.verdicts.Told.{Told}
use Rattle.where_tool.specs.Verdicts.{Asked, Verdict, verdict_status, verdict_text, TextCause, Cause}

-- What is told is this verdict.
pub record IsVerdict (a : Asked) (v : Verdict) (told : Told) : Type 0 where
  pub status : told.status ≡ verdict_status v
  pub bytes : told.bytes ≡ verdict_text a v

-- What is told of a text is the verdict on it.
abbrev pub OfText : Asked → List ℕ → Told → Type 0
OfText a text told = (v : Verdict) × TextCause a text v × IsVerdict a v told

-- The work of a call comes to a verdict, which is told; or it halts with that of a file that wasn't read, or since memory ran out.
abbrev pub Works : Asked → FilesSeen → FilesSeen → Result Told Halt → Type 0
Works a before after (Ok told) = (v : Verdict) × Cause a before after v × IsVerdict a v told
Works a before after (Err (halt.Said status line)) = (v : Verdict) × Cause a before after v × (status ≡ verdict_status v) × (string_bytes line ≡ verdict_text a v)
Works a before after (Err halt.PutFailed) = ⊥
Works a before after (Err halt.Memory) = Unit {0}
