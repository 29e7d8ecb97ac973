-- How a call ends that tells a verdict, and one that halts.
use Rattle.std.proofs.Common.{◌≡◌, ℕ, List, Ok, Err, inl, inr, ap, ◌∙◌, string_bytes}
use Rattle.edge_io.specs.Sinks.{SinkSeen}
use Rattle.command_parts.specs.declared.halts.Halt.{Halt}
use Rattle.command_parts.specs.declared.halts.Halt.TheVariants.{Said, PutFailed, Memory}
use Rattle.command_parts.specs.Endings.{Ends, Finishes}
use Rattle.command_parts.specs.Outsides.{Outside}
use Rattle.command_parts.proofs.EndingLaws.{ends_as}
use Rattle.where_tool.specs.declared.verdicts.Told.{Told}
use Rattle.where_tool.specs.Promises.{Answers}
use Rattle.where_tool.specs.VerdictParts.{Works}
use Rattle.where_tool.specs.Verdicts.{Asked, verdict_status, verdict_text}

module _ (a : Asked) (before after : Outside) (status : ℕ) where
  pub tells : (told : Told) (bytes : List ℕ) → bytes ≡ told.bytes → Works a before.files after.files (Ok told) → Ends before.out after.out told.status bytes status → Answers a before after status
  tells told bytes same (v, cause, verdict) ends = inr (v, cause, ends_as before.out after.out told.status (verdict_status v) bytes (verdict_text a v) status (verdict.status, same ∙ verdict.bytes) ends)

  pub halts : (why : Halt) → Works a before.files after.files (Err why) → Finishes before.out after.out (Err why) status → Answers a before after status
  halts (Said due line) (v, cause, is, says) ends = inr (v, cause, ends_as before.out after.out due (verdict_status v) (string_bytes line) (verdict_text a v) status (is, says) ends)
  halts PutFailed works ends = absurd works
  halts Memory works ends = inl (ends.0, ap (λ (s : SinkSeen). s.taken) ends.1)
