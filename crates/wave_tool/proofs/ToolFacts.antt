-- How a call ends that puts waves, and one that halts.
use Rattle.std.proofs.Common.{◌≡◌, ℕ, Option, Some, None, Result, Ok, Err, String, inl, inr, refl, sym, ap, ◌∙◌, arith, string_bytes}
use Rattle.std.specs.declared.alloc.Global.{Global}
use Rattle.edge_io.specs.Files.{FilesSeen, KeepsFiles}
use Rattle.edge_io.specs.Sinks.{SinkSeen, Appends}
use Rattle.command_parts.specs.declared.halts.Halt.{Halt}
use Rattle.command_parts.specs.declared.halts.Halt.TheVariants.{Said, PutFailed, Memory}
use Rattle.command_parts.specs.Endings.{Finishes, Gives}
use Rattle.command_parts.specs.Outsides.{Outside}
use Rattle.command_parts.specs.Reads.{NotHeld, NotRead, TooLong}
use Rattle.command_parts.proofs.EndingLaws.{ends_as, line_settled}
use Rattle.run_inputs.specs.declared.inputs.Parts.{Parts}
use Rattle.run_inputs.specs.RunFaults.{RunRequest, FileUnread, BadHex, BadMap, BadScript, fault_status, fault_line, FaultCause, ArePartsOf}
use Rattle.run_inputs.proofs.RunStepLaws.{halts}
use Rattle.wave_tool.specs.Promises.{Answers, Draws, GoesToEnd, NoRun, Promises, Refusal, RefusalCause, Refused, Shown, Stops, Works, refusal_line, refusal_status, waves_of}

module _ (r : RunRequest) (a b : FilesSeen) where
  -- There is no run.
  pub works-none : (e : Halt) → Gives (ArePartsOf r a) (FaultCause r a b) fault_status fault_line (Err e) → Works r a b (Err e)
  works-none e =
      halts (ArePartsOf r a) (λ (put : Option (String Global)). (p : Parts) × (text : String Global) × (put ≡ Some text) × ArePartsOf r a p × GoesToEnd p × (string_bytes text ≡ waves_of p))
      (FaultCause r a b) (RefusalCause r a b) fault_status refusal_status fault_line refusal_line e (λ fault is. (NoRun fault, is, refl, refl))

  -- There is one, and it is drawn.
  pub works-drawn : (p : Parts) (work : Result (Option (String Global)) Halt) → ArePartsOf r a p → Draws p work → Works r a b work
  works-drawn p (Ok None) are draws = absurd draws
  works-drawn p (Ok (Some text)) are draws = (p, text, refl, are, draws.0, draws.1)
  works-drawn p (Err (Said due line)) are (step, address, why, stops, is, says) = (Stops p step address why, (are, stops), is, says)
  works-drawn p (Err PutFailed) are draws = absurd draws
  works-drawn p (Err Memory) are draws = tt

module _ (r : RunRequest) (before after : Outside) (status : ℕ) where
  answers : (work : Result (Option (String Global)) Halt) → Works r before.files after.files work → Finishes before.out after.out work status → Answers r before after status
  answers (Ok None) (p, text, is, are, goes, says) ends = let no : None ≡ Some text = is in absurd cc
  answers (Ok (Some put)) (p, text, is, are, goes, says) ends =
      let same : put ≡ text = cc in
      inr (Shown p, (are, goes), ends_as before.out after.out 0 0 (string_bytes put) (waves_of p) status (refl, ap string_bytes same ∙ says) ends)
  answers (Err (Said due line)) (refusal, cause, is, says) ends =
      inr (Refused refusal, cause, ends_as before.out after.out due (refusal_status refusal) (string_bytes line) (refusal_line refusal) status (is, says) ends)
  answers (Err PutFailed) works ends = absurd works
  answers (Err Memory) works ends = inl (ends.0, ap (λ (s : SinkSeen). s.taken) ends.1)

  -- No refusal has the status 0.
  not_zero : (refusal : Refusal) → refusal_status refusal ≡ 0 → ⊥
  not_zero (NoRun (FileUnread name NotHeld)) e = omega (arith, e)
  not_zero (NoRun (FileUnread name NotRead)) e = omega (arith, e)
  not_zero (NoRun (FileUnread name TooLong)) e = omega (arith, e)
  not_zero (NoRun (BadHex fault)) e = omega (arith, e)
  not_zero (NoRun (BadMap n)) e = omega (arith, e)
  not_zero (NoRun (BadScript n cause)) e = omega (arith, e)
  not_zero (Stops p step address why) e = omega (arith, e)

  done : Answers r before after status → status ≡ 0 → (p : Parts) × ArePartsOf r before.files p × GoesToEnd p × Appends before.out.taken after.out.taken (waves_of p)
  done (inl none) e = absurd (omega (arith, none.0, e))
  done (inr (Refused refusal, cause, ends)) e =
      let s = line_settled before.out after.out (refusal_status refusal) (refusal_line refusal) status ends (omega (arith, e)) in absurd (not_zero refusal (sym s.0 ∙ e))
  done (inr (Shown p, cause, ends)) e =
      let s = line_settled before.out after.out 0 (waves_of p) status ends (omega (arith, e)) in (p, cause.0, cause.1, s.1)

  pub promises : (work : Result (Option (String Global)) Halt) → KeepsFiles before.files after.files → Works r before.files after.files work → Finishes before.out after.out work status → Promises r before after status
  promises work keeps works ends =
      let answered = answers work works ends in
      record { files = keeps; ends = answered; done = done answered }
