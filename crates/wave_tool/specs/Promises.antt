-- What `efrp_wave` promises.
use Rattle.std.specs.Prelude.{◌≡◌, ℕ, List, Option, Some, None, Result, Ok, Err, String, string_bytes, codes, ◌⊎◌}
use Rattle.std.specs.declared.alloc.Global.{Global}
use Rattle.edge_io.specs.Files.{FilesSeen, KeepsFiles}
use Rattle.edge_io.specs.Sinks.{Appends}
use Rattle.pic_machine.specs.declared.steps.Did.TheVariants.{Stopped}
use Rattle.pic_machine.specs.declared.steps.Why.{Why}
use Rattle.pic_machine.specs.Run.{Log, run}
use Rattle.arrival_script.specs.Trace.{start_of, outers_of, GoesOn, StopsFirst}
use Rattle.command_parts.specs.declared.halts.Halt.{Halt}
use Rattle.command_parts.specs.declared.halts.Halt.TheVariants as halt
use Rattle.command_parts.specs.Endings.{Ends, Gives}
use Rattle.command_parts.specs.Outsides.{Outside}
use Rattle.run_inputs.specs.declared.inputs.Parts.{Parts}
use Rattle.run_inputs.specs.RunFaults.{RunRequest, RunFault, fault_status, fault_line, FaultCause, ArePartsOf}
use Rattle.run_inputs.specs.RunLines.{stop_line}
use Rattle.wave_text.specs.Waves.{wave_text}

-- The usage line.
abbrev pub usage : List ℕ
usage = codes "usage: efrp_wave HEX MAP SCRIPT\n"

-- The run of the image from power-on, under what the script says comes from outside.
abbrev pub log_of : Parts → Log
log_of p = run p.image (start_of p.script) (outers_of p.script)

abbrev pub waves_of : Parts → List ℕ
waves_of p = wave_text p.map (log_of p) p.script.steps

-- The run stops at this step, the first that stops of those that the script says, for this cause at this address.
abbrev pub StopsAt : Parts → ℕ → ℕ → Why → Type 0
StopsAt p step address why = StopsFirst (log_of p) p.script.steps step × ((log_of p step).did ≡ Stopped address why)

abbrev pub GoesToEnd : Parts → Type 0
GoesToEnd p = GoesOn (log_of p) p.script.steps

-- Why there are no waves: there is no run; or the chip stops, at this step and address.
pub data Refusal : Type 0 where
  NoRun : RunFault → Refusal
  Stops : Parts → ℕ → ℕ → Why → Refusal

abbrev pub refusal_status : Refusal → ℕ
refusal_status (NoRun fault) = fault_status fault
refusal_status (Stops p step address why) = 1

abbrev pub refusal_line : Refusal → List ℕ
refusal_line (NoRun fault) = fault_line fault
refusal_line (Stops p step address why) = stop_line step address why

abbrev pub RefusalCause : RunRequest → FilesSeen → FilesSeen → Refusal → Type 0
RefusalCause r before after (NoRun fault) = FaultCause r before after fault
RefusalCause r before after (Stops p step address why) = ArePartsOf r before p × StopsAt p step address why

-- What a call comes to: no waves; or those of the run, which goes to its end.
pub data Verdict : Type 0 where
  Refused : Refusal → Verdict
  Shown : Parts → Verdict

abbrev pub verdict_status : Verdict → ℕ
verdict_status (Refused refusal) = refusal_status refusal
verdict_status (Shown p) = 0

abbrev pub verdict_text : Verdict → List ℕ
verdict_text (Refused refusal) = refusal_line refusal
verdict_text (Shown p) = waves_of p

abbrev pub Cause : RunRequest → FilesSeen → FilesSeen → Verdict → Type 0
Cause r before after (Refused refusal) = RefusalCause r before after refusal
Cause r before after (Shown p) = ArePartsOf r before p × GoesToEnd p

-- What is drawn of the run of what the files mean: its waves, or where it stops.
abbrev pub Draws : Parts → Result (Option (String Global)) Halt → Type 0
Draws p (Ok None) = ⊥
Draws p (Ok (Some text)) = GoesToEnd p × (string_bytes text ≡ waves_of p)
Draws p (Err (halt.Said due line)) = (step : ℕ) × (address : ℕ) × (why : Why) × StopsAt p step address why × (due ≡ 1) × (string_bytes line ≡ stop_line step address why)
Draws p (Err halt.PutFailed) = ⊥
Draws p (Err halt.Memory) = Unit {0}

-- What a call works out before its text is put.
abbrev pub Works : RunRequest → FilesSeen → FilesSeen → Result (Option (String Global)) Halt → Type 0
Works r before after =
    Gives (λ (put : Option (String Global)). (p : Parts) × (text : String Global) × (put ≡ Some text) × ArePartsOf r before p × GoesToEnd p × (string_bytes text ≡ waves_of p))
    (RefusalCause r before after) refusal_status refusal_line

-- How a call ends. Memory ran out before there was a verdict, and nothing was put; or there is one, for its cause, and its text was put
-- and its status given.
abbrev pub Answers : RunRequest → Outside → Outside → ℕ → Type 0
Answers r before after status =
    ((status ≡ 6) × (before.out.taken ≡ after.out.taken))
    ⊎ ((v : Verdict) × Cause r before.files after.files v × Ends before.out after.out (verdict_status v) (verdict_text v) status)

-- What is promised of a call with three names. No file changes. With 0, where files and the bytes put are told, the waves were put of
-- the run of an image that the HEX file means, by the map whose text the map file is and the script that the script's text states.
pub record Promises (r : RunRequest) (before after : Outside) (status : ℕ) : Type 0 where
  pub files : KeepsFiles before.files after.files
  pub ends : Answers r before after status
  pub done : status ≡ 0 → (p : Parts) × ArePartsOf r before.files p × GoesToEnd p × Appends before.out.taken after.out.taken (waves_of p)

-- Words that ask for nothing are answered with the usage line.
abbrev pub PromisesOf : Option RunRequest → Outside → Outside → ℕ → Type 0
PromisesOf None before after status = KeepsFiles before.files after.files × Ends before.out after.out 2 usage status
PromisesOf (Some r) before after status = Promises r before after status
