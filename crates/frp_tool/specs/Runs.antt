-- What is promised of `run HEX MAP SCRIPT`.
use Rattle.std.specs.Prelude.{◌≡◌, ℕ, ◌+◌, List, ◌++◌, Option, Some, None, Result, Ok, Err, String, string_bytes, ◌⊎◌}
use Rattle.std.specs.declared.alloc.Global.{Global}
use Rattle.edge_io.specs.Files.{Held, FilesSeen, IfTold, KeepsFiles}
use Rattle.edge_io.specs.Sinks.{SinkSeen, Appends, AppendsPrefix}
use Rattle.edge_io.specs.Counts.{Rose}
use Rattle.pic_machine.specs.declared.steps.Did.TheVariants.{Stopped}
use Rattle.pic_machine.specs.declared.steps.Why.{Why}
use Rattle.pic_machine.specs.Run.{Log, run}
use Rattle.arrival_script.specs.Trace.{start_of, outers_of, lines_of, trace_text, GoesOn, StopsFirst}
use Rattle.command_parts.specs.declared.halts.Halt.{Halt}
use Rattle.command_parts.specs.declared.halts.Halt.TheVariants as halt
use Rattle.run_inputs.specs.declared.inputs.Inputs.{Inputs}
use Rattle.run_inputs.specs.declared.inputs.Parts.{Parts}
use Rattle.command_parts.specs.Outsides.{Outside}
use Rattle.command_parts.specs.Endings.{DueOrYielded, Gives}
use Rattle.command_parts.specs.Reads.{IsLong, IsNext}
use Rattle.run_inputs.specs.RunLines.{stop_line}
use Rattle.run_inputs.specs.RunFaults.{RunRequest, RunFault, fault_status, fault_line, FaultCause, names_of, IsFirstFault, AreInputs, AreParts, ArePartsOf}

-- The run of the image from power-on, under what the script says comes from outside.
abbrev pub log_of : Parts → Log
log_of p = run p.image (start_of p.script) (outers_of p.script)

-- What a `run` comes to: there is no run; the chip stops, at this step and address; or the run goes to its end.
pub data RunVerdict : Type 0 where
  NoRun : RunFault → RunVerdict
  Stops : Parts → ℕ → ℕ → Why → RunVerdict
  Ended : Parts → RunVerdict

abbrev pub run_status : RunVerdict → ℕ
run_status (NoRun fault) = fault_status fault
run_status (Stops p step address why) = 1
run_status (Ended p) = 0

-- The trace up to a stop, and the stop's line.
abbrev pub stopped_text : Parts → ℕ → ℕ → Why → List ℕ
stopped_text p step address why = lines_of p.map (log_of p) (step + 1) ++ stop_line step address why

abbrev pub whole_trace : Parts → List ℕ
whole_trace p = trace_text p.map (log_of p) p.script.steps

-- What is to be put.
abbrev pub run_text : RunVerdict → List ℕ
run_text (NoRun fault) = fault_line fault
run_text (Stops p step address why) = stopped_text p step address why
run_text (Ended p) = whole_trace p

-- The run stops at this step, the first that stops of those that the script says, for this cause at this address.
abbrev pub StopsAt : Parts → ℕ → ℕ → Why → Type 0
StopsAt p step address why = StopsFirst (log_of p) p.script.steps step × ((log_of p step).did ≡ Stopped address why)

-- No step of those that the script says stops.
abbrev pub GoesToEnd : Parts → Type 0
GoesToEnd p = GoesOn (log_of p) p.script.steps

-- Why a verdict comes.
abbrev pub RunCause : RunRequest → FilesSeen → FilesSeen → RunVerdict → Type 0
RunCause r before after (NoRun fault) = FaultCause r before after fault
RunCause r before after (Stops p step address why) = ArePartsOf r before p × StopsAt p step address why
RunCause r before after (Ended p) = ArePartsOf r before p × GoesToEnd p

-- A text was to be put, in one put or several, and a status to be given. All of it was put; or a put failed, or memory
-- ran out, after a prefix of it.
abbrev pub RunEnds : SinkSeen → SinkSeen → ℕ → List ℕ → ℕ → Type 0
RunEnds before after due text status =
    ((status ≡ due) × Appends before.taken after.taken text)
    ⊎ ((status ≡ 5) × Rose before.put_faults after.put_faults × AppendsPrefix before.taken after.taken text)
    ⊎ ((status ≡ 6) × AppendsPrefix before.taken after.taken text)

-- Memory ran out before there was a verdict, and nothing was put.
abbrev pub RunExhausted : Outside → Outside → ℕ → Type 0
RunExhausted before after status = (status ≡ 6) × (before.out.taken ≡ after.out.taken)

-- There is a verdict, with its cause, its status and its text.
abbrev pub RunEndsSo : RunRequest → Outside → Outside → ℕ → RunVerdict → Type 0
RunEndsSo r before after status v = RunCause r before.files after.files v × RunEnds before.out after.out (run_status v) (run_text v) status

-- How a call of `run` ends. No file changes.
abbrev pub Runs : RunRequest → Outside → Outside → ℕ → Type 0
Runs r before after status = KeepsFiles before.files after.files × (RunExhausted before after status ⊎ ((v : RunVerdict) × RunEndsSo r before after status v))

-- The trace broke off: a prefix was put of the text that was to be put.
abbrev pub TraceCut : Parts → SinkSeen → SinkSeen → Type 0
TraceCut p before after =
    (GoesToEnd p × AppendsPrefix before.taken after.taken (whole_trace p))
    ⊎ ((step : ℕ) × (address : ℕ) × (why : Why) × StopsAt p step address why × AppendsPrefix before.taken after.taken (stopped_text p step address why))

-- What the trace of a run comes to before a stop's line is put: the whole trace is put; or the lines up to a stop are, whose
-- line is due; or a put failed, or memory ran out, after a prefix of the text that was to be put.
abbrev pub Traced : Parts → SinkSeen → SinkSeen → Result (Option (String Global)) Halt → Type 0
Traced p before after (Ok (Some line)) = ⊥
Traced p before after (Ok None) = GoesToEnd p × Appends before.taken after.taken (whole_trace p)
Traced p before after (Err (halt.Said due line)) =
    (step : ℕ) × (address : ℕ) × (why : Why) × StopsAt p step address why × Appends before.taken after.taken (lines_of p.map (log_of p) (step + 1)) × (due ≡ 1) × (string_bytes line ≡ stop_line step address why)
Traced p before after (Err halt.PutFailed) = Rose before.put_faults after.put_faults × TraceCut p before after
Traced p before after (Err halt.Memory) = TraceCut p before after

-- What the work of a `run` comes to before its last line is put. No file changes. Either nothing is put yet, and there is no
-- run or memory ran out; or the three files mean what a run takes, and it is traced.
abbrev pub RunWorks : RunRequest → Outside → Outside → Result (Option (String Global)) Halt → Type 0
RunWorks r before after work =
    KeepsFiles before.files after.files
    × (((before.out ≡ after.out) × Gives (λ (nothing : Option (String Global)). ⊥) (FaultCause r before.files after.files) fault_status fault_line work)
    ⊎ ((p : Parts) × ArePartsOf r before.files p × Traced p before.out after.out work))

-- With 0 the whole trace was put: of the run of an image that the HEX file means, by the map whose text the map file
-- is and the script that the script's text states. No step of it stops.
abbrev pub RunDone : RunRequest → Outside → Outside → Type 0
RunDone r before after = (p : Parts) × ArePartsOf r before.files p × GoesToEnd p × Appends before.out.taken after.out.taken (whole_trace p)

-- A file is too long that is read next.
abbrev pub FindsLong : RunRequest → Outside → Type 0
FindsLong r before = IfTold before.files (λ held. (name : List ℕ) × IsNext (names_of r) held name × IsLong held name)

-- The three files are read, and the bytes of one have a fault.
abbrev pub FindsFault : RunRequest → Outside → Type 0
FindsFault r before = (i : Inputs) × AreInputs r before.files i × (fault : RunFault) × IsFirstFault i fault

-- The run of what the three files mean stops.
abbrev pub FindsStop : RunRequest → Outside → Type 0
FindsStop r before = (p : Parts) × ArePartsOf r before.files p × (step : ℕ) × (address : ℕ) × (why : Why) × StopsAt p step address why

-- 1 comes only where a file is too long, or where the bytes of HEX, map or script have a fault, or where the chip
-- stops in the run.
abbrev pub RunRefuses : RunRequest → Outside → Type 0
RunRefuses r before = FindsLong r before ⊎ FindsFault r before ⊎ FindsStop r before

-- 3 comes only where the file that is read next isn't held, where files are told; and where it isn't, and no read fault
-- was counted, 3 comes.
abbrev pub RunMisses : RunRequest → Outside → Outside → ℕ → Type 0
RunMisses r before after status =
    (status ≡ 3 → IfTold before.files (λ held. (name : List ℕ) × IsNext (names_of r) held name × (held name ≡ None)))
    × ((held : Held) (name : List ℕ) → before.files.told ≡ Some held → IsNext (names_of r) held name → held name ≡ None → (Rose before.files.read_faults after.files.read_faults → ⊥) → DueOrYielded 3 status)

-- Where files are told, the three mean this image, map and script, and no fault is counted, the status is 0 where no
-- step of the run stops, 1 where one does, or 6.
abbrev pub RunCompletes : RunRequest → Outside → Outside → ℕ → Type 0
RunCompletes r before after status = (held : Held) (i : Inputs) (p : Parts) → before.files.told ≡ Some held → AreInputs r before.files i → AreParts i p
    → (Rose before.files.read_faults after.files.read_faults → ⊥) → (Rose before.out.put_faults after.out.put_faults → ⊥)
    → ((status ≡ 0) × GoesToEnd p) ⊎ ((status ≡ 1) × (step : ℕ) × (address : ℕ) × (why : Why) × StopsAt p step address why) ⊎ (status ≡ 6)

-- What is promised of a `run`: how it ends, and what follows for each status. With every status no file has changed.
pub record RunPromises (r : RunRequest) (before after : Outside) (status : ℕ) : Type 0 where
  pub ends : Runs r before after status
  pub done : status ≡ 0 → RunDone r before after
  pub one : status ≡ 1 → RunRefuses r before
  pub three : RunMisses r before after status
  pub files : KeepsFiles before.files after.files
  pub complete : RunCompletes r before after status
