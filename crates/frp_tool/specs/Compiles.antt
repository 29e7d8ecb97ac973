-- What is promised of `compile SRC HEX MAP`.
use Rattle.std.specs.Prelude.{◌≡◌, ◌≢◌, ℕ, List, Option, Some, None, Result, Ok, Err, String, string_bytes, codes, ◌⊎◌}
use Rattle.std.specs.declared.alloc.Global.{Global}
use Rattle.edge_io.specs.Files.{Held, FilesSeen, SameOthers, BothTold, KeepsFiles}
use Rattle.edge_io.specs.Sinks.{Appends}
use Rattle.edge_io.specs.Counts.{Rose}
use Rattle.map_file.specs.declared.maps.Map.{Map}
use Rattle.map_file.specs.MapText.{map_text}
use Rattle.firmware_promises.specs.Firmware.{IsFirmware}
use Rattle.core_steps.specs.Scheduled.{IsScheduled}
use Rattle.stack_bound.specs.Reports.{IsReported}
use Rattle.frp_tree.specs.Tree.{ProgramTree}
use Rattle.frp_tree.specs.Grammar.{Spells}
use Rattle.efrp_meaning.specs.Bounds.{Fits}
use Rattle.efrp_types.specs.Passes.{Passes}
use Rattle.firmware.specs.Builds.{HasCode, IsBuildable, IsBuildFault}
use Rattle.firmware.specs.declared.faults.BuildFault.{BuildFault}
use Rattle.firmware.specs.declared.faults.BuildFault.TheVariants.{Code}
use Rattle.command_parts.specs.declared.halts.Halt.{Halt}
use Rattle.command_parts.specs.declared.halts.Halt.TheVariants as halt
use Rattle.command_parts.specs.Lines.{named_line}
use Rattle.frp_tool.specs.Lines.{build_line, summary}
use Rattle.command_parts.specs.Outsides.{Outside}
use Rattle.command_parts.specs.Endings.{Ends}
use Rattle.frp_tool.specs.SourceTexts.{SourceGives, SourceFault, source_status, source_line, SourceCause, SourceRefuses, SourceTellsLong, SourceTells, SourceMisses}
use Rattle.frp_tool.specs.Writes.{Has, SameButTwo}

-- The names that `compile` is given.
pub record CompileRequest : Type 0 where
  pub source : List ℕ
  pub hex : List ℕ
  pub map : List ℕ

-- What `compile` makes of a program: the bytes of HEX, and a map, whose text is written to MAP. The bytes and the text are
-- firmware for the program, and react in time; and the map reports the program's levels as its depth and the program's bound on
-- settling, nothing less.
pub record Firmware : Type 0 where
  pub program : ProgramTree
  pub hex : List ℕ
  pub map : Map
  pub is_firmware : IsFirmware program hex (map_text map)
  pub is_scheduled : IsScheduled program hex (map_text map)
  pub is_reported : IsReported program map

-- What a `compile` comes to: the source gives no program; nothing is built of its program; HEX wasn't written; the map wasn't
-- written; all was done.
pub data CompileVerdict : Type 0 where
  NoProgram : SourceFault → CompileVerdict
  Unbuilt : ProgramTree → BuildFault → CompileVerdict
  HexFailed : ProgramTree → CompileVerdict
  MapFailed : Firmware → CompileVerdict
  Done : Firmware → CompileVerdict

-- The status that is due.
abbrev pub compile_status : CompileVerdict → ℕ
compile_status (NoProgram fault) = source_status fault
compile_status (Unbuilt p fault) = 1
compile_status (HexFailed p) = 5
compile_status (MapFailed f) = 5
compile_status (Done f) = 0

-- The line that is to be put.
abbrev pub compile_line : CompileRequest → CompileVerdict → List ℕ
compile_line r (NoProgram fault) = source_line r.source fault
compile_line r (Unbuilt p fault) = build_line fault
compile_line r (HexFailed p) = named_line (codes "write failed: ") r.hex
compile_line r (MapFailed f) = named_line (codes "write failed: ") r.map
compile_line r (Done f) = summary f.map f.program

-- The source gives this program, and it is built.
abbrev pub IsCompiled : CompileRequest → FilesSeen → ProgramTree → Type 0
IsCompiled r before p = SourceGives r.source before p × IsBuildable p

-- Why a verdict comes.
abbrev pub CompileCause : CompileRequest → FilesSeen → FilesSeen → CompileVerdict → Type 0
CompileCause r before after (NoProgram fault) = SourceCause r.source before after fault
CompileCause r before after (Unbuilt p fault) = SourceGives r.source before p × IsBuildFault p fault
CompileCause r before after (HexFailed p) = IsCompiled r before p × Rose before.write_faults after.write_faults
CompileCause r before after (MapFailed f) = IsCompiled r before f.program × Rose before.write_faults after.write_faults
CompileCause r before after (Done f) = IsCompiled r before f.program

-- HEX holds its bytes of the firmware, and MAP the text of the map.
abbrev pub HexIsWhole : CompileRequest → Held → Firmware → Type 0
HexIsWhole r held f = Has held r.hex f.hex

abbrev pub MapIsWhole : CompileRequest → Held → Firmware → Type 0
MapIsWhole r held f = Has held r.map (map_text f.map)

-- Each file but HEX and MAP is as it was.
abbrev pub OthersAsBefore : CompileRequest → Held → Held → Type 0
OthersAsBefore r old new = SameButTwo old new r.hex r.map

-- The files that a verdict leaves. After a failed write the file of that name holds anything.
abbrev pub CompileLeft : CompileRequest → FilesSeen → FilesSeen → CompileVerdict → Type 0
CompileLeft r before after (NoProgram fault) = KeepsFiles before after
CompileLeft r before after (Unbuilt p fault) = KeepsFiles before after
CompileLeft r before after (HexFailed p) = BothTold before after (λ old new. SameOthers old new r.hex)
CompileLeft r before after (MapFailed f) = BothTold before after (λ old new. HexIsWhole r new f × OthersAsBefore r old new)
CompileLeft r before after (Done f) = BothTold before after (λ old new. HexIsWhole r new f × MapIsWhole r new f × OthersAsBefore r old new)

-- A verdict comes, and leaves these files.
abbrev pub CompileComes : CompileRequest → FilesSeen → FilesSeen → CompileVerdict → Type 0
CompileComes r before after v = CompileCause r before after v × CompileLeft r before after v

-- Memory ran out before there was a verdict: no file has changed, or HEX is whole and no other has.
abbrev pub CompileCut : CompileRequest → FilesSeen → FilesSeen → Type 0
CompileCut r before after =
    KeepsFiles before after
    ⊎ ((f : Firmware) × IsCompiled r before f.program × BothTold before after (λ old new. HexIsWhole r new f × SameOthers old new r.hex))

-- What the work of a `compile` comes to before its line is put: a verdict, of which `Done` alone is no halt; or memory ran
-- out, before there was a verdict or behind it.
abbrev pub CompileWorks : CompileRequest → FilesSeen → FilesSeen → Result (Option (String Global)) Halt → Type 0
CompileWorks r before after (Ok (Some line)) = (f : Firmware) × CompileComes r before after (Done f) × (string_bytes line ≡ compile_line r (Done f))
CompileWorks r before after (Ok None) = ⊥
CompileWorks r before after (Err (halt.Said due line)) = (v : CompileVerdict) × CompileComes r before after v × (due ≡ compile_status v) × (string_bytes line ≡ compile_line r v)
CompileWorks r before after (Err halt.PutFailed) = ⊥
CompileWorks r before after (Err halt.Memory) = CompileCut r before after ⊎ ((v : CompileVerdict) × CompileComes r before after v)

-- How a call of `compile` ends: memory ran out before there was a verdict, and nothing was put; or there is a verdict, with
-- its cause, the files that it leaves, its status and its line.
abbrev pub Compiles : CompileRequest → Outside → Outside → ℕ → Type 0
Compiles r before after status =
    ((status ≡ 6) × (before.out.taken ≡ after.out.taken) × CompileCut r before.files after.files)
    ⊎ ((v : CompileVerdict) × CompileCause r before.files after.files v × CompileLeft r before.files after.files v × Ends before.out after.out (compile_status v) (compile_line r v) status)

-- With 0, where files and the bytes put are told, the source spells a program that passes the checks, and no other; HEX and MAP
-- hold bytes that are firmware for it and react in time, those of MAP being the text of a map, which reports the program's levels
-- and its bound on settling; all other files are as before; and the summary of that map was put.
abbrev pub CompileDone : CompileRequest → Outside → Outside → Type 0
CompileDone r before after = (p : ProgramTree) × SourceGives r.source before.files p
    × (hex : List ℕ) × (m : Map) × IsFirmware p hex (map_text m) × IsScheduled p hex (map_text m) × IsReported p m
    × BothTold before.files after.files (λ old new. Has new r.hex hex × Has new r.map (map_text m) × OthersAsBefore r old new)
    × Appends before.out.taken after.out.taken (summary m p)

-- 1 comes only where the source gives no program, as with `check`; or where the program that it gives has the fault whose line was
-- put.
abbrev pub CompileRefuses : CompileRequest → Outside → Outside → Type 0
CompileRefuses r before after =
    SourceRefuses r.source before after
    ⊎ ((p : ProgramTree) × (fault : BuildFault) × SourceGives r.source before.files p × IsBuildFault p fault × Appends before.out.taken after.out.taken (build_line fault))

-- Where files are told, the source spells a program that passes the checks and has a fault other than that of words, and no read
-- fault is counted: the status is 1 and the fault's line is put, or it is 5 or 6. A program whose words are past their bound alone
-- may still be built.
abbrev pub BuildTells : CompileRequest → Outside → Outside → ℕ → Type 0
BuildTells r before after status = (held : Held) (text : List ℕ) (p : ProgramTree) (fault : BuildFault) → before.files.told ≡ Some held → held r.source ≡ Some text → Spells text p → Passes p
    → IsBuildFault p fault → ((n : ℕ) → fault ≢ Code n) → (Rose before.files.read_faults after.files.read_faults → ⊥)
    → Ends before.out after.out 1 (build_line fault) status

-- Where files are told, the source spells a program that passes the checks, has no input and no table and fits the chip by its
-- bounds, and no fault is counted, the status is 0 or 6.
abbrev pub CompileCompletes : CompileRequest → Outside → Outside → ℕ → Type 0
CompileCompletes r before after status = (held : Held) (text : List ℕ) (p : ProgramTree) → before.files.told ≡ Some held → held r.source ≡ Some text → Spells text p → Passes p → HasCode p → Fits p
    → (Rose before.files.read_faults after.files.read_faults → ⊥) → (Rose before.files.write_faults after.files.write_faults → ⊥) → (Rose before.out.put_faults after.out.put_faults → ⊥)
    → (status ≡ 0) ⊎ (status ≡ 6)

-- What is promised of a `compile`: how it ends, and what follows for each status. With every status no file but HEX and MAP
-- has changed.
pub record CompilePromises (r : CompileRequest) (before after : Outside) (status : ℕ) : Type 0 where
  pub ends : Compiles r before after status
  pub done : status ≡ 0 → CompileDone r before after
  pub one : status ≡ 1 → CompileRefuses r before after
  pub long : SourceTellsLong r.source before after status
  pub told : SourceTells r.source before after status
  pub built : BuildTells r before after status
  pub three : SourceMisses r.source before status
  pub files : BothTold before.files after.files (OthersAsBefore r)
  pub complete : CompileCompletes r before after status

-- The bytes of HEX and MAP and the line that `compile` makes for a program that is built: firmware for it that reacts in time,
-- the second the text of a map, with its report, and the summary of that map.
abbrev pub AreTexts : ProgramTree → List ℕ → List ℕ → List ℕ → Type 0
AreTexts p hex text line =
    (m : Map) × (text ≡ map_text m) × IsFirmware p hex (map_text m) × IsScheduled p hex (map_text m) × IsReported p m × (line ≡ summary m p)
    × IsBuildable p
