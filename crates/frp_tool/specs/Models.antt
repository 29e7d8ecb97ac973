-- What is promised of `model SRC EVENTS`.
use Rattle.std.specs.Prelude.{◌≡◌, ℕ, ◌≤◌, List, [], ◌∷◌, length, Option, Some, None, Result, String, string_bytes, ◌⊎◌}
use Rattle.std.specs.declared.alloc.Global.{Global}
use Rattle.edge_io.specs.Files.{Held, FilesSeen, IfTold, KeepsFiles}
use Rattle.edge_io.specs.Sinks.{Appends}
use Rattle.edge_io.specs.Counts.{Rose}
use Rattle.frp_tree.specs.Tree.{ProgramTree}
use Rattle.frp_tree.specs.Grammar.{Spells}
use Rattle.efrp_types.specs.Passes.{Passes}
use Rattle.checked_source.specs.Readings.{Reading, Passing, IsRead}
use Rattle.event_file.specs.Events.{events_of, first_unknown, told_events, AreTooMany}
use Rattle.event_file.specs.Model.{model_text}
use Rattle.command_parts.specs.declared.halts.Halt.{Halt}
use Rattle.frp_tool.specs.Lines.{unknown_line, many_events_line}
use Rattle.command_parts.specs.Outsides.{Outside}
use Rattle.command_parts.specs.Endings.{Ends, DueOrYielded, Gives}
use Rattle.command_parts.specs.Reads.{Unread, unread_status, unread_line, IsInput, IsUnread, IsLong, IsNext}
use Rattle.command_parts.specs.Lines.{IsRefused, refusal_line}

-- The names that `model` is given.
pub record ModelRequest : Type 0 where
  pub source : List ℕ
  pub events : List ℕ

-- The files that it reads, in order.
abbrev pub names_of : ModelRequest → List (List ℕ)
names_of r = r.source ∷ r.events ∷ []

-- The bytes of both files.
pub record ModelTexts : Type 0 where
  pub source : List ℕ
  pub events : List ℕ

abbrev pub AreModelTexts : ModelRequest → FilesSeen → ModelTexts → Type 0
AreModelTexts r before t = IsInput r.source before t.source × IsInput r.events before t.events

-- Why there is no model: a file wasn't read; the source's text is read as no program; a line of the events file, by its
-- number, states no event; or there are too many.
pub data ModelFault : Type 0 where
  FileUnread : List ℕ → Unread → ModelFault
  Refused : Reading → ModelFault
  Unknown : ℕ → ModelFault
  TooMany : ModelFault

abbrev pub model_fault_status : ModelFault → ℕ
model_fault_status (FileUnread name why) = unread_status why
model_fault_status (Refused reading) = 1
model_fault_status (Unknown n) = 1
model_fault_status TooMany = 1

abbrev pub model_fault_line : ModelFault → List ℕ
model_fault_line (FileUnread name why) = unread_line name why
model_fault_line (Refused reading) = refusal_line reading
model_fault_line (Unknown n) = unknown_line n
model_fault_line TooMany = many_events_line

-- The first fault of bytes that were read: the source is tested first.
abbrev pub IsFirstModelFault : ModelTexts → ModelFault → Type 0
IsFirstModelFault t (FileUnread name why) = ⊥
IsFirstModelFault t (Refused reading) = IsRead t.source reading × IsRefused reading
IsFirstModelFault t (Unknown n) = (p : ProgramTree) × IsRead t.source (Passing p) × (first_unknown p t.events ≡ Some n)
IsFirstModelFault t TooMany = (p : ProgramTree) × IsRead t.source (Passing p) × AreTooMany p t.events

-- Why a fault comes. Both files are read, in order, before the first is tested.
abbrev pub ModelFaultCause : ModelRequest → FilesSeen → FilesSeen → ModelFault → Type 0
ModelFaultCause r before after (FileUnread name why) = IfTold before (λ held. IsNext (names_of r) held name) × IsUnread name before after why
ModelFaultCause r before after (Refused reading) = (t : ModelTexts) × AreModelTexts r before t × IsFirstModelFault t (Refused reading)
ModelFaultCause r before after (Unknown n) = (t : ModelTexts) × AreModelTexts r before t × IsFirstModelFault t (Unknown n)
ModelFaultCause r before after TooMany = (t : ModelTexts) × AreModelTexts r before t × IsFirstModelFault t TooMany

-- The bytes give this model: the source is read as this program, each line of the events file that isn't empty states one of its
-- events, of which there are at most 10,000, and this is the text of their serial run.
pub record IsModel (t : ModelTexts) (p : ProgramTree) (text : List ℕ) : Type 0 where
  pub read : IsRead t.source (Passing p)
  pub known : first_unknown p t.events ≡ None
  pub few : length (told_events t.events) ≤ 10000
  pub model : model_text p (events_of p t.events) ≡ Some text

abbrev pub IsModelOf : ModelRequest → FilesSeen → ProgramTree → List ℕ → Type 0
IsModelOf r before p text = (t : ModelTexts) × AreModelTexts r before t × IsModel t p text

-- What a `model` comes to: a fault, or the text of a program's model.
pub data ModelVerdict : Type 0 where
  NoModel : ModelFault → ModelVerdict
  Modelled : ProgramTree → List ℕ → ModelVerdict

abbrev pub model_status : ModelVerdict → ℕ
model_status (NoModel fault) = model_fault_status fault
model_status (Modelled p text) = 0

abbrev pub model_put : ModelVerdict → List ℕ
model_put (NoModel fault) = model_fault_line fault
model_put (Modelled p text) = text

abbrev pub ModelCause : ModelRequest → FilesSeen → FilesSeen → ModelVerdict → Type 0
ModelCause r before after (NoModel fault) = ModelFaultCause r before after fault
ModelCause r before after (Modelled p text) = IsModelOf r before p text

-- What the work of a `model` comes to before its text is put.
abbrev pub ModelWorks : ModelRequest → FilesSeen → FilesSeen → Result (Option (String Global)) Halt → Type 0
ModelWorks r before after =
    Gives (λ (put : Option (String Global)). (p : ProgramTree) × (text : String Global) × (put ≡ Some text) × IsModelOf r before p (string_bytes text))
    (ModelFaultCause r before after) model_fault_status model_fault_line

-- How a call of `model` ends. No file changes. Memory ran out before there was a verdict, and nothing was put; or there is a
-- verdict, with its cause, its status and its text.
abbrev pub Models : ModelRequest → Outside → Outside → ℕ → Type 0
Models r before after status =
    KeepsFiles before.files after.files
    × (((status ≡ 6) × (before.out.taken ≡ after.out.taken))
    ⊎ ((v : ModelVerdict) × ModelCause r before.files after.files v × Ends before.out after.out (model_status v) (model_put v) status))

-- With 0, where files and the bytes put are told, the source spells a program that passes the checks, and no other, and the
-- text was put of its serial run over the events of the events file.
abbrev pub ModelDone : ModelRequest → Outside → Outside → Type 0
ModelDone r before after = (p : ProgramTree) × (text : List ℕ) × IsModelOf r before.files p text × Appends before.out.taken after.out.taken text

-- A file is too long that is read next.
abbrev pub ModelFindsLong : ModelRequest → Outside → Type 0
ModelFindsLong r before = IfTold before.files (λ held. (name : List ℕ) × IsNext (names_of r) held name × IsLong held name)

-- 1 comes only where a file is too long, or where the bytes of one have a fault, and then the line was put of the first.
abbrev pub ModelRefuses : ModelRequest → Outside → Outside → Type 0
ModelRefuses r before after =
    ModelFindsLong r before
    ⊎ ((t : ModelTexts) × AreModelTexts r before.files t × (fault : ModelFault) × IsFirstModelFault t fault × Appends before.out.taken after.out.taken (model_fault_line fault))

-- Where files are told, both are held and short enough to be read, the bytes of one have this first fault, and no read fault is
-- counted: the status is 1 and the fault's line is put, or it is 5 or 6.
abbrev pub ModelTells : ModelRequest → Outside → Outside → ℕ → Type 0
ModelTells r before after status = (held : Held) (t : ModelTexts) (fault : ModelFault) → before.files.told ≡ Some held → AreModelTexts r before.files t → IsFirstModelFault t fault
    → (Rose before.files.read_faults after.files.read_faults → ⊥) → Ends before.out after.out 1 (model_fault_line fault) status

-- 3 comes only where the file that is read next isn't held, where files are told; and where it isn't, and no read fault was
-- counted, 3 comes.
abbrev pub ModelMisses : ModelRequest → Outside → Outside → ℕ → Type 0
ModelMisses r before after status =
    (status ≡ 3 → IfTold before.files (λ held. (name : List ℕ) × IsNext (names_of r) held name × (held name ≡ None)))
    × ((held : Held) (name : List ℕ) → before.files.told ≡ Some held → IsNext (names_of r) held name → held name ≡ None → (Rose before.files.read_faults after.files.read_faults → ⊥) → DueOrYielded 3 status)

-- Where files are told, the source spells a program that passes the checks, each line of the events file that isn't empty states
-- one of its events, of which there are at most 10,000, and no fault is counted, the status is 0 or 6.
abbrev pub ModelCompletes : ModelRequest → Outside → Outside → ℕ → Type 0
ModelCompletes r before after status = (held : Held) (t : ModelTexts) (p : ProgramTree) → before.files.told ≡ Some held → AreModelTexts r before.files t
    → Spells t.source p → Passes p → first_unknown p t.events ≡ None → length (told_events t.events) ≤ 10000
    → (Rose before.files.read_faults after.files.read_faults → ⊥) → (Rose before.out.put_faults after.out.put_faults → ⊥)
    → (status ≡ 0) ⊎ (status ≡ 6)

-- What is promised of a `model`: how it ends, and what follows for each status. With every status no file has changed.
pub record ModelPromises (r : ModelRequest) (before after : Outside) (status : ℕ) : Type 0 where
  pub ends : Models r before after status
  pub done : status ≡ 0 → ModelDone r before after
  pub one : status ≡ 1 → ModelRefuses r before after
  pub told : ModelTells r before after status
  pub three : ModelMisses r before after status
  pub files : KeepsFiles before.files after.files
  pub complete : ModelCompletes r before after status
