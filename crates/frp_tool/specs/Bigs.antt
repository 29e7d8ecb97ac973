-- What is promised of `big N HEX MAP`.
use Rattle.std.specs.Prelude.{◌≡◌, ℕ, List, [], ◌∷◌, ◌++◌, length, Option, Some, None, Result, Ok, Err, String, string_bytes, codes, ◌⊎◌}
use Rattle.std.specs.Fmt.{decimal}
use Rattle.std.specs.declared.alloc.Global.{Global}
use Rattle.edge_io.specs.Files.{Held, FilesSeen, SameOthers, BothTold, KeepsFiles}
use Rattle.edge_io.specs.Sinks.{Appends}
use Rattle.edge_io.specs.Counts.{Rose}
use Rattle.hex_file.specs.declared.images.Image.{Image}
use Rattle.hex_file.specs.ImageOf.{IsImageOf}
use Rattle.pic_machine.specs.Run.{Log}
use Rattle.map_file.specs.declared.maps.Map.{Map}
use Rattle.map_file.specs.MapText.{line, map_text}
use Rattle.arrival_script.specs.Trace.{deepest, registers_after, state_fields}
use Rattle.firmware_promises.specs.Counts.{commits}
use Rattle.firmware_promises.specs.Firmware.{IsFirmware}
use Rattle.core_steps.specs.Scheduled.{IsScheduled}
use Rattle.large_program.specs.LargePrograms.{large_program}
use Rattle.command_parts.specs.declared.halts.Halt.{Halt}
use Rattle.command_parts.specs.declared.halts.Halt.TheVariants as halt
use Rattle.large_run.specs.declared.tallies.Tally.{Tally}
use Rattle.command_parts.specs.Lines.{named_line}
use Rattle.command_parts.specs.Outsides.{Outside}
use Rattle.command_parts.specs.Endings.{Ends}
use Rattle.frp_tool.specs.Writes.{Has, SameButTwo}
use Rattle.large_run.specs.Tallies.{AllReacted, latched_in, merged_in, run_of, steps_of}

-- What `big` is given: the number of its program, and the names of two files.
pub record BigRequest : Type 0 where
  pub number : ℕ
  pub hex : List ℕ
  pub map : List ℕ

-- The first line, over the first k steps of a run, and the second, with the states after them.
abbrev pub tally_line : ℕ → Map → Log → ℕ → List ℕ
tally_line n m log k =
    line (codes "big" ∷ decimal n ∷ codes "latched" ∷ decimal (latched_in log k) ∷ codes "merged" ∷ decimal (merged_in log k)
    ∷ codes "commits" ∷ decimal (length (commits m log k)) ∷ codes "deepest" ∷ decimal (deepest log k)
    ∷ codes "words" ∷ decimal m.words ∷ codes "ram" ∷ decimal m.ram ∷ [])

-- The same of a tally, with the word that begins the second line.
abbrev pub tally_text : ℕ → Map → Tally → List ℕ
tally_text n m t =
    codes "big " ++ (decimal n ++ (codes " latched " ++ (decimal t.latched ++ (codes " merged " ++ (decimal t.merged ++ (codes " commits " ++ (decimal t.commits
    ++ (codes " deepest " ++ (decimal t.deepest ++ (codes " words " ++ (decimal m.words ++ (codes " ram " ++ (decimal m.ram ++ codes "\nend")))))))))))))

abbrev pub states_line : Map → Log → ℕ → List ℕ
states_line m log k = line (codes "end" ∷ state_fields m (registers_after log k))

-- What is put: both lines, of the run of an image with a map.
abbrev pub big_text : ℕ → Image → Map → List ℕ
big_text n image m = tally_line n m (run_of n image m) (steps_of n m) ++ states_line m (run_of n image m) (steps_of n m)

-- What `big` makes of a number: the bytes of HEX, which mean an image, and a map, whose text is written to MAP. They are firmware
-- for the number's program and react in time; and in the image's run all have reacted.
pub record Large (n : ℕ) : Type 0 where
  pub hex : List ℕ
  pub map : Map
  pub image : Image
  pub is_firmware : IsFirmware (large_program n) hex (map_text map)
  pub is_scheduled : IsScheduled (large_program n) hex (map_text map)
  pub means : IsImageOf hex image
  pub reacted : AllReacted n map (run_of n image map) (steps_of n map)

-- What a `big` comes to: HEX wasn't written; MAP wasn't written; all was done. Each number's program passes the checks and is
-- built, so there is no refusal.
pub data BigVerdict (n : ℕ) : Type 0 where
  HexFailed : BigVerdict n
  MapFailed : Large n → BigVerdict n
  Done : Large n → BigVerdict n

abbrev pub big_status : {n : ℕ} → BigVerdict n → ℕ
big_status HexFailed = 5
big_status (MapFailed f) = 5
big_status (Done f) = 0

-- The lines that are to be put.
abbrev pub big_lines : (r : BigRequest) → BigVerdict r.number → List ℕ
big_lines r HexFailed = named_line (codes "write failed: ") r.hex
big_lines r (MapFailed f) = named_line (codes "write failed: ") r.map
big_lines r (Done f) = big_text r.number f.image f.map

-- Why a verdict comes.
abbrev pub BigCause : (r : BigRequest) → FilesSeen → FilesSeen → BigVerdict r.number → Type 0
BigCause r before after HexFailed = Rose before.write_faults after.write_faults
BigCause r before after (MapFailed f) = Rose before.write_faults after.write_faults
BigCause r before after (Done f) = Unit {0}

-- HEX holds its bytes, and MAP the text of the map.
abbrev pub HexIsWhole : (r : BigRequest) → Held → Large r.number → Type 0
HexIsWhole r held f = Has held r.hex f.hex

abbrev pub MapIsWhole : (r : BigRequest) → Held → Large r.number → Type 0
MapIsWhole r held f = Has held r.map (map_text f.map)

-- Each file but HEX and MAP is as it was.
abbrev pub OthersAsBefore : BigRequest → Held → Held → Type 0
OthersAsBefore r old new = SameButTwo old new r.hex r.map

-- The files that a verdict leaves. After a failed write the file of that name holds anything.
abbrev pub BigLeft : (r : BigRequest) → FilesSeen → FilesSeen → BigVerdict r.number → Type 0
BigLeft r before after HexFailed = BothTold before after (λ old new. SameOthers old new r.hex)
BigLeft r before after (MapFailed f) = BothTold before after (λ old new. HexIsWhole r new f × OthersAsBefore r old new)
BigLeft r before after (Done f) = BothTold before after (λ old new. HexIsWhole r new f × MapIsWhole r new f × OthersAsBefore r old new)

-- A verdict comes, and leaves these files.
abbrev pub BigComes : (r : BigRequest) → FilesSeen → FilesSeen → BigVerdict r.number → Type 0
BigComes r before after v = BigCause r before after v × BigLeft r before after v

-- Memory ran out before there was a verdict: no file has changed, or HEX is whole and no other has.
abbrev pub BigCut : BigRequest → FilesSeen → FilesSeen → Type 0
BigCut r before after =
    KeepsFiles before after
    ⊎ ((f : Large r.number) × BothTold before after (λ old new. HexIsWhole r new f × SameOthers old new r.hex))

-- A step of `big` gives a value, or memory ran out.
abbrev pub OrMemory : {A : Type 0} → (A → Type 0) → Result A Halt → Type 0
OrMemory Good (Ok value) = Good value
OrMemory Good (Err (halt.Said due text)) = ⊥
OrMemory Good (Err halt.PutFailed) = ⊥
OrMemory Good (Err halt.Memory) = Unit {0}

-- The bytes of HEX and MAP and both lines that `big` makes of a number.
abbrev pub AreBigTexts : (n : ℕ) → List ℕ → List ℕ → List ℕ → Type 0
AreBigTexts n hex text lines = (f : Large n) × (hex ≡ f.hex) × (text ≡ map_text f.map) × (lines ≡ big_text n f.image f.map)

-- What the work of a `big` comes to before its lines are put: a verdict, of which `Done` alone is no halt; or memory ran
-- out, before there was a verdict or behind it.
abbrev pub BigWorks : BigRequest → FilesSeen → FilesSeen → Result (Option (String Global)) Halt → Type 0
BigWorks r before after (Ok (Some text)) = (f : Large r.number) × BigComes r before after (Done f) × (string_bytes text ≡ big_lines r (Done f))
BigWorks r before after (Ok None) = ⊥
BigWorks r before after (Err (halt.Said due text)) = (v : BigVerdict r.number) × BigComes r before after v × (due ≡ big_status v) × (string_bytes text ≡ big_lines r v)
BigWorks r before after (Err halt.PutFailed) = ⊥
BigWorks r before after (Err halt.Memory) = BigCut r before after ⊎ ((v : BigVerdict r.number) × BigComes r before after v)

-- How a call of `big` ends: memory ran out before there was a verdict, and nothing was put; or there is a verdict, with its
-- cause, the files that it leaves, its status and its lines.
abbrev pub Bigs : BigRequest → Outside → Outside → ℕ → Type 0
Bigs r before after status =
    ((status ≡ 6) × (before.out.taken ≡ after.out.taken) × BigCut r before.files after.files)
    ⊎ ((v : BigVerdict r.number) × BigCause r before.files after.files v × BigLeft r before.files after.files v × Ends before.out after.out (big_status v) (big_lines r v) status)

-- With 0, where files and the bytes put are told, HEX and MAP hold bytes that are firmware for the number's program and react in
-- time, those of MAP being the text of a map, and all other files are as before. The two lines were put of the run of the image
-- that HEX means; and in that run all have reacted.
abbrev pub BigDone : BigRequest → Outside → Outside → Type 0
BigDone r before after = (hex : List ℕ) × (m : Map) × (image : Image)
    × IsFirmware (large_program r.number) hex (map_text m) × IsScheduled (large_program r.number) hex (map_text m) × IsImageOf hex image
    × BothTold before.files after.files (λ old new. Has new r.hex hex × Has new r.map (map_text m) × OthersAsBefore r old new)
    × Appends before.out.taken after.out.taken (big_text r.number image m)
    × AllReacted r.number m (run_of r.number image m) (steps_of r.number m)

-- No number is refused: a call ends with 0, 5 or 6; and where no fault of a write or of a put is counted, with 0 or 6.
abbrev pub BigCompletes : Outside → Outside → ℕ → Type 0
BigCompletes before after status =
    (Rose before.files.write_faults after.files.write_faults → ⊥) → (Rose before.out.put_faults after.out.put_faults → ⊥)
    → (status ≡ 0) ⊎ (status ≡ 6)

-- What is promised of a `big`: how it ends, and what follows for each status. It reads nothing. With every status no file but HEX
-- and MAP has changed.
pub record BigPromises (r : BigRequest) (before after : Outside) (status : ℕ) : Type 0 where
  pub ends : Bigs r before after status
  pub done : status ≡ 0 → BigDone r before after
  pub statuses : (status ≡ 0) ⊎ ((status ≡ 5) ⊎ (status ≡ 6))
  pub files : BothTold before.files after.files (OthersAsBefore r)
  pub complete : BigCompletes before after status
