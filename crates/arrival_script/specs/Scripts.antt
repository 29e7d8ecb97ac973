-- What a script's text states, and its first fault.
use Rattle.std.specs.Prelude.{◌≡◌, ℕ, ◌<◌, ◌≤◌, ◌+◌, ◌-◌, Bool, true, false, not, ◌&&◌, ◌||◌, ◌==◌, nat_lt, nat_le, if◌then◌else◌, is_some, List, [], ◌∷◌, ◌++◌, length, map, filter, drop, get_or, Option, Some, None, Result, Ok, Err, codes, slice_get}
use Rattle.std.specs.List.{All, find, list_all, list_any}
use Rattle.std.specs.List.Sorted.{IsStrictlyIncreasing, IsNonDecreasingBy}
use Rattle.std.specs.Str.{bytes_eq}
use Rattle.std.specs.Str.Lines.{lines}
use Rattle.text_parts.specs.Bytes.{is_between, begins}
use Rattle.text_parts.specs.Fields.{fields_of}
use Rattle.text_parts.specs.Numbers.{value_after, is_decimal, is_byte}
use Rattle.pic_isa.specs.declared.sources.Source.{Source}
use Rattle.pic_isa.specs.declared.sources.Source.TheVariants.{T0, Int, Psp, Ad, Ssp, Ccp1, Tmr2, Tmr1, Ee, Bcl, Ccp2}
use Rattle.pic_isa.specs.Sources.{source_name}
use Rattle.pic_isa.specs.Names.{port_at}
use Rattle.pic_regs.specs.Arrivals.{number_of}
use Rattle.arrival_script.specs.declared.scripts.Arrival.{Arrival}
use Rattle.arrival_script.specs.declared.scripts.PinChange.{PinChange}
use Rattle.arrival_script.specs.declared.scripts.Late.{Late}
use Rattle.arrival_script.specs.declared.scripts.Late.TheVariants.{Never, Always, Odd}
use Rattle.arrival_script.specs.declared.scripts.Script.{Script}
use Rattle.arrival_script.specs.declared.scripts.Cause.{Cause}
use Rattle.arrival_script.specs.declared.scripts.Cause.TheVariants.{AfterSteps, BadLine, BadNumber, UnknownSource, UnknownPort, SourceTwice, NotRising, PinTwice, NoSteps, PastEnd}
use Rattle.arrival_script.specs.declared.scripts.ScriptFault.{ScriptFault}
use Rattle.arrival_script.specs.declared.scripts.ScriptFault.TheVariants as fault

-- A line that isn't skipped: its number, counted from 1 over all lines, and its fields.
pub record Line : Type 0 where
  pub number : ℕ
  pub fields : List (List ℕ)

-- A line is skipped that has no field, or whose first field begins with `#`.
abbrev pub is_told : List (List ℕ) → Bool
is_told [] = false
is_told (first ∷ more) = not (begins (λ b. b == 35) first)

-- The lines that aren't skipped, of lines that are numbered from n.
abbrev pub told_from : ℕ → List (List ℕ) → List Line
told_from n [] = []
told_from n (text ∷ texts) =
    let rest = told_from (n + 1) texts in
    let fields = fields_of text in
    if is_told fields then record { number = n; fields = fields } ∷ rest else rest

-- Those of a text. Its lines end in LF or CR LF; the last may have no ending, and then a CR at the very end is a byte
-- of it.
abbrev pub told_lines : List ℕ → List Line
told_lines bytes = told_from 1 (lines bytes)

-- The parts of a line: its word, which is the first field, and the three fields after it.
abbrev pub word : Line → List ℕ
word line = get_or line.fields 0 []

abbrev pub second : Line → List ℕ
second line = get_or line.fields 1 []

abbrev pub third : Line → List ℕ
third line = get_or line.fields 2 []

abbrev pub fourth : Line → List ℕ
fourth line = get_or line.fields 3 []

abbrev pub is_fill : Line → Bool
is_fill line = bytes_eq (word line) (codes "fill")

abbrev pub is_late : Line → Bool
is_late line = bytes_eq (word line) (codes "late")

abbrev pub is_at : Line → Bool
is_at line = bytes_eq (word line) (codes "at")

abbrev pub is_pin : Line → Bool
is_pin line = bytes_eq (word line) (codes "pin")

abbrev pub is_steps : Line → Bool
is_steps line = bytes_eq (word line) (codes "steps")

-- The lines that stand before all others, and those whose second field is a boundary.
abbrev pub is_opening : Line → Bool
is_opening line = is_fill line || is_late line

abbrev pub is_timed : Line → Bool
is_timed line = is_at line || is_pin line

-- The names of an `at` line, which are all fields after the second.
abbrev pub names : Line → List (List ℕ)
names line = if is_at line then drop 2 line.fields else []

-- One to eight decimal digits.
abbrev pub is_number : List ℕ → Bool
is_number w = is_decimal w && nat_le (length w) 8

-- The number that the second field is.
abbrev pub value : Line → ℕ
value line = value_after 10 0 (second line)

-- The sources, by their number.
abbrev pub sources : List Source
sources = T0 ∷ Int ∷ Psp ∷ Ad ∷ Ssp ∷ Ccp1 ∷ Tmr2 ∷ Tmr1 ∷ Ee ∷ Bcl ∷ Ccp2 ∷ []

-- A source has this name.
abbrev pub is_source : List ℕ → Bool
is_source name = list_any (λ source. bytes_eq (source_name source) name) sources

-- Two elements are alike.
abbrev pub has_pair : {X : Type 0} → (X → X → Bool) → List X → Bool
has_pair alike [] = false
has_pair alike (x ∷ more) = list_any (alike x) more || has_pair alike more

-- Two names are alike.
abbrev pub has_twice : List (List ℕ) → Bool
has_twice found = has_pair bytes_eq found

-- A port has this name, and its number.
abbrev pub is_port : List ℕ → Bool
is_port name = is_some (port_at name)

abbrev pub port_number : List ℕ → ℕ
port_number name = elim (port_at name) [ None ↦ 0 | Some number ↦ number ]

-- When requested interrupts are late, by the second field of a `late` line.
abbrev pub late_named : List ℕ → Option Late
late_named w =
    if bytes_eq w (codes "never") then Some Never
    else if bytes_eq w (codes "always") then Some Always
    else if bytes_eq w (codes "odd") then Some Odd
    else None

-- The change that a `pin` line states.
abbrev pub pin_of : Line → PinChange
pin_of line = record { at = value line; port = port_number (third line); byte = value_after 16 0 (fourth line) }

-- Two changes are of the same port at the same boundary.
abbrev pub is_same_pin : PinChange → PinChange → Bool
is_same_pin a b = a.at == b.at && a.port == b.port

-- The form of each of the five lines: `fill` and a byte, `late` and one of its three words, `at` and two fields or more,
-- `pin` and two fields and a byte, `steps` and a field.
abbrev pub has_form : Line → Bool
has_form line =
    is_fill line && length line.fields == 2 && is_byte (second line)
    || is_late line && length line.fields == 2 && is_some (late_named (second line))
    || is_at line && nat_le 3 (length line.fields)
    || is_pin line && length line.fields == 4 && is_byte (fourth line)
    || is_steps line && length line.fields == 2

-- A `fill` line stands after another line, or a `late` line after another than a `fill` line.
abbrev pub is_misplaced : List Line → Line → Bool
is_misplaced before line = is_fill line && nat_lt 0 (length before) || is_late line && not (list_all is_fill before)

-- The second field of an `at`, a `pin` or a `steps` line is a number, and that of a `steps` line is from 1 to 10,000,000.
abbrev pub has_number : Line → Bool
has_number line = is_opening line || is_number (second line) && (is_timed line || is_between 1 10000000 (value line))

-- The last line of a kind.
abbrev pub last_of : (Line → Bool) → List Line → Option Line
last_of kind lines = let found = filter kind lines in slice_get found (length found - 1)

-- A line's boundary isn't below that of the `at` or `pin` line before, if there is one; and that of an `at` line is above
-- that of the `at` line before, if there is one.
abbrev pub rises : List Line → Line → Bool
rises before line =
    elim (last_of is_timed before) [ None ↦ true | Some last ↦ nat_le (value last) (value line) ]
    && (not (is_at line) || elim (last_of is_at before) [ None ↦ true | Some last ↦ nat_lt (value last) (value line) ])

-- The changes that the `pin` lines among these state, in order.
abbrev pub pins_in : List Line → List PinChange
pins_in told = map pin_of (filter is_pin told)

-- A line changes the same port at the same boundary as a `pin` line before.
abbrev pub is_twice : List Line → Line → Bool
is_twice before line = list_any (is_same_pin (pin_of line)) (pins_in before)

-- The cause that applies to a line after these lines, all told: the first in this order.
abbrev pub line_cause : List Line → Line → Option Cause
line_cause before line =
    if list_any is_steps before then Some AfterSteps
    else if not (has_form line) || is_misplaced before line then Some BadLine
    else if not (has_number line) then Some BadNumber
    else if not (list_all is_source (names line)) then Some UnknownSource
    else if is_pin line && not (is_port (third line)) then Some UnknownPort
    else if has_twice (names line) then Some SourceTwice
    else if is_timed line && not (rises before line) then Some NotRising
    else if is_pin line && is_twice before line then Some PinTwice
    else None

-- A line and the cause that is told of it.
pub record Fault : Type 0 where
  pub line : ℕ
  pub cause : Cause

-- The first fault among lines that stand after others: the first line to which a cause applies.
abbrev pub fault_among : List Line → List Line → Option Fault
fault_among before [] = None
fault_among before (line ∷ more) =
    elim (line_cause before line) [ Some cause ↦ Some (record { line = line.number; cause = cause }) | None ↦ fault_among (before ++ line ∷ []) more ]

-- Where no cause applies to a line: there is no `steps` line, told at the number after the last of all lines; or the
-- boundary of an `at` or `pin` line isn't below its number, told at the first such one.
abbrev pub fault_at_end : ℕ → List Line → Option Fault
fault_at_end count told =
    elim (find is_steps told) [
      | None ↦ Some (record { line = count + 1; cause = NoSteps })
      | Some last ↦
          elim (find (λ line. is_timed line && nat_le (value last) (value line)) told) [
            | None ↦ None
            | Some past ↦ Some (record { line = past.number; cause = PastEnd })
          ]
    ]

-- The first fault of a text, if it has one.
abbrev pub first_fault : List ℕ → Option Fault
first_fault bytes =
    elim (fault_among [] (told_lines bytes)) [ Some found ↦ Some found | None ↦ fault_at_end (length (lines bytes)) (told_lines bytes) ]

abbrev pub FirstFault : List ℕ → ℕ → Cause → Type 0
FirstFault bytes line cause = first_fault bytes ≡ Some (record { line = line; cause = cause })

-- What the lines state: the byte of the `fill` line, or 0; when interrupts are late, which is never without a `late`
-- line; the boundary and the sources of each `at` line, in order; the changes of the `pin` lines, as above; and the
-- number of the `steps` line.
abbrev pub fill_of : List Line → ℕ
fill_of told = elim (find is_fill told) [ None ↦ 0 | Some line ↦ value_after 16 0 (second line) ]

abbrev pub late_in : Line → Late
late_in line = elim (late_named (second line)) [ None ↦ Never | Some late ↦ late ]

abbrev pub late_of : List Line → Late
late_of told = elim (find is_late told) [ None ↦ Never | Some line ↦ late_in line ]

abbrev pub arrival_of : Line → Arrival
arrival_of line = record { at = value line; sources = number_of (λ source. list_any (bytes_eq (source_name source)) (names line)) }

abbrev pub arrivals_in : List Line → List Arrival
arrivals_in told = map arrival_of (filter is_at told)

abbrev pub steps_of : List Line → Option ℕ
steps_of told = elim (find is_steps told) [ None ↦ None | Some line ↦ Some (value line) ]

-- The script that lines state, and that of a text.
pub record States (told : List Line) (script : Script) : Type 0 where
  pub fill : script.fill ≡ fill_of told
  pub late : script.late ≡ late_of told
  pub arrivals : script.arrivals ≡ arrivals_in told
  pub pins : script.pins ≡ pins_in told
  pub steps : steps_of told ≡ Some script.steps

abbrev pub IsScriptOf : List ℕ → Script → Type 0
IsScriptOf bytes script = States (told_lines bytes) script

-- An arrival before the last step, of at least one source.
pub record IsArrival (steps : ℕ) (a : Arrival) : Type 0 where
  pub in_time : a.at < steps
  pub some : 0 < a.sources
  pub known : a.sources < 2048

-- A change of a port's pins before the last step, to a byte.
pub record IsPinChange (steps : ℕ) (p : PinChange) : Type 0 where
  pub in_time : p.at < steps
  pub port : p.port < 5
  pub byte : p.byte < 256

-- A script that a run can take. Arrivals rise, changes of pins don't fall, and no port changes twice at one boundary.
pub record IsScript (script : Script) : Type 0 where
  pub fill : script.fill < 256
  pub rising : IsStrictlyIncreasing (map (λ a. a.at) script.arrivals)
  pub arrivals : All (IsArrival script.steps) script.arrivals
  pub order : IsNonDecreasingBy (λ p. p.at) script.pins
  pub pins : All (IsPinChange script.steps) script.pins
  pub once : has_pair is_same_pin script.pins ≡ false
  pub some : 1 ≤ script.steps
  pub limit : script.steps ≤ 10000000

-- What is answered of a text: where it has no fault the script that it states, otherwise its first fault. Out of
-- memory may come in place of either.
abbrev pub Reads : List ℕ → Result Script ScriptFault → Type 0
Reads bytes (Ok script) = (first_fault bytes ≡ None) × IsScriptOf bytes script × IsScript script
Reads bytes (Err (fault.Line line cause)) = FirstFault bytes line cause
Reads bytes (Err fault.Memory) = Unit {0}
