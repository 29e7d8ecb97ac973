-- What a line says by itself, whichever lines stand before.
use Rattle.std.specs.Prelude.{◌≡◌, ℕ, ◌<◌, ◌≤◌, true, not, ◌&&◌, if◌then◌else◌, List, length, Option, Some, None, Result, Ok, Err, codes}
use Rattle.std.specs.List.{list_all, list_any}
use Rattle.std.specs.Str.{bytes_eq}
use Rattle.text_parts.specs.Numbers.{value_after}
use Rattle.pic_isa.specs.Sources.{source_name}
use Rattle.pic_regs.specs.Arrivals.{number_of}
use Rattle.arrival_script.specs.declared.scripts.Cause.{Cause}
use Rattle.arrival_script.specs.declared.scripts.Cause.TheVariants.{BadLine, BadNumber, UnknownSource, UnknownPort, SourceTwice}
use Rattle.arrival_script.specs.declared.entries.Entry.{Entry}
use Rattle.arrival_script.specs.declared.entries.Entry.TheVariants as entry
use Rattle.arrival_script.specs.Scripts.{Line, word, second, third, names, value, is_opening, is_pin, has_form, has_number, is_source, is_port, has_twice, late_named, arrival_of, pin_of}

-- A line with these fields. What a line says by itself doesn't depend on its number.
abbrev pub line_of : List (List ℕ) → Line
line_of fields = record { number = 0; fields = fields }

-- The cause that applies to an `at` line by its names.
abbrev pub names_cause : List (List ℕ) → Option Cause
names_cause found = if not (list_all is_source found) then Some UnknownSource else if has_twice found then Some SourceTwice else None

-- The cause that applies to a line by itself, whichever lines stand before.
abbrev pub own_cause : Line → Option Cause
own_cause line =
    if not (has_form line) then Some BadLine
    else if not (has_number line) then Some BadNumber
    else if not (list_all is_source (names line)) then Some UnknownSource
    else if is_pin line && not (is_port (third line)) then Some UnknownPort
    else if has_twice (names line) then Some SourceTwice
    else None

-- The set of the sources that are named, or the cause.
abbrev pub SetOf : List (List ℕ) → Result ℕ Cause → Type 0
SetOf found (Ok set) = (names_cause found ≡ None) × (set ≡ number_of (λ source. list_any (bytes_eq (source_name source)) found)) × (set < 2048) × (0 < length found → 0 < set)
SetOf found (Err cause) = names_cause found ≡ Some cause

-- A line of this word says this.
abbrev pub Says : Line → Entry → Type 0
Says line (entry.Fill byte) = (word line ≡ codes "fill") × (byte ≡ value_after 16 0 (second line)) × (byte < 256)
Says line (entry.Late late) = (word line ≡ codes "late") × (late_named (second line) ≡ Some late)
Says line (entry.At arrival) = (word line ≡ codes "at") × (arrival ≡ arrival_of line) × (0 < arrival.sources) × (arrival.sources < 2048)
Says line (entry.Pin change) = (word line ≡ codes "pin") × (change ≡ pin_of line) × (change.port < 5) × (change.byte < 256)
Says line (entry.Steps n) = (word line ≡ codes "steps") × (n ≡ value line) × (1 ≤ n) × (n ≤ 10000000)

-- What a line says by itself, or the cause that applies to it. No other cause than `BadLine` applies to a `fill` or a
-- `late` line.
abbrev pub EntryOf : Line → Result Entry Cause → Type 0
EntryOf line (Ok found) = (own_cause line ≡ None) × Says line found
EntryOf line (Err cause) = (own_cause line ≡ Some cause) × (is_opening line ≡ true → cause ≡ BadLine)
