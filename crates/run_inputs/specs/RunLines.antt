-- The lines of faults in a HEX file, a map or a script, and of a stop.
use Rattle.std.specs.Prelude.{ℕ, List, [], ◌++◌, codes}
use Rattle.std.specs.Fmt.{decimal}
use Rattle.text_parts.specs.Digits.{hex2, hex4}
use Rattle.pic_machine.specs.declared.steps.Why.{Why}
use Rattle.pic_machine.specs.declared.steps.Why.TheVariants as why
use Rattle.hex_file.specs.declared.faults.HexFault.{HexFault}
use Rattle.hex_file.specs.declared.faults.HexFault.TheVariants as hex
use Rattle.arrival_script.specs.declared.scripts.Cause.{Cause}
use Rattle.arrival_script.specs.declared.scripts.Cause.TheVariants as cause

-- A line on a fault at a line of a HEX file.
abbrev pub hex_line_at : ℕ → List ℕ → List ℕ
hex_line_at n rest = codes "refused: hex " ++ (decimal n ++ rest)

-- The line of a HEX file's fault: the number of its line and its kind, and behind these what was found there. Want of
-- memory has none.
abbrev pub hex_line : HexFault → List ℕ
hex_line (hex.BadChar n) = hex_line_at n (codes " char\n")
hex_line (hex.BadLength n) = hex_line_at n (codes " length\n")
hex_line (hex.BadSum n got want) = hex_line_at n (codes " sum " ++ (hex2 got ++ (codes " " ++ (hex2 want ++ codes "\n"))))
hex_line (hex.BadType n kind) = hex_line_at n (codes " type " ++ (hex2 kind ++ codes "\n"))
hex_line (hex.OutOfRange n) = hex_line_at n (codes " range\n")
hex_line (hex.Clash n address) = hex_line_at n (codes " clash " ++ (hex4 address ++ codes "\n"))
hex_line hex.NoEnd = codes "refused: hex no end\n"
hex_line (hex.AfterEnd n) = hex_line_at n (codes " after end\n")
hex_line hex.Memory = []

-- The line of a map's first faulty line.
abbrev pub map_line : ℕ → List ℕ
map_line n = codes "refused: map " ++ (decimal n ++ codes "\n")

-- The word for a cause of a fault in a script.
abbrev pub cause_word : Cause → List ℕ
cause_word cause.AfterSteps = codes "after"
cause_word cause.BadLine = codes "line"
cause_word cause.BadNumber = codes "number"
cause_word cause.UnknownSource = codes "source"
cause_word cause.UnknownPort = codes "port"
cause_word cause.SourceTwice = codes "twice"
cause_word cause.NotRising = codes "rising"
cause_word cause.PinTwice = codes "pintwice"
cause_word cause.NoSteps = codes "nosteps"
cause_word cause.PastEnd = codes "past"

-- The line of a script's fault.
abbrev pub script_line : ℕ → Cause → List ℕ
script_line n found = codes "refused: script " ++ (decimal n ++ (codes " " ++ (cause_word found ++ codes "\n")))

-- The word for why the chip stopped.
abbrev pub why_word : Why → List ℕ
why_word why.UnknownWord = codes "word"
why_word why.Sleep = codes "sleep"

-- The line of a stop: the step, and the address in words.
abbrev pub stop_line : ℕ → ℕ → Why → List ℕ
stop_line step address found = codes "refused: stop " ++ (decimal step ++ (codes " " ++ (hex4 address ++ (codes " " ++ (why_word found ++ codes "\n")))))
