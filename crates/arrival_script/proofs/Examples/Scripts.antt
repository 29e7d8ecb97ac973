-- Worked texts: what they state, and the first fault of each.
use Rattle.std.proofs.Common.{◌≡◌, ℕ, List, [], ◌∷◌, ◌++◌, Option, Some, None, codes, refl}
use Rattle.arrival_script.specs.declared.scripts.Arrival.{Arrival}
use Rattle.arrival_script.specs.declared.scripts.PinChange.{PinChange}
use Rattle.arrival_script.specs.declared.scripts.Late.TheVariants.{Never, Always, Odd}
use Rattle.arrival_script.specs.declared.scripts.Cause.{Cause}
use Rattle.arrival_script.specs.declared.scripts.Cause.TheVariants.{AfterSteps, BadLine, BadNumber, UnknownSource, UnknownPort, SourceTwice, NotRising, PinTwice, NoSteps, PastEnd}
use Rattle.text_parts.specs.Fields.{fields_of}
use Rattle.arrival_script.specs.Scripts.{Fault, told_lines, first_fault, fill_of, late_of, arrivals_in, pins_in, steps_of}

abbrev line : List ℕ → List ℕ
line text = text ++ codes "\n"

abbrev told : ℕ → Cause → Option Fault
told n cause = Some (record { line = n; cause = cause })

abbrev arrival : ℕ → ℕ → Arrival
arrival boundary set = record { at = boundary; sources = set }

abbrev change : ℕ → ℕ → ℕ → PinChange
change boundary port byte = record { at = boundary; port = port; byte = byte }

-- Spaces stand at the ends of lines and between fields, a line ends in CR LF, and the last has no ending.
abbrev whole : List ℕ
whole = line (codes "  # a comment") ++ line (codes "fill aF") ++ line (codes "") ++ line (codes "at 0  INT T0 ") ++ line (codes "   ")
    ++ (codes " at 00000012 CCP2" ++ 13 ∷ 10 ∷ []) ++ codes "steps 13"

whole-passes : first_fault whole ≡ None
whole-passes = refl

whole-fill : fill_of (told_lines whole) ≡ 0xAF
whole-fill = refl

whole-arrivals : arrivals_in (told_lines whole) ≡ arrival 0 3 ∷ arrival 12 1024 ∷ []
whole-arrivals = refl

whole-steps : steps_of (told_lines whole) ≡ Some 13
whole-steps = refl

-- Without `fill` the byte is 00.
abbrev steps_alone : List ℕ
steps_alone = codes "steps 10000000"

alone-passes : first_fault steps_alone ≡ None
alone-passes = refl

alone-fill : fill_of (told_lines steps_alone) ≡ 0
alone-fill = refl

alone-late : late_of (told_lines steps_alone) ≡ Never
alone-late = refl

-- Late interrupts and changes of pins. At one boundary pins may change before and after an arrival, and at several ports.
abbrev outside : List ℕ
outside = line (codes "fill 01") ++ line (codes "late odd") ++ line (codes "pin 0 PORTB 10") ++ line (codes "pin 7 PORTC 0f") ++ line (codes "at 7 INT") ++ line (codes " pin  7 PORTB FF") ++ codes "steps 8"

outside-passes : first_fault outside ≡ None
outside-passes = refl

outside-late : late_of (told_lines outside) ≡ Odd
outside-late = refl

outside-pins : pins_in (told_lines outside) ≡ change 0 1 0x10 ∷ change 7 2 0x0F ∷ change 7 1 0xFF ∷ []
outside-pins = refl

late_first : late_of (told_lines (line (codes "late always") ++ codes "steps 1")) ≡ Always
late_first = refl

-- A tab is no space, and a CR at the very end is a byte of the line.
tabs : fields_of (codes "at\t1 INT") ≡ codes "at\t1" ∷ codes "INT" ∷ []
tabs = refl

last_return : first_fault (codes "steps 9" ++ 13 ∷ []) ≡ told 1 BadNumber
last_return = refl

-- Each cause. A line is told with the first that applies.
after_steps : first_fault (line (codes "steps 9") ++ line (codes "# and then") ++ codes "nonsense") ≡ told 3 AfterSteps
after_steps = refl

unknown_word : first_fault (line (codes "") ++ codes "step 9") ≡ told 2 BadLine
unknown_word = refl

three_fields : first_fault (codes "steps 9 9") ≡ told 1 BadLine
three_fields = refl

no_source : first_fault (codes "at x") ≡ told 1 BadLine
no_source = refl

one_digit : first_fault (codes "fill A") ≡ told 1 BadLine
one_digit = refl

late_fill : first_fault (line (codes "fill 00") ++ codes "fill 00") ≡ told 2 BadLine
late_fill = refl

late_alone : first_fault (codes "late") ≡ told 1 BadLine
late_alone = refl

other_late : first_fault (codes "late even") ≡ told 1 BadLine
other_late = refl

late_twice : first_fault (line (codes "late never") ++ codes "late never") ≡ told 2 BadLine
late_twice = refl

late_after_at : first_fault (line (codes "fill 00") ++ line (codes "at 5 INT") ++ codes "late odd") ≡ told 3 BadLine
late_after_at = refl

fill_after_late : first_fault (line (codes "late odd") ++ codes "fill 00") ≡ told 2 BadLine
fill_after_late = refl

three_of_a_pin : first_fault (codes "pin 5 PORTB") ≡ told 1 BadLine
three_of_a_pin = refl

no_pin_byte : first_fault (codes "pin x PORTX 0") ≡ told 1 BadLine
no_pin_byte = refl

no_pin_number : first_fault (codes "pin x PORTX 00") ≡ told 1 BadNumber
no_pin_number = refl

nine_digits : first_fault (codes "at 000000001 RB") ≡ told 1 BadNumber
nine_digits = refl

no_steps_at_all : first_fault (codes "steps 0") ≡ told 1 BadNumber
no_steps_at_all = refl

too_many_steps : first_fault (codes "steps 10000001") ≡ told 1 BadNumber
too_many_steps = refl

unknown_source : first_fault (codes "at 5 INT INT RB") ≡ told 1 UnknownSource
unknown_source = refl

source_twice : first_fault (line (codes "at 5 INT") ++ codes "at 5 T0 INT T0") ≡ told 2 SourceTwice
source_twice = refl

not_rising : first_fault (line (codes "at 5 INT") ++ codes "at 5 T0") ≡ told 2 NotRising
not_rising = refl

unknown_port : first_fault (codes "pin 5 PORTX 00") ≡ told 1 UnknownPort
unknown_port = refl

pin_falls : first_fault (line (codes "at 5 INT") ++ codes "pin 4 PORTB 00") ≡ told 2 NotRising
pin_falls = refl

at_falls : first_fault (line (codes "pin 5 PORTB 00") ++ codes "at 4 INT") ≡ told 2 NotRising
at_falls = refl

at_twice : first_fault (line (codes "at 5 INT") ++ line (codes "pin 5 PORTB 00") ++ codes "at 5 T0") ≡ told 3 NotRising
at_twice = refl

pin_twice : first_fault (line (codes "pin 5 PORTB 00") ++ line (codes "pin 5 PORTA 00") ++ codes "pin 5 PORTB 01") ≡ told 3 PinTwice
pin_twice = refl

no_steps : first_fault (line (codes "at 5 INT") ++ line (codes "# no more")) ≡ told 3 NoSteps
no_steps = refl

empty_text : first_fault [] ≡ told 1 NoSteps
empty_text = refl

past_end : first_fault (line (codes "at 5 INT") ++ line (codes "at 6 T0") ++ line (codes "at 7 T0") ++ codes "steps 6") ≡ told 2 PastEnd
past_end = refl

pin_past_end : first_fault (line (codes "at 5 INT") ++ line (codes "pin 6 PORTB 00") ++ line (codes "at 7 T0") ++ codes "steps 6") ≡ told 2 PastEnd
pin_past_end = refl
