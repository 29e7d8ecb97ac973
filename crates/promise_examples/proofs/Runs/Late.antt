-- The two ticks where interrupts are late, always and at each odd boundary: the same commits and port writes, each at most one
-- step later.
use Rattle.std.specs.Prelude.{Bool, true, false, not, List, [], ◌∷◌, ◌++◌, map}
use Rattle.std.proofs.Common.{◌≡◌, refl}
use Rattle.efrp_meaning.proofs.Examples.Programs.{tick}
use Rattle.pic_isa.specs.declared.sources.Source.TheVariants.{T0}
use Rattle.pic_machine.specs.declared.steps.Did.TheVariants.{Took, Ran}
use Rattle.pic_machine.specs.Boundary.{Outer}
use Rattle.pic_machine.specs.Run.{Log, run}
use Rattle.firmware_promises.specs.Counts.{commits, port_writes, chip_after}
use Rattle.firmware_promises.specs.MapNames.{states_in}
use Rattle.promise_examples.proofs.Runs.Counting.{image, start, counter_map, two_ticks, quiet, alone, puts}

-- T0 arrives at boundaries 11 and 19, and the list goes on for ten boundaries more.
abbrev arrivals : List Outer
arrivals = quiet 11 ++ alone T0 ∷ quiet 7 ++ alone T0 ∷ quiet 10

abbrev late : Outer → Outer
late outer = record outer { late = true }

abbrev always : Log
always = run image start (map late arrivals)

-- Late at odd boundaries, by whether the first one is.
abbrev alternating : Bool → List Outer → List Outer
alternating first [] = []
alternating first (outer ∷ outers) = record outer { late = first } ∷ alternating (not first) outers

abbrev odd : Log
odd = run image start (alternating false arrivals)

-- The jump to itself runs once more, and then the interrupt is taken.
always_waits : (always 11).did ≡ Ran 15 0x280F
always_waits = refl

always_is_due : (chip_after always 12).due ≡ true
always_is_due = refl

always_takes : (always 12).did ≡ Took
always_takes = refl

always_takes_again : (always 20).did ≡ Took
always_takes_again = refl

none_is_due_then : (chip_after always 13).due ≡ false
none_is_due_then = refl

-- Without late the commits come at steps 16 and 24, and with it at steps 17 and 25.
first_in_time : commits counter_map two_ticks 17 ≡ tick ∷ []
first_in_time = refl

first_not_yet : commits counter_map always 17 ≡ []
first_not_yet = refl

first_one_later : commits counter_map always 18 ≡ tick ∷ []
first_one_later = refl

second_in_time : commits counter_map two_ticks 25 ≡ tick ∷ tick ∷ []
second_in_time = refl

second_not_yet : commits counter_map always 25 ≡ tick ∷ []
second_not_yet = refl

second_one_later : commits counter_map always 26 ≡ tick ∷ tick ∷ []
second_one_later = refl

always_shows_1_and_2 : port_writes always 26 ≡ puts 2 1 ∷ puts 2 2 ∷ []
always_shows_1_and_2 = refl

always_is_ready : (chip_after always 27).pc ≡ counter_map.ready
always_is_ready = refl

always_has_2 : states_in counter_map (chip_after always 27) ≡ 2 ∷ []
always_has_2 = refl

-- At odd boundaries: the requests come at boundaries 11 and 19, and both are late.
odd_waits : (odd 11).did ≡ Ran 15 0x280F
odd_waits = refl

odd_takes : (odd 12).did ≡ Took
odd_takes = refl

odd_commits_both : commits counter_map odd 26 ≡ tick ∷ tick ∷ []
odd_commits_both = refl

odd_shows_1_and_2 : port_writes odd 26 ≡ puts 2 1 ∷ puts 2 2 ∷ []
odd_shows_1_and_2 = refl
