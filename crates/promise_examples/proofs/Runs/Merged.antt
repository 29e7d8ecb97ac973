-- Arrivals that come before they can be heard, and arrivals that find the flag set.
use Rattle.std.specs.Prelude.{Bool, true, [], ◌∷◌}
use Rattle.std.proofs.Common.{◌≡◌, refl}
use Rattle.efrp_meaning.proofs.Examples.Programs.{tick}
use Rattle.pic_isa.specs.declared.sources.Source.TheVariants.{T0}
use Rattle.pic_machine.specs.declared.steps.Did.TheVariants.{Took, Ran}
use Rattle.pic_machine.specs.Boundary.{Step}
use Rattle.pic_machine.specs.Run.{Log}
use Rattle.firmware_promises.specs.Counts.{commits, port_writes, chip_after, count, latched_count, cleared_count, flag_after, is_under_way}
use Rattle.firmware_promises.specs.MapNames.{states_in}
use Rattle.promise_examples.proofs.Runs.Counting.{counter_map, tick_event, twice_at, puts}

-- A step at whose boundary T0 finds its flag set.
abbrev merges : Step → Bool
merges step = step.merged T0

-- T0 arrives at boundaries 5 and 7, in the boot: the flag waits, and both are one tick.
abbrev in_boot : Log
in_boot = twice_at 5 1

one_waits : latched_count in_boot tick_event 9 ≡ 1
one_waits = refl

one_merges : count in_boot merges 9 ≡ 1
one_merges = refl

flag_is_set : flag_after in_boot tick_event 9 ≡ 1
flag_is_set = refl

boot_goes_on : (in_boot 8).did ≡ Ran 14 0x178B
boot_goes_on = refl

taken_at_once : (in_boot 9).did ≡ Took
taken_at_once = refl

both_are_one : commits counter_map in_boot 30 ≡ tick ∷ []
both_are_one = refl

state_is_1 : states_in counter_map (chip_after in_boot 30) ≡ 1 ∷ []
state_is_1 = refl

-- T0 arrives at boundaries 11 and 12: the second finds the flag set, and the step clears it.
abbrev at_the_clear : Log
at_the_clear = twice_at 11 0

clear_merges : count at_the_clear merges 30 ≡ 1
clear_merges = refl

clear_clears_once : cleared_count at_the_clear tick_event 30 ≡ 1
clear_clears_once = refl

clear_commits_once : commits counter_map at_the_clear 30 ≡ tick ∷ []
clear_commits_once = refl

-- T0 arrives at boundaries 11 and 13: the flag was cleared, and the second waits until the handler is left.
abbrev in_handler : Log
in_handler = twice_at 11 1

both_latched : latched_count in_handler tick_event 30 ≡ 2
both_latched = refl

none_merges : count in_handler merges 30 ≡ 0
none_merges = refl

handler_goes_on : (in_handler 13).did ≡ Ran 5 0x3001
handler_goes_on = refl

first_is_under_way : is_under_way counter_map in_handler tick_event 14 ≡ true
first_is_under_way = refl

taken_after_the_return : (in_handler 18).did ≡ Took
taken_after_the_return = refl

both_commit : commits counter_map in_handler 30 ≡ tick ∷ tick ∷ []
both_commit = refl

port_shows_both : port_writes in_handler 30 ≡ puts 2 1 ∷ puts 2 2 ∷ []
port_shows_both = refl
