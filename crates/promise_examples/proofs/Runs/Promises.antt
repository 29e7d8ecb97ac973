-- What firmware promises, of the counter's image and map and of moments of its run.
use Rattle.std.specs.Prelude.{ℕ, Bool, not, ◌&&◌, ◌+◌}
use Rattle.std.proofs.Common.{◌≡◌, refl, sym, ◌∙◌, inl, inr, arith}
use Rattle.pic_regs.specs.Map.{canonical}
use Rattle.map_file.specs.MapRules.{IsMap}
use Rattle.firmware_promises.specs.Counts.{count, latched_count, cleared_count, commit_count, flag_after}
use Rattle.firmware_promises.specs.MapNames.{is_listed}
use Rattle.firmware_promises.specs.Firmware.{Names, Reports, count_below, may_be_written, is_at}
use Rattle.firmware_promises.specs.Once.{Once, Waits, GoesOn}
use Rattle.firmware_promises.specs.Settled.{Settled}
use Rattle.promise_examples.proofs.Runs.Counting.{program, image, counter_map, tick_event, two_ticks}
use Rattle.pic_machine.specs.Dids.{is_stop}

-- A listed address that is no lowest one of a register, or that the program may not write.
abbrev is_wrong : ℕ → Bool
is_wrong a = is_listed counter_map a && not (is_at a (canonical a) && may_be_written program a)

none_is_wrong : count_below 512 is_wrong ≡ 0
unfolding count_below
none_is_wrong = refl

-- The map keeps the rules of maps, names what is the program's and reports rightly.
keeps_the_rules : IsMap counter_map
keeps_the_rules = search (arith)

names_rightly : Names program image counter_map
names_rightly = search (arith)

reports_rightly : Reports program image counter_map
unfolding count_below
reports_rightly = search (arith)

-- No step stops the chip.
none_stops : count two_ticks (λ step. is_stop step.did) 27 ≡ 0
none_stops = refl

-- The counts of Tick after some steps: the latches, the steps that cleared its flag, the commits, and its flag.
record Counted (n latches clears its_commits its_flag : ℕ) : Type 0 where
  latched : latched_count two_ticks tick_event n ≡ latches
  cleared : cleared_count two_ticks tick_event n ≡ clears
  committed : commit_count counter_map two_ticks tick_event n ≡ its_commits
  flagged : flag_after two_ticks tick_event n ≡ its_flag

at_first : Counted 11 0 0 0 0
at_first = record { latched = refl; cleared = refl; committed = refl; flagged = refl }

while_one_waits : Counted 12 1 0 0 1
while_one_waits = record { latched = refl; cleared = refl; committed = refl; flagged = refl }

while_one_is_under_way : Counted 13 1 1 0 0
while_one_is_under_way = record { latched = refl; cleared = refl; committed = refl; flagged = refl }

in_the_end : Counted 26 2 2 2 0
in_the_end = record { latched = refl; cleared = refl; committed = refl; flagged = refl }

-- Each once at these moments: where it is under way, one latch more and one clearing more stand for that.
waits : (n its_commits its_flag : ℕ) → Counted n (its_commits + its_flag) its_commits its_commits its_flag → Waits counter_map two_ticks tick_event n
waits n its_commits its_flag c = record { committed = c.cleared ∙ sym c.committed; accounted = rw (c.committed, c.flagged) c.latched }

goes_on : (n its_commits its_flag : ℕ) → Counted n (its_commits + its_flag + 1) (its_commits + 1) its_commits its_flag → GoesOn counter_map two_ticks tick_event n
goes_on n its_commits its_flag c = record { under_way = rw c.committed c.cleared; accounted = rw (c.committed, c.flagged) c.latched }

once_at_first : Once counter_map two_ticks 11
once_at_first = (inl (waits 11 0 0 at_first), tt)

once_while_one_waits : Once counter_map two_ticks 12
once_while_one_waits = (inl (waits 12 0 1 while_one_waits), tt)

once_while_one_is_under_way : Once counter_map two_ticks 13
once_while_one_is_under_way = (inr (goes_on 13 0 0 while_one_is_under_way), tt)

once_in_the_end : Once counter_map two_ticks 26
once_in_the_end = (inl (waits 26 2 0 in_the_end), tt)

-- All have reacted.
reacted : commit_count counter_map two_ticks tick_event 26 ≡ latched_count two_ticks tick_event 26
reacted = in_the_end.committed ∙ sym in_the_end.latched

settles : Settled counter_map two_ticks 26
settles = record { clear = (refl, tt); ready = refl; reacted = (reacted, tt) }
