-- A map of two events and a counter of the first: numbers, levels, values step by step, and both sides of what is told.
use Rattle.std.specs.Prelude.{◌≡◌, ℕ, ◌+◌, ◌%◌, true, false, [], ◌∷◌, refl}
use Rattle.efrp_meaning.proofs.Examples.Programs.{counter, tick, go}
use Rattle.pic_isa.specs.declared.sources.Source.TheVariants.{T0, Tmr1}
use Rattle.pic_regs.specs.Bytes.{zeros}
use Rattle.pic_regs.specs.Registers.{Registers}
use Rattle.pic_machine.specs.declared.steps.Did.TheVariants.{Took, Ran}
use Rattle.pic_machine.specs.declared.steps.PortWrite.{PortWrite}
use Rattle.map_file.specs.declared.maps.MapEvent.{MapEvent}
use Rattle.map_file.specs.declared.maps.Map.{Map}
use Rattle.timed_core.specs.Steps.{Run}
use Rattle.timed_core.specs.Steps.Phase.{Boots, Rests, Works, Chooses, Copies, Leaves}
use Rattle.timed_core.specs.Steps.Label.{Stays, Readies, Opens, Puts, Commits}
use Rattle.core_story.specs.Values.{Values, Valued, name_at}
use Rattle.core_story.specs.Interface.{level_at, numbers_from, flag_at, is_return_word, is_opening, shows_state, nested}

abbrev tick_event : MapEvent
tick_event = record { name = tick; source = T0; priority = 1; «open» = 20; commit = 25 }

abbrev go_event : MapEvent
go_event = record { name = go; source = Tmr1; priority = 3; «open» = 40; commit = 45 }

abbrev two_events : Map
two_events =
    record { events = tick_event ∷ go_event ∷ []; states = []; outputs = 1 ∷ []; samples = []; ready = 10; regs = []; depth = 2; ram = 1; words = 50; settle = 900 }

-- Numbers count from 0 in the map's order; a number that is none of an event has no level, no flag and no name.
pub numbers : numbers_from 0 two_events.events ≡ 0 ∷ 1 ∷ []
numbers = refl

pub levels : (level_at two_events 0 ≡ 1) × (level_at two_events 1 ≡ 3) × (level_at two_events 2 ≡ 0)
levels = (refl, refl, refl)

pub names : (name_at two_events 1 ≡ go) × (name_at two_events 2 ≡ [])
names = (refl, refl)

-- T0IF is bit 2 of INTCON, TMR1IF is bit 0 of PIR1.
pub flags : (r : Registers) → (flag_at two_events (record r { intcon = record zeros { b2 = true } }) 0 ≡ true) × (flag_at two_events (record r { pir1 = zeros }) 1 ≡ false) × (flag_at two_events r 2 ≡ false)
flags r = (refl, refl, refl)

-- RETFIE is 0009h, RETURN is 0008h; a taking returns from nothing.
pub returns : (is_return_word (Ran 30 0x0009) ≡ true) × (is_return_word (Ran 30 0x0008) ≡ false) × (is_return_word Took ≡ false)
returns = (refl, refl, refl)

pub opens : (is_opening 1 (Opens 1) ≡ true) × (is_opening 0 (Opens 1) ≡ false) × (is_opening 1 (Commits 1) ≡ false)
opens = (refl, refl, refl)

-- One interrupt more than runs while an event is chosen, and after a commit up to the return.
pub nesting : (r : Run) → (nested Rests [] ≡ 0) × (nested Works (r ∷ []) ≡ 1) × (nested (Chooses 2 (λ x. true)) (r ∷ []) ≡ 2) × (nested (Leaves 0 1) [] ≡ 1)
nesting r = (refl, refl, refl, refl)

pub shows : (shows_state Rests ≡ true) × (shows_state (Copies 0) ≡ false) × (shows_state (Boots 3) ≡ false) × (shows_state (Leaves 0 0) ≡ true)
shows = (refl, refl, refl, refl)

-- A window opens on the counter: it leads to the next value, which is to be put on port B.
abbrev write : ℕ → PortWrite
write its_byte = record { port = 1; byte = its_byte }

abbrev quiet : ℕ → Values
quiet n = record { state = n ∷ []; next = n ∷ []; left = [] }

abbrev in_window : ℕ → Values
in_window n = record { state = n ∷ []; next = (n + 1) % 256 ∷ []; left = write ((n + 1) % 256) ∷ [] }

pub window_opens : (n : ℕ) → Valued counter two_events (Opens 0) [] (quiet n) (in_window n)
window_opens n = (refl, record { state = (n + 1) % 256 ∷ []; ports = (n + 1) % 256 ∷ [] }, refl, refl)

-- Then the byte is put and the run commits, or the commit puts it.
pub put_then_commit : Valued counter two_events Puts (write 8 ∷ []) (in_window 7) (record (in_window 7) { left = [] }) × Valued counter two_events (Commits 0) [] (record (in_window 7) { left = [] }) (quiet 8)
put_then_commit = ((write 8, refl, refl, refl, refl), (refl, refl))

pub commit_puts : Valued counter two_events (Commits 0) (write 8 ∷ []) (in_window 7) (quiet 8)
commit_puts = (refl, refl)

-- A commit with the byte still to come, a step that puts without a label for it, and an open that puts are none.
pub no_commit_before_the_byte : Valued counter two_events (Commits 0) [] (in_window 7) (quiet 8) → ⊥
no_commit_before_the_byte h = let it = h.0 in cc

pub no_put_on_the_way : Valued counter two_events Stays (write 8 ∷ []) (in_window 7) (record (in_window 7) { left = [] }) → ⊥
no_put_on_the_way h = let it = h.0 in cc

pub no_put_at_the_open : Valued counter two_events (Opens 0) (write 8 ∷ []) (quiet 7) (record (in_window 7) { left = [] }) → ⊥
no_put_at_the_open h = let it = h.0 in cc

-- The boot ends once all that its setups put was put.
pub boot_ends : Valued counter two_events Readies [] (quiet 0) (quiet 0)
boot_ends = (refl, refl, refl)

pub boot_goes_on : Valued counter two_events Readies [] (in_window 7) (in_window 7) → ⊥
boot_goes_on h = let it = h.1 in cc
