use Rattle.std.proofs.Common.{◌≡◌, ℕ, true, false, get_or, take}
use Rattle.std.specs.List.{list_any}
use Rattle.arrival_script.specs.TraceParts.{names_address}
use Rattle.arrival_script.proofs.marked_addresses.mark_events.Given as goal

abbrev pub invariant-loop-event : goal.invariant-loop-event
invariant-loop-event l =
    (i : ℕ) → get_or l.marked i true ≡ false → (get_or l.initial.marked i true ≡ false) × (list_any (names_address i) (take l.event-index l.events) ≡ false)
