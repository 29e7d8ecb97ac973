use Rattle.std.proofs.Common.{◌≡◌, ℕ, true, false, get_or, take}
use Rattle.std.specs.List.{list_any}
use Rattle.arrival_script.specs.TraceParts.{samples_address}
use Rattle.arrival_script.proofs.marked_addresses.mark_samples.Given as goal

abbrev pub invariant-loop-sample : goal.invariant-loop-sample
invariant-loop-sample l =
    (i : ℕ) → get_or l.marked i true ≡ false → (get_or l.initial.marked i true ≡ false) × (list_any (samples_address i) (take l.sample-index l.samples) ≡ false)
