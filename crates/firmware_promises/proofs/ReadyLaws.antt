-- The ready boundary by what the first n steps show.
use Rattle.std.specs.Prelude.{ℕ, ◌<◌, ◌≤◌, false, ◌⊎◌}
use Rattle.std.proofs.Common.{◌≡◌, inl, inr}
use Rattle.std.proofs.lemmas.Bool.{both_ways, cases_lt}
use Rattle.pic_machine.specs.Run.{Log}
use Rattle.map_file.specs.declared.maps.Map.{Map}
use Rattle.firmware_promises.specs.Counts.{chip_after, takes}
use Rattle.firmware_promises.specs.Ready.{ShowsReady, ReadyAt}

module _ (m : Map) (log : Log) (n r : ℕ) where
  -- A ready boundary isn't before one that is the first to be shown.
  pub not_ready_before : ((k : ℕ) → k < r → ShowsReady m log n k → ⊥) → (s : ℕ) → ReadyAt m log n s → r ≤ s
  not_ready_before unready s is_it = by (cases_lt s r)
    where
      by : (s < r) ⊎ (r ≤ s) → r ≤ s
      by (inl h) = absurd (unready s h is_it.shown)
      by (inr h) = h

-- Where the program counter isn't at the ready address and no interrupt is taken, ready isn't shown.
pub unready : (m : Map) (log : Log) (n k : ℕ) → ((chip_after log k).pc ≡ m.ready → ⊥) → takes (log k) ≡ false → ShowsReady m log n k → ⊥
unready m log n k elsewhere runs (inl s) = elsewhere s.1
unready m log n k elsewhere runs (inr s) = both_ways (takes (log k)) runs s.1
