-- Text that is held back and sent piece by piece, and what is left of a script.
use Rattle.std.specs.Prelude.{◌≡◌, ℕ, ◌+◌, ◌<◌, ◌≤◌, false, List, [], ◌∷◌, ◌++◌, Option, Result, Ok, Err}
use Rattle.std.specs.List.{list_any}
use Rattle.edge_io.specs.Sinks.{Appends, AppendsPrefix}
use Rattle.pic_machine.specs.declared.steps.Did.TheVariants.{Stopped}
use Rattle.pic_machine.specs.Boundary.{Step}
use Rattle.pic_machine.specs.Dids.{is_stop}
use Rattle.arrival_script.specs.declared.scripts.Arrival.{Arrival}
use Rattle.arrival_script.specs.declared.scripts.PinChange.{PinChange}
use Rattle.arrival_script.specs.Scripts.{is_same_pin}
use Rattle.arrival_script.specs.declared.traces.TraceFault.{TraceFault}
use Rattle.arrival_script.specs.declared.traces.TraceFault.TheVariants as fault

-- Changes of pins from a boundary on, in order, of known ports, no two of one port at one boundary.
abbrev pub ChangeFrom : ℕ → List PinChange → Type 0
ChangeFrom low [] = Unit {0}
ChangeFrom low (p ∷ more) = (low ≤ p.at) × (p.port < 5) × (list_any (is_same_pin p) more ≡ false) × ChangeFrom p.at more

-- Arrivals at rising boundaries from one on, of known sources.
abbrev pub RiseFrom : ℕ → List Arrival → Type 0
RiseFrom low [] = Unit {0}
RiseFrom low (a ∷ more) = (low ≤ a.at) × (a.sources < 2048) × RiseFrom (a.at + 1) more

-- What was held back and what was added is what was sent to a sink and what is held back now.
pub record Sends (old : Option (List ℕ)) (held : List ℕ) (new : Option (List ℕ)) (kept added : List ℕ) : Type 0 where
  pub sent : List ℕ
  pub appended : Appends old new sent
  pub split : held ++ added ≡ sent ++ kept

-- A prefix of what was held back and what was added was sent.
pub record SendsFront (old : Option (List ℕ)) (held : List ℕ) (new : Option (List ℕ)) (added : List ℕ) : Type 0 where
  pub sent : List ℕ
  pub rest : List ℕ
  pub appended : Appends old new sent
  pub split : held ++ added ≡ sent ++ rest

-- Step k was told: its lines were added, and where it stopped all was sent.
abbrev pub Tells : ℕ → Step → Option (List ℕ) → List ℕ → Option (List ℕ) → List ℕ → List ℕ → Result (Unit {0}) TraceFault → Type 0
Tells k step old held new kept added (Ok done) = (is_stop step.did ≡ false) × Sends old held new kept added
Tells k step old held new kept added (Err (fault.Stopped n address why)) = (n ≡ k) × (step.did ≡ Stopped address why) × Appends old new (held ++ added)
Tells k step old held new kept added (Err fault.Failed) = SendsFront old held new added
Tells k step old held new kept added (Err fault.Memory) = SendsFront old held new added

-- All that was held back is sent, or a prefix of it.
abbrev pub Flushes : Option (List ℕ) → List ℕ → Option (List ℕ) → List ℕ → Result (Unit {0}) TraceFault → Type 0
Flushes old held new kept (Ok done) = Appends old new held × (kept ≡ [])
Flushes old held new kept (Err (fault.Stopped step address why)) = ⊥
Flushes old held new kept (Err fault.Failed) = AppendsPrefix old new held
Flushes old held new kept (Err fault.Memory) = AppendsPrefix old new held
