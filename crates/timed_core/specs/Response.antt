-- The account of what an event waits for, and so the time of its response.
use Rattle.std.specs.Prelude.{◌≡◌, ◌≢◌, ℕ, zero, suc, ◌+◌, ◌-◌, ◌*◌, ◌<◌, ◌≤◌, ◌==◌, Bool, true, false, ◌&&◌, not, max, nat_le, List, [], ◌∷◌, sum_by, if◌then◌else◌}
use Rattle.std.specs.List.{list_any}
use Rattle.timed_core.specs.Timing.{Timing}
use Rattle.timed_core.specs.Tale.{Tale}
use Rattle.timed_core.specs.Counts.{latches, latched, committed, runs_of}
use Rattle.timed_core.specs.Promises.{is_boot}

-- In steps: from a latch of an event to its commit, where nothing of its own or a higher level is about.
abbrev pub response : Timing → ℕ → ℕ → ℕ
response p off e = 3 * off + (p.body e - p.spare)

-- The longest work of the listed events of a level.
abbrev pub peak : Timing → ℕ → List ℕ → ℕ
peak p level [] = 0
peak p level (x ∷ xs) = max (if p.level x == level then p.body x - p.spare else 0) (peak p level xs)

-- What may have to begin again: for each level that an event has, from `low` on and below this one, its longest work.
abbrev pub restarts : Timing → ℕ → ℕ → ℕ → ℕ
restarts p off low zero = 0
restarts p off low (suc q) = restarts p off low q + (if nat_le low q && list_any (λ x. p.level x == q) p.events then off + peak p q p.events else 0)

-- What another event costs one that waits, each time that it is latched.
abbrev pub cost : Timing → ℕ → ℕ → ℕ → ℕ
cost p off e h = 4 * off + 2 * (p.body h - p.spare) + restarts p off (p.level e) (p.level h)

-- Another event, of the event's own or a higher level.
abbrev pub is_other : Timing → ℕ → ℕ → Bool
is_other p e h = not (h == e) && nat_le (p.level e) (p.level h)

-- What the others cost: each that waited or was under way at a boundary, or was latched since.
abbrev pub others : (p : Timing) → Tale p → ℕ → ℕ → ℕ → ℕ → ℕ
others p tale off e b n = sum_by (λ h. if is_other p e h then (latched tale h n - committed tale h b) * cost p off e h else 0) p.events

-- An event was latched at boundary b, where none of its latches waited, and that latch is uncommitted after n steps.
pub record Awaits (p : Timing) (tale : Tale p) (e b n : ℕ) : Type 0 where
  pub latch : latches tale e b ≡ true
  pub first : latched tale e b ≡ committed tale e b
  pub later : b < n
  pub uncommitted : committed tale e n ≡ committed tale e b

-- It waits no longer than its response and what the others cost; from a boundary of the boot, no longer after the boot.
abbrev pub Accounted : (p : Timing) → Tale p → ℕ → Type 0
Accounted p tale off = (e b n : ℕ) → Awaits p tale e b n → is_boot (tale.phase b) ≡ false → n ≤ b + response p off e + others p tale off e b n

abbrev pub AccountedFromBoot : (p : Timing) → Tale p → ℕ → Type 0
AccountedFromBoot p tale off = (e b n : ℕ) → Awaits p tale e b n → n ≤ b + p.boot + 2 + response p off e + others p tale off e b n

-- Where an event is latched past the boot, none of its own or a higher level waits or is under way there, and no other such
-- event is latched until it commits, it commits within its response.
pub record IsAlone (p : Timing) (tale : Tale p) (e b : ℕ) : Type 0 where
  pub latch : latches tale e b ≡ true
  pub past : is_boot (tale.phase b) ≡ false
  pub none_about : (h : ℕ) → p.level e ≤ p.level h → (tale.flags b h ≡ false) × (runs_of h (tale.stack b) ≡ 0)
  pub none_since : (h k : ℕ) → h ≢ e → p.level e ≤ p.level h → b ≤ k → committed tale e k ≡ committed tale e b → latches tale h k ≡ false

abbrev pub Responds : (p : Timing) → Tale p → ℕ → Type 0
Responds p tale off = (e b : ℕ) → IsAlone p tale e b → committed tale e b < committed tale e (b + response p off e + 1)
