-- The account of what a latch waits for, and so the time of its response.
use Rattle.std.specs.Prelude.{◌≡◌, ℕ, zero, suc, ◌+◌, ◌-◌, ◌*◌, ◌<◌, ◌≤◌, Bool, true, false, ◌&&◌, not, ◌==◌, nat_le, List, filter, map, sum_by, if◌then◌else◌}
use Rattle.std.specs.List.{AllByRecursion, list_any}
use Rattle.std.specs.Str.{bytes_eq}
use Rattle.frp_tree.specs.Tree.{ProgramTree}
use Rattle.efrp_meaning.specs.Bounds.{body, boot, off, response, greatest}
use Rattle.pic_regs.specs.Registers.{flag}
use Rattle.pic_machine.specs.Run.{Log}
use Rattle.map_file.specs.declared.maps.MapEvent.{MapEvent}
use Rattle.map_file.specs.declared.maps.Map.{Map}
use Rattle.firmware_promises.specs.Counts.{latches, latched_count, commit_count, is_under_way}
use Rattle.firmware_promises.specs.Ready.{ReadyAt}

-- The greatest body of the events of a priority.
abbrev pub peak : ProgramTree → List MapEvent → ℕ → ℕ
peak p events priority = greatest (map (λ (e : MapEvent). body p e.name) (filter (λ (e : MapEvent). e.priority == priority) events))

-- What may have to begin again: for each priority that an event has, from `low` on and below this one, Off and its greatest
-- body.
abbrev pub restarts : ProgramTree → List MapEvent → ℕ → ℕ → ℕ
restarts p events low zero = 0
restarts p events low (suc q) =
    restarts p events low q + (if nat_le low q && list_any (λ (e : MapEvent). e.priority == q) events then off p + peak p events q else 0)

-- In steps: what another event costs one that waits, each time that it is latched.
abbrev pub cost : ProgramTree → List MapEvent → MapEvent → MapEvent → ℕ
cost p events e other = 4 * off p + 2 * body p other.name + restarts p events e.priority other.priority

-- Another event, of the event's own or a higher priority.
abbrev pub is_other : MapEvent → MapEvent → Bool
is_other e other = not (bytes_eq other.name e.name) && nat_le e.priority other.priority

-- In steps: what the others cost, each that waited or was under way at boundary b, or was latched since.
abbrev pub cost_of_others : ProgramTree → Map → Log → MapEvent → ℕ → ℕ → ℕ
cost_of_others p m log e b n =
    sum_by (λ other. if is_other e other then (latched_count log other n - commit_count m log other b) * cost p m.events e other else 0) m.events

-- An event was latched at boundary b, where all its latches before had committed, and that latch is uncommitted after n
-- steps.
pub record Awaits (m : Map) (log : Log) (e : MapEvent) (b n : ℕ) : Type 0 where
  pub latch : latches e.source (log b) ≡ true
  pub first : latched_count log e b ≡ commit_count m log e b
  pub later : b < n
  pub uncommitted : commit_count m log e n ≡ commit_count m log e b

-- The account: from the ready boundary on a latch waits no longer than its response and what the others cost.
abbrev pub Accounted : ProgramTree → Map → Log → ℕ → Type 0
Accounted p m log n =
    AllByRecursion (λ e. (r b : ℕ) → ReadyAt m log n r → r ≤ b → Awaits m log e b n → n ≤ b + response p e.name + cost_of_others p m log e b n) m.events

-- An event is latched at boundary b, before which none of its own or a higher priority is flagged or under way; and no other
-- such event is latched from there until it commits, in the first n steps.
pub record IsAlone (m : Map) (log : Log) (e : MapEvent) (b n : ℕ) : Type 0 where
  pub latch : latches e.source (log b) ≡ true
  pub none_about : AllByRecursion (λ other. e.priority ≤ other.priority → (flag other.source (log b).before.regs ≡ false) × (is_under_way m log other b ≡ false)) m.events
  pub none_since : (k : ℕ) → b ≤ k → k < n → commit_count m log e k ≡ commit_count m log e b
      → AllByRecursion (λ other. is_other e other ≡ true → latches other.source (log k) ≡ false) m.events

-- It commits at a step of at most this number, once that step has passed.
abbrev pub CommitsBy : Map → Log → MapEvent → ℕ → ℕ → ℕ → Type 0
CommitsBy m log e b step n = step < n → commit_count m log e b < commit_count m log e (step + 1)

-- The response: such an event commits at most Response steps after its boundary, where that is the ready boundary or later;
-- and else at most Boot + 2 more.
abbrev pub Responds : ProgramTree → Map → Log → ℕ → Type 0
Responds p m log n = AllByRecursion (λ e. (b : ℕ) → IsAlone m log e b n →
    ((r : ℕ) → ReadyAt m log n r → r ≤ b → CommitsBy m log e b (b + response p e.name) n)
    × CommitsBy m log e b (b + boot p + 2 + response p e.name) n) m.events
