-- Urgency: no overtaking, interrupts come on, events are heard, work opens, and what is heard is taken in time.
use Rattle.std.specs.Prelude.{◌≡◌, ℕ, ◌+◌, ◌-◌, ◌<◌, ◌≤◌, Bool, true, false, ◌&&◌, not, ◌||◌, List, ◌∷◌, [], ◌⊎◌}
use Rattle.std.specs.List.{AllByRecursion}
use Rattle.pic_isa.specs.declared.sources.Source.{Source}
use Rattle.pic_isa.specs.declared.sources.Source.TheVariants.{T0, Int, Psp, Ad, Ssp, Ccp1, Tmr2, Tmr1, Ee, Bcl, Ccp2}
use Rattle.pic_regs.specs.Registers.{flag, enable}
use Rattle.pic_machine.specs.Boundary.{Step}
use Rattle.pic_machine.specs.Run.{Log}
use Rattle.frp_tree.specs.Tree.{ProgramTree}
use Rattle.efrp_meaning.specs.Bounds.{off}
use Rattle.map_file.specs.declared.maps.MapEvent.{MapEvent}
use Rattle.map_file.specs.declared.maps.Map.{Map}
use Rattle.firmware_promises.specs.Counts.{takes, ran_at, clears, interrupts_on, latched_count, commit_count, is_under_way}
use Rattle.firmware_promises.specs.Ready.{ReadyAt}

-- No overtaking: where an event opened at step s, each event of a higher priority had committed, before step s, at least as
-- often as it was latched at boundaries up to s - 16.
abbrev pub NoOvertaking : Map → Log → ℕ → Type 0
NoOvertaking m log n = (s : ℕ) → s < n → AllByRecursion (λ e. AllByRecursion (λ h. ran_at e.«open» (log s) ≡ true → e.priority < h.priority → latched_count log h (s - 15) ≤ commit_count m log h s) m.events) m.events

-- A stretch of Off + 1 successive boundaries, from the ready boundary on, that the first n steps have passed.
abbrev pub Stretch : ProgramTree → Map → Log → ℕ → ℕ → Type 0
Stretch p m log n s = (r : ℕ) × ReadyAt m log n r × (r ≤ s) × (s + off p < n)

-- It holds at one boundary of a stretch.
abbrev pub AtOne : ProgramTree → Log → ℕ → (Step → Bool) → Type 0
AtOne p log s test = (k : ℕ) × (s ≤ k) × (k ≤ s + off p) × (test (log k) ≡ true)

-- Interrupts off: GIE is on at one boundary of each stretch.
abbrev pub InterruptsComeOn : ProgramTree → Map → Log → ℕ → Type 0
InterruptsComeOn p m log n = (s : ℕ) → Stretch p m log n s → AtOne p log s interrupts_on

-- A source's flag is in INTCON, and not in PIR1 or PIR2.
abbrev pub is_in_intcon : Source → Bool
is_in_intcon T0 = true
is_in_intcon Int = true
is_in_intcon Psp = false
is_in_intcon Ad = false
is_in_intcon Ssp = false
is_in_intcon Ccp1 = false
is_in_intcon Tmr2 = false
is_in_intcon Tmr1 = false
is_in_intcon Ee = false
is_in_intcon Bcl = false
is_in_intcon Ccp2 = false

-- An event is heard at a boundary: GIE and its enable are on, and so is PEIE where its flag is in PIR1 or PIR2.
abbrev pub is_heard : MapEvent → Step → Bool
is_heard e step = interrupts_on step && enable e.source step.arrived.regs && (is_in_intcon e.source || step.arrived.regs.intcon.b6)

-- At each boundary of a stretch no event of this priority or a higher one is under way.
abbrev pub NoneUrgentUnderWay : ProgramTree → Map → Log → ℕ → ℕ → Type 0
NoneUrgentUnderWay p m log s priority = (k : ℕ) → s ≤ k → k ≤ s + off p → AllByRecursion (λ h. priority ≤ h.priority → is_under_way m log h k ≡ false) m.events

-- Listening: each event is heard at one boundary of each stretch in which no event of its own or a higher priority is under
-- way.
abbrev pub Listens : ProgramTree → Map → Log → ℕ → Type 0
Listens p m log n = (s : ℕ) → Stretch p m log n s → AllByRecursion (λ e. NoneUrgentUnderWay p m log s e.priority → AtOne p log s (is_heard e)) m.events

-- A step clears the flag of one of the events.
abbrev pub clears_one : List MapEvent → Step → Bool
clears_one [] step = false
clears_one (e ∷ es) step = clears e.source step || clears_one es step

-- A step opens an event.
abbrev pub opens_one : List MapEvent → Step → Bool
opens_one [] step = false
opens_one (e ∷ es) step = ran_at e.«open» step || opens_one es step

-- A step that clears the flag of an event, or at whose boundary GIE is on and which takes no interrupt.
abbrev pub asks_for_opening : Map → Step → Bool
asks_for_opening m step = clears_one m.events step || interrupts_on step && not (takes step)

-- A step with GIE on at its boundary, or that opens an event, or takes an interrupt.
abbrev pub gives_opening : Map → Step → Bool
gives_opening m step = interrupts_on step || opens_one m.events step || takes step

-- Open work: one of the 16 steps after a step of the first kind is of the second.
abbrev pub WorkIsOpen : Map → Log → ℕ → Type 0
WorkIsOpen m log n = (k : ℕ) → k + 16 < n → asks_for_opening m (log k) ≡ true → (j : ℕ) × (k < j) × (j ≤ k + 16) × (gives_opening m (log j) ≡ true)

-- In time: where an event is heard at a boundary and its flag is set there, an interrupt is taken at that boundary or the
-- next. So a request is late by one instruction at most, also where that instruction turns interrupts off.
abbrev pub TakesInTime : Map → Log → ℕ → Type 0
TakesInTime m log n = (k : ℕ) → k + 1 < n →
    AllByRecursion (λ (e : MapEvent). is_heard e (log k) ≡ true → flag e.source (log k).arrived.regs ≡ true → (takes (log k) ≡ true) ⊎ (takes (log (k + 1)) ≡ true)) m.events

-- Urgency, over the first n steps.
pub record Urgent (p : ProgramTree) (m : Map) (log : Log) (n : ℕ) : Type 0 where
  pub no_overtaking : NoOvertaking m log n
  pub interrupts_off : InterruptsComeOn p m log n
  pub listening : Listens p m log n
  pub open_work : WorkIsOpen m log n
  pub in_time : TakesInTime m log n
