-- The steps of the core: takings, work that begins again, locks, windows, commits and returns, one clause a case.
use Rattle.std.specs.Prelude.{◌≡◌, ◌≢◌, ℕ, ◌<◌, ◌≤◌, Bool, true, false, List, [], ◌∷◌, map, ◌⊎◌}
use Rattle.timed_core.specs.Timing.{Timing}

-- A run of an event that hasn't committed: it comes to its lock in at most `rest` more steps of its own. It is void where
-- another run has committed since it last began.
pub record Run : Type 0 where
  pub event : ℕ
  pub rest : ℕ
  pub void : Bool

-- What the top run does, or what is done where there is none. A number is how many more steps there are at most.
pub data Phase : Type 0 where
  -- Interrupts are off until the ready boundary.
  Boots : ℕ → Phase
  -- At the ready place, with interrupts on.
  Rests : Phase
  -- The top run works, with interrupts on.
  Works : Phase
  -- An interrupt is due; whether interrupts are on, and the flags at the request.
  Owes : Bool → (ℕ → Bool) → Phase
  -- An event is chosen; the flags at the taking.
  Chooses : ℕ → (ℕ → Bool) → Phase
  -- The chosen event's flag is clear, interrupts are still off.
  Begins : ℕ → Phase
  -- The top run was void at its lock, and begins again.
  Repeats : ℕ → Phase
  -- It was not, and comes to its open.
  Nears : ℕ → Phase
  -- Its window stands open.
  Copies : ℕ → Phase
  -- A run of this event has committed, and returns.
  Leaves : ℕ → ℕ → Phase

pub data Label : Type 0 where
  -- A step of the run's own, or one at rest, after which an interrupt is due; and such a step that is the lock.
  Delays : Label
  Slips : Label
  -- Nothing but time passes.
  Stays : Label
  -- The boot ends.
  Readies : Label
  -- An interrupt is taken.
  Takes : Label
  -- The flag of the chosen event is cleared.
  Clears : ℕ → Label
  -- Interrupts are turned on: the top run's work begins.
  Turns : Label
  -- The lock: interrupts are turned off at the end of the work.
  Locks : Label
  -- The window of an event opens.
  Opens : ℕ → Label
  -- A byte is put on a port.
  Puts : Label
  -- An event commits.
  Commits : ℕ → Label
  -- The return from an interrupt, which turns interrupts on.
  Returns : Label

-- The runs that haven't committed, the top one first; each interrupted the one beneath.
pub record Core : Type 0 where
  pub phase : Phase
  pub stack : List Run

abbrev pub at : Phase → List Run → Core
at ph st = record { phase = ph; stack = st }

-- A run that begins.
abbrev pub fresh : Timing → ℕ → Run
fresh p e = record { event = e; rest = p.body e; void = false }

-- The runs after a commit above them.
abbrev pub voided : List Run → List Run
voided st = map (λ (r : Run). record r { void = true }) st

-- The level of the top run, 0 where there is none.
abbrev pub top_level : Timing → List Run → ℕ
top_level p [] = 0
top_level p (r ∷ rs) = p.level r.event

-- After its lock a run begins again where it is void, and else comes to its open.
abbrev pub locked : Timing → Bool → Phase
locked p true = Repeats p.again
locked p false = Nears p.opening

-- A flag is set of an event above a level.
abbrev pub Above : Timing → (ℕ → Bool) → ℕ → Type 0
Above p flags level = (x : ℕ) × (flags x ≡ true) × (level < p.level x)

-- One event is less urgent than another: of a lower level, or declared later at the same.
abbrev pub Before : Timing → ℕ → ℕ → Type 0
Before p h x = (p.level x < p.level h) ⊎ ((p.level x ≡ p.level h) × (h < x))

-- All other events whose flags are set are less urgent.
abbrev pub Best : Timing → (ℕ → Bool) → ℕ → Type 0
Best p flags h = (x : ℕ) → flags x ≡ true → 0 < p.level x → x ≢ h → Before p h x

-- The steps from a phase and a stack, where the flags are set after what has arrived.
abbrev pub Step : Timing → (ℕ → Bool) → Phase → Label → List Run → Core → Type 0
Step p now (Boots j) Stays st t = (i : ℕ) × (i < j) × (t ≡ at (Boots i) st)
Step p now (Boots j) Puts st t = (i : ℕ) × (i < j) × (t ≡ at (Boots i) st)
Step p now (Boots j) Readies st t = t ≡ at Rests st
Step p now Rests Stays st t = (Above p now 0 → ⊥) × (t ≡ at Rests st)
Step p now Rests Takes st t = Above p now 0 × (t ≡ at (Chooses p.choose now) st)
Step p now Rests Delays st t = Above p now 0 × (t ≡ at (Owes true now) st)
Step p now Works Stays (r ∷ rs) t = (Above p now (p.level r.event) → ⊥) × (i : ℕ) × (i < r.rest) × (t ≡ at Works (record r { rest = i } ∷ rs))
Step p now Works Takes (r ∷ rs) t = Above p now (p.level r.event) × (t ≡ at (Chooses p.choose now) (r ∷ rs))
Step p now Works Locks (r ∷ rs) t = (Above p now (p.level r.event) → ⊥) × (t ≡ at (locked p r.void) (r ∷ rs))
Step p now Works Delays (r ∷ rs) t = Above p now (p.level r.event) × (i : ℕ) × (i < r.rest) × (t ≡ at (Owes true now) (record r { rest = i } ∷ rs))
Step p now Works Slips (r ∷ rs) t = Above p now (p.level r.event) × (t ≡ at (Owes false now) (record r { rest = p.retry } ∷ rs))
Step p now (Owes on g) Takes st t = t ≡ at (Chooses p.choose now) st
Step p now (Chooses j g) Stays st t = (i : ℕ) × (i < j) × (t ≡ at (Chooses i g) st)
Step p now (Chooses j g) (Clears h) st t = (now h ≡ true) × Best p g h × (top_level p st < p.level h) × (t ≡ at (Begins p.start) (fresh p h ∷ st))
Step p now (Begins j) Stays st t = (i : ℕ) × (i < j) × (t ≡ at (Begins i) st)
Step p now (Begins j) Turns (r ∷ rs) t = t ≡ at Works (fresh p r.event ∷ rs)
Step p now (Begins j) (Opens e) (r ∷ rs) t = (e ≡ r.event) × (p.short ≡ true) × ((x : ℕ) → p.level x ≤ p.level e) × (t ≡ at (Copies p.copying) (r ∷ rs))
Step p now (Repeats j) Stays st t = (i : ℕ) × (i < j) × (t ≡ at (Repeats i) st)
Step p now (Repeats j) Turns (r ∷ rs) t = t ≡ at Works (fresh p r.event ∷ rs)
Step p now (Nears j) Stays st t = (i : ℕ) × (i < j) × (t ≡ at (Nears i) st)
Step p now (Nears j) (Opens e) (r ∷ rs) t = (e ≡ r.event) × (t ≡ at (Copies p.copying) (r ∷ rs))
Step p now (Copies j) Stays st t = (i : ℕ) × (i < j) × (t ≡ at (Copies i) st)
Step p now (Copies j) Puts st t = (i : ℕ) × (i < j) × (t ≡ at (Copies i) st)
Step p now (Copies j) (Commits e) (r ∷ rs) t = (e ≡ r.event) × (t ≡ at (Leaves e p.exiting) (voided rs))
Step p now (Leaves e j) Stays st t = (i : ℕ) × (i < j) × (t ≡ at (Leaves e i) st)
Step p now (Leaves e j) Returns [] t = t ≡ at Rests []
Step p now (Leaves e j) Returns (r ∷ rs) t = t ≡ at Works (r ∷ rs)
Step _ _ _ _ _ _ = ⊥

-- Interrupts are on in a phase.
abbrev pub is_on : Phase → Bool
is_on Rests = true
is_on Works = true
is_on (Owes on g) = on
is_on _ = false
