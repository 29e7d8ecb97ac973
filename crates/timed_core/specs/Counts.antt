-- What is counted over a tale: latches, clearings and commits of an event, its runs under way, and windows.
use Rattle.std.specs.Prelude.{ℕ, zero, suc, ◌+◌, Bool, false, ◌&&◌, ◌==◌, not, List, [], ◌∷◌, ◌++◌, if◌then◌else◌}
use Rattle.timed_core.specs.Timing.{Timing}
use Rattle.timed_core.specs.Steps.{Run, Phase, Label}
use Rattle.timed_core.specs.Steps.Phase.{Copies}
use Rattle.timed_core.specs.Steps.Label.{Opens, Commits}
use Rattle.timed_core.specs.Tale.{Tale, is_clearing}

-- 1 where it holds, else 0.
abbrev pub one : Bool → ℕ
one b = if b then 1 else 0

-- How many of the first n boundaries pass a test.
abbrev pub count : (ℕ → Bool) → ℕ → ℕ
count test zero = 0
count test (suc n) = count test n + one (test n)

-- An event is latched at a boundary where it arrives and its flag is clear.
abbrev pub latches : {p : Timing} → Tale p → ℕ → ℕ → Bool
latches tale x n = tale.arrives n x && not (tale.flags n x)

abbrev pub opened_by : Label → List ℕ
opened_by (Opens e) = e ∷ []
opened_by _ = []

abbrev pub committed_by : Label → List ℕ
committed_by (Commits e) = e ∷ []
committed_by _ = []

abbrev pub is_commit : ℕ → Label → Bool
is_commit x (Commits e) = x == e
is_commit x _ = false

-- How often an event was latched, its flag was cleared, and it committed, in the first n steps.
abbrev pub latched : {p : Timing} → Tale p → ℕ → ℕ → ℕ
latched tale x n = count (latches tale x) n

abbrev pub cleared : {p : Timing} → Tale p → ℕ → ℕ → ℕ
cleared tale x n = count (λ k. is_clearing x (tale.label k)) n

abbrev pub committed : {p : Timing} → Tale p → ℕ → ℕ → ℕ
committed tale x n = count (λ k. is_commit x (tale.label k)) n

-- The runs of an event that are under way.
abbrev pub runs_of : ℕ → List Run → ℕ
runs_of x [] = 0
runs_of x (r ∷ rs) = one (x == r.event) + runs_of x rs

-- The events that opened, and those that committed, in the first n steps, in order.
abbrev pub opens : {p : Timing} → Tale p → ℕ → List ℕ
opens tale zero = []
opens tale (suc n) = opens tale n ++ opened_by (tale.label n)

abbrev pub commits : {p : Timing} → Tale p → ℕ → List ℕ
commits tale zero = []
commits tale (suc n) = commits tale n ++ committed_by (tale.label n)

-- The event whose window stands open, if one does.
abbrev pub top_event : List Run → List ℕ
top_event [] = []
top_event (r ∷ rs) = r.event ∷ []

abbrev pub window : Phase → List Run → List ℕ
window (Copies j) st = top_event st
window _ st = []
