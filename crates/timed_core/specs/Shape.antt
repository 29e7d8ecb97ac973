-- The shape of the core: which stacks go with which phases.
use Rattle.std.specs.Prelude.{◌≡◌, ℕ, ◌+◌, ◌<◌, ◌≤◌, ◌==◌, Bool, true, false, List, [], ◌∷◌, length}
use Rattle.std.specs.List.{AllByRecursion, list_any}
use Rattle.timed_core.specs.Timing.{Timing}
use Rattle.timed_core.specs.Steps.{Run, Phase, Label, Core, top_level, Above, Step}
use Rattle.timed_core.specs.Steps.Phase.{Boots, Rests, Works, Owes, Chooses, Begins, Repeats, Nears, Copies, Leaves}
use Rattle.timed_core.specs.Tale.{Tale}

-- Each run is of a higher level than those beneath it, and not further from its lock than at its start or behind its lock.
abbrev pub Tower : Timing → List Run → Type 0
Tower p [] = Unit {0}
Tower p (r ∷ rs) = (r.rest ≤ p.body r.event + p.retry) × (top_level p rs < p.level r.event) × Tower p rs

-- The top run is, or isn't, void.
abbrev pub TopIs : Bool → List Run → Type 0
TopIs b [] = ⊥
TopIs b (r ∷ rs) = r.void ≡ b

abbrev pub IsEmpty : List Run → Type 0
IsEmpty [] = Unit {0}
IsEmpty (r ∷ rs) = ⊥

abbrev pub HasTop : List Run → Type 0
HasTop [] = ⊥
HasTop (r ∷ rs) = Unit {0}

-- The stack that goes with a phase.
abbrev pub Shape : Timing → Phase → List Run → Type 0
Shape p (Boots j) st = IsEmpty st × (j ≤ p.boot)
Shape p Rests st = IsEmpty st
Shape p Works st = HasTop st × Tower p st
Shape p (Owes on g) st = Tower p st × Above p g (top_level p st)
Shape p (Chooses j g) st = Tower p st × Above p g (top_level p st) × (j ≤ p.choose)
Shape p (Begins j) st = TopIs false st × Tower p st × (j ≤ p.start)
Shape p (Repeats j) st = TopIs true st × Tower p st × (j ≤ p.again)
Shape p (Nears j) st = TopIs false st × Tower p st × (j ≤ p.opening)
Shape p (Copies j) st = TopIs false st × Tower p st × (j ≤ p.copying)
Shape p (Leaves e j) st = AllByRecursion (λ (r : Run). r.void ≡ true) st × Tower p st × (top_level p st < p.level e) × (j ≤ p.exiting)

-- The flags at a request, or at a taking, are still set.
abbrev pub StillSet : (ℕ → Bool) → Phase → Type 0
StillSet flags (Owes on g) = (x : ℕ) → g x ≡ true → flags x ≡ true
StillSet flags (Chooses j g) = (x : ℕ) → g x ≡ true → flags x ≡ true
StillSet flags _ = Unit {0}

-- A tale keeps its shape: after each number of steps.
abbrev pub KeepsShape : (p : Timing) → Tale p → Type 0
KeepsShape p tale = (n : ℕ) → Shape p (tale.phase n) (tale.stack n) × StillSet (tale.flags n) (tale.phase n)

-- No more runs are under way than there are levels: than any list has that has each event's level.
abbrev pub NestsByLevels : (p : Timing) → Tale p → Type 0
NestsByLevels p tale = (levels : List ℕ) → ((x : ℕ) → 0 < p.level x → list_any (λ l. l == p.level x) levels ≡ true) → (n : ℕ) → length (tale.stack n) ≤ length levels

-- Whatever has arrived, a step is there.
abbrev pub NeverStuck : Timing → Type 0
NeverStuck p = (ph : Phase) (st : List Run) (flags : ℕ → Bool) → Shape p ph st → StillSet flags ph → (label : Label) × (next : Core) × Step p flags ph label st next
