-- The steps of the core as a family of moves, so that a law on each step is one by cases.
use Rattle.std.specs.Prelude.{ℕ, ◌<◌, ◌≤◌, Bool, true, false, List, [], ◌∷◌}
use Rattle.std.proofs.Common.{◌≡◌, sym, subst}
use Rattle.timed_core.specs.Timing.{Timing}
use Rattle.timed_core.specs.Steps.{Run, Phase, Label, Core, at, fresh, voided, top_level, locked, Above, Best, Step}
use Rattle.timed_core.specs.Steps.Phase.{Boots, Rests, Works, Owes, Chooses, Begins, Repeats, Nears, Copies, Leaves}
use Rattle.timed_core.specs.Steps.Label.{Delays, Slips, Stays, Readies, Takes, Clears, Turns, Locks, Opens, Puts, Commits, Returns}

pub data Move (p : Timing) (now : ℕ → Bool) : Phase → Label → List Run → Phase → List Run → Type 0 where
  boots : {j i : ℕ} {st : List Run} → i < j → Move p now (Boots j) Stays st (Boots i) st
  boots_puts : {j i : ℕ} {st : List Run} → i < j → Move p now (Boots j) Puts st (Boots i) st
  readies : {j : ℕ} {st : List Run} → Move p now (Boots j) Readies st Rests st
  rests : {st : List Run} → (Above p now 0 → ⊥) → Move p now Rests Stays st Rests st
  rests_takes : {st : List Run} → Above p now 0 → Move p now Rests Takes st (Chooses p.choose now) st
  rests_delays : {st : List Run} → Above p now 0 → Move p now Rests Delays st (Owes true now) st
  works : {r : Run} {rs : List Run} {i : ℕ} → (Above p now (p.level r.event) → ⊥) → i < r.rest → Move p now Works Stays (r ∷ rs) Works (record r { rest = i } ∷ rs)
  works_takes : {r : Run} {rs : List Run} → Above p now (p.level r.event) → Move p now Works Takes (r ∷ rs) (Chooses p.choose now) (r ∷ rs)
  locks : {r : Run} {rs : List Run} → (Above p now (p.level r.event) → ⊥) → Move p now Works Locks (r ∷ rs) (locked p r.void) (r ∷ rs)
  works_delays : {r : Run} {rs : List Run} {i : ℕ} → Above p now (p.level r.event) → i < r.rest → Move p now Works Delays (r ∷ rs) (Owes true now) (record r { rest = i } ∷ rs)
  slips : {r : Run} {rs : List Run} → Above p now (p.level r.event) → Move p now Works Slips (r ∷ rs) (Owes false now) (record r { rest = p.retry } ∷ rs)
  owes_takes : {on : Bool} {g : ℕ → Bool} {st : List Run} → Move p now (Owes on g) Takes st (Chooses p.choose now) st
  chooses : {j i : ℕ} {g : ℕ → Bool} {st : List Run} → i < j → Move p now (Chooses j g) Stays st (Chooses i g) st
  clears : {j h : ℕ} {g : ℕ → Bool} {st : List Run} → now h ≡ true → Best p g h → top_level p st < p.level h → Move p now (Chooses j g) (Clears h) st (Begins p.start) (fresh p h ∷ st)
  begins : {j i : ℕ} {st : List Run} → i < j → Move p now (Begins j) Stays st (Begins i) st
  turns : {j : ℕ} {r : Run} {rs : List Run} → Move p now (Begins j) Turns (r ∷ rs) Works (fresh p r.event ∷ rs)
  opens_short : {j : ℕ} {r : Run} {rs : List Run} → p.short ≡ true → ((x : ℕ) → p.level x ≤ p.level r.event) → Move p now (Begins j) (Opens r.event) (r ∷ rs) (Copies p.copying) (r ∷ rs)
  repeats : {j i : ℕ} {st : List Run} → i < j → Move p now (Repeats j) Stays st (Repeats i) st
  turns_again : {j : ℕ} {r : Run} {rs : List Run} → Move p now (Repeats j) Turns (r ∷ rs) Works (fresh p r.event ∷ rs)
  nears : {j i : ℕ} {st : List Run} → i < j → Move p now (Nears j) Stays st (Nears i) st
  opens : {j : ℕ} {r : Run} {rs : List Run} → Move p now (Nears j) (Opens r.event) (r ∷ rs) (Copies p.copying) (r ∷ rs)
  copies : {j i : ℕ} {st : List Run} → i < j → Move p now (Copies j) Stays st (Copies i) st
  copies_puts : {j i : ℕ} {st : List Run} → i < j → Move p now (Copies j) Puts st (Copies i) st
  commits : {j : ℕ} {r : Run} {rs : List Run} → Move p now (Copies j) (Commits r.event) (r ∷ rs) (Leaves r.event p.exiting) (voided rs)
  leaves : {e j i : ℕ} {st : List Run} → i < j → Move p now (Leaves e j) Stays st (Leaves e i) st
  returns_home : {e j : ℕ} → Move p now (Leaves e j) Returns [] Rests []
  returns : {e j : ℕ} {r : Run} {rs : List Run} → Move p now (Leaves e j) Returns (r ∷ rs) Works (r ∷ rs)

abbrev MovesTo : (p : Timing) (now : ℕ → Bool) → Phase → Label → List Run → Core → Type 0
MovesTo p now ph l st t = Move p now ph l st t.phase t.stack

along : (p : Timing) (now : ℕ → Bool) (ph : Phase) (l : Label) (st : List Run) {u t : Core} → t ≡ u → MovesTo p now ph l st u → MovesTo p now ph l st t
along p now ph l st e m = subst (MovesTo p now ph l st) (sym e) m

-- Each step is a move.
move_to : (p : Timing) (now : ℕ → Bool) (ph : Phase) (l : Label) (st : List Run) (t : Core) → Step p now ph l st t → MovesTo p now ph l st t
move_to p now (Boots j) Stays st t q = along p now _ _ _ q.2 (boots q.1)
move_to p now (Boots j) Puts st t q = along p now _ _ _ q.2 (boots_puts q.1)
move_to p now (Boots j) Readies st t q = along p now _ _ _ q readies
move_to p now Rests Stays st t q = along p now _ _ _ q.1 (rests q.0)
move_to p now Rests Takes st t q = along p now _ _ _ q.1 (rests_takes q.0)
move_to p now Rests Delays st t q = along p now _ _ _ q.1 (rests_delays q.0)
move_to p now Works Stays (r ∷ rs) t q = along p now _ _ _ q.3 (works q.0 q.2)
move_to p now Works Takes (r ∷ rs) t q = along p now _ _ _ q.1 (works_takes q.0)
move_to p now Works Locks (r ∷ rs) t q = along p now _ _ _ q.1 (locks q.0)
move_to p now Works Delays (r ∷ rs) t q = along p now _ _ _ q.3 (works_delays q.0 q.2)
move_to p now Works Slips (r ∷ rs) t q = along p now _ _ _ q.1 (slips q.0)
move_to p now (Owes on g) Takes st t q = along p now _ _ _ q owes_takes
move_to p now (Chooses j g) Stays st t q = along p now _ _ _ q.2 (chooses q.1)
move_to p now (Chooses j g) (Clears h) st t q = along p now _ _ _ q.3 (clears q.0 q.1 q.2)
move_to p now (Begins j) Stays st t q = along p now _ _ _ q.2 (begins q.1)
move_to p now (Begins j) Turns (r ∷ rs) t q = along p now _ _ _ q turns
move_to p now (Begins j) (Opens e) (r ∷ rs) t q =
    subst (λ x. Move p now (Begins j) (Opens x) (r ∷ rs) t.phase t.stack) (sym q.0) (along p now _ _ _ q.3 (opens_short q.1 (subst (λ y. (x : ℕ) → p.level x ≤ p.level y) q.0 q.2)))
move_to p now (Repeats j) Stays st t q = along p now _ _ _ q.2 (repeats q.1)
move_to p now (Repeats j) Turns (r ∷ rs) t q = along p now _ _ _ q turns_again
move_to p now (Nears j) Stays st t q = along p now _ _ _ q.2 (nears q.1)
move_to p now (Nears j) (Opens e) (r ∷ rs) t q = subst (λ x. Move p now (Nears j) (Opens x) (r ∷ rs) t.phase t.stack) (sym q.0) (along p now _ _ _ q.1 opens)
move_to p now (Copies j) Stays st t q = along p now _ _ _ q.2 (copies q.1)
move_to p now (Copies j) Puts st t q = along p now _ _ _ q.2 (copies_puts q.1)
move_to p now (Copies j) (Commits e) (r ∷ rs) t q =
    subst (λ x. Move p now (Copies j) (Commits x) (r ∷ rs) t.phase t.stack) (sym q.0) (along p now _ _ _ q.1 (subst (λ x. Move p now (Copies j) (Commits r.event) (r ∷ rs) (Leaves x p.exiting) (voided rs)) (sym q.0) commits))
move_to p now (Leaves e j) Stays st t q = along p now _ _ _ q.2 (leaves q.1)
move_to p now (Leaves e j) Returns [] t q = along p now _ _ _ q returns_home
move_to p now (Leaves e j) Returns (r ∷ rs) t q = along p now _ _ _ q returns
move_to _ _ _ _ _ _ q = absurd q

pub move : (p : Timing) (now : ℕ → Bool) (ph : Phase) (l : Label) (st : List Run) (ph' : Phase) (st' : List Run) → Step p now ph l st (at ph' st') → Move p now ph l st ph' st'
move p now ph l st ph' st' q = move_to p now ph l st (at ph' st') q
