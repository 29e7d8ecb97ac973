-- The steps that are allowed, as a family, so that a law on each step is one by cases.
use Rattle.std.specs.Prelude.{ℕ, zero, suc, ◌<◌, Bool, true, false, ◌&&◌, ◌||◌, not, nat_lt, List, [], ◌∷◌, length, Option, Some, None, if◌then◌else◌}
use Rattle.std.proofs.Common.{◌≡◌, refl, subst, arith}
use Rattle.std.proofs.lemmas.Bool.Decides.{nat_tests}
use Rattle.preempt_core.specs.declared.steps.Step.{Step}
use Rattle.preempt_core.specs.declared.steps.Step.TheVariants as steps
use Rattle.preempt_core.specs.declared.steps.Done.TheVariants as answers
use Rattle.preempt_core.specs.Runs.{Active, Told, priority, top_priority, more_urgent, most_urgent, is_void, with_latch, answer, begins, taken, is_left, committed_in, top_step, arrived, step_from, start, then_step, told}

pub data Goes (priorities : List ℕ) (react : ℕ → List ℕ → ℕ → List ℕ) (t : Told) : Told → Type 0 where
  latches : {e : ℕ} → t.latched e ≡ false → Goes priorities react t (record t { answers = answers.Latched e ∷ t.answers; latched = with_latch t.latched e true })
  merges : {e : ℕ} → t.latched e ≡ true → Goes priorities react t (answer t (answers.Merged e))
  takes : {e : ℕ} → is_left t.stack ≡ false → t.latched e ≡ true → top_priority priorities t.stack < priority priorities e
      → Goes priorities react t (record t { answers = answers.Took e ∷ t.answers; latched = with_latch t.latched e false; stack = begins t e ∷ t.stack })
  works : Goes priorities react t (answer t answers.Worked)
  redoes : {r : Active} {rs : List Active} → t.stack ≡ r ∷ rs → r.committed ≡ false
      → Goes priorities react t (record t { answers = answers.Redone r.event ∷ t.answers; stack = begins t r.event ∷ rs })
  commits : {r : Active} {rs : List Active} → t.stack ≡ r ∷ rs → r.committed ≡ false → is_void t.last r ≡ false
      → Goes priorities react t (record t { answers = answers.Committed r.event ∷ t.answers; stack = record r { committed = true } ∷ rs; last = suc (length t.answers); state = react (length (committed_in t.answers)) r.read r.event })
  resumes : {r : Active} {rs : List Active} → t.stack ≡ r ∷ rs → r.committed ≡ true → Goes priorities react t (record t { answers = answers.Resumed ∷ t.answers; stack = rs })

urgent_waits : (priorities : List ℕ) (latched : ℕ → Bool) (n e : ℕ) → most_urgent priorities latched n ≡ Some e → latched e ≡ true
urgent_waits priorities latched zero e h = absurd cc
urgent_waits priorities latched (suc n) e h = by (latched n) refl h (urgent_waits priorities latched n)
  where
    either : (best : Option ℕ) → more_urgent priorities n best ≡ Some e → latched n ≡ true → ((x : ℕ) → best ≡ Some x → latched x ≡ true) → latched e ≡ true
    either None it set rest = let same : n ≡ e = cc in subst (λ x. latched x ≡ true) same set
    either (Some best) it set rest = choose (nat_lt (priority priorities best) (priority priorities n)) it
      where
        choose : (b : Bool) → (if b then Some n else Some best) ≡ Some e → latched e ≡ true
        choose true its = let same : n ≡ e = cc in subst (λ x. latched x ≡ true) same set
        choose false its = rest e its

    by : (b : Bool) → latched n ≡ b → (if b then more_urgent priorities n (most_urgent priorities latched n) else most_urgent priorities latched n) ≡ Some e
        → ((x : ℕ) → most_urgent priorities latched n ≡ Some x → latched x ≡ true) → latched e ≡ true
    by true set it rest = either (most_urgent priorities latched n) it set rest
    by false clear it rest = rest e it

module _ (priorities : List ℕ) (react : ℕ → List ℕ → ℕ → List ℕ) (t : Told) where
  to : {u v : Told} → Some u ≡ Some v → Goes priorities react t u → Goes priorities react t v
  to {u} {v} h g = let same : u ≡ v = cc in subst (λ x. Goes priorities react t x) same g

  lt_of : (a b : ℕ) → nat_lt a b ≡ true → a < b
  lt_of a b h = grind (arith, nat_tests)

  arrived_goes : (e : ℕ) (u : Told) → arrived priorities t e ≡ Some u → Goes priorities react t u
  arrived_goes e u h = by (nat_lt e (length priorities)) h
    where
      here : (b : Bool) → t.latched e ≡ b → Some (if b then answer t (answers.Merged e) else record t { answers = answers.Latched e ∷ t.answers; latched = with_latch t.latched e true }) ≡ Some u → Goes priorities react t u
      here true set it = to it (merges set)
      here false clear it = to it (latches clear)

      by : (b : Bool) → (if b then Some (if t.latched e then answer t (answers.Merged e) else record t { answers = answers.Latched e ∷ t.answers; latched = with_latch t.latched e true }) else None) ≡ Some u → Goes priorities react t u
      by true it = here (t.latched e) refl it
      by false it = absurd cc

  taken_goes : (best : Option ℕ) (u : Told) → is_left t.stack ≡ false → ((e : ℕ) → best ≡ Some e → t.latched e ≡ true) → taken priorities t best ≡ Some u → Goes priorities react t u
  taken_goes None u stands waits h = absurd cc
  taken_goes (Some e) u stands waits h = by (nat_lt (top_priority priorities t.stack) (priority priorities e)) refl h
    where
      by : (b : Bool) → nat_lt (top_priority priorities t.stack) (priority priorities e) ≡ b
          → (if b then Some (record t { answers = answers.Took e ∷ t.answers; latched = with_latch t.latched e false; stack = begins t e ∷ t.stack }) else None) ≡ Some u → Goes priorities react t u
      by true up it = to it (takes stands (waits e refl) (lt_of _ _ up))
      by false low it = absurd cc

  take_goes : (left : Bool) (best : Option ℕ) (u : Told) → is_left t.stack ≡ left → ((e : ℕ) → best ≡ Some e → t.latched e ≡ true) → (if left then None else taken priorities t best) ≡ Some u → Goes priorities react t u
  take_goes true best u stands waits h = absurd cc
  take_goes false best u stands waits h = taken_goes best u stands waits h

  not_committed : (a b : Bool) → (a && not b) ≡ true → b ≡ false
  not_committed a false h = refl
  not_committed true true h = absurd cc
  not_committed false true h = absurd cc

  neither : (a b : Bool) → (a || b) ≡ false → (a ≡ false) × (b ≡ false)
  neither true b h = absurd cc
  neither false b h = (refl, h)

  top_goes : (s : Step) (st : List Active) (u : Told) → t.stack ≡ st → top_step react t s st ≡ Some u → Goes priorities react t u
  top_goes steps.Work (r ∷ rs) u stands h = by r.committed h
    where
      by : (b : Bool) → (if b then None else Some (answer t answers.Worked)) ≡ Some u → Goes priorities react t u
      by true it = absurd cc
      by false it = to it works
  top_goes steps.Redo (r ∷ rs) u stands h = by (is_void t.last r) refl h
    where
      by : (b : Bool) → is_void t.last r ≡ b → (if b then Some (record t { answers = answers.Redone r.event ∷ t.answers; stack = begins t r.event ∷ rs }) else None) ≡ Some u → Goes priorities react t u
      by true void it = to it (redoes stands (not_committed (nat_lt r.began t.last) r.committed void))
      by false clean it = absurd cc
  top_goes steps.Commit (r ∷ rs) u stands h = by (r.committed || is_void t.last r) refl h
    where
      by : (b : Bool) → (r.committed || is_void t.last r) ≡ b
          → (if b then None else Some (record t { answers = answers.Committed r.event ∷ t.answers; stack = record r { committed = true } ∷ rs; last = suc (length t.answers); state = react (length (committed_in t.answers)) r.read r.event })) ≡ Some u → Goes priorities react t u
      by true other it = absurd cc
      by false clean it = let parts = neither r.committed (is_void t.last r) clean in to it (commits stands parts.0 parts.1)
  top_goes steps.Resume (r ∷ rs) u stands h = by r.committed refl h
    where
      by : (b : Bool) → r.committed ≡ b → (if b then Some (record t { answers = answers.Resumed ∷ t.answers; stack = rs }) else None) ≡ Some u → Goes priorities react t u
      by true closed it = to it (resumes stands closed)
      by false other it = absurd cc
  top_goes steps.Take (r ∷ rs) u stands h = absurd cc
  top_goes (steps.Arrive e) (r ∷ rs) u stands h = absurd cc
  top_goes s [] u stands h = absurd cc

  pub goes : (s : Step) (u : Told) → step_from priorities react t s ≡ Some u → Goes priorities react t u
  goes (steps.Arrive e) u h = arrived_goes e u h
  goes steps.Take u h = take_goes (is_left t.stack) (most_urgent priorities t.latched (length priorities)) u refl (urgent_waits priorities t.latched (length priorities)) h
  goes steps.Work u h = top_goes steps.Work t.stack u refl h
  goes steps.Redo u h = top_goes steps.Redo t.stack u refl h
  goes steps.Commit u h = top_goes steps.Commit t.stack u refl h
  goes steps.Resume u h = top_goes steps.Resume t.stack u refl h

-- What holds at the start, and after an allowed step where it held before, holds after each list of allowed steps.
pub after_all : (priorities : List ℕ) (react : ℕ → List ℕ → ℕ → List ℕ) (first : List ℕ) (P : Told → Type 0) → P (start first) → ((t u : Told) → Goes priorities react t u → P t → P u)
    → (steps : List Step) (t : Told) → told priorities react first steps ≡ Some t → P t
after_all priorities react first P starts kept [] t h = let same : start first ≡ t = cc in subst P same starts
after_all priorities react first P starts kept (s ∷ before) t h = by (told priorities react first before) refl h (after_all priorities react first P starts kept before)
  where
    by : (o : Option Told) → told priorities react first before ≡ o → then_step priorities react o s ≡ Some t → ((u : Told) → told priorities react first before ≡ Some u → P u) → P t
    by None e it rest = absurd cc
    by (Some u) e it rest = kept u t (goes priorities react u s t it) (rest u e)
