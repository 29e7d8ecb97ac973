-- Takes, commits, returns and new beginnings of the core of lists, where its runs are those of a tale with a mark each.
use Rattle.std.specs.Prelude.{ℕ, suc, ◌<◌, ◌≤◌, true, false, nat_lt, List, [], ◌∷◌, length, Some}
use Rattle.std.proofs.Common.{◌≡◌, refl, arith}
use Rattle.std.proofs.lemmas.Bool.Decides.{nat_tests}
use Rattle.preempt_core.specs.declared.steps.Step.TheVariants as core
use Rattle.preempt_core.specs.declared.steps.Done.TheVariants as answers
use Rattle.preempt_core.specs.Runs.{Active, Told, priority, top_priority, most_urgent, with_latch, begins, is_left, committed_in, step_from}
use Rattle.timed_core.specs.Steps.{Run, voided}

-- The runs of a list of steps are those of a tale: none has committed, each began within the list, and it is void where it
-- began before the last commit.
abbrev pub Stands : ℕ → ℕ → List Run → List Active → Type 0
Stands last n [] [] = Unit {0}
Stands last n (r ∷ rs) (a ∷ as_list) = (a.event ≡ r.event) × (nat_lt a.began last ≡ r.void) × (a.committed ≡ false) × (a.began ≤ n) × Stands last n rs as_list
Stands last n _ _ = ⊥

pub stands_later : (last n k : ℕ) (st : List Run) (runs : List Active) → n ≤ k → Stands last n st runs → Stands last k st runs
stands_later last n k [] [] h s = tt
stands_later last n k (r ∷ rs) (a ∷ rest) h s = (s.0, s.1, s.2, (let low = s.3 in omega (arith, low, h)), stands_later last n k rs rest h s.4)
stands_later last n k [] (a ∷ rest) h s = absurd s
stands_later last n k (r ∷ rs) [] h s = absurd s

before_test : (a b : ℕ) → a < b → nat_lt a b ≡ true
before_test a b h = grind (arith, nat_tests)

pub not_before : (a b : ℕ) → b ≤ a → nat_lt a b ≡ false
not_before a b h = grind (arith, nat_tests)

-- After one more commit all are void.
pub stands_voided : (last n : ℕ) (st : List Run) (runs : List Active) → Stands last n st runs → Stands (suc n) (suc n) (voided st) runs
stands_voided last n [] [] s = tt
stands_voided last n (r ∷ rs) (a ∷ rest) s =
    let low = s.3 in (s.0, before_test a.began (suc n) (omega (arith, low)), s.2, omega (arith, low), stands_voided last n rs rest s.4)
stands_voided last n [] (a ∷ rest) s = absurd s
stands_voided last n (r ∷ rs) [] s = absurd s

-- None was left by its commit.
pub stands_open : (last n : ℕ) (st : List Run) (runs : List Active) → Stands last n st runs → is_left runs ≡ false
stands_open last n [] [] s = refl
stands_open last n (r ∷ rs) (a ∷ rest) s = s.2
stands_open last n [] (a ∷ rest) s = absurd s
stands_open last n (r ∷ rs) [] s = absurd s

module _ (priorities : List ℕ) (react : ℕ → List ℕ → ℕ → List ℕ) (t : Told) where
  -- The most urgent event that waits is taken where it is above the top run.
  pub takes_it : (h : ℕ) → is_left t.stack ≡ false → most_urgent priorities t.latched (length priorities) ≡ Some h → top_priority priorities t.stack < priority priorities h
      → step_from priorities react t core.Take ≡ Some (record t { answers = answers.Took h ∷ t.answers; latched = with_latch t.latched h false; stack = begins t h ∷ t.stack })
  takes_it h up best above = rw (up, best, before_test (top_priority priorities t.stack) (priority priorities h) above) refl

  -- The top run commits where it isn't void.
  pub commits_it : (a : Active) (rest : List Active) → t.stack ≡ a ∷ rest → a.committed ≡ false → nat_lt a.began t.last ≡ false
      → step_from priorities react t core.Commit
      ≡ Some (record t { answers = answers.Committed a.event ∷ t.answers; stack = record a { committed = true } ∷ rest; last = suc (length t.answers); state = react (length (committed_in t.answers)) a.read a.event })
  commits_it a rest at up clean = rw (at, up, clean) refl

  -- A run that has committed is left.
  pub resumes_it : (a : Active) (rest : List Active) → t.stack ≡ a ∷ rest → a.committed ≡ true → step_from priorities react t core.Resume ≡ Some (record t { answers = answers.Resumed ∷ t.answers; stack = rest })
  resumes_it a rest at done = rw (at, done) refl

  -- A void run begins again.
  pub redoes_it : (a : Active) (rest : List Active) → t.stack ≡ a ∷ rest → a.committed ≡ false → nat_lt a.began t.last ≡ true
      → step_from priorities react t core.Redo ≡ Some (record t { answers = answers.Redone a.event ∷ t.answers; stack = begins t a.event ∷ rest })
  redoes_it a rest at up void = rw (at, up, void) refl
