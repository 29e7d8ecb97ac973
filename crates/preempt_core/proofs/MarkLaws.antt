-- A mark a run says what looking back says.
use Rattle.std.specs.Prelude.{ℕ, suc, ◌<◌, ◌≤◌, Bool, true, false, ◌&&◌, ◌||◌, not, nat_lt, List, [], ◌∷◌, map, length, Option, Some, None, if◌then◌else◌}
use Rattle.std.proofs.Common.{◌≡◌, refl, sym, ap, subst, arith}
use Rattle.std.proofs.lemmas.Bool.Decides.{nat_tests}
use Rattle.preempt_core.specs.declared.steps.Step.{Step}
use Rattle.preempt_core.specs.declared.steps.Step.TheVariants as steps
use Rattle.preempt_core.specs.declared.steps.Done.TheVariants as answers
use Rattle.preempt_core.specs.Runs.{Active, Told, priority, top_priority, most_urgent, is_void, with_latch, answer, begins, taken, is_left, committed_in, top_step, arrived, step_from, then_step, told}
use Rattle.preempt_core.specs.Marks.{Mark, mark_priority, leaves, fresh_mark, take_marked, mark_is_left, top_marked, arrived_marked, marked_step, mark_of, marks_of, answered_if, MarksLookBack}
use Rattle.preempt_core.proofs.GoesFacts.{Goes, latches, merges, takes, works, redoes, commits, resumes, after_all}

-- The runs beneath the top one haven't committed, all began within the list, and so did the last commit.
abbrev Open : ℕ → List Active → Type 0
Open n [] = Unit {0}
Open n (r ∷ rs) = (r.committed ≡ false) × (r.began ≤ n) × Open n rs

abbrev OpenBeneath : ℕ → List Active → Type 0
OpenBeneath n [] = Unit {0}
OpenBeneath n (r ∷ rs) = (r.began ≤ n) × Open n rs

record Within (t : Told) : Type 0 where
  last : t.last ≤ length t.answers
  beneath : OpenBeneath (length t.answers) t.stack

open_later : (n : ℕ) (st : List Active) → Open n st → Open (suc n) st
open_later n [] h = tt
open_later n (r ∷ rs) h = (h.0, let low = h.1 in omega arith, open_later n rs h.2)

beneath_later : (n : ℕ) (st : List Active) → OpenBeneath n st → OpenBeneath (suc n) st
beneath_later n [] h = tt
beneath_later n (r ∷ rs) h = (let low = h.0 in omega arith, open_later n rs h.1)

-- Where the top run hasn't committed, all are open.
all_open : (n : ℕ) (st : List Active) → is_left st ≡ false → OpenBeneath n st → Open n st
all_open n [] h o = tt
all_open n (r ∷ rs) h o = (h, o.0, o.1)

open_beneath : (n : ℕ) (st : List Active) → Open n st → OpenBeneath n st
open_beneath n [] o = tt
open_beneath n (r ∷ rs) o = (o.1, o.2)

not_later : (a b : ℕ) → b ≤ a → nat_lt a b ≡ false
not_later a b h = grind (arith, nat_tests)

later : (a b : ℕ) → a < b → nat_lt a b ≡ true
later a b h = grind (arith, nat_tests)

and_false : (a b : Bool) → a ≡ false → (a && b) ≡ false
and_false true b h = absurd cc
and_false false b h = refl

both_true : (a b : Bool) → a ≡ true → b ≡ false → (a && not b) ≡ true
both_true true true h g = absurd cc
both_true true false h g = refl
both_true false b h g = absurd cc

voided_marks : (n last : ℕ) (st : List Active) → Open n st → map (λ (b : Mark). record b { void = true }) (map (mark_of last) st) ≡ map (mark_of (suc n)) st
voided_marks n last [] o = refl
voided_marks n last (r ∷ rs) o =
    let void = both_true (nat_lt r.began (suc n)) r.committed (later r.began (suc n) (let low = o.1 in omega arith)) o.0 in
    let rest = voided_marks n last rs o.2 in
    cc

left_marks : (last : ℕ) (st : List Active) → mark_is_left (map (mark_of last) st) ≡ is_left st
left_marks last [] = refl
left_marks last (r ∷ rs) = refl

priority_marks : (priorities : List ℕ) (last : ℕ) (st : List Active) → mark_priority priorities (map (mark_of last) st) ≡ top_priority priorities st
priority_marks priorities last [] = refl
priority_marks priorities last (r ∷ rs) = refl

module _ (priorities : List ℕ) (react : ℕ → List ℕ → ℕ → List ℕ) (t : Told) (w : Within t) where
  -- A run that begins isn't void.
  fresh_is : (e : ℕ) → fresh_mark e ≡ mark_of t.last (begins t e)
  fresh_is e = let clean = and_false (nat_lt (suc (length t.answers)) t.last) (not false) (not_later (suc (length t.answers)) t.last (let low = w.last in omega arith)) in cc

  arrives : (e : ℕ) → arrived_marked priorities (marks_of t) e ≡ answered_if (arrived priorities t e)
  arrives e = by (nat_lt e (length priorities)) (t.latched e)
    where
      by : (a b : Bool) → (if a then (if b then leaves (answers.Merged e) (marks_of t) else leaves (answers.Latched e) (record { latched = with_latch t.latched e true; runs = map (mark_of t.last) t.stack })) else None)
          ≡ answered_if (if a then Some (if b then answer t (answers.Merged e) else record t { answers = answers.Latched e ∷ t.answers; latched = with_latch t.latched e true }) else None)
      by true true = refl
      by true false = refl
      by false b = refl

  takes_best : (best : Option ℕ) → take_marked priorities (marks_of t) best ≡ answered_if (taken priorities t best)
  takes_best None = refl
  takes_best (Some e) = rw (priority_marks priorities t.last t.stack) (by (nat_lt (top_priority priorities t.stack) (priority priorities e)))
    where
      by : (b : Bool) → (if b then leaves (answers.Took e) (record { latched = with_latch t.latched e false; runs = fresh_mark e ∷ map (mark_of t.last) t.stack }) else None)
          ≡ answered_if (if b then Some (record t { answers = answers.Took e ∷ t.answers; latched = with_latch t.latched e false; stack = begins t e ∷ t.stack }) else None)
      by true = ap (λ m. leaves (answers.Took e) (record { latched = with_latch t.latched e false; runs = m ∷ map (mark_of t.last) t.stack })) (fresh_is e)
      by false = refl

  takes_or_not : (left : Bool) → (if left then None else take_marked priorities (marks_of t) (most_urgent priorities t.latched (length priorities)))
      ≡ answered_if (if left then None else taken priorities t (most_urgent priorities t.latched (length priorities)))
  takes_or_not true = refl
  takes_or_not false = takes_best (most_urgent priorities t.latched (length priorities))

  top : (s : Step) (st : List Active) → OpenBeneath (length t.answers) st → t.stack ≡ st → top_marked (marks_of t) s (map (mark_of t.last) st) ≡ answered_if (top_step react t s st)
  top steps.Work (r ∷ rs) o stands = by r.committed
    where
      by : (b : Bool) → (if b then None else leaves answers.Worked (marks_of t)) ≡ answered_if (if b then None else Some (answer t answers.Worked))
      by true = refl
      by false = refl
  top steps.Redo (r ∷ rs) o stands = by (is_void t.last r)
    where
      by : (b : Bool) → (if b then leaves (answers.Redone r.event) (record { latched = t.latched; runs = fresh_mark r.event ∷ map (mark_of t.last) rs }) else None)
          ≡ answered_if (if b then Some (record t { answers = answers.Redone r.event ∷ t.answers; stack = begins t r.event ∷ rs }) else None)
      by true = ap (λ m. leaves (answers.Redone r.event) (record { latched = t.latched; runs = m ∷ map (mark_of t.last) rs })) (fresh_is r.event)
      by false = refl
  top steps.Commit (r ∷ rs) o stands = by (r.committed || is_void t.last r) refl
    where
      clean : (a b : Bool) → (a || b) ≡ false → b ≡ false
      clean true b h = absurd cc
      clean false b h = h

      never : (a : Bool) → (a && false) ≡ false
      never true = refl
      never false = refl

      mark : (r.committed || is_void t.last r) ≡ false → record (mark_of t.last r) { committed = true } ≡ mark_of (suc (length t.answers)) (record r { committed = true })
      mark h = let here = clean r.committed (is_void t.last r) h in let there = never (nat_lt r.began (suc (length t.answers))) in cc

      by : (b : Bool) → (r.committed || is_void t.last r) ≡ b
          → (if b then None else leaves (answers.Committed r.event) (record { latched = t.latched; runs = record (mark_of t.last r) { committed = true } ∷ map (λ (m : Mark). record m { void = true }) (map (mark_of t.last) rs) }))
          ≡ answered_if (if b then None else Some (record t { answers = answers.Committed r.event ∷ t.answers; stack = record r { committed = true } ∷ rs; last = suc (length t.answers); state = react (length (committed_in t.answers)) r.read r.event }))
      by true h = refl
      by false h = let its = mark h in let rest = voided_marks (length t.answers) t.last rs o.1 in cc
  top steps.Resume (r ∷ rs) o stands = by r.committed
    where
      by : (b : Bool) → (if b then leaves answers.Resumed (record { latched = t.latched; runs = map (mark_of t.last) rs }) else None) ≡ answered_if (if b then Some (record t { answers = answers.Resumed ∷ t.answers; stack = rs }) else None)
      by true = refl
      by false = refl
  top steps.Take (r ∷ rs) o stands = refl
  top (steps.Arrive e) (r ∷ rs) o stands = refl
  top s [] o stands = refl

  same_step : (s : Step) → marked_step priorities (marks_of t) s ≡ answered_if (step_from priorities react t s)
  same_step (steps.Arrive e) = arrives e
  same_step steps.Take = rw (left_marks t.last t.stack) (takes_or_not (is_left t.stack))
  same_step steps.Work = top steps.Work t.stack w.beneath refl
  same_step steps.Redo = top steps.Redo t.stack w.beneath refl
  same_step steps.Commit = top steps.Commit t.stack w.beneath refl
  same_step steps.Resume = top steps.Resume t.stack w.beneath refl

module _ (priorities : List ℕ) (react : ℕ → List ℕ → ℕ → List ℕ) (first : List ℕ) where
  kept : (t u : Told) → Goes priorities react t u → Within t → Within u
  kept t u (latches clear) w = let low = w.last in record { last = omega arith; beneath = beneath_later (length t.answers) t.stack w.beneath }
  kept t u (merges set) w = let low = w.last in record { last = omega arith; beneath = beneath_later (length t.answers) t.stack w.beneath }
  kept t u (takes stands set up) w =
      let low = w.last in
      record { last = omega arith; beneath = (omega arith, open_later (length t.answers) t.stack (all_open (length t.answers) t.stack stands w.beneath)) }
  kept t u works w = let low = w.last in record { last = omega arith; beneath = beneath_later (length t.answers) t.stack w.beneath }
  kept t u (redoes {r = r} {rs = rs} stands open_run) w =
      let low = w.last in
      let o = subst (OpenBeneath (length t.answers)) stands w.beneath in
      record { last = omega arith; beneath = (omega arith, open_later (length t.answers) rs o.1) }
  kept t u (commits {r = r} {rs = rs} stands open_run clean) w =
      let o = subst (OpenBeneath (length t.answers)) stands w.beneath in
      record { last = omega arith; beneath = (let low = o.0 in omega arith, open_later (length t.answers) rs o.1) }
  kept t u (resumes {r = r} {rs = rs} stands closed) w =
      let low = w.last in
      let o = subst (OpenBeneath (length t.answers)) stands w.beneath in
      record { last = omega arith; beneath = open_beneath (suc (length t.answers)) rs (open_later (length t.answers) rs o.1) }

  all_within : (steps : List Step) (t : Told) → told priorities react first steps ≡ Some t → Within t
  all_within = after_all priorities react first Within (record { last = omega arith; beneath = tt }) kept

pub marks_look_back : MarksLookBack
marks_look_back priorities react first before t s h =
    subst (λ o. marked_step priorities (marks_of t) s ≡ answered_if (then_step priorities react o s)) (sym h)
    (same_step priorities react t (all_within priorities react first before t h) s)
