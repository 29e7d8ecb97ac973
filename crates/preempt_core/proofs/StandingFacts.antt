-- What the steps of the core as code leave of its runs.
use Rattle.std.specs.Prelude.{ℕ, suc, ◌+◌, ◌-◌, ◌<◌, ◌≤◌, ◌==◌, ◌≢◌, Bool, true, false, nat_lt, List, [], ◌∷◌, ◌++◌, length, slice_index, map, Some, None, if◌then◌else◌}
use Rattle.std.proofs.Common.{◌≡◌, refl, ap, sym, subst, ◌∙◌, arith, take, drop, set, get_or, add-one, drop-cons, length-drop, append_assoc, append-nil, length-append}
use Rattle.std.proofs.lemmas.List.{take_more, take_more_set, drop-set, drop-set-lt, length-map, length-set, length-take-le, map-append, take_all, get_or-set_same, get_or-set_other}
use Rattle.std.proofs.lemmas.Bool.Decides.{nat_tests}
use Rattle.std.proofs.Math.Path.{fun_ext}
use Rattle.std.proofs.Math.Seq.{drop-append_seam}
use Rattle.std.proofs.Math.ListN.{drop_of_length-le}
use borrow.Rule.Slice.PartMut.{mid_of, put_mid}
use Rattle.preempt_core.specs.declared.runs.Run.{Run}
use Rattle.preempt_core.specs.declared.steps.Step.TheVariants as steps
use Rattle.preempt_core.specs.Marks.{Mark, mark_is_left, mark_priority, fresh_mark, take_marked, top_marked}
use Rattle.preempt_core.specs.Runs.{most_urgent, with_latch}
use Rattle.preempt_core.specs.Standing.{Standing, mark_run, voided, latch_of, core_of, core_after, marks_from, MarksRise, InOrder}

-- One run more is void.
pub one_more_void : (i : ℕ) (now first : List Run) (d : Run) → i < length now → length now ≡ length first → take i now ≡ map voided (take i first) → drop i now ≡ drop i first
    → (take (i + 1) (set now i (voided (get_or now i d))) ≡ map voided (take (i + 1) first)) × (drop (i + 1) (set now i (voided (get_or now i d))) ≡ drop (i + 1) first)
one_more_void i now first d low same done rest =
    let few : i < length first = omega arith in
    let here = drop-cons now i d low in
    let there = drop-cons first i d few in
    let run : get_or now i d ≡ get_or first i d = cc in
    let after : drop (suc i) now ≡ drop (suc i) first = cc in (
      take_more_set now i _ low ∙ ap (λ r. take i now ++ voided r ∷ []) run ∙ ap (λ rs. rs ++ voided (get_or first i d) ∷ []) done
          ∙ sym (map-append voided (take i first) (get_or first i d ∷ [])) ∙ ap (map voided) (sym (take_more first i d few)),
      drop-set-lt (i + 1) now i _ (omega arith) ∙ rw add-one after,
    )

-- At most as many runs are under way as the top one's priority.
height : (priorities : List ℕ) (ms : List Mark) → MarksRise priorities ms → length ms ≤ mark_priority priorities ms
height priorities [] h = omega arith
height priorities (m ∷ ms) h = let below = height priorities ms h.1 in let up = h.0 in omega arith

-- There is a place for a run of an event that is more urgent than the top run.
pub has_place : (priorities : List ℕ) (top : ℕ) (runs : List Run) (e : ℕ) → InOrder priorities top runs → e < length priorities → mark_priority priorities (marks_from top runs) < slice_index priorities e → 0 < top
has_place priorities top runs e o few up =
    let low = o.events.low e few in
    let tall = height priorities (marks_from top runs) o.rising in
    let within = o.within in
    let places = o.places in
    omega (arith, length-map (drop top runs) mark_run, length-drop top runs)

pub runs_taken : (top : ℕ) (runs : List Run) (r : Run) → 0 < top → top ≤ 11 → length runs ≡ 11 → marks_from (top - 1) (set runs (top - 1) r) ≡ mark_run r ∷ marks_from top runs
runs_taken top runs r up within places =
    let back : top - 1 + 1 ≡ top = omega arith in
    ap (map mark_run) (drop-set runs (top - 1) r (omega arith)) ∙ ap (λ n. mark_run r ∷ marks_from n runs) back

pub in_order_taken : (priorities : List ℕ) (top : ℕ) (runs : List Run) (r : Run) → InOrder priorities top runs → r.event < length priorities
    → mark_priority priorities (marks_from top runs) < slice_index priorities r.event → InOrder priorities (top - 1) (set runs (top - 1) r)
in_order_taken priorities top runs r o few up =
    record {
      events = o.events;
      within = let low = o.within in omega arith;
      places = length-set runs (top - 1) r ∙ o.places;
      rising = subst (MarksRise priorities) (sym (runs_taken top runs r (has_place priorities top runs r.event o few up) o.within o.places)) (up, o.rising);
    }

marks_voided : (rs : List Run) → map mark_run (map voided rs) ≡ map (λ (b : Mark). record b { void = true }) (map mark_run rs)
marks_voided [] = refl
marks_voided (r ∷ rs) = ap (λ ms. mark_run (voided r) ∷ ms) (marks_voided rs)

rise_voided : (priorities : List ℕ) (ms : List Mark) → MarksRise priorities ms → MarksRise priorities (map (λ (b : Mark). record b { void = true }) ms)
rise_voided priorities [] h = tt
rise_voided priorities (m ∷ []) h = (h.0, tt)
rise_voided priorities (m ∷ n ∷ ms) h = (h.0, rise_voided priorities (n ∷ ms) h.1)

-- The runs once the top one is another and those beneath are void.
all_runs : (top : ℕ) (runs : List Run) (v : Run) → top < 11 → length runs ≡ 11
    → put_mid (top + 1) (11 - (top + 1)) (set runs top v) (map voided (mid_of (top + 1) (11 - (top + 1)) (set runs top v))) ≡ take top runs ++ (v ∷ map voided (drop (top + 1) runs))
all_runs top runs v low places =
    let xs : List Run = set runs top v in
    let k : ℕ = 11 - (top + 1) in
    let beneath : drop (top + 1) xs ≡ drop (top + 1) runs = drop-set-lt (top + 1) runs top v (omega arith) in
    let long : length (drop (top + 1) runs) ≤ k = omega (arith, length-drop (top + 1) runs) in
    let none : drop k (drop (top + 1) xs) ≡ [] = ap (drop k) beneath ∙ drop_of_length-le (drop (top + 1) runs) long in
    let all : take k (drop (top + 1) xs) ≡ drop (top + 1) runs = ap (take k) beneath ∙ take_all k (drop (top + 1) runs) long in
    let front : take (top + 1) xs ≡ take top runs ++ v ∷ [] = take_more_set runs top v (omega arith) in
    rw (none, all, front) (simp (append_assoc, append-nil))

pub runs_committed : (top : ℕ) (runs : List Run) (v : Run) → top < 11 → length runs ≡ 11
    → marks_from top (put_mid (top + 1) (11 - (top + 1)) (set runs top v) (map voided (mid_of (top + 1) (11 - (top + 1)) (set runs top v))))
    ≡ mark_run v ∷ map (λ (b : Mark). record b { void = true }) (marks_from (suc top) runs)
runs_committed top runs v low places =
    let front : length (take top runs) ≡ top = length-take-le top runs (omega arith) in
    let seam : drop top (take top runs ++ (v ∷ map voided (drop (top + 1) runs))) ≡ v ∷ map voided (drop (top + 1) runs)
    = subst (λ n. drop n (take top runs ++ (v ∷ map voided (drop (top + 1) runs))) ≡ v ∷ map voided (drop (top + 1) runs)) front (drop-append_seam (take top runs) _) in
    ap (marks_from top) (all_runs top runs v low places) ∙ ap (map mark_run) seam ∙ ap (λ ms. mark_run v ∷ ms) (marks_voided (drop (top + 1) runs))
    ∙ ap (λ n. mark_run v ∷ map (λ (b : Mark). record b { void = true }) (marks_from n runs)) (add-one top)

-- The top run, and those beneath.
pub runs_apart : (top : ℕ) (runs : List Run) (d : Run) → top < length runs → marks_from top runs ≡ mark_run (get_or runs top d) ∷ marks_from (suc top) runs
runs_apart top runs d low = ap (map mark_run) (drop-cons runs top d low)

pub in_order_committed : (priorities : List ℕ) (top : ℕ) (runs : List Run) (d v : Run) → InOrder priorities top runs → top < 11 → v.event ≡ (get_or runs top d).event
    → InOrder priorities top (put_mid (top + 1) (11 - (top + 1)) (set runs top v) (map voided (mid_of (top + 1) (11 - (top + 1)) (set runs top v))))
in_order_committed priorities top runs d v o low same =
    let places = o.places in
    let apart = subst (MarksRise priorities) (runs_apart top runs d (omega arith)) o.rising in
    let voids = rise_voided priorities (mark_run v ∷ marks_from (suc top) runs) (subst (λ e. mark_priority priorities (marks_from (suc top) runs) < slice_index priorities e) (sym same) apart.0, apart.1) in
    record {
      events = o.events;
      within = o.within;
      places = ap length (all_runs top runs v low places) ∙ simp (length-append, length-map, length-drop) (omega (arith, length-take-le top runs (omega arith)));
      rising = subst (MarksRise priorities) (sym (runs_committed top runs v low places)) (rise_marks priorities (mark_run v) _ voids);
    }
  where
    rise_marks : (priorities : List ℕ) (m : Mark) (ms : List Mark) → MarksRise priorities (record m { void = true } ∷ ms) → MarksRise priorities (m ∷ ms)
    rise_marks priorities m ms h = h

set_latch : (latched : List Bool) (e : ℕ) (b : Bool) → e < length latched → latch_of (set latched e b) ≡ with_latch (latch_of latched) e b
set_latch latched e b low = fun_ext (λ x. by x (x == e) refl)
  where
    by : (x : ℕ) (is : Bool) → (x == e) ≡ is → latch_of (set latched e b) x ≡ (if is then b else latch_of latched x)
    by x true h = let same : x ≡ e = grind (arith, nat_tests) in ap (latch_of (set latched e b)) same ∙ get_or-set_same latched e b false low
    by x false h = let other : x ≢ e = grind (arith, nat_tests) in get_or-set_other latched e x b false other

-- Taking the most urgent event leaves what a step by marks does.
pub taken_leaves : (priorities : List ℕ) (latched : List Bool) (top : ℕ) (runs : List Run) (r : Run) → InOrder priorities top runs → length latched ≡ 11
    → mark_is_left (marks_from top runs) ≡ false → Some r.event ≡ most_urgent priorities (latch_of latched) (length priorities) → r.event < length priorities
    → mark_priority priorities (marks_from top runs) < slice_index priorities r.event → mark_run r ≡ fresh_mark r.event
    → core_of (record { priorities = priorities; latched = set latched r.event false; runs = marks_from (top - 1) (set runs (top - 1) r) })
    ≡ core_after (core_of (record { priorities = priorities; latched = latched; runs = marks_from top runs }))
    (if mark_is_left (marks_from top runs)
    then None
    else take_marked priorities (core_of (record { priorities = priorities; latched = latched; runs = marks_from top runs })) (most_urgent priorities (latch_of latched) (length priorities)))
taken_leaves priorities latched top runs r o bits open_run best few up new =
    let all = runs_taken top runs r (has_place priorities top runs r.event o few up) o.within o.places ∙ ap (λ m. m ∷ marks_from top runs) new in
    let low = o.events.few in
    let waits = set_latch latched r.event false (omega arith) in
    let allowed : nat_lt (mark_priority priorities (marks_from top runs)) (slice_index priorities r.event) ≡ true = grind (arith, nat_tests) in
    rw (open_run, ← best, allowed, all, waits) refl

-- Committing leaves what a step by marks does.
pub committed_leaves : (priorities : List ℕ) (latched : List Bool) (top : ℕ) (runs : List Run) (d : Run) (before : Standing) → InOrder priorities top runs → top < 11
    → (get_or runs top d).committed ≡ false → (get_or runs top d).void ≡ false → record { priorities = priorities; latched = latched; runs = marks_from top runs } ≡ before
    → core_of (record {
      priorities = priorities;
      latched = latched;
      runs = marks_from top (put_mid (top + 1) (11 - (top + 1)) (set runs top (record (get_or runs top d) { committed = true })) (map voided (mid_of (top + 1) (11 - (top + 1)) (set runs top (record (get_or runs top d) { committed = true })))));
    })
    ≡ core_after (core_of before) (top_marked (core_of before) steps.Commit before.runs)
committed_leaves priorities latched top runs d before o low open_run clean is =
    let places = o.places in
    let after : Standing = record {
      priorities = priorities;
      latched = latched;
      runs = marks_from top (put_mid (top + 1) (11 - (top + 1)) (set runs top (record (get_or runs top d) { committed = true })) (map voided (mid_of (top + 1) (11 - (top + 1)) (set runs top (record (get_or runs top d) { committed = true })))));
    } in
    subst (λ (s : Standing). core_of after ≡ core_after (core_of s) (top_marked (core_of s) steps.Commit s.runs)) is
    (rw (runs_committed top runs (record (get_or runs top d) { committed = true }) low places, runs_apart top runs d (omega arith), open_run, clean) refl)
