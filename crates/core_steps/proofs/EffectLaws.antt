-- Each step of a tale keeps the tie: by what the reading does for its label, nothing, a Take with what was held back, a Commit,
-- a Resume, a Redo, or a first turning of interrupts on.
use Rattle.std.specs.Prelude.{ℕ, zero, suc, ◌<◌, ◌≤◌, ◌==◌, ◌≢◌, Bool, true, false, ◌&&◌, ◌||◌, not, List, [], ◌∷◌, ◌++◌, length, filter, reverse, Some, if◌then◌else◌}
use Rattle.std.proofs.Common.{◌≡◌, refl, sym, ap, ap₂, subst, ◌∙◌, arith}
use Rattle.std.proofs.lemmas.Bool.{eqb-true, eq-eqb}
use Rattle.std.proofs.Math.Bool.{and-true, and-false}
use Rattle.std.proofs.lemmas.List.{append-nil, reverse-append}
use Rattle.frp_tree.specs.Tree.{ProgramTree}
use Rattle.map_file.specs.declared.maps.MapEvent.{MapEvent}
use Rattle.map_file.specs.declared.maps.Map.{Map}
use Rattle.map_file.specs.MapRules.{IsMap}
use Rattle.preempt_core.specs.declared.steps.Step.{Step}
use Rattle.preempt_core.specs.declared.steps.Step.TheVariants as core
use Rattle.preempt_core.specs.declared.steps.Done.TheVariants as answers
use Rattle.preempt_core.specs.Runs.{Active, Told, priority, top_priority, most_urgent, begins, step_from, then_step, committed_in, told}
use Rattle.timed_core.specs.Timing.{Timing}
use Rattle.timed_core.specs.Steps.{Run, Phase, Label, fresh, voided, top_level, locked, Best}
use Rattle.timed_core.specs.Steps.Phase.{Boots, Rests, Works, Owes, Chooses, Begins, Repeats, Nears, Copies, Leaves}
use Rattle.timed_core.specs.Tale.{is_clearing}
use Rattle.timed_core.specs.Promises.{is_taking}
use Rattle.timed_core.specs.Shape.{Shape, IsEmpty}
use Rattle.timed_core.specs.Counts.{committed_by}
use Rattle.timed_core.proofs.MoveLaws.{Move}
use Rattle.timed_core.proofs.MoveLaws as moves
use Rattle.core_story.specs.Values.{item}
use Rattle.core_story.specs.Interface.{Fitted, level_at}
use Rattle.core_story.specs.Interface as stories
use Rattle.core_story.proofs.ItemLaws.{event_with_level}
use Rattle.core_steps.specs.LogSteps.{Reading, held_back, add, take_all, take_event, commit_all, resume, turn_on, choose, drop_top}
use Rattle.core_steps.specs.Tied.{priorities_of, next_state, taken_in}
use Rattle.core_steps.proofs.ArriveLaws.{AfterArrivals}
use Rattle.core_steps.proofs.ShownLaws.{cleared_by, is_turning}
use Rattle.core_steps.proofs.StandLaws.{Stands, stands_later, stands_voided, stands_open, not_before, commits_it, resumes_it, redoes_it}
use Rattle.core_steps.proofs.TakeLaws.{choice_told, after_take}
use Rattle.core_steps.proofs.TieLaws.{Tie, is_among, Choosing, LeavesTop, StandsIn, Marked, marks, or_left_false}
use Rattle.core_steps.proofs.UrgentLaws.{urgent_is, level_of}

-- What the reading does for a label, once its arrivals are read.
abbrev pub effect : Label → Reading → Reading
effect l r = choose (is_taking l) (turn_on (is_turning l) (resume (stories.is_return l) (commit_all (take_all r (cleared_by l)) (committed_by l))))

or_right : (a b : Bool) → b ≡ true → (a || b) ≡ true
or_right true b h = refl
or_right false b h = h

-- Among an event's own arrivals are none of others, and among the others' none of its own.
own_other : (h x : ℕ) (xs : List ℕ) → (x == h) ≡ false → is_among (filter (λ y. y == h) xs) x ≡ false
own_other h x [] apart = refl
own_other h x (y ∷ ys) apart = by (y == h) refl (own_other h x ys apart)
  where
    by : (b : Bool) → (y == h) ≡ b → is_among (filter (λ z. z == h) ys) x ≡ false → is_among (if b then y ∷ filter (λ z. z == h) ys else filter (λ z. z == h) ys) x ≡ false
    by false it rest = rest
    by true it rest = let same : y ≡ h = eqb-true y h it in or_left_false (x == y) (is_among (filter (λ z. z == h) ys) x) (ap (λ z. x == z) same ∙ apart) ∙ rest

others_other : (h x : ℕ) (xs : List ℕ) → (x == h) ≡ false → is_among (filter (λ y. not (y == h)) xs) x ≡ is_among xs x
others_other h x [] apart = refl
others_other h x (y ∷ ys) apart = by (y == h) refl (others_other h x ys apart)
  where
    by : (b : Bool) → (y == h) ≡ b → is_among (filter (λ z. not (z == h)) ys) x ≡ is_among ys x
        → is_among (if not b then y ∷ filter (λ z. not (z == h)) ys else filter (λ z. not (z == h)) ys) x ≡ ((x == y) || is_among ys x)
    by false it rest = ap (λ b. (x == y) || b) rest
    by true it rest = let same : y ≡ h = eqb-true y h it in rest ∙ sym (or_left_false (x == y) (is_among ys x) (ap (λ z. x == z) same ∙ apart))

differs : (h y : ℕ) → (y == h) ≡ false → (c : Bool) → (h == y) ≡ c → c ≡ false
differs h y apart false e = refl
differs h y apart true e = let same : h ≡ y = eqb-true h y e in let other : (y == h) ≡ true = eq-eqb y h (sym same) in absurd cc

own_own : (h : ℕ) (xs : List ℕ) → is_among (filter (λ y. y == h) xs) h ≡ is_among xs h
own_own h [] = refl
own_own h (y ∷ ys) = by (y == h) refl (own_own h ys)
  where
    by : (b : Bool) → (y == h) ≡ b → is_among (filter (λ z. z == h) ys) h ≡ is_among ys h → is_among (if b then y ∷ filter (λ z. z == h) ys else filter (λ z. z == h) ys) h ≡ ((h == y) || is_among ys h)
    by true it rest = ap (λ b. (h == y) || b) rest
    by false it rest = rest ∙ sym (or_left_false (h == y) (is_among ys h) (differs h y it (h == y) refl))

others_own : (h : ℕ) (xs : List ℕ) → is_among (filter (λ y. not (y == h)) xs) h ≡ false
others_own h [] = refl
others_own h (y ∷ ys) = by (y == h) refl (others_own h ys)
  where
    by : (b : Bool) → (y == h) ≡ b → is_among (filter (λ z. not (z == h)) ys) h ≡ false → is_among (if not b then y ∷ filter (λ z. not (z == h)) ys else filter (λ z. not (z == h)) ys) h ≡ false
    by true it rest = rest
    by false it rest = or_left_false (h == y) (is_among (filter (λ z. not (z == h)) ys) h) (differs h y it (h == y) refl) ∙ rest

-- A top run with other steps to go stands as well.
stands_like : (last n : ℕ) (r s : Run) (rs : List Run) (runs : List Active) → r.event ≡ s.event → r.void ≡ s.void → Stands last n (r ∷ rs) runs → Stands last n (s ∷ rs) runs
stands_like last n r s rs [] e v h = absurd h
stands_like last n r s rs (a ∷ rest) e v h = (h.0 ∙ e, h.1 ∙ v, h.2, h.3, h.4)

marks_voided : (st : List Run) → marks (voided st) ≡ marks st
marks_voided [] = refl
marks_voided (r ∷ rs) = ap (λ bs. true ∷ bs) (marks_voided rs)

item_low : (es : List MapEvent) (x : ℕ) (e : MapEvent) → item es x ≡ Some e → x < length es
item_low [] x e h = absurd cc
item_low (d ∷ es) zero e h = omega arith
item_low (d ∷ es) (suc x) e h = let low = item_low es x e h in omega (arith, low)

empty_marks : (st : List Run) → IsEmpty st → marks st ≡ []
empty_marks [] h = refl
empty_marks (r ∷ rs) h = absurd h

module _ (p : ProgramTree) (m : Map) (is_map : IsMap m) (t : Timing) (fitted : Fitted p m t) (first : List ℕ) (now : ℕ → Bool) (r : Reading) (ts cs : List ℕ) where
  abbrev Before : Phase → List Run → Type 0
  Before ph st = Tie p m first now ph st r ts cs

  abbrev After : Label → Phase → List Run → Reading → Type 0
  After l ph st s = Tie p m first (λ x. now x && not (is_clearing x l)) ph st s (ts ++ cleared_by l) (cs ++ committed_by l)

  -- The reading does nothing.
  stays : (ph ph' : Phase) (st st' : List Run) (tie : Before ph st) → (Choosing ph r.held tie.core.latched → Choosing ph' r.held tie.core.latched)
      → (StandsIn ph tie.core.last (length tie.core.answers) st tie.core.stack → StandsIn ph' tie.core.last (length tie.core.answers) st' tie.core.stack)
      → (Marked ph st r.turned → Marked ph' st' r.turned)
      → Tie p m first (λ x. now x && true) ph' st' r (ts ++ []) (cs ++ [])
  stays ph ph' st st' tie c s k = record {
    core = tie.core;
    allowed = tie.allowed;
    waits = λ x. and-true (now x) ∙ tie.waits x;
    below = tie.below;
    choosing = c tie.choosing;
    stands = s tie.stands;
    low = tie.low;
    marked = k tie.marked;
    takes = tie.takes ∙ sym (append-nil ts);
    commits = tie.commits ∙ sym (append-nil cs);
  }

  -- A taking begins a choice.
  takes : (ph : Phase) (st : List Run) (tie : Before ph st) → (StandsIn ph tie.core.last (length tie.core.answers) st tie.core.stack → Stands tie.core.last (length tie.core.answers) st tie.core.stack)
      → (Marked ph st r.turned → r.turned ≡ marks st)
      → Tie p m first (λ x. now x && true) (Chooses t.choose now) st (record r { held = Some (held_back r) }) (ts ++ []) (cs ++ [])
  takes ph st tie s k = record {
    core = tie.core;
    allowed = tie.allowed;
    waits = λ x. and-true (now x) ∙ tie.waits x;
    below = tie.below;
    choosing = (held_back r, refl, λ x h. tie.waits x ∙ or_right (is_among (held_back r) x) (tie.core.latched x) h);
    stands = s tie.stands;
    low = tie.low;
    marked = k tie.marked;
    takes = tie.takes ∙ sym (append-nil ts);
    commits = tie.commits ∙ sym (append-nil cs);
  }

  -- One step more of the core of lists.
  one_more : (s : Step) (before after : Told) → told (priorities_of m) (next_state p m) first r.steps ≡ Some before → step_from (priorities_of m) (next_state p m) before s ≡ Some after
      → told (priorities_of m) (next_state p m) first (s ∷ r.steps) ≡ Some after
  one_more s before after h it = subst (λ o. then_step (priorities_of m) (next_state p m) o s ≡ Some after) (sym h) it

  -- A run that has committed returns.
  returns : (e j : ℕ) (ph : Phase) (st : List Run) (tie : Before (Leaves e j) st) → (Choosing (Leaves e j) r.held tie.core.latched → Choosing ph r.held tie.core.latched)
      → ((last n : ℕ) (runs : List Active) → Stands last n st runs → StandsIn ph last n st runs) → ((turned : List Bool) → turned ≡ marks st → Marked ph st turned)
      → Tie p m first (λ x. now x && true) ph st (record (add core.Resume r) { turned = drop_top r.turned }) (ts ++ []) (cs ++ [])
  returns e j ph st tie c s k = by tie.core.stack refl tie.stands
    where
      by : (runs : List Active) → tie.core.stack ≡ runs → LeavesTop tie.core.last (length tie.core.answers) st runs
          → Tie p m first (λ x. now x && true) ph st (record (add core.Resume r) { turned = drop_top r.turned }) (ts ++ []) (cs ++ [])
      by [] it h = absurd h
      by (a ∷ rest) it h = record {
        core = record tie.core { answers = answers.Resumed ∷ tie.core.answers; stack = rest };
        allowed = one_more core.Resume tie.core (record tie.core { answers = answers.Resumed ∷ tie.core.answers; stack = rest }) tie.allowed (resumes_it (priorities_of m) (next_state p m) tie.core a rest it h.0);
        waits = λ x. and-true (now x) ∙ tie.waits x;
        below = tie.below;
        choosing = c tie.choosing;
        stands = s tie.core.last (suc (length tie.core.answers)) rest (stands_later tie.core.last (length tie.core.answers) (suc (length tie.core.answers)) st rest (omega arith) h.1);
        low = (let low = tie.low in omega (arith, low));
        marked = k (drop_top r.turned) (let mk = tie.marked in ap drop_top mk.1);
        takes = tie.takes ∙ sym (append-nil ts);
        commits = tie.commits ∙ sym (append-nil cs);
      }

  -- The run at the top commits.
  commits : (j : ℕ) (top : Run) (rs : List Run) → top.void ≡ false → (tie : Before (Copies j) (top ∷ rs))
      → Tie p m first (λ x. now x && true) (Leaves top.event t.exiting) (voided rs) (add core.Commit r) (ts ++ []) (cs ++ (top.event ∷ []))
  commits j top rs clean tie = by tie.core.stack refl tie.stands
    where
      by : (runs : List Active) → tie.core.stack ≡ runs → Stands tie.core.last (length tie.core.answers) (top ∷ rs) runs
          → Tie p m first (λ x. now x && true) (Leaves top.event t.exiting) (voided rs) (add core.Commit r) (ts ++ []) (cs ++ (top.event ∷ []))
      by [] it h = absurd h
      by (a ∷ rest) it h =
          let after : Told = record tie.core { answers = answers.Committed a.event ∷ tie.core.answers; stack = record a { committed = true } ∷ rest; last = suc (length tie.core.answers); state = next_state p m (length (committed_in tie.core.answers)) a.read a.event } in
          record {
            core = after;
            allowed = one_more core.Commit tie.core after tie.allowed (commits_it (priorities_of m) (next_state p m) tie.core a rest it h.2 (h.1 ∙ clean));
            waits = λ x. and-true (now x) ∙ tie.waits x;
            below = tie.below;
            choosing = tie.choosing;
            stands = (refl, stands_voided tie.core.last (length tie.core.answers) rs rest h.4);
            low = omega arith;
            marked = (let mk = tie.marked in (mk.0, mk.1 ∙ ap (λ bs. mk.0 ∷ bs) (sym (marks_voided rs))));
            takes = tie.takes ∙ sym (append-nil ts);
            commits = reverse-append (a.event ∷ []) (committed_in tie.core.answers) ∙ ap₂ (λ xs (e : ℕ). xs ++ (e ∷ [])) tie.commits h.0;
          }

  -- The run at the top turns interrupts on for the first time.
  turns : (j : ℕ) (top : Run) (rs : List Run) → top.void ≡ false → Before (Begins j) (top ∷ rs)
      → Tie p m first (λ x. now x && true) Works (fresh t top.event ∷ rs) (turn_on true r) (ts ++ []) (cs ++ [])
  turns j top rs clean tie =
      subst (λ s. Tie p m first (λ x. now x && true) Works (fresh t top.event ∷ rs) s (ts ++ []) (cs ++ [])) (sym marks_it) (record {
        core = tie.core;
        allowed = tie.allowed;
        waits = λ x. and-true (now x) ∙ tie.waits x;
        below = tie.below;
        choosing = tie.choosing;
        stands = stands_like tie.core.last (length tie.core.answers) top (fresh t top.event) rs tie.core.stack refl clean tie.stands;
        low = tie.low;
        marked = refl;
        takes = tie.takes ∙ sym (append-nil ts);
        commits = tie.commits ∙ sym (append-nil cs);
      })
    where
      marks_it : turn_on true r ≡ record r { turned = true ∷ marks rs }
      marks_it = ap (λ (bs : List Bool). elim bs [ [] ↦ r | before ∷ others ↦ (if before then add core.Redo r else record r { turned = true ∷ others }) ]) tie.marked

  -- It does so again, as it is void.
  turns_again : (j : ℕ) (top : Run) (rs : List Run) → top.void ≡ true → Before (Repeats j) (top ∷ rs)
      → Tie p m first (λ x. now x && true) Works (fresh t top.event ∷ rs) (turn_on true r) (ts ++ []) (cs ++ [])
  turns_again j top rs void tie = subst (λ s. Tie p m first (λ x. now x && true) Works (fresh t top.event ∷ rs) s (ts ++ []) (cs ++ [])) (sym redoes) (by tie.core.stack refl tie.stands)
    where
      redoes : turn_on true r ≡ add core.Redo r
      redoes = ap (λ (bs : List Bool). elim bs [ [] ↦ r | before ∷ others ↦ (if before then add core.Redo r else record r { turned = true ∷ others }) ]) tie.marked

      by : (runs : List Active) → tie.core.stack ≡ runs → Stands tie.core.last (length tie.core.answers) (top ∷ rs) runs
          → Tie p m first (λ x. now x && true) Works (fresh t top.event ∷ rs) (add core.Redo r) (ts ++ []) (cs ++ [])
      by [] it h = absurd h
      by (a ∷ rest) it h =
          let after : Told = record tie.core { answers = answers.Redone a.event ∷ tie.core.answers; stack = begins tie.core a.event ∷ rest } in
          record {
            core = after;
            allowed = one_more core.Redo tie.core after tie.allowed (redoes_it (priorities_of m) (next_state p m) tie.core a rest it h.2 (h.1 ∙ void));
            waits = λ x. and-true (now x) ∙ tie.waits x;
            below = tie.below;
            choosing = tie.choosing;
            stands = (
              h.0,
              not_before (suc (length tie.core.answers)) tie.core.last (let low = tie.low in omega (arith, low)),
              refl,
              omega arith,
              stands_later tie.core.last (length tie.core.answers) (suc (length tie.core.answers)) rs rest (omega arith) h.4,
            );
            low = (let low = tie.low in omega (arith, low));
            marked = tie.marked;
            takes = tie.takes ∙ sym (append-nil ts);
            commits = tie.commits ∙ sym (append-nil cs);
          }

  -- The chosen event is taken, and its flag cleared.
  clears : (j h : ℕ) (g : ℕ → Bool) (st : List Run) → now h ≡ true → Best t g h → top_level t st < t.level h → (tie : Before (Chooses j g) st)
      → Tie p m first (λ x. now x && not (x == h)) (Begins t.start) (fresh t h ∷ st) (take_event r h) (ts ++ (h ∷ [])) (cs ++ [])
  clears j h g st set best above tie =
      let choice = choice_told (priorities_of m) (next_state p m) first h held r.steps tie.core tie.allowed tie.below (stands_open tie.core.last (length tie.core.answers) st tie.core.stack tie.stands) urgent top_above in
      let mid : Told = choice.0 in
      let after : Told = choice.1 in
      let own = choice.3 in
      let rest = choice.4 in
      let low : mid.last ≤ length mid.answers = (let was = tie.low in let last = own.last in let longer = own.longer in omega (arith, was, last, longer)) in
      record {
        core = after;
        allowed = choice.2;
        waits = λ x. waits_for mid after own rest x (x == h) refl;
        below = tt;
        choosing = refl;
        stands =
            subst (λ (runs : List Active). Stands after.last (length after.answers) (fresh t h ∷ st) runs) (sym rest.stack)
            (subst (λ (l : ℕ). Stands l (length after.answers) (fresh t h ∷ st) (begins mid h ∷ mid.stack)) (sym rest.last) (
              refl,
              not_before (suc (length mid.answers)) mid.last (omega (arith, low)),
              refl,
              (let longer = rest.longer in omega (arith, longer)),
              subst (λ (runs : List Active). Stands mid.last (length after.answers) st runs) (sym own.stack)
                  (subst (λ (l : ℕ). Stands l (length after.answers) st tie.core.stack) (sym own.last)
                  (stands_later tie.core.last (length tie.core.answers) (length after.answers) st tie.core.stack (let a = own.longer in let b = rest.longer in omega (arith, a, b)) tie.stands)),
            ));
        low = (let last = rest.last in let longer = rest.longer in omega (arith, low, last, longer));
        marked = ap (λ bs. false ∷ bs) tie.marked;
        takes = ap (λ (xs : List ℕ). reverse xs) (rest.taken ∙ ap (λ xs. h ∷ xs) own.taken) ∙ reverse-append (h ∷ []) (taken_in tie.core.answers) ∙ ap (λ xs. xs ++ (h ∷ [])) tie.takes;
        commits = ap (λ (xs : List ℕ). reverse xs) (rest.committed ∙ own.committed) ∙ tie.commits ∙ sym (append-nil cs);
      }
    where
      held : List ℕ
      held = held_back r

      level_is : (x : ℕ) → priority (priorities_of m) x ≡ t.level x
      level_is = level_of p m is_map t fitted

      top_is : (last n : ℕ) (rs : List Run) (runs : List Active) → Stands last n rs runs → top_priority (priorities_of m) runs ≡ top_level t rs
      top_is last n [] [] s = refl
      top_is last n (top ∷ rs) (a ∷ rest) s = ap (priority (priorities_of m)) s.0 ∙ level_is top.event
      top_is last n [] (a ∷ rest) s = absurd s
      top_is last n (top ∷ rs) [] s = absurd s

      top_above : top_priority (priorities_of m) tie.core.stack < priority (priorities_of m) h
      top_above = omega (arith, above, level_is h, top_is tie.core.last (length tie.core.answers) st tie.core.stack tie.stands)

      listed : h < length m.events
      listed = let there = event_with_level m h (omega (arith, above, fitted.level h)) in item_low m.events h there.0 there.1

      urgent : (mid : Told) → AfterArrivals (filter (λ x. x == h) held) tie.core mid → most_urgent (priorities_of m) mid.latched (length (priorities_of m)) ≡ Some h
      urgent mid a = urgent_is p m is_map t fitted h g mid.latched best listed its_own others
        where
          its_own : mid.latched h ≡ true
          its_own = a.latched h ∙ ap (λ b. b || tie.core.latched h) (own_own h held) ∙ sym (tie.waits h) ∙ set

          others : (x : ℕ) → mid.latched x ≡ true → x ≢ h → g x ≡ true
          others x waits apart = by (x == h) refl
            where
              by : (b : Bool) → (x == h) ≡ b → g x ≡ true
              by true it = absurd (apart (eqb-true x h it))
              by false it = let c = tie.choosing in c.2 x (sym (a.latched x ∙ or_left_false (is_among (filter (λ y. y == h) held) x) (tie.core.latched x) (own_other h x held it)) ∙ waits)

      waits_for : (mid after : Told) → AfterArrivals (filter (λ x. x == h) held) tie.core mid → AfterArrivals (filter (λ x. not (x == h)) held) (after_take mid h) after
          → (x : ℕ) (b : Bool) → (x == h) ≡ b → (now x && not (x == h)) ≡ after.latched x
      waits_for mid after a rest x true it =
          let same : x ≡ h = eqb-true x h it in
          rw it (and-false (now x) ∙ sym (rest.latched x ∙ ap₂ (λ (c : Bool) (d : Bool). c || (if d then false else mid.latched x)) (ap (is_among (filter (λ y. not (y == h)) held)) same ∙ others_own h held) it))
      waits_for mid after a rest x false it =
          rw it (
          and-true (now x) ∙ tie.waits x
          ∙ sym (
          rest.latched x
          ∙ ap₂ (λ (c : Bool) (d : Bool). c || (if d then false else mid.latched x)) (others_other h x held it) it
          ∙ ap (λ c. is_among held x || c) (a.latched x ∙ or_left_false (is_among (filter (λ y. y == h) held) x) (tie.core.latched x) (own_other h x held it))
          )
          )

  -- Each step keeps the tie.
  pub tie_kept : {ph ph' : Phase} {l : Label} {st st' : List Run} → Move t now ph l st ph' st' → Shape t ph st → Before ph st → After l ph' st' (effect l r)
  tie_kept (moves.boots {j = j} {i = i} {st = st} h) shape tie = stays (Boots j) (Boots i) st st tie (λ x. x) (λ x. x) (λ x. x)
  tie_kept (moves.boots_puts {j = j} {i = i} {st = st} h) shape tie = stays (Boots j) (Boots i) st st tie (λ x. x) (λ x. x) (λ x. x)
  tie_kept (moves.readies {j = j} {st = st}) shape tie =
      subst (λ s. Tie p m first (λ x. now x && true) Rests st s (ts ++ []) (cs ++ []))
      (sym (ap (λ (bs : List Bool). elim bs [ [] ↦ r | before ∷ others ↦ (if before then add core.Redo r else record r { turned = true ∷ others }) ]) (tie.marked ∙ empty_marks st shape.0)))
      (stays (Boots j) Rests st st tie (λ x. x) (λ x. x) (λ x. x))
  tie_kept (moves.rests {st = st} h) shape tie = stays Rests Rests st st tie (λ x. x) (λ x. x) (λ x. x)
  tie_kept (moves.rests_takes {st = st} h) shape tie = takes Rests st tie (λ x. x) (λ x. x)
  tie_kept (moves.rests_delays {st = st} h) shape tie = stays Rests (Owes true now) st st tie (λ x. x) (λ x. x) (λ x. x)
  tie_kept (moves.works {r = top} {rs = rs} {i = i} h low) shape tie =
      stays Works Works (top ∷ rs) (record top { rest = i } ∷ rs) tie (λ x. x) (stands_like tie.core.last (length tie.core.answers) top (record top { rest = i }) rs tie.core.stack refl refl) (λ x. x)
  tie_kept (moves.works_takes {r = top} {rs = rs} h) shape tie = takes Works (top ∷ rs) tie (λ x. x) (λ x. x)
  tie_kept (moves.locks {r = top} {rs = rs} h) shape tie = by top.void refl
    where
      by : (b : Bool) → top.void ≡ b → Tie p m first (λ x. now x && true) (locked t b) (top ∷ rs) r (ts ++ []) (cs ++ [])
      by true it = stays Works (Repeats t.again) (top ∷ rs) (top ∷ rs) tie (λ x. x) (λ x. x) (λ x. x)
      by false it = stays Works (Nears t.opening) (top ∷ rs) (top ∷ rs) tie (λ x. x) (λ x. x) (λ x. (true, x))
  tie_kept (moves.works_delays {r = top} {rs = rs} {i = i} h low) shape tie =
      stays Works (Owes true now) (top ∷ rs) (record top { rest = i } ∷ rs) tie (λ x. x) (stands_like tie.core.last (length tie.core.answers) top (record top { rest = i }) rs tie.core.stack refl refl) (λ x. x)
  tie_kept (moves.slips {r = top} {rs = rs} h) shape tie =
      stays Works (Owes false now) (top ∷ rs) (record top { rest = t.retry } ∷ rs) tie (λ x. x) (stands_like tie.core.last (length tie.core.answers) top (record top { rest = t.retry }) rs tie.core.stack refl refl) (λ x. x)
  tie_kept (moves.owes_takes {on = on} {g = g} {st = st}) shape tie = takes (Owes on g) st tie (λ x. x) (λ x. x)
  tie_kept (moves.chooses {j = j} {i = i} {g = g} {st = st} h) shape tie = stays (Chooses j g) (Chooses i g) st st tie (λ x. x) (λ x. x) (λ x. x)
  tie_kept (moves.clears {j = j} {h = h} {g = g} {st = st} set best above) shape tie = clears j h g st set best above tie
  tie_kept (moves.begins {j = j} {i = i} {st = st} h) shape tie = stays (Begins j) (Begins i) st st tie (λ x. x) (λ x. x) (λ x. x)
  tie_kept (moves.turns {j = j} {r = top} {rs = rs}) shape tie = turns j top rs shape.0 tie
  tie_kept (moves.opens_short {j = j} {r = top} {rs = rs} short high) shape tie = stays (Begins j) (Copies t.copying) (top ∷ rs) (top ∷ rs) tie (λ x. x) (λ x. x) (λ x. (false, x))
  tie_kept (moves.repeats {j = j} {i = i} {st = st} h) shape tie = stays (Repeats j) (Repeats i) st st tie (λ x. x) (λ x. x) (λ x. x)
  tie_kept (moves.turns_again {j = j} {r = top} {rs = rs}) shape tie = turns_again j top rs shape.0 tie
  tie_kept (moves.nears {j = j} {i = i} {st = st} h) shape tie = stays (Nears j) (Nears i) st st tie (λ x. x) (λ x. x) (λ x. x)
  tie_kept (moves.opens {j = j} {r = top} {rs = rs}) shape tie = stays (Nears j) (Copies t.copying) (top ∷ rs) (top ∷ rs) tie (λ x. x) (λ x. x) (λ x. x)
  tie_kept (moves.copies {j = j} {i = i} {st = st} h) shape tie = stays (Copies j) (Copies i) st st tie (λ x. x) (λ x. x) (λ x. x)
  tie_kept (moves.copies_puts {j = j} {i = i} {st = st} h) shape tie = stays (Copies j) (Copies i) st st tie (λ x. x) (λ x. x) (λ x. x)
  tie_kept (moves.commits {j = j} {r = top} {rs = rs}) shape tie = commits j top rs shape.0 tie
  tie_kept (moves.leaves {e = e} {j = j} {i = i} {st = st} h) shape tie = stays (Leaves e j) (Leaves e i) st st tie (λ x. x) (λ x. x) (λ x. x)
  tie_kept (moves.returns_home {e = e} {j = j}) shape tie = returns e j Rests [] tie (λ x. x) (λ last n runs x. x) (λ turned x. x)
  tie_kept (moves.returns {e = e} {j = j} {r = top} {rs = rs}) shape tie = returns e j Works (top ∷ rs) tie (λ x. x) (λ last n runs x. x) (λ turned x. x)
