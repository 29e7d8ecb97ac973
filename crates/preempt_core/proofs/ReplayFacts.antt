-- What a replay has come to after each of its steps.
use Rattle.std.specs.Prelude.{ℕ, zero, suc, ◌+◌, ◌<◌, ◌≤◌, ◌++◌, nat_lt, Bool, true, false, cond, if◌then◌else◌, List, [], ◌∷◌, length, map, filter, reverse, take, drop, Option, Some, None, option_map}
use Rattle.std.specs.List.{AllByRecursion, concat}
use Rattle.std.proofs.Common.{◌≡◌, refl, sym, ap, subst, ◌∙◌, arith, get_or}
use Rattle.std.proofs.lemmas.List.{append-nil, length-append, length-map, length-reverse, reverse-append, take-append-drop}
use Rattle.std.proofs.Math.Path.{ap₂}
use Rattle.std.proofs.lemmas.List.Elements.{filter-append}
use Rattle.std.proofs.lemmas.List.Folds.{concat-append}
use Rattle.std.proofs.lemmas.List.Sums.{fold-append}
use Rattle.std.proofs.Math.Seq.{take-suc}
use Rattle.frp_tree.specs.declared.syntax.Event.{Event}
use Rattle.frp_tree.specs.Priorities.{IsPriority, HasPriorities}
use Rattle.frp_tree.specs.Tree.{ProgramTree}
use Rattle.efrp_meaning.specs.Meaning.{State, Samples, Reaction, Occurrence, SerialRun, react, initial_state, add_reaction, and_then_on, serial}
use Rattle.efrp_types.specs.Numbers.{event_name}
use Rattle.reaction_model.specs.States.{HasTypes, numbers_of}
use Rattle.preempt_core.specs.declared.steps.Step.{Step}
use Rattle.preempt_core.specs.declared.steps.Step.TheVariants as steps
use Rattle.preempt_core.specs.declared.steps.Done.{Done}
use Rattle.preempt_core.specs.declared.steps.Done.TheVariants as answers
use Rattle.preempt_core.specs.declared.replays.Played.{Played}
use Rattle.preempt_core.specs.Runs.{Told, priority, top_priority, most_urgent, committed_in, start, then_step, step_from, told}
use Rattle.preempt_core.specs.Marks.{Mark, Marked, Answered, mark_is_left, mark_priority, take_marked, top_marked, marked_step, marks_of, last_answer, answered_if}
use Rattle.preempt_core.specs.Serial.{Rising, serial as serial_state}
use Rattle.preempt_core.specs.Standing.{FewEvents, Standing, core_of, answer_of, core_after}
use Rattle.preempt_core.specs.Replays.{event_priorities, is_commit_step, commit_steps, samples_at, state_by, commit_state, told_after, occurrences, IsPlayed, IsFirstRefused, IsOneMore, Follows, CanFollow}
use Rattle.preempt_core.proofs.GoesFacts.{Goes, latches, merges, takes, works, redoes, commits, resumes, goes}
use Rattle.preempt_core.proofs.MarkLaws.{marks_look_back}
use Rattle.preempt_core.proofs.SerialLaws.{always_lawful}

-- The priorities of few events that have priorities are few.
pub few_events : (p : ProgramTree) → length p.events ≤ 11 → HasPriorities p → FewEvents (event_priorities p)
few_events p few have = record { few = let many = length-map p.events (λ (x : Event). x.priority) in omega (arith, few, many); low = λ e below. low p.events e have }
  where
    low : (es : List Event) (e : ℕ) → AllByRecursion (λ (x : Event). IsPriority x.priority) es → priority (map (λ (x : Event). x.priority) es) e ≤ 11
    low [] e all = omega arith
    low (x ∷ xs) zero all = all.0.1
    low (x ∷ xs) (suc e) all = low xs e all.1

-- No more of the first steps are commits than of all.
commits_split : (xs ys : List Step) → commit_steps (xs ++ ys) ≡ commit_steps xs + commit_steps ys
commits_split xs ys = ap length (filter-append is_commit_step xs ys) ∙ length-append (filter is_commit_step xs) (filter is_commit_step ys)

pub first_commits : (k : ℕ) (list : List Step) → commit_steps (take k list) ≤ commit_steps list
first_commits k list =
    let all = ap commit_steps (take-append-drop k list) in
    let parts = commits_split (take k list) (drop k list) in
    omega (arith, all, parts)

-- Each step that is allowed adds an answer.
grows : (priorities : List ℕ) (react : ℕ → List ℕ → ℕ → List ℕ) (t u : Told) → Goes priorities react t u → (d : Done) × (u.answers ≡ d ∷ t.answers)
grows priorities react t u (latches {e = e} clear) = (answers.Latched e, refl)
grows priorities react t u (merges {e = e} set) = (answers.Merged e, refl)
grows priorities react t u (takes {e = e} stands set up) = (answers.Took e, refl)
grows priorities react t u works = (answers.Worked, refl)
grows priorities react t u (redoes {r = r} stands open_run) = (answers.Redone r.event, refl)
grows priorities react t u (commits {r = r} stands open_run clean) = (answers.Committed r.event, refl)
grows priorities react t u (resumes stands closed) = (answers.Resumed, refl)

-- What an event that interrupts has a priority of is one of the events.
has_priority : (priorities : List ℕ) (low e : ℕ) → low < priority priorities e → e < length priorities
has_priority [] low e h = absurd (omega arith)
has_priority (p ∷ ps) low zero h = omega arith
has_priority (p ∷ ps) low (suc e) h = let rest = has_priority ps low e h in omega arith

-- An event that commits is one of the events.
commits_event : (priorities : List ℕ) (react : ℕ → List ℕ → ℕ → List ℕ) (t u : Told) (e : ℕ) → Goes priorities react t u → u.answers ≡ answers.Committed e ∷ t.answers → Rising priorities t.stack → e < length priorities
commits_event priorities react t u e (latches clear) it rising = absurd cc
commits_event priorities react t u e (merges set) it rising = absurd cc
commits_event priorities react t u e (takes stands set up) it rising = absurd cc
commits_event priorities react t u e works it rising = absurd cc
commits_event priorities react t u e (redoes stands open_run) it rising = absurd cc
commits_event priorities react t u e (commits {r = r} {rs = rs} stands open_run clean) it rising =
    let same : r.event ≡ e = cc in subst (λ x. x < length priorities) same (has_priority priorities (top_priority priorities rs) r.event (subst (Rising priorities) stands rising).0)
commits_event priorities react t u e (resumes stands closed) it rising = absurd cc

-- Only the step of a commit commits.
module _ (priorities : List ℕ) (c : Marked) (e : ℕ) where
  abbrev Commits : Option Answered → Type 0
  Commits o = answer_of o ≡ Some (answers.Committed e)

  neither : (b : Bool) (x y : Option Answered) → ¬ Commits x → ¬ Commits y → ¬ Commits (if b then x else y)
  neither true x y no_x no_y = no_x
  neither false x y no_x no_y = no_y

  take_never : (best : Option ℕ) → ¬ Commits (take_marked priorities c best)
  take_never None = λ h. absurd cc
  take_never (Some x) = neither (nat_lt (mark_priority priorities c.runs) (priority priorities x)) _ _ (λ h. absurd cc) (λ h. absurd cc)

  top_never : (s : Step) (runs : List Mark) → is_commit_step s ≡ false → ¬ Commits (top_marked c s runs)
  top_never s [] other = λ h. absurd cc
  top_never steps.Work (m ∷ ms) other = neither m.committed _ _ (λ h. absurd cc) (λ h. absurd cc)
  top_never steps.Redo (m ∷ ms) other = neither m.void _ _ (λ h. absurd cc) (λ h. absurd cc)
  top_never steps.Resume (m ∷ ms) other = neither m.committed _ _ (λ h. absurd cc) (λ h. absurd cc)
  top_never steps.Commit (m ∷ ms) other = absurd cc
  top_never steps.Take (m ∷ ms) other = λ h. absurd cc
  top_never (steps.Arrive x) (m ∷ ms) other = λ h. absurd cc

  only_commits : (s : Step) → Commits (marked_step priorities c s) → is_commit_step s ≡ true
  only_commits steps.Commit h = refl
  only_commits (steps.Arrive x) h = absurd (neither (nat_lt x (length priorities)) _ _ (neither (c.latched x) _ _ (λ h. absurd cc) (λ h. absurd cc)) (λ h. absurd cc) h)
  only_commits steps.Take h = absurd (neither (mark_is_left c.runs) _ _ (λ h. absurd cc) (take_never (most_urgent priorities c.latched (length priorities))) h)
  only_commits steps.Work h = absurd (top_never steps.Work c.runs refl h)
  only_commits steps.Redo h = absurd (top_never steps.Redo c.runs refl h)
  only_commits steps.Resume h = absurd (top_never steps.Resume c.runs refl h)

-- One commit more is one occurrence more.
occurrences_more : (p : ProgramTree) (cs : List ℕ) (samples : List Samples) (e : ℕ) → length cs < length samples
    → occurrences p (cs ++ e ∷ []) samples ≡ occurrences p cs samples ++ record { event = event_name p e; samples = samples_at samples (length cs) } ∷ []
occurrences_more p cs [] e low = absurd (omega arith)
occurrences_more p [] (j ∷ js) e low = refl
occurrences_more p (c ∷ cs) (j ∷ js) e low = ap (λ os. record { event = event_name p c; samples = j } ∷ os) (occurrences_more p cs js e (omega arith))

serial_more : (p : ProgramTree) (os : List Occurrence) (o : Occurrence) (run : SerialRun) (r : Reaction) → serial p os ≡ Some run → react p run.state o.samples o.event ≡ Some r
    → serial p (os ++ o ∷ []) ≡ Some (add_reaction run r)
serial_more p os o run r runs reacts =
    fold-append (and_then_on p) (option_map (λ s. record { state = s; ports = [] }) (initial_state p)) os (o ∷ [])
    ∙ ap (λ before. and_then_on p before o) runs
    ∙ ap (option_map (add_reaction run)) reacts

-- What is known after a list of allowed steps, which have come to t.
pub record Plays (p : ProgramTree) (samples : List Samples) (first : State) (list : List Step) (t : Told) (r : Played) : Type 0 where
  pub allowed : told_after p samples first list ≡ Some t
  pub commits : r.commits ≡ reverse (committed_in t.answers)
  pub reads : numbers_of r.state.values ≡ serial_state (commit_state p samples) first t.answers
  pub run : SerialRun
  pub runs : serial p (occurrences p r.commits samples) ≡ Some run
  pub state : numbers_of r.state.values ≡ run.state
  pub ports : r.ports ≡ concat run.ports
  pub few : length r.commits ≤ commit_steps list

-- And the core as code stands for it.
pub record Stands (p : ProgramTree) (samples : List Samples) (list : List Step) (core : Standing) (r : Played) : Type 0 where
  pub first : State
  pub initial : initial_state p ≡ Some first
  pub core_told : Told
  pub plays : Plays p samples first list core_told r
  pub types : HasTypes p r.state.values
  pub marks : core_of core ≡ marks_of core_told
  pub priorities : core.priorities ≡ event_priorities p

module _ (p : ProgramTree) (samples : List Samples) where
  -- Before the first step.
  pub begins : (core : Standing) (r : Played) → initial_state p ≡ Some (numbers_of r.state.values) → HasTypes p r.state.values → r.commits ≡ [] → r.ports ≡ []
      → core_of core ≡ marks_of (start (numbers_of r.state.values)) → core.priorities ≡ event_priorities p → Stands p samples [] core r
  begins core r initial types none_yet no_ports marks same =
      record {
        first = numbers_of r.state.values;
        initial = initial;
        core_told = start (numbers_of r.state.values);
        plays = record {
          allowed = refl;
          commits = none_yet;
          reads = refl;
          run = record { state = numbers_of r.state.values; ports = [] };
          runs = ap (λ cs. serial p (occurrences p cs samples)) none_yet ∙ ap (option_map (λ s. record { state = s; ports = [] })) initial;
          state = refl;
          ports = no_ports;
          few = let none = ap length none_yet in omega (arith, none);
        };
        types = types;
        marks = marks;
        priorities = same;
      }

  -- The end.
  pub is_played : (list : List Step) (core : Standing) (r : Played) → Stands p samples list core r → IsPlayed p list samples r
  is_played list core r k =
      record {
        first = k.first;
        initial = k.initial;
        core = k.core_told;
        allowed = k.plays.allowed;
        commits = k.plays.commits;
        reads = k.plays.reads ∙ sym (always_lawful (event_priorities p) (commit_state p samples) k.first (reverse list) k.core_told k.plays.allowed).is_serial;
        run = k.plays.run;
        runs = k.plays.runs;
        state = k.plays.state;
        ports = k.plays.ports;
        types = k.types;
      }

  abbrev priorities_in : List ℕ
  priorities_in = event_priorities p

  abbrev react_in : ℕ → State → ℕ → State
  react_in = commit_state p samples

  -- A list with one step more, the last.
  one_more_told : (first : State) (list : List Step) (s : Step) (t : Told) → told_after p samples first list ≡ Some t → told_after p samples first (list ++ s ∷ []) ≡ step_from priorities_in react_in t s
  one_more_told first list s t allowed = ap (told priorities_in react_in first) (reverse-append list (s ∷ [])) ∙ ap (λ o. then_step priorities_in react_in o s) allowed

  -- What the list with the step has come to, by what the step answers.
  abbrev pub Comes : State → List Step → Step → Standing → Told → Option Done → Type 0
  Comes first list s after t None = told_after p samples first (list ++ s ∷ []) ≡ None
  Comes first list s after t (Some d) =
      (u : Told) × (told_after p samples first (list ++ s ∷ []) ≡ Some u) × (u.answers ≡ d ∷ t.answers) × Goes priorities_in react_in t u × (core_of after ≡ marks_of u)

  pub comes : (list : List Step) (s : Step) (core after : Standing) (r : Played) (k : Stands p samples list core r) (d : Option Done) → d ≡ answer_of (marked_step core.priorities (core_of core) s)
      → core_of after ≡ core_after (core_of core) (marked_step core.priorities (core_of core) s) → Comes k.first list s after k.core_told d
  comes list s core after r k d is left =
      by (step_from priorities_in react_in t s) refl (is ∙ ap answer_of look) (left ∙ ap (core_after (core_of core)) look)
    where
      t : Told
      t = k.core_told

      look : marked_step core.priorities (core_of core) s ≡ answered_if (step_from priorities_in react_in k.core_told s)
      look =
          ap₂ (λ ps c. marked_step ps c s) k.priorities k.marks
          ∙ marks_look_back priorities_in react_in k.first (reverse list) k.core_told s k.plays.allowed
          ∙ ap (λ o. answered_if (then_step priorities_in react_in o s)) k.plays.allowed

      by : (o : Option Told) → step_from priorities_in react_in k.core_told s ≡ o → d ≡ answer_of (answered_if o) → core_of after ≡ core_after (core_of core) (answered_if o) → Comes k.first list s after k.core_told d
      by None it is' left' = subst (Comes k.first list s after k.core_told) (sym is') (one_more_told k.first list s k.core_told k.plays.allowed ∙ it)
      by (Some u) it is' left' =
          let g = goes priorities_in react_in k.core_told s u it in
          let grown = grows priorities_in react_in k.core_told u g in
          let ans = ap (λ ds. last_answer ds (marks_of u)) grown.1 in
          subst (Comes k.first list s after k.core_told) (sym (is' ∙ ap answer_of ans))
          (u, one_more_told k.first list s k.core_told k.plays.allowed ∙ it, grown.1, g, left' ∙ ap (core_after (core_of core)) ans)

  -- A commit has samples, where there are as many as commits, and its event is one of the program's.
  pub can_follow : (list : List Step) (s : Step) (core after : Standing) (r : Played) (k : Stands p samples list core r) (d : Done) → Some d ≡ answer_of (marked_step core.priorities (core_of core) s)
      → Comes k.first list s after k.core_told (Some d) → commit_steps (list ++ s ∷ []) ≤ length samples → CanFollow p samples d r
  can_follow list s core after r k (answers.Committed e) is (u, is_told, grown, g, left) enough =
      let few = k.plays.few in
      let parts = commits_split list (s ∷ []) in
      let one = ap (λ b. length (cond b (s ∷ []) [])) (only_commits core.priorities (core_of core) e s (sym is)) in
      let lawful = always_lawful priorities_in react_in k.first (reverse list) k.core_told k.plays.allowed in
      (omega (arith, few, parts, one, enough), subst (λ n. e < n) (length-map p.events (λ (x : Event). x.priority)) (commits_event priorities_in react_in k.core_told u e g grown lawful.rising))
  can_follow list s core after r k (answers.Latched e) is come enough = tt
  can_follow list s core after r k (answers.Merged e) is come enough = tt
  can_follow list s core after r k (answers.Took e) is come enough = tt
  can_follow list s core after r k answers.Worked is come enough = tt
  can_follow list s core after r k (answers.Redone e) is come enough = tt
  can_follow list s core after r k answers.Resumed is come enough = tt

  module _ (first : State) (list : List Step) (s : Step) (t u : Told) (is_told : told_after p samples first (list ++ s ∷ []) ≡ Some u) (r after : Played) (plays : Plays p samples first list t r) where
    -- An answer that isn't a commit leaves all as it was.
    unchanged : after ≡ r → committed_in u.answers ≡ committed_in t.answers → serial_state react_in first u.answers ≡ serial_state react_in first t.answers → Plays p samples first (list ++ s ∷ []) u after
    unchanged same commits_same reads_same =
        subst (Plays p samples first (list ++ s ∷ []) u) (sym same)
        (record {
          allowed = is_told;
          commits = plays.commits ∙ ap reverse (sym commits_same);
          reads = plays.reads ∙ sym reads_same;
          run = plays.run;
          runs = plays.runs;
          state = plays.state;
          ports = plays.ports;
          few = let few = plays.few in let parts = commits_split list (s ∷ []) in omega (arith, few, parts);
        })

    -- A commit adds a reaction.
    one_more : (e : ℕ) → u.answers ≡ answers.Committed e ∷ t.answers → is_commit_step s ≡ true → length r.commits < length samples → IsOneMore p samples e r after → Plays p samples first (list ++ s ∷ []) u after
    one_more e grown commit low o =
        record {
          allowed = is_told;
          commits = o.commits ∙ ap (λ cs. cs ++ e ∷ []) plays.commits ∙ sym (ap reverse (ap committed_in grown) ∙ reverse-append (e ∷ []) (committed_in t.answers));
          reads = sym (ap (serial_state react_in first) grown ∙ ap₂ (λ k st. react_in k st e) (sym many) (sym plays.reads) ∙ ap state_by o.reacts);
          run = add_reaction plays.run reaction;
          runs = ap (λ cs. serial p (occurrences p cs samples)) o.commits ∙ ap (serial p) (occurrences_more p r.commits samples e low)
              ∙ serial_more p (occurrences p r.commits samples) occurrence plays.run reaction plays.runs (ap (λ st. react p st occurrence.samples occurrence.event) (sym plays.state) ∙ o.reacts);
          state = refl;
          ports = o.puts ∙ ap (λ ps. ps ++ o.ports) plays.ports ∙ sym (concat-append plays.run.ports (o.ports ∷ []) ∙ ap (λ ps. concat plays.run.ports ++ ps) (append-nil o.ports));
          few =
              let few = plays.few in
              let longer = ap length o.commits ∙ length-append r.commits (e ∷ []) in
              let parts = commits_split list (s ∷ []) in
              let one = ap (λ b. length (cond b (s ∷ []) [])) commit in
              omega (arith, few, longer, parts, one);
        }
      where
        reaction : Reaction
        reaction = record { state = numbers_of after.state.values; ports = o.ports }

        occurrence : Occurrence
        occurrence = record { event = event_name p e; samples = samples_at samples (length r.commits) }

        many : length r.commits ≡ length (committed_in t.answers)
        many = ap length plays.commits ∙ length-reverse (committed_in t.answers)

    -- Whatever the answer is, what followed has come to what the list with the step has.
    goes_on : (d : Done) → u.answers ≡ d ∷ t.answers → ((e : ℕ) → d ≡ answers.Committed e → is_commit_step s ≡ true) → CanFollow p samples d r → Follows p samples d r after → HasTypes p r.state.values
        → Plays p samples first (list ++ s ∷ []) u after × HasTypes p after.state.values
    goes_on (answers.Committed e) grown only can o types = (one_more e grown (only e refl) can.0 o, o.types)
    goes_on (answers.Latched e) grown only can same types = (unchanged same (ap committed_in grown) (ap (serial_state react_in first) grown), subst (λ (x : Played). HasTypes p x.state.values) (sym same) types)
    goes_on (answers.Merged e) grown only can same types = (unchanged same (ap committed_in grown) (ap (serial_state react_in first) grown), subst (λ (x : Played). HasTypes p x.state.values) (sym same) types)
    goes_on (answers.Took e) grown only can same types = (unchanged same (ap committed_in grown) (ap (serial_state react_in first) grown), subst (λ (x : Played). HasTypes p x.state.values) (sym same) types)
    goes_on answers.Worked grown only can same types = (unchanged same (ap committed_in grown) (ap (serial_state react_in first) grown), subst (λ (x : Played). HasTypes p x.state.values) (sym same) types)
    goes_on (answers.Redone e) grown only can same types = (unchanged same (ap committed_in grown) (ap (serial_state react_in first) grown), subst (λ (x : Played). HasTypes p x.state.values) (sym same) types)
    goes_on answers.Resumed grown only can same types = (unchanged same (ap committed_in grown) (ap (serial_state react_in first) grown), subst (λ (x : Played). HasTypes p x.state.values) (sym same) types)

  -- The core and what was played stand for the list with the step.
  pub still_stands : (list : List Step) (s : Step) (core after : Standing) (r next : Played) (k : Stands p samples list core r) (d : Done) → Some d ≡ answer_of (marked_step core.priorities (core_of core) s)
      → Comes k.first list s after k.core_told (Some d) → after.priorities ≡ core.priorities → CanFollow p samples d r → Follows p samples d r next → Stands p samples (list ++ s ∷ []) after next
  still_stands list s core after r next k d is (u, is_told, grown, g, left) same can follows =
      let on = goes_on k.first list s k.core_told u is_told r next k.plays d grown (λ e its. only_commits core.priorities (core_of core) e s (sym is ∙ ap Some its)) can follows k.types in
      record { first = k.first; initial = k.initial; core_told = u; plays = on.0; types = on.1; marks = left; priorities = same ∙ k.priorities }

  -- A step that isn't allowed is the first such.
  pub is_first_refused : (list : List Step) (n : ℕ) (d : Step) (core after : Standing) (r : Played) (k : Stands p samples (take n list) core r) → n < length list
      → Comes k.first (take n list) (get_or list n d) after k.core_told None → IsFirstRefused p list samples n
  is_first_refused list n d core after r k within refused =
      record { first = k.first; initial = k.initial; within = within; core = k.core_told; allowed = k.plays.allowed; refused = ap (told_after p samples k.first) (take-suc list n d within) ∙ refused }
