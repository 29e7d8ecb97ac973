-- The window of a run: its copies, and its commit.
use Rattle.std.specs.Prelude.{ℕ, zero, suc, ◌%◌, ◌<◌, ◌≤◌, ◌==◌, ◌⊎◌, false, List, [], ◌∷◌, ◌++◌, length, Option, Some, None}
use Rattle.std.specs.List.{cons_option}
use Rattle.std.proofs.Common.{◌≡◌, refl, sym, ap, subst, ◌∙◌, arith, inl, inr, ne_eqb, eq-eqb}
use Rattle.std.proofs.Math.Bool.{and-true}
use Rattle.std.proofs.lemmas.Bool.{both_ways, cases_eq}
use Rattle.std.proofs.lemmas.List.{length-map}
use Rattle.efrp_meaning.specs.States.{IsState}
use Rattle.pic_regs.specs.Registers.{flag}
use Rattle.pic_machine.specs.declared.steps.PortWrite.{PortWrite}
use Rattle.pic_machine.specs.Chip.{Chip}
use Rattle.pic_machine.specs.Results.{Done}
use Rattle.pic_machine.specs.Boundary.{Outer, boundary}
use Rattle.pic_machine.proofs.TurnLaws.{with_outer, step_of}
use Rattle.firmware_promises.specs.Counts.{put_by}
use Rattle.timed_core.specs.Steps.{Run, voided}
use Rattle.timed_core.specs.Steps.Phase.{Copies, Leaves}
use Rattle.timed_core.specs.Steps.Label.{Stays, Puts, Commits}
use Rattle.timed_core.specs.Shape.{Shape, Tower}
use Rattle.core_story.specs.Values.{Values}
use Rattle.code_steps.specs.Steps.{next}
use Rattle.code_steps.proofs.BetweenLaws.{arrival_alone}
use Rattle.glue_steps.specs.Laws.{StillIn}
use Rattle.glue_steps.proofs.StillLaws.{still_flags}
use Rattle.firmware_parts.specs.Layout.{piece}
use Rattle.firmware_parts.specs.Layout.Part.{Open, Copying, Commit}
use Rattle.firmware_parts.specs.Runs.{Leads, AtCommit, Committed}
use Rattle.code_story.specs.Code.{Code}
use Rattle.code_story.specs.Relation.{level_of_top, Over, Paused, InRun, InWindow, Leaving, Sim}
use Rattle.code_story.proofs.ArrangedFacts.{above_its_top}
use Rattle.code_story.proofs.KeptFacts.{page_stays}
use Rattle.code_story.proofs.GlueFacts.{run_stays, run_values}
use Rattle.code_story.proofs.ToldFacts.{NextFrom, Shows, told_by, still_shows, listed_by, running_turn, puts_last, by_off}

-- A commit makes the runs beneath void, and changes nothing else of them.
over_voided : (f : Code) (st : List Run) (x c : Chip) → Over f.l st x c → Over f.l (voided st) x c
over_voided f st x c over =
    let same : length (voided st) ≡ length st = length-map st _ in
    record {
      place = ap c.stack same ∙ over.place;
      beneath = λ i less. over.beneath i (omega (arith, less, same));
      top = over.top ∙ ap (λ n. suc n % 8) (sym same);
      depth = omega (arith, over.depth, same);
      frames = λ e address real low its. over.frames e address real (omega (arith, low, same_level st)) its;
    }
  where
    same_level : (st : List Run) → level_of_top f.l (voided st) ≡ level_of_top f.l st
    same_level [] = refl
    same_level (r ∷ rs) = refl

paused_voided : (f : Code) (st : List Run) (x : Chip) → Paused f.t f.l st x → Paused f.t f.l (voided st) x
paused_voided f [] x paused = paused
paused_voided f (r ∷ rs) x paused =
    let work = paused.0 in
    let beneath = paused.2 in (
      record { real = work.real; long = work.long; heard = work.heard; easy = work.easy; usual = work.usual; void = work.void },
      paused.1,
      record {
        chip = beneath.chip;
        saved = beneath.saved;
        over = over_voided f rs beneath.chip x beneath.over;
        paused = paused_voided f rs beneath.chip beneath.paused;
      },
    )

module _ (f : Code) (r : Run) (rs : List Run) (v : Values) (outer : Outer) (c : Chip) (tower : Tower f.t (r ∷ rs)) (run : InRun f r.event rs v c) where
  abbrev x : Chip
  x = with_outer outer c

  abbrev e : ℕ
  e = r.event

  real : 0 < f.l.level e
  real = run.real

  low : level_of_top f.l rs ≤ f.l.level e
  low = let lower : level_of_top f.l rs < f.l.level e = above_its_top f rs e tower.1 in omega (arith, lower)

  -- In the window.
  module _ (k : ℕ) (window : InWindow f e (suc k) v c) (done : Done) (step : StillIn f.l.program (piece f.l (Copying e)) x done) (rest : List PortWrite)
      (leads : Leads f.l (Copying e) (AtCommit f.l e window.chip window.late) rest k done.chip) where
    window_on : (w : Values) → w.next ≡ v.next → w.left ≡ rest ++ window.late → InWindow f e k w done.chip
    window_on w next left = record {
      chip = window.chip;
      early = rest;
      late = window.late;
      left = left;
      next = next ∙ window.next;
      typed = subst (IsState f.p) (sym next) window.typed;
      easy = page_stays f (Copying e) real outer c done step refl window.easy;
      leads = leads;
    }

    run_on : InRun f e rs v done.chip
    run_on = run_stays f (Copying e) real outer c done step e rs v refl refl (λ y its most. most) low run

    copies_on : (o : Option PortWrite) → done.port ≡ o → window.early ≡ cons_option o rest → NextFrom f (Copies (suc k)) (r ∷ rs) v (step_of outer c (running_turn f.l.program c done.chip done))
    copies_on None none puts = record {
      label = Stays;
      phase = Copies k;
      stack = r ∷ rs;
      values = v;
      goes = (k, omega arith, refl);
      valued = (ap put_by none, refl);
      told = told_by f (Copies (suc k)) (r ∷ rs) Stays outer c done.chip done (still_shows f (Copying e) (Copies (suc k)) (r ∷ rs) Stays outer c done real refl refl refl step);
      keeps = (run_on, window_on v refl (window.left ∙ ap (λ bytes. bytes ++ window.late) puts));
    }
    copies_on (Some write) put puts = record {
      label = Puts;
      phase = Copies k;
      stack = r ∷ rs;
      values = record v { left = rest ++ window.late };
      goes = (k, omega arith, refl);
      valued = (write, ap put_by put, window.left ∙ ap (λ bytes. bytes ++ window.late) puts, refl, refl);
      told = told_by f (Copies (suc k)) (r ∷ rs) Puts outer c done.chip done (still_shows f (Copying e) (Copies (suc k)) (r ∷ rs) Puts outer c done real refl refl refl step);
      keeps = (run_values f e rs v (record v { left = rest ++ window.late }) done.chip refl run_on, window_on (record v { left = rest ++ window.late }) refl refl);
    }

  -- The commit.
  module _ (j : ℕ) (window : InWindow f e j v c) (none_left : window.early ≡ []) (ends : AtCommit f.l e window.chip window.late c)
      (done : Done) (step : StillIn f.l.program (piece f.l (Commit e)) x done) (committed : Committed f.l e window.chip window.late x done) where
    abbrev after : Values
    after = record { state = v.next; next = v.next; left = [] }

    run_left : InRun f e rs v done.chip
    run_left = run_stays f (Commit e) real outer c done step e rs v refl refl (λ y its most. most) low run

    leaving : Leaving f e f.t.exiting (voided rs) after done.chip
    leaving =
        let glue = run_left.glue in
        let beneath = run_left.beneath in
        record {
          glue = record { none_due = glue.none_due; off = glue.off; past = record { rbie = glue.past.rbie; set_up = glue.past.set_up; typed = window.typed } };
          real = real;
          shows = committed.states ∙ sym window.next;
          told = committed.told;
          chip = beneath.chip;
          over = over_voided f rs beneath.chip done.chip beneath.over;
          paused = paused_voided f rs beneath.chip beneath.paused;
          leads = (f.runs e real).exits beneath.chip done.chip committed.there glue.off (page_stays f (Commit e) real outer c done step refl window.easy) beneath.saved committed.bank;
        }

    commits_it : (y : ℕ) → 0 < f.l.level y → (c.pc == f.l.commits y) ≡ (y == e)
    commits_it y its = by (cases_eq y e)
      where
        its_number : Commit e ≡ Commit y → y ≡ e
        its_number same = (cc)

        by : (y ≡ e) ⊎ (y ≡ e → ⊥) → (c.pc == f.l.commits y) ≡ (y == e)
        by (inl same) = eq-eqb c.pc (f.l.commits y) (ends.there ∙ ap f.l.commits (sym same)) ∙ sym (eq-eqb y e same)
        by (inr differ) =
            ne_eqb c.pc (f.l.commits y) (λ same. differ (its_number ((f.arranged.places.commits y its).only (Commit e) real (ap (f.l.inside (Commit e)) (sym same) ∙ step.inside))))
            ∙ sym (ne_eqb y e differ)

    opens_none : (y : ℕ) → 0 < f.l.level y → (c.pc == f.l.opens y) ≡ false
    opens_none y its = ne_eqb c.pc (f.l.opens y) (λ same. clash ((f.arranged.places.opens y its).only (Commit e) real (ap (f.l.inside (Commit e)) (sym same) ∙ step.inside)))
      where
        clash : Commit e ≡ Open y → ⊥
        clash same = (cc)

    commit_shows : Shows f.m f.l (Copies j) (r ∷ rs) (Commits e) outer c done.chip done
    commit_shows = record {
      taking = refl;
      returned = step.no_return;
      opened = opens_none;
      committed = commits_it;
      flags = λ y its. still_flags f.l.program _ _ x done step (f.l.source y) ∙ sym (and-true (flag (f.l.source y) x.regs));
      heard = λ is_it. absurd (both_ways false refl is_it);
      kept = λ boot. absurd (both_ways false refl boot);
      listed = listed_by f (Commit e) done.wrote real step.wrote;
    }

    run_commits : NextFrom f (Copies j) (r ∷ rs) v (step_of outer c (running_turn f.l.program c done.chip done))
    run_commits = record {
      label = Commits e;
      phase = Leaves e f.t.exiting;
      stack = voided rs;
      values = after;
      goes = (refl, refl);
      valued = (puts_last done.port ∙ committed.puts ∙ sym (window.left ∙ ap (λ bytes. bytes ++ window.late) none_left), refl);
      told = told_by f (Copies j) (r ∷ rs) (Commits e) outer c done.chip done commit_shows;
      keeps = leaving;
    }

  commits_there : (j : ℕ) (window : InWindow f e j v c) → window.early ≡ [] → AtCommit f.l e window.chip window.late c → NextFrom f (Copies j) (r ∷ rs) v (boundary f.l.program outer c)
  commits_there j window none_left ends =
      let step = ends.runs x (arrival_alone outer c) in
      by_off f (Copies j) (r ∷ rs) v outer c step.0 run.glue.none_due run.glue.off step.1 (run_commits j window none_left ends step.0 step.2 step.3)

  copying : (j : ℕ) (window : InWindow f e j v c) → Leads f.l (Copying e) (AtCommit f.l e window.chip window.late) window.early j c → NextFrom f (Copies j) (r ∷ rs) v (boundary f.l.program outer c)
  copying zero window ends = commits_there zero window ends.0 ends.1
  copying (suc k) window (inl ends) = commits_there (suc k) window ends.0 ends.1
  copying (suc k) window (inr goes) =
      let step = goes x (arrival_alone outer c) in
      by_off f (Copies (suc k)) (r ∷ rs) v outer c step.0 run.glue.none_due run.glue.off step.1 (copies_on k window step.0 step.2 step.3 step.5 step.0.port refl step.4)

pub next_copies : (f : Code) (j : ℕ) (st : List Run) (v : Values) (outer : Outer) (c : Chip) → Shape f.t (Copies j) st → Sim f (Copies j) st v c → NextFrom f (Copies j) st v (boundary f.l.program outer c)
next_copies f j [] v outer c shape sim = absurd sim
next_copies f j (r ∷ rs) v outer c shape sim = let window = sim.1 in copying f r rs v outer c shape.1 sim.0 j window window.leads
