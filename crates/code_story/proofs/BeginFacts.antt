-- On the way to the work of a run: the steps with interrupts off, and the one that turns them on.
use Rattle.std.specs.Prelude.{ℕ, zero, suc, ◌<◌, ◌≤◌, true, false, List, [], ◌∷◌, Some}
use Rattle.std.specs.List.{cons_option}
use Rattle.std.proofs.Common.{◌≡◌, refl, sym, ap, subst, ◌∙◌, arith, inl, inr}
use Rattle.std.proofs.lemmas.Bool.{both_ways}
use Rattle.efrp_meaning.specs.States.{IsState}
use Rattle.pic_machine.specs.declared.steps.PortWrite.{PortWrite}
use Rattle.pic_machine.specs.Chip.{Chip}
use Rattle.pic_machine.specs.Results.{Done}
use Rattle.pic_machine.specs.Boundary.{Outer, boundary}
use Rattle.pic_machine.proofs.TurnLaws.{with_outer, step_of}
use Rattle.timed_core.specs.Steps.{Run, Phase, Label, at, fresh, voided, is_on}
use Rattle.timed_core.specs.Steps as core
use Rattle.timed_core.specs.Steps.Phase.{Works, Begins, Repeats, Nears, Copies, Leaves}
use Rattle.timed_core.specs.Steps.Label.{Stays, Puts, Turns, Opens, Commits}
use Rattle.timed_core.specs.Promises.{is_boot}
use Rattle.timed_core.specs.Shape.{Shape, Tower}
use Rattle.core_story.specs.Values.{Values}
use Rattle.core_story.specs.Interface.{flag_at}
use Rattle.code_steps.specs.Steps.{own, next}
use Rattle.code_steps.proofs.BetweenLaws.{arrival_alone}
use Rattle.glue_steps.specs.Lines.{did}
use Rattle.glue_steps.specs.Laws.{StillIn}
use Rattle.firmware_parts.specs.Layout.{Part, piece}
use Rattle.firmware_parts.specs.Layout.Part.{Taking, Begin}
use Rattle.firmware_parts.specs.Contexts.{AtLevel}
use Rattle.firmware_parts.specs.Runs.{Leads, AtOn, turns}
use Rattle.code_story.specs.Arranged.{IsPart}
use Rattle.code_story.specs.Code.{Code}
use Rattle.code_story.specs.Laws.{is_window_part}
use Rattle.code_story.specs.Relation.{level_of_top, Working, Lives, InRun, Beginning, Sim}
use Rattle.code_story.proofs.ChipFacts.{no_return_by}
use Rattle.code_story.proofs.ArrangedFacts.{Elsewhere, on_is_elsewhere, above_its_top}
use Rattle.code_story.proofs.KeptFacts.{untouched, past_stays, easy_same, usual_same}
use Rattle.code_story.proofs.GlueFacts.{shown_stays, run_stays, level_stays, run_beneath}
use Rattle.code_story.proofs.ToldFacts.{NextFrom, told_by, shows_plainly, still_shows, running_turn, puts_nothing, by_off}

module _ (f : Code) (r : Run) (rs : List Run) (v : Values) (outer : Outer) (c : Chip) (tower : Tower f.t (r ∷ rs)) (run : InRun f r.event rs v c) where
  abbrev x : Chip
  x = with_outer outer c

  abbrev e : ℕ
  e = r.event

  real : 0 < f.l.level e
  real = run.real

  low : level_of_top f.l rs ≤ f.l.level e
  low = let lower : level_of_top f.l rs < f.l.level e = above_its_top f rs e tower.1 in omega (arith, lower)

  -- A step that is plain, of one of the run's parts, which puts nothing.
  module _ (ph next_phase : Phase) (part : Part) (is_part : IsPart f.l part) (other : is_window_part part ≡ false) (off : is_on ph ≡ false)
      (goes : core.Step f.t (flag_at f.m x.regs) ph Stays (r ∷ rs) (at next_phase (r ∷ rs))) (done : Done)
      (step : StillIn f.l.program (piece f.l part) x done) (rest : List PortWrite) (puts : [] ≡ cons_option done.port rest) where
    pub run_goes_on : Sim f next_phase (r ∷ rs) v done.chip → NextFrom f ph (r ∷ rs) v (step_of outer c (running_turn f.l.program c done.chip done))
    run_goes_on sim = record {
      label = Stays;
      phase = next_phase;
      stack = r ∷ rs;
      values = v;
      goes = goes;
      valued = ((puts_nothing done.port rest puts).0, refl);
      told = told_by f ph (r ∷ rs) Stays outer c done.chip done (still_shows f part ph (r ∷ rs) Stays outer c done is_part other refl off step);
      keeps = sim;
    }

  -- Interrupts are turned on, and the work begins.
  module _ (ph : Phase) (past_boot : is_boot ph ≡ false) (off : is_on ph ≡ false) (goes : core.Step f.t (flag_at f.m x.regs) ph Turns (r ∷ rs) (at Works (fresh f.t e ∷ rs)))
      (shows : f.l.states c.regs.plain ≡ v.state) (long : f.l.is_short e ≡ false) (heard : AtLevel f.l (f.l.level e) c) (ends : AtOn f.l e c) where
    abbrev on : Done
    on = did (turns true) x

    on_is : own f.l.program x ≡ Some on
    on_is = (f.runs e real).turns_on x long ends.there

    at_work : on.chip.pc ≡ f.l.work e
    at_work = ap next ends.there ∙ (f.runs e real).work_next long

    works_there : Working f true false (fresh f.t e) rs v on.chip
    works_there = record {
      on_is = refl;
      due_is = run.glue.none_due;
      past = past_stays f Taking v c on.chip tt refl (untouched f.l Taking c on.chip refl refl refl) run.glue.past;
      shows = shows;
      work = record {
        real = real;
        long = long;
        heard = record { peie = heard.peie; t0ie = heard.t0ie; inte = heard.inte; rbie = heard.rbie; pie1 = heard.pie1; pie2 = heard.pie2 };
        easy = easy_same f.l c on.chip refl ends.easy;
        usual = λ locked. usual_same f.l c on.chip refl refl refl (ends.usual locked);
        void = (f.runs e real).void on.chip long at_work ends.bank;
      };
      beneath = run_beneath f e rs c on.chip real low refl (record { peie = refl; t0ie = refl; inte = refl; pie1 = refl; pie2 = refl }) (record { stack = refl; top = refl; depth = refl }) run.beneath;
    }

    lives_there : Lives f (fresh f.t e) on.chip
    lives_there = record {
      told = λ locked. ends.untold locked;
      never_void = λ unlocked. refl;
      clean = λ is_fresh. (f.t.body e, (f.runs e real).clean on.chip long at_work ends.bank (subst (IsState f.p) (sym shows) run.glue.past.typed));
    }

    run_turns : NextFrom f ph (r ∷ rs) v (boundary f.l.program outer c)
    run_turns = by_off f ph (r ∷ rs) v outer c on run.glue.none_due run.glue.off on_is (record {
      label = Turns;
      phase = Works;
      stack = fresh f.t e ∷ rs;
      values = v;
      goes = goes;
      valued = (refl, refl);
      told = told_by f ph (r ∷ rs) Turns outer c on.chip on (shows_plainly f ph (r ∷ rs) Turns outer c on.chip on refl (subst (Elsewhere f.l) (sym ends.there) (on_is_elsewhere f e real long))
          (no_return_by f.l.program x on on_is refl) (λ source. refl) (λ is_it. absurd (both_ways (is_on ph) off is_it)) f.arranged.writes.intcon_listed);
      keeps = (works_there, lives_there);
    })

  -- From the flag's clearing, and from the lock of void work, to there.
  module _ (ph : ℕ → Phase) (past_boot : (j : ℕ) → is_boot (ph j) ≡ false) (off : (j : ℕ) → is_on (ph j) ≡ false)
      (stays : (i j : ℕ) → i < j → core.Step f.t (flag_at f.m x.regs) (ph j) Stays (r ∷ rs) (at (ph i) (r ∷ rs)))
      (turned : (j : ℕ) → core.Step f.t (flag_at f.m x.regs) (ph j) Turns (r ∷ rs) (at Works (fresh f.t e ∷ rs)))
      (sim : (j : ℕ) (d : Chip) → InRun f e rs v d → Beginning f e j v d → Sim f (ph j) (r ∷ rs) v d) where
    pub beginning : (j : ℕ) → f.l.states c.regs.plain ≡ v.state → f.l.is_short e ≡ false → AtLevel f.l (f.l.level e) c → Leads f.l (Begin e) (AtOn f.l e) [] j c
        → NextFrom f (ph j) (r ∷ rs) v (boundary f.l.program outer c)
    beginning zero shows long heard ends = run_turns (ph zero) (past_boot zero) (off zero) (turned zero) shows long heard ends.1
    beginning (suc k) shows long heard (inl ends) = run_turns (ph (suc k)) (past_boot (suc k)) (off (suc k)) (turned (suc k)) shows long heard ends.1
    beginning (suc k) shows long heard (inr goes) =
        let step = goes x (arrival_alone outer c) in
        by_off f (ph (suc k)) (r ∷ rs) v outer c step.0 run.glue.none_due run.glue.off step.1
        (run_goes_on (ph (suc k)) (ph k) (Begin e) (real, long) refl (off (suc k)) (stays k (suc k) (omega arith)) step.0 step.2 step.3 step.4
        (sim k step.0.chip (run_stays f (Begin e) (real, long) outer c step.0 step.2 e rs v refl refl (λ y its most. most) low run) (record {
          shows = shown_stays f (Begin e) (real, long) outer c step.0 step.2 v refl shows;
          long = long;
          heard = level_stays f (Begin e) (real, long) outer c step.0 step.2 (f.l.level e) refl heard;
          leads = subst (λ bytes. Leads f.l (Begin e) (AtOn f.l e) bytes k step.0.chip) (puts_nothing step.0.port step.3 step.4).1 step.5;
        })))

pub next_repeats : (f : Code) (j : ℕ) (st : List Run) (v : Values) (outer : Outer) (c : Chip) → Shape f.t (Repeats j) st → Sim f (Repeats j) st v c → NextFrom f (Repeats j) st v (boundary f.l.program outer c)
next_repeats f j [] v outer c shape sim = absurd sim
next_repeats f j (r ∷ rs) v outer c shape sim =
    let begins = sim.1 in
    beginning f r rs v outer c shape.1 sim.0 Repeats (λ i. refl) (λ i. refl) (λ i n less. (i, less, refl)) (λ i. refl) (λ i d run its. (run, its)) j begins.shows begins.long begins.heard begins.leads
