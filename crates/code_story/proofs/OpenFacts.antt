-- The open of a run, and the way to it from the lock.
use Rattle.std.specs.Prelude.{ℕ, zero, suc, ◌<◌, ◌≤◌, ◌==◌, ◌⊎◌, true, false, List, [], ◌∷◌, Some}
use Rattle.std.proofs.Common.{◌≡◌, refl, sym, ap, subst, ◌∙◌, arith, inl, inr, ne_eqb, eq-eqb}
use Rattle.std.proofs.Math.Bool.{and-true}
use Rattle.std.proofs.lemmas.Bool.{both_ways, cases_eq}
use Rattle.efrp_meaning.specs.Meaning.{react}
use Rattle.pic_regs.specs.Registers.{flag}
use Rattle.pic_machine.specs.Chip.{Chip}
use Rattle.pic_machine.specs.Results.{Done}
use Rattle.pic_machine.specs.Boundary.{Outer, boundary}
use Rattle.pic_machine.proofs.TurnLaws.{with_outer, step_of}
use Rattle.firmware_promises.specs.Counts.{put_by}
use Rattle.firmware_promises.specs.Follows.{reaction_puts}
use Rattle.timed_core.specs.Steps.{Run, Phase, Label, at, fresh, voided, is_on}
use Rattle.timed_core.specs.Steps as core
use Rattle.timed_core.specs.Steps.Phase.{Works, Begins, Repeats, Nears, Copies, Leaves}
use Rattle.timed_core.specs.Steps.Label.{Stays, Puts, Turns, Opens, Commits}
use Rattle.timed_core.specs.Promises.{is_boot}
use Rattle.timed_core.specs.Shape.{Shape, Tower}
use Rattle.core_story.specs.Values.{Values, name_at}
use Rattle.core_story.specs.Interface.{flag_at}
use Rattle.code_steps.proofs.BetweenLaws.{arrival_alone}
use Rattle.glue_steps.specs.Laws.{StillIn}
use Rattle.glue_steps.proofs.StillLaws.{still_flags}
use Rattle.firmware_parts.specs.Layout.{piece}
use Rattle.firmware_parts.specs.Layout.Part.{Lock, Open, Commit}
use Rattle.firmware_parts.specs.Runs.{Leads, AtOpen, Opened, Reacts}
use Rattle.code_story.specs.Code.{Code}
use Rattle.code_story.specs.Relation.{level_of_top, InRun, Beginning, ShortAtOpen, InWindow, Sim}
use Rattle.code_story.proofs.ArrangedFacts.{above_its_top, highest}
use Rattle.code_story.proofs.KeptFacts.{page_stays, reacts_stay}
use Rattle.code_story.proofs.GlueFacts.{its_touches, shown_stays, run_stays, run_values}
use Rattle.code_story.proofs.ToldFacts.{NextFrom, Shows, told_by, listed_by, running_turn, puts_nothing, by_off}
use Rattle.code_story.proofs.BeginFacts.{run_goes_on, beginning}

module _ (f : Code) (r : Run) (rs : List Run) (v : Values) (outer : Outer) (c : Chip) (tower : Tower f.t (r ∷ rs)) (run : InRun f r.event rs v c) where
  abbrev x : Chip
  x = with_outer outer c

  abbrev e : ℕ
  e = r.event

  real : 0 < f.l.level e
  real = run.real

  low : level_of_top f.l rs ≤ f.l.level e
  low = let lower : level_of_top f.l rs < f.l.level e = above_its_top f rs e tower.1 in omega (arith, lower)

  -- The open.
  module _ (ph : Phase) (past_boot : is_boot ph ≡ false) (off : is_on ph ≡ false) (goes : core.Step f.t (flag_at f.m x.regs) ph (Opens e) (r ∷ rs) (at (Copies f.t.copying) (r ∷ rs)))
      (shows : f.l.states c.regs.plain ≡ v.state) (reacts : Reacts f.p f.m f.l e c.regs.plain) (ends : AtOpen f.l e c)
      (done : Done) (step : StillIn f.l.program (piece f.l (Open e)) x done) (opened : Opened f.l e f.t.copying c x done) where
    abbrev opening : Values
    opening = record { state = v.state; next = reacts.reaction.state; left = reaction_puts f.p reacts.reaction.ports }

    reacted : react f.p v.state [] (name_at f.m e) ≡ Some reacts.reaction
    reacted = subst (λ s. react f.p s [] (name_at f.m e) ≡ Some reacts.reaction) shows reacts.defined

    window_there : InWindow f e f.t.copying opening done.chip
    window_there = record {
      chip = c;
      early = opened.early;
      late = opened.late;
      left = sym reacts.puts ∙ opened.puts;
      next = sym reacts.next;
      typed = f.arranged.states.reacts e v.state reacts.reaction real run.glue.past.typed reacted;
      easy = page_stays f (Open e) real outer c done step refl ends.easy;
      leads = opened.copies;
    }

    opens_it : (y : ℕ) → 0 < f.l.level y → (c.pc == f.l.opens y) ≡ (y == e)
    opens_it y its = by (cases_eq y e)
      where
        inside : c.pc ≡ f.l.opens y → f.l.inside (Open e) (f.l.opens y) ≡ true
        inside same = ap (f.l.inside (Open e)) (sym same) ∙ step.inside

        its_number : Open e ≡ Open y → y ≡ e
        its_number same = (cc)

        by : (y ≡ e) ⊎ (y ≡ e → ⊥) → (c.pc == f.l.opens y) ≡ (y == e)
        by (inl same) = eq-eqb c.pc (f.l.opens y) (ends.there ∙ ap f.l.opens (sym same)) ∙ sym (eq-eqb y e same)
        by (inr differ) = ne_eqb c.pc (f.l.opens y) (λ same. differ (its_number ((f.arranged.places.opens y its).only (Open e) real (inside same)))) ∙ sym (ne_eqb y e differ)

    commits_none : (y : ℕ) → 0 < f.l.level y → (c.pc == f.l.commits y) ≡ false
    commits_none y its = ne_eqb c.pc (f.l.commits y) (λ same. clash ((f.arranged.places.commits y its).only (Open e) real (ap (f.l.inside (Open e)) (sym same) ∙ step.inside)))
      where
        clash : Open e ≡ Commit y → ⊥
        clash same = (cc)

    open_shows : Shows f.m f.l ph (r ∷ rs) (Opens e) outer c done.chip done
    open_shows = record {
      taking = refl;
      returned = step.no_return;
      opened = opens_it;
      committed = commits_none;
      flags = λ y its. still_flags f.l.program _ _ x done step (f.l.source y) ∙ sym (and-true (flag (f.l.source y) x.regs));
      heard = λ is_it. absurd (both_ways (is_on ph) off is_it);
      kept = λ boot. absurd (both_ways (is_boot ph) past_boot boot);
      listed = listed_by f (Open e) done.wrote real step.wrote;
    }

    run_opens : NextFrom f ph (r ∷ rs) v (step_of outer c (running_turn f.l.program c done.chip done))
    run_opens = record {
      label = Opens e;
      phase = Copies f.t.copying;
      stack = r ∷ rs;
      values = opening;
      goes = goes;
      valued = (ap put_by opened.port, reacts.reaction, reacted, refl);
      told = told_by f ph (r ∷ rs) (Opens e) outer c done.chip done open_shows;
      keeps = (run_values f e rs v opening done.chip refl (run_stays f (Open e) real outer c done step e rs v refl refl (λ y its most. most) low run), window_there);
    }

  opens_there : (ph : Phase) → is_boot ph ≡ false → is_on ph ≡ false → core.Step f.t (flag_at f.m x.regs) ph (Opens e) (r ∷ rs) (at (Copies f.t.copying) (r ∷ rs))
      → f.l.states c.regs.plain ≡ v.state → Reacts f.p f.m f.l e c.regs.plain → AtOpen f.l e c → NextFrom f ph (r ∷ rs) v (boundary f.l.program outer c)
  opens_there ph past_boot off goes shows reacts ends =
      let step = (f.runs e real).window c ends x (arrival_alone outer c) in
      by_off f ph (r ∷ rs) v outer c step.0 run.glue.none_due run.glue.off step.1 (run_opens ph past_boot off goes shows reacts ends step.0 step.2 step.3)

  -- From the lock to the open.
  nearing : (j : ℕ) → f.l.states c.regs.plain ≡ v.state → f.l.is_short e ≡ false → Reacts f.p f.m f.l e c.regs.plain → Leads f.l (Lock e) (AtOpen f.l e) [] j c
      → NextFrom f (Nears j) (r ∷ rs) v (boundary f.l.program outer c)
  nearing zero shows long reacts ends = opens_there (Nears zero) refl refl (refl, refl) shows reacts ends.1
  nearing (suc k) shows long reacts (inl ends) = opens_there (Nears (suc k)) refl refl (refl, refl) shows reacts ends.1
  nearing (suc k) shows long reacts (inr goes) =
      let step = goes x (arrival_alone outer c) in
      by_off f (Nears (suc k)) (r ∷ rs) v outer c step.0 run.glue.none_due run.glue.off step.1
      (run_goes_on f r rs v outer c tower run (Nears (suc k)) (Nears k) (Lock e) (real, long) refl refl (k, omega arith, refl) step.0 step.2 step.3 step.4 (
        run_stays f (Lock e) (real, long) outer c step.0 step.2 e rs v refl refl (λ y its most. most) low run,
        record {
          shows = shown_stays f (Lock e) (real, long) outer c step.0 step.2 v refl shows;
          long = long;
          reacts = reacts_stay f e c step.0.chip (real, long) (its_touches f (Lock e) (real, long) outer c step.0 step.2) reacts;
          leads = subst (λ bytes. Leads f.l (Lock e) (AtOpen f.l e) bytes k step.0.chip) (puts_nothing step.0.port step.3 step.4).1 step.5;
        },
      ))

pub next_begins : (f : Code) (j : ℕ) (st : List Run) (v : Values) (outer : Outer) (c : Chip) → Shape f.t (Begins j) st → Sim f (Begins j) st v c → NextFrom f (Begins j) st v (boundary f.l.program outer c)
next_begins f j [] v outer c shape sim = absurd sim
next_begins f j (r ∷ rs) v outer c shape sim = by sim.1
  where
    by : Beginning f r.event j v c ⊎ ShortAtOpen f r.event v c → NextFrom f (Begins j) (r ∷ rs) v (boundary f.l.program outer c)
    by (inl begins) = beginning f r rs v outer c shape.1 sim.0 Begins (λ i. refl) (λ i. refl) (λ i n less. (i, less, refl)) (λ i. refl) (λ i d run its. (run, inl its)) j
        begins.shows begins.long begins.heard begins.leads
    by (inr at_open) =
        let short = f.arranged.levels.short r.event sim.0.real at_open.is_short in
        opens_there f r rs v outer c shape.1 sim.0 (Begins j) refl refl (refl, short.0, highest f r.event short.1, refl) at_open.shows at_open.reacts at_open.at_open

pub next_nears : (f : Code) (j : ℕ) (st : List Run) (v : Values) (outer : Outer) (c : Chip) → Shape f.t (Nears j) st → Sim f (Nears j) st v c → NextFrom f (Nears j) st v (boundary f.l.program outer c)
next_nears f j [] v outer c shape sim = absurd sim
next_nears f j (r ∷ rs) v outer c shape sim = let nears = sim.1 in nearing f r rs v outer c shape.1 sim.0 j nears.shows nears.long nears.reacts nears.leads
