-- From a taking to the clearing of the flag of the event that is chosen.
use Rattle.std.specs.Prelude.{ℕ, zero, suc, ◌+◌, ◌<◌, ◌≤◌, ◌==◌, ◌⊎◌, Bool, true, false, ◌&&◌, not, List, [], ◌∷◌, Some}
use Rattle.std.specs.List.{cons_option}
use Rattle.std.proofs.Common.{◌≡◌, refl, sym, ap, subst, ◌∙◌, arith, inl, inr, ne_eqb, eq-eqb}
use Rattle.std.proofs.lemmas.Bool.{both_ways, cases_Bool, cases_eq}
use Rattle.std.proofs.Math.Bool.{and_comm}
use Rattle.efrp_meaning.specs.States.{IsState}
use Rattle.pic_regs.specs.Bytes.{Byte}
use Rattle.pic_regs.specs.Registers.{Registers, flag}
use Rattle.pic_regs.specs.Single.{only}
use Rattle.pic_machine.specs.declared.steps.PortWrite.{PortWrite}
use Rattle.pic_machine.specs.Chip.{Chip}
use Rattle.pic_machine.specs.Results.{Done}
use Rattle.pic_machine.specs.Boundary.{Outer, boundary}
use Rattle.pic_machine.proofs.TurnLaws.{with_outer, step_of}
use Rattle.timed_core.specs.Steps.{Run, Above, Best, fresh, top_level}
use Rattle.timed_core.specs.Steps.Phase.{Chooses, Begins}
use Rattle.timed_core.specs.Steps.Label.{Stays, Clears}
use Rattle.timed_core.specs.Shape.{Shape, Tower}
use Rattle.core_story.specs.Values.{Values}
use Rattle.code_steps.specs.declared.banks.Bank.{Bank}
use Rattle.code_steps.specs.declared.banks.Bank.TheVariants.{Known}
use Rattle.code_steps.specs.Steps.{own, next}
use Rattle.code_steps.specs.Ends.{Holds}
use Rattle.code_steps.proofs.BetweenLaws.{arrival_alone}
use Rattle.glue_steps.specs.declared.lines.Line.TheVariants.{Lower}
use Rattle.glue_steps.specs.Lines.{did}
use Rattle.glue_steps.specs.Laws.{StillIn}
use Rattle.glue_steps.proofs.LineLaws.{flag_lowered}
use Rattle.glue_steps.proofs.StillLaws.{still_flags}
use Rattle.glue_steps.specs.Still.{Off}
use Rattle.firmware_parts.specs.Layout.{Part, Easy, piece}
use Rattle.firmware_parts.specs.Layout.Part.{Taking, Start}
use Rattle.firmware_parts.specs.Contexts.{SameEnables}
use Rattle.firmware_parts.specs.Runs.{Leads, AtClear, Reacts}
use Rattle.firmware_parts.specs.Vector.{Chosen}
use Rattle.code_story.specs.Arranged.{IsPart, Spares, is_boot_part, leaves_states}
use Rattle.code_story.specs.Code.{GivesBack, Code}
use Rattle.code_story.specs.Laws.{is_window_part}
use Rattle.code_story.specs.Relation.{level_of_top, InRun, Dispatching, Entering, Choosing, Beginning, ShortAtOpen}
use Rattle.code_story.proofs.ChipFacts.{lowered_keeps, no_return_by, one_source}
use Rattle.code_story.proofs.ArrangedFacts.{Elsewhere, clear_is_elsewhere, above_top, above_its_top, as_urgent, flag_is, flag_is_of}
use Rattle.code_story.proofs.KeptFacts.{SameStack, untouched, past_stays, over_moves, level_moves, holds_same, easy_same}
use Rattle.code_story.proofs.GlueFacts.{glue_stays, shown_stays, over_stays}
use Rattle.code_story.proofs.TakingFacts.{paused_usual, paused_level, paused_low}
use Rattle.code_story.proofs.ToldFacts.{NextFrom, Shows, told_by, still_shows, running_turn, puts_nothing, by_off}

module _ (f : Code) (g : ℕ → Bool) (st : List Run) (v : Values) (outer : Outer) (c : Chip) (tower : Tower f.t st) (above : Above f.t g (top_level f.t st)) where
  abbrev x : Chip
  x = with_outer outer c

  some_above : (y : ℕ) → 0 < f.l.level y → f.l.level y ≤ level_of_top f.l st → (e : ℕ) × (f.l.level y < f.l.level e)
  some_above y real low = let higher : level_of_top f.l st < f.l.level above.0 = above_its_top f st above.0 above.2 in (above.0, omega (arith, low, higher))

  module _ (j : ℕ) (chooses : Choosing f j g st v c) where
    -- What is left over a step of one of these parts.
    module _ (k : ℕ) (part : Part) (is_part : IsPart f.l part) (later : is_boot_part part ≡ false) (leaves : leaves_states part ≡ true) (other : is_window_part part ≡ false)
        (spares : (y : ℕ) → 0 < f.l.level y → f.l.level y ≤ level_of_top f.l st → Spares f.l part y) (less : k < j) (done : Done)
        (step : StillIn f.l.program (piece f.l part) x done) (rest : List PortWrite) (puts : [] ≡ cons_option done.port rest) where
      choosing_on : Dispatching f chooses.chip k st done.chip ⊎ Entering f chooses.chip k g st done.chip → NextFrom f (Chooses j g) st v (step_of outer c (running_turn f.l.program c done.chip done))
      choosing_on way = record {
        label = Stays;
        phase = Chooses k g;
        stack = st;
        values = v;
        goes = (k, less, refl);
        valued = ((puts_nothing done.port rest puts).0, refl);
        told = told_by f (Chooses j g) st Stays outer c done.chip done (still_shows f part (Chooses j g) st Stays outer c done is_part other refl refl step);
        keeps = record {
          glue = glue_stays f part is_part outer c done step v later chooses.glue;
          shows = shown_stays f part is_part outer c done step v leaves chooses.shows;
          chip = chooses.chip;
          over = over_stays f part is_part outer c done step st chooses.chip spares chooses.over;
          paused = chooses.paused;
          was_set = chooses.was_set;
          way = way;
        };
      }

    -- At the clearing.
    module _ (h : ℕ) (set : flag (f.l.source h) c.regs ≡ true) (best : Best f.t g h) (higher : level_of_top f.l st < f.l.level h) (ends : AtClear f.p f.m f.l (GivesBack f.t f.l) h chooses.chip c) where
      real : 0 < f.l.level h
      real = omega (arith, higher)

      abbrev cleared : Done
      cleared = did (Lower (f.l.source h)) x

      abbrev e : Chip
      e = cleared.chip

      clears_is : own f.l.program x ≡ Some cleared
      clears_is = (f.runs h real).clears x ends.there (λ long. ends.bank long) (λ short. holds_same (f.l.bank h) c x refl refl (ends.open_bank short))

      keeps : e.regs ≡ record x.regs {
        intcon = record x.regs.intcon { b2 = e.regs.intcon.b2; b1 = e.regs.intcon.b1 };
        pir1 = e.regs.pir1;
        pir2 = e.regs.pir2;
      }
      keeps = lowered_keeps (f.l.source h) x.regs

      plain_same : e.regs.plain ≡ c.regs.plain
      plain_same = ap (λ (r : Registers). r.plain) keeps

      enables_there : SameEnables c e
      enables_there = record {
        peie = ap (λ (r : Registers). r.intcon.b6) keeps;
        t0ie = ap (λ (r : Registers). r.intcon.b5) keeps;
        inte = ap (λ (r : Registers). r.intcon.b4) keeps;
        pie1 = ap (λ (r : Registers). r.pie1) keeps;
        pie2 = ap (λ (r : Registers). r.pie2) keeps;
      }

      stack_there : SameStack c e
      stack_there = record { stack = refl; top = refl; depth = refl }

      bank_there : (bank : Bank) → Holds bank c → Holds bank e
      bank_there bank holds = holds_same bank c e (ap (λ (r : Registers). r.status.b6) keeps) (ap (λ (r : Registers). r.status.b5) keeps) holds

      easy_there : Easy f.l e
      easy_there = easy_same f.l c e (ap (λ (r : Registers). r.pclath) keeps) ends.easy

      off_there : Off e
      off_there = ap (λ (r : Registers). r.intcon.b7) keeps ∙ ends.off

      behind : e.pc ≡ next (f.l.clear h)
      behind = ap next ends.there

      run_there : InRun f h st v e
      run_there = record {
        glue = record {
          none_due = chooses.glue.none_due;
          off = off_there;
          past = past_stays f Taking v c e tt refl (untouched f.l Taking c e plain_same (ap (λ (r : Registers). r.tris) keeps) (ap (λ (r : Registers). r.intcon.b3) keeps)) chooses.glue.past;
        };
        real = real;
        beneath = record {
          chip = chooses.chip;
          saved = (f.runs h real).saved_stays chooses.chip c e ends.saved enables_there (λ address its. ap (λ (b : ℕ → Byte). b address) plain_same);
          over = over_moves f.l st chooses.chip c e stack_there (λ y address its low in_frame. ap (λ (b : ℕ → Byte). b address) plain_same) chooses.over;
          paused = chooses.paused;
        };
      }

      shows_there : f.l.states e.regs.plain ≡ v.state
      shows_there = ap f.l.states plain_same ∙ chooses.shows

      begins_there : (f.l.is_short h ≡ true) ⊎ (f.l.is_short h ≡ false) → Beginning f h f.t.start v e ⊎ ShortAtOpen f h v e
      begins_there (inl short) = inr (record {
        shows = shows_there;
        is_short = short;
        at_open = record { there = behind ∙ (f.runs h real).opens_next short; off = off_there; easy = easy_there; bank = bank_there (f.l.bank h) (ends.open_bank short) };
        reacts = subst (Reacts f.p f.m f.l h) (sym plain_same) (ends.done short);
      })
      begins_there (inr long) = inl (record {
        shows = shows_there;
        long = long;
        heard = level_moves f.l (f.l.level h) c e enables_there (ap (λ (r : Registers). r.intcon.b3) keeps ∙ chooses.glue.past.rbie) (ends.masked long);
        leads = (f.runs h real).begins e long behind off_there easy_there (bank_there (Known 0) (ends.bank long));
      })

      one_flag : (y : ℕ) → 0 < f.l.level y → only (f.l.source h) (f.l.source y) ≡ (y == h)
      one_flag y its = by (cases_eq y h)
        where
          by : (y ≡ h) ⊎ (y ≡ h → ⊥) → only (f.l.source h) (f.l.source y) ≡ (y == h)
          by (inl same) = ap (λ z. only (f.l.source h) (f.l.source z)) same ∙ eq-eqb _ _ refl ∙ sym (eq-eqb y h same)
          by (inr other) = ne_eqb _ _ (λ same. other (f.arranged.levels.sources y h its real (one_source (f.l.source y) (f.l.source h) (sym same)))) ∙ sym (ne_eqb y h other)

      clears_shows : Shows f.m f.l (Chooses j g) st (Clears h) outer c e cleared
      clears_shows =
          let elsewhere : Elsewhere f.l c.pc = subst (Elsewhere f.l) (sym ends.there) (clear_is_elsewhere f h real) in
          record {
            taking = refl;
            returned = no_return_by f.l.program x cleared clears_is refl;
            opened = elsewhere.no_open;
            committed = elsewhere.no_commit;
            flags = λ y its.
                flag_lowered (f.l.source h) (f.l.source y) x.regs ∙ ap (λ b. not b && flag (f.l.source y) x.regs) (one_flag y its) ∙ and_comm (not (y == h)) (flag (f.l.source y) x.regs);
            heard = λ on. absurd (both_ways false refl on);
            kept = λ boot. absurd (both_ways false refl boot);
            listed = f.arranged.writes.flags_listed h real;
          }

      choice_ends : NextFrom f (Chooses j g) st v (boundary f.l.program outer c)
      choice_ends = by_off f (Chooses j g) st v outer c cleared chooses.glue.none_due chooses.glue.off clears_is (record {
        label = Clears h;
        phase = Begins f.t.start;
        stack = fresh f.t h ∷ st;
        values = v;
        goes = (flag_is f h x.regs real ∙ (arrival_alone outer c).flags (f.l.source h) set, best, above_top f st h higher, refl);
        valued = (refl, refl);
        told = told_by f (Chooses j g) st (Clears h) outer c e cleared clears_shows;
        keeps = (run_there, begins_there (cases_Bool (f.l.is_short h)));
      })

    -- From the start of a run on.
    enter : (way : Entering f chooses.chip j g st c) → NextFrom f (Chooses j g) st v (boundary f.l.program outer c)
    enter way = by way.steps way.in_time way.leads
      where
        real_there : 0 < f.l.level way.event
        real_there = let higher = way.above in omega (arith, higher)

        by : (k : ℕ) → k ≤ j → Leads f.l (Start way.event) (AtClear f.p f.m f.l (GivesBack f.t f.l) way.event chooses.chip) [] k c → NextFrom f (Chooses j g) st v (boundary f.l.program outer c)
        by zero in_time ends = choice_ends way.event way.set way.best way.above ends.1
        by (suc k) in_time (inl ends) = choice_ends way.event way.set way.best way.above ends.1
        by (suc k) in_time (inr goes) =
            let step = goes x (arrival_alone outer c) in
            by_off f (Chooses j g) st v outer c step.0 chooses.glue.none_due chooses.glue.off step.1
            (choosing_on k (Start way.event) real_there refl refl refl (λ y its low. let higher = way.above in omega (arith, low, higher)) (omega (arith, in_time)) step.0 step.2 step.3 step.4
            (inr (record {
              event = way.event;
              steps = k;
              in_time = omega arith;
              set = still_flags f.l.program _ _ x step.0 step.2 (f.l.source way.event) ∙ (arrival_alone outer c).flags (f.l.source way.event) way.set;
              best = way.best;
              above = way.above;
              leads = subst (λ bytes. Leads f.l (Start way.event) (AtClear f.p f.m f.l (GivesBack f.t f.l) way.event chooses.chip) bytes k step.0.chip) (puts_nothing step.0.port step.3 step.4).1 step.5;
            })))

    -- The event that is chosen is the most urgent one of those whose flags were set at the taking.
    chosen : f.starting ≤ j → Chosen f.l chooses.chip (level_of_top f.l st) c → Entering f chooses.chip j g st c
    chosen in_time ends = record {
      event = ends.event;
      steps = f.starting;
      in_time = in_time;
      set = ends.set;
      best = λ y its real other. let set = flag_is_of f y chooses.chip.regs (chooses.was_set y its) in as_urgent f ends.event y (ends.best y set.0 set.1 other);
      above = ends.above;
      leads = (f.runs ends.event (let higher = ends.above in omega (arith, higher))).starts chooses.chip c (level_of_top f.l st) ends.there ends.off chooses.glue.past.rbie (paused_usual f st chooses.chip chooses.paused) ends.entered
          (paused_level f st chooses.chip chooses.paused) ends.above (paused_low f st chooses.chip chooses.paused) (subst (IsState f.p) (sym chooses.shows) chooses.glue.past.typed);
    }

    dispatch : (k : ℕ) → k + f.starting ≤ j → Leads f.l Taking (Chosen f.l chooses.chip (level_of_top f.l st)) [] k c → NextFrom f (Chooses j g) st v (boundary f.l.program outer c)
    dispatch zero in_time ends = enter (chosen (omega (arith, in_time)) ends.1)
    dispatch (suc k) in_time (inl ends) = enter (chosen (omega (arith, in_time)) ends.1)
    dispatch (suc k) in_time (inr goes) =
        let step = goes x (arrival_alone outer c) in
        by_off f (Chooses j g) st v outer c step.0 chooses.glue.none_due chooses.glue.off step.1
        (choosing_on (k + f.starting) Taking tt refl refl refl some_above (omega (arith, in_time)) step.0 step.2 step.3 step.4
        (inl (record {
          steps = k;
          in_time = omega arith;
          leads = subst (λ bytes. Leads f.l Taking (Chosen f.l chooses.chip (level_of_top f.l st)) bytes k step.0.chip) (puts_nothing step.0.port step.3 step.4).1 step.5;
        })))

    choosing_next : Dispatching f chooses.chip j st c ⊎ Entering f chooses.chip j g st c → NextFrom f (Chooses j g) st v (boundary f.l.program outer c)
    choosing_next (inl way) = dispatch way.steps way.in_time way.leads
    choosing_next (inr way) = enter way

pub next_chooses : (f : Code) (j : ℕ) (g : ℕ → Bool) (st : List Run) (v : Values) (outer : Outer) (c : Chip) → Shape f.t (Chooses j g) st → Choosing f j g st v c
    → NextFrom f (Chooses j g) st v (boundary f.l.program outer c)
next_chooses f j g st v outer c shape chooses = choosing_next f g st v outer c shape.0 shape.1 j chooses chooses.way
