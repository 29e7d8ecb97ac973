-- Where an interrupt may be taken: at rest, and where one is due. What a taking leaves.
use Rattle.std.specs.Prelude.{ℕ, suc, Some, ◌+◌, ◌%◌, ◌<◌, ◌≤◌, Bool, true, false, List, [], ◌∷◌, length, min, if◌then◌else◌}
use Rattle.std.proofs.Common.{◌≡◌, refl, sym, ap, subst, ◌∙◌, arith, inl, ne_eqb, eq-eqb}
use Rattle.std.proofs.lemmas.Bool.{both_ways, true_from_ne_false}
use Rattle.std.proofs.Math.Bool.{and-true}
use Rattle.pic_regs.specs.Bytes.{updated, zeros}
use Rattle.pic_regs.specs.Map.{Pclath, existing}
use Rattle.pic_isa.specs.declared.sources.Source.{Source}
use Rattle.pic_regs.specs.Registers.{flag, requested}
use Rattle.pic_machine.specs.Chip.{Chip}
use Rattle.pic_machine.specs.Boundary.{Outer, boundary, took}
use Rattle.pic_machine.proofs.TurnLaws.{with_outer, step_of, taking}
use Rattle.timed_core.specs.Steps.{Run, Phase, Label, Above, at, top_level, is_on}
use Rattle.timed_core.specs.Steps as core
use Rattle.timed_core.specs.Steps.Phase.{Rests, Owes, Chooses}
use Rattle.timed_core.specs.Steps.Label.{Stays, Delays, Takes}
use Rattle.timed_core.specs.Promises.{is_boot}
use Rattle.timed_core.specs.Shape.{Shape, Tower, StillSet}
use Rattle.core_story.specs.Values.{Values}
use Rattle.core_story.specs.Interface.{Told, flag_at}
use Rattle.code_steps.specs.declared.banks.Bank.TheVariants.{Known}
use Rattle.code_steps.specs.Steps.{own}
use Rattle.code_steps.specs.Ends.{Holds}
use Rattle.code_steps.proofs.BetweenLaws.{arrival_alone, alone_others}
use Rattle.glue_steps.specs.Lines.{quiet}
use Rattle.firmware_parts.specs.Layout.{Usual}
use Rattle.firmware_parts.specs.Layout.Part.{Taking}
use Rattle.firmware_parts.specs.Contexts.{AtLevel}
use Rattle.code_story.specs.Code.{Code}
use Rattle.code_story.specs.Relation.{level_of_top, AtReady, InWork, Over, Paused, Beneath, Past, Resting, Working, Sim}
use Rattle.code_story.proofs.ChipFacts.{no_return_by}
use Rattle.code_story.proofs.ArrangedFacts.{Elsewhere, ready_is_elsewhere, above_its_top, top_is_level, heard_at, flag_is, flag_is_of, seven_beneath, request_is_above, above_is_requested}
use Rattle.code_story.proofs.KeptFacts.{untouched, past_stays, usual_same, easy_same}
use Rattle.code_story.proofs.GlueFacts.{outer_level, run_beneath}
use Rattle.code_story.proofs.ToldFacts.{NextFrom, is_plain, told_by, shows_plainly, running_turn, by_own, by_late, by_taking, by_due}
use Rattle.code_story.proofs.WorkLaws.{void_moves}

-- The return stack with one more place filled.
push_place : (stack : ℕ → ℕ) (top n value : ℕ) → top ≡ n → updated stack top value n ≡ value
push_place stack top n value same = ap (λ b. if b then value else stack n) (eq-eqb n top (sym same))

push_beneath : (stack : ℕ → ℕ) (top i value : ℕ) → i < top → updated stack top value i ≡ stack i
push_beneath stack top i value less = ap (λ b. if b then value else stack i) (ne_eqb i top (λ same. omega (arith, less, same)))

at_most_one_more : (d n : ℕ) → d ≤ n → min (d + 1) 255 ≤ suc n
at_most_one_more d n low = omega arith

module _ (f : Code) where
  -- What is known of a chip that may be interrupted.
  pub paused_usual : (st : List Run) (x : Chip) → Paused f.t f.l st x → Usual f.l x
  paused_usual [] x paused = record {
    easy = record { whole = ap (existing Pclath) paused.page ∙ sym paused.page; page = λ alone. paused.page };
    bank = λ unsaved. paused.bank;
    page = λ unsaved. paused.page;
  }
  paused_usual (r ∷ rs) x paused = paused.0.usual paused.1

  pub paused_level : (st : List Run) (x : Chip) → Paused f.t f.l st x → AtLevel f.l (level_of_top f.l st) x
  paused_level [] x paused = paused.heard
  paused_level (r ∷ rs) x paused = paused.0.heard

  pub paused_low : (st : List Run) (x : Chip) → Paused f.t f.l st x → level_of_top f.l st ≡ 0 → Holds (Known 0) x × (x.regs.pclath ≡ zeros)
  paused_low [] x paused low = (paused.bank, paused.page)
  paused_low (r ∷ rs) x paused low = absurd (let real = paused.0.real in omega (arith, low, real))

  -- The same of the chip with what comes from outside.
  outer_ready : (outer : Outer) (c : Chip) → AtReady f.l c → AtReady f.l (with_outer outer c)
  outer_ready outer c ready = record { there = ready.there; heard = outer_level f 0 outer c ready.heard; bank = ready.bank; page = ready.page }

  outer_work : (r : Run) (outer : Outer) (c : Chip) → InWork f.l r c → InWork f.l r (with_outer outer c)
  outer_work r outer c work = record {
    real = work.real;
    long = work.long;
    heard = outer_level f (f.l.level r.event) outer c work.heard;
    easy = easy_same f.l c (with_outer outer c) refl work.easy;
    usual = λ locked. usual_same f.l c (with_outer outer c) refl refl refl (work.usual locked);
    void = void_moves f.l r.event r.rest c (with_outer outer c) (alone_others c (with_outer outer c) (arrival_alone outer c)) work.void;
  }

  outer_beneath : (e : ℕ) (rs : List Run) (outer : Outer) (c : Chip) → 0 < f.l.level e → level_of_top f.l rs ≤ f.l.level e → Beneath f.t f.l e rs c → Beneath f.t f.l e rs (with_outer outer c)
  outer_beneath e rs outer c real low beneath =
      run_beneath f e rs c (with_outer outer c) real low refl (record { peie = refl; t0ie = refl; inte = refl; pie1 = refl; pie2 = refl }) (record { stack = refl; top = refl; depth = refl }) beneath

  pub working_paused : (r : Run) (rs : List Run) (outer : Outer) (c : Chip) → InWork f.l r c → f.l.is_locked r.event ≡ true → level_of_top f.l rs ≤ f.l.level r.event → Beneath f.t f.l r.event rs c
      → Paused f.t f.l (r ∷ rs) (with_outer outer c)
  working_paused r rs outer c work locked low beneath = (outer_work r outer c work, locked, outer_beneath r.event rs outer c work.real low beneath)

  -- Where an event is above, the top run's lock makes its test.
  pub locked_below : (r : Run) (rs : List Run) (flags : ℕ → Bool) → 0 < f.l.level r.event → Above f.t flags (f.t.level r.event) → f.l.is_locked r.event ≡ true
  locked_below r rs flags real above = true_from_ne_false (f.l.is_locked r.event) (λ unlocked.
      let most : f.l.level above.0 ≤ f.l.level r.event = f.arranged.levels.unlocked r.event real unlocked above.0 in
      let higher : f.l.level r.event < f.l.level above.0 = above_its_top f (r ∷ rs) above.0 above.2 in omega (arith, most, higher))

  module _ (st : List Run) (v : Values) (outer : Outer) (c : Chip) (tower : Tower f.t st) (past : Past f.p v c) (shows : f.l.states c.regs.plain ≡ v.state)
      (paused : Paused f.t f.l st (with_outer outer c)) (top : c.top ≡ length st) (depth : c.depth ≤ length st)
      (above : Above f.t (flag_at f.m (with_outer outer c).regs) (top_level f.t st)) where
    abbrev x : Chip
    x = with_outer outer c

    abbrev after : Chip
    after = (took x).after

    chosen_above : level_of_top f.l st < f.l.level above.0
    chosen_above = above_its_top f st above.0 above.2

    taken_over : Over f.l st x after
    taken_over = record {
      place = push_place c.stack c.top (length st) c.pc top;
      beneath = λ i less. push_beneath c.stack c.top i c.pc (omega (arith, less, top));
      top = ap (λ n. (n + 1) % 8) top ∙ ap (λ n. n % 8) (let one_more : length st + 1 ≡ suc (length st) = omega arith in one_more);
      depth = at_most_one_more c.depth (length st) depth;
      frames = λ e address real low its. refl;
    }

    pub takes_next : (ph : Phase) → core.Step f.t (flag_at f.m x.regs) ph Takes st (at (Chooses f.t.choose (flag_at f.m x.regs)) st) → is_boot ph ≡ false
        → (is_on ph ≡ true → c.regs.intcon.b7 ≡ true) → NextFrom f ph st v (taking outer c)
    takes_next ph goes later on = record {
      label = Takes;
      phase = Chooses f.t.choose (flag_at f.m x.regs);
      stack = st;
      values = v;
      goes = goes;
      valued = (refl, refl);
      told = record {
        takes_is = refl;
        returns_is = refl;
        opened = λ y e found. refl;
        committed = λ y e found. refl;
        flags = λ y e found. sym (and-true (flag e.source x.regs));
        heard = λ y e found is_it its_above.
            heard_at f (level_of_top f.l st) y e outer c (top_is_level f st) (paused_level st x paused) (on is_it) found (above_its_top f st y its_above);
        kept = λ boot. absurd (both_ways (is_boot ph) later boot);
        goes_on = refl;
        listed = tt;
      };
      keeps = record {
        glue = record { none_due = refl; off = refl; past = past_stays f Taking v c after tt refl (untouched f.l Taking c after refl refl refl) past };
        shows = shows;
        chip = x;
        over = taken_over;
        paused = paused;
        was_set = λ y set. set;
        way = inl (record {
          steps = f.dispatching;
          in_time = f.arranged.starts_in_time;
          leads = f.vector.takes x (level_of_top f.l st) above.0 (paused_usual st x paused) (paused_level st x paused) chosen_above (flag_is_of f above.0 x.regs above.1).1;
        });
      };
    }

  -- At rest.
  module _ (v : Values) (outer : Outer) (c : Chip) where
    rest_takes : (due : Bool) → Resting f due v c → (ph : Phase) → Above f.t (flag_at f.m (with_outer outer c).regs) 0
        → core.Step f.t (flag_at f.m (with_outer outer c).regs) ph Takes [] (at (Chooses f.t.choose (flag_at f.m (with_outer outer c).regs)) []) → is_boot ph ≡ false
        → NextFrom f ph [] v (taking outer c)
    rest_takes due rest ph above goes later =
        takes_next [] v outer c tt rest.past rest.shows (outer_ready outer c rest.at_ready) rest.top (let zero_deep : c.depth ≡ 0 = rest.depth in omega (arith, zero_deep)) above ph goes later (λ is_it. rest.on)

    -- A taking from the work of a run.
    pub run_takes : (due on : Bool) (r : Run) (rs : List Run) → Tower f.t (r ∷ rs) → f.l.is_locked r.event ≡ true → Working f on due r rs v c → (ph : Phase)
        → Above f.t (flag_at f.m (with_outer outer c).regs) (f.t.level r.event)
        → core.Step f.t (flag_at f.m (with_outer outer c).regs) ph Takes (r ∷ rs) (at (Chooses f.t.choose (flag_at f.m (with_outer outer c).regs)) (r ∷ rs)) → is_boot ph ≡ false
        → (is_on ph ≡ true → c.regs.intcon.b7 ≡ true) → NextFrom f ph (r ∷ rs) v (taking outer c)
    run_takes due on r rs tower locked work ph above goes later is_on_there =
        let lower : level_of_top f.l rs < f.l.level r.event = above_its_top f rs r.event tower.1 in
        let few : length (r ∷ rs) ≤ 7 = seven_beneath f (r ∷ rs) above.0 tower (above_its_top f (r ∷ rs) above.0 above.2) in
        takes_next (r ∷ rs) v outer c tower work.past work.shows (working_paused r rs outer c work.work locked (omega (arith, lower)) work.beneath)
        (let top = work.beneath.over.top in omega (arith, top, few)) (let depth = work.beneath.over.depth in omega (arith, depth)) above ph goes later is_on_there

    rest_stays : (due : Bool) → Resting f false v c → Resting f due v (record (with_outer outer c) { due = due })
    rest_stays due rest = record {
      on = rest.on;
      due_is = refl;
      past = past_stays f Taking v c (record (with_outer outer c) { due = due }) tt refl (untouched f.l Taking c (record (with_outer outer c) { due = due }) refl refl refl) rest.past;
      shows = rest.shows;
      at_ready = record {
        there = rest.at_ready.there;
        heard = (let h = outer_level f 0 outer c rest.at_ready.heard in record { peie = h.peie; t0ie = h.t0ie; inte = h.inte; rbie = h.rbie; pie1 = h.pie1; pie2 = h.pie2 });
        bank = rest.at_ready.bank;
        page = rest.at_ready.page;
      };
      top = rest.top;
      depth = rest.depth;
    }

    -- The step of the ready address changes nothing.
    rest_own : Resting f false v c → own f.l.program (with_outer outer c) ≡ Some (quiet (with_outer outer c))
    rest_own rest = f.vector.rests (with_outer outer c) rest.at_ready.there rest.at_ready.page

    rest_told : (label : Label) (after : Chip) → is_plain label ≡ true → ((source : Source) → flag source after.regs ≡ flag source (with_outer outer c).regs) → Resting f false v c
        → Told f.m f.t Rests [] label (step_of outer c (running_turn f.l.program c after (quiet (with_outer outer c))))
    rest_told label after plain flags rest = told_by f Rests [] label outer c after (quiet (with_outer outer c)) (shows_plainly f Rests [] label outer c after (quiet (with_outer outer c)) plain
        (subst (Elsewhere f.l) (sym rest.at_ready.there) (ready_is_elsewhere f))
        (no_return_by f.l.program (with_outer outer c) (quiet (with_outer outer c)) (rest_own rest) refl)
        flags (λ on. (rest.on, outer_level f 0 outer c rest.at_ready.heard)) tt)

    resting_next : Resting f false v c → NextFrom f Rests [] v (boundary f.l.program outer c)
    resting_next rest = by (requested (with_outer outer c).regs) refl
      where
        asked : requested (with_outer outer c).regs ≡ true → Above f.t (flag_at f.m (with_outer outer c).regs) 0
        asked request = request_is_above f [] (with_outer outer c) (outer_level f 0 outer c rest.at_ready.heard) request

        by_lateness : (late : Bool) → outer.late ≡ late → requested (with_outer outer c).regs ≡ true → NextFrom f Rests [] v (boundary f.l.program outer c)
        by_lateness false late request = by_taking f Rests [] v outer c rest.due_is request late (rest_takes false rest Rests (asked request) (asked request, refl) refl)
        by_lateness true late request = by_late f Rests [] v outer c (quiet (with_outer outer c)) rest.due_is request late (rest_own rest) (record {
          label = Delays;
          phase = Owes true (flag_at f.m (with_outer outer c).regs);
          stack = [];
          values = v;
          goes = (asked request, refl);
          valued = (refl, refl);
          told = rest_told Delays (record (with_outer outer c) { due = true }) refl (λ source. refl) rest;
          keeps = (refl, rest_stays true rest);
        })

        by : (request : Bool) → requested (with_outer outer c).regs ≡ request → NextFrom f Rests [] v (boundary f.l.program outer c)
        by true request = by_lateness outer.late refl request
        by false none = by_own f Rests [] v outer c (quiet (with_outer outer c)) rest.due_is none (rest_own rest) (record {
          label = Stays;
          phase = Rests;
          stack = [];
          values = v;
          goes = ((λ above. both_ways (requested (with_outer outer c).regs) none (above_is_requested f [] (with_outer outer c) (outer_level f 0 outer c rest.at_ready.heard) rest.on above)), refl);
          valued = (refl, refl);
          told = rest_told Stays (with_outer outer c) refl (λ source. refl) rest;
          keeps = subst (λ due. Resting f due v (with_outer outer c)) rest.due_is (rest_stays c.due rest);
        })

    -- One that is due is taken.
    above_still : (g : ℕ → Bool) (st : List Run) → Above f.t g (top_level f.t st) → StillSet (flag_at f.m c.regs) (Owes true g) → Above f.t (flag_at f.m (with_outer outer c).regs) (top_level f.t st)
    above_still g st above still =
        let set = flag_is_of f above.0 c.regs (still above.0 above.1) in
        (above.0, flag_is f above.0 (with_outer outer c).regs set.0 ∙ (arrival_alone outer c).flags (f.l.source above.0) set.1, above.2)

    owing_rest : (on : Bool) (g : ℕ → Bool) → Above f.t g 0 → StillSet (flag_at f.m c.regs) (Owes on g) → Resting f true v c → NextFrom f (Owes on g) [] v (boundary f.l.program outer c)
    owing_rest on g above still rest =
        by_due f (Owes on g) [] v outer c rest.due_is (rest_takes true rest (Owes on g) (above_still g [] above still) refl refl)

    owing_run : (on : Bool) (g : ℕ → Bool) (r : Run) (rs : List Run) → Tower f.t (r ∷ rs) → Above f.t g (f.t.level r.event) → StillSet (flag_at f.m c.regs) (Owes on g) → f.l.is_locked r.event ≡ true
        → Working f on true r rs v c → NextFrom f (Owes on g) (r ∷ rs) v (boundary f.l.program outer c)
    owing_run on g r rs tower above still locked work =
        by_due f (Owes on g) (r ∷ rs) v outer c work.due_is (run_takes true on r rs tower locked work (Owes on g) (above_still g (r ∷ rs) above still) refl refl (λ is_it. work.on_is ∙ is_it))

  pub next_rests : (st : List Run) (v : Values) (outer : Outer) (c : Chip) → Shape f.t Rests st → Resting f false v c → NextFrom f Rests st v (boundary f.l.program outer c)
  next_rests [] v outer c shape rest = resting_next v outer c rest
  next_rests (r ∷ rs) v outer c shape rest = absurd shape

  pub next_owes : (on : Bool) (g : ℕ → Bool) (st : List Run) (v : Values) (outer : Outer) (c : Chip) → Shape f.t (Owes on g) st → StillSet (flag_at f.m c.regs) (Owes on g) → Sim f (Owes on g) st v c
      → NextFrom f (Owes on g) st v (boundary f.l.program outer c)
  next_owes on g [] v outer c shape still sim = owing_rest v outer c on g shape.1 still sim.1
  next_owes on g (r ∷ rs) v outer c shape still sim = owing_run v outer c on g r rs shape.0 shape.1 still sim.1 sim.0
