-- The work of the top run, with interrupts on: its steps, its lock, and either of them late.
use Rattle.std.specs.Prelude.{ℕ, zero, suc, ◌<◌, ◌≤◌, Bool, true, false, List, [], ◌∷◌, Some}
use Rattle.std.proofs.Common.{◌≡◌, refl, sym, ap, subst, ◌∙◌, arith, inl, inr}
use Rattle.std.proofs.lemmas.Bool.{both_ways, true_from_ne_false}
use Rattle.pic_regs.specs.Registers.{requested}
use Rattle.pic_machine.specs.Chip.{Chip}
use Rattle.pic_machine.specs.Results.{Done}
use Rattle.pic_machine.specs.Boundary.{Outer, boundary}
use Rattle.pic_machine.proofs.TurnLaws.{with_outer, step_of}
use Rattle.firmware_promises.specs.Counts.{put_by}
use Rattle.timed_core.specs.Steps.{Run, Label, Above, locked, is_on}
use Rattle.timed_core.specs.Steps.Phase.{Works, Owes}
use Rattle.timed_core.specs.Steps.Label.{Stays, Delays, Locks, Slips}
use Rattle.timed_core.specs.Shape.{Shape, Tower}
use Rattle.core_story.specs.Values.{Values}
use Rattle.core_story.specs.Interface.{Told, flag_at}
use Rattle.code_steps.specs.Steps.{own, next}
use Rattle.code_steps.specs.Ends.{Holds}
use Rattle.pic_regs.specs.Bytes.{Byte}
use Rattle.code_steps.proofs.BetweenLaws.{arrival_alone, alone_others}
use Rattle.glue_steps.specs.Lines.{did}
use Rattle.firmware_parts.specs.Layout.Part.{Taking, Work}
use Rattle.firmware_parts.specs.Contexts.{SameEnables, AtLevel}
use Rattle.firmware_parts.specs.Runs.{Void, Clean, AtLock, WorkStep, Reacts, turns}
use Rattle.code_story.specs.Arranged.{IsPart}
use Rattle.code_story.specs.Code.{Code}
use Rattle.code_story.specs.Laws.{Touches}
use Rattle.code_story.specs.Relation.{level_of_top, Beneath, Past, Working, Lives, InRun, Sim}
use Rattle.code_story.proofs.ChipFacts.{some_same, no_return_by}
use Rattle.code_story.proofs.ArrangedFacts.{Elsewhere, lock_is_elsewhere, above_its_top, request_is_above, above_is_requested}
use Rattle.code_story.proofs.KeptFacts.{SameStack, untouched, work_touches, work_stack, work_enables, past_stays, states_stay, told_stays, frames_stay, level_moves, holds_same, easy_same, usual_same, beneath_moves}
use Rattle.code_story.proofs.GlueFacts.{outer_level, run_beneath}
use Rattle.code_story.proofs.ToldFacts.{NextFrom, is_plain, told_by, shows_plainly, work_shows, running_turn, by_own, by_late, by_taking}
use Rattle.code_story.proofs.TakingFacts.{locked_below, run_takes}
use Rattle.code_story.proofs.WorkLaws.{void_moves}

module _ (f : Code) (r : Run) (rs : List Run) (v : Values) (outer : Outer) (c : Chip) (tower : Tower f.t (r ∷ rs)) (work : Working f true false r rs v c) (lives : Lives f r c) where
  abbrev x : Chip
  x = with_outer outer c

  abbrev e : ℕ
  e = r.event

  abbrev now : ℕ → Bool
  now = flag_at f.m x.regs

  real : 0 < f.l.level e
  real = work.work.real

  low : level_of_top f.l rs ≤ f.l.level e
  low = let lower : level_of_top f.l rs < f.l.level e = above_its_top f rs e tower.1 in omega (arith, lower)

  its_level : AtLevel f.l (f.l.level e) x
  its_level = outer_level f (f.l.level e) outer c work.work.heard

  asked : requested x.regs ≡ true → Above f.t now (f.t.level e)
  asked request = request_is_above f (r ∷ rs) x its_level request

  none_above : requested x.regs ≡ false → Above f.t now (f.t.level e) → ⊥
  none_above none above = both_ways (requested x.regs) none (above_is_requested f (r ∷ rs) x its_level work.on_is above)

  heard_there : is_on Works ≡ true → (c.regs.intcon.b7 ≡ true) × AtLevel f.l (level_of_top f.l (r ∷ rs)) x
  heard_there on = (work.on_is, its_level)

  is_locked_there : requested x.regs ≡ true → f.l.is_locked e ≡ true
  is_locked_there request = locked_below f r rs now real (asked request)

  -- A step of the work.
  module _ (k : ℕ) (rest_is : r.rest ≡ suc k) (done : Done) (is : own f.l.program x ≡ Some done) (step : WorkStep f.l e x done) (void : Void f.l e k done.chip) where
    abbrev further : Run
    further = record r { rest = k }

    is_part : IsPart f.l (Work e)
    is_part = (real, work.work.long)

    module _ (due : Bool) where
      abbrev after : Chip
      after = record done.chip { due = due }

      touches : Touches f.l (Work e) c after
      touches = let its = work_touches f.l e outer c done step in record { plain = its.plain; tris = its.tris; rbie = its.rbie }

      enables : SameEnables c after
      enables = let its = work_enables f.l e outer c done step in record { peie = its.peie; t0ie = its.t0ie; inte = its.inte; pie1 = its.pie1; pie2 = its.pie2 }

      stack : SameStack c after
      stack = let its = work_stack f.l e outer c done step in record { stack = its.stack; top = its.top; depth = its.depth }

      worked : Working f true due further rs v after
      worked = record {
        on_is = ap (λ (y : Chip). y.regs.intcon.b7) step.kept ∙ work.on_is;
        due_is = refl;
        past = past_stays f (Work e) v c after is_part refl touches work.past;
        shows = states_stay f (Work e) c after is_part refl touches ∙ work.shows;
        work = record {
          real = real;
          long = work.work.long;
          heard = level_moves f.l (f.l.level e) c after enables (touches.rbie ∙ work.work.heard.rbie) work.work.heard;
          easy = easy_same f.l done.chip after refl (step.easy (easy_same f.l c x refl work.work.easy));
          usual = λ locked. usual_same f.l done.chip after refl refl refl (step.usual locked (usual_same f.l c x refl refl refl (work.work.usual locked)));
          void = void_moves f.l e k done.chip after (record { pc = refl; rp1 = refl; rp0 = refl; pclath = refl }) void;
        };
        beneath = beneath_moves f e rs c after real low enables stack (frames_stay f (Work e) (f.l.level e) c after is_part (λ y its most. most) touches) work.beneath;
      }

      work_told : (label : Label) → is_plain label ≡ true → Told f.m f.t Works (r ∷ rs) label (step_of outer c (running_turn f.l.program c after done))
      work_told label plain = told_by f Works (r ∷ rs) label outer c after done (work_shows f e Works (r ∷ rs) label outer c after done is_part plain (λ source. refl) heard_there step)

    -- Where it isn't void the reaction is still to come.
    cleaner : (j : ℕ) → Clean f.p f.m f.l e j c → (i : ℕ) × Clean f.p f.m f.l e i done.chip
    cleaner zero lock = absurd (step.no_lock lock.0.there)
    cleaner (suc j) (inl lock) = absurd (step.no_lock lock.0.there)
    cleaner (suc j) (inr goes) =
        let its = goes x (arrival_alone outer c) in
        let same : its.0 ≡ done = some_same (sym its.1 ∙ is) in (j, subst (λ (d : Done). Clean f.p f.m f.l e j d.chip) same its.3)

    lives_on : Lives f further done.chip
    lives_on = record {
      told = λ locked. told_stays f (Work e) c done.chip is_part refl (work_touches f.l e outer c done step) ∙ lives.told locked;
      never_void = lives.never_void;
      clean = λ fresh. let its = lives.clean fresh in cleaner its.0 its.1;
    }

    works_stays : requested x.regs ≡ false → NextFrom f Works (r ∷ rs) v (step_of outer c (running_turn f.l.program c done.chip done))
    works_stays none = record {
      label = Stays;
      phase = Works;
      stack = further ∷ rs;
      values = v;
      goes = (none_above none, k, omega (arith, rest_is), refl);
      valued = (ap put_by step.port, refl);
      told = work_told done.chip.due Stays refl;
      keeps = (subst (λ due. Working f true due further rs v done.chip) (ap (λ (y : Chip). y.due) step.kept ∙ work.due_is) (worked done.chip.due), lives_on);
    }

    works_delays : requested x.regs ≡ true → NextFrom f Works (r ∷ rs) v (step_of outer c (running_turn f.l.program c (record done.chip { due = true }) done))
    works_delays request = record {
      label = Delays;
      phase = Owes true now;
      stack = further ∷ rs;
      values = v;
      goes = (asked request, k, omega (arith, rest_is), refl);
      valued = (ap put_by step.port, refl);
      told = work_told true Delays refl;
      keeps = (worked true, is_locked_there request);
    }

  -- The lock's step turns interrupts off.
  module _ (lock : AtLock f.l e c) where
    abbrev off : Done
    off = did (turns false) x

    off_is : own f.l.program x ≡ Some off
    off_is = (f.runs e real).turns_off x work.work.long lock.there

    behind : off.chip.pc ≡ next (f.l.lock e)
    behind = ap next lock.there

    bank_there : (d : Chip) → d.regs.status ≡ c.regs.status → Holds (f.l.bank e) d
    bank_there d same = holds_same (f.l.bank e) c d (ap (λ (s : Byte). s.b6) same) (ap (λ (s : Byte). s.b5) same) lock.bank

    lock_told : (due : Bool) (label : Label) → is_plain label ≡ true → Told f.m f.t Works (r ∷ rs) label (step_of outer c (running_turn f.l.program c (record off.chip { due = due }) off))
    lock_told due label plain = told_by f Works (r ∷ rs) label outer c (record off.chip { due = due }) off (shows_plainly f Works (r ∷ rs) label outer c (record off.chip { due = due }) off plain
        (subst (Elsewhere f.l) (sym lock.there) (lock_is_elsewhere f e real work.work.long)) (no_return_by f.l.program x off off_is refl) (λ source. refl) heard_there f.arranged.writes.intcon_listed)

    past_lock : (due : Bool) → Past f.p v (record off.chip { due = due })
    past_lock due = past_stays f Taking v c (record off.chip { due = due }) tt refl (untouched f.l Taking c (record off.chip { due = due }) refl refl refl) work.past

    level_lock : (due : Bool) → AtLevel f.l (f.l.level e) (record off.chip { due = due })
    level_lock due = let h = work.work.heard in record { peie = h.peie; t0ie = h.t0ie; inte = h.inte; rbie = h.rbie; pie1 = h.pie1; pie2 = h.pie2 }

    beneath_lock : (due : Bool) → Beneath f.t f.l e rs (record off.chip { due = due })
    beneath_lock due = run_beneath f e rs c (record off.chip { due = due }) real low refl
        (record { peie = refl; t0ie = refl; inte = refl; pie1 = refl; pie2 = refl }) (record { stack = refl; top = refl; depth = refl }) work.beneath

    run_lock : InRun f e rs v off.chip
    run_lock = record {
      glue = record { none_due = work.due_is; off = refl; past = past_lock c.due };
      real = real;
      beneath = beneath_lock c.due;
    }

    -- With the reaction, where the run isn't void.
    reacts_there : (j : ℕ) → Clean f.p f.m f.l e j c → Reacts f.p f.m f.l e c.regs.plain
    reacts_there zero clean = clean.1
    reacts_there (suc j) (inl clean) = clean.1
    reacts_there (suc j) (inr goes) = absurd (let its = goes x (arrival_alone outer c) in its.2.no_lock lock.there)

    locks_to : (b : Bool) → r.void ≡ b → Sim f (locked f.t b) (r ∷ rs) v off.chip
    locks_to true void =
        let its_lock : f.l.is_locked e ≡ true = true_from_ne_false (f.l.is_locked e) (λ unlocked. both_ways r.void (lives.never_void unlocked) void) in (
          run_lock,
          record {
            shows = work.shows;
            long = work.work.long;
            heard = level_lock c.due;
            leads = (f.runs e real).repeats off.chip its_lock behind refl (easy_same f.l c off.chip refl work.work.easy) (bank_there off.chip refl) (lives.told its_lock ∙ void);
          },
        )
    locks_to false fresh =
        let clean = lives.clean fresh in (
          run_lock,
          record {
            shows = work.shows;
            long = work.work.long;
            reacts = reacts_there clean.0 clean.1;
            leads = (f.runs e real).passes off.chip work.work.long behind refl (easy_same f.l c off.chip refl work.work.easy) (bank_there off.chip refl) (λ its_lock. lives.told its_lock ∙ fresh);
          },
        )

    works_locks : requested x.regs ≡ false → NextFrom f Works (r ∷ rs) v (step_of outer c (running_turn f.l.program c off.chip off))
    works_locks none = record {
      label = Locks;
      phase = locked f.t r.void;
      stack = r ∷ rs;
      values = v;
      goes = (none_above none, refl);
      valued = (refl, refl);
      told = lock_told c.due Locks refl;
      keeps = locks_to r.void refl;
    }

    -- Where the taking is late the run goes on behind the lock with interrupts on, and comes back to it.
    abbrev slipped : Run
    slipped = record r { rest = f.t.retry }

    slips_to : f.l.is_locked e ≡ true → Working f false true slipped rs v (record off.chip { due = true })
    slips_to its_lock =
        let usual = usual_same f.l c (record off.chip { due = true }) refl refl refl (work.work.usual its_lock) in
        record {
          on_is = refl;
          due_is = refl;
          past = past_lock true;
          shows = work.shows;
          work = record {
            real = real;
            long = work.work.long;
            heard = level_lock true;
            easy = usual.easy;
            usual = λ again. usual;
            void = (f.runs e real).slips (record off.chip { due = true }) its_lock behind (bank_there (record off.chip { due = true }) refl) usual;
          };
          beneath = beneath_lock true;
        }

    works_slips : requested x.regs ≡ true → NextFrom f Works (r ∷ rs) v (step_of outer c (running_turn f.l.program c (record off.chip { due = true }) off))
    works_slips request = record {
      label = Slips;
      phase = Owes false now;
      stack = slipped ∷ rs;
      values = v;
      goes = (asked request, refl);
      valued = (refl, refl);
      told = lock_told true Slips refl;
      keeps = (slips_to (is_locked_there request), is_locked_there request);
    }

  -- The own step, on time or late.
  on_time : (k : ℕ) → r.rest ≡ k → Void f.l e k c → requested x.regs ≡ false → NextFrom f Works (r ∷ rs) v (boundary f.l.program outer c)
  on_time zero rest_is lock none = by_own f Works (r ∷ rs) v outer c (off lock) work.due_is none (off_is lock) (works_locks lock none)
  on_time (suc k) rest_is (inl lock) none = by_own f Works (r ∷ rs) v outer c (off lock) work.due_is none (off_is lock) (works_locks lock none)
  on_time (suc k) rest_is (inr goes) none =
      let its = goes x (record { others = alone_others c x (arrival_alone outer c); on = work.on_is }) in
      by_own f Works (r ∷ rs) v outer c its.0 work.due_is none its.1 (works_stays k rest_is its.0 its.1 its.2 its.3 none)

  late_by_one : (k : ℕ) → r.rest ≡ k → Void f.l e k c → requested x.regs ≡ true → outer.late ≡ true → NextFrom f Works (r ∷ rs) v (boundary f.l.program outer c)
  late_by_one zero rest_is lock request late = by_late f Works (r ∷ rs) v outer c (off lock) work.due_is request late (off_is lock) (works_slips lock request)
  late_by_one (suc k) rest_is (inl lock) request late = by_late f Works (r ∷ rs) v outer c (off lock) work.due_is request late (off_is lock) (works_slips lock request)
  late_by_one (suc k) rest_is (inr goes) request late =
      let its = goes x (record { others = alone_others c x (arrival_alone outer c); on = work.on_is }) in
      by_late f Works (r ∷ rs) v outer c its.0 work.due_is request late its.1 (works_delays k rest_is its.0 its.1 its.2 its.3 request)

  working_next : NextFrom f Works (r ∷ rs) v (boundary f.l.program outer c)
  working_next = by (requested x.regs) refl
    where
      by_lateness : (late : Bool) → outer.late ≡ late → requested x.regs ≡ true → NextFrom f Works (r ∷ rs) v (boundary f.l.program outer c)
      by_lateness false late request =
          by_taking f Works (r ∷ rs) v outer c work.due_is request late (run_takes f v outer c false true r rs tower (is_locked_there request) work Works (asked request) (asked request, refl) refl (λ on. work.on_is))
      by_lateness true late request = late_by_one r.rest refl work.work.void request late

      by : (request : Bool) → requested x.regs ≡ request → NextFrom f Works (r ∷ rs) v (boundary f.l.program outer c)
      by true request = by_lateness outer.late refl request
      by false none = on_time r.rest refl work.work.void none

pub next_works : (f : Code) (st : List Run) (v : Values) (outer : Outer) (c : Chip) → Shape f.t Works st → Sim f Works st v c → NextFrom f Works st v (boundary f.l.program outer c)
next_works f [] v outer c shape sim = absurd sim
next_works f (r ∷ rs) v outer c shape sim = working_next f r rs v outer c shape.1 sim.0 sim.1
