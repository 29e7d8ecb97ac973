-- From a commit to the return, and what the interrupted chip gets back.
use Rattle.std.specs.Prelude.{ℕ, zero, suc, ◌+◌, ◌%◌, ◌<◌, ◌≤◌, ◌==◌, true, false, List, [], ◌∷◌, length, Some}
use Rattle.std.specs.List.{cons_option}
use Rattle.std.proofs.Common.{◌≡◌, refl, sym, ap, subst, ◌∙◌, arith, inl, inr}
use Rattle.std.proofs.Math.Bool.{and-true}
use Rattle.std.proofs.lemmas.Bool.{both_ways}
use Rattle.pic_regs.specs.Registers.{flag}
use Rattle.pic_machine.specs.declared.steps.PortWrite.{PortWrite}
use Rattle.pic_machine.specs.Chip.{Chip}
use Rattle.pic_machine.specs.Results.{Done}
use Rattle.pic_machine.specs.Boundary.{Outer, boundary}
use Rattle.pic_machine.proofs.TurnLaws.{with_outer, step_of}
use Rattle.timed_core.specs.Steps.{Run, Phase, Label, at}
use Rattle.timed_core.specs.Steps as core
use Rattle.timed_core.specs.Steps.Phase.{Rests, Works, Leaves}
use Rattle.timed_core.specs.Steps.Label.{Stays, Returns}
use Rattle.timed_core.specs.Shape.{Shape, Tower}
use Rattle.core_story.specs.Values.{Values}
use Rattle.core_story.specs.Interface.{Told, flag_at}
use Rattle.code_steps.specs.declared.banks.Bank.TheVariants.{Known}
use Rattle.code_steps.specs.Steps.{own}
use Rattle.code_steps.proofs.BetweenLaws.{arrival_alone}
use Rattle.glue_steps.specs.Lines.{quiet}
use Rattle.glue_steps.specs.Laws.{StillIn}
use Rattle.firmware_parts.specs.Layout.{is_told, piece}
use Rattle.firmware_parts.specs.Layout.Part.{Taking, Exit}
use Rattle.firmware_parts.specs.Contexts.{SameEnables, AtLevel}
use Rattle.firmware_parts.specs.Runs.{Leads, AtReturn}
use Rattle.code_story.specs.Code.{Code}
use Rattle.code_story.specs.Relation.{level_of_top, AtReady, InWork, Beneath, Past, Resting, Leaving, Sim}
use Rattle.code_story.proofs.ChipFacts.{returned, returns_is}
use Rattle.code_story.proofs.ArrangedFacts.{Elsewhere, return_is_elsewhere, above_its_top, seven_beneath}
use Rattle.code_story.proofs.KeptFacts.{untouched, past_stays, told_stays, level_moves, holds_same, easy_same, usual_same}
use Rattle.code_story.proofs.GlueFacts.{its_touches, glue_stays, shown_stays, over_stays}
use Rattle.code_story.proofs.ToldFacts.{NextFrom, Shows, told_by, still_shows, running_turn, puts_nothing, by_off}
use Rattle.code_story.proofs.WorkLaws.{void_moves}

-- The place below the top of the return stack.
below_top : (top n : ℕ) → top ≡ suc n % 8 → n ≤ 7 → (top + 7) % 8 ≡ n
below_top top n is few = omega (arith, is, few)

module _ (f : Code) (e : ℕ) (st : List Run) (v : Values) (outer : Outer) (c : Chip) (tower : Tower f.t st) (higher : level_of_top f.l st < f.l.level e) (j : ℕ) (leaves : Leaving f e j st v c) where
  abbrev x : Chip
  x = with_outer outer c

  abbrev y : Chip
  y = leaves.chip

  -- At the return: `d` is the chip behind it, `y` the one that was interrupted.
  module _ (ends : AtReturn f.l leaves.chip c) where
    abbrev d : Chip
    d = returned x

    back_is : own f.l.program x ≡ Some (quiet d)
    back_is = returns_is f.l.program x ends.word

    few : length st ≤ 7
    few = seven_beneath f st e tower higher

    top_is : d.top ≡ length st
    top_is = below_top c.top (length st) leaves.over.top few

    place_is : d.pc ≡ y.pc
    place_is = ap c.stack top_is ∙ leaves.over.place

    depth_is : d.depth ≤ length st
    depth_is = let deep = leaves.over.depth in omega (arith, deep)

    enables_back : SameEnables y d
    enables_back = let same = ends.back.enables in record { peie = same.peie; t0ie = same.t0ie; inte = same.inte; pie1 = same.pie1; pie2 = same.pie2 }

    past_back : Past f.p v d
    past_back = past_stays f Taking v c d tt refl (untouched f.l Taking c d refl refl refl) leaves.glue.past

    level_back : (level : ℕ) → AtLevel f.l level y → AtLevel f.l level d
    level_back level at_level = level_moves f.l level y d enables_back leaves.glue.past.rbie at_level

    return_shows : Shows f.m f.l (Leaves e j) st Returns outer c d (quiet d)
    return_shows =
        let elsewhere : Elsewhere f.l c.pc = return_is_elsewhere f c.pc ends.word in
        record {
          taking = refl;
          returned = ap (λ w. w == 0x0009) ends.word;
          opened = elsewhere.no_open;
          committed = elsewhere.no_commit;
          flags = λ z its. sym (and-true (flag (f.l.source z) x.regs));
          heard = λ on. absurd (both_ways false refl on);
          kept = λ boot. absurd (both_ways false refl boot);
          listed = tt;
        }

    return_told : Told f.m f.t (Leaves e j) st Returns (step_of outer c (running_turn f.l.program c d (quiet d)))
    return_told = told_by f (Leaves e j) st Returns outer c d (quiet d) return_shows

    -- To rest, and to the work of a run, which is void.
    rests_again : AtReady f.l y → length st ≡ 0 → Resting f false v d
    rests_again ready none = record {
      on = refl;
      due_is = leaves.glue.none_due;
      past = past_back;
      shows = leaves.shows;
      at_ready = record {
        there = place_is ∙ ready.there;
        heard = level_back 0 ready.heard;
        bank = holds_same (Known 0) y d ends.back.rp1 ends.back.rp0 ready.bank;
        page = ends.back.pclath ∙ ready.page;
      };
      top = top_is ∙ none;
      depth = let deep = depth_is in omega (arith, deep, none);
    }

    work_again : (r : Run) → InWork f.l r y → InWork f.l r d
    work_again r work = record {
      real = work.real;
      long = work.long;
      heard = level_back (f.l.level r.event) work.heard;
      easy = easy_same f.l y d ends.back.pclath work.easy;
      usual = λ locked. usual_same f.l y d ends.back.rp1 ends.back.rp0 ends.back.pclath (work.usual locked);
      void = void_moves f.l r.event r.rest y d (record { pc = place_is; rp1 = ends.back.rp1; rp0 = ends.back.rp0; pclath = ends.back.pclath }) work.void;
    }

    -- What the interrupted run has to give back is as it was on `y`.
    beneath_again : (r : Run) (rs : List Run) → 0 < f.l.level r.event → level_of_top f.l rs < f.l.level r.event → length st ≡ suc (length rs) → level_of_top f.l st ≡ f.l.level r.event
        → Beneath f.t f.l r.event rs y → Beneath f.t f.l r.event rs d
    beneath_again r rs real lower one_more its_level beneath = record {
      chip = beneath.chip;
      saved = (f.runs r.event real).saved_stays beneath.chip y d beneath.saved enables_back (λ address in_frame. leaves.over.frames r.event address real (omega (arith, its_level)) in_frame);
      over = record {
        place = leaves.over.beneath (length rs) (omega (arith, one_more)) ∙ beneath.over.place;
        beneath = λ i less. leaves.over.beneath i (omega (arith, less, one_more)) ∙ beneath.over.beneath i less;
        top = let its = top_is in let seven = few in omega (arith, its, seven, one_more);
        depth = let deep = depth_is in omega (arith, deep, one_more);
        frames = λ z address its low in_frame. leaves.over.frames z address its (omega (arith, low, lower, its_level)) in_frame ∙ beneath.over.frames z address its low in_frame;
      };
      paused = beneath.paused;
    }

    leave_ends : (core_next : Phase) → core.Step f.t (flag_at f.m x.regs) (Leaves e j) Returns st (at core_next st) → Sim f core_next st v d → NextFrom f (Leaves e j) st v (boundary f.l.program outer c)
    leave_ends core_next goes sim = by_off f (Leaves e j) st v outer c (quiet d) leaves.glue.none_due leaves.glue.off back_is (record {
      label = Returns;
      phase = core_next;
      stack = st;
      values = v;
      goes = goes;
      valued = (refl, refl);
      told = return_told;
      keeps = sim;
    })

  -- A step before it.
  leave_on : (k : ℕ) → k < j → (done : Done) (step : StillIn f.l.program (piece f.l (Exit e)) x done) (rest : List PortWrite) → [] ≡ cons_option done.port rest
      → Leads f.l (Exit e) (AtReturn f.l y) rest k done.chip → NextFrom f (Leaves e j) st v (step_of outer c (running_turn f.l.program c done.chip done))
  leave_on k less done step rest puts leads = record {
    label = Stays;
    phase = Leaves e k;
    stack = st;
    values = v;
    goes = (k, less, refl);
    valued = ((puts_nothing done.port rest puts).0, refl);
    told = told_by f (Leaves e j) st Stays outer c done.chip done (still_shows f (Exit e) (Leaves e j) st Stays outer c done leaves.real refl refl refl step);
    keeps = record {
      glue = glue_stays f (Exit e) leaves.real outer c done step v refl leaves.glue;
      real = leaves.real;
      shows = shown_stays f (Exit e) leaves.real outer c done step v refl leaves.shows;
      told = λ telling. told_stays f (Exit e) c done.chip leaves.real refl (its_touches f (Exit e) leaves.real outer c done step) ∙ leaves.told telling;
      chip = y;
      over = over_stays f (Exit e) leaves.real outer c done step st y (λ z its low. omega (arith, low, higher)) leaves.over;
      paused = leaves.paused;
      leads = subst (λ bytes. Leads f.l (Exit e) (AtReturn f.l y) bytes k done.chip) (puts_nothing done.port rest puts).1 leads;
    };
  }

  leaving_next : (k : ℕ) → k ≤ j → (AtReturn f.l y c → NextFrom f (Leaves e j) st v (boundary f.l.program outer c)) → Leads f.l (Exit e) (AtReturn f.l y) [] k c
      → NextFrom f (Leaves e j) st v (boundary f.l.program outer c)
  leaving_next zero in_time at_end ends = at_end ends.1
  leaving_next (suc k) in_time at_end (inl ends) = at_end ends.1
  leaving_next (suc k) in_time at_end (inr goes) =
      let step = goes x (arrival_alone outer c) in
      by_off f (Leaves e j) st v outer c step.0 leaves.glue.none_due leaves.glue.off step.1 (leave_on k (omega (arith, in_time)) step.0 step.2 step.3 step.4 step.5)

pub next_leaves : (f : Code) (e j : ℕ) (st : List Run) (v : Values) (outer : Outer) (c : Chip) → Shape f.t (Leaves e j) st → Leaving f e j st v c → NextFrom f (Leaves e j) st v (boundary f.l.program outer c)
next_leaves f e j [] v outer c shape leaves =
    let higher : 0 < f.l.level e = leaves.real in
    leaving_next f e [] v outer c tt higher j leaves j (omega arith)
    (λ ends. leave_ends f e [] v outer c tt higher j leaves ends Rests refl (rests_again f e [] v outer c tt higher j leaves ends leaves.paused refl)) leaves.leads
next_leaves f e j (r ∷ rs) v outer c shape leaves =
    let higher : f.l.level r.event < f.l.level e = above_its_top f (r ∷ rs) e shape.2 in
    let paused = leaves.paused in
    let real : 0 < f.l.level r.event = paused.0.real in
    let void : r.void ≡ true = shape.0.0 in
    let told : is_told c ≡ true = leaves.told (f.arranged.levels.telling e r.event real higher) in
    leaving_next f e (r ∷ rs) v outer c shape.1 higher j leaves j (omega arith)
    (λ ends. leave_ends f e (r ∷ rs) v outer c shape.1 higher j leaves ends Works refl (
      record {
        on_is = refl;
        due_is = leaves.glue.none_due;
        past = past_back f e (r ∷ rs) v outer c shape.1 higher j leaves ends;
        shows = leaves.shows;
        work = work_again f e (r ∷ rs) v outer c shape.1 higher j leaves ends r paused.0;
        beneath = beneath_again f e (r ∷ rs) v outer c shape.1 higher j leaves ends r rs real (above_its_top f rs r.event (let its = shape.1 in its.1)) refl refl paused.2;
      },
      record {
        told = λ locked. told ∙ sym void;
        never_void = λ unlocked. absurd (both_ways (f.l.is_locked r.event) unlocked paused.1);
        clean = λ fresh. absurd (both_ways r.void fresh void);
      },
    )) leaves.leads
