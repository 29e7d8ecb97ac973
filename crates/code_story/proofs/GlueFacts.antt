-- What is known of a chip with interrupts off stays so over a step of glue of a part.
use Rattle.std.specs.Prelude.{ℕ, ◌<◌, ◌≤◌, true, false, List}
use Rattle.std.proofs.Common.{◌≡◌, sym, ap, subst, ◌∙◌}
use Rattle.efrp_meaning.specs.States.{IsState}
use Rattle.pic_regs.specs.Bytes.{Byte}
use Rattle.pic_machine.specs.Chip.{Chip}
use Rattle.pic_machine.specs.Results.{Done}
use Rattle.pic_machine.specs.Boundary.{Outer}
use Rattle.pic_machine.proofs.TurnLaws.{with_outer}
use Rattle.timed_core.specs.Steps.{Run}
use Rattle.core_story.specs.Values.{Values}
use Rattle.glue_steps.specs.Laws.{StillIn}
use Rattle.glue_steps.proofs.StillLaws.{still_off}
use Rattle.firmware_parts.specs.Layout.{Part, piece}
use Rattle.firmware_parts.specs.Contexts.{AtLevel, SameEnables}
use Rattle.code_story.specs.Arranged.{IsPart, Spares, is_boot_part, leaves_states, leaves_enables}
use Rattle.code_story.specs.Code.{Code}
use Rattle.code_story.specs.Laws.{Touches}
use Rattle.code_story.specs.Relation.{level_of_top, SameFrames, Over, Beneath, Past, InGlue, InRun}
use Rattle.code_story.proofs.KeptFacts.{SameStack, still_touches, still_stack, past_stays, states_stay, frames_stay, enables_stay, level_moves, over_moves, beneath_moves}

-- The enables of a level are those of the chip with what comes from outside.
pub outer_level : (f : Code) (level : ℕ) (outer : Outer) (c : Chip) → AtLevel f.l level c → AtLevel f.l level (with_outer outer c)
outer_level f level outer c at_level = record {
  peie = at_level.peie;
  t0ie = at_level.t0ie;
  inte = at_level.inte;
  rbie = at_level.rbie;
  pie1 = at_level.pie1;
  pie2 = at_level.pie2;
}

-- Past the boot with the same state: other values.
pub past_values : (f : Code) (v w : Values) (c : Chip) → w.state ≡ v.state → Past f.p v c → Past f.p w c
past_values f v w c same past = record { rbie = past.rbie; set_up = past.set_up; typed = subst (IsState f.p) (sym same) past.typed }

pub glue_values : (f : Code) (v w : Values) (c : Chip) → w.state ≡ v.state → InGlue f.p v c → InGlue f.p w c
glue_values f v w c same glue = record { none_due = glue.none_due; off = glue.off; past = past_values f v w c same glue.past }

module _ (f : Code) (part : Part) (is_part : IsPart f.l part) (outer : Outer) (c : Chip) (done : Done) (step : StillIn f.l.program (piece f.l part) (with_outer outer c) done) where
  pub its_touches : Touches f.l part c done.chip
  its_touches = still_touches f.l part outer c done step

  pub its_stack : SameStack c done.chip
  its_stack = still_stack f.l part outer c done step

  pub glue_stays : (v : Values) → is_boot_part part ≡ false → InGlue f.p v c → InGlue f.p v done.chip
  glue_stays v later glue = record {
    none_due = ap (λ (x : Chip). x.due) step.kept ∙ glue.none_due;
    off = still_off f.l.program _ _ (with_outer outer c) done step;
    past = past_stays f part v c done.chip is_part later its_touches glue.past;
  }

  pub shown_stays : (v : Values) → leaves_states part ≡ true → f.l.states c.regs.plain ≡ v.state → f.l.states done.chip.regs.plain ≡ v.state
  shown_stays v leaves shows = states_stay f part c done.chip is_part leaves its_touches ∙ shows

  pub frames_left : (level : ℕ) → ((x : ℕ) → 0 < f.l.level x → f.l.level x ≤ level → Spares f.l part x) → SameFrames f.l level c done.chip
  frames_left level spares = frames_stay f part level c done.chip is_part spares its_touches

  pub over_stays : (st : List Run) (x : Chip) → ((y : ℕ) → 0 < f.l.level y → f.l.level y ≤ level_of_top f.l st → Spares f.l part y) → Over f.l st x c → Over f.l st x done.chip
  over_stays st x spares over = over_moves f.l st x c done.chip its_stack (frames_left (level_of_top f.l st) spares) over

  -- In a run that leaves its own frame and the enables.
  pub run_stays : (e : ℕ) (rs : List Run) (v : Values) → is_boot_part part ≡ false → leaves_enables part ≡ true → ((x : ℕ) → 0 < f.l.level x → f.l.level x ≤ f.l.level e → Spares f.l part x)
      → level_of_top f.l rs ≤ f.l.level e → InRun f e rs v c → InRun f e rs v done.chip
  run_stays e rs v later leaves spares low run = record {
    glue = glue_stays v later run.glue;
    real = run.real;
    beneath = beneath_moves f e rs c done.chip run.real low (enables_stay f part is_part outer c done step leaves) its_stack (frames_left (f.l.level e) spares) run.beneath;
  }

  pub level_stays : (level : ℕ) → leaves_enables part ≡ true → AtLevel f.l level c → AtLevel f.l level done.chip
  level_stays level leaves at_level =
      level_moves f.l level c done.chip (enables_stay f part is_part outer c done step leaves) (its_touches.rbie ∙ at_level.rbie) at_level

-- In a run with other values of the same state.
pub run_values : (f : Code) (e : ℕ) (rs : List Run) (v w : Values) (c : Chip) → w.state ≡ v.state → InRun f e rs v c → InRun f e rs w c
run_values f e rs v w c same run = record { glue = glue_values f v w c same run.glue; real = run.real; beneath = run.beneath }

-- A step that writes nothing but INTCON's GIE, flags, and what is neither written nor saved, leaves what a run has to give back.
pub run_beneath : (f : Code) (e : ℕ) (rs : List Run) (c d : Chip) → 0 < f.l.level e → level_of_top f.l rs ≤ f.l.level e → d.regs.plain ≡ c.regs.plain → SameEnables c d → SameStack c d
    → Beneath f.t f.l e rs c → Beneath f.t f.l e rs d
run_beneath f e rs c d real low plain enables stack beneath =
    beneath_moves f e rs c d real low enables stack (λ x address its most in_frame. ap (λ (g : ℕ → Byte). g address) plain) beneath
