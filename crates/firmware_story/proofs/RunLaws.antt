-- The run of each event stands where the layout says, and does what is to be known of it there.
use Rattle.std.proofs.Common.{ℕ, ◌+◌, ◌%◌, ◌<◌, length, sym, subst}
use Rattle.efrp_meaning.specs.Bounds.{body}
use Rattle.map_file.specs.declared.maps.Map.{Map}
use Rattle.code_items.specs.Lines.{Stands}
use Rattle.core_story.specs.Values.{name_at}
use Rattle.glue_parts.specs.Marks.{Entry, mark}
use Rattle.firmware_parts.specs.Times.{starting, times}
use Rattle.run_steps.specs.Premises.{IsRunIn}
use Rattle.firmware_layout.specs.Laws.{RunStands, layout_with}
use Rattle.firmware_layout.specs.Layouts.{spots_in}
use Rattle.firmware_layout.specs.Made.{IsMade}
use Rattle.firmware_layout.specs.Pieces.{Makings, plan_in, run_of}
use Rattle.firmware_layout.specs.Sound.{AreMakings, IsCodeIn, IsMapIn}
use Rattle.firmware_layout.proofs.MadeLaws.{is_making}
use Rattle.firmware_layout.proofs.StandLaws.{each-run-stands, entry_is}
use Rattle.firmware_story.specs.Laws.{AreWords, RunIsIn}
use Rattle.firmware_story.proofs.FrameFacts.{is_frame, spares}
use Rattle.firmware_story.proofs.MayFacts.{may_be_written}
use Rattle.firmware_story.proofs.PlanFacts.{are_spots, is_plan, lie_in_parts}
use Rattle.firmware_story.proofs.StateFacts.{makes_states}
use Rattle.firmware_story.proofs.TimeFacts.{fits_times}
use Rattle.firmware_story.proofs.WorkFacts.{does_work}

module _ (f : Makings) (program marks : ℕ → ℕ) (m : Map) (made : IsMade f) (making : AreMakings f) (code : IsCodeIn f program marks) (map_in : IsMapIn f marks m) (words : AreWords program)
    (e : ℕ) (real : e < length f.p.events) where
  stands : RunStands f program marks e
  stands = each-run-stands f program marks e making code real

  -- From its mark on.
  at_mark : IsRunIn f.p m (times f.p m) (layout_with f program marks m) marks (starting f.p) (marks (mark (Entry e))) (plan_in f e) e
  at_mark = record {
    stop = ((spots_in f marks e).stops + 1) % 8192;
    stands = subst (λ r. Stands f.spread.pages program marks r (run_of f e) (((spots_in f marks e).stops + 1) % 8192)) (entry_is f marks e) stands.stands;
    room = stands.room;
    page = stands.page;
    words = words;
    instructions = (making.works e real).instructions;
    planned = is_plan f program marks m making e real;
    spots = are_spots f program marks m making e real;
    lie = lie_in_parts f program marks m making e real;
    times = fits_times f program marks m made making map_in e real;
    may = may_be_written f program marks m making e real;
    spares = spares f program marks m making e real;
    frame = is_frame f program marks m making e real;
    states = makes_states f program marks m making e real;
    most = body f.p (name_at m e);
    work = does_work f program marks m made making map_in e real;
  }

  in_layout : IsRunIn f.p m (times f.p m) (layout_with f program marks m) marks (starting f.p) (spots_in f marks e).entry (plan_in f e) e
  in_layout =
      subst (λ r. IsRunIn f.p m (times f.p m) (layout_with f program marks m) marks (starting f.p) r (plan_in f e) e) (sym (entry_is f marks e)) at_mark

pub run-is_in : (f : Makings) (program marks : ℕ → ℕ) (m : Map) (event : ℕ) → RunIsIn f program marks m event
run-is_in f program marks m event made code map_in words real = in_layout f program marks m made (is_making f made) code map_in words event real
