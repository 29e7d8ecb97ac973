-- The frame of a run lies in the bytes of its level, or where a taking saves.
use Rattle.std.proofs.Common.{ℕ, ◌<◌, ◌≤◌, ◌&&◌, Bool, true, false, if◌then◌else◌, inl, inr, sym, subst, refl, arith, lit<}
use Rattle.std.specs.Option.{ForSome}
use Rattle.std.proofs.lemmas.Option.{none-some, same_Some}
use Rattle.frp_tree.specs.Tree.{ProgramTree}
use Rattle.pic_regs.specs.declared.places.Place.{Place}
use Rattle.bank_alloc.specs.declared.needs.Needs.{Needs}
use Rattle.priority_masks.specs.Levels.{level_of}
use Rattle.priority_masks.proofs.LevelLaws.{levels-rise}
use Rattle.glue_parts.specs.declared.kept.TheConstants.{SAVED_PCLATH, SAVED_STATUS}
use Rattle.scratch_commit.specs.declared.frames.Frame.{Frame}
use Rattle.scratch_commit.specs.declared.runs.Run.{Run}
use Rattle.scratch_commit.specs.Frames.{byte_of_frame, is_between, is_over_runs, wanted}
use Rattle.scratch_commit.specs.Masks.{saved_of}
use Rattle.scratch_commit.specs.Plans.{Plan, context_in, masks_in, plan_of}
use Rattle.firmware_map.specs.Laws.{FrameIsPlaced, IsFrame, IsFramePlace}

-- A place that is wanted, and one of two.
of-wanted : (need : Needs) (b : Bool) (at : Place) → IsFramePlace need at → ForSome (wanted b at) (IsFramePlace need)
of-wanted need true at lies x same = subst (IsFramePlace need) (same_Some at x same) lies
of-wanted need false at lies x none = absurd (none-some x none)

of-either : (need : Needs) (b : Bool) (x y : Place) → IsFramePlace need x → IsFramePlace need y → IsFramePlace need (if b then x else y)
of-either need true x y first second = first
of-either need false x y first second = second

-- A frame with these places, of which some are wanted.
module _ (need : Needs) (level : ℕ) (from : 1 ≤ level) (to : level ≤ need.levels) where
  byte : (n : ℕ) → n < 6 → IsFramePlace need (byte_of_frame need level n)
  byte n six = inr (inr (level, n, from, to, six, refl))

  pub lies : (between status pclath intcon pie1 pie2 : Bool) → IsFrame need (record {
    status = wanted status (if between then byte_of_frame need level 1 else SAVED_STATUS);
    pclath = wanted pclath (if between then byte_of_frame need level 2 else SAVED_PCLATH);
    intcon = wanted intcon (byte_of_frame need level 3);
    pie1 = wanted pie1 (byte_of_frame need level 4);
    pie2 = wanted pie2 (byte_of_frame need level 5);
  })
  lies between status pclath intcon pie1 pie2 = record {
    status = of-wanted need status (if between then byte_of_frame need level 1 else SAVED_STATUS)
        (of-either need between (byte_of_frame need level 1) SAVED_STATUS (byte 1 (lit< tt)) (inl refl));
    pclath = of-wanted need pclath (if between then byte_of_frame need level 2 else SAVED_PCLATH)
        (of-either need between (byte_of_frame need level 2) SAVED_PCLATH (byte 2 (lit< tt)) (inr (inl refl)));
    intcon = of-wanted need intcon (byte_of_frame need level 3) (byte 3 (lit< tt));
    pie1 = of-wanted need pie1 (byte_of_frame need level 4) (byte 4 (lit< tt));
    pie2 = of-wanted need pie2 (byte_of_frame need level 5) (byte 5 (lit< tt));
  }

pub frame-is_placed : (p : ProgramTree) (run : Run) (f : Frame) → FrameIsPlaced p run f
frame-is_placed p run f fine are is =
    let rise = levels-rise p in
    let events = are.events in
    let inside = fine.event in
    let from = rise.from_one run.event (omega (arith, events, inside)) in
    let most = rise.to_all run.event (omega (arith, events, inside)) in
    let count = are.count in
    let placed = fine.placed in
    let plan : Plan = plan_of p run is.heard in
    subst (IsFrame run.places.now.need) (sym is.is_its)
    (lies run.places.now.need (level_of p run.event) from (omega (arith, most, count, placed))
    (is_between run.kind) (is_over_runs run.kind && (context_in plan).status) (is_over_runs run.kind && (context_in plan).pclath)
    (saved_of (masks_in plan)).intcon (saved_of (masks_in plan)).pie1 (saved_of (masks_in plan)).pie2)
