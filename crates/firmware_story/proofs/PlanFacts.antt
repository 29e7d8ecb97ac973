-- The plan of an event's run is that of its layout, and its places lie in its parts.
use Rattle.std.proofs.Common.{◌≡◌, ℕ, ◌+◌, ◌<◌, ◌≤◌, ◌==◌, ◌&&◌, Bool, true, false, nat_le, nat_lt, if◌then◌else◌, length, refl, sym, arith}
use Rattle.std.proofs.lemmas.Bool.{and_from, eq-eqb, le-leb, lt-ltb, ltb-true, or_left, or_right}
use Rattle.efrp_meaning.specs.Bounds.{levels}
use Rattle.map_file.specs.declared.maps.Map.{Map}
use Rattle.priority_masks.specs.Levels.{level_of}
use Rattle.priority_masks.proofs.LevelLaws.{levels-rise}
use Rattle.code_steps.specs.Ends.{Between}
use Rattle.glue_parts.specs.Marks.{Entry, mark}
use Rattle.scratch_commit.specs.declared.kinds.Kind.{Kind}
use Rattle.scratch_commit.specs.declared.kinds.Kind.TheVariants.{Short, Long, Bottom, Middle}
use Rattle.scratch_commit.specs.Plans.{Plan, is_short}
use Rattle.run_steps.specs.Premises.{AreSpotsOf, IsPlanOf, LieInParts}
use Rattle.run_steps.specs.Spots.{Spots, is_locked, spots_by}
use Rattle.firmware_parts.specs.Layout.{Layout}
use Rattle.firmware_parts.specs.Layout.Part.{Begin}
use Rattle.firmware_parts.specs.Times.{short_work}
use Rattle.firmware_layout.specs.Laws.{layout_with}
use Rattle.firmware_layout.specs.Layouts.{has_lock, lies, lies_in, spots_in}
use Rattle.firmware_layout.specs.Pieces.{Makings, kind_of, plan_in}
use Rattle.firmware_layout.specs.Sound.{AreMakings}
use Rattle.firmware_layout.proofs.EventLaws.{level_inside}
use Rattle.firmware_layout.proofs.HeardLaws.{is_heard}
use Rattle.firmware_layout.proofs.LevelLaws.{bottom_is_lowest}

-- A place of an interval.
pub inside_lies : (start stop place : ℕ) → start ≤ place → place < stop → lies start stop place ≡ true
inside_lies start stop place from to = and_from (nat_le start place) (nat_lt place stop) (le-leb start place from) (lt-ltb place stop to)

-- A run with a lock is of a level below another, and isn't short. Without a lock the open stands directly behind the work.
locked_by : (below lowest few : Bool) → is_locked (if below then (if lowest then Bottom else Middle) else if few then Short else Long) ≡ true → below ≡ true
locked_by true lowest few locked = refl
locked_by false lowest true locked = locked
locked_by false lowest false locked = locked

pub locked_is_below : (f : Makings) (e : ℕ) → has_lock f e ≡ true → level_of f.p e < levels f.p
locked_is_below f e locked =
    ltb-true (level_of f.p e) (levels f.p)
    (locked_by (nat_lt (level_of f.p e) (levels f.p)) (level_of f.p e == 1) (nat_le (length (f.work e)) (short_work f.p)) locked)

pub short_has_no_lock : (kind : Kind) → is_short kind ≡ true → is_locked kind ≡ false
short_has_no_lock Short short = refl
short_has_no_lock Long short = refl
short_has_no_lock Bottom short = absurd (cc)
short_has_no_lock Middle short = absurd (cc)

open_is_next : (kind : Kind) (paged : Bool) (start : ℕ) (plan : Plan) → is_locked kind ≡ false → (spots_by kind paged start plan).lock + 1 ≡ (spots_by kind paged start plan).opens
open_is_next Short paged start plan unlocked = refl
open_is_next Long paged start plan unlocked = refl
open_is_next Bottom paged start plan unlocked = absurd (cc)
open_is_next Middle paged start plan unlocked = absurd (cc)

module _ (f : Makings) (program marks : ℕ → ℕ) (m : Map) (making : AreMakings f) (e : ℕ) (real : e < length f.p.events) where
  abbrev l : Layout
  l = layout_with f program marks m

  pub is_plan : IsPlanOf f.p (layout_with f program marks m) e (plan_in f e)
  is_plan = record {
    event = refl;
    source = refl;
    level = sym (level_inside f e real);
    from_one = (levels-rise f.p).from_one e real;
    to_all = (levels-rise f.p).to_all e real;
    levels = making.few;
    frames = making.frames;
    bytes = making.bytes;
    lowest = bottom_is_lowest f e;
    several = λ locked. let below = locked_is_below f e locked in let from = (levels-rise f.p).from_one e real in omega (arith, below, from);
    paged = refl;
    saves_status = refl;
    saves_pclath = refl;
    short = refl;
    locked = refl;
    telling = refl;
    heard = λ level below. is_heard f.p level;
    idle = refl;
    own = refl;
    beneath = refl;
    bank = refl;
    exit_bank = refl;
  }

  pub are_spots : AreSpotsOf (layout_with f program marks m) e (spots_in f marks e)
  are_spots = record { entry = refl; clear = refl; on = λ long. refl; work = λ long. refl; lock = λ long. refl; opens = refl; commits = refl }

  -- Its places lie in its parts.
  abbrev s : Spots
  s = spots_in f marks e

  begins_again : (place : ℕ) → Between (s.lock + 1) s.opens place → lies_in f marks (Begin e) place ≡ true
  begins_again place between = by (has_lock f e) refl
    where
      by : (b : Bool) → has_lock f e ≡ b → lies_in f marks (Begin e) place ≡ true
      by true locked =
          or_right (lies (s.clear + 1) (s.on + 1) place) (has_lock f e && lies (s.lock + 1) s.opens place)
          (and_from (has_lock f e) (lies (s.lock + 1) s.opens place) locked (inside_lies (s.lock + 1) s.opens place between.0 between.1))
      by false unlocked =
          let next = open_is_next (kind_of f e) f.spread.pages (marks (mark (Entry e))) (plan_in f e) unlocked in
          let from = between.0 in
          let to = between.1 in absurd (omega (arith, next, from, to))

  pub lie_in_parts : LieInParts (layout_with f program marks m) e (spots_in f marks e)
  lie_in_parts = record {
    start = λ place between. let to = between.1 in inside_lies s.entry (s.clear + 1) place between.0 (omega (arith, to));
    begin = λ place between.
        let to = between.1 in
        or_left (lies (s.clear + 1) (s.on + 1) place) (has_lock f e && lies (s.lock + 1) s.opens place) (inside_lies (s.clear + 1) (s.on + 1) place between.0 (omega (arith, to)));
    again = begins_again;
    work = λ place between. inside_lies s.work s.opens place between.0 between.1;
    lock = λ place between. inside_lies (s.lock + 1) s.opens place between.0 between.1;
    opens = λ place between. let from = between.0 in let to = between.1 in eq-eqb s.opens place (omega (arith, from, to));
    copying = λ place between. inside_lies (s.opens + 1) s.commits place between.0 between.1;
    commits = λ place between. let from = between.0 in let to = between.1 in eq-eqb s.commits place (omega (arith, from, to));
    exit = λ place between. let to = between.1 in inside_lies (s.commits + 1) (s.stops + 1) place between.0 (omega (arith, to));
  }
