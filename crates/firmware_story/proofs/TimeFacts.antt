-- The run of an event takes no more steps than its program's times have.
use Rattle.std.proofs.Common.{◌≡◌, ℕ, ◌<◌, ◌≤◌, ◌==◌, ◌&&◌, Bool, true, false, not, nat_le, nat_lt, if◌then◌else◌, Option, Some, None, List, [], ◌∷◌, ◌++◌, length, refl, ap, subst, arith, lit<, length-append, append_assoc}
use Rattle.std.specs.Option.{ForSome}
use Rattle.std.proofs.lemmas.Bool.{leb-true}
use Rattle.std.proofs.lemmas.Option.{none-some, same_Some}
use Rattle.efrp_meaning.specs.Bounds.{commit_bytes, levels}
use Rattle.efrp_types.specs.Numbers.{event_name}
use Rattle.pic_regs.specs.declared.places.Place.{Place}
use Rattle.pic_regs.specs.declared.places.Place.TheVariants as place
use Rattle.pic_regs.specs.Bytes.{bit, bits}
use Rattle.map_file.specs.declared.maps.Map.{Map}
use Rattle.bank_alloc.specs.Addresses.{address_of}
use Rattle.priority_masks.specs.Levels.{level_of}
use Rattle.priority_masks.proofs.LevelLaws.{levels-rise}
use Rattle.code_steps.specs.declared.banks.Bank.{Bank}
use Rattle.code_steps.specs.declared.banks.Bank.TheVariants.{Known}
use Rattle.glue_parts.specs.declared.kept.TheConstants.{SAVED_PCLATH, SAVED_STATUS}
use Rattle.glue_parts.specs.Kept.{frame_cell}
use Rattle.glue_parts.specs.Pieces.{bank_of_flag}
use Rattle.glue_parts.proofs.FrameLaws.{frame-lies}
use Rattle.scratch_commit.specs.declared.frames.Frame.{Frame}
use Rattle.scratch_commit.specs.declared.kinds.Kind.TheVariants.{Short, Long, Bottom, Middle}
use Rattle.scratch_commit.specs.Deeds.{Change, Choose, Deed, Make, bank_past, lines_in}
use Rattle.scratch_commit.specs.Frames.{bringing, byte_of_frame, is_between, is_over_runs, saving, saving_context, saving_enables, unmasking, wanted}
use Rattle.scratch_commit.specs.Masks.{masking, saved_of, unmask_bit, unmask_register}
use Rattle.scratch_commit.specs.Plans.{Plan, clearing_page, context_in, frame_in, going_home, is_short, masks_in, over_idle}
use Rattle.scratch_commit.proofs.DeedLaws.{lines_then}
use Rattle.firmware_parts.specs.Times.{short_work, starting, times}
use Rattle.run_steps.specs.Premises.{FitsTimes}
use Rattle.run_steps.specs.Spots.{entering_in, exit_bank, open_bank, returning_in}
use Rattle.event_code.proofs.MoveLaws.{moves-few}
use Rattle.firmware_layout.specs.Laws.{layout_with}
use Rattle.firmware_layout.specs.Made.{DoesEvent, IsMade}
use Rattle.firmware_layout.specs.Pieces.{Makings, kind_of, plan_in}
use Rattle.firmware_layout.specs.Sound.{AreMakings, IsMapIn}
use Rattle.firmware_story.proofs.CostFacts.{Cost, Costs, Near, again_cost, change_cost, clearing_cost, cost_none, cost_one, costs_both, ends_few, for_few, home_cost, mask_cost, near_plain, away_few, pie1_cost, pie2_cost, restarting_cost, saving_cost, window_few}
use Rattle.firmware_story.proofs.WorkFacts.{does_work}

-- The work of a short run has few instructions.
short_by : (below lowest few : Bool) → is_short (if below then (if lowest then Bottom else Middle) else if few then Short else Long) ≡ true → few ≡ true
short_by true true few short = absurd (cc)
short_by true false few short = absurd (cc)
short_by false lowest true short = refl
short_by false lowest false short = absurd (cc)

short_is_few : (f : Makings) (e : ℕ) → is_short (kind_of f e) ≡ true → length (f.work e) ≤ short_work f.p
short_is_few f e short =
    leb-true (length (f.work e)) (short_work f.p)
    (short_by (nat_lt (level_of f.p e) (levels f.p)) (level_of f.p e == 1) (nat_le (length (f.work e)) (short_work f.p)) short)

near_wanted : (t : Bool) (p : Place) → Near p → ForSome (wanted t p) Near
near_wanted true p near q is = subst Near (same_Some p q is) near
near_wanted false p near q is = absurd (none-some q is)

near_either : (t : Bool) (p q : Place) → Near p → Near q → Near (if t then p else q)
near_either true p q first second = first
near_either false p q first second = second

-- A run saves in bank 0, or in bytes that are in each.
module _ (f : Makings) (making : AreMakings f) (e : ℕ) (real : e < length f.p.events) where
  abbrev plan : Plan
  plan = plan_in f e

  abbrev frame : Frame
  frame = frame_in plan

  byte_near : (byte : ℕ) → byte < 6 → Near (byte_of_frame f.need plan.level byte)
  byte_near byte six =
      let most = (levels-rise f.p).to_all e real in
      let frames = making.frames in
      let eight = making.few in
      let low = (frame-lies f.need plan.level byte making.bytes ((levels-rise f.p).from_one e real) (omega (arith, most, frames)) six).1 (omega (arith, most, eight)) in
      near_plain (address_of f.need (frame_cell f.need plan.level byte)) (omega (arith, low))

  status_near : ForSome frame.status Near
  status_near =
      near_wanted (is_over_runs plan.kind && (context_in plan).status) (if is_between plan.kind then byte_of_frame f.need plan.level 1 else SAVED_STATUS)
      (near_either (is_between plan.kind) (byte_of_frame f.need plan.level 1) SAVED_STATUS (byte_near 1 (lit< tt)) (near_plain 0x071 (lit< tt)))

  pclath_near : ForSome frame.pclath Near
  pclath_near =
      near_wanted (is_over_runs plan.kind && (context_in plan).pclath) (if is_between plan.kind then byte_of_frame f.need plan.level 2 else SAVED_PCLATH)
      (near_either (is_between plan.kind) (byte_of_frame f.need plan.level 2) SAVED_PCLATH (byte_near 2 (lit< tt)) (near_plain 0x072 (lit< tt)))

  intcon_near : ForSome frame.intcon Near
  intcon_near = near_wanted (saved_of (masks_in plan)).intcon (byte_of_frame f.need plan.level 3) (byte_near 3 (lit< tt))

  -- Before the clearing of the flag.
  context_cost : (between : Bool) → Costs 14 (if between then saving SAVED_STATUS frame.status ++ saving SAVED_PCLATH frame.pclath else [])
  context_cost true = costs_both 7 7 (saving SAVED_STATUS frame.status) (saving SAVED_PCLATH frame.pclath) (saving_cost SAVED_STATUS frame.status) (saving_cost SAVED_PCLATH frame.pclath)
  context_cost false = cost_none 14

  enables_cost : Costs 21 (saving_enables frame)
  enables_cost =
      costs_both 7 14 (saving place.Intcon frame.intcon) (saving place.Pie1 frame.pie1 ++ saving place.Pie2 frame.pie2) (saving_cost place.Intcon frame.intcon)
      (costs_both 7 7 (saving place.Pie1 frame.pie1) (saving place.Pie2 frame.pie2) (saving_cost place.Pie1 frame.pie1) (saving_cost place.Pie2 frame.pie2))

  masking_cost : Costs 11 (masking (masks_in plan))
  masking_cost =
      let cleared = (masks_in plan).intcon.cleared in
      let t0 : List Deed = if bit 5 (bits cleared) then Make false place.Intcon 5 ∷ [] else [] in
      let int : List Deed = if bit 4 (bits cleared) then Make false place.Intcon 4 ∷ [] else [] in
      let peie : List Deed = if bit 6 (bits cleared) then Make false place.Intcon 6 ∷ [] else [] in
      let pie1 : Deed = Change place.Pie1 (masks_in plan).pie1.cleared (masks_in plan).pie1.own in
      let pie2 : Deed = Change place.Pie2 (masks_in plan).pie2.cleared (masks_in plan).pie2.own in
      costs_both 1 10 t0 (int ++ (peie ++ pie1 ∷ pie2 ∷ [])) (mask_cost 5 (bit 5 (bits cleared)))
      (costs_both 1 9 int (peie ++ pie1 ∷ pie2 ∷ []) (mask_cost 4 (bit 4 (bits cleared)))
      (costs_both 1 8 peie (pie1 ∷ pie2 ∷ []) (mask_cost 6 (bit 6 (bits cleared)))
      (costs_both 4 4 (pie1 ∷ []) (pie2 ∷ [])
      (cost_one 4 pie1 (change_cost place.Pie1 (masks_in plan).pie1.cleared (masks_in plan).pie1.own refl))
      (cost_one 4 pie2 (change_cost place.Pie2 (masks_in plan).pie2.cleared (masks_in plan).pie2.own refl)))))

  entering_cost : Costs 46 (entering_in plan)
  entering_cost =
      let masks = masking (masks_in plan) in
      costs_both 14 32 (saving_context plan.kind frame) (saving_enables frame ++ (masks ++ Choose 0 ∷ [])) (context_cost (is_between plan.kind))
      (costs_both 21 11 (saving_enables frame) (masks ++ Choose 0 ∷ []) enables_cost
      (costs_both 11 0 masks (Choose 0 ∷ []) masking_cost (cost_one 0 (Choose 0) home_cost)))

  -- Behind the commit.
  pie1_back : (o : Option Place) → ForSome o Near → Cost 4 (unmask_register place.Pie1 (masks_in plan).pie1 o)
  pie1_back None near = change_cost place.Pie1 (masks_in plan).pie1.cleared (masks_in plan).pie1.beneath refl
  pie1_back (Some p) near = pie1_cost p (near p refl)

  pie2_back : (o : Option Place) → ForSome o Near → Cost 4 (unmask_register place.Pie2 (masks_in plan).pie2 o)
  pie2_back None near = change_cost place.Pie2 (masks_in plan).pie2.cleared (masks_in plan).pie2.beneath refl
  pie2_back (Some p) near = pie2_cost p (near p refl)

  unmasking_cost : Costs 14 (unmasking (masks_in plan) frame)
  unmasking_cost =
      let cleared = (masks_in plan).intcon.cleared in
      let beneath = (masks_in plan).intcon.beneath in
      let pie1 : Deed = unmask_register place.Pie1 (masks_in plan).pie1 frame.pie1 in
      let pie2 : Deed = unmask_register place.Pie2 (masks_in plan).pie2 frame.pie2 in
      let t0 = unmask_bit 5 (masks_in plan).intcon frame.intcon in
      let int = unmask_bit 4 (masks_in plan).intcon frame.intcon in
      let peie = unmask_bit 6 (masks_in plan).intcon frame.intcon in
      costs_both 4 10 (pie1 ∷ []) (pie2 ∷ (t0 ++ (int ++ peie)))
      (cost_one 4 pie1 (pie1_back frame.pie1 (near_wanted (saved_of (masks_in plan)).pie1 (byte_of_frame f.need plan.level 4) (byte_near 4 (lit< tt)))))
      (costs_both 4 6 (pie2 ∷ []) (t0 ++ (int ++ peie))
      (cost_one 4 pie2 (pie2_back frame.pie2 (near_wanted (saved_of (masks_in plan)).pie2 (byte_of_frame f.need plan.level 5) (byte_near 5 (lit< tt)))))
      (costs_both 2 4 t0 (int ++ peie) (again_cost 5 (bit 5 (bits cleared)) (bit 5 (bits beneath)) frame.intcon intcon_near)
      (costs_both 2 2 int peie (again_cost 4 (bit 4 (bits cleared)) (bit 4 (bits beneath)) frame.intcon intcon_near)
      (again_cost 6 (bit 6 (bits cleared)) (bit 6 (bits beneath)) frame.intcon intcon_near))))

  returning_few : (bank : Bank) → length (lines_in bank (returning_in plan)) ≤ 20
  returning_few bank =
      let front : List Deed = unmasking (masks_in plan) frame ++ clearing_page (f.spread.pages && over_idle plan) in
      let last : List Deed = (bringing place.Pclath frame.pclath ++ bringing place.Status frame.status) ++ going_home frame.status in
      let regrouped = ap (λ deeds. length (lines_in bank deeds)) (append_assoc (unmasking (masks_in plan) frame) (clearing_page (f.spread.pages && over_idle plan)) last) in
      let cost = costs_both 14 1 (unmasking (masks_in plan) frame) (clearing_page (f.spread.pages && over_idle plan)) unmasking_cost (clearing_cost (f.spread.pages && over_idle plan)) bank in
      let ends = ends_few frame.pclath frame.status pclath_near status_near (bank_past bank front) in
      let lines = ap length (lines_then bank front last) in
      let both = length-append (lines_in bank front) (lines_in (bank_past bank front) last) in
      let lent = away_few bank in
      omega (arith, regrouped, cost, ends, lines, both, lent)

module _ (f : Makings) (program marks : ℕ → ℕ) (m : Map) (made : IsMade f) (making : AreMakings f) (map_in : IsMapIn f marks m) (e : ℕ) (real : e < length f.p.events) where
  moves_few : length (f.moves e) ≤ commit_bytes f.p
  moves_few =
      let does : DoesEvent f e = made.events e real in
      let few = moves-few f.p (event_name f.p e) f.need does.ops does.works in
      let same = ap length does.moves in omega (arith, few, same)

  pub fits_times : FitsTimes (times f.p m) (layout_with f program marks m) (starting f.p) e (plan_in f e)
  fits_times = record {
    start = λ long. let cost = entering_cost f making e real (Known 0) in omega (arith, cost, real);
    short = λ short.
        let few = short_is_few f e short in
        let choice = for_few (f.bank e) (bank_of_flag (f.source e)) in omega (arith, few, choice);
    begin = let cost = restarting_cost (f.bank e) in let lent = away_few (f.bank e) in omega (arith, cost, lent);
    body = λ long. (does_work f program marks m made making map_in e real).few;
    again = λ locked. let cost = restarting_cost (f.bank e) in let lent = away_few (f.bank e) in omega (arith, cost, lent);
    opening = λ locked. omega arith;
    retry = λ locked. omega arith;
    copying = let few = window_few (open_bank (plan_in f e)) (f.moves e) (not (over_idle (plan_in f e))) in omega (arith, few, moves_few);
    exiting = returning_few f making e real (exit_bank (plan_in f e));
  }
