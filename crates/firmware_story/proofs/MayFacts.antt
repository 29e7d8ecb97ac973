-- The parts of an event's run may write what its deeds write there.
use Rattle.std.proofs.Common.{◌≡◌, ℕ, ◌+◌, ◌<◌, ◌==◌, ◌&&◌, ◌||◌, Bool, true, false, not, nat_le, nat_lt, if◌then◌else◌, is_none, Option, Some, None, List, [], ◌∷◌, ◌++◌, length, refl, sym, ap, subst, ◌∙◌, inl, inr}
use Rattle.std.specs.Prelude.{◌⊎◌}
use Rattle.std.specs.List.{AllByRecursion}
use Rattle.std.specs.Option.{ForSome}
use Rattle.std.proofs.lemmas.Bool.{and_from, and_parts, eq-eqb, or_cases, or_left, or_right}
use Rattle.std.proofs.lemmas.List.{same_from_push}
use Rattle.std.proofs.lemmas.Option.{none-some}
use Rattle.efrp_meaning.specs.Bounds.{state_bytes}
use Rattle.pic_regs.specs.declared.places.Place.{Place}
use Rattle.pic_regs.specs.declared.places.Place.TheVariants as place
use Rattle.pic_regs.specs.Bytes.{bit, bit_by_bit, bits, is_zero, zeros}
use Rattle.pic_regs.specs.Map.{lowest}
use Rattle.pic_regs.specs.Places.{reg_of}
use Rattle.map_file.specs.declared.maps.Map.{Map}
use Rattle.bank_alloc.specs.Addresses.{address_of}
use Rattle.glue_steps.specs.declared.lines.Line.TheVariants.{Bit}
use Rattle.glue_steps.specs.Still.{MayWrite, is_glue_reg, is_still}
use Rattle.glue_parts.specs.declared.kept.TheConstants.{REDO, SAVED_PCLATH, SAVED_STATUS}
use Rattle.glue_parts.specs.declared.moves.Move.{Move}
use Rattle.firmware_promises.specs.Firmware.{is_at}
use Rattle.isr_vector.proofs.ListLaws.{all_before, all_both, at_event}
use Rattle.scratch_commit.specs.declared.frames.Frame.{Frame}
use Rattle.scratch_commit.specs.Deeds.{Change, Choose, Deed, Make, Pause}
use Rattle.scratch_commit.specs.Frames.{bringing, byte_of_frame, is_between, is_in_frame, is_over_runs, saving, saving_context, saving_enables, unmasking, wanted}
use Rattle.scratch_commit.specs.Masks.{masking, set_again, unmask_bit, unmask_register}
use Rattle.scratch_commit.specs.Plans.{Plan, clearing_page, frame_in, going_home, is_short, masks_in, over_idle}
use Rattle.scratch_commit.specs.Windows.{copying, window}
use Rattle.firmware_parts.specs.Layout.{Layout}
use Rattle.firmware_parts.specs.Layout.Part.{Commit, Copying, Exit, Start, Work}
use Rattle.run_steps.specs.Deeds.{DeedStill}
use Rattle.run_steps.specs.Premises.{InFrame, May, MayBeWritten, MayDo}
use Rattle.run_steps.specs.Spots.{returning_in}
use Rattle.firmware_layout.specs.Laws.{layout_with}
use Rattle.firmware_layout.specs.Layouts.{has_lock, is_changed, is_masked, is_of_work, is_page, is_target}
use Rattle.firmware_layout.specs.Pieces.{Makings, kind_of, plan_in}
use Rattle.firmware_layout.specs.Sound.{AreMakings, IsCellBelow, IsMoveIn, IsOutput}
use Rattle.firmware_story.proofs.FrameFacts.{bit_changes, is_frame, unset_changes}
use Rattle.firmware_story.proofs.PlanFacts.{short_has_no_lock}

-- A register that a deed writes.
abbrev Written : (ℕ → Type 0) → Place → Type 0
Written Allowed p = (is_glue_reg (reg_of p) ≡ true) × MayWrite Allowed (reg_of p)

-- What is wanted at a place is wanted.
wanted_is : (t : Bool) (p q : Place) → wanted t p ≡ Some q → t ≡ true
wanted_is true p q is = refl
wanted_is false p q is = absurd (none-some q is)

-- The copies of a window are to what it moves to.
module _ (f : Makings) (Allowed : ℕ → Type 0) where
  target_written : (count : ℕ) (at : Place) → IsCellBelow f count at ⊎ IsOutput f at → ((a : ℕ) → is_at a (lowest (reg_of at)) ≡ true → Allowed a) → Written Allowed at
  target_written count at (inl its) allows =
      let address = address_of f.need its.0 in
      subst (Written Allowed) (sym its.2) (refl, allows address (ap (λ p. is_at address (lowest (reg_of p))) its.2 ∙ eq-eqb address address refl))
  target_written count at (inr its) allows =
      let address = 5 + its.2 in
      subst (Written Allowed) (sym its.5) (refl, allows address (ap (λ p. is_at address (lowest (reg_of p))) its.5 ∙ eq-eqb address address refl))

  copies_may : (moves : List Move) → AllByRecursion (IsMoveIn f) moves → ((a : ℕ) → is_target moves a ≡ true → Allowed a) → AllByRecursion (DeedStill Allowed) (copying moves)
  copies_may [] all allows = tt
  copies_may (move ∷ moves) all allows = (
    target_written (state_bytes f.p) move.to all.0.to (λ a is. allows a (or_left (is_at a (lowest (reg_of move.to))) (is_target moves a) is)),
    copies_may moves all.1 (λ a is. allows a (or_right (is_at a (lowest (reg_of move.to))) (is_target moves a) is)),
  )

module _ (f : Makings) (program marks : ℕ → ℕ) (m : Map) (making : AreMakings f) (e : ℕ) (real : e < length f.p.events) where
  abbrev l : Layout
  l = layout_with f program marks m

  abbrev plan : Plan
  plan = plan_in f e

  abbrev frame : Frame
  frame = frame_in plan

  -- Registers of enables of which a bit is cleared.
  abbrev first : ℕ → Bool
  first a = is_changed (masks_in plan).intcon.cleared && a == 0x00B

  abbrev second : ℕ → Bool
  second a = is_changed (masks_in plan).pie1.cleared && a == 0x08C

  abbrev third : ℕ → Bool
  third a = is_changed (masks_in plan).pie2.cleared && a == 0x08D

  intcon_masked : is_changed (masks_in plan).intcon.cleared ≡ true → is_masked plan 0x00B ≡ true
  intcon_masked changed = or_left (first 0x00B || second 0x00B) (third 0x00B) (or_left (first 0x00B) (second 0x00B) (ap (λ b. b && true) changed))

  pie1_masked : is_changed (masks_in plan).pie1.cleared ≡ true → is_masked plan 0x08C ≡ true
  pie1_masked changed = or_left (first 0x08C || second 0x08C) (third 0x08C) (or_right (first 0x08C) (second 0x08C) (ap (λ b. b && true) changed))

  pie2_masked : is_changed (masks_in plan).pie2.cleared ≡ true → is_masked plan 0x08D ≡ true
  pie2_masked changed = or_right (first 0x08D || second 0x08D) (third 0x08D) (ap (λ b. b && true) changed)

  -- The start: frame and masks.
  start_masked : (a : ℕ) → is_masked plan a ≡ true → May l (Start e) a
  start_masked a is = or_left (is_in_frame frame a || is_masked plan a) (is_short (kind_of f e) && is_of_work f e a) (or_right (is_in_frame frame a) (is_masked plan a) is)

  start_framed : (a : ℕ) → is_in_frame frame a ≡ true → May l (Start e) a
  start_framed a is = or_left (is_in_frame frame a || is_masked plan a) (is_short (kind_of f e) && is_of_work f e a) (or_left (is_in_frame frame a) (is_masked plan a) is)

  saving_may : (register : Place) (o : Option Place) → ForSome o (InFrame l e) → MayDo l (Start e) (saving register o)
  saving_may register None inside = tt
  saving_may register (Some p) inside =
      let its = inside p refl in (subst (Written (May l (Start e))) (sym its.1) (refl, start_framed its.0 its.2), tt)

  context_may : (between : Bool) → MayDo l (Start e) (if between then saving SAVED_STATUS frame.status ++ saving SAVED_PCLATH frame.pclath else [])
  context_may true =
      let inside = is_frame f program marks m making e real in
      all_both (DeedStill (May l (Start e))) (saving SAVED_STATUS frame.status) (saving SAVED_PCLATH frame.pclath)
      (saving_may SAVED_STATUS frame.status inside.status) (saving_may SAVED_PCLATH frame.pclath inside.pclath)
  context_may false = tt

  enables_may : MayDo l (Start e) (saving_enables frame)
  enables_may =
      let inside = is_frame f program marks m making e real in
      all_both (DeedStill (May l (Start e))) (saving place.Intcon frame.intcon) (saving place.Pie1 frame.pie1 ++ saving place.Pie2 frame.pie2)
      (saving_may place.Intcon frame.intcon inside.intcon)
      (all_both (DeedStill (May l (Start e))) (saving place.Pie1 frame.pie1) (saving place.Pie2 frame.pie2)
      (saving_may place.Pie1 frame.pie1 inside.pie1) (saving_may place.Pie2 frame.pie2 inside.pie2))

  mask_may : (b : ℕ) (set : Bool) → bit b zeros ≡ false → is_still (Bit false place.Intcon b) ≡ true → bit b (bits (masks_in plan).intcon.cleared) ≡ set
      → MayDo l (Start e) (if set then Make false place.Intcon b ∷ [] else [])
  mask_may b true clear still is = ((still, start_masked 0x00B (intcon_masked (bit_changes b (masks_in plan).intcon.cleared clear is))), tt)
  mask_may b false clear still is = tt

  masking_may : MayDo l (Start e) (masking (masks_in plan) ++ Choose 0 ∷ [])
  masking_may =
      let cleared = (masks_in plan).intcon.cleared in
      let t0 : List Deed = if bit 5 (bits cleared) then Make false place.Intcon 5 ∷ [] else [] in
      let int : List Deed = if bit 4 (bits cleared) then Make false place.Intcon 4 ∷ [] else [] in
      let peie : List Deed = if bit 6 (bits cleared) then Make false place.Intcon 6 ∷ [] else [] in
      let last : List Deed = Change place.Pie1 (masks_in plan).pie1.cleared (masks_in plan).pie1.own ∷ Change place.Pie2 (masks_in plan).pie2.cleared (masks_in plan).pie2.own ∷ [] in
      all_both (DeedStill (May l (Start e))) (masking (masks_in plan)) (Choose 0 ∷ [])
      (all_both (DeedStill (May l (Start e))) t0 (int ++ (peie ++ last)) (mask_may 5 (bit 5 (bits cleared)) refl refl refl)
      (all_both (DeedStill (May l (Start e))) int (peie ++ last) (mask_may 4 (bit 4 (bits cleared)) refl refl refl)
      (all_both (DeedStill (May l (Start e))) peie last (mask_may 6 (bit 6 (bits cleared)) refl refl refl)
      ((λ some. (refl, start_masked 0x08C (pie1_masked (ap not some)))), ((λ some. (refl, start_masked 0x08D (pie2_masked (ap not some)))), tt)))))
      (tt, tt)

  entering_may : MayDo l (Start e) (saving_context plan.kind frame ++ (saving_enables frame ++ (masking (masks_in plan) ++ Choose 0 ∷ [])))
  entering_may =
      all_both (DeedStill (May l (Start e))) (saving_context plan.kind frame) (saving_enables frame ++ (masking (masks_in plan) ++ Choose 0 ∷ [])) (context_may (is_between plan.kind))
      (all_both (DeedStill (May l (Start e))) (saving_enables frame) (masking (masks_in plan) ++ Choose 0 ∷ []) enables_may masking_may)

  short_work_may : is_short (kind_of f e) ≡ true → (a : ℕ) → May l (Work e) a → May l (Start e) a
  short_work_may short a may = by (or_cases (is_of_work f e a) (has_lock f e && is_page f a) may)
    where
      by : (is_of_work f e a ≡ true) ⊎ ((has_lock f e && is_page f a) ≡ true) → May l (Start e) a
      by (inl work) =
          or_right (is_in_frame frame a || is_masked plan a) (is_short (kind_of f e) && is_of_work f e a) (and_from (is_short (kind_of f e)) (is_of_work f e a) short work)
      by (inr page) =
          let locked = (and_parts (has_lock f e) (is_page f a) page).0 in
          let clash : true ≡ false = sym locked ∙ short_has_no_lock (kind_of f e) short in absurd (cc)

  -- The window: its last deed alone may write 73h.
  abbrev Parted : List Deed → Type 0
  Parted deeds = (front : List Deed) (last : Deed) → deeds ≡ front ++ last ∷ [] → MayDo l (Copying e) front × MayDo l (Commit e) (last ∷ [])

  parted : (deeds : List Deed) → MayDo l (Copying e) deeds → MayDo l (Commit e) deeds → Parted deeds
  parted deeds first whole front last is = (
    all_before (DeedStill (May l (Copying e))) front (last ∷ []) (subst (MayDo l (Copying e)) is first),
    (at_event (DeedStill (May l (Commit e))) front last [] (subst (MayDo l (Commit e)) is whole), tt),
  )

  told_apart : (deeds : List Deed) → MayDo l (Copying e) deeds → Parted (deeds ++ Make true REDO 0 ∷ [])
  told_apart deeds first front last is =
      let same = same_from_push deeds front (Make true REDO 0) last is in
      let tells : DeedStill (May l (Commit e)) (Make true REDO 0) = (refl, or_right (is_target (f.moves e) 0x073) true refl) in
      (subst (MayDo l (Copying e)) same.0 first, (subst (DeedStill (May l (Commit e))) same.1 tells, tt))

  window_parted : (moves : List Move) (tells : Bool) → AllByRecursion (IsMoveIn f) moves → ((a : ℕ) → is_target moves a ≡ true → May l (Copying e) a)
      → ((a : ℕ) → is_target moves a ≡ true → May l (Commit e) a) → Parted (window moves tells)
  window_parted [] true all first whole = told_apart (Pause ∷ []) (tt, tt)
  window_parted [] false all first whole = parted (Pause ∷ Pause ∷ []) (tt, (tt, tt)) (tt, (tt, tt))
  window_parted (move ∷ moves) true all first whole = told_apart (copying (move ∷ moves)) (copies_may f (May l (Copying e)) (move ∷ moves) all first)
  window_parted (move ∷ moves) false all first whole =
      let copies : List Deed = copying (move ∷ moves) in
      parted (copies ++ [])
      (all_both (DeedStill (May l (Copying e))) copies [] (copies_may f (May l (Copying e)) (move ∷ moves) all first) tt)
      (all_both (DeedStill (May l (Commit e))) copies [] (copies_may f (May l (Commit e)) (move ∷ moves) all whole) tt)

  own_window : Parted (window (f.moves e) (not (over_idle plan)))
  own_window =
      window_parted (f.moves e) (not (over_idle plan)) (making.works e real).moves (λ a is. is) (λ a is. or_left (is_target (f.moves e) a) (a == 0x073) is)

  -- The return.
  exit_masked : (a : ℕ) → is_masked plan a ≡ true → May l (Exit e) a
  exit_masked a is = or_left (is_masked plan a) (is_page f a) is

  exit_paged : f.spread.pages ≡ true → May l (Exit e) 0x00A
  exit_paged paged = or_right (is_masked plan 0x00A) (is_page f 0x00A) (ap (λ b. b && true) paged)

  -- What is saved of enables has a bit that is cleared and wasn't set beneath.
  saved_changes : (cleared beneath : ℕ) (p q : Place) → wanted (not (is_zero (bit_by_bit (λ x y. x && not y) (bits cleared) (bits beneath)))) p ≡ Some q → is_changed cleared ≡ true
  saved_changes cleared beneath p q is =
      let none : Bool = is_zero (bit_by_bit (λ x y. x && not y) (bits cleared) (bits beneath)) in unset_changes cleared beneath (opposite none (wanted_is (not none) p q is))
    where
      opposite : (b : Bool) → not b ≡ true → b ≡ false
      opposite true is = absurd (cc)
      opposite false is = refl

  pie1_may : (o : Option Place) → frame.pie1 ≡ o → DeedStill (May l (Exit e)) (unmask_register place.Pie1 (masks_in plan).pie1 o)
  pie1_may None is = λ some. (refl, exit_masked 0x08C (pie1_masked (ap not some)))
  pie1_may (Some p) is = (refl, exit_masked 0x08C (pie1_masked (saved_changes (masks_in plan).pie1.cleared (masks_in plan).pie1.beneath (byte_of_frame f.need plan.level 4) p is)))

  pie2_may : (o : Option Place) → frame.pie2 ≡ o → DeedStill (May l (Exit e)) (unmask_register place.Pie2 (masks_in plan).pie2 o)
  pie2_may None is = λ some. (refl, exit_masked 0x08D (pie2_masked (ap not some)))
  pie2_may (Some p) is = (refl, exit_masked 0x08D (pie2_masked (saved_changes (masks_in plan).pie2.cleared (masks_in plan).pie2.beneath (byte_of_frame f.need plan.level 5) p is)))

  again_may : (b : ℕ) (set sure : Bool) (o : Option Place) → bit b zeros ≡ false → (nat_le 4 b && nat_le b 6) ≡ true → bit b (bits (masks_in plan).intcon.cleared) ≡ set
      → MayDo l (Exit e) (if set then set_again o sure b ∷ [] else [])
  again_may b true sure None clear range is = ((range, exit_masked 0x00B (intcon_masked (bit_changes b (masks_in plan).intcon.cleared clear is))), tt)
  again_may b true true (Some p) clear range is = ((range, exit_masked 0x00B (intcon_masked (bit_changes b (masks_in plan).intcon.cleared clear is))), tt)
  again_may b true false (Some p) clear range is = ((range, exit_masked 0x00B (intcon_masked (bit_changes b (masks_in plan).intcon.cleared clear is))), tt)
  again_may b false sure o clear range is = tt

  unmasking_may : MayDo l (Exit e) (unmasking (masks_in plan) frame)
  unmasking_may =
      let cleared = (masks_in plan).intcon.cleared in
      let beneath = (masks_in plan).intcon.beneath in
      let t0 = unmask_bit 5 (masks_in plan).intcon frame.intcon in
      let int = unmask_bit 4 (masks_in plan).intcon frame.intcon in
      let peie = unmask_bit 6 (masks_in plan).intcon frame.intcon in (
        pie1_may frame.pie1 refl,
        (
          pie2_may frame.pie2 refl,
          all_both (DeedStill (May l (Exit e))) t0 (int ++ peie) (again_may 5 (bit 5 (bits cleared)) (bit 5 (bits beneath)) frame.intcon refl refl refl)
              (all_both (DeedStill (May l (Exit e))) int peie (again_may 4 (bit 4 (bits cleared)) (bit 4 (bits beneath)) frame.intcon refl refl refl)
              (again_may 6 (bit 6 (bits cleared)) (bit 6 (bits beneath)) frame.intcon refl refl refl)),
        ),
      )

  clearing_may : (paged idle : Bool) → (paged ≡ true → May l (Exit e) 0x00A) → MayDo l (Exit e) (clearing_page (paged && idle))
  clearing_may true true allows = ((refl, allows refl), tt)
  clearing_may true false allows = tt
  clearing_may false idle allows = tt

  page_back : (o : Option Place) → ((p : Place) → o ≡ Some p → May l (Exit e) 0x00A) → MayDo l (Exit e) (bringing place.Pclath o)
  page_back None allows = tt
  page_back (Some p) allows = ((refl, allows p refl), tt)

  status_back : (o : Option Place) → MayDo l (Exit e) (bringing place.Status o)
  status_back None = tt
  status_back (Some p) = ((refl, tt), tt)

  home_may : (none : Bool) → MayDo l (Exit e) (if none then Choose 0 ∷ [] else [])
  home_may true = (tt, tt)
  home_may false = tt

  page_saved : (over several paged : Bool) (p q : Place) → wanted (over && (several && paged)) p ≡ Some q → paged ≡ true
  page_saved over several paged p q is =
      (and_parts several paged (and_parts over (several && paged) (wanted_is (over && (several && paged)) p q is)).1).1

  returning_may : MayDo l (Exit e) (returning_in plan)
  returning_may =
      let clears : List Deed = clearing_page (f.spread.pages && over_idle plan) in
      let page = bringing place.Pclath frame.pclath in
      let status = bringing place.Status frame.status in
      let home : List Deed = going_home frame.status in
      all_both (DeedStill (May l (Exit e))) (unmasking (masks_in plan) frame) (clears ++ ((page ++ status) ++ home)) unmasking_may
      (all_both (DeedStill (May l (Exit e))) clears ((page ++ status) ++ home) (clearing_may f.spread.pages (over_idle plan) exit_paged)
      (all_both (DeedStill (May l (Exit e))) (page ++ status) home
      (all_both (DeedStill (May l (Exit e))) page status
      (page_back frame.pclath (λ p is.
      exit_paged (page_saved (is_over_runs plan.kind) (nat_lt 1 plan.levels) f.spread.pages
      (if is_between plan.kind then byte_of_frame f.need plan.level 2 else SAVED_PCLATH) p is)))
      (status_back frame.status))
      (home_may (is_none frame.status))))

  pub may_be_written : MayBeWritten (layout_with f program marks m) e (plan_in f e)
  may_be_written = record {
    start = λ long. entering_may;
    short = short_work_may;
    begin = λ locked. (tt, ((refl, refl), tt));
    copying = λ front last is. (own_window front last is).0;
    commit = λ front last is. (own_window front last is).1;
    exit = returning_may;
    begin_pages = λ locked paged. ap (λ b. b && true) paged;
    work_pages = λ locked paged.
        or_right (is_of_work f e 0x00A) (has_lock f e && is_page f 0x00A) (and_from (has_lock f e) (is_page f 0x00A) locked (ap (λ b. b && true) paged));
    lock_pages = λ locked paged. ap (λ b. b && true) paged;
  }
