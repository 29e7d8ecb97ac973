-- The deeds of a run behind its commit: they fit, put nothing, and leave the enables and PCLATH of what was interrupted.
use Rattle.std.proofs.Common.{◌≡◌, ℕ, ◌-◌, ◌<◌, ◌≤◌, ◌==◌, Bool, true, false, ◌&&◌, ◌||◌, if◌then◌else◌, Option, Some, None, List, [], ◌∷◌, ◌++◌, refl, sym, ap, subst, ◌∙◌, arith, lit<, inl, inr}
use Rattle.std.specs.List.{AllByRecursion}
use Rattle.std.specs.Option.{ForSome}
use Rattle.std.proofs.Common.{lt-ltb}
use Rattle.std.proofs.lemmas.Bool.Decides.{eqb_tells}
use Rattle.frp_tree.specs.Tree.{ProgramTree}
use Rattle.pic_isa.specs.declared.bits.TheConstants.{INTE, PEIE, T0IE}
use Rattle.pic_regs.specs.declared.places.Place.{Place}
use Rattle.pic_regs.specs.declared.places.Place.TheVariants as place
use Rattle.pic_regs.specs.Bytes.{Byte, bits, bit, zeros}
use Rattle.pic_regs.specs.Map.{Pclath, Intcon, existing, over}
use Rattle.pic_regs.specs.Places.{reg_of}
use Rattle.pic_regs.specs.Registers.{Registers, read}
use Rattle.pic_machine.specs.Chip.{Chip}
use Rattle.bank_alloc.specs.Addresses.{address_of}
use Rattle.code_steps.specs.declared.banks.Bank.TheVariants.{Known}
use Rattle.code_steps.specs.Ends.{Holds}
use Rattle.glue_parts.specs.declared.kept.TheConstants.{SAVED_PCLATH}
use Rattle.glue_parts.specs.Heard.{IsHeardAt}
use Rattle.glue_parts.specs.Kept.{frame_cell}
use Rattle.glue_parts.specs.Places.{IsNumbered, may_be_changed, may_be_read}
use Rattle.firmware_parts.specs.Layout.{Easy, Layout}
use Rattle.firmware_parts.specs.Contexts.{AtLevel}
use Rattle.scratch_commit.specs.declared.frames.Frame.{Frame}
use Rattle.scratch_commit.specs.declared.kinds.Kind.{Kind}
use Rattle.scratch_commit.specs.declared.kinds.Kind.TheVariants.{Short, Long, Bottom, Middle}
use Rattle.scratch_commit.specs.Deeds.{Deed}
use Rattle.scratch_commit.specs.Effects.{DeedFits, effect_in}
use Rattle.scratch_commit.specs.Enables.{Hold, with_enables_of}
use Rattle.scratch_commit.specs.Frames.{bringing, byte_of_frame, frame_of, is_between, is_over_runs, unmasking, wanted}
use Rattle.scratch_commit.specs.Laws.{Kept}
use Rattle.scratch_commit.specs.Masks.{AreHeard, masking, masks_of, no_masks, saved_of, set_again, unmask_bit, unmask_register}
use Rattle.scratch_commit.specs.Plans.{Plan, clearing_page, context_in, frame_in, is_bottom, is_short, masks_in, over_idle}
use Rattle.scratch_commit.proofs.DeedLaws.{all_both}
use Rattle.scratch_commit.proofs.EffectLaws.{effect_then}
use Rattle.scratch_commit.proofs.EnableLaws.{unmasks}
use Rattle.run_steps.specs.Premises.{IsPlanOf}
use Rattle.run_steps.specs.Saved.{SavedBy}
use Rattle.run_steps.proofs.EnterFacts.{Quiet, pie1_quiet, pie2_quiet}
use Rattle.run_steps.proofs.FrameFacts.{HasFrame, low_byte, low_numbered, wanted_is}

-- A place that may be read to be copied.
abbrev pub Readable : Place → Type 0
Readable p = IsNumbered (reg_of p) × (may_be_read (reg_of p) ≡ true)

-- The deeds that unmask, in whatever frame has readable places.
register_1 : (plan : Plan) (o : Option Place) → ForSome o Readable → DeedFits (unmask_register place.Pie1 (masks_in plan).pie1 o)
register_1 plan None may = (tt, (λ b. refl), refl)
register_1 plan (Some p) may = let its = may p refl in (its.0, tt, its.1, refl)

register_2 : (plan : Plan) (o : Option Place) → ForSome o Readable → DeedFits (unmask_register place.Pie2 (masks_in plan).pie2 o)
register_2 plan None may = (tt, (λ b. refl), refl)
register_2 plan (Some p) may = let its = may p refl in (its.0, tt, its.1, refl)

again_fits : (o : Option Place) (sure : Bool) (b : ℕ) → may_be_changed Intcon b ≡ true → ForSome o Readable → DeedFits (set_again o sure b)
again_fits None sure b change may = (tt, refl, change)
again_fits (Some p) true b change may = (tt, refl, change)
again_fits (Some p) false b change may = let its = may p refl in (its.0, its.1, change)

bit_fits : (t sure : Bool) (b : ℕ) (o : Option Place) → may_be_changed Intcon b ≡ true → ForSome o Readable → AllByRecursion DeedFits (if t then set_again o sure b ∷ [] else [])
bit_fits true sure b o change may = (again_fits o sure b change may, tt)
bit_fits false sure b o change may = tt

bringing_fits : (o : Option Place) → ForSome o Readable → AllByRecursion DeedFits (bringing place.Pclath o)
bringing_fits None may = tt
bringing_fits (Some p) may = let its = may p refl in ((its.0, tt, its.1, refl), tt)

clearing_fits : (t : Bool) → AllByRecursion DeedFits (clearing_page t)
clearing_fits true = ((tt, refl), tt)
clearing_fits false = tt

-- All but what is done to STATUS.
abbrev pub front_deeds : Plan → List Deed
front_deeds plan = unmasking (masks_in plan) (frame_in plan) ++ (clearing_page (plan.spread.pages && over_idle plan) ++ bringing place.Pclath (frame_in plan).pclath)

pub record FrameRead (frame : Frame) : Type 0 where
  pub status : ForSome frame.status Readable
  pub pclath : ForSome frame.pclath Readable
  pub intcon : ForSome frame.intcon Readable
  pub pie1 : ForSome frame.pie1 Readable
  pub pie2 : ForSome frame.pie2 Readable

pub front_fits : (plan : Plan) → FrameRead (frame_in plan) → AllByRecursion DeedFits (front_deeds plan)
front_fits plan may =
    all_both DeedFits (unmasking (masks_in plan) (frame_in plan)) (clearing_page (plan.spread.pages && over_idle plan) ++ bringing place.Pclath (frame_in plan).pclath) (
      register_1 plan (frame_in plan).pie1 may.pie1,
      (
        register_2 plan (frame_in plan).pie2 may.pie2,
        all_both DeedFits (unmask_bit T0IE (masks_in plan).intcon (frame_in plan).intcon) _ (bit_fits (bit T0IE (bits (masks_in plan).intcon.cleared)) (bit T0IE (bits (masks_in plan).intcon.beneath)) 5 (frame_in plan).intcon refl may.intcon)
            (all_both DeedFits (unmask_bit INTE (masks_in plan).intcon (frame_in plan).intcon) _ (bit_fits (bit INTE (bits (masks_in plan).intcon.cleared)) (bit INTE (bits (masks_in plan).intcon.beneath)) 4 (frame_in plan).intcon refl may.intcon)
            (bit_fits (bit PEIE (bits (masks_in plan).intcon.cleared)) (bit PEIE (bits (masks_in plan).intcon.beneath)) 6 (frame_in plan).intcon refl may.intcon)),
      ),
    )
    (all_both DeedFits (clearing_page (plan.spread.pages && over_idle plan)) (bringing place.Pclath (frame_in plan).pclath)
    (clearing_fits (plan.spread.pages && over_idle plan)) (bringing_fits (frame_in plan).pclath may.pclath))

-- They put nothing.
quiet_1 : (plan : Plan) (o : Option Place) → Quiet (unmask_register place.Pie1 (masks_in plan).pie1 o)
quiet_1 plan None = pie1_quiet (masks_in plan).pie1.cleared (masks_in plan).pie1.beneath
quiet_1 plan (Some p) = λ r. refl

quiet_2 : (plan : Plan) (o : Option Place) → Quiet (unmask_register place.Pie2 (masks_in plan).pie2 o)
quiet_2 plan None = pie2_quiet (masks_in plan).pie2.cleared (masks_in plan).pie2.beneath
quiet_2 plan (Some p) = λ r. refl

again_quiet : (o : Option Place) (sure : Bool) (b : ℕ) → Quiet (set_again o sure b)
again_quiet None sure b = λ r. refl
again_quiet (Some p) true b = λ r. refl
again_quiet (Some p) false b = λ r. refl

bit_quiet : (t sure : Bool) (b : ℕ) (o : Option Place) → AllByRecursion Quiet (if t then set_again o sure b ∷ [] else [])
bit_quiet true sure b o = (again_quiet o sure b, tt)
bit_quiet false sure b o = tt

bringing_quiet : (o : Option Place) → AllByRecursion Quiet (bringing place.Pclath o)
bringing_quiet None = tt
bringing_quiet (Some p) = ((λ r. refl), tt)

clearing_quiet : (t : Bool) → AllByRecursion Quiet (clearing_page t)
clearing_quiet true = ((λ r. refl), tt)
clearing_quiet false = tt

pub front_quiet : (plan : Plan) → AllByRecursion Quiet (front_deeds plan)
front_quiet plan =
    all_both Quiet (unmasking (masks_in plan) (frame_in plan)) (clearing_page (plan.spread.pages && over_idle plan) ++ bringing place.Pclath (frame_in plan).pclath) (
      quiet_1 plan (frame_in plan).pie1,
      (
        quiet_2 plan (frame_in plan).pie2,
        all_both Quiet (unmask_bit T0IE (masks_in plan).intcon (frame_in plan).intcon) _ (bit_quiet (bit T0IE (bits (masks_in plan).intcon.cleared)) (bit T0IE (bits (masks_in plan).intcon.beneath)) 5 (frame_in plan).intcon)
            (all_both Quiet (unmask_bit INTE (masks_in plan).intcon (frame_in plan).intcon) _ (bit_quiet (bit INTE (bits (masks_in plan).intcon.cleared)) (bit INTE (bits (masks_in plan).intcon.beneath)) 4 (frame_in plan).intcon)
            (bit_quiet (bit PEIE (bits (masks_in plan).intcon.cleared)) (bit PEIE (bits (masks_in plan).intcon.beneath)) 6 (frame_in plan).intcon)),
      ),
    )
    (all_both Quiet (clearing_page (plan.spread.pages && over_idle plan)) (bringing place.Pclath (frame_in plan).pclath)
    (clearing_quiet (plan.spread.pages && over_idle plan)) (bringing_quiet (frame_in plan).pclath))

-- The enables of a chip at a level are held by its registers.
pub hold_of : (l : Layout) (low : ℕ) (x : Chip) → AtLevel l low x → Hold (l.enables low) x.regs
hold_of l low x at = record {
  t0ie = at.t0ie;
  inte = at.inte;
  peie = at.peie;
  rbie = at.rbie;
  pie1 = λ set. at.pie1 (at.peie ∙ set);
  pie2 = λ set. at.pie2 (at.peie ∙ set);
}

-- What clearing and bringing back PCLATH leave of registers.
pub record BehindPage (w : Registers) (z : Byte) (r : Registers) : Type 0 where
  pub rest : r ≡ record w { pclath = r.pclath }
  pub page : r.pclath ≡ z

over_whole : (y z : Byte) → existing Pclath y ≡ y → existing Pclath z ≡ z → over Pclath y z ≡ z
over_whole y z whole its = (λ j. record z { b7 = (sym whole j).b7; b6 = (sym whole j).b6; b5 = (sym whole j).b5 }) ∙ its

page_behind : (clears t : Bool) (q : Place) (w : Registers) (z : Byte) → existing Pclath w.pclath ≡ w.pclath → existing Pclath z ≡ z
    → ((y : Byte) → t ≡ true → read (reg_of q) (record w { pclath = y }) ≡ z) → (t ≡ false → z ≡ zeros) → (t ≡ false → clears ≡ false → w.pclath ≡ zeros)
    → BehindPage w z ((effect_in (bringing place.Pclath (wanted t q))).change ((effect_in (clearing_page clears)).change w))
page_behind true true q w z whole its reads none stays =
    let cleared : over Pclath w.pclath zeros ≡ zeros = over_whole w.pclath zeros whole refl in
    let kept : existing Pclath (over Pclath w.pclath zeros) ≡ over Pclath w.pclath zeros = subst (λ (y : Byte). existing Pclath y ≡ y) (sym cleared) refl in
    record {
      rest = refl;
      page = ap (over Pclath (over Pclath w.pclath zeros)) (reads (over Pclath w.pclath zeros) refl) ∙ over_whole (over Pclath w.pclath zeros) z kept its;
    }
page_behind true false q w z whole its reads none stays = record { rest = refl; page = over_whole w.pclath zeros whole refl ∙ sym (none refl) }
page_behind false true q w z whole its reads none stays = record { rest = refl; page = ap (over Pclath w.pclath) (reads w.pclath refl) ∙ over_whole w.pclath z whole its }
page_behind false false q w z whole its reads none stays = record { rest = refl; page = stays refl refl ∙ sym (none refl) }

module _ (p : ProgramTree) (l : Layout) (e : ℕ) (plan : Plan) (its : IsPlanOf p l e plan) where
  pub has_frame : HasFrame plan.need plan.level
  has_frame =
      let all = its.to_all in let eight = its.levels in let placed = its.frames in
      record { bytes = its.bytes; from_one = its.from_one; placed = omega (arith, all, placed); few = omega (arith, all, eight) }

  pub are_heard : AreHeard p plan.level plan.heard
  are_heard = record {
    idle = subst (IsHeardAt p 0) (sym its.idle) (its.heard 0 (omega arith));
    own = subst (IsHeardAt p plan.level) (sym its.own) (its.heard plan.level (omega arith));
    beneath = subst (IsHeardAt p (plan.level - 1)) (sym its.beneath) (its.heard (plan.level - 1) (omega arith));
  }

  -- The bytes of the frame may be read.
  byte_read : (byte : ℕ) → byte < 6 → (t : Bool) → ForSome (wanted t (place.Plain (address_of plan.need (frame_cell plan.need plan.level byte)))) Readable
  byte_read byte six t q is =
      subst Readable (wanted_is t _ q is).1 (low_numbered (address_of plan.need (frame_cell plan.need plan.level byte)) (low_byte plan.need plan.level byte has_frame six), refl)

  context_read : (between t : Bool) (byte common : ℕ) → byte < 6 → Readable (place.Plain common)
      → ForSome (wanted t (if between then place.Plain (address_of plan.need (frame_cell plan.need plan.level byte)) else place.Plain common)) Readable
  context_read true t byte common six its_common q is = byte_read byte six t q is
  context_read false t byte common six its_common q is = subst Readable (wanted_is t _ q is).1 its_common

  pub frame_read : FrameRead (frame_in plan)
  frame_read = record {
    status = context_read _ _ 1 0x071 (lit< tt) ((lit< tt, refl), refl);
    pclath = context_read _ _ 2 0x072 (lit< tt) ((lit< tt, refl), refl);
    intcon = byte_read 3 (lit< tt) _;
    pie1 = byte_read 4 (lit< tt) _;
    pie2 = byte_read 5 (lit< tt) _;
  }

  module _ (x c : Chip) (saved : SavedBy l plan x c) where
    -- Unmasking leaves the enables of what was interrupted.
    abbrev frame_by : Bool → Frame
    frame_by short = frame_of plan.kind plan.level plan.need (context_in plan) (saved_of (if short then no_masks else masks_of plan.heard))

    back_by : (short : Bool) → with_enables_of ((effect_in (masking (if short then no_masks else masks_of plan.heard))).change x.regs) c.regs ≡ c.regs → Kept (frame_by short) x.regs c.regs
        → (effect_in (unmasking (if short then no_masks else masks_of plan.heard) (frame_by short))).change c.regs ≡ with_enables_of x.regs c.regs
    back_by true masked kept = sym masked
    back_by false masked kept =
        unmasks p saved.low plan.level plan.heard (l.enables saved.low) are_heard
        (its.heard saved.low (let below = saved.below in omega (arith, below))) saved.below x.regs (hold_of l saved.low x saved.at) plan.kind plan.need (context_in plan) c.regs masked kept

    enables_back : (effect_in (unmasking (masks_in plan) (frame_in plan))).change c.regs ≡ with_enables_of x.regs c.regs
    enables_back = back_by (is_short plan.kind) saved.masked saved.kept

    -- At level 0 it is the ready address that was interrupted.
    bottom_idle : is_bottom plan.kind ≡ true → saved.low ≡ 0
    bottom_idle bottom = let one = its.lowest bottom in let below = saved.below in omega (arith, one, below)

    over_bottom : is_over_runs plan.kind ≡ false → is_bottom plan.kind ≡ true
    over_bottom over = by_kind plan.kind over
      where
        by_kind : (kind : Kind) → is_over_runs kind ≡ false → is_bottom kind ≡ true
        by_kind Bottom over = refl
        by_kind Short over = absurd (cc)
        by_kind Long over = absurd (cc)
        by_kind Middle over = absurd (cc)

    -- What wasn't saved was 0.
    pub page_zero : (is_over_runs plan.kind && (context_in plan).pclath) ≡ false → x.regs.pclath ≡ zeros
    page_zero none = by_over (is_over_runs plan.kind) (context_in plan).pclath refl refl none
      where
        by_over : (over page : Bool) → is_over_runs plan.kind ≡ over → (context_in plan).pclath ≡ page → (over && page) ≡ false → x.regs.pclath ≡ zeros
        by_over true true is_over is_page none = absurd (cc)
        by_over true false is_over is_page none = saved.usual.page (its.saves_pclath ∙ is_page)
        by_over false page is_over is_page none = saved.idle.page (bottom_idle (over_bottom is_over))

    pub bank_zero : (is_over_runs plan.kind && (context_in plan).status) ≡ false → Holds (Known 0) x
    bank_zero none = by_over (is_over_runs plan.kind) (context_in plan).status refl refl none
      where
        by_over : (over bank : Bool) → is_over_runs plan.kind ≡ over → (context_in plan).status ≡ bank → (over && bank) ≡ false → Holds (Known 0) x
        by_over true true is_over is_bank none = absurd (cc)
        by_over true false is_over is_bank none = saved.usual.bank (its.saves_status ∙ is_bank)
        by_over false bank is_over is_bank none = saved.idle.bank (bottom_idle (over_bottom is_over))

    -- Where PCLATH wasn't saved and isn't cleared it is 0.
    page_stays : (pages idle : Bool) → plan.spread.pages ≡ pages → over_idle plan ≡ idle → (is_over_runs plan.kind && (context_in plan).pclath) ≡ false → (pages && idle) ≡ false
        → Easy l c → c.regs.pclath ≡ zeros
    page_stays false idle is_pages is_idle none stays easy = easy.page (its.paged ∙ is_pages)
    page_stays true true is_pages is_idle none stays easy = absurd (cc)
    page_stays true false is_pages is_idle none stays easy = by_kind (is_bottom plan.kind) (plan.levels == 1) refl refl is_idle
      where
        by_kind : (bottom one : Bool) → is_bottom plan.kind ≡ bottom → (plan.levels == 1) ≡ one → (bottom || one) ≡ false → c.regs.pclath ≡ zeros
        by_kind true one is_kind is_one neither = absurd (cc)
        by_kind false true is_kind is_one neither = absurd (cc)
        by_kind false false is_kind is_one neither =
            let over : is_over_runs plan.kind ≡ true = over_by (is_over_runs plan.kind) refl is_kind in
            let from = its.from_one in let all = its.to_all in
            let several : 1 < plan.levels = more_by plan.levels (omega (arith, from, all)) is_one in
            let page : (context_in plan).pclath ≡ true = ap (λ b. b && plan.spread.pages) (lt-ltb 1 plan.levels several) ∙ is_pages in
            absurd (let clash : true ≡ false = sym (ap (λ b. b && (context_in plan).pclath) over ∙ page) ∙ none in cc)
          where
            over_by : (b : Bool) → is_over_runs plan.kind ≡ b → is_bottom plan.kind ≡ false → is_over_runs plan.kind ≡ true
            over_by true is not_bottom = is
            over_by false is not_bottom = absurd (let bottom = over_bottom is in cc)

            more_by : (n : ℕ) → 1 ≤ n → (n == 1) ≡ false → 1 < n
            more_by n from other =
                elim (eqb_tells n 1) [
                  | inl same ↦ absurd (let clash : true ≡ false = sym same.0 ∙ other in cc)
                  | inr differ ↦ let no = differ.1 in omega (arith, from, no)
                ]

    -- The registers behind those deeds.
    abbrev pub enabled : Registers
    enabled = with_enables_of x.regs c.regs

    abbrev pub has_page : Bool
    has_page = is_over_runs plan.kind && (context_in plan).pclath

    abbrev page_place : Place
    page_place = if is_between plan.kind then byte_of_frame plan.need plan.level 2 else SAVED_PCLATH

    page_kept : (between : Bool) (y : Byte)
        → read (reg_of (if between then byte_of_frame plan.need plan.level 2 else SAVED_PCLATH)) (record enabled { pclath = y })
        ≡ read (reg_of (if between then byte_of_frame plan.need plan.level 2 else SAVED_PCLATH)) c.regs
    page_kept true y = refl
    page_kept false y = refl

    page_saved : (y : Byte) → has_page ≡ true → read (reg_of page_place) (record enabled { pclath = y }) ≡ x.regs.pclath
    page_saved y is = page_kept (is_between plan.kind) y ∙ saved.pclath page_place (ap (λ t. wanted t page_place) is)

    pub front_leaves : Easy l c → BehindPage enabled x.regs.pclath ((effect_in (front_deeds plan)).change c.regs)
    front_leaves easy =
        let clears : Bool = plan.spread.pages && over_idle plan in
        let last : List Deed = clearing_page clears ++ bringing place.Pclath (frame_in plan).pclath in
        let are : (effect_in (front_deeds plan)).change c.regs ≡ (effect_in (bringing place.Pclath (frame_in plan).pclath)).change ((effect_in (clearing_page clears)).change enabled) =
        effect_then (unmasking (masks_in plan) (frame_in plan)) last c.regs ∙ ap (λ r. (effect_in last).change r) enables_back
        ∙ effect_then (clearing_page clears) (bringing place.Pclath (frame_in plan).pclath) enabled in
        subst (BehindPage enabled x.regs.pclath) (sym are)
        (page_behind clears has_page page_place enabled x.regs.pclath easy.whole saved.usual.easy.whole page_saved page_zero
        (λ none stays. page_stays plan.spread.pages (over_idle plan) refl refl none stays easy))
