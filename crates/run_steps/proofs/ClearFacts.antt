-- From the start of a run to the clearing of its flag, where its work comes later.
use Rattle.std.proofs.Common.{◌≡◌, ℕ, ◌+◌, ◌<◌, ◌≤◌, Bool, true, false, ◌&&◌, if◌then◌else◌, List, [], ◌∷◌, ◌++◌, length, map, refl, sym, ap, subst, ◌∙◌, append_assoc, arith, lit<}
use Rattle.std.specs.List.{AllByRecursion}
use Rattle.std.specs.Option.{ForSome}
use Rattle.frp_tree.specs.Tree.{ProgramTree}
use Rattle.map_file.specs.declared.maps.Map.{Map}
use Rattle.pic_regs.specs.declared.places.Place.{Place}
use Rattle.pic_regs.specs.declared.places.Place.TheVariants as place
use Rattle.pic_regs.specs.Bytes.{Byte}
use Rattle.pic_regs.specs.Places.{reg_of}
use Rattle.pic_regs.specs.Registers.{Registers, read}
use Rattle.pic_machine.specs.Chip.{Chip}
use Rattle.bank_alloc.specs.Addresses.{address_of}
use Rattle.priority_masks.specs.declared.tables.Enables.{Enables}
use Rattle.code_steps.specs.declared.banks.Bank.{Bank}
use Rattle.code_steps.specs.declared.banks.Bank.TheVariants.{Known, Unknown}
use Rattle.code_steps.specs.Between.{Alone}
use Rattle.code_steps.specs.Ends.{Holds}
use Rattle.code_acts.specs.Standing.{StandFrom}
use Rattle.glue_steps.specs.declared.lines.Line.{Line}
use Rattle.glue_steps.specs.Lines.{instr_of}
use Rattle.glue_steps.specs.Stretches.{HasEnables, place_behind}
use Rattle.glue_steps.specs.Laws.{StillIn}
use Rattle.glue_steps.specs.Still.{Off, PlacesIn}
use Rattle.glue_steps.specs.Tells.{Withstands}
use Rattle.glue_steps.proofs.TellsLaws.{tells_longer}
use Rattle.glue_parts.specs.declared.kept.TheConstants.{SAVED_PCLATH, SAVED_STATUS}
use Rattle.glue_parts.specs.Effects.{left}
use Rattle.glue_parts.specs.Kept.{frame_cell}
use Rattle.firmware_parts.specs.Layout.{Layout, Usual, piece}
use Rattle.firmware_parts.specs.Layout.Part.{Start}
use Rattle.firmware_parts.specs.Contexts.{AtLevel, Entered}
use Rattle.firmware_parts.specs.Runs.{AtClear, Leads, Reacts}
use Rattle.scratch_commit.specs.Deeds.{Deed, Choose, bank_past, lines_in}
use Rattle.scratch_commit.specs.Effects.{DeedFits, effect_in}
use Rattle.scratch_commit.specs.Enables.{Hold, with_enables_of}
use Rattle.scratch_commit.specs.Frames.{byte_of_frame, is_between, is_over_runs, saving, wanted}
use Rattle.scratch_commit.specs.Laws.{HasEnableBits, Kept, masked_by}
use Rattle.scratch_commit.specs.Masks.{masking, masks_of, no_masks, saved_of}
use Rattle.scratch_commit.specs.Plans.{Plan, context_in, frame_in, is_short, masks_in}
use Rattle.scratch_commit.proofs.DeedLaws.{lines_then as lines_both}
use Rattle.scratch_commit.proofs.EnableLaws.{masks_lead}
use Rattle.run_steps.specs.Deeds.{DeedStill}
use Rattle.run_steps.specs.Premises.{IsFrameIn, IsPlanOf, MayDo}
use Rattle.run_steps.specs.Saved.{HasBank, Idle, SavedBy, masked_in}
use Rattle.run_steps.specs.Spots.{entering_in}
use Rattle.run_steps.proofs.EnterFacts.{Quiet, bytes_kept, copies_all, copies_bank, copies_leave, copy_fits, last_all, last_bank, last_deeds, last_leave, masking_all, pclath_copied, pie1_quiet, pie1_stored, pie2_quiet, pie2_stored, quiet_in, saved_bytes, status_copied}
use Rattle.run_steps.proofs.ExitFacts.{all_split, regs_left}
use Rattle.run_steps.proofs.FrameFacts.{HasFrame, IsLow, bytes_differ, here_stored, low_byte, other_kept, saved_bank, stored_if, wanted_is}
use Rattle.run_steps.proofs.ReturnFacts.{are_heard, has_frame, hold_of}
use Rattle.run_steps.proofs.SavedFacts.{saved_alone, with_enabled}
use Rattle.run_steps.proofs.StartFacts.{entering_then}
use Rattle.run_steps.proofs.StretchFacts.{holds_of}
use Rattle.run_steps.proofs.WorkFacts.{easy_same}

-- Being there withstands arrivals.
pub reacts_same : (p : ProgramTree) (m : Map) (l : Layout) (e : ℕ) (c d : ℕ → Byte) → d ≡ c → Reacts p m l e c → Reacts p m l e d
reacts_same p m l e c d same its = subst (Reacts p m l e) (sym same) its

level_alone : (l : Layout) (level : ℕ) (c d : Chip) → Alone c d → AtLevel l level c → AtLevel l level d
level_alone l level c d r at = record {
  peie = ap (λ (y : Chip). y.regs.intcon.b6) r.only ∙ at.peie;
  t0ie = ap (λ (y : Chip). y.regs.intcon.b5) r.only ∙ at.t0ie;
  inte = ap (λ (y : Chip). y.regs.intcon.b4) r.only ∙ at.inte;
  rbie = ap (λ (y : Chip). y.regs.intcon.b3) r.only ∙ at.rbie;
  pie1 = λ set. ap (λ (y : Chip). y.regs.pie1) r.only ∙ at.pie1 (sym (ap (λ (y : Chip). y.regs.intcon.b6) r.only) ∙ set);
  pie2 = λ set. ap (λ (y : Chip). y.regs.pie2) r.only ∙ at.pie2 (sym (ap (λ (y : Chip). y.regs.intcon.b6) r.only) ∙ set);
}

holds_alone : (bank : Bank) (c d : Chip) → Alone c d → Holds bank c → Holds bank d
holds_alone Unknown c d r holds = tt
holds_alone (Known k) c d r holds = (ap (λ (y : Chip). y.regs.status.b6) r.only ∙ holds.0, ap (λ (y : Chip). y.regs.status.b5) r.only ∙ holds.1)

pub clear_stays : (p : ProgramTree) (m : Map) (l : Layout) (plans : ℕ → Plan) (e : ℕ) → IsFrameIn l e (frame_in (plans e)) → (x : Chip)
    → Withstands (AtClear p m l (λ event. SavedBy l (plans event)) e x)
clear_stays p m l plans e framed x c d r at = record {
  there = ap (λ (y : Chip). y.pc) r.only ∙ at.there;
  off = ap (λ (y : Chip). y.regs.intcon.b7) r.only ∙ at.off;
  easy = easy_same l c d (ap (λ (y : Chip). y.regs.pclath) r.only) at.easy;
  saved = saved_alone l e (plans e) framed x c d r at.saved;
  masked = λ long. level_alone l (l.level e) c d r (at.masked long);
  bank = λ long. holds_alone (Known 0) c d r (at.bank long);
  done = λ short. reacts_same p m l e c.regs.plain d.regs.plain (ap (λ (y : Chip). y.regs.plain) r.only) (at.done short);
  open_bank = λ short. holds_alone (l.bank e) c d r (at.open_bank short);
}

module _ (p : ProgramTree) (m : Map) (l : Layout) (plans : ℕ → Plan) (e : ℕ) (its : IsPlanOf p l e (plans e)) (framed : IsFrameIn l e (frame_in (plans e))) (long : is_short (plans e).kind ≡ false) where
  abbrev plan : Plan
  plan = plans e

  abbrev has : HasFrame plan.need plan.level
  has = has_frame p l e plan its

  abbrev has_status : Bool
  has_status = is_over_runs plan.kind && (context_in plan).status

  abbrev has_page : Bool
  has_page = is_over_runs plan.kind && (context_in plan).pclath

  abbrev t3 : Bool
  t3 = (saved_of (masks_in plan)).intcon

  abbrev t4 : Bool
  t4 = (saved_of (masks_in plan)).pie1

  abbrev t5 : Bool
  t5 = (saved_of (masks_in plan)).pie2

  abbrev at_byte : ℕ → ℕ
  at_byte byte = address_of plan.need (frame_cell plan.need plan.level byte)

  -- What the taking has put into common bytes is copied, in a run of a level between.
  abbrev status_by : Bool → Place
  status_by between = if between then byte_of_frame plan.need plan.level 1 else SAVED_STATUS

  abbrev page_by : Bool → Place
  page_by between = if between then byte_of_frame plan.need plan.level 2 else SAVED_PCLATH

  abbrev copied_by : Bool → List Deed
  copied_by between = if between then saving SAVED_STATUS (wanted has_status (status_by between)) ++ saving SAVED_PCLATH (wanted has_page (page_by between)) else []

  abbrev status_at : Bool → ℕ
  status_at between = if between then at_byte 1 else 0x071

  abbrev page_at : Bool → ℕ
  page_at between = if between then at_byte 2 else 0x072

  record Copied (between : Bool) : Type 0 where
    pub fits : AllByRecursion DeedFits (copied_by between)
    pub quiet : AllByRecursion Quiet (copied_by between)
    pub bank : bank_past (Known 0) (copied_by between) ≡ Known 0
    pub only : (r : Registers) → (effect_in (copied_by between)).change r ≡ record r { plain = ((effect_in (copied_by between)).change r).plain }
    pub status : (r : Registers) → has_status ≡ true → ((effect_in (copied_by between)).change r).plain (status_at between) ≡ r.plain 0x071
    pub page : (r : Registers) → has_page ≡ true → ((effect_in (copied_by between)).change r).plain (page_at between) ≡ r.plain 0x072

  copied : (between : Bool) → Copied between
  copied true = record {
    fits = copies_all plan.need plan.level has has_status has_page DeedFits
        (copy_fits SAVED_STATUS (at_byte 1) (low_byte plan.need plan.level 1 has (lit< tt)) (lit< tt, refl) refl)
        (copy_fits SAVED_PCLATH (at_byte 2) (low_byte plan.need plan.level 2 has (lit< tt)) (lit< tt, refl) refl);
    quiet = copies_all plan.need plan.level has has_status has_page Quiet (λ r. refl) (λ r. refl);
    bank = copies_bank plan.need plan.level has has_status has_page;
    only = λ r. let is = copies_leave plan.need plan.level has has_status has_page r in is ∙ ap (λ (memory : ℕ → Byte). record r { plain = memory }) (sym (ap (λ (s : Registers). s.plain) is));
    status = λ r is. ap (λ (s : Registers). s.plain (at_byte 1)) (copies_leave plan.need plan.level has has_status has_page r) ∙ status_copied plan.need plan.level has has_status has_page r is;
    page = λ r is. ap (λ (s : Registers). s.plain (at_byte 2)) (copies_leave plan.need plan.level has has_status has_page r) ∙ pclath_copied plan.need plan.level has has_status has_page r is;
  }
  copied false = record { fits = tt; quiet = tt; bank = refl; only = λ r. refl; status = λ r is. refl; page = λ r is. refl }

  -- Those bytes aren't the ones that are saved later.
  low : (byte : ℕ) → byte < 6 → IsLow (at_byte byte)
  low byte six = low_byte plan.need plan.level byte has six

  status_apart : (between : Bool) (byte : ℕ) → byte < 6 → 3 ≤ byte → status_at between ≡ at_byte byte → ⊥
  status_apart true byte six far same = bytes_differ plan.need plan.level 1 byte has (lit< tt) six (λ one. omega (arith, one, far)) same
  status_apart false byte six far same = let near = (low byte six).below in omega (arith, near, same)

  page_apart : (between : Bool) (byte : ℕ) → byte < 6 → 3 ≤ byte → page_at between ≡ at_byte byte → ⊥
  page_apart true byte six far same = bytes_differ plan.need plan.level 2 byte has (lit< tt) six (λ two. omega (arith, two, far)) same
  page_apart false byte six far same = let near = (low byte six).below in omega (arith, near, same)

  -- The deeds, in three parts.
  abbrev K : List Deed
  K = copied_by (is_between plan.kind)

  abbrev I : List Deed
  I = saving place.Intcon (wanted t3 (place.Plain (at_byte 3)))

  abbrev C : List Deed
  C = last_deeds plan.need plan.level has t4 t5 plan

  entering_apart : entering_in plan ≡ K ++ (I ++ C)
  entering_apart =
      ap (λ deeds. K ++ deeds)
      (append_assoc I (saving place.Pie1 (wanted t4 (place.Plain (at_byte 4))) ++ saving place.Pie2 (wanted t5 (place.Plain (at_byte 5)))) (masking (masks_in plan) ++ Choose 0 ∷ []))

  lines_apart : lines_in (Known 0) (entering_in plan) ≡ lines_in (Known 0) K ++ (lines_in (Known 0) I ++ lines_in (Known 0) C)
  lines_apart =
      ap (lines_in (Known 0)) entering_apart ∙ lines_both (Known 0) K (I ++ C)
      ∙ ap (λ bank. lines_in (Known 0) K ++ lines_in bank (I ++ C)) (copied (is_between plan.kind)).bank
      ∙ ap (λ lines. lines_in (Known 0) K ++ lines) (lines_both (Known 0) I C)
      ∙ ap (λ bank. lines_in (Known 0) K ++ (lines_in (Known 0) I ++ lines_in bank C)) (saved_bank place.Intcon t3 (at_byte 3) (low 3 (lit< tt)) (Known 0) refl refl)

  fits_last : AllByRecursion DeedFits C
  fits_last =
      last_all plan.need plan.level has t4 t5 plan DeedFits (copy_fits place.Pie1 (at_byte 4) (low 4 (lit< tt)) tt refl) (copy_fits place.Pie2 (at_byte 5) (low 5 (lit< tt)) tt refl)
      (masking_all DeedFits plan (tt, refl, refl) (tt, refl, refl) (tt, refl, refl) (tt, (λ b. refl), refl) (tt, (λ b. refl), refl)) tt

  quiet_last : AllByRecursion Quiet C
  quiet_last =
      last_all plan.need plan.level has t4 t5 plan Quiet (λ r. refl) (λ r. refl)
      (masking_all Quiet plan (λ r. refl) (λ r. refl) (λ r. refl) (pie1_quiet (masks_in plan).pie1.cleared (masks_in plan).pie1.own) (pie2_quiet (masks_in plan).pie2.cleared (masks_in plan).pie2.own))
      (λ r. refl)

  may_intcon : (May : ℕ → Type 0) (t : Bool) (address : ℕ) → AllByRecursion (DeedStill May) (saving place.Intcon (wanted t (place.Plain address))) → t ≡ true → May address
  may_intcon May true address still is = still.0.1
  may_intcon May false address still is = absurd (cc)

  module _ (x c : Chip) (beneath : ℕ) (rbie : c.regs.intcon.b3 ≡ false) (usual : Usual l x) (entered : Entered l x c) (at_level : AtLevel l beneath x) (below : beneath < plan.level) (idle : Idle beneath x) where
    abbrev kr : Registers
    kr = (effect_in K).change c.regs

    kr_is : kr ≡ record c.regs { plain = kr.plain }
    kr_is = (copied (is_between plan.kind)).only c.regs

    -- With INTCON saved as a byte; and behind all deeds.
    abbrev saved_as : Byte → Registers
    saved_as y = record kr { plain = stored_if t3 (at_byte 3) y kr.plain }

    abbrev M : Registers
    M = masked_in plan x.regs

    abbrev all_bytes : Byte → ℕ → Byte
    all_bytes y = saved_bytes plan.need plan.level has t4 t5 plan (saved_as y)

    abbrev behind : Byte → Registers
    behind y = with_enables_of M (record (saved_as y) { plain = all_bytes y })

    same_enables : (y : Byte) → saved_as y ≡ with_enables_of x.regs (saved_as y)
    same_enables y = sym (with_enabled x.regs (saved_as y) (record {
      peie = sym entered.enables.peie ∙ sym (ap (λ (r : Registers). r.intcon.b6) kr_is);
      t0ie = sym entered.enables.t0ie ∙ sym (ap (λ (r : Registers). r.intcon.b5) kr_is);
      inte = sym entered.enables.inte ∙ sym (ap (λ (r : Registers). r.intcon.b4) kr_is);
      pie1 = sym entered.enables.pie1 ∙ sym (ap (λ (r : Registers). r.pie1) kr_is);
      pie2 = sym entered.enables.pie2 ∙ sym (ap (λ (r : Registers). r.pie2) kr_is);
    }))

    leaves : (y : Byte) → (effect_in C).change (saved_as y) ≡ behind y
    leaves y = last_leave plan.need plan.level has t4 t5 plan (saved_as y) x.regs (same_enables y)

    -- The masks lead to the enables of the event's level.
    masked_long : (short : Bool) → short ≡ false → (effect_in (masking (if short then no_masks else masks_of plan.heard))).change x.regs ≡ masked_by plan.heard x.regs
    masked_long true is = absurd (cc)
    masked_long false is = refl

    held : Hold (l.enables (l.level e)) M
    held =
        let lead = masks_lead p beneath plan.level plan.heard (l.enables beneath) (are_heard p l e plan its) (its.heard beneath (omega (arith, below))) below x.regs (hold_of l beneath x at_level) in
        subst (λ (r : Registers). Hold (l.enables (l.level e)) r) (sym (masked_long (is_short plan.kind) long))
        (subst (λ (enables : Enables). Hold enables (masked_by plan.heard x.regs)) (its.own ∙ ap l.enables its.level) lead.0)

    module _ (y : Byte) (d : Chip) (saved : HasEnables y c.regs.intcon) (only : d ≡ left ((effect_in C).change (saved_as y)) d c) (there : d.pc ≡ l.clear e) (banked : Holds (Known 0) d) (off : Off d) where
      regs : d.regs ≡ record (behind y) { status = d.regs.status }
      regs = regs_left (behind y) d c (only ∙ ap (λ (r : Registers). left r d c) (leaves y))

      bytes : d.regs.plain ≡ all_bytes y
      bytes = ap (λ (r : Registers). r.plain) regs

      -- What was saved of enables.
      far_bytes : (address : ℕ) → (address ≡ at_byte 4 → ⊥) → (address ≡ at_byte 5 → ⊥) → d.regs.plain address ≡ stored_if t3 (at_byte 3) y kr.plain address
      far_bytes address four five = ap (λ (memory : ℕ → Byte). memory address) bytes ∙ bytes_kept plan.need plan.level has t4 t5 plan (saved_as y) address four five

      third : t3 ≡ true → HasEnableBits (d.regs.plain (at_byte 3)) x.regs.intcon
      third is =
          let same : d.regs.plain (at_byte 3) ≡ y =
          far_bytes (at_byte 3) (bytes_differ plan.need plan.level 3 4 has (lit< tt) (lit< tt) (λ e. absurd (omega (arith, e))))
          (bytes_differ plan.need plan.level 3 5 has (lit< tt) (lit< tt) (λ e. absurd (omega (arith, e))))
          ∙ here_stored t3 (at_byte 3) y kr.plain is in
          record {
            peie = ap (λ (b : Byte). b.b6) same ∙ ap (λ (b : Byte). b.b6) saved ∙ entered.enables.peie;
            t0ie = ap (λ (b : Byte). b.b5) same ∙ ap (λ (b : Byte). b.b5) saved ∙ entered.enables.t0ie;
            inte = ap (λ (b : Byte). b.b4) same ∙ ap (λ (b : Byte). b.b4) saved ∙ entered.enables.inte;
          }

      fourth : t4 ≡ true → d.regs.plain (at_byte 4) ≡ x.regs.pie1
      fourth is = ap (λ (memory : ℕ → Byte). memory (at_byte 4)) bytes ∙ pie1_stored plan.need plan.level has t4 t5 plan (saved_as y) is ∙ ap (λ (r : Registers). r.pie1) kr_is ∙ entered.enables.pie1

      fifth : t5 ≡ true → d.regs.plain (at_byte 5) ≡ x.regs.pie2
      fifth is = ap (λ (memory : ℕ → Byte). memory (at_byte 5)) bytes ∙ pie2_stored plan.need plan.level has t4 t5 plan (saved_as y) is ∙ ap (λ (r : Registers). r.pie2) kr_is ∙ entered.enables.pie2

      at_wanted : (P : Byte → Type 0) (t : Bool) (address : ℕ) → (t ≡ true → P (d.regs.plain address)) → ForSome (wanted t (place.Plain address)) (λ q. P (read (reg_of q) d.regs))
      at_wanted P t address holds q is = let parts = wanted_is t (place.Plain address) q is in subst (λ (q : Place). P (read (reg_of q) d.regs)) parts.1 (holds parts.0)

      kept : Kept (frame_in plan) x.regs d.regs
      kept = record {
        intcon = at_wanted (λ z. HasEnableBits z x.regs.intcon) t3 (at_byte 3) third;
        pie1 = at_wanted (λ z. z ≡ x.regs.pie1) t4 (at_byte 4) fourth;
        pie2 = at_wanted (λ z. z ≡ x.regs.pie2) t5 (at_byte 5) fifth;
      }

      -- What was saved of the bank bits and PCLATH.
      context_by : (P : Byte → Type 0) (t between : Bool) (one : ℕ) (common : ℕ) → (t ≡ true → P (d.regs.plain (if between then one else common)))
          → ForSome (wanted t (if between then place.Plain one else place.Plain common)) (λ q. P (read (reg_of q) d.regs))
      context_by P t true one common holds = at_wanted P t one holds
      context_by P t false one common holds = at_wanted P t common holds

      context_bit : (over saves : Bool) → (over && saves) ≡ true → saves ≡ true
      context_bit true true is = refl
      context_bit true false is = absurd (cc)
      context_bit false saves is = absurd (cc)

      other_byte : (address : ℕ) → (address ≡ at_byte 3 → ⊥) → stored_if t3 (at_byte 3) y kr.plain address ≡ kr.plain address
      other_byte address three = other_kept t3 (at_byte 3) address y kr.plain three

      stays_3 : (address : ℕ) → (address ≡ at_byte 3 → ⊥) → (address ≡ at_byte 4 → ⊥) → (address ≡ at_byte 5 → ⊥) → d.regs.plain address ≡ kr.plain address
      stays_3 address three four five = far_bytes address four five ∙ other_byte address three

      status_kept : has_status ≡ true → HasBank x (d.regs.plain (status_at (is_between plan.kind)))
      status_kept is =
          let between : Bool = is_between plan.kind in
          let same : d.regs.plain (status_at between) ≡ c.regs.plain 0x071 =
          stays_3 (status_at between) (status_apart between 3 (lit< tt) (omega arith)) (status_apart between 4 (lit< tt) (omega arith)) (status_apart between 5 (lit< tt) (omega arith))
          ∙ (copied between).status c.regs is in
          let saves = its.saves_status ∙ context_bit (is_over_runs plan.kind) (context_in plan).status is in
          record { rp1 = ap (λ (b : Byte). b.b6) same ∙ entered.rp1 saves; rp0 = ap (λ (b : Byte). b.b5) same ∙ entered.rp0 saves }

      page_kept : has_page ≡ true → d.regs.plain (page_at (is_between plan.kind)) ≡ x.regs.pclath
      page_kept is =
          let between : Bool = is_between plan.kind in
          stays_3 (page_at between) (page_apart between 3 (lit< tt) (omega arith)) (page_apart between 4 (lit< tt) (omega arith)) (page_apart between 5 (lit< tt) (omega arith))
          ∙ (copied between).page c.regs is ∙ entered.pclath (its.saves_pclath ∙ context_bit (is_over_runs plan.kind) (context_in plan).pclath is)

      pub arrived : AtClear p m l (λ event. SavedBy l (plans event)) e x d
      arrived = record {
        there = there;
        off = off;
        easy = easy_same l c d (ap (λ (r : Registers). r.pclath) regs ∙ ap (λ (r : Registers). r.pclath) kr_is) entered.easy;
        saved = record {
          low = beneath;
          below = below;
          at = at_level;
          usual = usual;
          idle = idle;
          masked = with_enabled M d.regs (record {
            peie = sym (ap (λ (r : Registers). r.intcon.b6) regs);
            t0ie = sym (ap (λ (r : Registers). r.intcon.b5) regs);
            inte = sym (ap (λ (r : Registers). r.intcon.b4) regs);
            pie1 = sym (ap (λ (r : Registers). r.pie1) regs);
            pie2 = sym (ap (λ (r : Registers). r.pie2) regs);
          });
          kept = kept;
          status = context_by (HasBank x) has_status (is_between plan.kind) (at_byte 1) 0x071 status_kept;
          pclath = context_by (λ z. z ≡ x.regs.pclath) has_page (is_between plan.kind) (at_byte 2) 0x072 page_kept;
        };
        masked = λ is. record {
          peie = ap (λ (r : Registers). r.intcon.b6) regs ∙ held.peie;
          t0ie = ap (λ (r : Registers). r.intcon.b5) regs ∙ held.t0ie;
          inte = ap (λ (r : Registers). r.intcon.b4) regs ∙ held.inte;
          rbie = ap (λ (r : Registers). r.intcon.b3) regs ∙ ap (λ (r : Registers). r.intcon.b3) kr_is ∙ rbie;
          pie1 = λ set. ap (λ (r : Registers). r.pie1) regs ∙ held.pie1 (sym held.peie ∙ sym (ap (λ (r : Registers). r.intcon.b6) regs) ∙ set);
          pie2 = λ set. ap (λ (r : Registers). r.pie2) regs ∙ held.pie2 (sym held.peie ∙ sym (ap (λ (r : Registers). r.intcon.b6) regs) ∙ set);
        };
        bank = λ is. banked;
        done = λ short. absurd (let none : true ≡ false = sym short ∙ its.short ∙ long in cc);
        open_bank = λ short. absurd (let none : true ≡ false = sym short ∙ its.short ∙ long in cc);
      }

    -- The whole way.
    module _ (k : ℕ) (stand : StandFrom l.program (l.entry e) (map instr_of (lines_in (Known 0) (entering_in plan))))
        (places : PlacesIn (λ q. l.inside (Start e) q ≡ true) (l.entry e) (lines_in (Known 0) (entering_in plan))) (may : MayDo l (Start e) (entering_in plan))
        (enough : length (lines_in (Known 0) (entering_in plan)) ≤ k) (clear : place_behind (l.entry e) (lines_in (Known 0) (entering_in plan)) ≡ l.clear e) where
      pub starts_long : c.pc ≡ l.entry e → Off c → Leads l (Start e) (AtClear p m l (λ event. SavedBy l (plans event)) e x) [] k c
      starts_long at off =
          let In : ℕ → Type 0 = λ q. l.inside (Start e) q ≡ true in
          let May : ℕ → Type 0 = λ address. l.may (Start e) address ≡ true in
          let Q : Chip → Type 0 = AtClear p m l (λ event. SavedBy l (plans event)) e x in
          let its_copied = copied (is_between plan.kind) in
          let still = all_split (DeedStill May) K (I ++ C) (subst (AllByRecursion (DeedStill May)) entering_apart may) in
          let still_rest = all_split (DeedStill May) I C still.1 in
          let all : List Line = lines_in (Known 0) K ++ (lines_in (Known 0) I ++ lines_in (Known 0) C) in
          let words : length (lines_in (Known 0) (entering_in plan)) ≡ length all = ap (λ (xs : List Line). length xs) lines_apart in
          tells_longer l.program (StillIn l.program (piece l (Start e))) Q [] (length all + 0) k c (omega (arith, words, enough))
          (entering_then l.program In May Q (clear_stays p m l plans e framed x) K C t3 (at_byte 3) (low 3 (lit< tt)) its_copied.fits fits_last still.0 still_rest.1
          (may_intcon May t3 (at_byte 3) still_rest.0) its_copied.bank its_copied.only (quiet_in K its_copied.quiet) (quiet_in C quiet_last) c entered.bank off (l.entry e) 0 [] at
          (subst (λ (xs : List Line). StandFrom l.program (l.entry e) (map instr_of xs)) lines_apart stand) (subst (PlacesIn In (l.entry e)) lines_apart places)
          (λ y d come. (
            refl,
            arrived y d come.saved come.only (come.there ∙ ap (place_behind (l.entry e)) (sym lines_apart) ∙ clear)
                (subst (λ (b : Bank). Holds b d) (last_bank plan.need plan.level has t4 t5 plan (Known 0)) (holds_of (bank_past (Known 0) C) d come.banked)) come.gie,
          )))
