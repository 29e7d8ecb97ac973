-- From the start of a run that does its work with interrupts off to the clearing of its flag.
use Rattle.std.proofs.Common.{◌≡◌, ℕ, ◌+◌, ◌<◌, ◌≤◌, ◌==◌, Bool, true, false, ◌&&◌, if◌then◌else◌, None, [], ◌∷◌, length, map, refl, sym, ap, subst, ◌∙◌, arith, inl, inr}
use Rattle.std.specs.Prelude.{◌⊎◌}
use Rattle.std.specs.Option.{ForSome}
use Rattle.frp_tree.specs.Tree.{ProgramTree}
use Rattle.efrp_meaning.specs.States.{IsState}
use Rattle.map_file.specs.declared.maps.Map.{Map}
use Rattle.pic_regs.specs.declared.places.Place.{Place}
use Rattle.pic_regs.specs.Bytes.{Byte}
use Rattle.pic_regs.specs.Places.{reg_of}
use Rattle.pic_regs.specs.Registers.{Registers, read}
use Rattle.pic_machine.specs.Chip.{Chip}
use Rattle.pic_machine.specs.Results.{Done}
use Rattle.code_steps.specs.declared.banks.Bank.TheVariants.{Known}
use Rattle.code_steps.specs.Between.{Alone}
use Rattle.code_steps.specs.Ends.{Between, Holds}
use Rattle.code_acts.specs.Codes.{moved}
use Rattle.code_acts.specs.Standing.{StandFrom}
use Rattle.code_items.specs.Lines.{Stands}
use Rattle.glue_steps.specs.Lines.{instr_of}
use Rattle.glue_steps.specs.Stretches.{bits_of_bank, place_behind}
use Rattle.glue_steps.specs.Laws.{StillIn}
use Rattle.glue_steps.specs.Still.{Off, PlacesIn}
use Rattle.glue_steps.specs.Tells.{Withstands}
use Rattle.glue_steps.proofs.StillLaws.{still_wider, still_work}
use Rattle.glue_steps.proofs.TellsLaws.{tells_comes, tells_keeping, tells_longer, tells_then, tells_wider}
use Rattle.glue_parts.specs.declared.kept.TheConstants.{SAVED_PCLATH, SAVED_STATUS}
use Rattle.glue_parts.specs.Effects.{left, none}
use Rattle.glue_parts.specs.Pieces.{bank_of_flag}
use Rattle.glue_parts.proofs.MakeLaws.{makes_bank}
use Rattle.firmware_parts.specs.Layout.{Layout, Usual, piece}
use Rattle.firmware_parts.specs.Layout.Part.{Start, Work}
use Rattle.firmware_parts.specs.Contexts.{AtLevel, Entered, SameEnables}
use Rattle.firmware_parts.specs.Runs.{AtClear, Leads, Reacts}
use Rattle.firmware_parts.specs.Work.{AtEnd, DoesWork, WorkOwn}
use Rattle.scratch_commit.specs.declared.kinds.Kind.{Kind}
use Rattle.scratch_commit.specs.declared.kinds.Kind.TheVariants.{Short, Long, Bottom, Middle}
use Rattle.scratch_commit.specs.Deeds.{LowerFlag, bank_past}
use Rattle.scratch_commit.specs.Effects.{effect_in}
use Rattle.scratch_commit.specs.Frames.{byte_of_frame, is_between, is_over_runs, wanted}
use Rattle.scratch_commit.specs.Laws.{HasEnableBits}
use Rattle.scratch_commit.specs.Masks.{masking, masks_of, no_masks, saved_of}
use Rattle.scratch_commit.specs.Plans.{Plan, context_in, frame_in, is_short, masks_in}
use Rattle.run_steps.specs.Premises.{IsFrameIn, IsPlanOf, May, Spares}
use Rattle.run_steps.specs.Saved.{Idle, SavedBy, masked_in}
use Rattle.run_steps.specs.Spots.{before_flag}
use Rattle.run_steps.proofs.ClearFacts.{clear_stays, reacts_same}
use Rattle.run_steps.proofs.FrameFacts.{wanted_is}
use Rattle.run_steps.proofs.SavedFacts.{frame_read, with_enabled}
use Rattle.run_steps.proofs.StretchFacts.{banked_of, holds_of, lines_then, still_for}
use Rattle.run_steps.proofs.WorkFacts.{comes_by, easy_same, no_return_in}

module _ (p : ProgramTree) (m : Map) (l : Layout) (plans : ℕ → Plan) (e : ℕ) (its : IsPlanOf p l e (plans e)) (framed : IsFrameIn l e (frame_in (plans e))) (short : is_short (plans e).kind ≡ true)
    (spares : Spares l e) where
  abbrev plan : Plan
  plan = plans e

  is_its : l.is_short e ≡ true
  is_its = its.short ∙ short

  -- It clears no enables and saves none; and it isn't a level between.
  masked_short : (s : Bool) → s ≡ true → (r : Registers) → (effect_in (masking (if s then no_masks else masks_of plan.heard))).change r ≡ r
  masked_short true is r = refl
  masked_short false is r = absurd (cc)

  record SavesNone (s : Bool) : Type 0 where
    pub intcon : (saved_of (if s then no_masks else masks_of plan.heard)).intcon ≡ false
    pub pie1 : (saved_of (if s then no_masks else masks_of plan.heard)).pie1 ≡ false
    pub pie2 : (saved_of (if s then no_masks else masks_of plan.heard)).pie2 ≡ false

  saves_none : (s : Bool) → s ≡ true → SavesNone s
  saves_none true is = record { intcon = refl; pie1 = refl; pie2 = refl }
  saves_none false is = absurd (cc)

  never_wanted : (P : Place → Type 0) (t : Bool) (q : Place) → t ≡ false → ForSome (wanted t q) P
  never_wanted P t q not_wanted r is = let parts = wanted_is t q r is in absurd (let clash : true ≡ false = sym parts.0 ∙ not_wanted in cc)

  not_between : (kind : Kind) → is_short kind ≡ true → is_between kind ≡ false
  not_between Short is = refl
  not_between Long is = absurd (cc)
  not_between Bottom is = absurd (cc)
  not_between Middle is = absurd (cc)

  -- What stays while the work is done.
  record Stays (c d : Chip) : Type 0 where
    pub off : Off d
    pub enables : SameEnables c d
    pub bytes : (address : ℕ) → l.frame e address ≡ true → d.regs.plain address ≡ c.regs.plain address

  stays_alone : (c : Chip) → Withstands (Stays c)
  stays_alone c d f r at = record {
    off = ap (λ (y : Chip). y.regs.intcon.b7) r.only ∙ at.off;
    enables = record {
      peie = ap (λ (y : Chip). y.regs.intcon.b6) r.only ∙ at.enables.peie;
      t0ie = ap (λ (y : Chip). y.regs.intcon.b5) r.only ∙ at.enables.t0ie;
      inte = ap (λ (y : Chip). y.regs.intcon.b4) r.only ∙ at.enables.inte;
      pie1 = ap (λ (y : Chip). y.regs.pie1) r.only ∙ at.enables.pie1;
      pie2 = ap (λ (y : Chip). y.regs.pie2) r.only ∙ at.enables.pie2;
    };
    bytes = λ address is. ap (λ (y : Chip). y.regs.plain address) r.only ∙ at.bytes address is;
  }

  module _ (start stop : ℕ) where
    -- A step of the work.
    abbrev Step : Chip → Done → Type 0
    Step d done = WorkOwn l e start stop d done × ((l.program d.pc == 0x0009) ≡ false)

    stays_on : (c d : Chip) (done : Done) → Step d done → Stays c d → Stays c done.chip
    stays_on c d done step at = record {
      off = ap (λ (y : Chip). y.regs.intcon.b7) step.0.own.kept ∙ at.off;
      enables = record {
        peie = ap (λ (y : Chip). y.regs.intcon.b6) step.0.own.kept ∙ at.enables.peie;
        t0ie = ap (λ (y : Chip). y.regs.intcon.b5) step.0.own.kept ∙ at.enables.t0ie;
        inte = ap (λ (y : Chip). y.regs.intcon.b4) step.0.own.kept ∙ at.enables.inte;
        pie1 = ap (λ (y : Chip). y.regs.pie1) step.0.own.kept ∙ at.enables.pie1;
        pie2 = ap (λ (y : Chip). y.regs.pie2) step.0.own.kept ∙ at.enables.pie2;
      };
      bytes = λ address is. same_or address is (step.0.own.plain address) ∙ at.bytes address is;
    }
      where
        same_or : (address : ℕ) → l.frame e address ≡ true → (done.chip.regs.plain address ≡ d.regs.plain address) ⊎ (l.may (Work e) address ≡ true)
            → done.chip.regs.plain address ≡ d.regs.plain address
        same_or address is (inl same) = same
        same_or address is (inr may) = absurd (spares is_its address is may)

    abbrev Worked : Chip → Chip → Type 0
    Worked c d = AtEnd plan.bank c plan.work d × Reacts p m l e d.regs.plain × Stays c d

    works_told : (most : ℕ) (works : DoesWork p m l most plan.bank e plan.work) (marks : ℕ → ℕ) → Stands l.paged l.program marks start plan.work stop → stop ≡ start + length plan.work → stop < 8192
        → ((place : ℕ) → Between start stop place → l.inside (Start e) place ≡ true) → ((address : ℕ) → May l (Work e) address → May l (Start e) address)
        → (c : Chip) → c.pc ≡ start → Off c → Holds (Known 0) c → IsState p (l.states c.regs.plain)
        → Leads l (Start e) (Worked c) [] (length plan.work) c
    works_told most works marks stands ends room inside more c at off holds state =
        let Q : Chip → Type 0 = λ d. AtEnd plan.bank c plan.work d × Reacts p m l e d.regs.plain in
        let come = works.reacts l.paged marks stop c
        (record { pc = omega (arith, at, ends, room); room = omega (arith, at, ends, room); stand = subst (λ r. Stands l.paged l.program marks r plan.work stop) (sym at) stands; holds = holds }) state in
        let begun : Stays c c = record { off = off; enables = record { peie = refl; t0ie = refl; inte = refl; pie1 = refl; pie2 = refl }; bytes = λ address is. refl } in
        tells_wider l.program (λ d done. Step d done × Stays c d) (StillIn l.program (piece l (Start e))) (λ d. Q d × Stays c d) (Worked c) steps (λ d q. (q.0.0, q.0.1, q.1)) [] (length plan.work) c
        (tells_keeping l.program Step Q (Stays c) (stays_alone c) (stays_on c) [] (length plan.work) c begun
        (tells_comes l.program Step Q (length plan.work) c
        (comes_by l.program Alone Alone (WorkOwn l e c.pc (c.pc + length plan.work)) (λ d done. Step d done × (done.port ≡ None)) Q Q (λ x y r. r)
        (λ d done is step. let at_it = placed d done step in ((at_it, no_return_in l.program d done is at_it.own.kept), at_it.own.port)) (λ d q. q) (length plan.work) c come)))
      where
        placed : (d : Chip) (done : Done) → WorkOwn l e c.pc (c.pc + length plan.work) d done → WorkOwn l e start stop d done
        placed d done step = subst (λ r. WorkOwn l e start r d done) (sym ends) (subst (λ r. WorkOwn l e r (r + length plan.work) d done) at step)

        steps : (d : Chip) (done : Done) → Step d done × Stays c d → StillIn l.program (piece l (Start e)) d done
        steps d done step =
            let In : ℕ → Type 0 = λ q. (l.inside (Start e) q ≡ true) × ((l.program q == 0x0009) ≡ false) in
            still_wider l.program In (λ q. l.inside (Start e) q ≡ true) (λ address. l.may (Work e) address ≡ true) (λ address. l.may (Start e) address ≡ true) (λ q both. both.0) more d done
            (still_work l.program In (λ address. l.may (Work e) address ≡ true) (λ q both. both.1) start stop d done
            (inside d.pc (step.0.0.own.from, step.0.0.own.below), step.0.1) step.1.off step.0.0.own)

  -- At the clearing of the flag, in its bank.
  module _ (x c : Chip) (beneath : ℕ) (usual : Usual l x) (entered : Entered l x c) (at_level : AtLevel l beneath x) (below : beneath < plan.level) (idle : Idle beneath x) where
    arrived : (start stop : ℕ) (d f : Chip) → Worked start stop c d → f ≡ left d.regs f d → f.pc ≡ l.clear e → Holds (moved plan.bank (bank_of_flag plan.source)) f
        → AtClear p m l (λ event. SavedBy l (plans event)) e x f
    arrived start stop d f worked only there banked =
        let stays = worked.2 in
        let same : masked_in plan x.regs ≡ x.regs = masked_short (is_short plan.kind) short x.regs in
        let none_saved = saves_none (is_short plan.kind) short in
        let bytes : (address : ℕ) → l.frame e address ≡ true → f.regs.plain address ≡ c.regs.plain address =
        λ address is. ap (λ (y : Chip). y.regs.plain address) only ∙ stays.bytes address is in
        record {
          there = there;
          off = ap (λ (y : Chip). y.regs.intcon.b7) only ∙ stays.off;
          easy = easy_same l c f (ap (λ (y : Chip). y.regs.pclath) only ∙ worked.0.page) entered.easy;
          saved = record {
            low = beneath;
            below = below;
            at = at_level;
            usual = usual;
            idle = idle;
            masked = with_enabled (masked_in plan x.regs) f.regs (record {
              peie = ap (λ (r : Registers). r.intcon.b6) same ∙ sym (ap (λ (y : Chip). y.regs.intcon.b6) only ∙ stays.enables.peie ∙ entered.enables.peie);
              t0ie = ap (λ (r : Registers). r.intcon.b5) same ∙ sym (ap (λ (y : Chip). y.regs.intcon.b5) only ∙ stays.enables.t0ie ∙ entered.enables.t0ie);
              inte = ap (λ (r : Registers). r.intcon.b4) same ∙ sym (ap (λ (y : Chip). y.regs.intcon.b4) only ∙ stays.enables.inte ∙ entered.enables.inte);
              pie1 = ap (λ (r : Registers). r.pie1) same ∙ sym (ap (λ (y : Chip). y.regs.pie1) only ∙ stays.enables.pie1 ∙ entered.enables.pie1);
              pie2 = ap (λ (r : Registers). r.pie2) same ∙ sym (ap (λ (y : Chip). y.regs.pie2) only ∙ stays.enables.pie2 ∙ entered.enables.pie2);
            });
            kept = record {
              intcon = never_wanted (λ q. HasEnableBits (read (reg_of q) f.regs) x.regs.intcon) (saved_of (masks_in plan)).intcon (byte_of_frame plan.need plan.level 3) none_saved.intcon;
              pie1 = never_wanted (λ q. read (reg_of q) f.regs ≡ x.regs.pie1) (saved_of (masks_in plan)).pie1 (byte_of_frame plan.need plan.level 4) none_saved.pie1;
              pie2 = never_wanted (λ q. read (reg_of q) f.regs ≡ x.regs.pie2) (saved_of (masks_in plan)).pie2 (byte_of_frame plan.need plan.level 5) none_saved.pie2;
            };
            status = λ q is.
                let parts = wanted_is (is_over_runs plan.kind && (context_in plan).status) (if is_between plan.kind then byte_of_frame plan.need plan.level 1 else SAVED_STATUS) q is in
                let common : SAVED_STATUS ≡ q = ap (λ b. if b then byte_of_frame plan.need plan.level 1 else SAVED_STATUS) (sym (not_between plan.kind short)) ∙ parts.1 in
                let saves = its.saves_status ∙ context_bit (is_over_runs plan.kind) (context_in plan).status parts.0 in
                let byte : read (reg_of q) f.regs ≡ c.regs.plain 0x071 = frame_read l e c.regs f.regs bytes q (framed.status q is) ∙ ap (λ (o : Place). read (reg_of o) c.regs) (sym common) in
                record { rp1 = ap (λ (b : Byte). b.b6) byte ∙ entered.rp1 saves; rp0 = ap (λ (b : Byte). b.b5) byte ∙ entered.rp0 saves };
            pclath = λ q is.
                let parts = wanted_is (is_over_runs plan.kind && (context_in plan).pclath) (if is_between plan.kind then byte_of_frame plan.need plan.level 2 else SAVED_PCLATH) q is in
                let common : SAVED_PCLATH ≡ q = ap (λ b. if b then byte_of_frame plan.need plan.level 2 else SAVED_PCLATH) (sym (not_between plan.kind short)) ∙ parts.1 in
                frame_read l e c.regs f.regs bytes q (framed.pclath q is) ∙ ap (λ (o : Place). read (reg_of o) c.regs) (sym common)
                ∙ entered.pclath (its.saves_pclath ∙ context_bit (is_over_runs plan.kind) (context_in plan).pclath parts.0);
          };
          masked = λ long. absurd (let clash : true ≡ false = sym is_its ∙ long in cc);
          bank = λ long. absurd (let clash : true ≡ false = sym is_its ∙ long in cc);
          done = λ is. reacts_same p m l e d.regs.plain f.regs.plain (ap (λ (y : Chip). y.regs.plain) only) worked.1;
          open_bank = λ is. subst (λ b. Holds b f) (sym (its.bank ∙ open_short (is_short plan.kind) short)) banked;
        }
      where
        context_bit : (over saves : Bool) → (over && saves) ≡ true → saves ≡ true
        context_bit true true is = refl
        context_bit true false is = absurd (cc)
        context_bit false saves is = absurd (cc)

        open_short : (s : Bool) → s ≡ true → (if s then bank_past plan.bank (LowerFlag plan.source ∷ []) else plan.bank) ≡ moved plan.bank (bank_of_flag plan.source)
        open_short true is = refl
        open_short false is = absurd (cc)

    module _ (most : ℕ) (works : DoesWork p m l most plan.bank e plan.work) (marks : ℕ → ℕ) (start : ℕ) (stands : Stands l.paged l.program marks start plan.work (start + length plan.work))
        (before : StandFrom l.program (start + length plan.work) (map instr_of (before_flag plan))) (room : start + length plan.work < 8192)
        (inside : (place : ℕ) → Between start (start + length plan.work) place → l.inside (Start e) place ≡ true)
        (places : PlacesIn (λ q. l.inside (Start e) q ≡ true) (start + length plan.work) (before_flag plan)) (more : (address : ℕ) → May l (Work e) address → May l (Start e) address)
        (k : ℕ) (enough : length plan.work + length (before_flag plan) ≤ k) (entry : l.entry e ≡ start) (clear : place_behind (start + length plan.work) (before_flag plan) ≡ l.clear e) where
      pub starts_short : c.pc ≡ l.entry e → Off c → IsState p (l.states c.regs.plain) → Leads l (Start e) (AtClear p m l (λ event. SavedBy l (plans event)) e x) [] k c
      starts_short at off state =
          let In : ℕ → Type 0 = λ q. l.inside (Start e) q ≡ true in
          let May_start : ℕ → Type 0 = λ address. l.may (Start e) address ≡ true in
          let Q : Chip → Type 0 = AtClear p m l (λ event. SavedBy l (plans event)) e x in
          let stop : ℕ = start + length plan.work in
          let first = works_told start stop most works marks stands refl room inside more c (at ∙ entry) off entered.bank state in
          tells_longer l.program (StillIn l.program (piece l (Start e))) Q [] (length plan.work + (length (before_flag plan) + 0)) k c (omega (arith, enough))
          (tells_then l.program (StillIn l.program (piece l (Start e))) (Worked start stop c) Q [] [] (length plan.work) (length (before_flag plan) + 0) c first
          (λ d worked.
          let end = worked.0 in
          let end_there = end.there in
          let there : d.pc ≡ stop = omega (arith, end_there, at, entry, room) in
          lines_then l.program In May_start Q (clear_stays p m l plans e framed x) (bits_of_bank plan.bank) (bits_of_bank (moved plan.bank (bank_of_flag plan.source))) none (before_flag plan) stop 0 [] d
          (makes_bank plan.bank (bank_of_flag plan.source)) before places (still_for May_start plan.bank (bank_of_flag plan.source)) there (banked_of plan.bank d end.bank) worked.2.off
          (λ f led. (refl, arrived start stop d f worked led.only (led.there ∙ clear) (holds_of (moved plan.bank (bank_of_flag plan.source)) f led.banked)))))
