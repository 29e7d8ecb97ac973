-- From the commit of a run to its return, with the context of what it interrupted.
use Rattle.std.proofs.Common.{◌≡◌, ℕ, ◌+◌, ◌≤◌, Bool, true, false, not, ◌&&◌, if◌then◌else◌, Option, List, [], ◌∷◌, ◌++◌, length, map, refl, sym, ap, subst, ◌∙◌, append_assoc, arith}
use Rattle.std.proofs.lemmas.Bool.{and_parts}
use Rattle.std.proofs.lemmas.List.{append-nil, length-append}
use Rattle.std.specs.List.{AllByRecursion}
use Rattle.frp_tree.specs.Tree.{ProgramTree}
use Rattle.pic_regs.specs.declared.places.Place.{Place}
use Rattle.pic_regs.specs.declared.places.Place.TheVariants as place
use Rattle.pic_regs.specs.Bytes.{Byte}
use Rattle.pic_regs.specs.Map.{Status}
use Rattle.pic_regs.specs.Places.{reg_of}
use Rattle.pic_regs.specs.Registers.{Registers, read}
use Rattle.pic_machine.specs.declared.steps.PortWrite.{PortWrite}
use Rattle.pic_machine.specs.Chip.{Chip}
use Rattle.code_steps.specs.declared.banks.Bank.{Bank}
use Rattle.code_steps.specs.declared.banks.Bank.TheVariants.{Known}
use Rattle.code_steps.specs.Steps.{next}
use Rattle.code_steps.specs.Ends.{Holds}
use Rattle.code_acts.specs.Codes.{moved}
use Rattle.code_acts.specs.Standing.{StandFrom}
use Rattle.glue_steps.specs.declared.lines.Line.{Line}
use Rattle.glue_steps.specs.declared.lines.Line.TheVariants.{Load, Store}
use Rattle.glue_steps.specs.Lines.{instr_of, is_steady}
use Rattle.glue_steps.specs.Stretches.{Fits, bits_of_bank, place_behind, ran_all}
use Rattle.glue_steps.specs.Laws.{StillIn}
use Rattle.glue_steps.specs.Still.{Off, PlacesIn, Still}
use Rattle.glue_steps.specs.Tells.{Tells, Withstands}
use Rattle.glue_steps.proofs.StillLaws.{still_parts}
use Rattle.glue_steps.proofs.StraightLaws.{ran_place}
use Rattle.glue_steps.proofs.StretchLaws.{straight_still}
use Rattle.glue_steps.proofs.TellsLaws.{tells_longer}
use Rattle.glue_parts.specs.declared.kept.TheConstants.{SAVED_STATUS}
use Rattle.glue_parts.specs.Effects.{left, none}
use Rattle.glue_parts.specs.Pieces.{lines_for}
use Rattle.glue_parts.specs.Places.{bank_of, is_status}
use Rattle.glue_parts.proofs.MakeLaws.{makes_bank, reached}
use Rattle.firmware_parts.specs.Layout.{Easy, Layout, piece}
use Rattle.firmware_parts.specs.Layout.Part.{Exit}
use Rattle.firmware_parts.specs.Runs.{AtReturn, Leads}
use Rattle.scratch_commit.specs.Deeds.{Deed, Choose, bank_past, lines_in}
use Rattle.scratch_commit.specs.Effects.{effect_in}
use Rattle.scratch_commit.specs.Enables.{with_enables_of}
use Rattle.scratch_commit.specs.Frames.{bringing, byte_of_frame, is_between, is_over_runs, unmasking, wanted}
use Rattle.scratch_commit.specs.Plans.{Plan, clearing_page, context_in, frame_in, going_home, masks_in, over_idle}
use Rattle.scratch_commit.proofs.DeedLaws.{lines_then as lines_both}
use Rattle.run_steps.specs.Deeds.{DeedStill}
use Rattle.run_steps.specs.Premises.{IsPlanOf, MayDo}
use Rattle.run_steps.specs.Saved.{HasBank, SavedBy}
use Rattle.run_steps.specs.Spots.{exit_bank, returning_in}
use Rattle.run_steps.proofs.EnterFacts.{quiet_in}
use Rattle.run_steps.proofs.ReturnFacts.{BehindPage, bank_zero, enabled, frame_read, front_deeds, front_fits, front_leaves, front_quiet}
use Rattle.run_steps.proofs.StartFacts.{behind_both, places_split, stand_split}
use Rattle.run_steps.proofs.StretchFacts.{banked_of, deeds_then, holds_of, lines_then, still_for}

-- What holds of all deeds of two lists holds of those of each.
pub all_split : {A : Type 0} (P : A → Type 0) (xs ys : List A) → AllByRecursion P (xs ++ ys) → AllByRecursion P xs × AllByRecursion P ys
all_split P [] ys all = (tt, all)
all_split P (x ∷ xs) ys all = let rest = all_split P xs ys all.1 in ((all.0, rest.0), rest.1)

-- What is done to STATUS last.
abbrev status_deeds : Option Place → List Deed
status_deeds o = bringing place.Status o ++ going_home o

returning_apart : (plan : Plan) → returning_in plan ≡ front_deeds plan ++ status_deeds (frame_in plan).status
returning_apart plan =
    let u : List Deed = unmasking (masks_in plan) (frame_in plan) in
    let c : List Deed = clearing_page (plan.spread.pages && over_idle plan) in
    let b : List Deed = bringing place.Pclath (frame_in plan).pclath in
    let s : List Deed = bringing place.Status (frame_in plan).status in
    let h : List Deed = going_home (frame_in plan).status in
    ap (λ deeds. u ++ (c ++ deeds)) (append_assoc b s h) ∙ ap (λ deeds. u ++ deeds) (sym (append_assoc c b (s ++ h))) ∙ sym (append_assoc u (c ++ b) (s ++ h))

-- What a chip is left with, but for STATUS.
pub regs_left : (r : Registers) (d c : Chip) → d ≡ left r d c → d.regs ≡ record r { status = d.regs.status }
regs_left r d c only = ap (λ (y : Chip). y.regs) only ∙ ap (λ (s : Byte). record r { status = s }) (sym (ap (λ (y : Chip). y.regs.status) only))

return_stays : (l : Layout) (x : Chip) → Withstands (AtReturn l x)
return_stays l x c d r at = record {
  word = ap (λ (y : Chip). l.program y.pc) r.only ∙ at.word;
  back = record {
    enables = record {
      peie = ap (λ (y : Chip). y.regs.intcon.b6) r.only ∙ at.back.enables.peie;
      t0ie = ap (λ (y : Chip). y.regs.intcon.b5) r.only ∙ at.back.enables.t0ie;
      inte = ap (λ (y : Chip). y.regs.intcon.b4) r.only ∙ at.back.enables.inte;
      pie1 = ap (λ (y : Chip). y.regs.pie1) r.only ∙ at.back.enables.pie1;
      pie2 = ap (λ (y : Chip). y.regs.pie2) r.only ∙ at.back.enables.pie2;
    };
    rp1 = ap (λ (y : Chip). y.regs.status.b6) r.only ∙ at.back.rp1;
    rp0 = ap (λ (y : Chip). y.regs.status.b5) r.only ∙ at.back.rp0;
    pclath = ap (λ (y : Chip). y.regs.pclath) r.only ∙ at.back.pclath;
  };
}

module _ (p : ProgramTree) (l : Layout) (e : ℕ) (plan : Plan) (its : IsPlanOf p l e plan) (x c : Chip) (saved : SavedBy l plan x c) where
  abbrev In : ℕ → Type 0
  In q = l.inside (Exit e) q ≡ true

  abbrev May : ℕ → Type 0
  May address = l.may (Exit e) address ≡ true

  abbrev Goes : ℕ → Chip → Type 0
  Goes k d = Tells l.program (Still l.program In May) (AtReturn l x) [] k d

  abbrev has_status : Bool
  has_status = is_over_runs plan.kind && (context_in plan).status

  abbrev place_by : Bool → Place
  place_by between = if between then byte_of_frame plan.need plan.level 1 else SAVED_STATUS

  abbrev status_place : Place
  status_place = place_by (is_between plan.kind)

  plain_read : (between : Bool) (r s : Registers) → r.plain ≡ s.plain → read (reg_of (place_by between)) r ≡ read (reg_of (place_by between)) s
  plain_read true r s same = ap (λ (memory : ℕ → Byte). read (reg_of (place_by true)) (record r { plain = memory })) same
  plain_read false r s same = ap (λ (memory : ℕ → Byte). read (reg_of (place_by false)) (record r { plain = memory })) same

  -- The registers, but for STATUS.
  record Given (d : Chip) : Type 0 where
    pub r : Registers
    pub page : BehindPage (enabled p l e plan its x c saved) x.regs.pclath r
    pub regs : d.regs ≡ record r { status = d.regs.status }

  context : (d : Chip) → Given d → d.regs.status.b6 ≡ x.regs.status.b6 → d.regs.status.b5 ≡ x.regs.status.b5 → l.program d.pc ≡ 0x0009 → AtReturn l x d
  context d given rp1 rp0 word =
      let all : d.regs ≡ record (record (with_enables_of x.regs c.regs) { pclath = given.r.pclath }) { status = d.regs.status } =
      given.regs ∙ ap (λ (r : Registers). record r { status = d.regs.status }) given.page.rest in
      record {
        word = word;
        back = record {
          enables = record {
            peie = ap (λ (r : Registers). r.intcon.b6) all;
            t0ie = ap (λ (r : Registers). r.intcon.b5) all;
            inte = ap (λ (r : Registers). r.intcon.b4) all;
            pie1 = ap (λ (r : Registers). r.pie1) all;
            pie2 = ap (λ (r : Registers). r.pie2) all;
          };
          rp1 = rp1;
          rp0 = rp0;
          pclath = ap (λ (r : Registers). r.pclath) given.regs ∙ given.page.page;
        };
      }

  -- Bank 0 is chosen, or STATUS is brought back.
  abbrev Ends : Bank → Bool → Type 0
  Ends bank t =
      (start : ℕ) (d : Chip) → StandFrom l.program start (map instr_of (lines_in bank (status_deeds (wanted t status_place))))
      → PlacesIn In start (lines_in bank (status_deeds (wanted t status_place))) → l.program (place_behind start (lines_in bank (status_deeds (wanted t status_place)))) ≡ 0x0009
      → Given d → d.pc ≡ start → Holds bank d → Off d → Goes (length (lines_in bank (status_deeds (wanted t status_place)))) d

  by_status : (bank : Bank) (t : Bool) → has_status ≡ t → Ends bank t
  by_status bank false is start d stand places word given at holds off =
      let choice : List Deed = Choose 0 ∷ [] in
      let count : length (lines_in bank choice) + 0 ≡ length (lines_in bank choice) = omega arith in
      subst (λ n. Goes n d) count
      (deeds_then l.program In May (AtReturn l x) (return_stays l x) bank choice start 0 [] d (tt, tt) (tt, tt) stand places at holds off
      (λ f led off_f.
      let zero = holds_of (Known 0) f led.banked in
      let its_bank = bank_zero p l e plan its x c saved is in (
        refl,
        context f (record { r = given.r; page = given.page; regs = regs_left d.regs f d led.only ∙ ap (λ (r : Registers). record r { status = f.regs.status }) given.regs })
            (zero.0 ∙ sym its_bank.0) (zero.1 ∙ sym its_bank.1) (ap l.program led.there ∙ word),
      )))
  by_status bank true is start d stand places word given at holds off =
      let it : Place = status_place in
      let readable = (frame_read p l e plan its).status it (ap (λ t. wanted t it) is) in
      let there : Bank = moved bank (bank_of (reg_of it)) in
      let before : List Line = lines_for bank (bank_of (reg_of it)) in
      let two : List Line = Load it ∷ Store place.Status ∷ [] in
      let are : lines_in bank (status_deeds (wanted true it)) ≡ before ++ two = append-nil ((before ++ Load it ∷ []) ++ Store place.Status ∷ []) ∙ append_assoc before (Load it ∷ []) (Store place.Status ∷ []) in
      let stands = stand_split l.program start before two (subst (λ (xs : List Line). StandFrom l.program start (map instr_of xs)) are stand) in
      let lie = places_split In start before two (subst (PlacesIn In start) are places) in
      let behind = behind_both start before two in
      let steady = (and_parts (is_steady (reg_of it)) (not (is_status (reg_of it))) readable.1).0 in
      let fits : Fits false (bits_of_bank there) two = (ap (λ b. b && true) steady, reached bank (reg_of it) readable.0, (refl, reached there Status tt, refl)) in
      let words = length-append before two in
      let all = ap (λ (xs : List Line). length xs) are in
      let count : length before + length two ≡ length (lines_in bank (status_deeds (wanted true it))) = omega (arith, words, all) in
      subst (λ n. Goes n d) count
      (lines_then l.program In May (AtReturn l x) (return_stays l x) (bits_of_bank bank) (bits_of_bank there) none before start (length two) [] d (makes_bank bank (bank_of (reg_of it))) stands.0 lie.0
      (still_for May bank (bank_of (reg_of it))) at (banked_of bank d holds) off
      (λ f led.
      let f_off : Off f = ap (λ (y : Chip). y.regs.intcon.b7) led.only ∙ off in
      let g : Chip = ran_all false two f in
      let g_there : g.pc ≡ place_behind (place_behind start before) two = ran_place two false false (bits_of_bank there) (place_behind start before) f (λ b. b) fits led.there in
      let bytes : f.regs.plain ≡ c.regs.plain =
      ap (λ (y : Chip). y.regs.plain) led.only ∙ ap (λ (r : Registers). r.plain) given.regs ∙ ap (λ (r : Registers). r.plain) given.page.rest in
      let kept : HasBank x (read (reg_of it) f.regs) =
      subst (HasBank x) (sym (plain_read (is_between plan.kind) f.regs c.regs bytes)) (saved.status it (ap (λ t. wanted t it) is)) in
      straight_still l.program In May (AtReturn l x) (return_stays l x) (bits_of_bank there) (place_behind start before) two f fits stands.1
      (still_parts In May (place_behind start before) two lie.1 (refl, tt, (refl, tt, tt))) led.there led.banked f_off
      (context g (record { r = given.r; page = given.page; regs = ap (λ (r : Registers). record r { status = g.regs.status }) (regs_left d.regs f d led.only) ∙ ap (λ (r : Registers). record r { status = g.regs.status }) given.regs })
      kept.rp1 kept.rp0 (ap l.program (g_there ∙ sym behind ∙ ap (place_behind start) (sym are)) ∙ word))))

  -- The whole way.
  module _ (k : ℕ) (stand : StandFrom l.program (next (l.commits e)) (map instr_of (lines_in (exit_bank plan) (returning_in plan))))
      (places : PlacesIn In (next (l.commits e)) (lines_in (exit_bank plan) (returning_in plan))) (may : MayDo l (Exit e) (returning_in plan))
      (enough : length (lines_in (exit_bank plan) (returning_in plan)) ≤ k) (word : l.program (place_behind (next (l.commits e)) (lines_in (exit_bank plan) (returning_in plan))) ≡ 0x0009) where
    pub exits : c.pc ≡ next (l.commits e) → Off c → Easy l c → Holds (exit_bank plan) c → Leads l (Exit e) (AtReturn l x) [] k c
    exits at off easy holds =
        let front : List Deed = front_deeds plan in
        let last : List Deed = status_deeds (frame_in plan).status in
        let from : Bank = exit_bank plan in
        let to : Bank = bank_past from front in
        let are : lines_in from (returning_in plan) ≡ lines_in from front ++ lines_in to last = ap (lines_in from) (returning_apart plan) ∙ lines_both from front last in
        let stands = stand_split l.program (next (l.commits e)) (lines_in from front) (lines_in to last) (subst (λ (xs : List Line). StandFrom l.program (next (l.commits e)) (map instr_of xs)) are stand) in
        let lie = places_split In (next (l.commits e)) (lines_in from front) (lines_in to last) (subst (PlacesIn In (next (l.commits e))) are places) in
        let still = all_split (DeedStill May) front last (subst (AllByRecursion (DeedStill May)) (returning_apart plan) may) in
        let behind = behind_both (next (l.commits e)) (lines_in from front) (lines_in to last) in
        let word_there : l.program (place_behind (place_behind (next (l.commits e)) (lines_in from front)) (lines_in to last)) ≡ 0x0009 =
        ap l.program (sym behind ∙ ap (place_behind (next (l.commits e))) (sym are)) ∙ word in
        let words = length-append (lines_in from front) (lines_in to last) in
        let all = ap (λ (xs : List Line). length xs) are in
        let count : length (lines_in from front) + length (lines_in to last) ≤ k = omega (arith, words, all, enough) in
        tells_longer l.program (StillIn l.program (piece l (Exit e))) (AtReturn l x) [] (length (lines_in from front) + length (lines_in to last)) k c count
        (subst (λ puts. Tells l.program (Still l.program In May) (AtReturn l x) puts (length (lines_in from front) + length (lines_in to last)) c)
        (ap (λ (puts : List PortWrite). puts ++ []) (quiet_in front (front_quiet plan) c.regs))
        (deeds_then l.program In May (AtReturn l x) (return_stays l x) from front (next (l.commits e)) (length (lines_in to last)) [] c (front_fits plan (frame_read p l e plan its)) still.0 stands.0 lie.0
        at holds off
        (λ d led off_d. by_status to has_status refl (place_behind (next (l.commits e)) (lines_in from front)) d stands.1 lie.1 word_there
        (record { r = (effect_in front).change c.regs; page = front_leaves p l e plan its x c saved easy; regs = regs_left ((effect_in front).change c.regs) d c led.only }) led.there (holds_of to d led.banked) off_d)))
