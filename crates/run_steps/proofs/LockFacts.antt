-- The lock of a run: on to the open, back to the work, or, where an interrupt came late, back to the lock.
use Rattle.std.proofs.Common.{◌≡◌, ℕ, ◌+◌, ◌%◌, ◌<◌, ◌≤◌, Bool, true, false, not, if◌then◌else◌, Some, List, ◌∷◌, refl, sym, ap, subst, ◌∙◌, arith, inl, inr, lit≤}
use Rattle.pic_isa.specs.declared.instructions.Instr.TheVariants.{Btfsc, Goto}
use Rattle.pic_regs.specs.Bytes.{Byte, zeros}
use Rattle.pic_regs.specs.Map.{Pclath, existing}
use Rattle.pic_machine.specs.Chip.{Chip, advanced, skipping}
use Rattle.pic_machine.specs.Results.{leaves}
use Rattle.code_steps.specs.Steps.{Is, next, own}
use Rattle.code_steps.specs.Ends.{Between, Holds}
use Rattle.code_steps.specs.Jumps.{Reaches, high_page, low_page, setting}
use Rattle.code_steps.proofs.BetweenLaws.{holds_stays}
use Rattle.code_steps.proofs.ComesLaws.{comes_longer, own_is}
use Rattle.code_steps.proofs.JumpLaws.{goes_to, goto_arrives, sets, tests_clear_intcon}
use Rattle.code_items.specs.declared.items.Item.{Item}
use Rattle.code_items.specs.declared.items.Item.TheVariants.{Ins, Jump}
use Rattle.code_items.specs.Lines.{Stands}
use Rattle.firmware_parts.specs.Layout.{Layout, Usual}
use Rattle.firmware_parts.specs.Layout.Part.{Work}
use Rattle.firmware_parts.specs.Runs.{AtLock, Returned, Void, WorkStep}
use Rattle.run_steps.proofs.BeginFacts.{first_reaches}
use Rattle.run_steps.proofs.SkipFacts.{holds_placed, sets_high, sets_low}
use Rattle.run_steps.proofs.WorkFacts.{easy_same, no_return_in}

-- Steps of the way back to the lock: to another place, and of page settings.
module _ (l : Layout) (e start stop : ℕ) (inside : (place : ℕ) → Between start stop place → l.inside (Work e) place ≡ true) (lock : l.lock e < start) where
  not_lock : (place : ℕ) → Between start stop place → place ≡ l.lock e → ⊥
  not_lock place its same = let from = its.0 in absurd (omega (arith, from, lock, same))

  going : (d : Chip) (at : ℕ) → own l.program d ≡ Some (goes_to at d) → Between start stop d.pc → WorkStep l e d (goes_to at d)
  going d at is its = record {
    inside = inside d.pc its;
    no_lock = not_lock d.pc its;
    no_return = no_return_in l.program d (goes_to at d) is refl;
    kept = refl;
    easy = easy_same l d (goes_to at d).chip refl;
    usual = λ locked usual. record { easy = easy_same l d (goes_to at d).chip refl usual.easy; bank = usual.bank; page = usual.page };
    plain = λ address. inl refl;
    wrote = tt;
    port = refl;
  }

  setting_page : (d : Chip) (at : ℕ) (x : Byte) → own l.program d ≡ Some (sets at x d) → Between start stop d.pc → l.paged ≡ true → l.may (Work e) 0x00A ≡ true
      → (l.is_locked e ≡ true → l.saves_pclath ≡ true) → (existing Pclath d.regs.pclath ≡ d.regs.pclath → existing Pclath x ≡ x) → WorkStep l e d (sets at x d)
  setting_page d at x is its paged may saves whole = record {
    inside = inside d.pc its;
    no_lock = not_lock d.pc its;
    no_return = no_return_in l.program d (sets at x d) is refl;
    kept = refl;
    easy = λ easy. record { whole = whole easy.whole; page = λ short. absurd (cc) };
    usual = λ locked usual. record {
      easy = record { whole = whole usual.easy.whole; page = λ short. absurd (cc) };
      bank = usual.bank;
      page = λ unsaved. let saved = saves locked in absurd (cc);
    };
    plain = λ address. inl refl;
    wrote = inr may;
    port = refl;
  }

  -- Where an interrupt came late, interrupts are on behind the lock's first step when its run goes on: the lock comes again.
  module _ (marks : ℕ → ℕ) (m q : ℕ) (items : List Item) (mark : marks m ≡ l.lock e) (few : l.paged ≡ false → l.lock e < 2048) (small : l.lock e < 8192)
      (words : start + (if l.paged then 4 else 2) ≤ stop) (top : stop ≤ 8192) (may : l.paged ≡ true → l.may (Work e) 0x00A ≡ true)
      (saves : l.paged ≡ true → l.is_locked e ≡ true → l.saves_pclath ≡ true) (c : Chip) (at : c.pc ≡ start) (holds : Holds (l.bank e) c) (usual : Usual l c) where
    test_off : (d : Chip) → d.regs.intcon.b7 ≡ true → (p : ℕ) → d.pc ≡ p → Is l.program p (Btfsc 0x0B 7) → own l.program d ≡ Some (goes_to (next d.pc) d)
    test_off d on p here is =
        own_is l.program d (Btfsc 0x0B 7) (subst (λ r. Is l.program r (Btfsc 0x0B 7)) (sym here) is) ∙ tests_clear_intcon 7 d
        ∙ ap (λ b. leaves (skipping (not b) (advanced d))) on

    jump_back : (d : Chip) (p : ℕ) → d.pc ≡ p → Is l.program p (Goto (marks m % 2048)) → Reaches false (marks m) d → own l.program d ≡ Some (goes_to (marks m) d)
    jump_back d p here is page =
        own_is l.program d (Goto (marks m % 2048)) (subst (λ r. Is l.program r (Goto (marks m % 2048))) (sym here) is)
        ∙ goto_arrives (marks m) d (let there = mark in omega (arith, there, small)) page

    slips_short : l.paged ≡ false → Stands false l.program marks start (Ins (Btfsc 0x0B 7) ∷ Jump m ∷ items) q → Void l e 4 c
    slips_short short stands =
        let room : start + 2 ≤ stop = subst (λ b. start + (if b then 4 else 2) ≤ stop) short words in
        comes_longer l.program Returned (WorkStep l e) (AtLock l e) 2 4 c (lit≤ tt)
        (inr (λ d r.
        let here : d.pc ≡ start = r.others.pc ∙ at in
        let is = test_off d r.on start here stands.0 in (
          goes_to (next d.pc) d,
          is,
          going d (next d.pc) is (omega (arith, here), omega (arith, here, room)),
          inr (λ f s.
              let there : f.pc ≡ next start = s.others.pc ∙ ap next here in
              let page : f.regs.pclath ≡ zeros = s.others.pclath ∙ r.others.pclath ∙ usual.easy.page short in
              let is_f = jump_back f (next start) there stands.1.0 (first_reaches (marks m) f (let its = few short in omega (arith, its, mark)) page) in (
                goes_to (marks m) f,
                is_f,
                going f (marks m) is_f (omega (arith, there, top, room), omega (arith, there, top, room)),
                record { there = mark; bank = holds_placed (l.bank e) (marks m) f.regs.pclath f (holds_stays (l.bank e) (goes_to (next d.pc) d).chip f s.others (holds_placed (l.bank e) (next d.pc) d.regs.pclath d (holds_stays (l.bank e) c d r.others holds))) },
              )),
        )))

    slips_paged : l.paged ≡ true → Stands true l.program marks start (Ins (Btfsc 0x0B 7) ∷ Jump m ∷ items) q → Void l e 4 c
    slips_paged paged stands =
        let room : start + 4 ≤ stop = subst (λ b. start + (if b then 4 else 2) ≤ stop) paged words in
        let t = marks m in
        inr (λ d r.
        let here : d.pc ≡ start = r.others.pc ∙ at in
        let low : Byte = record d.regs.pclath { b3 = low_page t } in
        let is = own_is l.program d (setting 3 (low_page t)) (subst (λ p. Is l.program p (setting 3 (low_page t))) (sym here) stands.0) ∙ sets_low (low_page t) d in
        let holds_d = holds_placed (l.bank e) (next d.pc) low d (holds_stays (l.bank e) c d r.others holds) in (
          sets (next d.pc) low d,
          is,
          setting_page d (next d.pc) low is (omega (arith, here), omega (arith, here, room)) paged (may paged) (saves paged) (ap (λ (x : Byte). record x { b3 = low_page t })),
          inr (λ f s.
              let there : f.pc ≡ next start = s.others.pc ∙ ap next here in
              let page : Byte = record f.regs.pclath { b4 = high_page t } in
              let is_f = own_is l.program f (setting 4 (high_page t)) (subst (λ p. Is l.program p (setting 4 (high_page t))) (sym there) stands.1.0) ∙ sets_high (high_page t) f in
              let holds_f = holds_placed (l.bank e) (next f.pc) page f (holds_stays (l.bank e) (sets (next d.pc) low d).chip f s.others holds_d) in (
                sets (next f.pc) page f,
                is_f,
                setting_page f (next f.pc) page is_f (omega (arith, there, top, room), omega (arith, there, top, room)) paged (may paged) (saves paged)
                    (ap (λ (x : Byte). record x { b4 = high_page t })),
                inr (λ g u.
                    let behind : g.pc ≡ next (next start) = u.others.pc ∙ ap next there in
                    let is_g = test_off g u.on (next (next start)) behind stands.1.1.0 in
                    let holds_g = holds_placed (l.bank e) (next g.pc) g.regs.pclath g (holds_stays (l.bank e) (sets (next f.pc) page f).chip g u.others holds_f) in (
                      goes_to (next g.pc) g,
                      is_g,
                      going g (next g.pc) is_g (omega (arith, behind, top, room), omega (arith, behind, top, room)),
                      inr (λ h v.
                          let last : h.pc ≡ next (next (next start)) = v.others.pc ∙ ap next behind in
                          let same : h.regs.pclath ≡ page = v.others.pclath ∙ u.others.pclath in
                          let high : h.regs.pclath.b4 ≡ high_page t = ap (λ (x : Byte). x.b4) same in
                          let lower : h.regs.pclath.b3 ≡ low_page t = ap (λ (x : Byte). x.b3) same ∙ ap (λ (x : Byte). x.b3) s.others.pclath in
                          let is_h = jump_back h (next (next (next start))) last stands.1.1.1.0 (high, lower) in (
                            goes_to t h,
                            is_h,
                            going h t is_h (omega (arith, last, top, room), omega (arith, last, top, room)),
                            record { there = mark; bank = holds_placed (l.bank e) t h.regs.pclath h (holds_stays (l.bank e) (goes_to (next g.pc) g).chip h v.others holds_g) },
                          )),
                    )),
              )),
        ))

    pub slips : Stands l.paged l.program marks start (Ins (Btfsc 0x0B 7) ∷ Jump m ∷ items) q → Void l e 4 c
    slips stands = by_paged l.paged refl stands
      where
        by_paged : (paged : Bool) → l.paged ≡ paged → Stands paged l.program marks start (Ins (Btfsc 0x0B 7) ∷ Jump m ∷ items) q → Void l e 4 c
        by_paged false is at_it = slips_short is at_it
        by_paged true is at_it = slips_paged is at_it
