-- Single steps of glue at a skip instruction: past the jump behind it where its test holds, in as many steps as are taken.
use Rattle.std.specs.List.{cons_option}
use Rattle.std.proofs.Common.{◌≡◌, ℕ, suc, ◌+◌, ◌<◌, Bool, true, false, if◌then◌else◌, Some, None, List, ◌∷◌, refl, sym, ap, subst, ◌∙◌, arith, inr}
use Rattle.pic_isa.specs.declared.instructions.Instr.{Instr}
use Rattle.pic_regs.specs.Bytes.{Byte}
use Rattle.pic_machine.specs.declared.steps.PortWrite.{PortWrite}
use Rattle.pic_machine.specs.Chip.{Chip, advanced, skipping}
use Rattle.pic_machine.specs.Results.{Done, leaves}
use Rattle.pic_machine.specs.Exec.{exec}
use Rattle.code_steps.specs.declared.banks.Bank.{Bank}
use Rattle.code_steps.specs.declared.banks.Bank.TheVariants.{Known, Unknown}
use Rattle.code_steps.specs.Steps.{Is, next}
use Rattle.code_steps.specs.Between.{Alone, placed_at}
use Rattle.code_steps.specs.Ends.{Holds}
use Rattle.code_steps.specs.Jumps.{IsTest, high_page, low_page, setting, with_page}
use Rattle.code_steps.proofs.BetweenLaws.{alone_frame}
use Rattle.code_steps.proofs.ComesLaws.{own_is}
use Rattle.code_steps.proofs.JumpLaws.{Passes, PassesSettings, goes_to, sets}
use Rattle.code_items.specs.declared.items.Item.{Item}
use Rattle.code_items.specs.declared.items.Item.TheVariants.{Ins, Jump}
use Rattle.code_items.specs.Items.{is_skip}
use Rattle.code_items.specs.Lines.{Stands}
use Rattle.code_items.proofs.JumpLaws.{only_skip}
use Rattle.glue_steps.specs.Jumping.{SkipWithin}
use Rattle.glue_steps.specs.Tells.{Tells, Withstands}
use Rattle.glue_steps.proofs.TellsLaws.{tells_moves}

pub sets_low : (v : Bool) (d : Chip) → exec (setting 3 v) d ≡ Some (sets (next d.pc) (record d.regs.pclath { b3 = v }) d)
sets_low true d = refl
sets_low false d = refl

pub sets_high : (v : Bool) (d : Chip) → exec (setting 4 v) d ≡ Some (sets (next d.pc) (record d.regs.pclath { b4 = v }) d)
sets_high true d = refl
sets_high false d = refl

-- PCLATH behind a skip instruction and a jump, with the page of its mark where there are page settings; and the steps past both, and
-- their words.
abbrev pub page_behind : (paged : Bool) → ℕ → Byte → Byte
page_behind paged t pclath = if paged then with_page t pclath else pclath

abbrev pub steps_over : Bool → ℕ
steps_over paged = if paged then 3 else 1

abbrev pub words_over : Bool → ℕ
words_over paged = if paged then 4 else 2

-- The bank is the same at another place and with another PCLATH.
pub holds_placed : (bank : Bank) (place : ℕ) (pclath : Byte) (c : Chip) → Holds bank c → Holds bank (placed_at place pclath c)
holds_placed Unknown place pclath c holds = tt
holds_placed (Known k) place pclath c holds = (holds.0, holds.1)

module _ (program : ℕ → ℕ) (G : Chip → Done → Type 0) (Q : Chip → Type 0) (stays : Withstands Q) (In : ℕ → Type 0) (passes : Passes In G) where
  -- A step that leads to another place, with another PCLATH, and puts nothing.
  moves : (p place : ℕ) (pclath : Byte) (i : Instr) (later : List PortWrite) (k : ℕ) (c : Chip) → Is program p i → c.pc ≡ p
      → ((d : Chip) → Alone c d → (done : Done) × (exec i d ≡ Some done) × G d done × (done.chip ≡ placed_at place pclath d) × (done.port ≡ None))
      → Tells program G Q later k (placed_at place pclath c) → Tells program G Q later (suc k) c
  moves p place pclath i later k c is at step told = inr (λ d r.
      let here : d.pc ≡ p = ap (λ (x : Chip). x.pc) r.only ∙ at in
      let its = step d r in (
        its.0,
        own_is program d i (subst (λ q. Is program q i) (sym here) is) ∙ its.1,
        its.2,
        later,
        ap (λ o. cons_option o later) (sym its.4),
        subst (λ x. Tells program G Q later k x) (sym its.3)
            (tells_moves program G Q stays later k (placed_at place pclath c) (placed_at place pclath d) (alone_frame.moved place pclath c d r) told),
      ))

  -- A skip instruction whose test holds leads past the jump behind it.
  over : (test : Chip → Bool) (p : ℕ) (i : Instr) (later : List PortWrite) (k : ℕ) (c : Chip) → Is program p i → In p → c.pc ≡ p
      → ((d : Chip) → Alone c d → IsTest i test d × (test d ≡ true)) → Tells program G Q later k (placed_at (next (next p)) c.regs.pclath c) → Tells program G Q later (suc k) c
  over test p i later k c is inside at holds told =
      moves p (next (next p)) c.regs.pclath i later k c is at
      (λ d r.
      let here : d.pc ≡ p = ap (λ (x : Chip). x.pc) r.only ∙ at in
      let same : d.regs.pclath ≡ c.regs.pclath = ap (λ (x : Chip). x.regs.pclath) r.only in (
        goes_to (next (next d.pc)) d,
        (holds d r).0 ∙ ap (λ b. leaves (skipping b (advanced d))) (holds d r).1,
        passes d (next (next d.pc)) (subst In (sym here) inside),
        (λ j. placed_at (next (next (here j))) (same j) d),
        refl,
      ))
      told

  -- So it does with the page settings before it.
  pub skip_over : (paged : Bool) (marks : ℕ → ℕ) (test : Chip → Bool) (p q m : ℕ) (i : Instr) (items : List Item) (later : List PortWrite) (k : ℕ) (c : Chip)
      → (paged ≡ true → PassesSettings In G) → is_skip i ≡ true → Stands paged program marks p (Ins i ∷ Jump m ∷ items) q → SkipWithin In paged p m i → c.pc ≡ p → p + words_over paged < 8192
      → ((d : Chip) (place : ℕ) (pclath : Byte) → Alone (placed_at place pclath c) d → IsTest i test d × (test d ≡ true))
      → Tells program G Q later k (placed_at (p + words_over paged) (page_behind paged (marks m) c.regs.pclath) c) → Tells program G Q later (steps_over paged + k) c
  skip_over false marks test p q m i items later k c settle skips stands within at room holds told =
      let placed = only_skip program marks false p q m i items skips stands in
      let there : next (next p) ≡ p + 2 = omega arith in
      let same : placed_at c.pc c.regs.pclath c ≡ c = refl in
      let count : suc k ≡ 1 + k = omega arith in
      subst (λ n. Tells program G Q later n c) count
      (over test p i later k c placed.0 within.0 at (λ d r. holds d c.pc c.regs.pclath r)
      (subst (λ n. Tells program G Q later k (placed_at n c.regs.pclath c)) (sym there) told))
  skip_over true marks test p q m i items later k c settle skips stands within at room holds told =
      let placed = only_skip program marks true p q m i items skips stands in
      let t = marks m in
      let low : Byte = record c.regs.pclath { b3 = low_page t } in
      let page : Byte = with_page t c.regs.pclath in
      let one : Chip = placed_at (next p) low c in
      let two : Chip = placed_at (next (next p)) page c in
      let there : next (next (next (next p))) ≡ p + 4 = omega arith in
      let count : suc (suc (suc k)) ≡ 3 + k = omega arith in
      subst (λ n. Tells program G Q later n c) count
      (moves p (next p) low (setting 3 (low_page t)) later (suc (suc k)) c placed.0 at
      (λ d r.
      let here : d.pc ≡ p = ap (λ (x : Chip). x.pc) r.only ∙ at in
      let same : d.regs.pclath ≡ c.regs.pclath = ap (λ (x : Chip). x.regs.pclath) r.only in (
        sets (next d.pc) (record d.regs.pclath { b3 = low_page t }) d,
        sets_low (low_page t) d,
        settle refl d (next d.pc) (record d.regs.pclath { b3 = low_page t }) (subst In (sym here) within.0),
        (λ j. placed_at (next (here j)) (record (same j) { b3 = low_page t }) d),
        refl,
      ))
      (moves (next p) (next (next p)) page (setting 4 (high_page t)) later (suc k) one placed.1.0 refl
      (λ d r.
      let here : d.pc ≡ next p = ap (λ (x : Chip). x.pc) r.only in
      let same : d.regs.pclath ≡ low = ap (λ (x : Chip). x.regs.pclath) r.only in (
        sets (next d.pc) (record d.regs.pclath { b4 = high_page t }) d,
        sets_high (high_page t) d,
        settle refl d (next d.pc) (record d.regs.pclath { b4 = high_page t }) (subst In (sym here) within.1.0),
        (λ j. placed_at (next (here j)) (record (same j) { b4 = high_page t }) d),
        refl,
      ))
      (over test (next (next p)) i later k two placed.1.1.0 within.1.1.0 refl (λ d r. holds d (next (next p)) page r)
      (subst (λ n. Tells program G Q later k (placed_at n page c)) (sym there) told))))
