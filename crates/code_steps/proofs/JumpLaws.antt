-- Jumps to any page, and a skip before a jump, over any changes between that keep the program counter and PCLATH.
use Rattle.std.proofs.Common.{◌≡◌, ℕ, zero, suc, ◌+◌, ◌*◌, ◌/◌, ◌%◌, ◌<◌, ◌≤◌, ◌⊎◌, Bool, true, false, not, ◌==◌, Some, None, ap, ap₂, ◌∙◌, sym, refl, subst, arith, inl, inr}
use Rattle.pic_isa.specs.declared.instructions.Instr.{Instr}
use Rattle.pic_isa.specs.declared.instructions.Instr.TheVariants.{Btfsc, Btfss, Goto}
use Rattle.pic_regs.specs.Bytes.{Byte, one_if, bit}
use Rattle.std.specs.Prelude.{nat_le}
use Rattle.std.proofs.lemmas.Bool.{ne_eqb, le-leb}
use Rattle.pic_regs.specs.Map.{Intcon, Pir1, Pir2, Plain, reg_in}
use Rattle.pic_machine.specs.Chip.{Chip, bank, advanced, skipping, through, got}
use Rattle.pic_machine.specs.Results.{Done, leaves}
use Rattle.pic_machine.specs.Exec.{exec}
use Rattle.code_steps.specs.declared.banks.Bank.TheVariants.{Known}
use Rattle.code_steps.specs.Steps.{next, Is, Comes}
use Rattle.code_steps.specs.Between.{placed_at, IsFrame}
use Rattle.code_steps.specs.Ends.{Holds}
use Rattle.code_steps.specs.Jumps.{high_page, low_page, setting, with_page, arrives, Reaches, IsTest, Tested, clear_in, set_in}
use Rattle.code_steps.proofs.ComesLaws.{own_is, comes_wider}
use Rattle.code_steps.proofs.BetweenLaws.{holds_bank}

-- The step of an instruction that makes a bit of PCLATH what is given.
abbrev pub sets : ℕ → Byte → Chip → Done
sets place pclath d = record { chip = placed_at place pclath d; wrote = Some 0x00A; port = None }

sets_low : (v : Bool) (d : Chip) → exec (setting 3 v) d ≡ Some (sets (next d.pc) (record d.regs.pclath { b3 = v }) d)
sets_low true d = refl
sets_low false d = refl

sets_high : (v : Bool) (d : Chip) → exec (setting 4 v) d ≡ Some (sets (next d.pc) (record d.regs.pclath { b4 = v }) d)
sets_high true d = refl
sets_high false d = refl

-- The step that leads to another place and does nothing else.
abbrev pub goes_to : ℕ → Chip → Done
goes_to place d = record { chip = placed_at place d.regs.pclath d; wrote = None; port = None }

-- An address is its page and the place in the page.
bit_of : (n : ℕ) → n < 2 → one_if (n == 1) ≡ n
bit_of zero below = refl
bit_of (suc zero) below = refl
bit_of (suc (suc n)) below = absurd (omega arith)

pub pages : (t : ℕ) → t < 8192 → 4096 * one_if (high_page t) + 2048 * one_if (low_page t) + t % 2048 ≡ t
pages t below =
    let high = bit_of (t / 4096) (omega arith) in
    let low = bit_of (t / 2048 % 2) (omega arith) in
    omega (arith, high, low)

-- A GOTO leads to an address whose page is in PCLATH.
pub goto_arrives : (t : ℕ) (d : Chip) → t < 8192 → Reaches false t d → exec (Goto (t % 2048)) d ≡ Some (goes_to t d)
goto_arrives t d below page = ap (λ p. Some (goes_to p d)) (ap₂ (λ p q. 4096 * one_if p + 2048 * one_if q + t % 2048) page.0 page.1 ∙ pages t below)

-- The steps with G include jumps and skips at these places; and page settings.
abbrev pub Passes : (In : ℕ → Type 0) (G : Chip → Done → Type 0) → Type 0
Passes In G = (d : Chip) (place : ℕ) → In d.pc → G d (goes_to place d)

abbrev pub PassesSettings : (In : ℕ → Type 0) (G : Chip → Done → Type 0) → Type 0
PassesSettings In G = (d : Chip) (place : ℕ) (pclath : Byte) → In d.pc → G d (sets place pclath d)

module _ (program : ℕ → ℕ) (R : Chip → Chip → Type 0) (frame : IsFrame R) (G : Chip → Done → Type 0) (In : ℕ → Type 0) where
  -- One step of an instruction that is known to stand at the program counter: what it leaves is known on each chip that R leads
  -- to, and from there the code goes on.
  pub steps : (Q : Chip → Type 0) (k p : ℕ) (i : Instr) (c : Chip) → Is program p i → c.pc ≡ p
      → ((d : Chip) → R c d → d.pc ≡ p → (done : Done) × (exec i d ≡ Some done) × G d done × Comes program R G Q k done.chip)
      → Comes program R G Q (suc k) c
  steps Q k p i c is at goes = inr (λ d r.
      let here : d.pc ≡ p = frame.pc c d r ∙ at in
      let step = goes d r here in
      (step.0, own_is program d i (subst (λ q. Is program q i) (sym here) is) ∙ step.1, step.2, step.3))

  -- The GOTO of a jump, where the page is in PCLATH.
  pub goes : Passes In G → (p t : ℕ) (c : Chip) → Is program p (Goto (t % 2048)) → t < 8192 → In p → c.pc ≡ p → Reaches false t c
      → Comes program R G (R (arrives t c)) 1 c
  goes passes p t c is below inside at page = steps (R (arrives t c)) 0 p (Goto (t % 2048)) c is at (λ d r here.
      let same : d.regs.pclath ≡ c.regs.pclath = frame.pclath c d r in
      let high : d.regs.pclath.b4 ≡ high_page t = ap (λ (b : Byte). b.b4) same ∙ page.0 in
      let low : d.regs.pclath.b3 ≡ low_page t = ap (λ (b : Byte). b.b3) same ∙ page.1 in
      let its_page : with_page t c.regs.pclath ≡ d.regs.pclath = ap₂ (λ h l. record c.regs.pclath { b4 = h; b3 = l }) (sym page.0) (sym page.1) ∙ sym same in
      let led : R (arrives t c) (placed_at t (with_page t c.regs.pclath) d) = frame.moved t (with_page t c.regs.pclath) c d r in (
        goes_to t d,
        goto_arrives t d below (high, low),
        passes d t (subst In (sym here) inside),
        subst (λ b. R (arrives t c) (placed_at t b d)) its_page led,
      ))

  -- The two page settings, from a place on, and what comes behind them.
  pub settles : PassesSettings In G → (Q : Chip → Type 0) (k p t : ℕ) (c : Chip) → Is program p (setting 3 (low_page t)) → Is program (next p) (setting 4 (high_page t))
      → In p → In (next p) → c.pc ≡ p
      → ((d : Chip) → R (placed_at (next (next p)) (with_page t c.regs.pclath) c) d → Comes program R G Q k d)
      → Comes program R G Q (suc (suc k)) c
  settles passes Q k p t c low high first second at then_on = steps Q (suc k) p (setting 3 (low_page t)) c low at (λ d r here.
      let page : Byte = record d.regs.pclath { b3 = low_page t } in (
        sets (next d.pc) page d,
        sets_low (low_page t) d,
        passes d (next d.pc) page (subst In (sym here) first),
        steps Q k (next p) (setting 4 (high_page t)) (placed_at (next d.pc) page d) high (ap next here) (λ e s there.
            let whole : Byte = record e.regs.pclath { b4 = high_page t } in
            let middle : e.regs.pclath ≡ page = frame.pclath (placed_at (next d.pc) page d) e s in
            let is_page : whole ≡ with_page t c.regs.pclath =
            ap (λ (b : Byte). record b { b4 = high_page t }) middle ∙ ap (with_page t) (frame.pclath c d r) in
            let from_c : R (placed_at (next (next p)) (with_page t c.regs.pclath) c) (placed_at (next (next p)) (with_page t c.regs.pclath) e) =
            frame.joined _ _ _
            (frame.moved (next (next p)) (with_page t c.regs.pclath) c d r)
            (frame.moved (next (next p)) (with_page t c.regs.pclath) (placed_at (next d.pc) page d) e s) in (
              sets (next e.pc) whole e,
              sets_high (high_page t) e,
              passes e (next e.pc) whole (subst In (sym there) second),
              then_on (placed_at (next e.pc) whole e)
                  (subst (λ b. R (placed_at (next (next p)) (with_page t c.regs.pclath) c) (placed_at (next e.pc) b e)) (sym is_page)
                  (subst (λ q. R (placed_at (next (next p)) (with_page t c.regs.pclath) c) (placed_at q (with_page t c.regs.pclath) e)) (ap next (sym there)) from_c)),
            )),
      ))

  -- What was found from a chip that R leads to was found from the chip before.
  pub tested_from : (test : Chip → Bool) (t : ℕ) (c d e : Chip) → R c d → Tested R test t d e → Tested R test t c e
  tested_from test t c d e r found = record {
    on = found.on;
    between = frame.joined c d found.on r found.between;
    way = subst (λ p. ((test found.on ≡ true) × R (placed_at (next (next p)) found.on.regs.pclath found.on) e) ⊎ ((test found.on ≡ false) × R (arrives t found.on) e))
        (frame.pc c d r) found.way;
  }

  -- A skip instruction and a jump behind it, where the page is in PCLATH.
  pub skips : Passes In G → (test : Chip → Bool) (p t : ℕ) (i : Instr) (c : Chip) → Is program p i → Is program (next p) (Goto (t % 2048)) → t < 8192
      → In p → In (next p) → c.pc ≡ p → Reaches false t c → ((d : Chip) → R c d → IsTest i test d)
      → Comes program R G (Tested R test t c) 2 c
  skips passes test p t i c is goto below first second at page tests = steps (Tested R test t c) 1 p i c is at (λ d r here. by_test d r here (test d) refl)
    where
      by_test : (d : Chip) → R c d → d.pc ≡ p → (b : Bool) → test d ≡ b
          → (done : Done) × (exec i d ≡ Some done) × G d done × Comes program R G (Tested R test t c) 1 done.chip
      by_test d r here true holds = (
        goes_to (next (next d.pc)) d,
        tests d r ∙ ap (λ b. leaves (skipping b (advanced d))) holds,
        passes d (next (next d.pc)) (subst In (sym here) first),
        inl (tested_from test t c d (placed_at (next (next d.pc)) d.regs.pclath d) r
            (record { on = d; between = frame.same d; way = inl (holds, frame.same (placed_at (next (next d.pc)) d.regs.pclath d)) })),
      )
      by_test d r here false fails =
          let same : d.regs.pclath ≡ c.regs.pclath = frame.pclath c d r in
          let its_page : Reaches false t (placed_at (next d.pc) d.regs.pclath d) = (ap (λ (b : Byte). b.b4) same ∙ page.0, ap (λ (b : Byte). b.b3) same ∙ page.1) in (
            goes_to (next d.pc) d,
            tests d r ∙ ap (λ b. leaves (skipping b (advanced d))) fails,
            passes d (next d.pc) (subst In (sym here) first),
            comes_wider program R R G G (R (arrives t d)) (Tested R test t c) (λ x y s. s) (λ x done g. g)
                (λ e led. tested_from test t c d e r (record { on = d; between = frame.same d; way = inr (fails, led) }))
                1 (placed_at (next d.pc) d.regs.pclath d)
                (goes passes (next p) t (placed_at (next d.pc) d.regs.pclath d) goto below second (ap next here) its_page),
          )

-- INTCON's bits, in any bank.
pub tests_clear_intcon : (b : ℕ) (c : Chip) → IsTest (Btfsc 0x0B b) (clear_in Intcon b) c
tests_clear_intcon b c = refl

pub tests_set_intcon : (b : ℕ) (c : Chip) → IsTest (Btfss 0x0B b) (set_in Intcon b) c
tests_set_intcon b c = refl

-- Those of PIR1 and PIR2, in bank 0.
pub tests_clear_pir1 : (b : ℕ) (c : Chip) → Holds (Known 0) c → IsTest (Btfsc 0x0C b) (clear_in Pir1 b) c
tests_clear_pir1 b c holds = λ j. leaves (skipping (not (bit b (got (through c.regs (reg_in (holds_bank 0 c (omega arith) holds j) 0x0C)) (advanced c)))) (advanced c))

pub tests_set_pir1 : (b : ℕ) (c : Chip) → Holds (Known 0) c → IsTest (Btfss 0x0C b) (set_in Pir1 b) c
tests_set_pir1 b c holds = λ j. leaves (skipping (bit b (got (through c.regs (reg_in (holds_bank 0 c (omega arith) holds j) 0x0C)) (advanced c))) (advanced c))

pub tests_clear_pir2 : (b : ℕ) (c : Chip) → Holds (Known 0) c → IsTest (Btfsc 0x0D b) (clear_in Pir2 b) c
tests_clear_pir2 b c holds = λ j. leaves (skipping (not (bit b (got (through c.regs (reg_in (holds_bank 0 c (omega arith) holds j) 0x0D)) (advanced c)))) (advanced c))

pub tests_set_pir2 : (b : ℕ) (c : Chip) → Holds (Known 0) c → IsTest (Btfss 0x0D b) (set_in Pir2 b) c
tests_set_pir2 b c holds = λ j. leaves (skipping (bit b (got (through c.regs (reg_in (holds_bank 0 c (omega arith) holds j) 0x0D)) (advanced c))) (advanced c))

-- Those of the bytes from 70h to 7Fh, in any bank.
pub reg_in-common : (bank f : ℕ) → 0x70 ≤ f → reg_in bank f ≡ Plain f
reg_in-common bank f from =
    let e0 : f == 0x00 ≡ false = ne_eqb f 0x00 (omega arith) in
    let e2 : f == 0x02 ≡ false = ne_eqb f 0x02 (omega arith) in
    let e3 : f == 0x03 ≡ false = ne_eqb f 0x03 (omega arith) in
    let e4 : f == 0x04 ≡ false = ne_eqb f 0x04 (omega arith) in
    let e10 : f == 0x0A ≡ false = ne_eqb f 0x0A (omega arith) in
    let e11 : f == 0x0B ≡ false = ne_eqb f 0x0B (omega arith) in
    let high : nat_le 0x70 f ≡ true = le-leb 0x70 f from in
    rw (e0, e2, e3, e4, e10, e11, high) refl

pub tests_clear_common : (f b : ℕ) (c : Chip) → 0x70 ≤ f → IsTest (Btfsc f b) (clear_in (Plain f) b) c
tests_clear_common f b c from = λ j. leaves (skipping (not (bit b (got (through c.regs (reg_in-common (bank c.regs) f from j)) (advanced c)))) (advanced c))

pub tests_set_common : (f b : ℕ) (c : Chip) → 0x70 ≤ f → IsTest (Btfss f b) (set_in (Plain f) b) c
tests_set_common f b c from = λ j. leaves (skipping (bit b (got (through c.regs (reg_in-common (bank c.regs) f from j)) (advanced c))) (advanced c))

-- An address of the first page is reached where bits 4 and 3 of PCLATH are 0; with page settings each address is.
first_page_high : (t : ℕ) → t < 2048 → high_page t ≡ false
first_page_high t below = ne_eqb (t / 4096) 1 (λ e. omega arith)

first_page_low : (t : ℕ) → t < 2048 → low_page t ≡ false
first_page_low t below = ne_eqb (t / 2048 % 2) 1 (λ e. omega arith)

pub reaches_first_page : (paged : Bool) (t : ℕ) (c : Chip) → t < 2048 → c.regs.pclath.b4 ≡ false → c.regs.pclath.b3 ≡ false → Reaches paged t c
reaches_first_page true t c below high low = tt
reaches_first_page false t c below high low = (high ∙ sym (first_page_high t below), low ∙ sym (first_page_low t below))
