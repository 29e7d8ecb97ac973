-- The lock of a run with interrupts off: on to the open, or back to where the work begins again.
use Rattle.std.proofs.Common.{◌≡◌, ℕ, ◌+◌, ◌%◌, ◌<◌, ◌≤◌, ◌==◌, Bool, true, false, not, if◌then◌else◌, List, [], ◌∷◌, refl, ap, subst, ◌∙◌, arith, lit≤}
use Rattle.pic_isa.specs.declared.instructions.Instr.TheVariants.{Btfsc, Goto}
use Rattle.pic_regs.specs.Bytes.{Byte}
use Rattle.pic_regs.specs.Map.{Intcon, Plain}
use Rattle.pic_machine.specs.Chip.{Chip}
use Rattle.pic_machine.specs.Results.{Done}
use Rattle.code_steps.specs.declared.banks.Bank.{Bank}
use Rattle.code_steps.specs.declared.banks.Bank.TheVariants.{Known, Unknown}
use Rattle.code_steps.specs.Steps.{Is, next}
use Rattle.code_steps.specs.Between.{Alone, placed_at}
use Rattle.code_steps.specs.Ends.{Between, Holds}
use Rattle.code_steps.specs.Jumps.{Reaches, arrives, clear_in, high_page, low_page, setting, with_page}
use Rattle.code_steps.proofs.JumpLaws.{Passes, PassesSettings, tests_clear_common, tests_clear_intcon}
use Rattle.code_items.specs.declared.items.Item.{Item}
use Rattle.code_items.specs.declared.items.Item.TheVariants.{Ins, Jump}
use Rattle.code_items.specs.Items.{words_of_item}
use Rattle.code_items.specs.Jumping.{at_skip}
use Rattle.code_items.specs.Lines.{Stands}
use Rattle.code_items.proofs.StandLaws.{stands-parts}
use Rattle.glue_steps.specs.Jumping.{SkipWithin}
use Rattle.glue_steps.specs.Laws.{StillIn}
use Rattle.glue_steps.specs.Still.{Off, Still}
use Rattle.glue_steps.specs.Tells.{Given, Tells, Withstands}
use Rattle.glue_steps.proofs.JumpLaws.{skip_told}
use Rattle.glue_steps.proofs.StillLaws.{no_return, off_stays, still_off, still_passes, still_settings, still_wider}
use Rattle.glue_steps.proofs.TellsLaws.{tells_given, tells_longer, tells_wider}
use Rattle.firmware_parts.specs.Layout.{Easy, Layout, Part, is_told, piece}
use Rattle.firmware_parts.specs.Runs.{Leads}
use Rattle.run_steps.proofs.BeginFacts.{easy_paged, first_page, first_reaches}
use Rattle.run_steps.proofs.SkipFacts.{page_behind, skip_over, steps_over, words_over}
use Rattle.run_steps.proofs.WorkFacts.{easy_same}

-- The two tests of a lock, in a part of the code.
-- What a chip has of another on which only arrivals came, at a place and with a PCLATH.
pub record From (place : ℕ) (pclath : Byte) (c d : Chip) : Type 0 where
  pub there : d.pc ≡ place
  pub page : d.regs.pclath ≡ pclath
  pub gie : d.regs.intcon.b7 ≡ c.regs.intcon.b7
  pub told : is_told d ≡ is_told c
  pub rp1 : d.regs.status.b6 ≡ c.regs.status.b6
  pub rp0 : d.regs.status.b5 ≡ c.regs.status.b5

from_alone : (place : ℕ) (pclath : Byte) (c d : Chip) → Alone (placed_at place pclath c) d → From place pclath c d
from_alone place pclath c d r = record {
  there = ap (λ (x : Chip). x.pc) r.only;
  page = ap (λ (x : Chip). x.regs.pclath) r.only;
  gie = ap (λ (x : Chip). x.regs.intcon.b7) r.only;
  told = ap (λ (x : Chip). is_told x) r.only;
  rp1 = ap (λ (x : Chip). x.regs.status.b6) r.only;
  rp0 = ap (λ (x : Chip). x.regs.status.b5) r.only;
}

pub holds_from : (bank : Bank) (place : ℕ) (pclath : Byte) (c d : Chip) → From place pclath c d → Holds bank c → Holds bank d
holds_from Unknown place pclath c d r holds = tt
holds_from (Known k) place pclath c d r holds = (r.rp1 ∙ holds.0, r.rp0 ∙ holds.1)

-- The chip that a skip instruction with a jump behind it meets.
from_skip : (paged : Bool) (t : ℕ) (c d : Chip) → Alone (at_skip paged t c) d → From (if paged then next (next c.pc) else c.pc) (page_behind paged t c.regs.pclath) c d
from_skip true t c d r = from_alone (next (next c.pc)) (with_page t c.regs.pclath) c d r
from_skip false t c d r = from_alone c.pc c.regs.pclath c d r

module _ (l : Layout) (of : Part) (marks : ℕ → ℕ) (lock again start stop q : ℕ) (items : List Item) (inside : (place : ℕ) → Between start stop place → l.inside of place ≡ true)
    (stands : Stands l.paged l.program marks start (Ins (Btfsc 0x0B 7) ∷ Jump lock ∷ Ins (Btfsc 0x73 0) ∷ Jump again ∷ items) q)
    (words : stop ≡ start + words_over l.paged + words_over l.paged) (top : stop < 8192) (few : l.paged ≡ false → stop < 2048)
    (may : l.paged ≡ true → l.may of 0x00A ≡ true) (near_lock : marks lock < stop) (near_again : marks again < stop) where
  -- A place of the part whose word isn't RETFIE's.
  abbrev In : ℕ → Type 0
  In place = (l.inside of place ≡ true) × ((l.program place == 0x0009) ≡ false)

  abbrev Step : Chip → Done → Type 0
  Step = Given Off (Still l.program In (λ address. l.may of address ≡ true))

  passing : Passes In Step
  passing = still_passes l.program In (λ address. l.may of address ≡ true) (λ place its. its.1)

  settling : l.paged ≡ true → PassesSettings In Step
  settling paged = still_settings l.program In (λ address. l.may of address ≡ true) (λ place its. its.1) (may paged)

  -- The words of a skip instruction and a jump that stand in it.
  word : (place : ℕ) → (l.program place == 0x0009) ≡ false → start ≤ place → place < stop → In place
  word place other low high = (inside place (low, high), other)

  page_word : (place bit : ℕ) (v : Bool) → Is l.program place (setting bit v) → start ≤ place → place < stop → In place
  page_word place bit true is low high = word place (no_return l.program place (setting bit true) is refl) low high
  page_word place bit false is low high = word place (no_return l.program place (setting bit false) is refl) low high

  within : (paged : Bool) (p r m f b : ℕ) (more : List Item) → Stands paged l.program marks p (Ins (Btfsc f b) ∷ Jump m ∷ more) r → start ≤ p → p + words_over paged ≤ stop
      → SkipWithin In paged p m (Btfsc f b)
  within false p r m f b more at_it from to = (
    word p (no_return l.program p (Btfsc f b) at_it.0 refl) from (omega arith),
    (word (next p) (no_return l.program (next p) (Goto (marks m % 2048)) at_it.1.0 refl) (omega arith) (omega arith), tt),
  )
  within true p r m f b more at_it from to = (
    page_word p 3 (low_page (marks m)) at_it.0 from (omega arith),
    (
      page_word (next p) 4 (high_page (marks m)) at_it.1.0 (omega arith) (omega arith),
      (
        word (next (next p)) (no_return l.program (next (next p)) (Btfsc f b) at_it.1.1.0 refl) (omega arith) (omega arith),
        (word (next (next (next p))) (no_return l.program (next (next (next p))) (Goto (marks m % 2048)) at_it.1.1.1.0 refl) (omega arith) (omega arith), tt),
      ),
    ),
  )

  -- The second test stands behind the first.
  abbrev second_items : List Item
  second_items = Ins (Btfsc 0x73 0) ∷ Jump again ∷ items

  second_stands : (paged : Bool) → Stands paged l.program marks start (Ins (Btfsc 0x0B 7) ∷ Jump lock ∷ second_items) q → start + words_over paged < 8192
      → Stands paged l.program marks (start + words_over paged) second_items q
  second_stands true at_it room =
      let parts = stands-parts true l.program marks start q (Ins (Btfsc 0x0B 7) ∷ Jump lock ∷ []) second_items (omega arith) refl at_it in
      let there : (start + 4) % 8192 ≡ start + 4 = omega arith in subst (λ r. Stands true l.program marks r second_items q) there parts.1
  second_stands false at_it room =
      let parts = stands-parts false l.program marks start q (Ins (Btfsc 0x0B 7) ∷ Jump lock ∷ []) second_items (omega arith) refl at_it in
      let there : (start + 2) % 8192 ≡ start + 2 = omega arith in subst (λ r. Stands false l.program marks r second_items q) there parts.1

  -- PCLATH stays easy.
  easy_behind : (paged : Bool) → l.paged ≡ paged → (t place : ℕ) (c : Chip) → Easy l c → Easy l (placed_at place (page_behind paged t c.regs.pclath) c)
  easy_behind true is t place c easy = easy_paged l t c (placed_at place (with_page t c.regs.pclath) c) refl (λ short. absurd (cc)) easy
  easy_behind false is t place c easy = easy_same l c (placed_at place c.regs.pclath c) refl easy

  reaches : (paged : Bool) → l.paged ≡ paged → (m : ℕ) → marks m < stop → (c : Chip) → Easy l c → Reaches paged (marks m) c
  reaches true is m near c easy = tt
  reaches false is m near c easy = first_reaches (marks m) c (let low = few is in omega (arith, near, low)) (easy.page is)

  -- Steps at those places are steps of the part, and the other way round.
  widen : (d : Chip) (done : Done) → Still l.program In (λ address. l.may of address ≡ true) d done → StillIn l.program (piece l of) d done
  widen d done step =
      still_wider l.program In (λ p. l.inside of p ≡ true) (λ address. l.may of address ≡ true) (λ address. l.may of address ≡ true) (λ p its. its.0) (λ address its. its) d done step

  narrow : (d : Chip) (done : Done) → StillIn l.program (piece l of) d done → Step d done
  narrow d done step off = (
    record { inside = (step.inside, step.no_return); off = step.off; no_return = step.no_return; kept = step.kept; changes = step.changes; wrote = step.wrote },
    still_off l.program (λ p. l.inside of p ≡ true) (λ address. l.may of address ≡ true) d done step,
  )

  module _ (Q : Chip → Type 0) (stays : Withstands Q) (c : Chip) (at : c.pc ≡ start) (off : Off c) (easy : Easy l c) where
    abbrev Goes : ℕ → Chip → Type 0
    Goes k d = Tells l.program Step Q [] k d

    leads : (k : ℕ) → Goes k c → Leads l of Q [] k c
    leads k told =
        tells_wider l.program (Still l.program In (λ address. l.may of address ≡ true)) (StillIn l.program (piece l of)) Q Q widen (λ d q. q) [] k c
        (tells_given l.program Off (Still l.program In (λ address. l.may of address ≡ true)) Q off_stays [] k c off told)

    -- Behind the first test.
    abbrev behind_first : Chip
    behind_first = placed_at (start + words_over l.paged) (page_behind l.paged (marks lock) c.regs.pclath) c

    first_test : (k : ℕ) → start + words_over l.paged < 8192 → start + words_over l.paged ≤ stop → Goes k behind_first → Goes (steps_over l.paged + k) c
    first_test k room to told =
        skip_over l.program Step Q stays In passing l.paged marks (clear_in Intcon 7) start q lock (Btfsc 0x0B 7) second_items [] k c settling refl stands
        (within l.paged start q lock 0x0B 7 second_items stands (omega arith) to) at room
        (λ d place pclath r. (tests_clear_intcon 7 d, ap (λ b. not b) ((from_alone place pclath c d r).gie ∙ off))) told

    -- Behind both tests.
    abbrev behind_both : Chip
    behind_both = placed_at (start + words_over l.paged + words_over l.paged) (page_behind l.paged (marks again) behind_first.regs.pclath) c

    pub passes : is_told c ≡ false → (k : ℕ) → (Off behind_both → Easy l behind_both → Q behind_both) → steps_over l.paged + steps_over l.paged ≤ k → Leads l of Q [] k c
    passes untold k ends enough =
        let room : start + words_over l.paged < 8192 = omega (arith, words, top) in
        let second = second_stands l.paged stands room in
        let easy_first = easy_behind l.paged refl (marks lock) (start + words_over l.paged) c easy in
        let easy_both = easy_behind l.paged refl (marks again) (start + words_over l.paged + words_over l.paged) behind_first easy_first in
        leads k
        (tells_longer l.program Step Q [] (steps_over l.paged + (steps_over l.paged + 0)) k c (omega (arith, enough))
        (first_test (steps_over l.paged + 0) room (omega (arith, words))
        (skip_over l.program Step Q stays In passing l.paged marks (clear_in (Plain 0x73) 0) (start + words_over l.paged) q again (Btfsc 0x73 0) items [] 0 behind_first settling refl second
        (within l.paged (start + words_over l.paged) q again 0x73 0 items second (omega arith) (omega (arith, words))) refl (omega (arith, words, top))
        (λ d place pclath r. (tests_clear_common 0x73 0 d (lit≤ tt), ap (λ b. not b) ((from_alone place pclath behind_first d r).told ∙ untold))) (refl, ends off easy_both))))

    -- Where the redo bit is set the work begins again.
    pub repeats : is_told c ≡ true → (n k : ℕ) → ((d : Chip) → d.pc ≡ marks again → Off d → Easy l d → From (marks again) d.regs.pclath c d → Leads l of Q [] n d)
        → steps_over l.paged + (1 + words_of_item l.paged (Jump again) + n) ≤ k → Leads l of Q [] k c
    repeats told n k goes enough =
        let room : start + words_over l.paged < 8192 = omega (arith, words, top) in
        let second = second_stands l.paged stands room in
        let easy_first = easy_behind l.paged refl (marks lock) (start + words_over l.paged) c easy in
        leads k
        (tells_longer l.program Step Q [] (steps_over l.paged + (1 + words_of_item l.paged (Jump again) + n)) k c enough
        (first_test (1 + words_of_item l.paged (Jump again) + n) room (omega (arith, words))
        (skip_told l.program marks Step Q stays In passing l.paged settling (clear_in (Plain 0x73) 0) (start + words_over l.paged) q again (Btfsc 0x73 0) items [] n behind_first
        refl second (within l.paged (start + words_over l.paged) q again 0x73 0 items second (omega arith) (omega (arith, words))) refl
        (reaches l.paged refl again near_again behind_first easy_first) (λ d r. tests_clear_common 0x73 0 d (lit≤ tt))
        (λ on r holds. absurd (let its = ap (λ b. not b) ((from_skip l.paged (marks again) behind_first on r).told ∙ told) in cc))
        (λ on r fails. back on (from_skip l.paged (marks again) behind_first on r) easy_first))))
      where
        back : (on : Chip) → From (if l.paged then next (next behind_first.pc) else behind_first.pc) (page_behind l.paged (marks again) behind_first.regs.pclath) behind_first on
            → Easy l behind_first → Goes n (arrives (marks again) on)
        back on its easy_first =
            let there = arrives (marks again) on in
            let easy_on : Easy l on = easy_same l (placed_at on.pc (page_behind l.paged (marks again) behind_first.regs.pclath) behind_first) on its.page
            (easy_behind l.paged refl (marks again) on.pc behind_first easy_first) in
            let easy_there : Easy l there =
            easy_paged l (marks again) on there refl (λ short. first_page (marks again) on.regs.pclath (let low = few short in omega (arith, near_again, low)) (easy_on.page short)) easy_on in
            let off_there : Off there = its.gie ∙ off in
            tells_wider l.program (StillIn l.program (piece l of)) Step Q Q narrow (λ d q. q) [] n there
            (goes there refl off_there easy_there (record { there = refl; page = refl; gie = its.gie; told = its.told; rp1 = its.rp1; rp0 = its.rp0 }))
