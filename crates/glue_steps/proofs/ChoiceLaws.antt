-- Tests of flags one after another come to the mark of the first flag that is found set, or past all of them.
use Rattle.std.proofs.Common.{◌≡◌, ℕ, ◌+◌, ◌%◌, ◌<◌, ◌≤◌, Bool, true, false, not, List, [], ◌∷◌, ◌++◌, ap, ◌∙◌, sym, refl, subst, arith}
use Rattle.pic_isa.specs.declared.sources.Source.{Source}
use Rattle.pic_isa.specs.declared.sources.Source.TheVariants.{T0, Int, Ee, Bcl, Ccp2}
use Rattle.pic_isa.specs.Sources.{flag_of}
use Rattle.pic_regs.specs.Bytes.{Byte}
use Rattle.pic_regs.specs.Registers.{flag}
use Rattle.pic_machine.specs.declared.steps.PortWrite.{PortWrite}
use Rattle.pic_machine.specs.Chip.{Chip}
use Rattle.pic_machine.specs.Results.{Done}
use Rattle.code_steps.specs.declared.banks.Bank.TheVariants.{Known}
use Rattle.code_steps.specs.Steps.{next}
use Rattle.code_steps.specs.Between.{Alone, placed_at}
use Rattle.code_steps.specs.Ends.{Holds}
use Rattle.code_steps.specs.Jumps.{arrives, with_page, Reaches, IsTest}
use Rattle.code_steps.proofs.BetweenLaws.{alone_frame, alone_others, holds_stays}
use Rattle.code_steps.proofs.JumpLaws.{Passes, PassesSettings, tests_clear_intcon, tests_clear_pir1, tests_clear_pir2}
use Rattle.code_items.specs.declared.items.Item.{Item}
use Rattle.code_items.specs.declared.items.Item.TheVariants.{Ins, Jump}
use Rattle.code_items.specs.Items.{words_of_item}
use Rattle.code_items.specs.Jumping.{at_skip}
use Rattle.code_items.specs.Lines.{Stands}
use Rattle.code_items.proofs.StandLaws.{stands-parts}
use Rattle.glue_steps.specs.Tells.{Tells, Withstands, Given}
use Rattle.glue_steps.specs.Choices.{FlagTest, skip_of, test_items, test_words, TestsWithin, TestsReach, Moved, AllClear, Found, FoundNone}
use Rattle.glue_steps.proofs.TellsLaws.{tells_longer, tells_given}
use Rattle.glue_steps.proofs.JumpLaws.{skip_told}
use Rattle.glue_steps.specs.Laws.{Glue, TestsTold}
use Rattle.glue_steps.specs.Laws.{Passes as IsPassed}
use Rattle.glue_steps.specs.Still.{Off, Still}
use Rattle.glue_steps.proofs.StillLaws.{off_stays, still_passes, still_settings, given_still}

-- BTFSC of a source's flag skips where it is clear.
flag_test : (source : Source) (d : Chip) → Holds (Known 0) d → IsTest (skip_of source) (λ x. not (flag source x.regs)) d
flag_test T0 d holds = tests_clear_intcon 2 d
flag_test Int d holds = tests_clear_intcon 1 d
flag_test Ee d holds = tests_clear_pir2 4 d holds
flag_test Bcl d holds = tests_clear_pir2 3 d holds
flag_test Ccp2 d holds = tests_clear_pir2 0 d holds
flag_test source d holds = tests_clear_pir1 (flag_of source).bit d holds

-- A flag that is clear after arrivals was clear before.
was_clear : (before after : Bool) → (before ≡ true → after ≡ true) → after ≡ false → before ≡ false
was_clear true after rises clear = absurd (let set = rises refl in cc)
was_clear false after rises clear = refl

not_true : (b : Bool) → not b ≡ true → b ≡ false
not_true true e = absurd (cc)
not_true false e = refl

not_false : (b : Bool) → not b ≡ false → b ≡ true
not_false true e = refl
not_false false e = absurd (cc)

all_were_clear : (ts : List FlagTest) (c d : Chip) → ((source : Source) → flag source c.regs ≡ true → flag source d.regs ≡ true) → AllClear ts d → AllClear ts c
all_were_clear [] c d rises clear = tt
all_were_clear (t ∷ ts) c d rises clear =
    (was_clear (flag t.source c.regs) (flag t.source d.regs) (rises t.source) clear.0, all_were_clear ts c d rises clear.1)

-- What is moved twice is moved.
pub moved_twice : (c d e : Chip) → Moved c d → Moved d e → Moved c e
moved_twice c d e first second =
    alone_frame.joined (placed_at e.pc e.regs.pclath c) (placed_at e.pc e.regs.pclath d) e
    (alone_frame.moved e.pc e.regs.pclath (placed_at d.pc d.regs.pclath c) d first) second

found_later : (marks : ℕ → ℕ) (t : FlagTest) (ts : List FlagTest) (c d e : Chip) → flag t.source c.regs ≡ false → Moved c d → Found marks ts d e
    → Found marks (t ∷ ts) c e
found_later marks t ts c d e clear moved found = record {
  before = t ∷ found.before;
  test = found.test;
  behind = found.behind;
  among = ap (λ xs. t ∷ xs) found.among;
  clear = (clear, all_were_clear found.before c d moved.flags found.clear);
  set = found.set;
  there = found.there;
  page = found.page;
  moved = moved_twice c d e moved found.moved;
}

reach_again : (paged : Bool) (marks : ℕ → ℕ) (ts : List FlagTest) (c d : Chip) → (paged ≡ false → d.regs.pclath ≡ c.regs.pclath) → TestsReach paged marks ts c → TestsReach paged marks ts d
reach_again paged marks [] c d same reach = tt
reach_again true marks (t ∷ ts) c d same reach = (tt, reach_again true marks ts c d same reach.1)
reach_again false marks (t ∷ ts) c d same reach =
    ((ap (λ (b : Byte). b.b4) (same refl) ∙ reach.0.0, ap (λ (b : Byte). b.b3) (same refl) ∙ reach.0.1), reach_again false marks ts c d same reach.1)

-- The skip of a test stands behind its page settings, and changes neither the bank nor a flag.
placed_skip : (paged : Bool) (target place : ℕ) (pclath : Byte) (c : Chip) → placed_at place pclath (at_skip paged target c) ≡ placed_at place pclath c
placed_skip true target place pclath c = refl
placed_skip false target place pclath c = refl

skip_holds : (paged : Bool) (target : ℕ) (c : Chip) → Holds (Known 0) c → Holds (Known 0) (at_skip paged target c)
skip_holds true target c holds = holds
skip_holds false target c holds = holds

skip_pclath : (paged : Bool) (target : ℕ) (c : Chip) → paged ≡ false → (at_skip paged target c).regs.pclath ≡ c.regs.pclath
skip_pclath true target c is = absurd (cc)
skip_pclath false target c is = refl

place_past : (paged : Bool) (target m p : ℕ) (source : Source) (c : Chip) → c.pc ≡ p → p < 8192
    → next (next (at_skip paged target c).pc) ≡ (p + test_words paged (record { source = source; entry = m } ∷ [])) % 8192
place_past true target m p source c at below = ap (λ q. next (next (next (next q)))) at ∙ omega arith
place_past false target m p source c at below = ap (λ q. next (next q)) at ∙ omega arith

module _ (program marks : ℕ → ℕ) (G : Chip → Done → Type 0) (Q : Chip → Type 0) (stays : Withstands Q) (In : ℕ → Type 0) (passes : Passes In G) (paged : Bool)
    (sets : paged ≡ true → PassesSettings In G) where
  pub tests_told : (ts : List FlagTest) (p q : ℕ) (items : List Item) (later : List PortWrite) (k : ℕ) (c : Chip) → p < 8192
      → Stands paged program marks p (test_items ts items) q → TestsWithin In paged p ts → TestsReach paged marks ts c → c.pc ≡ p → Holds (Known 0) c
      → ((e : Chip) → Found marks ts c e → Tells program G Q later k e)
      → ((e : Chip) → FoundNone ((p + test_words paged ts) % 8192) ts c e → Tells program G Q later k e)
      → Tells program G Q later (test_words paged ts + k) c
  tests_told [] p q items later k c below stands within reach at bank found none =
      let count : k ≡ 0 + k = omega arith in
      let here : p ≡ (p + 0) % 8192 = omega arith in
      subst (λ n. Tells program G Q later n c) count (none c (record { clear = tt; there = at ∙ here; moved = alone_frame.same c }))
  tests_told (t ∷ ts) p q items later k c below stands within reach at bank found none =
      let words : ℕ = words_of_item paged (Jump t.entry) in
      let others : ℕ = test_words paged ts in
      let count : 1 + words + (others + k) ≡ 1 + (words + others) + k = omega arith in
      subst (λ n. Tells program G Q later n c) count
      (skip_told program marks G Q stays In passes paged sets (λ x. not (flag t.source x.regs)) p q t.entry (skip_of t.source) (test_items ts items) later (others + k) c refl
      stands within.0 at reach.0
      (λ d r. flag_test t.source d (holds_stays (Known 0) (at_skip paged (marks t.entry) c) d (alone_others (at_skip paged (marks t.entry) c) d r) (skip_holds paged (marks t.entry) c bank)))
      (passed (λ e parts. tests_told ts ((p + test_words paged (t ∷ [])) % 8192) q items later k e (omega arith) parts within.1))
      jumped)
    where
      moves : (on : Chip) → Alone (at_skip paged (marks t.entry) c) on → (place : ℕ) (pclath : Byte) → Moved c (placed_at place pclath on)
      moves on r place pclath =
          subst (λ (x : Chip). Alone x (placed_at place pclath on)) (placed_skip paged (marks t.entry) place pclath c) (alone_frame.moved place pclath (at_skip paged (marks t.entry) c) on r)

      jumped : (on : Chip) → Alone (at_skip paged (marks t.entry) c) on → not (flag t.source on.regs) ≡ false
          → Tells program G Q later (test_words paged ts + k) (arrives (marks t.entry) on)
      jumped on r set =
          let e : Chip = arrives (marks t.entry) on in
          tells_longer program G Q later k (test_words paged ts + k) e (omega arith)
          (found e (record {
            before = [];
            test = t;
            behind = ts;
            among = refl;
            clear = tt;
            set = not_false (flag t.source on.regs) set;
            there = refl;
            page = refl;
            moved = moves on r (marks t.entry) (with_page (marks t.entry) on.regs.pclath);
          }))

      passed : ((e : Chip) → Stands paged program marks ((p + test_words paged (t ∷ [])) % 8192) (test_items ts items) q → TestsReach paged marks ts e
          → e.pc ≡ (p + test_words paged (t ∷ [])) % 8192 → Holds (Known 0) e → ((x : Chip) → Found marks ts e x → Tells program G Q later k x)
          → ((x : Chip) → FoundNone (((p + test_words paged (t ∷ [])) % 8192 + test_words paged ts) % 8192) ts e x → Tells program G Q later k x)
          → Tells program G Q later (test_words paged ts + k) e)
          → (on : Chip) → Alone (at_skip paged (marks t.entry) c) on → not (flag t.source on.regs) ≡ true
          → Tells program G Q later (test_words paged ts + k) (placed_at (next (next (at_skip paged (marks t.entry) c).pc)) on.regs.pclath on)
      passed again on r clear_there =
          let place : ℕ = next (next (at_skip paged (marks t.entry) c).pc) in
          let e : Chip = placed_at place on.regs.pclath on in
          let moved : Moved c e = moves on r place on.regs.pclath in
          let clear : flag t.source c.regs ≡ false =
          was_clear (flag t.source c.regs) (flag t.source on.regs) (moved.flags t.source) (not_true (flag t.source on.regs) clear_there) in
          let parts = stands-parts paged program marks p q (Ins (skip_of t.source) ∷ Jump t.entry ∷ []) (test_items ts items) below refl stands in
          let holds = holds_stays (Known 0) (at_skip paged (marks t.entry) c) on (alone_others (at_skip paged (marks t.entry) c) on r) (skip_holds paged (marks t.entry) c bank) in
          again e parts.1
          (reach_again paged marks ts c e (λ is. ap (λ (x : Chip). x.regs.pclath) r.only ∙ skip_pclath paged (marks t.entry) c is) reach.1)
          (place_past paged (marks t.entry) t.entry p t.source c at below) holds
          (λ x f. found x (found_later marks t ts c e x clear moved f))
          (λ x f. none x (record {
            clear = (clear, all_were_clear ts c e moved.flags f.clear);
            there = f.there ∙ omega arith;
            moved = moved_twice c e x moved f.moved;
          }))

pub tests_told_at : (paged : Bool) (program marks : ℕ → ℕ) (glue : Glue) (test : Chip → Bool) (ts : List FlagTest) (p q : ℕ) (items : List Item)
    (later : List PortWrite) (k : ℕ) (c : Chip) → TestsTold paged program marks glue test ts p q items later k c
tests_told_at paged program marks glue test ts p q items later k c stays none may below stands within reach at bank off found passed =
    let In : ℕ → Type 0 = λ x. glue.inside x ≡ true in
    let May : ℕ → Type 0 = λ x. glue.may x ≡ true in
    let Q : Chip → Type 0 = IsPassed test in
    tells_given program Off (Still program In May) Q off_stays later (test_words paged ts + k) c off
    (tests_told program marks (Given Off (Still program In May)) Q stays In (still_passes program In May none) paged (λ e. still_settings program In May none (may e))
    ts p q items later k c below stands within reach at bank
    (λ e f. given_still program In May Q later k e (found e f))
    (λ e f. given_still program In May Q later k e (passed e f)))
