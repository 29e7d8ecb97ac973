-- From the taking of an interrupt to the run of the event that is chosen.
use Rattle.std.proofs.Common.{◌≡◌, ℕ, zero, suc, ◌+◌, ◌%◌, ◌<◌, ◌≤◌, Bool, true, false, ◌==◌, ◌⊎◌, if◌then◌else◌, Option, Some, None, List, [], ◌∷◌, ◌++◌, length, map, refl, sym, ap, ap₂, subst, ◌∙◌, append_assoc, arith, length-append, inl, inr}
use Rattle.std.specs.List.{AllByRecursion}
use Rattle.pic_isa.specs.declared.instructions.Instr.{Instr}
use Rattle.pic_isa.specs.declared.instructions.Instr.TheVariants.{Goto, Retfie}
use Rattle.pic_isa.specs.declared.sources.Source.{Source}
use Rattle.pic_regs.specs.Bytes.{Byte}
use Rattle.pic_regs.specs.Map.{Pclath, existing}
use Rattle.pic_regs.specs.Registers.{flag}
use Rattle.pic_machine.specs.declared.steps.PortWrite.{PortWrite}
use Rattle.pic_machine.specs.Chip.{Chip}
use Rattle.pic_machine.specs.Results.{Done}
use Rattle.code_steps.specs.declared.banks.Bank.TheVariants.{Known}
use Rattle.code_steps.specs.Steps.{next}
use Rattle.code_steps.specs.Between.{Alone, placed_at}
use Rattle.code_steps.specs.Ends.{Between, Holds}
use Rattle.code_steps.specs.Jumps.{arrives, high_page, low_page, Reaches, setting, with_page}
use Rattle.code_steps.proofs.BetweenLaws.{alone_frame}
use Rattle.code_steps.proofs.JumpLaws.{Passes, PassesSettings}
use Rattle.code_items.specs.declared.items.Item.{Item}
use Rattle.code_items.specs.declared.items.Item.TheVariants.{Ins, Jump}
use Rattle.code_items.specs.Items.{ends_skipping, words_in, words_of_item}
use Rattle.code_items.specs.Lines.{Line as ItemLine, Does, Goes, Here, PageLow, PageHigh, Placed, settings, Stands, Within}
use Rattle.code_items.proofs.ItemLaws.{words-append, ends-append}
use Rattle.code_items.proofs.LineLaws.{ending, line_words, within-lines}
use Rattle.code_items.proofs.JumpLaws.{jump-words, only_jump, only_skip, skip-words}
use Rattle.code_items.proofs.StandLaws.{stands-parts}
use Rattle.glue_steps.specs.declared.lines.Line.{Line}
use Rattle.glue_steps.specs.Tells.{Tells, Withstands, Given}
use Rattle.glue_steps.specs.Lines.{instr_of, item_of}
use Rattle.glue_steps.specs.Still.{Off, PlacesIn, Still, StillLines}
use Rattle.glue_steps.specs.Stretches.{BankBits, Fits, place_behind, puts_of, ran_all}
use Rattle.glue_steps.specs.Choices.{AllClear, FlagTest, Found, FoundNone, Moved, TestsReach, TestsWithin, skip_of, test_items, test_words}
use Rattle.glue_steps.specs.Jumping.{JumpWithin, SkipWithin}
use Rattle.glue_steps.proofs.TellsLaws.{tells_now, tells_given, tells_keeping, tells_moves, tells_then, tells_wider}
use Rattle.glue_steps.proofs.StillLaws.{no_return, off_stays, places_between, still_parts, still_passes, still_settings, still_wider}
use Rattle.glue_steps.proofs.StraightLaws.{lines_stand, place-behind, words_of_lines}
use Rattle.glue_steps.proofs.StretchLaws.{straight_still}
use Rattle.glue_steps.proofs.ChoiceLaws.{tests_told, moved_twice}
use Rattle.glue_steps.proofs.JumpLaws.{jump_told}
use Rattle.glue_parts.specs.declared.spread.Context.{Context}
use Rattle.glue_parts.specs.Marks.{Entry, mark}
use Rattle.isr_vector.specs.Taking.{all_but_last, choice, context_saved, last_jump, taking_items, tests_of}
use Rattle.vector_steps.specs.Choosing.{Dispatched, saved}
use Rattle.isr_vector.proofs.ListLaws.{all_before, all_of_both, at_event}
use Rattle.vector_steps.proofs.PlacedFacts.{places_wider}
use Rattle.isr_vector.proofs.TestLaws.{tests-append, ends_in, choice-splits}

-- The lines that save the context reach their registers in any bank, put nothing, and are steps of glue that write 71h and 72h.
abbrev unknown : BankBits
unknown = record { high = None; low = None }

context_fits : (context : Context) → Fits false unknown (context_saved context)
context_fits context = by context.status context.pclath
  where
    by : (status pclath : Bool) → Fits false unknown (context_saved (record { status = status; pclath = pclath }))
    by true true = (refl, λ bank. refl, (refl, λ bank. refl, (refl, λ bank. refl, (refl, refl, (refl, refl, refl)))))
    by true false = (refl, λ bank. refl, (refl, λ bank. refl, (refl, λ bank. refl, refl)))
    by false true = (refl, λ bank. refl, (refl, λ bank. refl, refl))
    by false false = refl

-- What is known of the chip behind them.
pub record Behind (context : Context) (c d : Chip) : Type 0 where
  pub off : Off d
  pub bank : Holds (Known 0) d
  pub pclath : d.regs.pclath ≡ c.regs.pclath
  pub flags : (source : Source) → flag source d.regs ≡ flag source c.regs
  pub intcon : d.regs.intcon ≡ c.regs.intcon
  pub pie1 : d.regs.pie1 ≡ c.regs.pie1
  pub pie2 : d.regs.pie2 ≡ c.regs.pie2
  pub status_kept : context.status ≡ true → d.regs.plain 0x071 ≡ c.regs.status
  pub pclath_kept : context.pclath ≡ true → d.regs.plain 0x072 ≡ existing Pclath c.regs.pclath
  pub there : d.pc ≡ place_behind c.pc (context_saved context)
  pub puts : (later : List PortWrite) → puts_of false (context_saved context) c later ≡ later
  pub few : length (context_saved context) ≤ 5

pub behind_context : (context : Context) (c : Chip) → Off c → (context.status ≡ false → Holds (Known 0) c) → Behind context c (saved context c)
behind_context context c off bank = by context.status context.pclath bank
  where
    by : (status pclath : Bool) → (status ≡ false → Holds (Known 0) c) → Behind (record { status = status; pclath = pclath }) c (saved (record { status = status; pclath = pclath }) c)
    by true true bank = record {
      off = off;
      bank = (refl, refl);
      pclath = refl;
      flags = λ source. refl;
      intcon = refl;
      pie1 = refl;
      pie2 = refl;
      status_kept = λ e. refl;
      pclath_kept = λ e. refl;
      there = refl;
      puts = λ later. refl;
      few = omega arith;
    }
    by true false bank = record {
      off = off;
      bank = (refl, refl);
      pclath = refl;
      flags = λ source. refl;
      intcon = refl;
      pie1 = refl;
      pie2 = refl;
      status_kept = λ e. refl;
      pclath_kept = λ e. absurd (cc);
      there = refl;
      puts = λ later. refl;
      few = omega arith;
    }
    by false true bank = record {
      off = off;
      bank = bank refl;
      pclath = refl;
      flags = λ source. refl;
      intcon = refl;
      pie1 = refl;
      pie2 = refl;
      status_kept = λ e. absurd (cc);
      pclath_kept = λ e. refl;
      there = refl;
      puts = λ later. refl;
      few = omega arith;
    }
    by false false bank = record {
      off = off;
      bank = bank refl;
      pclath = refl;
      flags = λ source. refl;
      intcon = refl;
      pie1 = refl;
      pie2 = refl;
      status_kept = λ e. absurd (cc);
      pclath_kept = λ e. absurd (cc);
      there = refl;
      puts = λ later. refl;
      few = omega arith;
    }

context_still : (May : ℕ → Type 0) (context : Context) → (context.status ≡ true → May 0x071) → (context.pclath ≡ true → May 0x072) → StillLines May (context_saved context)
context_still May context status pclath = by context.status context.pclath status pclath
  where
    by : (s p : Bool) → (s ≡ true → May 0x071) → (p ≡ true → May 0x072) → StillLines May (context_saved (record { status = s; pclath = p }))
    by true true s p = (refl, tt, (refl, s refl, (refl, tt, (refl, tt, (refl, p refl, tt)))))
    by true false s p = (refl, tt, (refl, s refl, (refl, tt, tt)))
    by false true s p = (refl, tt, (refl, p refl, tt))
    by false false s p = tt

-- A place of the code whose word isn't RETFIE's.
abbrev pub Running : (program : ℕ → ℕ) (In : ℕ → Type 0) → ℕ → Type 0
Running program In x = In x × ((program x == 0x0009) ≡ false)

-- What holds of the places of words, and of more places.
within_wider : (In Wide : ℕ → Type 0) → ((x : ℕ) → In x → Wide x) → (p : ℕ) (ls : List ItemLine) → Within In p ls → Within Wide p ls
within_wider In Wide wider p [] within = tt
within_wider In Wide wider p (Here m ∷ ls) within = within_wider In Wide wider p ls within
within_wider In Wide wider p (Does i ∷ ls) within = (wider p within.0, within_wider In Wide wider (next p) ls within.1)
within_wider In Wide wider p (PageLow m ∷ ls) within = (wider p within.0, within_wider In Wide wider (next p) ls within.1)
within_wider In Wide wider p (PageHigh m ∷ ls) within = (wider p within.0, within_wider In Wide wider (next p) ls within.1)
within_wider In Wide wider p (Goes m ∷ ls) within = (wider p within.0, within_wider In Wide wider (next p) ls within.1)

within_both : (In Also : ℕ → Type 0) (p : ℕ) (ls : List ItemLine) → Within In p ls → Within Also p ls → Within (λ x. In x × Also x) p ls
within_both In Also p [] first second = tt
within_both In Also p (Here m ∷ ls) first second = within_both In Also p ls first second
within_both In Also p (Does i ∷ ls) first second = ((first.0, second.0), within_both In Also (next p) ls first.1 second.1)
within_both In Also p (PageLow m ∷ ls) first second = ((first.0, second.0), within_both In Also (next p) ls first.1 second.1)
within_both In Also p (PageHigh m ∷ ls) first second = ((first.0, second.0), within_both In Also (next p) ls first.1 second.1)
within_both In Also p (Goes m ∷ ls) first second = ((first.0, second.0), within_both In Also (next p) ls first.1 second.1)

abbrev is_retfie : Option Instr → Bool
is_retfie (Some Retfie) = true
is_retfie _ = false

-- No word is RETFIE's, where none of the instructions is that.
abbrev NoRetfie : ItemLine → Type 0
NoRetfie (Does i) = is_retfie (Some i) ≡ false
NoRetfie _ = Unit {0}

setting_runs : (b : ℕ) (v : Bool) → is_retfie (Some (setting b v)) ≡ false
setting_runs b true = refl
setting_runs b false = refl

no_retfie : (program marks : ℕ → ℕ) (p q : ℕ) (ls : List ItemLine) → AllByRecursion NoRetfie ls → Placed program marks p ls q → Within (λ x. (program x == 0x0009) ≡ false) p ls
no_retfie program marks p q [] plain placed = tt
no_retfie program marks p q (Here m ∷ ls) plain placed = no_retfie program marks p q ls plain.1 placed.1
no_retfie program marks p q (Does i ∷ ls) plain placed = (no_return program p i placed.0 plain.0, no_retfie program marks (next p) q ls plain.1 placed.1)
no_retfie program marks p q (PageLow m ∷ ls) plain placed =
    (no_return program p (setting 3 (low_page (marks m))) placed.0 (setting_runs 3 (low_page (marks m))), no_retfie program marks (next p) q ls plain.1 placed.1)
no_retfie program marks p q (PageHigh m ∷ ls) plain placed =
    (no_return program p (setting 4 (high_page (marks m))) placed.0 (setting_runs 4 (high_page (marks m))), no_retfie program marks (next p) q ls plain.1 placed.1)
no_retfie program marks p q (Goes m ∷ ls) plain placed = (no_return program p (Goto (marks m % 2048)) placed.0 refl, no_retfie program marks (next p) q ls plain.1 placed.2)

-- Words that stand from a place on up to another one, none of them RETFIE's.
pub words_run : (program marks : ℕ → ℕ) (In : ℕ → Type 0) (start stop p q : ℕ) (ls : List ItemLine) → ((x : ℕ) → Between start stop x → In x) → stop ≤ 8192 → start ≤ p
    → p + line_words ls ≤ stop → AllByRecursion NoRetfie ls → Placed program marks p ls q → Within (Running program In) p ls
words_run program marks In start stop p q ls inside top low room plain placed =
    within_both In (λ x. (program x == 0x0009) ≡ false) p ls
    (within_wider (Between start stop) In inside p ls (within-lines start stop p ls top (inr (low, room))))
    (no_retfie program marks p q ls plain placed)

settings_plain : (paged : Bool) (m : ℕ) (ls : List ItemLine) → AllByRecursion NoRetfie ls → AllByRecursion NoRetfie (settings paged m ++ ls)
settings_plain true m ls plain = (tt, (tt, plain))
settings_plain false m ls plain = plain

pub jump_runs : (program marks : ℕ → ℕ) (In : ℕ → Type 0) (paged : Bool) (start stop p q m : ℕ) (items : List Item) → ((x : ℕ) → Between start stop x → In x) → stop ≤ 8192
    → start ≤ p → p + words_of_item paged (Jump m) ≤ stop → Stands paged program marks p (Jump m ∷ items) q → JumpWithin (Running program In) paged p m
jump_runs program marks In paged start stop p q m items inside top low room stands =
    let ls : List ItemLine = settings paged m ++ Goes m ∷ [] in
    let words = jump-words paged m in
    words_run program marks In start stop p (ending p ls) ls inside top low (omega (arith, words, room)) (settings_plain paged m (Goes m ∷ []) (tt, tt))
    (only_jump program marks paged p q m items stands)

test_runs : (program marks : ℕ → ℕ) (In : ℕ → Type 0) (paged : Bool) (start stop p q : ℕ) (t : FlagTest) (items : List Item) → ((x : ℕ) → Between start stop x → In x)
    → stop ≤ 8192 → start ≤ p → p + (1 + words_of_item paged (Jump t.entry)) ≤ stop → Stands paged program marks p (Ins (skip_of t.source) ∷ Jump t.entry ∷ items) q
    → SkipWithin (Running program In) paged p t.entry (skip_of t.source)
test_runs program marks In paged start stop p q t items inside top low room stands =
    let ls : List ItemLine = settings paged t.entry ++ Does (skip_of t.source) ∷ Goes t.entry ∷ [] in
    let words = skip-words paged (skip_of t.source) t.entry in
    words_run program marks In start stop p (ending p ls) ls inside top low (omega (arith, words, room))
    (settings_plain paged t.entry (Does (skip_of t.source) ∷ Goes t.entry ∷ []) (refl, (tt, tt)))
    (only_skip program marks paged p q t.entry (skip_of t.source) items refl stands)

tests_run : (program marks : ℕ → ℕ) (In : ℕ → Type 0) (paged : Bool) (start stop p q : ℕ) (ts : List FlagTest) (items : List Item) → ((x : ℕ) → Between start stop x → In x)
    → stop ≤ 8192 → start ≤ p → p < 8192 → p + test_words paged ts ≤ stop → Stands paged program marks p (test_items ts items) q → TestsWithin (Running program In) paged p ts
tests_run program marks In paged start stop p q [] items inside top low below room stands = tt
tests_run program marks In paged start stop p q (t ∷ []) items inside top low below room stands =
    (test_runs program marks In paged start stop p q t items inside top low (omega (arith, room)) stands, tt)
tests_run program marks In paged start stop p q (t ∷ u ∷ ts) items inside top low below room stands =
    let words : ℕ = words_of_item paged (Jump t.entry) in
    let onward : (p + test_words paged (t ∷ [])) % 8192 ≡ p + (1 + words) = omega (arith, room, top) in
    let parts = stands-parts paged program marks p q (Ins (skip_of t.source) ∷ Jump t.entry ∷ []) (test_items (u ∷ ts) items) below refl stands in (
      test_runs program marks In paged start stop p q t (test_items (u ∷ ts) items) inside top low (omega (arith, room)) stands,
      subst (λ x. TestsWithin (Running program In) paged x (u ∷ ts)) (sym onward)
          (tests_run program marks In paged start stop (p + (1 + words)) q (u ∷ ts) items inside top (omega (arith, low)) (omega (arith, room, top)) (omega (arith, room))
          (subst (λ x. Stands paged program marks x (test_items (u ∷ ts) items) q) onward parts.1)),
    )

-- Tests end in no skip instruction.
tests_end : (ts : List FlagTest) → ends_skipping false (test_items ts []) ≡ false
tests_end [] = refl
tests_end (t ∷ ts) = tests_end ts

tests_words : (paged : Bool) (ts : List FlagTest) (items : List Item) → words_in paged (test_items ts items) ≡ test_words paged ts + words_in paged items
tests_words paged ts items = ap (words_in paged) (tests-append ts [] items) ∙ words-append paged (test_items ts []) items

-- The flags of events, and of tests.
clear_events : (source : ℕ → Source) (events : List ℕ) (c d : Chip) → ((s : Source) → flag s d.regs ≡ flag s c.regs) → AllClear (tests_of source events) d
    → AllByRecursion (λ x. flag (source x) c.regs ≡ false) events
clear_events source [] c d same clear = tt
clear_events source (event ∷ events) c d same clear = (sym (same (source event)) ∙ clear.0, clear_events source events c d same clear.1)

reach_tests : (paged : Bool) (marks : ℕ → ℕ) (source : ℕ → Source) (events : List ℕ) (c d : Chip) → d.regs.pclath ≡ c.regs.pclath
    → AllByRecursion (λ x. Reaches paged (marks (mark (Entry x))) c) events → TestsReach paged marks (tests_of source events) d
reach_tests paged marks source [] c d same reach = tt
reach_tests true marks source (event ∷ events) c d same reach = (tt, reach_tests true marks source events c d same reach.1)
reach_tests false marks source (event ∷ events) c d same reach = (
  (ap (λ (b : Byte). b.b4) same ∙ reach.0.0, ap (λ (b : Byte). b.b3) same ∙ reach.0.1),
  reach_tests false marks source events c d same reach.1,
)

-- The test that was made last is of an event of the order.
record Split (source : ℕ → Source) (events : List ℕ) (before : List FlagTest) (test : FlagTest) (behind : List FlagTest) : Type 0 where
  first : List ℕ
  event : ℕ
  last : List ℕ
  among : events ≡ first ++ event ∷ last
  is_before : before ≡ tests_of source first
  is : test ≡ record { source = source event; entry = mark (Entry event) }

next_split : (source : ℕ → Source) (x : ℕ) (events : List ℕ) (t : FlagTest) (before : List FlagTest) (test : FlagTest) (behind : List FlagTest)
    → record { source = source x; entry = mark (Entry x) } ≡ t → Split source events before test behind → Split source (x ∷ events) (t ∷ before) test behind
next_split source x events t before test behind same split = record {
  first = x ∷ split.first;
  event = split.event;
  last = split.last;
  among = ap (λ xs. x ∷ xs) split.among;
  is_before = ap₂ (λ (u : FlagTest) us. u ∷ us) (sym same) split.is_before;
  is = split.is;
}

split : (source : ℕ → Source) (events : List ℕ) (before : List FlagTest) (test : FlagTest) (behind : List FlagTest) → tests_of source events ≡ before ++ test ∷ behind
    → Split source events before test behind
split source [] [] test behind same = absurd (cc)
split source [] (t ∷ before) test behind same = absurd (cc)
split source (x ∷ events) [] test behind same =
    let head : record { source = source x; entry = mark (Entry x) } ≡ test = cc in
    record { first = []; event = x; last = events; among = refl; is_before = refl; is = sym head }
split source (x ∷ events) (t ∷ before) test behind same =
    let head : record { source = source x; entry = mark (Entry x) } ≡ t = cc in
    let tail : tests_of source events ≡ before ++ test ∷ behind = cc in
    next_split source x events t before test behind head (split source events before test behind tail)

-- A flag that isn't clear is set.
set_or : (b : Bool) → (b ≡ true) ⊎ (b ≡ false)
set_or true = inl refl
set_or false = inr refl

page_of : (target : ℕ) (x y : Byte) → x ≡ y → (y.b4 ≡ high_page target) × (y.b3 ≡ low_page target) → x ≡ with_page target x
page_of target x y same page =
    ap₂ (λ h l. record x { b4 = h; b3 = l }) (ap (λ (b : Byte). b.b4) same ∙ page.0) (ap (λ (b : Byte). b.b3) same ∙ page.1)

abbrev jump_if : Bool → ℕ → List Item
jump_if paged event = if paged then Jump (mark (Entry event)) ∷ [] else []

-- What tests and the jump behind them come to, but for the page in code without page settings.
record Picked (marks : ℕ → ℕ) (source : ℕ → Source) (paged : Bool) (order : List ℕ) (c d e : Chip) : Type 0 where
  before : List ℕ
  event : ℕ
  behind : List ℕ
  among : order ≡ before ++ event ∷ behind
  clear : AllByRecursion (λ x. flag (source x) c.regs ≡ false) before
  set : flag (source event) e.regs ≡ true
  there : e.pc ≡ marks (mark (Entry event))
  page : paged ≡ true → e.regs.pclath ≡ with_page (marks (mark (Entry event))) e.regs.pclath
  moved : Moved d e

alone_moved : (e f : Chip) → Alone e f → Moved e f
alone_moved e f r =
    let place : f.pc ≡ e.pc = ap (λ (x : Chip). x.pc) r.only in
    let page : f.regs.pclath ≡ e.regs.pclath = ap (λ (x : Chip). x.regs.pclath) r.only in
    subst (λ (x : Chip). Alone x f) (ap₂ (λ q x. placed_at q x e) (sym place) (sym page)) r

picked_stays : (marks : ℕ → ℕ) (source : ℕ → Source) (paged : Bool) (order : List ℕ) (c d : Chip) → Withstands (Picked marks source paged order c d)
picked_stays marks source paged order c d e f r picked =
    let same : f.regs.pclath ≡ e.regs.pclath = ap (λ (x : Chip). x.regs.pclath) r.only in
    let place : f.pc ≡ e.pc = ap (λ (x : Chip). x.pc) r.only in record {
      before = picked.before;
      event = picked.event;
      behind = picked.behind;
      among = picked.among;
      clear = picked.clear;
      set = r.flags (source picked.event) picked.set;
      there = place ∙ picked.there;
      page = λ is. same ∙ picked.page is ∙ ap (with_page (marks (mark (Entry picked.event)))) (sym same);
      moved = moved_twice d e f picked.moved (alone_moved e f r);
    }

dispatched_stays : (marks : ℕ → ℕ) (source : ℕ → Source) (context : Context) (paged : Bool) (order : List ℕ) (c : Chip) → Withstands (Dispatched marks source context paged order c)
dispatched_stays marks source context paged order c e f r its =
    let same : f.regs.pclath ≡ e.regs.pclath = ap (λ (x : Chip). x.regs.pclath) r.only in
    let place : f.pc ≡ e.pc = ap (λ (x : Chip). x.pc) r.only in record {
      before = its.before;
      event = its.event;
      behind = its.behind;
      among = its.among;
      clear = its.clear;
      set = r.flags (source its.event) its.set;
      there = place ∙ its.there;
      page = same ∙ its.page ∙ ap (with_page (marks (mark (Entry its.event)))) (sym same);
      kept = λ is. same ∙ its.kept is;
      moved = moved_twice (saved context c) e f its.moved (alone_moved e f r);
    }

-- The flag of the last event is set where those of all others were clear and some flag was set.
last_is_set : (source : ℕ → Source) (tested : List ℕ) (last : ℕ) (c : Chip) → (AllByRecursion (λ x. flag (source x) c.regs ≡ false) (tested ++ last ∷ []) → ⊥)
    → AllByRecursion (λ x. flag (source x) c.regs ≡ false) tested → flag (source last) c.regs ≡ true
last_is_set source tested last c some clear =
    elim (set_or (flag (source last) c.regs)) [
      | inl set ↦ set
      | inr not_set ↦ absurd (some (all_of_both (λ x. flag (source x) c.regs ≡ false) tested last clear not_set))
    ]

module _ (program marks : ℕ → ℕ) (source : ℕ → Source) (In May : ℕ → Type 0) (none : (p : ℕ) → In p → (program p == 0x0009) ≡ false) where
  -- Steps of glue that keep PCLATH in code without page settings.
  abbrev Keeping : Bool → Chip → Done → Type 0
  Keeping paged d done = Still program In May d done × (paged ≡ false → done.chip.regs.pclath ≡ d.regs.pclath)

  passes : (paged : Bool) → Passes In (Given Off (Keeping paged))
  passes paged d place inside off = let step = still_passes program In May none d place inside off in ((step.0, λ e. refl), step.1)

  sets : (paged : Bool) → (paged ≡ true → May 0x00A) → paged ≡ true → PassesSettings In (Given Off (Keeping paged))
  sets paged may is d place pclath inside off =
      let step = still_settings program In May none (may is) d place pclath inside off in
      ((step.0, λ e. let clash : true ≡ false = sym is ∙ e in absurd (cc)), step.1)

  -- Behind the tests.
  module _ (tested : List ℕ) (last : ℕ) (c d : Chip) (same : (s : Source) → flag s d.regs ≡ flag s c.regs)
      (some : AllByRecursion (λ x. flag (source x) c.regs ≡ false) (tested ++ last ∷ []) → ⊥) where
    at_last : (place : ℕ) (e : Chip) → FoundNone place (tests_of source tested) d e → flag (source last) e.regs ≡ true
    at_last place e f =
        let set = last_is_set source tested last c some (clear_events source tested c d same f.clear) in
        f.moved.flags (source last) (same (source last) ∙ set)

    ended : (paged : Bool) (place q : ℕ) → (paged ≡ true → May 0x00A) → Stands paged program marks place (jump_if paged last) q
        → (paged ≡ true → JumpWithin In paged place (mark (Entry last))) → (paged ≡ false → marks (mark (Entry last)) ≡ q)
        → (e : Chip) → FoundNone place (tests_of source tested) d e
        → Tells program (Given Off (Keeping paged)) (Picked marks source paged (tested ++ last ∷ []) c d) [] (words_in paged (jump_if paged last)) e
    ended true place q may stands within next_is e f =
        let m = mark (Entry last) in
        let there : Chip = arrives (marks m) e in
        jump_told program marks (Given Off (Keeping true)) (Picked marks source true (tested ++ last ∷ []) c d) (picked_stays marks source true (tested ++ last ∷ []) c d) In (passes true) true
        (sets true may) place q m [] [] 0 e stands (within refl) f.there tt (
          refl,
          record {
            before = tested;
            event = last;
            behind = [];
            among = refl;
            clear = clear_events source tested c d same f.clear;
            set = at_last place e f;
            there = refl;
            page = λ is. refl;
            moved = moved_twice d e there f.moved (alone_frame.same there);
          },
        )
    ended false place q may stands within next_is e f = (
      refl,
      record {
        before = tested;
        event = last;
        behind = [];
        among = refl;
        clear = clear_events source tested c d same f.clear;
        set = at_last place e f;
        there = f.there ∙ stands ∙ sym (next_is refl);
        page = λ is. absurd (cc);
        moved = f.moved;
      },
    )

    found : (paged : Bool) (k : ℕ) (e : Chip) → Found marks (tests_of source tested) d e
        → Tells program (Given Off (Keeping paged)) (Picked marks source paged (tested ++ last ∷ []) c d) [] k e
    found paged k e f =
        let its = split source tested f.before f.test f.behind f.among in
        let there : marks f.test.entry ≡ marks (mark (Entry its.event)) = ap (λ (t : FlagTest). marks t.entry) its.is in
        tells_now program (Given Off (Keeping paged)) (Picked marks source paged (tested ++ last ∷ []) c d) [] k e (
          refl,
          record {
            before = its.first;
            event = its.event;
            behind = its.last ++ last ∷ [];
            among = ap (λ xs. xs ++ last ∷ []) its.among ∙ append_assoc its.first (its.event ∷ its.last) (last ∷ []);
            clear = clear_events source its.first c d same (subst (λ ts. AllClear ts d) its.is_before f.clear);
            set = ap (λ (t : FlagTest). flag t.source e.regs) (sym its.is) ∙ f.set;
            there = f.there ∙ there;
            page = λ is. f.page ∙ ap (λ t. with_page t e.regs.pclath) there;
            moved = f.moved;
          },
        )

  picks : (paged : Bool) (tested : List ℕ) (last p q : ℕ) (c d : Chip) → p < 8192 → (paged ≡ true → May 0x00A)
      → Stands paged program marks p (test_items (tests_of source tested) (jump_if paged last)) q
      → TestsWithin In paged p (tests_of source tested) → (paged ≡ true → JumpWithin In paged ((p + test_words paged (tests_of source tested)) % 8192) (mark (Entry last)))
      → (paged ≡ false → marks (mark (Entry last)) ≡ q) → d.pc ≡ p → Holds (Known 0) d → d.regs.pclath ≡ c.regs.pclath → ((s : Source) → flag s d.regs ≡ flag s c.regs)
      → AllByRecursion (λ x. Reaches paged (marks (mark (Entry x))) c) tested → (AllByRecursion (λ x. flag (source x) c.regs ≡ false) (tested ++ last ∷ []) → ⊥)
      → Tells program (Given Off (Keeping paged)) (Picked marks source paged (tested ++ last ∷ []) c d) [] (test_words paged (tests_of source tested) + words_in paged (jump_if paged last)) d
  picks paged tested last p q c d below may stands within jump_within next_is at bank page same reach some =
      let ts = tests_of source tested in
      let place : ℕ = (p + test_words paged ts) % 8192 in
      let G : Chip → Done → Type 0 = Given Off (Keeping paged) in
      let Q : Chip → Type 0 = Picked marks source paged (tested ++ last ∷ []) c d in
      let both : Stands paged program marks p (test_items ts [] ++ jump_if paged last) q =
      subst (λ items. Stands paged program marks p items q) (tests-append ts [] (jump_if paged last)) stands in
      let parts = stands-parts paged program marks p q (test_items ts []) (jump_if paged last) below (tests_end ts) both in
      tests_told program marks G Q (picked_stays marks source paged (tested ++ last ∷ []) c d) In (passes paged) paged (sets paged may) ts p q (jump_if paged last) []
      (words_in paged (jump_if paged last)) d below stands within (reach_tests paged marks source tested c d page reach) at bank
      (λ e f. found tested last c d same some paged (words_in paged (jump_if paged last)) e f)
      (λ e f. ended tested last c d same some paged place q may parts.1 jump_within next_is e f)

-- The whole of a taking.
module _ (program marks : ℕ → ℕ) (source : ℕ → Source) (In May : ℕ → Type 0) (paged : Bool) (context : Context) where
  -- What a taking needs of where its code stands and of what it may write.
  pub record TakingStands (order : List ℕ) (q : ℕ) : Type 0 where
    pub room : 4 + words_in paged (taking_items source context paged order) ≤ 8192
    pub inside : (x : ℕ) → Between 4 (4 + words_in paged (taking_items source context paged order)) x → In x
    pub may_status : context.status ≡ true → May 0x071
    pub may_pclath : context.pclath ≡ true → May 0x072
    pub may_page : paged ≡ true → May 0x00A
    pub stands : Stands paged program marks 4 (taking_items source context paged order) q
    pub next_is : paged ≡ false → (tested : List ℕ) (last : ℕ) → order ≡ tested ++ last ∷ [] → marks (mark (Entry last)) ≡ q

  -- And of the chip: the place behind a taking, interrupts off, bank 0 where it isn't chosen, each entry reached, and some flag set.
  pub record TakingBegins (order : List ℕ) (c : Chip) : Type 0 where
    pub at : c.pc ≡ 4
    pub off : Off c
    pub bank : context.status ≡ false → Holds (Known 0) c
    pub reach : AllByRecursion (λ x. Reaches paged (marks (mark (Entry x))) c) order
    pub some : AllByRecursion (λ x. flag (source x) c.regs ≡ false) order → ⊥

  -- The page at the end.
  paged_or : (order : List ℕ) (c d e : Chip) → d ≡ saved context c → d.regs.pclath ≡ c.regs.pclath → AllByRecursion (λ x. Reaches paged (marks (mark (Entry x))) c) order
      → Picked marks source paged order c d e × (paged ≡ false → e.regs.pclath ≡ d.regs.pclath) → Dispatched marks source context paged order c e
  paged_or order c d e saved_is page reach (picked, kept) = record {
    before = picked.before;
    event = picked.event;
    behind = picked.behind;
    among = picked.among;
    clear = picked.clear;
    set = picked.set;
    there = picked.there;
    page = by paged refl;
    kept = λ is. kept is ∙ page;
    moved = subst (λ (x : Chip). Moved x e) saved_is picked.moved;
  }
    where
      by : (b : Bool) → paged ≡ b → e.regs.pclath ≡ with_page (marks (mark (Entry picked.event))) e.regs.pclath
      by true is = picked.page is
      by false is =
          let reaches = subst (λ b. Reaches b (marks (mark (Entry picked.event))) c) is
          (at_event (λ x. Reaches paged (marks (mark (Entry x))) c) picked.before picked.event picked.behind
          (subst (AllByRecursion (λ x. Reaches paged (marks (mark (Entry x))) c)) picked.among reach)) in
          page_of (marks (mark (Entry picked.event))) e.regs.pclath c.regs.pclath (kept is ∙ page) reaches

  abbrev Step : Chip → Done → Type 0
  Step = Still program In May

  last_runs : (b : Bool) → b ≡ true → (words last base stop q : ℕ) → ((x : ℕ) → Between 4 stop x → In x) → stop ≤ 8192 → 4 ≤ base
      → base + (words + words_in b (jump_if b last)) ≤ stop → Stands b program marks ((base + words) % 8192) (jump_if b last) q
      → JumpWithin (Running program In) b ((base + words) % 8192) (mark (Entry last))
  last_runs true is words last base stop q inside top low room stands =
      let onward : (base + words) % 8192 ≡ base + words = omega (arith, room, top) in
      subst (λ x. JumpWithin (Running program In) true x (mark (Entry last))) (sym onward)
      (jump_runs program marks In true 4 stop (base + words) q (mark (Entry last)) [] inside top (omega (arith, low)) (omega (arith, room))
      (subst (λ x. Stands true program marks x (Jump (mark (Entry last)) ∷ []) q) onward stands))
  last_runs false is words last base stop q inside top low room stands = let clash : false ≡ true = is in absurd (cc)

  told_by : (tested : List ℕ) (last q : ℕ) (c : Chip) → TakingStands (tested ++ last ∷ []) q → TakingBegins (tested ++ last ∷ []) c
      → Tells program Step (Dispatched marks source context paged (tested ++ last ∷ []) c) [] (words_in paged (taking_items source context paged (tested ++ last ∷ []))) c
  told_by tested last q c placed begins =
      let order : List ℕ = tested ++ last ∷ [] in
      let lines = context_saved context in
      let ts = tests_of source tested in
      let jump = jump_if paged last in
      let d : Chip = saved context c in
      let its = behind_context context c begins.off begins.bank in
      let few = its.few in
      let place : place_behind 4 lines ≡ 4 + length lines = place-behind 4 lines (omega arith) ∙ omega (arith, few) in
      let splits = choice-splits source paged tested last in
      let count : words_in paged (taking_items source context paged order) ≡ length lines + (test_words paged ts + words_in paged jump) =
      words-append paged (map item_of lines) (choice source paged order) ∙ ap₂ (λ m n. m + n) (words_of_lines paged lines) (ap (words_in paged) splits ∙ tests_words paged ts jump) in
      let room : 4 + (length lines + (test_words paged ts + words_in paged jump)) ≤ 8192 = subst (λ n. 4 + n ≤ 8192) count placed.room in
      let stop : ℕ = 4 + (length lines + (test_words paged ts + words_in paged jump)) in
      let inside : (x : ℕ) → Between 4 stop x → In x = subst (λ n. (x : ℕ) → Between 4 (4 + n) x → In x) count placed.inside in
      let parts = lines_stand paged program marks 4 q unknown lines (test_items ts jump) (omega arith) (context_fits context)
      (subst (λ items. Stands paged program marks 4 (map item_of lines ++ items) q) splits placed.stands) in
      let stands : Stands paged program marks (4 + length lines) (test_items ts jump) q = subst (λ x. Stands paged program marks x (test_items ts jump) q) place parts.1 in
      let reach = all_before (λ x. Reaches paged (marks (mark (Entry x))) c) tested (last ∷ []) begins.reach in
      let at : d.pc ≡ 4 + length lines = its.there ∙ ap (λ x. place_behind x lines) begins.at ∙ place in
      let first = straight_still program In May (Alone d) (λ e f r q. alone_frame.joined d e f q r) unknown 4 lines c (context_fits context) parts.0
      (still_parts In May 4 lines
      (places_wider (Between 4 stop) In inside 4 lines (places_between 4 stop 4 lines room (omega arith) (omega arith)))
      (context_still May context placed.may_status placed.may_pclath))
      begins.at (tt, tt) begins.off (alone_frame.same d) in
      let words : ℕ = test_words paged ts + words_in paged jump in
      let behind : ℕ = (4 + length lines + test_words paged ts) % 8192 in
      let both : Stands paged program marks (4 + length lines) (test_items ts [] ++ jump) q = subst (λ items. Stands paged program marks (4 + length lines) items q) (tests-append ts [] jump) stands in
      let end = stands-parts paged program marks (4 + length lines) q (test_items ts []) jump (omega (arith, room)) (tests_end ts) both in
      let picked = picks program marks source (Running program In) May (λ x r. r.1) paged tested last (4 + length lines) q c d (omega (arith, room)) placed.may_page stands
      (tests_run program marks In paged 4 stop (4 + length lines) q ts jump inside room (omega arith) (omega (arith, room)) (omega arith) stands)
      (λ is. last_runs paged is (test_words paged ts) last (4 + length lines) stop q inside room (omega arith) (omega arith) end.1)
      (λ is. placed.next_is is tested last refl) at its.bank its.pclath its.flags reach begins.some in
      let G : Chip → Done → Type 0 = Keeping program marks source (Running program In) May (λ x r. r.1) paged in
      let Q : Chip → Type 0 = Picked marks source paged order c d in
      let I : Chip → Type 0 = λ e. paged ≡ false → e.regs.pclath ≡ d.regs.pclath in
      let kept = tells_keeping program G Q I (λ e f r i is. ap (λ (x : Chip). x.regs.pclath) r.only ∙ i is) (λ e done g i is. g.1 is ∙ i is) [] words d (λ is. refl)
      (tells_given program Off G Q off_stays [] words d its.off picked) in
      let second = tells_wider program (λ e done. G e done × I e) Step (λ e. Q e × I e) (Dispatched marks source context paged order c)
      (λ e done g. still_wider program (Running program In) In May May (λ x r. r.0) (λ a m. m) e done g.0.0)
      (λ e qi. paged_or order c d e refl its.pclath begins.reach qi) [] words d kept in
      let whole = tells_then program Step (Alone d) (Dispatched marks source context paged order c) [] [] (length lines) words c
      (subst (λ puts. Tells program Step (Alone d) puts (length lines) c) (its.puts []) first)
      (λ e r. tells_moves program Step (Dispatched marks source context paged order c) (dispatched_stays marks source context paged order c) [] words d e r second) in
      subst (λ n. Tells program Step (Dispatched marks source context paged order c) [] n c) (sym count) whole

  pub taking_told : (order : List ℕ) (q : ℕ) (c : Chip) → TakingStands order q → TakingBegins order c
      → Tells program Step (Dispatched marks source context paged order c) [] (words_in paged (taking_items source context paged order)) c
  taking_told order q c placed begins =
      elim (ends_in order) [
        | inl none ↦ absurd (begins.some (subst (AllByRecursion (λ x. flag (source x) c.regs ≡ false)) (sym none) tt))
        | inr ends ↦
            subst (λ xs. Tells program Step (Dispatched marks source context paged xs c) [] (words_in paged (taking_items source context paged xs)) c) (sym ends.2)
            (told_by ends.0 ends.1 q c (subst (λ xs. TakingStands xs q) ends.2 placed) (subst (λ xs. TakingBegins xs c) ends.2 begins))
      ]
