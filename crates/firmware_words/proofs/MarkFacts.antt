-- Which marks stand in the pieces of code, and how often.
use Rattle.std.proofs.Common.{◌≡◌, ℕ, zero, suc, ◌+◌, ◌*◌, ◌/◌, ◌%◌, ◌<◌, ◌≤◌, ◌==◌, ◌&&◌, Bool, true, false, cond, not, if◌then◌else◌, List, [], ◌∷◌, ◌++◌, map, take, drop, replicate, sum_by, refl, ap, arith}
use Rattle.std.specs.List.{AllByRecursion}
use Rattle.std.proofs.lemmas.Bool.{ne_eqb}
use Rattle.std.proofs.lemmas.Bool.Decides.{nat_tests}
use Rattle.std.proofs.lemmas.List.Sums.{sum_by-cons}
use Rattle.pic_isa.specs.declared.bits.TheConstants.{GIE}
use Rattle.pic_isa.specs.declared.instructions.Instr.{Instr}
use Rattle.pic_isa.specs.declared.instructions.Instr.TheVariants.{Nop, Retfie}
use Rattle.pic_isa.specs.declared.sources.Source.{Source}
use Rattle.pic_regs.specs.declared.places.Place.TheVariants as place
use Rattle.code_steps.specs.declared.banks.Bank.{Bank}
use Rattle.code_steps.specs.declared.banks.Bank.TheVariants.{Known}
use Rattle.code_items.specs.declared.items.Item.{Item}
use Rattle.code_items.specs.declared.items.Item.TheVariants.{Ins, Jump, Mark}
use Rattle.code_items.specs.Items.{marks_it, times}
use Rattle.code_items.specs.Places.{joined}
use Rattle.code_items.proofs.ItemLaws.{times-append}
use Rattle.glue_steps.specs.declared.lines.Line.{Line}
use Rattle.glue_steps.specs.declared.lines.Line.TheVariants.{Bit}
use Rattle.glue_steps.specs.Choices.{FlagTest, test_items}
use Rattle.glue_steps.specs.Lines.{item_of}
use Rattle.glue_parts.specs.declared.spread.Context.{Context}
use Rattle.glue_parts.specs.Marks.{Again, Boot, Committing, Entry, Lock, Opening, Ready, mark}
use Rattle.scratch_commit.specs.declared.frames.Frame.{Frame}
use Rattle.scratch_commit.specs.declared.kinds.Kind.{Kind}
use Rattle.scratch_commit.specs.declared.kinds.Kind.TheVariants.{Bottom, Long, Middle, Short}
use Rattle.scratch_commit.specs.Deeds.{Deed, LowerFlag, bank_past, lines_in}
use Rattle.scratch_commit.specs.Plans.{Plan, bank_at_window, beginning, frame_in, glue, lock_items, locked_items, long_items, masks_in, over_idle, returning, run_items, short_items, starting, working}
use Rattle.scratch_commit.specs.Windows.{marked_last, window, window_items}
use Rattle.isr_vector.specs.Taking.{all_but_last, choice, context_saved, last_jump, taking_items, tests_of}
use Rattle.isr_vector.specs.Vector.{boot_items, boot_place, head_items, own_goto, ready_place, turns_on}
use Rattle.firmware_words.proofs.OrderFacts.{is_it}

module _ (m : ℕ) where
  -- How often the mark is this one.
  abbrev pub is_at : ℕ → ℕ
  is_at n = marks_it m (Mark n)

  -- Lines and instructions have none; and lines with one before the last have that one.
  pub none_in_lines : (lines : List Line) → times m (map item_of lines) ≡ 0
  none_in_lines [] = refl
  none_in_lines (line ∷ lines) = let rest = none_in_lines lines in omega (arith, rest)

  pub none_in_instructions : (instrs : List Instr) → times m (map Ins instrs) ≡ 0
  none_in_instructions [] = refl
  none_in_instructions (i ∷ instrs) = let rest = none_in_instructions instrs in omega (arith, rest)

  pub none_in_pauses : (n : ℕ) → times m (replicate n (Ins Nop)) ≡ 0
  none_in_pauses zero = refl
  none_in_pauses (suc n) = let rest = none_in_pauses n in omega (arith, rest)

  one_in_marked : (n : ℕ) (lines : List Line) → times m (marked_last n lines) ≤ is_at n
  one_in_marked n [] = omega arith
  one_in_marked n (line ∷ []) = omega arith
  one_in_marked n (line ∷ (next ∷ lines)) = let rest = one_in_marked n (next ∷ lines) in omega (arith, rest)

  -- A run up to its window.
  module _ (event : ℕ) (work : List Item) (none : times m work ≡ 0) where
    abbrev inner : ℕ
    inner = is_at (mark (Again event)) + is_at (mark (Lock event))

    in_lock : times m (lock_items event) ≡ is_at (mark (Lock event))
    in_lock = omega arith

    in_locked : (begun : List Line) (bank : Bank) → times m (locked_items event (map item_of begun) work bank) ≤ inner
    in_locked begun bank =
        let again : List Line = lines_in bank beginning in
        let start = none_in_lines begun in
        let anew = none_in_lines again in
        let lock = in_lock in
        let one = times-append m (map item_of begun) (Mark (mark (Again event)) ∷ (map item_of again ++ (work ++ lock_items event))) in
        let two = times-append m (map item_of again) (work ++ lock_items event) in
        let three = times-append m work (lock_items event) in
        omega (arith, start, anew, lock, one, two, three, none)

    in_long : (begun : List Line) → times m (long_items (map item_of begun) work) ≤ inner
    in_long begun =
        let start = none_in_lines begun in
        let on : Item = item_of (Bit true place.Intcon GIE) in
        let off : Item = item_of (Bit false place.Intcon GIE) in
        let one = times-append m (map item_of begun) (on ∷ (work ++ off ∷ [])) in
        let two = times-append m work (off ∷ []) in
        omega (arith, start, one, two, none)

    in_short : (source : Source) (bank : Bank) → times m (short_items source work bank) ≤ inner
    in_short source bank =
        let lowers = none_in_lines (lines_in bank (LowerFlag source ∷ [])) in
        let all = times-append m work (glue bank (LowerFlag source ∷ [])) in
        omega (arith, lowers, all, none)

    in_working : (plan : Plan) (kind : Kind) (source : Source) (frame : Frame) (bank : Bank) → times m (working kind event source (masks_in plan) frame work bank) ≤ inner
    in_working plan Short source frame bank = in_short source bank
    in_working plan Long source frame bank = in_long (lines_in (Known 0) (starting Long source (masks_in plan) frame))
    in_working plan Bottom source frame bank = in_locked (lines_in (Known 0) (starting Bottom source (masks_in plan) frame)) bank
    in_working plan Middle source frame bank = in_locked (lines_in (Known 0) (starting Middle source (masks_in plan) frame)) bank

  -- A run.
  abbrev own_marks : ℕ → ℕ
  own_marks event = is_at (mark (Entry event)) + is_at (mark (Opening event)) + is_at (mark (Committing event)) + is_at (mark (Again event)) + is_at (mark (Lock event))

  in_run : (plan : Plan) → times m plan.work ≡ 0 → times m (run_items plan) ≤ own_marks plan.event
  in_run plan none =
      let bank : Bank = bank_at_window plan.kind plan.source plan.bank in
      let moves : List Deed = window plan.moves (not (over_idle plan)) in
      let end : List Deed = returning (masks_in plan) (frame_in plan) (plan.spread.pages && over_idle plan) in
      let begun : List Item = working plan.kind plan.event plan.source (masks_in plan) (frame_in plan) plan.work plan.bank in
      let opened : List Item = window_items plan.event bank moves in
      let closed : List Item = glue (bank_past bank moves) end in
      let first = in_working plan.event plan.work none plan plan.kind plan.source (frame_in plan) plan.bank in
      let second = one_in_marked (mark (Committing plan.event)) (lines_in bank moves) in
      let third = none_in_lines (lines_in (bank_past bank moves) end) in
      let one = times-append m begun (opened ++ (closed ++ Ins Retfie ∷ [])) in
      let two = times-append m opened (closed ++ Ins Retfie ∷ []) in
      let three = times-append m closed (Ins Retfie ∷ []) in
      omega (arith, first, second, third, one, two, three)

-- The marks of an event are its number and a multiple of 16, but for those of ready address and boot.
is_of : (k event m n : ℕ) → event < 16 → n ≡ 16 * k + event → is_at m n ≡ cond (event == m % 16) (cond (k == m / 16) 1 0) 0
is_of k event m n low is = grind (arith, nat_tests)

one_of_five : (q : ℕ) → cond (0 == q) 1 0 + cond (1 == q) 1 0 + cond (2 == q) 1 0 + cond (4 == q) 1 0 + cond (5 == q) 1 0 ≤ 1
one_of_five q = grind (arith, nat_tests)

-- So each mark is in the run of the event that it tells at most, once; and those of ready address and boot are in none.
marks_of_one : (event m : ℕ) → event < 16 → own_marks m event ≤ is_it (m % 16) event
marks_of_one event m low =
    let entry = is_of 0 event m (mark (Entry event)) low (omega arith) in
    let opens = is_of 1 event m (mark (Opening event)) low (omega arith) in
    let commits = is_of 2 event m (mark (Committing event)) low (omega arith) in
    let again = is_of 4 event m (mark (Again event)) low (omega arith) in
    let lock = is_of 5 event m (mark (Lock event)) low (omega arith) in
    let five = one_of_five (m / 16) in
    by (event == m % 16) entry opens commits again lock five
  where
    by : (b : Bool) → is_at m (mark (Entry event)) ≡ cond b (cond (0 == m / 16) 1 0) 0 → is_at m (mark (Opening event)) ≡ cond b (cond (1 == m / 16) 1 0) 0
        → is_at m (mark (Committing event)) ≡ cond b (cond (2 == m / 16) 1 0) 0 → is_at m (mark (Again event)) ≡ cond b (cond (4 == m / 16) 1 0) 0
        → is_at m (mark (Lock event)) ≡ cond b (cond (5 == m / 16) 1 0) 0
        → cond (0 == m / 16) 1 0 + cond (1 == m / 16) 1 0 + cond (2 == m / 16) 1 0 + cond (4 == m / 16) 1 0 + cond (5 == m / 16) 1 0 ≤ 1
        → own_marks m event ≤ cond b 1 0
    by true entry opens commits again lock five = omega (arith, entry, opens, commits, again, lock, five)
    by false entry opens commits again lock five = omega (arith, entry, opens, commits, again, lock)

none_is : (m n : ℕ) → (n ≡ m → ⊥) → is_at m n ≡ 0
none_is m n differ = ap (λ (b : Bool). if b then 1 else 0) (ne_eqb n m differ)

marks_of_none : (event m : ℕ) → event < 16 → m / 16 ≡ 3 → own_marks m event ≡ 0
marks_of_none event m low at =
    let entry = none_is m (mark (Entry event)) (λ same. omega (arith, same, low, at)) in
    let opens = none_is m (mark (Opening event)) (λ same. omega (arith, same, low, at)) in
    let commits = none_is m (mark (Committing event)) (λ same. omega (arith, same, low, at)) in
    let again = none_is m (mark (Again event)) (λ same. omega (arith, same, low, at)) in
    let lock = none_is m (mark (Lock event)) (λ same. omega (arith, same, low, at)) in
    omega (arith, entry, opens, commits, again, lock)

-- A run that stands once has its event's marks.
pub record RunMarks (m event : ℕ) (items : List Item) : Type 0 where
  pub once : times m items ≤ is_it (m % 16) event
  pub none : m / 16 ≡ 3 → times m items ≡ 0

pub run-marks : (m : ℕ) (plan : Plan) → plan.event < 16 → times m plan.work ≡ 0 → RunMarks m plan.event (run_items plan)
run-marks m plan low unmarked =
    let own = in_run m plan unmarked in
    let one = marks_of_one plan.event m low in
    record { once = omega (arith, own, one); none = λ at. let never = marks_of_none plan.event m low at in omega (arith, own, never) }

-- All runs.
pub record RunsMarks (m : ℕ) (events : List ℕ) (items : List Item) : Type 0 where
  pub once : times m items ≤ sum_by (is_it (m % 16)) events
  pub none : m / 16 ≡ 3 → times m items ≡ 0

pub runs-marks : (m : ℕ) (run : ℕ → List Item) (events : List ℕ) → AllByRecursion (λ e. RunMarks m e (run e)) events → RunsMarks m events (joined (map run events))
runs-marks m run [] all = record { once = omega arith; none = λ at. refl }
runs-marks m run (e ∷ events) all =
    let own = all.0.once in
    let rest = runs-marks m run events all.1 in
    let others = rest.once in
    let first = sum_by-cons (is_it (m % 16)) e events in
    let both = times-append m (run e) (joined (map run events)) in
    record {
      once = omega (arith, own, others, first, both);
      none = λ at. let here = all.0.none at in let later = rest.none at in omega (arith, here, later, both);
    }

one_of_two : (m : ℕ) → is_at m (mark Boot) + is_at m (mark Ready) ≤ 1
one_of_two m = grind (arith, nat_tests)

-- The vector has the marks of ready address and boot alone.
module _ (m : ℕ) where
  goto_unmarked : (paged : Bool) (n address : ℕ) → times m (own_goto paged n address ∷ []) ≡ 0
  goto_unmarked true n address = refl
  goto_unmarked false n address = refl

  tests_unmarked : (tests : List FlagTest) (rest : List Item) → times m (test_items tests rest) ≡ times m rest
  tests_unmarked [] rest = refl
  tests_unmarked (t ∷ tests) rest = let later = tests_unmarked tests rest in omega (arith, later)

  jump_unmarked : (paged : Bool) (n : ℕ) → times m (if paged then Jump n ∷ [] else []) ≡ 0
  jump_unmarked true n = refl
  jump_unmarked false n = refl

  last_unmarked : (paged : Bool) (order : List ℕ) → times m (last_jump paged order) ≡ 0
  last_unmarked paged [] = refl
  last_unmarked paged (event ∷ []) = jump_unmarked paged (mark (Entry event))
  last_unmarked paged (event ∷ next ∷ order) = last_unmarked paged (next ∷ order)

  pub taking-unmarked : (source : ℕ → Source) (context : Context) (paged : Bool) (order : List ℕ) → times m (taking_items source context paged order) ≡ 0
  taking-unmarked source context paged order =
      let saved = none_in_lines m (context_saved context) in
      let tests = tests_unmarked (tests_of source (all_but_last order)) (last_jump paged order) in
      let last = last_unmarked paged order in
      let both = times-append m (map item_of (context_saved context)) (choice source paged order) in
      omega (arith, saved, tests, last, both)

  pub head-unmarked : (paged : Bool) (lines : List Line) (taking : List Item) → times m taking ≡ 0 → times m (head_items paged lines taking) ≡ 0
  head-unmarked paged lines taking none =
      let goto : Item = own_goto paged (mark Boot) (boot_place taking) in
      let first = none_in_lines m (take 3 lines) in
      let goes = goto_unmarked paged (mark Boot) (boot_place taking) in
      let behind = times-append m (goto ∷ []) taking in
      let both = times-append m (map item_of (take 3 lines)) (goto ∷ taking) in
      omega (arith, first, goes, behind, both, none)

  -- Both are numbers from 48 on.
  boot_marked : (paged : Bool) (lines : List Line) (taking : List Item) → times m (boot_items paged lines taking) ≡ is_at m (mark Boot) + is_at m (mark Ready)
  boot_marked paged lines taking =
      let rest : List Line = drop 3 lines in
      let goto : Item = own_goto paged (mark Ready) (ready_place taking rest) in
      let first = none_in_lines m rest in
      let goes = goto_unmarked paged (mark Ready) (ready_place taking rest) in
      let behind = times-append m (item_of turns_on ∷ Mark (mark Ready) ∷ []) (goto ∷ []) in
      let both = times-append m (map item_of rest) (item_of turns_on ∷ Mark (mark Ready) ∷ goto ∷ []) in
      omega (arith, first, goes, behind, both)

  pub boot-once : (paged : Bool) (lines : List Line) (taking : List Item) → times m (boot_items paged lines taking) ≤ 1
  boot-once paged lines taking =
      let marks = boot_marked paged lines taking in
      let one = one_of_two m in omega (arith, marks, one)

  pub boot-elsewhere : (paged : Bool) (lines : List Line) (taking : List Item) → (m / 16 ≡ 3 → ⊥) → times m (boot_items paged lines taking) ≡ 0
  boot-elsewhere paged lines taking never =
      let marks = boot_marked paged lines taking in
      let boot = none_is m (mark Boot) (λ same. never (omega (arith, same))) in
      let ready = none_is m (mark Ready) (λ same. never (omega (arith, same))) in
      omega (arith, marks, boot, ready)
