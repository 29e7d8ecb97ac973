-- The items of a run: how many words they have, that its places rise, and that its marks are its places.
use Rattle.std.proofs.Common.{◌≡◌, ℕ, suc, ◌+◌, ◌-◌, ◌%◌, ◌<◌, ◌≤◌, ◌==◌, ◌/◌, Bool, true, false, not, if◌then◌else◌, Option, Some, None, List, [], ◌∷◌, ◌++◌, length, map, refl, sym, ap, subst, ◌∙◌, arith, length-append}
use Rattle.std.specs.List.{AllByRecursion}
use Rattle.pic_isa.specs.declared.instructions.Instr.TheVariants.{Retfie}
use Rattle.pic_regs.specs.declared.places.Place.{Place}
use Rattle.pic_regs.specs.declared.places.Place.TheVariants as place
use Rattle.pic_regs.specs.Places.{reg_of}
use Rattle.code_steps.specs.declared.banks.Bank.{Bank}
use Rattle.code_steps.specs.declared.banks.Bank.TheVariants.{Known}
use Rattle.code_steps.specs.Steps.{Is, next}
use Rattle.code_acts.specs.Codes.{high_bit, low_bit, moved}
use Rattle.code_acts.specs.Standing.{StandFrom}
use Rattle.code_items.specs.declared.items.Item.{Item}
use Rattle.code_items.specs.declared.items.Item.TheVariants.{Ins, Mark}
use Rattle.code_items.specs.Items.{ends_skipping, words_in}
use Rattle.code_items.specs.Lines.{Stands}
use Rattle.code_items.proofs.ItemLaws.{ends-append, words-append}
use Rattle.glue_steps.specs.declared.lines.Line.{Line}
use Rattle.glue_steps.specs.declared.lines.Line.TheVariants.{Bit, Clear, Constant, Load, Lower, Nothing, Skip, Store}
use Rattle.glue_steps.specs.Lines.{instr_of, item_of}
use Rattle.glue_steps.specs.Stretches.{may_skip}
use Rattle.glue_steps.proofs.StraightLaws.{words_of_lines}
use Rattle.glue_steps.proofs.StillLaws.{no_return}
use Rattle.glue_parts.specs.declared.kept.TheConstants.{REDO}
use Rattle.glue_parts.specs.declared.moves.Move.{Move}
use Rattle.glue_parts.specs.Marks.{mark, Again, Committing, Lock, Opening}
use Rattle.glue_parts.specs.Pieces.{bank_copied, bit_lines, is_known, knows, lines_for, lines_to_copy}
use Rattle.glue_parts.specs.Places.{bank_of}
use Rattle.scratch_commit.specs.declared.kinds.Kind.{Kind}
use Rattle.scratch_commit.specs.declared.kinds.Kind.TheVariants.{Short, Long, Bottom, Middle}
use Rattle.scratch_commit.specs.Deeds.{Deed, Make, bank_past, lines_in}
use Rattle.scratch_commit.specs.Plans.{IsInstruction, Plan, frame_in, glue, is_short, masks_in, over_idle, run_items, working}
use Rattle.scratch_commit.specs.Windows.{copying, marked_last, window, window_items}
use Rattle.scratch_commit.proofs.DeedLaws.{lines_then}
use Rattle.run_steps.specs.Spots.{before_flag, entering_in, exit_bank, is_locked, lock_words, locked_spots, long_spots, moves_in, open_bank, restarting, returning_in, short_spots, spots_by, spots_of}
use Rattle.run_steps.proofs.PlaceLaws.{locked_is, locked_parts, locked_stands, long_is, long_parts, long_stands, marked_stand, short_is, short_parts, short_stands, tail_items, test_items, words_of_work}
use Rattle.firmware_layout.specs.Laws.{SpotsRise}

-- All lines are no skips.
abbrev pub Plain : List Line → Type 0
Plain lines = AllByRecursion (λ line. may_skip line ≡ false) lines

plain_both : (xs ys : List Line) → Plain xs → Plain ys → Plain (xs ++ ys)
plain_both [] ys first second = second
plain_both (x ∷ xs) ys first second = (first.0, plain_both xs ys first.1 second)

plain_bit : (b : ℕ) (v there : Bool) → Plain (if there then [] else Bit v place.Status b ∷ [])
plain_bit b v true = tt
plain_bit b v false = (refl, tt)

plain_choice : (bank : Bank) (k : ℕ) (there first : Bool)
    → Plain (if there then [] else if first then Clear place.Status ∷ [] else bit_lines 5 (low_bit bank) (k % 2 == 1) ++ bit_lines 6 (high_bit bank) (k / 2 == 1))
plain_choice bank k true first = tt
plain_choice bank k false true = (refl, tt)
plain_choice bank k false false =
    plain_both (bit_lines 5 (low_bit bank) (k % 2 == 1)) (bit_lines 6 (high_bit bank) (k / 2 == 1))
    (plain_bit 5 (k % 2 == 1) (knows (low_bit bank) (k % 2 == 1))) (plain_bit 6 (k / 2 == 1) (knows (high_bit bank) (k / 2 == 1)))

plain_for : (bank : Bank) (o : Option ℕ) → Plain (lines_for bank o)
plain_for bank None = tt
plain_for bank (Some k) = plain_choice bank k (is_known bank k) (k == 0)

plain_copy : (bank : Bank) (from to : Place) → Plain (lines_to_copy bank from to)
plain_copy bank from to =
    let first = lines_for bank (bank_of (reg_of from)) in
    let second = lines_for (moved bank (bank_of (reg_of from))) (bank_of (reg_of to)) in
    plain_both (first ++ Load from ∷ []) (second ++ Store to ∷ [])
    (plain_both first (Load from ∷ []) (plain_for bank (bank_of (reg_of from))) (refl, tt))
    (plain_both second (Store to ∷ []) (plain_for (moved bank (bank_of (reg_of from))) (bank_of (reg_of to))) (refl, tt))

plain_copies : (bank : Bank) (moves : List Move) → Plain (lines_in bank (copying moves))
plain_copies bank [] = tt
plain_copies bank (move ∷ moves) =
    plain_both (lines_to_copy bank move.from move.to) (lines_in (bank_copied bank move.from move.to) (copying moves))
    (plain_copy bank move.from move.to) (plain_copies (bank_copied bank move.from move.to) moves)

plain_telling : (bank : Bank) (tells : Bool) → Plain (lines_in bank (if tells then Make true REDO 0 ∷ [] else []))
plain_telling bank true = (refl, tt)
plain_telling bank false = tt

plain_window : (bank : Bank) (moves : List Move) (tells : Bool) → Plain (lines_in bank (window moves tells))
plain_window bank [] true = (refl, (refl, tt))
plain_window bank [] false = (refl, (refl, tt))
plain_window bank (move ∷ moves) tells =
    let copies = copying (move ∷ moves) in
    let last : List Deed = if tells then Make true REDO 0 ∷ [] else [] in
    subst Plain (sym (lines_then bank copies last))
    (plain_both (lines_in bank copies) (lines_in (bank_past bank copies) last) (plain_copies bank (move ∷ moves)) (plain_telling (bank_past bank copies) tells))

-- A window has two lines and more.
window_long : (bank : Bank) (moves : List Move) (tells : Bool) → 2 ≤ length (lines_in bank (window moves tells))
window_long bank [] true = omega arith
window_long bank [] false = omega arith
window_long bank (move ∷ moves) tells =
    let deeds : List Deed = copying moves ++ (if tells then Make true REDO 0 ∷ [] else []) in
    let first = lines_for bank (bank_of (reg_of move.from)) in
    let second = lines_for (moved bank (bank_of (reg_of move.from))) (bank_of (reg_of move.to)) in
    let rest = lines_in (bank_copied bank move.from move.to) deeds in
    let all = length-append (lines_to_copy bank move.from move.to) rest in
    let both = length-append (first ++ Load move.from ∷ []) (second ++ Store move.to ∷ []) in
    let load = length-append first (Load move.from ∷ []) in
    let store = length-append second (Store move.to ∷ []) in
    omega (arith, all, both, load, store)

pub moves_plain : (plan : Plan) → Plain (lines_in (open_bank plan) (moves_in plan))
moves_plain plan = plain_window (open_bank plan) plan.moves (not (over_idle plan))

pub moves_long : (plan : Plan) → 2 ≤ length (lines_in (open_bank plan) (moves_in plan))
moves_long plan = window_long (open_bank plan) plan.moves (not (over_idle plan))

-- The places of a run rise.
five_words : (paged : Bool) → 5 ≤ lock_words paged
five_words true = omega arith
five_words false = omega arith

module _ (paged : Bool) (start : ℕ) (plan : Plan) (many : 2 ≤ length (lines_in (open_bank plan) (moves_in plan))) where
  short_rise : (long : Type 0) → (long → ⊥) → SpotsRise long (short_spots start plan)
  short_rise long never = record { entry = omega arith; clear = omega arith; on = λ is. absurd (never is); opens = omega (arith, many); commits = omega (arith, many) }

  long_rise : (long : Type 0) → SpotsRise long (long_spots start plan)
  long_rise long = record {
    entry = omega arith;
    clear = omega arith;
    on = λ is. (omega arith, omega arith, omega arith, omega arith);
    opens = omega (arith, many);
    commits = omega (arith, many);
  }

  locked_rise : (long : Type 0) → SpotsRise long (locked_spots paged start plan)
  locked_rise long =
      let five = five_words paged in
      record {
        entry = omega arith;
        clear = omega (arith, five);
        on = λ is. (omega arith, omega arith, omega arith, omega (arith, five));
        opens = omega (arith, many);
        commits = omega (arith, many);
      }

  rise_by : (kind : Kind) → SpotsRise (is_short kind ≡ false) (spots_by kind paged start plan)
  rise_by Short = short_rise (is_short Short ≡ false) (λ long. absurd (cc))
  rise_by Long = long_rise (is_short Long ≡ false)
  rise_by Bottom = locked_rise (is_short Bottom ≡ false)
  rise_by Middle = locked_rise (is_short Middle ≡ false)

pub spots_rise : (paged : Bool) (start : ℕ) (plan : Plan) → SpotsRise (is_short plan.kind ≡ false) (spots_of paged start plan)
spots_rise paged start plan = rise_by paged start plan (moves_long plan) plan.kind

-- How many words a run has.
words_of_marked : (paged : Bool) (m : ℕ) (lines : List Line) → words_in paged (marked_last m lines) ≡ length lines
words_of_marked paged m [] = refl
words_of_marked paged m (line ∷ []) = omega arith
words_of_marked paged m (line ∷ (second ∷ lines)) = let rest = words_of_marked paged m (second ∷ lines) in omega (arith, rest)

words_of_tests : (paged : Bool) (event : ℕ) → 1 + words_in paged (test_items event) ≡ lock_words paged
words_of_tests true event = omega arith
words_of_tests false event = omega arith

module _ (paged : Bool) (plan : Plan) (instructions : AllByRecursion IsInstruction plan.work) where
  abbrev moves : List Line
  moves = lines_in (open_bank plan) (moves_in plan)

  abbrev end : List Line
  end = lines_in (exit_bank plan) (returning_in plan)

  abbrev entering : List Line
  entering = lines_in (Known 0) (entering_in plan)

  tail_words : words_in paged (tail_items plan) ≡ length moves + length end + 1
  tail_words =
      let all = words-append paged (window_items plan.event (open_bank plan) (moves_in plan)) (map item_of end ++ Ins Retfie ∷ []) in
      let window = words_of_marked paged (mark (Committing plan.event)) moves in
      let last = words-append paged (map item_of end) (Ins Retfie ∷ []) in
      let lines = words_of_lines paged end in
      omega (arith, all, window, last, lines)

  work_words : words_in paged plan.work ≡ length plan.work
  work_words = words_of_work paged (λ p. 0) (λ m. 0) plan.work instructions

  short_words : words_in paged (short_parts plan (tail_items plan)) ≡ (short_spots 0 plan).stops + 1
  short_words =
      let first = words-append paged plan.work (map item_of (before_flag plan) ++ (item_of (Lower plan.source) ∷ tail_items plan)) in
      let second = words-append paged (map item_of (before_flag plan)) (item_of (Lower plan.source) ∷ tail_items plan) in
      let before = words_of_lines paged (before_flag plan) in
      omega (arith, first, second, before, tail_words, work_words)

  long_words : words_in paged (long_parts plan (tail_items plan)) ≡ (long_spots 0 plan).stops + 1
  long_words =
      let behind : List Item = plan.work ++ (item_of (Bit false place.Intcon 7) ∷ tail_items plan) in
      let first = words-append paged (map item_of entering) (item_of (Lower plan.source) ∷ item_of (Bit true place.Intcon 7) ∷ behind) in
      let second = words-append paged plan.work (item_of (Bit false place.Intcon 7) ∷ tail_items plan) in
      let start = words_of_lines paged entering in
      omega (arith, first, second, start, tail_words, work_words)

  locked_words : words_in paged (locked_parts plan (tail_items plan)) ≡ (locked_spots paged 0 plan).stops + 1
  locked_words =
      let again : List Line = lines_in plan.bank restarting in
      let fourth : List Item = test_items plan.event ++ tail_items plan in
      let third : List Item = plan.work ++ (Mark (mark (Lock plan.event)) ∷ item_of (Bit false place.Intcon 7) ∷ fourth) in
      let second : List Item = map item_of again ++ (item_of (Bit true place.Intcon 7) ∷ third) in
      let one = words-append paged (map item_of entering) (item_of (Lower plan.source) ∷ Mark (mark (Again plan.event)) ∷ second) in
      let two = words-append paged (map item_of again) (item_of (Bit true place.Intcon 7) ∷ third) in
      let three = words-append paged plan.work (Mark (mark (Lock plan.event)) ∷ item_of (Bit false place.Intcon 7) ∷ fourth) in
      let four = words-append paged (test_items plan.event) (tail_items plan) in
      let start = words_of_lines paged entering in
      let begun = words_of_lines paged again in
      let tests = words_of_tests paged plan.event in
      omega (arith, one, two, three, four, start, begun, tests, tail_words, work_words)

  all_words : (kind : Kind) → plan.kind ≡ kind → words_in paged (run_items plan) ≡ (spots_by kind paged 0 plan).stops + 1
  all_words Short is = let same = ap (words_in paged) (short_is plan (tail_items plan) is) in let all = short_words in omega (arith, same, all)
  all_words Long is = let same = ap (words_in paged) (long_is plan (tail_items plan) is) in let all = long_words in omega (arith, same, all)
  all_words Bottom is = let same = ap (words_in paged) (locked_is plan (tail_items plan) (ap is_locked is)) in let all = locked_words in omega (arith, same, all)
  all_words Middle is = let same = ap (words_in paged) (locked_is plan (tail_items plan) (ap is_locked is)) in let all = locked_words in omega (arith, same, all)

-- Places are counted from the start.
stops_from : (paged : Bool) (start : ℕ) (plan : Plan) (kind : Kind) → (spots_by kind paged start plan).stops ≡ start + (spots_by kind paged 0 plan).stops
stops_from paged start plan Short = omega arith
stops_from paged start plan Long = omega arith
stops_from paged start plan Bottom = omega arith
stops_from paged start plan Middle = omega arith

pub run_words : (paged : Bool) (start : ℕ) (plan : Plan) → AllByRecursion IsInstruction plan.work → start + words_in paged (run_items plan) ≡ (spots_of paged start plan).stops + 1
run_words paged start plan instructions =
    let words = all_words paged plan instructions plan.kind refl in
    let from = stops_from paged start plan plan.kind in
    omega (arith, words, from)

-- A run ends in no skip.
pub run_ends : (plan : Plan) → ends_skipping false (run_items plan) ≡ false
run_ends plan =
    let front = working plan.kind plan.event plan.source (masks_in plan) (frame_in plan) plan.work plan.bank in
    let window = window_items plan.event (open_bank plan) (moves_in plan) in
    let end = glue (exit_bank plan) (returning_in plan) in
    ends-append false front (window ++ (end ++ Ins Retfie ∷ []))
    ∙ ends-append (ends_skipping false front) window (end ++ Ins Retfie ∷ [])
    ∙ ends-append (ends_skipping (ends_skipping false front) window) end (Ins Retfie ∷ [])

-- The marks of its window, and that no RETFIE stands there.
pub record WindowStands (program marks : ℕ → ℕ) (plan : Plan) (first last : ℕ) : Type 0 where
  pub opens : marks (mark (Opening plan.event)) ≡ first
  pub commits : marks (mark (Committing plan.event)) ≡ last
  pub no_return_at_open : (program first == 0x0009) ≡ false
  pub no_return_at_commit : (program last == 0x0009) ≡ false

line_no_return : (program : ℕ → ℕ) (p : ℕ) (line : Line) → Is program p (instr_of line) → (program p == 0x0009) ≡ false
line_no_return program p (Bit true r b) is = no_return program p (instr_of (Bit true r b)) is refl
line_no_return program p (Bit false r b) is = no_return program p (instr_of (Bit false r b)) is refl
line_no_return program p (Skip true r b) is = no_return program p (instr_of (Skip true r b)) is refl
line_no_return program p (Skip false r b) is = no_return program p (instr_of (Skip false r b)) is refl
line_no_return program p (Constant k) is = no_return program p (instr_of (Constant k)) is refl
line_no_return program p (Load r) is = no_return program p (instr_of (Load r)) is refl
line_no_return program p (Store r) is = no_return program p (instr_of (Store r)) is refl
line_no_return program p (Clear r) is = no_return program p (instr_of (Clear r)) is refl
line_no_return program p (Lower source) is = no_return program p (instr_of (Lower source)) is refl
line_no_return program p Nothing is = no_return program p (instr_of Nothing) is refl

last_no_return : (program : ℕ → ℕ) (line : Line) (lines : List Line) (p : ℕ) → p + length lines < 8192 → StandFrom program p (map instr_of (line ∷ lines))
    → (program (p + length lines) == 0x0009) ≡ false
last_no_return program line [] p room stand = let here : p ≡ p + 0 = omega arith in subst (λ r. (program r == 0x0009) ≡ false) here (line_no_return program p line stand.0)
last_no_return program line (second ∷ lines) p room stand =
    let onward : next p ≡ p + 1 = omega (arith, room) in
    let there : p + 1 + length lines ≡ p + suc (length lines) = omega arith in
    subst (λ r. (program r == 0x0009) ≡ false) there
    (last_no_return program second lines (p + 1) (omega (arith, room)) (subst (λ r. StandFrom program r (map instr_of (second ∷ lines))) onward stand.1))

module _ (paged : Bool) (program marks : ℕ → ℕ) (start stop : ℕ) (plan : Plan) (stands : Stands paged program marks start (run_items plan) stop)
    (instructions : AllByRecursion IsInstruction plan.work) (last : ends_skipping false plan.work ≡ false) where
  tail_by : (kind : Kind) → plan.kind ≡ kind → (spots_by kind paged start plan).stops < 8192 → Stands paged program marks (spots_by kind paged start plan).opens (tail_items plan) stop
  tail_by Short is room = (short_stands paged program marks start stop plan stands instructions last is room).tail
  tail_by Long is room = (long_stands paged program marks start stop plan stands instructions last is room).tail
  tail_by Bottom is room = (locked_stands paged program marks start stop plan stands instructions last (ap is_locked is) room).tail
  tail_by Middle is room = (locked_stands paged program marks start stop plan stands instructions last (ap is_locked is) room).tail

  window_of : (opens : ℕ) (lines : List Line) → lines_in (open_bank plan) (moves_in plan) ≡ lines → 2 ≤ length lines → Plain lines → opens + length lines < 8192
      → Stands paged program marks opens (tail_items plan) stop → WindowStands program marks plan opens (opens + length lines - 1)
  window_of opens [] is many plain room tail = absurd (omega (arith, many))
  window_of opens (line ∷ lines) is many plain room tail =
      let items : List Item = glue (exit_bank plan) (returning_in plan) ++ Ins Retfie ∷ [] in
      let behind = subst (λ ls. Stands paged program marks opens (marked_last (mark (Committing plan.event)) ls ++ items) stop) is tail.1 in
      let stood = marked_stand paged program marks (mark (Committing plan.event)) line lines opens stop items plain (omega (arith, room)) behind in
      let there : opens + length lines ≡ opens + suc (length lines) - 1 = omega arith in
      record {
        opens = tail.0;
        commits = stood.1 ∙ there;
        no_return_at_open = line_no_return program opens line stood.0.0;
        no_return_at_commit = subst (λ r. (program r == 0x0009) ≡ false) there (last_no_return program line lines opens (omega (arith, room)) stood.0);
      }

  by_kind : (kind : Kind) → plan.kind ≡ kind → (spots_by kind paged start plan).stops < 8192
      → WindowStands program marks plan (spots_by kind paged start plan).opens (spots_by kind paged start plan).commits
  by_kind Short is room = window_of (short_spots start plan).opens (lines_in (open_bank plan) (moves_in plan)) refl (moves_long plan) (moves_plain plan) (omega (arith, room)) (tail_by Short is room)
  by_kind Long is room = window_of (long_spots start plan).opens (lines_in (open_bank plan) (moves_in plan)) refl (moves_long plan) (moves_plain plan) (omega (arith, room)) (tail_by Long is room)
  by_kind Bottom is room = window_of (locked_spots paged start plan).opens (lines_in (open_bank plan) (moves_in plan)) refl (moves_long plan) (moves_plain plan) (omega (arith, room)) (tail_by Bottom is room)
  by_kind Middle is room = window_of (locked_spots paged start plan).opens (lines_in (open_bank plan) (moves_in plan)) refl (moves_long plan) (moves_plain plan) (omega (arith, room)) (tail_by Middle is room)

  pub window_stands : (spots_of paged start plan).stops < 8192 → WindowStands program marks plan (spots_of paged start plan).opens (spots_of paged start plan).commits
  window_stands room = by_kind plan.kind refl room
