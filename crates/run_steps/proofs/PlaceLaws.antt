-- Where the parts of a run stand: deeds, single lines, work, window.
use Rattle.std.proofs.Common.{◌≡◌, ℕ, suc, ◌+◌, ◌/◌, ◌%◌, ◌<◌, ◌≤◌, ◌==◌, Bool, true, false, if◌then◌else◌, Option, Some, None, List, [], ◌∷◌, ◌++◌, length, map, refl, ap, subst, ◌∙◌, append_assoc, arith}
use Rattle.std.proofs.lemmas.List.{append-nil, map-append}
use Rattle.std.specs.List.{AllByRecursion}
use Rattle.pic_regs.specs.declared.places.Place.{Place}
use Rattle.pic_regs.specs.declared.places.Place.TheVariants as place
use Rattle.pic_regs.specs.Bytes.{bits, bit, is_zero}
use Rattle.pic_regs.specs.Places.{reg_of}
use Rattle.pic_isa.specs.declared.bits.TheConstants.{GIE}
use Rattle.pic_isa.specs.declared.instructions.Instr.TheVariants.{Retfie}
use Rattle.pic_isa.specs.declared.sources.Source.{Source}
use Rattle.pic_isa.specs.declared.sources.Source.TheVariants.{T0}
use Rattle.code_steps.specs.declared.banks.Bank.{Bank}
use Rattle.code_steps.specs.declared.banks.Bank.TheVariants.{Known}
use Rattle.code_steps.specs.Steps.{Is, next}
use Rattle.code_acts.specs.Codes.{low_bit, high_bit, moved}
use Rattle.code_acts.specs.Standing.{StandFrom}
use Rattle.code_acts.proofs.PartLaws.{stand_of_items}
use Rattle.code_items.specs.declared.items.Item.{Item}
use Rattle.code_items.specs.declared.items.Item.TheVariants.{Ins, Mark, Jump}
use Rattle.code_items.specs.Items.{ends_skipping, is_skip, words_in}
use Rattle.code_items.specs.Lines.{Stands}
use Rattle.code_items.proofs.ItemLaws.{ends-append}
use Rattle.code_items.proofs.StandLaws.{behind, stands-parts}
use Rattle.glue_steps.specs.declared.lines.Line.{Line}
use Rattle.glue_steps.specs.declared.lines.Line.TheVariants.{Constant, Load, Store, Clear, Bit, Lower, Skip}
use Rattle.glue_steps.specs.Lines.{instr_of, item_of}
use Rattle.glue_steps.specs.Stretches.{may_skip}
use Rattle.glue_steps.proofs.StraightLaws.{words_of_lines}
use Rattle.glue_parts.specs.Places.{bank_of}
use Rattle.glue_parts.specs.Pieces.{knows, bit_lines, is_known, lines_for, writing, lines_of_change, only_bit, bank_of_flag}
use Rattle.glue_parts.specs.declared.kept.TheConstants.{REDO}
use Rattle.glue_parts.specs.Marks.{mark, Again, Lock}
use Rattle.scratch_commit.specs.declared.kinds.Kind.{Kind}
use Rattle.scratch_commit.specs.declared.kinds.Kind.TheVariants.{Short, Long, Bottom, Middle}
use Rattle.scratch_commit.specs.Deeds.{Deed, Change, Choose, Copy, LowerFlag, Make, Pause, SetIf, Write, bank_behind, bank_past, lines_in, lines_of}
use Rattle.scratch_commit.specs.Frames.{saving_context, saving_enables}
use Rattle.scratch_commit.specs.Masks.{masking}
use Rattle.scratch_commit.specs.Plans.{IsInstruction, Plan, beginning, frame_in, glue, lock_items, locked_items, long_items, masks_in, run_items, short_items, starting, working}
use Rattle.scratch_commit.specs.Windows.{marked_last, window_items}
use Rattle.scratch_commit.proofs.DeedLaws.{bank_then, lines_then}
use Rattle.run_steps.specs.Spots.{Spots, before_flag, entering_in, exit_bank, is_locked, lock_words, locked_spots, long_spots, moves_in, open_bank, restarting, returning_in, short_spots}

-- Lines end in no skip instruction, behind none.
abbrev Ends : List Line → Type 0
Ends lines = ends_skipping false (map item_of lines) ≡ false

ends_both : (xs ys : List Line) → Ends xs → Ends ys → Ends (xs ++ ys)
ends_both xs ys first second =
    ap (ends_skipping false) (map-append item_of xs ys) ∙ ends-append false (map item_of xs) (map item_of ys)
    ∙ ap (λ b. ends_skipping b (map item_of ys)) first ∙ second

-- A line that is no skip.
plain_skips : (line : Line) → may_skip line ≡ false → is_skip (instr_of line) ≡ false
plain_skips (Skip v p b) never = absurd (cc)
plain_skips (Bit true p b) never = refl
plain_skips (Bit false p b) never = refl
plain_skips _ never = refl

ends_one : (line : Line) → may_skip line ≡ false → Ends (line ∷ [])
ends_one line never = plain_skips line never

ends_bit : (b : ℕ) (v there : Bool) → Ends (if there then [] else Bit v place.Status b ∷ [])
ends_bit b v true = refl
ends_bit b true false = refl
ends_bit b false false = refl

ends_choice_by : (bank : Bank) (k : ℕ) (there first : Bool)
    → Ends (if there then [] else if first then Clear place.Status ∷ [] else bit_lines 5 (low_bit bank) (k % 2 == 1) ++ bit_lines 6 (high_bit bank) (k / 2 == 1))
ends_choice_by bank k true first = refl
ends_choice_by bank k false true = refl
ends_choice_by bank k false false =
    ends_both (bit_lines 5 (low_bit bank) (k % 2 == 1)) (bit_lines 6 (high_bit bank) (k / 2 == 1))
    (ends_bit 5 (k % 2 == 1) (knows (low_bit bank) (k % 2 == 1))) (ends_bit 6 (k / 2 == 1) (knows (high_bit bank) (k / 2 == 1)))

pub ends_for : (bank : Bank) (o : Option ℕ) → Ends (lines_for bank o)
ends_for bank None = refl
ends_for bank (Some k) = ends_choice_by bank k (is_known bank k) (k == 0)

ends_then : (bank : Bank) (o : Option ℕ) (lines : List Line) → Ends lines → Ends (lines_for bank o ++ lines)
ends_then bank o lines ends = ends_both (lines_for bank o) lines (ends_for bank o) ends

ends_writing : (p : Place) (byte : ℕ) (none : Bool) → Ends (if none then Clear p ∷ [] else Constant byte ∷ Store p ∷ [])
ends_writing p byte true = refl
ends_writing p byte false = refl

ends_change : (bank : Bank) (p : Place) (byte : ℕ) (o : Option ℕ) (none : Bool) → Ends (if none then [] else lines_of_change o bank p byte)
ends_change bank p byte o true = refl
ends_change bank p byte None false = ends_then bank (bank_of (reg_of p)) (writing p byte) (ends_writing p byte (is_zero (bits byte)))
ends_change bank p byte (Some b) false =
    ends_then bank (bank_of (reg_of p)) (Bit (bit b (bits byte)) p b ∷ []) (ends_one (Bit (bit b (bits byte)) p b) refl)

ends_deed : (bank : Bank) (deed : Deed) → Ends (lines_of bank deed)
ends_deed bank Pause = refl
ends_deed bank (Make v p b) = ends_one (Bit v p b) refl
ends_deed bank (Choose k) = ends_choice_by bank k (is_known bank k) (k == 0)
ends_deed bank (Copy from to) =
    let middle = moved bank (bank_of (reg_of from)) in
    ends_both (lines_for bank (bank_of (reg_of from)) ++ Load from ∷ []) (lines_for middle (bank_of (reg_of to)) ++ Store to ∷ [])
    (ends_then bank (bank_of (reg_of from)) (Load from ∷ []) refl) (ends_then middle (bank_of (reg_of to)) (Store to ∷ []) refl)
ends_deed bank (Write p byte) = ends_then bank (bank_of (reg_of p)) (writing p byte) (ends_writing p byte (is_zero (bits byte)))
ends_deed bank (Change p changing byte) = ends_change bank p byte (only_bit changing) (is_zero (bits changing))
ends_deed bank (LowerFlag source) = ends_then bank (bank_of_flag source) (Lower source ∷ []) refl
ends_deed bank (SetIf p b) =
    ap (ends_skipping false) (map-append item_of (lines_for bank (bank_of (reg_of p)) ++ Skip false p b ∷ []) (Bit true place.Intcon b ∷ []))
    ∙ ends-append false (map item_of (lines_for bank (bank_of (reg_of p)) ++ Skip false p b ∷ [])) (item_of (Bit true place.Intcon b) ∷ [])

pub ends_deeds : (bank : Bank) (deeds : List Deed) → Ends (lines_in bank deeds)
ends_deeds bank [] = refl
ends_deeds bank (deed ∷ deeds) = ends_both (lines_of bank deed) (lines_in (bank_behind bank deed) deeds) (ends_deed bank deed) (ends_deeds (bank_behind bank deed) deeds)

items_of : (lines : List Line) → map item_of lines ≡ map Ins (map instr_of lines)
items_of [] = refl
items_of (line ∷ lines) = ap (λ items. item_of line ∷ items) (items_of lines)

module _ (paged : Bool) (program marks : ℕ → ℕ) where
  -- Lines that stand as items before others stand as instructions, and the others behind them.
  pub lines_stand : (p q : ℕ) (lines : List Line) (items : List Item) → Ends lines → p + length lines < 8192 → Stands paged program marks p (map item_of lines ++ items) q
      → StandFrom program p (map instr_of lines) × Stands paged program marks (p + length lines) items q
  lines_stand p q lines items ends room stands =
      let below : p < 8192 = omega arith in
      let parts = stands-parts paged program marks p q (map item_of lines) items below ends stands in
      let count = words_of_lines paged lines in
      let there : behind paged p (map item_of lines) ≡ p + length lines = omega (arith, count) in (
        stand_of_items paged program marks p (behind paged p (map item_of lines)) (map instr_of lines)
            (subst (λ xs. Stands paged program marks p xs (behind paged p (map item_of lines))) (items_of lines) parts.0),
        subst (λ r. Stands paged program marks r items q) there parts.1,
      )

  pub deeds_stand : (bank : Bank) (deeds : List Deed) (p q : ℕ) (items : List Item) → p + length (lines_in bank deeds) < 8192 → Stands paged program marks p (glue bank deeds ++ items) q
      → StandFrom program p (map instr_of (lines_in bank deeds)) × Stands paged program marks (p + length (lines_in bank deeds)) items q
  deeds_stand bank deeds p q items room stands = lines_stand p q (lines_in bank deeds) items (ends_deeds bank deeds) room stands

  -- A single line.
  pub line_stands : (line : Line) (p q : ℕ) (items : List Item) → may_skip line ≡ false → p + 1 < 8192 → Stands paged program marks p (item_of line ∷ items) q
      → Is program p (instr_of line) × Stands paged program marks (p + 1) items q
  line_stands line p q items never room stands =
      let two = lines_stand p q (line ∷ []) items (ends_one line never) room stands in (two.0.0, two.1)

  -- Work, whose items are instructions.
  pub words_of_work : (items : List Item) → AllByRecursion IsInstruction items → words_in paged items ≡ length items
  words_of_work [] all = refl
  words_of_work (Ins i ∷ items) all = let rest = words_of_work items all.1 in omega (arith, rest)
  words_of_work (Mark m ∷ items) all = absurd all.0
  words_of_work (Jump m ∷ items) all = absurd all.0

  pub work_stands : (work items : List Item) (p q : ℕ) → AllByRecursion IsInstruction work → ends_skipping false work ≡ false → p + length work < 8192
      → Stands paged program marks p (work ++ items) q → Stands paged program marks p work (p + length work) × Stands paged program marks (p + length work) items q
  work_stands work items p q all ends room stands =
      let below : p < 8192 = omega arith in
      let parts = stands-parts paged program marks p q work items below ends stands in
      let count = words_of_work work all in
      let there : behind paged p work ≡ p + length work = omega (arith, count) in
      (subst (λ r. Stands paged program marks p work r) there parts.0, subst (λ r. Stands paged program marks r items q) there parts.1)

  -- Lines with a mark before the last.
  abbrev Plain : List Line → Type 0
  Plain lines = AllByRecursion (λ line. may_skip line ≡ false) lines

  pub marked_stand : (m : ℕ) (line : Line) (lines : List Line) (p q : ℕ) (items : List Item) → Plain (line ∷ lines) → p + suc (length lines) < 8192
      → Stands paged program marks p (marked_last m (line ∷ lines) ++ items) q
      → StandFrom program p (map instr_of (line ∷ lines)) × (marks m ≡ p + length lines) × Stands paged program marks (p + suc (length lines)) items q
  marked_stand m line [] p q items plain room stands =
      let here : marks m ≡ p + 0 = omega (arith, stands.0) in
      let count : p + 1 ≡ p + suc 0 = omega arith in
      let one = line_stands line p q items plain.0 (omega arith) stands.1 in ((one.0, tt), here, subst (λ r. Stands paged program marks r items q) count one.1)
  marked_stand m line (second ∷ lines) p q items plain room stands =
      let one = line_stands line p q (marked_last m (second ∷ lines) ++ items) plain.0 (omega arith) stands in
      let rest = marked_stand m second lines (p + 1) q items plain.1 (omega arith) one.1 in
      let onward : p + 1 ≡ next p = omega arith in
      let here : marks m ≡ p + suc (length lines) = omega (arith, rest.1) in
      let count : p + 1 + suc (length lines) ≡ p + suc (suc (length lines)) = omega arith in
      ((one.0, subst (λ r. StandFrom program r (map instr_of (second ∷ lines))) onward rest.0), here, subst (λ r. Stands paged program marks r items q) count rest.2)

-- The lines before the clearing of the flag end in bank 0; and so the clearing is one line.
bank_entered : (plan : Plan) → bank_past (Known 0) (entering_in plan) ≡ Known 0
bank_entered plan =
    let context = saving_context plan.kind (frame_in plan) in
    let enables = saving_enables (frame_in plan) in
    let masks = masking (masks_in plan) in
    let home : List Deed = Choose 0 ∷ [] in
    bank_then (Known 0) context (enables ++ (masks ++ home))
    ∙ bank_then (bank_past (Known 0) context) enables (masks ++ home)
    ∙ bank_then (bank_past (bank_past (Known 0) context) enables) masks home

lower_line : (source : Source) → lines_in (Known 0) (LowerFlag source ∷ []) ≡ Lower source ∷ []
lower_line T0 = refl
lower_line _ = refl

starting_lines : (plan : Plan) → lines_in (Known 0) (entering_in plan ++ LowerFlag plan.source ∷ []) ≡ lines_in (Known 0) (entering_in plan) ++ Lower plan.source ∷ []
starting_lines plan =
    lines_then (Known 0) (entering_in plan) (LowerFlag plan.source ∷ [])
    ∙ ap (λ lines. lines_in (Known 0) (entering_in plan) ++ lines) (ap (λ bank. lines_in bank (LowerFlag plan.source ∷ [])) (bank_entered plan) ∙ lower_line plan.source)

starting_items : (plan : Plan) → glue (Known 0) (entering_in plan ++ LowerFlag plan.source ∷ []) ≡ glue (Known 0) (entering_in plan) ++ item_of (Lower plan.source) ∷ []
starting_items plan = ap (map item_of) (starting_lines plan) ∙ map-append item_of (lines_in (Known 0) (entering_in plan)) (Lower plan.source ∷ [])

-- What comes behind the work with its lock: the window and the return.
abbrev pub tail_items : Plan → List Item
tail_items plan = window_items plan.event (open_bank plan) (moves_in plan) ++ (glue (exit_bank plan) (returning_in plan) ++ Ins Retfie ∷ [])

-- The items of the lock behind its first instruction.
abbrev pub test_items : (event : ℕ) → List Item
test_items event =
    item_of (Skip false place.Intcon GIE) ∷ Jump (mark (Lock event)) ∷ item_of (Skip false REDO 0) ∷ Jump (mark (Again event)) ∷ []

-- A run with a lock, a long run and a short one, part by part.
locked_apart : (plan : Plan) → (kind : Kind) → is_locked kind ≡ true → working kind plan.event plan.source (masks_in plan) (frame_in plan) plan.work plan.bank
    ≡ locked_items plan.event (glue (Known 0) (starting kind plan.source (masks_in plan) (frame_in plan))) plan.work plan.bank
locked_apart plan Short locked = absurd (cc)
locked_apart plan Long locked = absurd (cc)
locked_apart plan Bottom locked = refl
locked_apart plan Middle locked = refl

module _ (plan : Plan) (rest : List Item) where
  abbrev start_items : List Item
  start_items = glue (Known 0) (entering_in plan)

  abbrev pub locked_parts : List Item
  locked_parts =
      start_items ++ (item_of (Lower plan.source) ∷ Mark (mark (Again plan.event)) ∷ (glue plan.bank restarting ++ (item_of (Bit true place.Intcon GIE)
      ∷ (plan.work ++ (Mark (mark (Lock plan.event)) ∷ item_of (Bit false place.Intcon GIE) ∷ (test_items plan.event ++ rest))))))

  pub locked_is : is_locked plan.kind ≡ true → working plan.kind plan.event plan.source (masks_in plan) (frame_in plan) plan.work plan.bank ++ rest ≡ locked_parts
  locked_is locked =
      let begin : glue plan.bank beginning ≡ glue plan.bank restarting ++ item_of (Bit true place.Intcon GIE) ∷ [] =
      ap (map item_of) (lines_then plan.bank restarting (Make true place.Intcon GIE ∷ [])) ∙ map-append item_of (lines_in plan.bank restarting) (Bit true place.Intcon GIE ∷ []) in
      ap (λ items. items ++ rest)
      (locked_apart plan plan.kind locked
      ∙ ap (λ start. locked_items plan.event start plan.work plan.bank) (starting_items plan)
      ∙ ap (λ begun. (start_items ++ item_of (Lower plan.source) ∷ []) ++ (Mark (mark (Again plan.event)) ∷ (begun ++ (plan.work ++ lock_items plan.event)))) begin)
      ∙ simp append_assoc

  abbrev pub long_parts : List Item
  long_parts =
      start_items ++ (item_of (Lower plan.source) ∷ item_of (Bit true place.Intcon GIE) ∷ (plan.work ++ (item_of (Bit false place.Intcon GIE) ∷ rest)))

  pub long_is : plan.kind ≡ Long → working plan.kind plan.event plan.source (masks_in plan) (frame_in plan) plan.work plan.bank ++ rest ≡ long_parts
  long_is long =
      ap (λ items. items ++ rest)
      (long_apart plan.kind long ∙ ap (λ start. long_items start plan.work) (starting_items plan))
      ∙ simp append_assoc
    where
      long_apart : (kind : Kind) → kind ≡ Long → working kind plan.event plan.source (masks_in plan) (frame_in plan) plan.work plan.bank
          ≡ long_items (glue (Known 0) (starting kind plan.source (masks_in plan) (frame_in plan))) plan.work
      long_apart Short long = absurd (cc)
      long_apart Long long = refl
      long_apart Bottom long = absurd (cc)
      long_apart Middle long = absurd (cc)

  abbrev pub short_parts : List Item
  short_parts = plan.work ++ (map item_of (before_flag plan) ++ (item_of (Lower plan.source) ∷ rest))

  pub short_is : plan.kind ≡ Short → working plan.kind plan.event plan.source (masks_in plan) (frame_in plan) plan.work plan.bank ++ rest ≡ short_parts
  short_is short =
      ap (λ items. items ++ rest)
      (short_apart plan.kind short
      ∙ ap (λ items. plan.work ++ items)
      (ap (map item_of) (append-nil (before_flag plan ++ Lower plan.source ∷ [])) ∙ map-append item_of (before_flag plan) (Lower plan.source ∷ [])))
      ∙ simp append_assoc
    where
      short_apart : (kind : Kind) → kind ≡ Short → working kind plan.event plan.source (masks_in plan) (frame_in plan) plan.work plan.bank ≡ short_items plan.source plan.work plan.bank
      short_apart Short short = refl
      short_apart Long short = absurd (cc)
      short_apart Bottom short = absurd (cc)
      short_apart Middle short = absurd (cc)

-- Where the parts of a run with a lock stand.
pub record LockedStands (paged : Bool) (program marks : ℕ → ℕ) (first stop : ℕ) (plan : Plan) : Type 0 where
  pub start : StandFrom program first (map instr_of (lines_in (Known 0) (entering_in plan)))
  pub clear : Is program (locked_spots paged first plan).clear (instr_of (Lower plan.source))
  pub again : marks (mark (Again plan.event)) ≡ (locked_spots paged first plan).clear + 1
  pub begin : StandFrom program ((locked_spots paged first plan).clear + 1) (map instr_of (lines_in plan.bank restarting))
  pub on : Is program (locked_spots paged first plan).on (instr_of (Bit true place.Intcon GIE))
  pub work : Stands paged program marks (locked_spots paged first plan).work plan.work (locked_spots paged first plan).lock
  pub lock : marks (mark (Lock plan.event)) ≡ (locked_spots paged first plan).lock
  pub off : Is program (locked_spots paged first plan).lock (instr_of (Bit false place.Intcon GIE))
  pub tests : Stands paged program marks ((locked_spots paged first plan).lock + 1) (test_items plan.event ++ tail_items plan) stop
  pub tail : Stands paged program marks (locked_spots paged first plan).opens (tail_items plan) stop

-- Of a long run.
pub record LongStands (paged : Bool) (program marks : ℕ → ℕ) (first stop : ℕ) (plan : Plan) : Type 0 where
  pub start : StandFrom program first (map instr_of (lines_in (Known 0) (entering_in plan)))
  pub clear : Is program (long_spots first plan).clear (instr_of (Lower plan.source))
  pub on : Is program (long_spots first plan).on (instr_of (Bit true place.Intcon GIE))
  pub work : Stands paged program marks (long_spots first plan).work plan.work (long_spots first plan).lock
  pub off : Is program (long_spots first plan).lock (instr_of (Bit false place.Intcon GIE))
  pub tail : Stands paged program marks (long_spots first plan).opens (tail_items plan) stop

-- Of a short run.
pub record ShortStands (paged : Bool) (program marks : ℕ → ℕ) (start stop : ℕ) (plan : Plan) : Type 0 where
  pub work : Stands paged program marks start plan.work (start + length plan.work)
  pub before : StandFrom program (start + length plan.work) (map instr_of (before_flag plan))
  pub clear : Is program (short_spots start plan).clear (instr_of (Lower plan.source))
  pub tail : Stands paged program marks (short_spots start plan).opens (tail_items plan) stop

-- A lock has five words at least.
five_words : (paged : Bool) → 5 ≤ lock_words paged
five_words true = omega arith
five_words false = omega arith

module _ (paged : Bool) (program marks : ℕ → ℕ) (start stop : ℕ) (plan : Plan) (stands : Stands paged program marks start (run_items plan) stop)
    (instructions : AllByRecursion IsInstruction plan.work) (last : ends_skipping false plan.work ≡ false) where
  abbrev tail : List Item
  tail = tail_items plan

  abbrev behind_lock : List Item
  behind_lock = test_items plan.event ++ tail

  abbrev from_lock : List Item
  from_lock = Mark (mark (Lock plan.event)) ∷ item_of (Bit false place.Intcon GIE) ∷ behind_lock

  abbrev from_on : List Item
  from_on = item_of (Bit true place.Intcon GIE) ∷ (plan.work ++ from_lock)

  pub locked_stands : is_locked plan.kind ≡ true → (locked_spots paged start plan).stops < 8192 → LockedStands paged program marks start stop plan
  locked_stands locked room =
      let s : Spots = locked_spots paged start plan in
      let five = five_words paged in
      let all = subst (λ items. Stands paged program marks start items stop) (locked_is plan tail locked) stands.1 in
      let again_items : List Item = Mark (mark (Again plan.event)) ∷ (glue plan.bank restarting ++ from_on) in
      let first = deeds_stand paged program marks (Known 0) (entering_in plan) start stop (item_of (Lower plan.source) ∷ again_items) (omega (arith, room, five)) all in
      let lower = line_stands paged program marks (Lower plan.source) s.clear stop again_items refl (omega (arith, room, five)) first.1 in
      let again = lower.1.0 in
      let begun = deeds_stand paged program marks plan.bank restarting (s.clear + 1) stop from_on (omega (arith, room, five)) lower.1.1 in
      let on = line_stands paged program marks (Bit true place.Intcon GIE) s.on stop (plan.work ++ from_lock) refl (omega (arith, room, five)) begun.1 in
      let work = work_stands paged program marks plan.work from_lock s.work stop instructions last (omega (arith, room, five)) on.1 in
      let off = line_stands paged program marks (Bit false place.Intcon GIE) s.lock stop behind_lock refl (omega (arith, room, five)) work.1.1 in
      record {
        start = first.0;
        clear = lower.0;
        again = again;
        begin = begun.0;
        on = on.0;
        work = work.0;
        lock = work.1.0;
        off = off.0;
        tests = off.1;
        tail = behind_tests paged s.lock (omega (arith, room, five)) off.1;
      }
    where
      behind_tests : (p : Bool) (lock : ℕ) → lock + lock_words p < 8192 → Stands p program marks (lock + 1) (test_items plan.event ++ tail) stop
          → Stands p program marks (lock + lock_words p) tail stop
      behind_tests true lock fits at =
          let parts = stands-parts true program marks (lock + 1) stop (test_items plan.event) tail (omega arith) refl at in
          let there : (lock + 1 + 8) % 8192 ≡ lock + 9 = omega arith in subst (λ r. Stands true program marks r tail stop) there parts.1
      behind_tests false lock fits at =
          let parts = stands-parts false program marks (lock + 1) stop (test_items plan.event) tail (omega arith) refl at in
          let there : (lock + 1 + 4) % 8192 ≡ lock + 5 = omega arith in subst (λ r. Stands false program marks r tail stop) there parts.1

  pub long_stands : plan.kind ≡ Long → (long_spots start plan).stops < 8192 → LongStands paged program marks start stop plan
  long_stands long room =
      let s : Spots = long_spots start plan in
      let all = subst (λ items. Stands paged program marks start items stop) (long_is plan tail long) stands.1 in
      let off_items : List Item = item_of (Bit false place.Intcon GIE) ∷ tail in
      let on_items : List Item = item_of (Bit true place.Intcon GIE) ∷ (plan.work ++ off_items) in
      let first = deeds_stand paged program marks (Known 0) (entering_in plan) start stop (item_of (Lower plan.source) ∷ on_items) (omega arith) all in
      let lower = line_stands paged program marks (Lower plan.source) s.clear stop on_items refl (omega arith) first.1 in
      let on = line_stands paged program marks (Bit true place.Intcon GIE) s.on stop (plan.work ++ off_items) refl (omega arith) lower.1 in
      let onward : s.on + 1 ≡ s.work = omega arith in
      let at_work = subst (λ r. Stands paged program marks r (plan.work ++ off_items) stop) onward on.1 in
      let work = work_stands paged program marks plan.work off_items s.work stop instructions last (omega arith) at_work in
      let off = line_stands paged program marks (Bit false place.Intcon GIE) s.lock stop tail refl (omega arith) work.1 in
      record { start = first.0; clear = lower.0; on = on.0; work = work.0; off = off.0; tail = off.1 }

  pub short_stands : plan.kind ≡ Short → (short_spots start plan).stops < 8192 → ShortStands paged program marks start stop plan
  short_stands short room =
      let s : Spots = short_spots start plan in
      let all = subst (λ items. Stands paged program marks start items stop) (short_is plan tail short) stands.1 in
      let work = work_stands paged program marks plan.work _ start stop instructions last (omega arith) all in
      let before = lines_stand paged program marks (start + length plan.work) stop (before_flag plan) _ (ends_for plan.bank (bank_of_flag plan.source)) (omega arith) work.1 in
      let lower = line_stands paged program marks (Lower plan.source) s.clear stop tail refl (omega arith) before.1 in
      record { work = work.0; before = before.0; clear = lower.0; tail = lower.1 }
