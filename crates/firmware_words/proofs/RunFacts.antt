-- The run of an event has 108 items more than its work, and 6 for each byte that its window moves, with two jumps among them.
use Rattle.std.proofs.Common.{ℕ, ◌+◌, ◌*◌, ◌&&◌, Bool, true, false, not, List, [], ◌∷◌, ◌++◌, length, arith, lit<}
use Rattle.pic_isa.specs.declared.bits.TheConstants.{GIE}
use Rattle.pic_isa.specs.declared.instructions.Instr.TheVariants.{Retfie}
use Rattle.pic_isa.specs.declared.sources.Source.{Source}
use Rattle.pic_regs.specs.declared.places.Place.TheVariants as place
use Rattle.code_steps.specs.declared.banks.Bank.{Bank}
use Rattle.code_steps.specs.declared.banks.Bank.TheVariants.{Known}
use Rattle.code_items.specs.declared.items.Item.{Item}
use Rattle.code_items.specs.declared.items.Item.TheVariants.{Ins, Jump, Mark}
use Rattle.glue_steps.specs.declared.lines.Line.TheVariants.{Bit, Skip}
use Rattle.glue_steps.specs.Lines.{item_of}
use Rattle.glue_parts.specs.declared.kept.TheConstants.{REDO}
use Rattle.glue_parts.specs.Marks.{Again, Committing, Entry, Lock, Opening, mark}
use Rattle.scratch_commit.specs.declared.frames.Frame.{Frame}
use Rattle.scratch_commit.specs.declared.kinds.Kind.{Kind}
use Rattle.scratch_commit.specs.declared.kinds.Kind.TheVariants.{Bottom, Long, Middle, Short}
use Rattle.scratch_commit.specs.Deeds.{Deed, LowerFlag, bank_past, lines_in}
use Rattle.scratch_commit.specs.Plans.{Plan, bank_at_window, beginning, frame_in, glue, lock_items, locked_items, long_items, masks_in, over_idle, returning, run_items, short_items, starting, working}
use Rattle.scratch_commit.specs.Windows.{marked_last, window, window_items}
use Rattle.firmware_words.proofs.DeedFacts.{Few, MasksFit, few_beginning, few_lower, few_returning, few_starting, few_window}
use Rattle.firmware_words.proofs.ItemFacts.{Sound, sound_both, sound_ins, sound_jump, sound_line, sound_lines, sound_mark, sound_marked, sound_wider}

-- The items of deeds.
sound_glue : (most : ℕ) (bank : Bank) (deeds : List Deed) → Few most deeds → Sound most 0 (glue bank deeds)
sound_glue most bank deeds few = sound_lines most (lines_in bank deeds) (few.lines bank)

-- Up to the window.
module _ (event n : ℕ) (work : List Item) (sound : Sound n 0 work) where
  sound_lock : Sound 6 2 (lock_items event)
  sound_lock =
      let off : Item = item_of (Bit false place.Intcon GIE) in
      let still_on : Item = item_of (Skip false place.Intcon GIE) in
      let redo : Item = item_of (Skip false REDO 0) in
      let once_more : Item = Jump (mark (Lock event)) in
      let anew : Item = Jump (mark (Again event)) in
      sound_both 1 5 0 2 (Mark (mark (Lock event)) ∷ []) (off ∷ still_on ∷ once_more ∷ redo ∷ anew ∷ []) (sound_mark (mark (Lock event)))
      (sound_both 1 4 0 2 (off ∷ []) (still_on ∷ once_more ∷ redo ∷ anew ∷ []) (sound_line (Bit false place.Intcon GIE) (lit< tt))
      (sound_both 1 3 0 2 (still_on ∷ []) (once_more ∷ redo ∷ anew ∷ []) (sound_line (Skip false place.Intcon GIE) (lit< tt))
      (sound_both 1 2 1 1 (once_more ∷ []) (redo ∷ anew ∷ []) (sound_jump (mark (Lock event)))
      (sound_both 1 1 0 1 (redo ∷ []) (anew ∷ []) (sound_line (Skip false REDO 0) (lit< tt)) (sound_jump (mark (Again event)))))))

  sound_locked : (start : List Item) (bank : Bank) → Sound 46 0 start → Sound (60 + n) 2 (locked_items event start work bank)
  sound_locked start bank begun =
      let again : List Item = glue bank beginning in
      sound_wider (46 + (1 + (7 + (n + 6)))) (60 + n) 2 2 (locked_items event start work bank) (omega arith) (omega arith)
      (sound_both 46 (1 + (7 + (n + 6))) 0 2 start (Mark (mark (Again event)) ∷ (again ++ (work ++ lock_items event))) begun
      (sound_both 1 (7 + (n + 6)) 0 2 (Mark (mark (Again event)) ∷ []) (again ++ (work ++ lock_items event)) (sound_mark (mark (Again event)))
      (sound_both 7 (n + 6) 0 2 again (work ++ lock_items event) (sound_glue 7 bank beginning few_beginning)
      (sound_both n 6 0 2 work (lock_items event) sound sound_lock))))

  sound_long : (start : List Item) → Sound 46 0 start → Sound (60 + n) 2 (long_items start work)
  sound_long start begun =
      let on : Item = item_of (Bit true place.Intcon GIE) in
      let off : Item = item_of (Bit false place.Intcon GIE) in
      sound_wider (46 + (1 + (n + 1))) (60 + n) 0 2 (long_items start work) (omega arith) (omega arith)
      (sound_both 46 (1 + (n + 1)) 0 0 start (on ∷ (work ++ off ∷ [])) begun
      (sound_both 1 (n + 1) 0 0 (on ∷ []) (work ++ off ∷ []) (sound_line (Bit true place.Intcon GIE) (lit< tt))
      (sound_both n 1 0 0 work (off ∷ []) sound (sound_line (Bit false place.Intcon GIE) (lit< tt)))))

  sound_short : (source : Source) (bank : Bank) → Sound (60 + n) 2 (short_items source work bank)
  sound_short source bank =
      sound_wider (n + 3) (60 + n) 0 2 (short_items source work bank) (omega arith) (omega arith)
      (sound_both n 3 0 0 work (glue bank (LowerFlag source ∷ [])) sound (sound_glue 3 bank (LowerFlag source ∷ []) (few_lower source)))

  sound_working : (plan : Plan) (kind : Kind) (source : Source) (frame : Frame) (bank : Bank) → MasksFit plan → Sound (60 + n) 2 (working kind event source (masks_in plan) frame work bank)
  sound_working plan kind source frame bank fit = by kind (sound_glue 46 (Known 0) (starting kind source (masks_in plan) frame) (few_starting plan kind source frame fit))
    where
      by : (k : Kind) → Sound 46 0 (glue (Known 0) (starting k source (masks_in plan) frame)) → Sound (60 + n) 2 (working k event source (masks_in plan) frame work bank)
      by Short begun = sound_short source bank
      by Long begun = sound_long (glue (Known 0) (starting Long source (masks_in plan) frame)) begun
      by Bottom begun = sound_locked (glue (Known 0) (starting Bottom source (masks_in plan) frame)) bank begun
      by Middle begun = sound_locked (glue (Known 0) (starting Middle source (masks_in plan) frame)) bank begun

-- The run.
pub sound_run : (n : ℕ) (plan : Plan) → MasksFit plan → Sound n 0 plan.work → Sound (108 + n + 6 * length plan.moves) 2 (run_items plan)
sound_run n plan fit sound =
    let bank : Bank = bank_at_window plan.kind plan.source plan.bank in
    let tells : Bool = not (over_idle plan) in
    let moves : List Deed = window plan.moves tells in
    let end : List Deed = returning (masks_in plan) (frame_in plan) (plan.spread.pages && over_idle plan) in
    let begun : List Item = working plan.kind plan.event plan.source (masks_in plan) (frame_in plan) plan.work plan.bank in
    let opened : List Item = window_items plan.event bank moves in
    let closed : List Item = glue (bank_past bank moves) end in
    let k : ℕ = 6 * length plan.moves + 2 in
    sound_wider (1 + (60 + n + (1 + (k + 1) + (42 + 1)))) (108 + n + 6 * length plan.moves) 2 2 (run_items plan) (omega arith) (omega arith)
    (sound_both 1 (60 + n + (1 + (k + 1) + (42 + 1))) 0 2 (Mark (mark (Entry plan.event)) ∷ []) (begun ++ (opened ++ (closed ++ Ins Retfie ∷ []))) (sound_mark (mark (Entry plan.event)))
    (sound_both (60 + n) (1 + (k + 1) + (42 + 1)) 2 0 begun (opened ++ (closed ++ Ins Retfie ∷ []))
    (sound_working plan.event n plan.work sound plan plan.kind plan.source (frame_in plan) plan.bank fit)
    (sound_both (1 + (k + 1)) (42 + 1) 0 0 opened (closed ++ Ins Retfie ∷ [])
    (sound_both 1 (k + 1) 0 0 (Mark (mark (Opening plan.event)) ∷ []) (marked_last (mark (Committing plan.event)) (lines_in bank moves)) (sound_mark (mark (Opening plan.event)))
    (sound_marked k (mark (Committing plan.event)) (lines_in bank moves) ((few_window plan.moves tells).lines bank)))
    (sound_both 42 1 0 0 closed (Ins Retfie ∷ [])
    (sound_glue 42 (bank_past bank moves) end (few_returning plan (frame_in plan) (plan.spread.pages && over_idle plan) fit)) (sound_ins Retfie tt)))))
