-- Code that is laid out stands in program memory, and all places of runs and the ready address have words.
use Rattle.std.proofs.Common.{◌≡◌, ℕ, ◌+◌, ◌%◌, ◌<◌, Bool, List, [], ◌∷◌, ◌++◌, drop, length, map, append_assoc, ap, arith, refl, subst, sym, ◌∙◌}
use Rattle.std.specs.Prelude.{Some}
use Rattle.pic_isa.specs.declared.instructions.Instr.TheVariants.{Addlw, Goto, Retfie}
use Rattle.pic_isa.specs.Instructions.{instruction_of}
use Rattle.pic_machine.specs.Run.{word_at}
use Rattle.code_items.specs.declared.items.Item.{Item}
use Rattle.code_items.specs.declared.items.Item.TheVariants.{Ins, Mark}
use Rattle.code_items.specs.Items.{has_pages, words_in}
use Rattle.code_items.specs.Lines.{Stands}
use Rattle.glue_steps.specs.declared.lines.Line.{Line}
use Rattle.glue_steps.specs.Lines.{item_of}
use Rattle.glue_parts.specs.Marks.{Boot, Entry, Ready, mark}
use Rattle.scratch_commit.specs.Plans.{Plan, frame_in, glue, masks_in, run_items, working}
use Rattle.scratch_commit.specs.Windows.{window_items}
use Rattle.run_steps.specs.Spots.{exit_bank, moves_in, open_bank, returning_in}
use Rattle.isr_vector.specs.Vector.{boot_items, own_goto, ready_place, turns_on}
use Rattle.page_layout.specs.declared.laid.Laid.{Laid}
use Rattle.page_layout.specs.Emitted.{places}
use Rattle.firmware_layout.specs.Layouts.{boot_start, boot_turn, spots_in}
use Rattle.firmware_layout.specs.Pieces.{Makings, items_of, lines_of_boot, plan_in, taking_of}
use Rattle.firmware_layout.specs.Sound.{AreMakings, IsCodeIn}
use Rattle.firmware_layout.proofs.StandLaws.{each-run-stands, vector-of-code-stands}
use Rattle.firmware_written.specs.Written.{IsLaidOut}
use Rattle.firmware_written.proofs.LastFacts.{goto_last, return_last}
use Rattle.firmware_written.proofs.WordFacts.{read-is_inside}

-- Items with one more behind them.
abbrev EndsWith : Item → List Item → Type 0
EndsWith last items = (front : List Item) × (items ≡ front ++ last ∷ [])

longer : (item last : Item) (items : List Item) → EndsWith last items → EndsWith last (item ∷ items)
longer item last items ends = (item ∷ ends.0, ap (λ is. item ∷ is) ends.1)

behind : (front : List Item) (last : Item) (items : List Item) → EndsWith last items → EndsWith last (front ++ items)
behind front last items ends = (front ++ ends.0, ap (λ is. front ++ is) ends.1 ∙ sym (append_assoc front ends.0 (last ∷ [])))

just : (last : Item) → EndsWith last (last ∷ [])
just last = ([], refl)

-- A run ends in its return, and the boot in the goto at the ready address.
run_last : (plan : Plan) → EndsWith (Ins Retfie) (run_items plan)
run_last plan =
    let front = working plan.kind plan.event plan.source (masks_in plan) (frame_in plan) plan.work plan.bank in
    let window = window_items plan.event (open_bank plan) (moves_in plan) in
    let end = glue (exit_bank plan) (returning_in plan) in
    longer (Mark (mark (Entry plan.event))) (Ins Retfie) (front ++ (window ++ (end ++ Ins Retfie ∷ [])))
    (behind front (Ins Retfie) (window ++ (end ++ Ins Retfie ∷ []))
    (behind window (Ins Retfie) (end ++ Ins Retfie ∷ []) (behind end (Ins Retfie) (Ins Retfie ∷ []) (just (Ins Retfie)))))

boot_last : (paged : Bool) (lines : List Line) (taking : List Item) → EndsWith (own_goto paged (mark Ready) (ready_place taking (drop 3 lines))) (boot_items paged lines taking)
boot_last paged lines taking =
    let goto = own_goto paged (mark Ready) (ready_place taking (drop 3 lines)) in
    longer (Mark (mark Boot)) goto (map item_of (drop 3 lines) ++ (item_of turns_on ∷ Mark (mark Ready) ∷ goto ∷ []))
    (behind (map item_of (drop 3 lines)) goto (item_of turns_on ∷ Mark (mark Ready) ∷ goto ∷ [])
    (longer (item_of turns_on) goto (Mark (mark Ready) ∷ goto ∷ []) (longer (Mark (mark Ready)) goto (goto ∷ []) (just goto))))

-- Neither is what is read where no word is.
no_return : instruction_of 0x3FFF ≡ Some Retfie → ⊥
no_return same = let it : Some (Addlw 0xFF) ≡ Some Retfie = same in cc

no_goto : (k : ℕ) → instruction_of 0x3FFF ≡ Some (Goto k) → ⊥
no_goto k same = let it : Some (Addlw 0xFF) ≡ Some (Goto k) = same in cc

module _ (f : Makings) (laid : Laid) (made : AreMakings f) (pages : f.spread.pages ≡ has_pages (items_of f)) (is : IsLaidOut f laid) where
  abbrev program : ℕ → ℕ
  program = word_at laid.words

  abbrev marks : ℕ → ℕ
  marks = places laid.marks

  pub is_code : IsCodeIn f program marks
  is_code =
      let few = is.few in
      let number = is.number in
      let same = ap (λ b. words_in b (items_of f)) pages in
      record {
        stop = length laid.words % 8192;
        stands = subst (λ b. Stands b program marks 0 (items_of f) (length laid.words % 8192)) (sym pages) is.stands;
        pages = pages;
        fits = omega (arith, few, number, same);
      }

  pub run_inside : (event : ℕ) → event < length f.p.events → (spots_in f marks event).stops < length laid.words
  run_inside event real =
      let run = each-run-stands f program marks event made is_code real in
      let room = run.room in
      let entry = run.rise.entry in
      let clear = run.rise.clear in
      let opens = run.rise.opens in
      let commits = run.rise.commits in
      let ends = run_last (plan_in f event) in
      let stop : ℕ = ((spots_in f marks event).stops + 1) % 8192 in
      let last = return_last program marks (spots_in f marks event).entry stop (omega (arith, entry, clear, opens, commits, room)) f.spread.pages ends.0
      (subst (λ items. Stands f.spread.pages program marks (spots_in f marks event).entry items stop) ends.1 run.stands) in
      let there = read-is_inside laid.words is.follow Retfie last.place no_return last.is in
      let below = last.below in
      let stops = last.stops in
      omega (arith, there, below, stops, room)

  pub ready_inside : boot_turn f marks + 1 < length laid.words
  ready_inside =
      let vector = vector-of-code-stands f program marks made is_code in
      let room = vector.room in
      let ends = boot_last f.spread.pages (lines_of_boot f) (taking_of f) in
      let stop : ℕ = (boot_turn f marks + 2) % 8192 in
      let ready = ready_place (taking_of f) (drop 3 (lines_of_boot f)) in
      let last = goto_last program marks (boot_start marks) stop (omega (arith, room)) f.spread.pages (mark Ready) ready ends.0
      (subst (λ items. Stands f.spread.pages program marks (boot_start marks) items stop) ends.1 vector.boot) in
      let there = read-is_inside laid.words is.follow (Goto last.0) last.1.place (no_goto last.0) last.1.is in
      let below = last.1.below in
      let stops = last.1.stops in
      omega (arith, there, below, stops, room)
