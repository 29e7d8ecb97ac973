-- How many items the head and the rest of the boot have, and that their fields are in range.
use Rattle.std.proofs.Common.{ℕ, zero, suc, ◌+◌, ◌-◌, ◌*◌, ◌<◌, ◌≤◌, Bool, true, false, if◌then◌else◌, Option, Some, None, List, [], ◌∷◌, ◌++◌, length, map, take, drop, replicate, sym, subst, arith, length-take, lit<}
use Rattle.std.specs.List.{AllByRecursion}
use Rattle.frp_tree.specs.declared.syntax.Setup.{Setup}
use Rattle.frp_tree.specs.Tree.{ProgramTree}
use Rattle.efrp_meaning.specs.Types.{IsTyped}
use Rattle.efrp_meaning.proofs.StateLaws.{begins-in-a-state}
use Rattle.efrp_types.specs.Laws.{HasSetupBytes}
use Rattle.pic_isa.specs.declared.instructions.Instr.TheVariants.{Goto}
use Rattle.pic_isa.specs.declared.sources.Source.{Source}
use Rattle.pic_isa.specs.Names.{register_at}
use Rattle.pic_regs.specs.declared.places.Place.TheVariants as place
use Rattle.pic_regs.specs.Bytes.{bit, bits}
use Rattle.bank_alloc.specs.declared.needs.Needs.{Needs}
use Rattle.priority_masks.specs.declared.tables.Enables.{Enables}
use Rattle.code_steps.specs.declared.banks.Bank.{Bank}
use Rattle.code_steps.specs.declared.banks.Bank.TheVariants.{Known}
use Rattle.code_acts.specs.Codes.{moved}
use Rattle.code_items.specs.declared.items.Item.{Item}
use Rattle.code_items.specs.declared.items.Item.TheVariants.{Ins, Jump, Mark}
use Rattle.glue_steps.specs.declared.lines.Line.{Line}
use Rattle.glue_steps.specs.declared.lines.Line.TheVariants.{Bit, Lower, Nothing}
use Rattle.glue_steps.specs.Choices.{skip_of}
use Rattle.glue_steps.specs.Lines.{LineFits, item_of}
use Rattle.glue_steps.proofs.LineLaws.{fields_fit}
use Rattle.glue_parts.specs.declared.spread.Context.{Context}
use Rattle.glue_parts.specs.Marks.{Boot, Entry, Ready, mark}
use Rattle.glue_parts.specs.Pieces.{bank_changed, lines_to_change, lines_to_choose, lines_to_write}
use Rattle.glue_parts.specs.Places.{bank_of}
use Rattle.pic_regs.specs.Places.{reg_of}
use Rattle.isr_vector.specs.Booting.{Write, bank_written, boot_lines, boot_writes, cell_writes, enable_line, enable_lines, first_bytes, lines_of_writes, setup_writes, write_at}
use Rattle.isr_vector.specs.Taking.{choice, context_saved, pclath_saved, status_saved, taking_items}
use Rattle.isr_vector.specs.Vector.{boot_items, boot_place, head_items, own_goto, ready_place, turns_on}
use Rattle.isr_vector.proofs.ListLaws.{all_both, all_dropped, all_taken}
use Rattle.isr_vector.proofs.StateLaws.{first-is, state-bytes}
use Rattle.firmware_words.proofs.ItemFacts.{Sound, sound_both, sound_ins, sound_jump, sound_line, sound_lines, sound_mark, sound_none, sound_wider}
use Rattle.firmware_words.proofs.LineFacts.{Small, small_both, small_none, small_to_change, small_to_choose, small_to_write}

-- What the boot writes are bytes.
abbrev IsByteOf : Write → Type 0
IsByteOf w = (w.byte < 256)

cells_low : (need : Needs) (cell : ℕ) (bytes : List ℕ) → AllByRecursion (λ byte. byte < 256) bytes → AllByRecursion IsByteOf (cell_writes need cell bytes)
cells_low need cell [] low = tt
cells_low need cell (byte ∷ bytes) low = (low.0, cells_low need (suc cell) bytes low.1)

write_low : (o : Option ℕ) (byte : ℕ) → byte < 256 → AllByRecursion IsByteOf (write_at o byte)
write_low None byte low = tt
write_low (Some address) byte low = (low, tt)

setups_low : (setups : List Setup) → AllByRecursion (λ (s : Setup). s.byte < 256) setups → AllByRecursion IsByteOf (setup_writes setups)
setups_low [] low = tt
setups_low (s ∷ setups) low =
    all_both IsByteOf (write_at (register_at s.register) s.byte) (setup_writes setups) (write_low (register_at s.register) s.byte low.0) (setups_low setups low.1)

writes_low : (p : ProgramTree) (need : Needs) → IsTyped p → HasSetupBytes p → AllByRecursion IsByteOf (boot_writes p need)
writes_low p need typed setups =
    let begins = begins-in-a-state p typed in
    let first = subst (AllByRecursion (λ byte. byte < 256)) (sym (first-is p begins.0 begins.1)) (state-bytes p begins.0 begins.2).1 in
    all_both IsByteOf (cell_writes need 0 (first_bytes p)) (setup_writes p.setups) (cells_low need 0 (first_bytes p) first) (setups_low p.setups setups)

-- So its lines are in range.
writes_fit : (bank : Bank) (ws : List Write) → AllByRecursion IsByteOf ws → AllByRecursion LineFits (lines_of_writes bank ws)
writes_fit bank [] low = tt
writes_fit bank (w ∷ ws) low =
    let there = moved bank (bank_of (reg_of w.place)) in
    all_both LineFits (lines_to_write bank w.place w.byte) (lines_of_writes there ws) (small_to_write bank w.place w.byte low.0).fit (writes_fit there ws low.1)

enable_fits : (b : ℕ) (v : Bool) → b < 8 → AllByRecursion LineFits (if v then Bit true place.Intcon b ∷ [] else [])
enable_fits b true low = (low, tt)
enable_fits b false low = tt

enables_fit : (bank : Bank) (enables : Enables) → enables.pie1 < 256 → enables.pie2 < 256 → AllByRecursion LineFits (enable_lines bank enables)
enables_fit bank enables low1 low2 =
    let first = bank_changed bank place.Pie1 enables.pie1 in
    let second = bank_changed first place.Pie2 enables.pie2 in
    let pie1 = lines_to_change bank place.Pie1 enables.pie1 enables.pie1 in
    let pie2 = lines_to_change first place.Pie2 enables.pie2 enables.pie2 in
    let choices = lines_to_choose second 0 in
    all_both LineFits (pie1 ++ pie2 ++ choices ++ enable_line enables 5 ++ enable_line enables 4) (enable_line enables 6)
    (all_both LineFits (pie1 ++ pie2 ++ choices ++ enable_line enables 5) (enable_line enables 4)
    (all_both LineFits (pie1 ++ pie2 ++ choices) (enable_line enables 5)
    (all_both LineFits (pie1 ++ pie2) choices
    (all_both LineFits pie1 pie2 (small_to_change bank place.Pie1 enables.pie1 enables.pie1 low1).fit (small_to_change first place.Pie2 enables.pie2 enables.pie2 low2).fit)
    (small_to_choose second 0).fit)
    (enable_fits 5 (bit 5 (bits enables.intcon)) (lit< tt)))
    (enable_fits 4 (bit 4 (bits enables.intcon)) (lit< tt)))
    (enable_fits 6 (bit 6 (bits enables.intcon)) (lit< tt))

pauses_fit : (n : ℕ) → AllByRecursion LineFits (replicate n Nothing)
pauses_fit zero = tt
pauses_fit (suc n) = (tt, pauses_fit n)

pub boot-fits : (p : ProgramTree) (need : Needs) (enables : Enables) → IsTyped p → HasSetupBytes p → enables.pie1 < 256 → enables.pie2 < 256
    → AllByRecursion LineFits (boot_lines p need enables)
boot-fits p need enables typed setups low1 low2 =
    let writes = boot_writes p need in
    let there = bank_written (Known 0) writes in
    let lines = lines_of_writes (Known 0) writes ++ enable_lines there enables in
    all_both LineFits lines (replicate (3 - length lines) Nothing)
    (all_both LineFits (lines_of_writes (Known 0) writes) (enable_lines there enables) (writes_fit (Known 0) writes (writes_low p need typed setups)) (enables_fit there enables low1 low2))
    (pauses_fit (3 - length lines))

-- The taking.
status_small : (status : Bool) → Small 3 (status_saved status)
status_small true = record { count = omega arith; fit = (tt, (tt, (tt, tt))) }
status_small false = small_none 3

pclath_small : (pclath : Bool) → Small 2 (pclath_saved pclath)
pclath_small true = record { count = omega arith; fit = (tt, (tt, tt)) }
pclath_small false = small_none 2

context_small : (context : Context) → Small 5 (context_saved context)
context_small context = small_both 3 2 (status_saved context.status) (pclath_saved context.pclath) (status_small context.status) (pclath_small context.pclath)

last_sound : (paged : Bool) (m : ℕ) → Sound 2 1 (if paged then Jump m ∷ [] else [])
last_sound true m = sound_wider 1 2 1 1 (Jump m ∷ []) (omega arith) (omega arith) (sound_jump m)
last_sound false m = sound_wider 0 2 0 1 [] (omega arith) (omega arith) sound_none

choice_sound : (source : ℕ → Source) (paged : Bool) (order : List ℕ) → Sound (2 * length order) (length order) (choice source paged order)
choice_sound source paged [] = sound_none
choice_sound source paged (event ∷ []) = last_sound paged (mark (Entry event))
choice_sound source paged (event ∷ next ∷ order) =
    let rest = choice source paged (next ∷ order) in
    let n = length (next ∷ order) in
    sound_wider (1 + (1 + 2 * n)) (2 * length (event ∷ next ∷ order)) (0 + (1 + n)) (length (event ∷ next ∷ order)) (choice source paged (event ∷ next ∷ order)) (omega arith) (omega arith)
    (sound_both 1 (1 + 2 * n) 0 (1 + n) (Ins (skip_of (source event)) ∷ []) (Jump (mark (Entry event)) ∷ rest) (sound_ins (skip_of (source event)) (fields_fit (Lower (source event)) tt))
    (sound_both 1 (2 * n) 1 n (Jump (mark (Entry event)) ∷ []) rest (sound_jump (mark (Entry event))) (choice_sound source paged (next ∷ order))))

pub taking-sound : (source : ℕ → Source) (context : Context) (paged : Bool) (order : List ℕ) → Sound (5 + 2 * length order) (0 + length order) (taking_items source context paged order)
taking-sound source context paged order =
    sound_both 5 (2 * length order) 0 (length order) (map item_of (context_saved context)) (choice source paged order)
    (sound_lines 5 (context_saved context) (context_small context)) (choice_sound source paged order)

-- The vector's own gotos lead to addresses of the first page.
goto_sound : (paged : Bool) (m address : ℕ) → address < 2048 → Sound 1 1 (own_goto paged m address ∷ [])
goto_sound true m address low = sound_wider 1 1 0 1 (Ins (Goto address) ∷ []) (omega arith) (omega arith) (sound_ins (Goto address) low)
goto_sound false m address low = sound_jump m

-- Head and boot.
module _ (paged : Bool) (lines : List Line) (fit : AllByRecursion LineFits lines) (n j : ℕ) (taking : List Item) (sound : Sound n j taking) where
  pub head-sound : boot_place taking < 2048 → Sound (3 + (1 + n)) (0 + (1 + j)) (head_items paged lines taking)
  head-sound low =
      let three = length-take 3 lines in
      sound_both 3 (1 + n) 0 (1 + j) (map item_of (take 3 lines)) (own_goto paged (mark Boot) (boot_place taking) ∷ taking)
      (sound_lines 3 (take 3 lines) (record { count = omega (arith, three); fit = all_taken LineFits 3 lines fit }))
      (sound_both 1 n 1 j (own_goto paged (mark Boot) (boot_place taking) ∷ []) taking (goto_sound paged (mark Boot) (boot_place taking) low) sound)

  pub boot-sound : (rest : ℕ) → length (drop 3 lines) ≤ rest → ready_place taking (drop 3 lines) < 2048 → Sound (1 + (rest + 3)) 1 (boot_items paged lines taking)
  boot-sound rest few low =
      let goto : Item = own_goto paged (mark Ready) (ready_place taking (drop 3 lines)) in
      sound_both 1 (rest + 3) 0 1 (Mark (mark Boot) ∷ []) (map item_of (drop 3 lines) ++ (item_of turns_on ∷ Mark (mark Ready) ∷ goto ∷ [])) (sound_mark (mark Boot))
      (sound_both rest 3 0 1 (map item_of (drop 3 lines)) (item_of turns_on ∷ Mark (mark Ready) ∷ goto ∷ [])
      (sound_lines rest (drop 3 lines) (record { count = few; fit = all_dropped LineFits 3 lines fit }))
      (sound_both 1 2 0 1 (item_of turns_on ∷ []) (Mark (mark Ready) ∷ goto ∷ []) (sound_line turns_on (lit< tt))
      (sound_both 1 1 0 1 (Mark (mark Ready) ∷ []) (goto ∷ []) (sound_mark (mark Ready)) (goto_sound paged (mark Ready) (ready_place taking (drop 3 lines)) low))))
