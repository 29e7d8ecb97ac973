-- The boot: from power-on to the step that turns interrupts on.
use Rattle.std.proofs.Common.{◌≡◌, ℕ, zero, suc, ◌+◌, ◌/◌, ◌%◌, ◌<◌, ◌≤◌, Bool, true, false, ◌==◌, if◌then◌else◌, Option, Some, None, List, [], ◌∷◌, ◌++◌, length, map, take, drop, refl, sym, ap, ap₂, subst, ◌∙◌, arith, length-append, append-nil, take-append-drop, length-take, inl, inr}
use Rattle.std.specs.Prelude.{IfSome}
use Rattle.std.specs.List.{AllByRecursion}
use Rattle.std.proofs.lemmas.Bool.{ne_eqb}
use Rattle.frp_tree.specs.Tree.{ProgramTree}
use Rattle.efrp_meaning.specs.Bounds.{state_bytes}
use Rattle.efrp_meaning.specs.Types.{IsTyped}
use Rattle.pic_isa.specs.declared.instructions.Instr.{Instr}
use Rattle.pic_isa.specs.declared.instructions.Instr.TheVariants.{Bsf, Goto}
use Rattle.pic_regs.specs.declared.places.Place.{Place}
use Rattle.pic_regs.specs.declared.places.Place.TheVariants as place
use Rattle.pic_regs.specs.Bytes.{Byte, zeros}
use Rattle.pic_regs.specs.Map.{Reg, Absent, Indf, Pcl, Status, Fsr, Pclath, Intcon, Pir1, Pir2, Pie1, Pie2, Port, Tris, Plain, reg_at}
use Rattle.pic_regs.specs.Places.{reg_of}
use Rattle.pic_machine.specs.declared.steps.PortWrite.{PortWrite}
use Rattle.pic_machine.specs.Chip.{Chip}
use Rattle.pic_machine.specs.Results.{Done}
use Rattle.bank_alloc.specs.declared.needs.Needs.{Needs}
use Rattle.bank_alloc.specs.Needs.{bytes_of}
use Rattle.priority_masks.specs.declared.tables.Enables.{Enables}
use Rattle.code_steps.specs.declared.banks.Bank.TheVariants.{Known}
use Rattle.code_steps.specs.Steps.{Is, next}
use Rattle.code_steps.specs.Between.{Alone}
use Rattle.code_steps.specs.Ends.{Between}
use Rattle.code_steps.specs.Jumps.{arrives, high_page, low_page, Reaches, with_page}
use Rattle.code_steps.proofs.BetweenLaws.{alone_frame}
use Rattle.code_steps.proofs.JumpLaws.{Passes}
use Rattle.code_items.specs.declared.items.Item.{Item}
use Rattle.code_items.specs.declared.items.Item.TheVariants.{Jump, Mark}
use Rattle.code_items.specs.Lines.{Stands}
use Rattle.code_items.proofs.JumpLaws.{only_jump}
use Rattle.code_items.proofs.StandLaws.{stands-parts}
use Rattle.code_acts.specs.Standing.{StandFrom}
use Rattle.glue_steps.specs.declared.lines.Line.{Line}
use Rattle.glue_steps.specs.declared.lines.Line.TheVariants.{Store, Clear, Bit, Lower}
use Rattle.glue_steps.specs.Tells.{Tells, Withstands, Given}
use Rattle.glue_steps.specs.Lines.{instr_of, item_of, ran, skips}
use Rattle.glue_steps.specs.Still.{MayWrite, Off, PlacesIn, Still, StillAll, StillLines, is_still, target_of}
use Rattle.glue_steps.specs.Stretches.{BankBits, Banked, Fits, bank_behind_all, bits_of_bank, may_skip, place_behind, puts_of, ran_all}
use Rattle.glue_steps.proofs.TellsLaws.{tells_given}
use Rattle.glue_steps.proofs.JumpLaws.{jump_told}
use Rattle.glue_steps.proofs.StillLaws.{no_return, off_stays, places_between, still_all, still_parts, still_passes, still_wider}
use Rattle.glue_steps.proofs.StraightLaws.{lines_stand, place-behind, straight, straight_then}
use Rattle.glue_parts.specs.Marks.{Boot, Ready, mark}
use Rattle.glue_parts.specs.Places.{IsNumbered}
use Rattle.glue_parts.specs.Effects.{Makes}
use Rattle.isr_vector.specs.Booting.{Write, boot_effect, boot_lines, boot_writes}
use Rattle.isr_vector.specs.Vector.{boot_items, boot_place, head_items, own_goto, ready_place, turns_on}
use Rattle.isr_vector.proofs.BootCountLaws.{BootMay, few_lines, three_lines}
use Rattle.isr_vector.proofs.BootLaws.{CanWrite, IsMemory, boot_can, boot-made}
use Rattle.isr_vector.proofs.ListLaws.{all_dropped, all_mapped, all_taken}
use Rattle.vector_steps.proofs.PlacedFacts.{Plain as PlainLine, banked_all, fits_parts, places_wider, plain_lines, put_at, puts_at, puts_parts, ran_at, ran_parts}

-- Lines of glue that don't write PCLATH leave it.
abbrev NotPage : ℕ → Type 0
NotPage address = address ≡ 0x00A → ⊥

store_page : (p : Place) (c : Chip) → MayWrite NotPage (reg_of p) → (ran (Store p) c).regs.pclath ≡ c.regs.pclath
store_page place.Pclath c may = absurd (may refl)
store_page _ c may = refl

clear_page : (p : Place) (c : Chip) → MayWrite NotPage (reg_of p) → (ran (Clear p) c).regs.pclath ≡ c.regs.pclath
clear_page place.Pclath c may = absurd (may refl)
clear_page _ c may = refl

bit_page : (p : Place) (b : ℕ) (v : Bool) (c : Chip) → MayWrite NotPage (reg_of p) → (ran (Bit v p b) c).regs.pclath ≡ c.regs.pclath
bit_page place.Pclath b v c may = absurd (may refl)
bit_page _ b v c may = refl

line_page : (line : Line) (c : Chip) → is_still line ≡ true → IfSome (target_of line) (MayWrite NotPage) → (ran line c).regs.pclath ≡ c.regs.pclath
line_page (Store p) c still may = store_page p c may
line_page (Clear p) c still may = clear_page p c may
line_page (Bit v p b) c still may = bit_page p b v c may
line_page (Lower source) c still may = absurd (cc)
line_page _ c still may = refl

lines_page : (skipped : Bool) (lines : List Line) (c : Chip) → StillLines NotPage lines → (ran_all skipped lines c).regs.pclath ≡ c.regs.pclath
lines_page skipped [] c still = refl
lines_page true (line ∷ lines) c still = lines_page false lines c still.2
lines_page false (line ∷ lines) c still = lines_page (skips line c) lines (ran line c) still.2 ∙ line_page line c still.0 still.1

still_taken : (May : ℕ → Type 0) (n : ℕ) (lines : List Line) → StillLines May lines → StillLines May (take n lines)
still_taken May zero lines still = tt
still_taken May (suc n) [] still = tt
still_taken May (suc n) (line ∷ lines) still = (still.0, still.1, still_taken May n lines still.2)

still_dropped : (May : ℕ → Type 0) (n : ℕ) (lines : List Line) → StillLines May lines → StillLines May (drop n lines)
still_dropped May zero lines still = still
still_dropped May (suc n) [] still = tt
still_dropped May (suc n) (line ∷ lines) still = still_dropped May n lines still.2

-- No write of the boot is one of PCLATH.
not_page : (reg : Reg) → IsNumbered reg → IsMemory reg → MayWrite NotPage reg
not_page (Port n) numbered memory = (λ same. omega (arith, same, numbered))
not_page (Tris n) numbered memory = (λ same. omega (arith, same))
not_page (Plain a) numbered memory = (λ same. let clash : Pclath ≡ Plain a = sym (ap reg_at same) ∙ numbered.1 in absurd (cc))
not_page _ numbered memory = absurd memory

boot_not_page : (ws : List Write) (enables : Enables) → AllByRecursion CanWrite ws → BootMay NotPage ws enables
boot_not_page ws enables can = record {
  writes = all_mapped CanWrite (λ (w : Write). MayWrite NotPage (reg_of w.place)) (λ w its. not_page (reg_of w.place) its.numbered its.memory) ws can;
  pie1 = λ some same. omega (arith, same);
  pie2 = λ some same. omega (arith, same);
  intcon = λ same. omega (arith, same);
}

-- A goto in the first page.
near_page : (t : ℕ) → t < 2048 → (high_page t ≡ false) × (low_page t ≡ false)
near_page t near = (ne_eqb (t / 4096) 1 (λ same. omega (arith, same, near)), ne_eqb (t / 2048 % 2) 1 (λ same. omega (arith, same, near)))

pub reaches_near : (t : ℕ) (c : Chip) → t < 2048 → c.regs.pclath ≡ zeros → Reaches false t c
reaches_near t c near page =
    let pages = near_page t near in
    (ap (λ (b : Byte). b.b4) page ∙ sym pages.0, ap (λ (b : Byte). b.b3) page ∙ sym pages.1)

pub arrives_near : (t : ℕ) (c : Chip) → t < 2048 → c.regs.pclath ≡ zeros → arrives t c ≡ put_at t c
arrives_near t c near page =
    let reaches = reaches_near t c near page in
    ap₂ (λ h l. put_at t (record c { regs = record c.regs { pclath = record c.regs.pclath { b4 = h; b3 = l } } })) (sym reaches.0) (sym reaches.1)

module _ (program marks : ℕ → ℕ) (In May : ℕ → Type 0) where
  abbrev Step : Chip → Done → Type 0
  Step = Given Off (Still program In May)

  goto_told : (Q : Chip → Type 0) → Withstands Q → (p t : ℕ) (later : List PortWrite) (k : ℕ) (c : Chip) → Is program p (Goto (t % 2048)) → t < 2048 → In p → c.pc ≡ p
      → c.regs.pclath ≡ zeros → Tells program Step Q later k (put_at t c) → Tells program Step Q later (1 + k) c
  goto_told Q stays p t later k c is near inside at page told =
      let none : (x : ℕ) → x ≡ p → (program x == 0x0009) ≡ false = λ x same. ap (λ y. program y == 0x0009) same ∙ no_return program p (Goto (t % 2048)) is refl in
      let passes : Passes (λ x. x ≡ p) Step = λ d place here off.
      let step = still_passes program (λ x. x ≡ p) May none d place here off in
      (still_wider program (λ x. x ≡ p) In May May (λ x same. subst In (sym same) inside) (λ a m. m) d _ step.0, step.1) in
      jump_told program (λ m. t) Step Q stays (λ x. x ≡ p) passes false (λ e. let clash : false ≡ true = e in absurd (cc)) p (next p) 0 [] later k c (is, omega (arith, near), refl)
      (refl, tt) at (reaches_near t c near page) (subst (Tells program Step Q later k) (sym (arrives_near t c near page)) told)

-- The chip at the end of the boot: with all its lines run, at the step that turns interrupts on.
abbrev pub boot_left : (p : ProgramTree) (need : Needs) (enables : Enables) (boot_at : ℕ) → Chip → Chip
boot_left p need enables boot_at c = put_at (boot_at + length (drop 3 (boot_lines p need enables))) (ran_all false (boot_lines p need enables) c)

-- What the boot needs of where its code stands, and of what it may write.
module _ (p : ProgramTree) (need : Needs) (enables : Enables) (program marks : ℕ → ℕ) (paged : Bool) (In May : ℕ → Type 0) where
  pub record BootStands (taking : List Item) (boot_at q r : ℕ) : Type 0 where
    pub typed : IsTyped p
    pub fits : bytes_of need ≤ 352
    pub placed : state_bytes p ≤ need.states
    pub may : BootMay May (boot_writes p need) enables
    pub head : Stands paged program marks 0 (head_items paged (boot_lines p need enables) taking) q
    pub boot : Stands paged program marks boot_at (boot_items paged (boot_lines p need enables) taking) r
    pub at : paged ≡ true → boot_at ≡ boot_place taking
    pub near : boot_at + length (drop 3 (boot_lines p need enables)) + 1 < 2048
    pub in_first : (x : ℕ) → x < 4 → In x
    pub in_rest : (x : ℕ) → Between boot_at (boot_at + length (drop 3 (boot_lines p need enables))) x → In x

  -- What stands behind the head's lines, and what in the rest.
  to_boot : (b : Bool) (taking : List Item) (boot_at q : ℕ) → (b ≡ true → boot_at ≡ boot_place taking) → boot_at < 2048 → marks (mark Boot) ≡ boot_at
      → Stands b program marks 3 (own_goto b (mark Boot) (boot_place taking) ∷ taking) q → Is program 3 (Goto (boot_at % 2048))
  to_boot true taking boot_at q at near is stands =
      let same : boot_place taking ≡ boot_at % 2048 = sym (at refl) ∙ omega (arith, near) in
      subst (λ k. Is program 3 (Goto k)) same stands.0
  to_boot false taking boot_at q at near is stands =
      subst (λ k. Is program 3 (Goto (k % 2048))) is (only_jump program marks false 3 q (mark Boot) taking stands).0

  pub taking_stands : (b : Bool) (taking : List Item) (k q : ℕ) → Stands b program marks 3 (own_goto b (mark Boot) k ∷ taking) q → Stands b program marks 4 taking q
  taking_stands true taking k q stands = stands.1
  taking_stands false taking k q stands = (stands-parts false program marks 3 q (Jump (mark Boot) ∷ []) taking (omega arith) refl stands).1

  -- So the taking stands at address 4.
  pub taking_there : (taking : List Item) (boot_at q r : ℕ) → BootStands taking boot_at q r → Stands paged program marks 4 taking q
  taking_there taking boot_at q r placed =
      let lines = boot_lines p need enables in
      let first = take 3 lines in
      let known = bits_of_bank (Known 0) in
      let few = few_lines May p need enables placed.typed placed.fits placed.placed placed.may in
      let makes = (boot-made p need enables placed.typed placed.fits placed.placed).makes in
      let three = three_lines p need enables in
      let count : length first ≡ 3 = omega (arith, three, length-take 3 lines) in
      let fits = fits_parts known first (drop 3 lines) (all_taken (λ line. may_skip line ≡ false) 3 lines few.plain) (subst (Fits false known) (sym (take-append-drop 3 lines)) makes.fits) in
      let head = lines_stand paged program marks 0 q known first (own_goto paged (mark Boot) (boot_place taking) ∷ taking) (omega arith) fits.0 placed.head in
      let three_on : place_behind 0 first ≡ 3 = place-behind 0 first (omega arith) ∙ omega (arith, count) in
      taking_stands paged taking (boot_place taking) q (subst (λ x. Stands paged program marks x (own_goto paged (mark Boot) (boot_place taking) ∷ taking) q) three_on head.1)

  -- Behind the lines of the rest: the step that turns interrupts on, and the ready address.
  pub record EndStands (boot_at : ℕ) (taking : List Item) (ready : ℕ) : Type 0 where
    pub turns : Is program (boot_at + length (drop 3 (boot_lines p need enables))) (instr_of turns_on)
    pub ready_is : marks (mark Ready) ≡ ready
    pub rests : Is program ready (Goto (ready % 2048))

  end_there : (b : Bool) (m place at : ℕ) (q : ℕ) → (b ≡ true → place ≡ at) → at < 2048 → marks m ≡ at → Stands b program marks at (own_goto b m place ∷ []) q → Is program at (Goto (at % 2048))
  end_there true m place at q same near is stands = let its : place ≡ at % 2048 = same refl ∙ omega (arith, near) in subst (λ k. Is program at (Goto k)) its stands.0
  end_there false m place at q same near is stands = subst (λ k. Is program at (Goto (k % 2048))) is stands.0

  pub end_stands : (taking : List Item) (boot_at q r : ℕ) → BootStands taking boot_at q r → EndStands boot_at taking (boot_at + length (drop 3 (boot_lines p need enables)) + 1)
  end_stands taking boot_at q r placed =
      let lines = boot_lines p need enables in
      let rest = drop 3 lines in
      let known = bits_of_bank (Known 0) in
      let near = placed.near in
      let few = few_lines May p need enables placed.typed placed.fits placed.placed placed.may in
      let makes = (boot-made p need enables placed.typed placed.fits placed.placed).makes in
      let fits = fits_parts known (take 3 lines) rest (all_taken (λ line. may_skip line ≡ false) 3 lines few.plain) (subst (Fits false known) (sym (take-append-drop 3 lines)) makes.fits) in
      let tail = lines_stand paged program marks boot_at r (bank_behind_all (take 3 lines) known) rest (item_of turns_on ∷ Mark (mark Ready) ∷ own_goto paged (mark Ready) (ready_place taking rest) ∷ [])
      (omega (arith, near)) fits.1 placed.boot.1 in
      let place : place_behind boot_at rest ≡ boot_at + length rest = place-behind boot_at rest (omega (arith, near)) ∙ omega (arith, near) in
      let end = subst (λ x. Stands paged program marks x (item_of turns_on ∷ Mark (mark Ready) ∷ own_goto paged (mark Ready) (ready_place taking rest) ∷ []) r) place tail.1 in
      let onward : next (boot_at + length rest) ≡ boot_at + length rest + 1 = omega (arith, near) in
      let is : marks (mark Ready) ≡ boot_at + length rest + 1 = end.1.0 ∙ onward in record {
        turns = end.0;
        ready_is = is;
        rests = end_there paged (mark Ready) (ready_place taking rest) (boot_at + length rest + 1) r
            (λ e. let there = placed.at e in omega (arith, there)) near is
            (subst (λ x. Stands paged program marks x (own_goto paged (mark Ready) (ready_place taking rest) ∷ []) r) onward end.1.1);
      }

  pub booting_told : (taking : List Item) (boot_at q r : ℕ) (c : Chip) → BootStands taking boot_at q r → c.pc ≡ 0 → Off c → Banked (bits_of_bank (Known 0)) c → c.regs.pclath ≡ zeros
      → Tells program (Still program In May) (Alone (boot_left p need enables boot_at c)) ((boot_effect p need enables).puts c.regs) (length (boot_lines p need enables) + 1) c
  booting_told taking boot_at q r c placed at off banked page =
      let lines = boot_lines p need enables in
      let first = take 3 lines in
      let rest = drop 3 lines in
      let known = bits_of_bank (Known 0) in
      let three = three_lines p need enables in
      let can = boot_can p need placed.typed placed.fits placed.placed in
      let few = few_lines May p need enables placed.typed placed.fits placed.placed placed.may in
      let pageless = few_lines NotPage p need enables placed.typed placed.fits placed.placed (boot_not_page (boot_writes p need) enables can) in
      let makes = (boot-made p need enables placed.typed placed.fits placed.placed).makes in
      let whole : first ++ rest ≡ lines = take-append-drop 3 lines in
      let count : length first ≡ 3 = omega (arith, three, length-take 3 lines) in
      let both : length first + length rest ≡ length lines = sym (length-append first rest) ∙ ap length whole in
      let near = placed.near in
      let plain : AllByRecursion PlainLine lines = plain_lines false known lines few.plain makes.fits in
      let plain_first = all_taken PlainLine 3 lines plain in
      let plain_rest = all_dropped PlainLine 3 lines plain in
      let fits = fits_parts known first rest (all_taken (λ line. may_skip line ≡ false) 3 lines few.plain) (subst (Fits false known) (sym whole) makes.fits) in
      let behind = bank_behind_all first known in
      let head = lines_stand paged program marks 0 q known first (own_goto paged (mark Boot) (boot_place taking) ∷ taking) (omega arith) fits.0 placed.head in
      let three_on : place_behind 0 first ≡ 3 = place-behind 0 first (omega arith) ∙ omega (arith, count) in
      let goto : Is program 3 (Goto (boot_at % 2048)) = to_boot paged taking boot_at q placed.at (omega (arith, near)) placed.boot.0
      (subst (λ x. Stands paged program marks x (own_goto paged (mark Boot) (boot_place taking) ∷ taking) q) three_on head.1) in
      let tail = lines_stand paged program marks boot_at r behind rest (item_of turns_on ∷ Mark (mark Ready) ∷ own_goto paged (mark Ready) (ready_place taking rest) ∷ [])
      (omega (arith, near)) fits.1 placed.boot.1 in
      let d1 : Chip = ran_all false first c in
      let d2 : Chip = put_at boot_at d1 in
      let here : d1.pc ≡ 3 = ap (λ (x : Chip). x.pc) (ran_at first c c.pc plain_first) ∙ ap (λ x. place_behind x first) at ∙ three_on in
      let its_page : d1.regs.pclath ≡ zeros = lines_page false first c (still_taken NotPage 3 lines pageless.still) ∙ page in
      let final : Chip = boot_left p need enables boot_at c in
      let end : ran_all false rest d2 ≡ final =
      ran_at rest d1 boot_at plain_rest
      ∙ ap₂ put_at (place-behind boot_at rest (omega (arith, near)) ∙ omega (arith, near)) (sym (ran_parts first rest c plain_first) ∙ ap (λ xs. ran_all false xs c) whole) in
      let G : Chip → Done → Type 0 = Given Off (Still program In May) in
      let Q : Chip → Type 0 = Alone final in
      let stays : Withstands Q = λ e f s q. alone_frame.joined final e f q s in
      let third = straight program G Q stays rest behind boot_at d2 fits.1 tail.0
      (still_all program In May boot_at rest
      (still_parts In May boot_at rest
      (places_in boot_at rest (omega (arith, near)) placed.in_rest) (still_dropped May 3 lines few.still)))
      refl (banked_all first known c plain_first banked) (subst Q (sym end) (alone_frame.same final)) in
      let second = goto_told program marks In May Q stays 3 boot_at (puts_of false rest d2 []) (length rest) d1 goto (omega (arith, near)) (placed.in_first 3 (omega arith)) here its_page third in
      let told = straight_then program G Q stays first known 0 (puts_of false rest d2 []) (1 + length rest) c fits.0 head.0
      (still_all program In May 0 first
      (still_parts In May 0 first
      (places_in 0 first (omega (arith, count)) (λ x within. placed.in_first x (let below = within.1 in omega (arith, below, count)))) (still_taken May 3 lines few.still)))
      at banked second in
      let puts : puts_of false first c (puts_of false rest d2 []) ≡ (boot_effect p need enables).puts c.regs =
      ap (puts_of false first c) (puts_at rest d1 boot_at [] plain_rest) ∙ sym (puts_parts first rest c [] plain_first) ∙ ap (λ xs. puts_of false xs c []) whole
      ∙ makes.puts c [] ∙ append-nil ((boot_effect p need enables).puts c.regs) in
      let steps : length first + (1 + length rest) ≡ length lines + 1 = omega (arith, both) in
      tells_given program Off (Still program In May) Q off_stays ((boot_effect p need enables).puts c.regs) (length lines + 1) c off
      (subst (λ n. Tells program G Q ((boot_effect p need enables).puts c.regs) n c) steps (subst (λ ps. Tells program G Q ps (length first + (1 + length rest)) c) puts told))
    where
      places_in : (start : ℕ) (xs : List Line) → start + length xs ≤ 8192 → ((x : ℕ) → Between start (start + length xs) x → In x) → PlacesIn In start xs
      places_in start xs room inside = places_wider (Between start (start + length xs)) In inside start xs (places_between start (start + length xs) start xs room (omega arith) (omega arith))
