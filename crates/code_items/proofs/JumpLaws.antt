-- A jump, and a skip instruction with a jump behind it, where they stand in code: on any page, over any changes between that
-- keep the program counter and PCLATH.
use Rattle.std.proofs.Common.{◌≡◌, ℕ, ◌+◌, ◌≤◌, Bool, true, false, List, [], ◌∷◌, ◌++◌, ap, sym, refl, subst, append_assoc, arith, inr}
use Rattle.pic_isa.specs.declared.instructions.Instr.{Instr}
use Rattle.pic_regs.specs.Bytes.{Byte}
use Rattle.pic_machine.specs.Chip.{Chip}
use Rattle.pic_machine.specs.Results.{Done}
use Rattle.code_steps.specs.Steps.{next, Comes}
use Rattle.code_steps.specs.Between.{IsFrame, Others, placed_at}
use Rattle.code_steps.specs.Ends.{Between}
use Rattle.code_steps.specs.Laws.{Piece, OwnOf}
use Rattle.code_steps.proofs.BetweenLaws.{others_frame}
use Rattle.code_steps.proofs.OwnLaws.{own_passes, own_passes_settings}
use Rattle.code_steps.specs.Jumps.{with_page, arrives, Reaches, IsTest, Tested}
use Rattle.code_steps.proofs.ComesLaws.{comes_wider}
use Rattle.code_steps.proofs.JumpLaws.{Passes, PassesSettings, goes, settles, skips, tested_from}
use Rattle.code_items.specs.declared.items.Item.{Item}
use Rattle.code_items.specs.declared.items.Item.TheVariants.{Ins, Jump}
use Rattle.code_items.specs.Items.{is_skip, words_of_item}
use Rattle.code_items.specs.Lines.{Line, Does, Goes, settings, lines, Placed, Stands, Within}
use Rattle.code_items.specs.Jumping.{at_skip}
use Rattle.code_items.specs.Laws.{JumpArrives, SkipDecides}
use Rattle.code_items.proofs.StandLaws.{stands-skip}
use Rattle.code_items.proofs.LineLaws.{line_words, ending, placed-parts, within-lines}

module _ (program marks : ℕ → ℕ) (R : Chip → Chip → Type 0) (frame : IsFrame R) (G : Chip → Done → Type 0) (In : ℕ → Type 0) (passes : Passes In G) where
  -- Behind its page settings a jump has its page in PCLATH.
  settled : (t x : ℕ) (c d : Chip) → R (placed_at x (with_page t c.regs.pclath) c) d → Reaches false t d
  settled t x c d r =
      let same : d.regs.pclath ≡ with_page t c.regs.pclath = frame.pclath (placed_at x (with_page t c.regs.pclath) c) d r in
      (ap (λ (b : Byte). b.b4) same, ap (λ (b : Byte). b.b3) same)

  -- Where it arrives from there is where it arrives from the place before its settings.
  arrives_too : (t x : ℕ) (c d e : Chip) → R (placed_at x (with_page t c.regs.pclath) c) d → R (arrives t d) e → R (arrives t c) e
  arrives_too t x c d e r led =
      let page : Byte = with_page t c.regs.pclath in
      let same : d.regs.pclath ≡ page = frame.pclath (placed_at x page c) d r in
      let from : R (placed_at t page c) (placed_at t page d) = frame.moved t page (placed_at x page c) d r in
      let to : R (placed_at t page c) (arrives t d) = subst (λ (b : Byte). R (placed_at t page c) (placed_at t (with_page t b) d)) (sym same) from in
      frame.joined (placed_at t page c) (arrives t d) e to led

  -- A jump arrives at its mark.
  pub jump_comes : (paged : Bool) (p q m : ℕ) (rest : List Line) (c : Chip) → (paged ≡ true → PassesSettings In G)
      → Placed program marks p (settings paged m ++ Goes m ∷ rest) q → Within In p (settings paged m ++ Goes m ∷ rest) → c.pc ≡ p → Reaches paged (marks m) c
      → Comes program R G (R (arrives (marks m) c)) (words_of_item paged (Jump m)) c
  jump_comes false p q m rest c sets placed within at page = goes program R frame G In passes p (marks m) c placed.0 placed.1 within.0 at page
  jump_comes true p q m rest c sets placed within at page =
      let t = marks m in
      let there = next (next p) in
      settles program R frame G In (sets refl) (R (arrives t c)) 1 p t c placed.0 placed.1.0 within.0 within.1.0 at (λ d r.
      comes_wider program R R G G (R (arrives t d)) (R (arrives t c)) (λ x y s. s) (λ x done g. g) (λ e led. arrives_too t there c d e r led) 1 d
      (goes program R frame G In passes there t d placed.1.1.0 placed.1.1.1 within.1.1.0 (frame.pc (placed_at there (with_page t c.regs.pclath) c) d r) (settled t there c d r)))

  -- A skip instruction and a jump behind it: the test decides.
  pub skip_comes : (paged : Bool) (test : Chip → Bool) (p q m : ℕ) (i : Instr) (rest : List Line) (c : Chip) → (paged ≡ true → PassesSettings In G)
      → Placed program marks p (settings paged m ++ Does i ∷ Goes m ∷ rest) q → Within In p (settings paged m ++ Does i ∷ Goes m ∷ rest)
      → c.pc ≡ p → Reaches paged (marks m) c → ((d : Chip) → R (at_skip paged (marks m) c) d → IsTest i test d)
      → Comes program R G (Tested R test (marks m) (at_skip paged (marks m) c)) (1 + words_of_item paged (Jump m)) c
  skip_comes false test p q m i rest c sets placed within at page tests =
      skips program R frame G In passes test p (marks m) i c placed.0 placed.1.0 placed.1.1 within.0 within.1.0 at page tests
  skip_comes true test p q m i rest c sets placed within at page tests =
      let t = marks m in
      let there = next (next p) in
      let before : Chip = placed_at (next (next c.pc)) (with_page t c.regs.pclath) c in
      let same : placed_at there (with_page t c.regs.pclath) c ≡ before = ap (λ n. placed_at (next (next n)) (with_page t c.regs.pclath) c) (sym at) in
      settles program R frame G In (sets refl) (Tested R test t before) 2 p t c placed.0 placed.1.0 within.0 within.1.0 at (λ d s.
      let r : R before d = subst (λ (x : Chip). R x d) same s in
      comes_wider program R R G G (Tested R test t d) (Tested R test t before) (λ x y u. u) (λ x done g. g)
      (λ e found. tested_from program R frame G In test t before d e r found) 2 d
      (skips program R frame G In passes test there t i d placed.1.1.0 placed.1.1.1.0 placed.1.1.1.1 within.1.1.0 within.1.1.1.0
      (frame.pc (placed_at there (with_page t c.regs.pclath) c) d s) (settled t there c d s) (λ e u. tests e (frame.joined before d e r u))))

-- The first lines of a jump alone, and those of a skip instruction and a jump.
pub only_jump : (program marks : ℕ → ℕ) (paged : Bool) (p q m : ℕ) (items : List Item) → Stands paged program marks p (Jump m ∷ items) q
    → Placed program marks p (settings paged m ++ Goes m ∷ []) (ending p (settings paged m ++ Goes m ∷ []))
only_jump program marks paged p q m items stands = (placed-parts program marks p q (settings paged m ++ Goes m ∷ []) (lines false paged items) stands).0

pub only_skip : (program marks : ℕ → ℕ) (paged : Bool) (p q m : ℕ) (i : Instr) (items : List Item) → is_skip i ≡ true
    → Stands paged program marks p (Ins i ∷ Jump m ∷ items) q
    → Placed program marks p (settings paged m ++ Does i ∷ Goes m ∷ []) (ending p (settings paged m ++ Does i ∷ Goes m ∷ []))
only_skip program marks paged p q m i items skips stands =
    let rest = lines false paged items in
    let whole = stands-skip paged program marks p q i (Jump m ∷ items) skips stands in
    (placed-parts program marks p q (settings paged m ++ Does i ∷ Goes m ∷ []) rest
    (subst (λ ls. Placed program marks p ls q) (sym (append_assoc (settings paged m) (Does i ∷ Goes m ∷ []) rest)) whole)).0

-- Their words.
pub jump-words : (paged : Bool) (m : ℕ) → line_words (settings paged m ++ Goes m ∷ []) ≡ words_of_item paged (Jump m)
jump-words true m = refl
jump-words false m = refl

pub skip-words : (paged : Bool) (i : Instr) (m : ℕ) → line_words (settings paged m ++ Does i ∷ Goes m ∷ []) ≡ 1 + words_of_item paged (Jump m)
skip-words true i m = refl
skip-words false i m = refl

-- Over others' runs, in a piece of code.
pub jump_arrives_at : (paged : Bool) (program marks : ℕ → ℕ) (piece : Piece) (p q m : ℕ) (items : List Item) (c : Chip) → JumpArrives paged program marks piece p q m items c
jump_arrives_at paged program marks piece p q m items c stands has at page =
    let ls : List Line = settings paged m ++ Goes m ∷ [] in
    let count : line_words ls ≡ words_of_item paged (Jump m) = jump-words paged m in
    let within : Within (Between piece.start piece.stop) p ls =
    within-lines piece.start piece.stop p ls has.2 (inr (has.0, (let top : p + words_of_item paged (Jump m) ≤ piece.stop = has.1 in omega arith))) in
    jump_comes program marks Others others_frame (OwnOf piece) (Between piece.start piece.stop) (own_passes (λ a. piece.may a ≡ true) piece.start piece.stop)
    paged p (ending p ls) m [] c (λ e. own_passes_settings (λ a. piece.may a ≡ true) piece.start piece.stop (has.3 e))
    (only_jump program marks paged p q m items stands) within at page

pub skip_decides_at : (paged : Bool) (program marks : ℕ → ℕ) (piece : Piece) (p q m : ℕ) (i : Instr) (test : Chip → Bool) (items : List Item) (c : Chip)
    → SkipDecides paged program marks piece p q m i test items c
skip_decides_at paged program marks piece p q m i test items c stands skips has at page tests =
    let ls : List Line = settings paged m ++ Does i ∷ Goes m ∷ [] in
    let count : line_words ls ≡ 1 + words_of_item paged (Jump m) = skip-words paged i m in
    let within : Within (Between piece.start piece.stop) p ls =
    within-lines piece.start piece.stop p ls has.2 (inr (has.0, (let top : p + (1 + words_of_item paged (Jump m)) ≤ piece.stop = has.1 in omega arith))) in
    skip_comes program marks Others others_frame (OwnOf piece) (Between piece.start piece.stop) (own_passes (λ a. piece.may a ≡ true) piece.start piece.stop)
    paged test p (ending p ls) m i [] c (λ e. own_passes_settings (λ a. piece.may a ≡ true) piece.start piece.stop (has.3 e))
    (only_skip program marks paged p q m i items skips stands) within at page tests
