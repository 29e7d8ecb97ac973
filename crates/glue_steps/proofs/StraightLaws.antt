-- Lines one after another come to what they leave, and put what they put.
use Rattle.std.proofs.Common.{◌≡◌, ℕ, suc, ◌+◌, ◌%◌, ◌<◌, Bool, true, false, not, ◌&&◌, if◌then◌else◌, List, [], ◌∷◌, length, map, ap, ◌∙◌, sym, refl, subst, arith, inr}
use Rattle.std.specs.List.{cons_option}
use Rattle.pic_machine.specs.declared.steps.PortWrite.{PortWrite}
use Rattle.pic_machine.specs.Chip.{Chip}
use Rattle.pic_machine.specs.Results.{Done}
use Rattle.code_steps.specs.Steps.{next, Is}
use Rattle.code_steps.specs.Between.{Alone}
use Rattle.code_steps.proofs.ComesLaws.{own_is}
use Rattle.code_items.specs.declared.items.Item.{Item}
use Rattle.code_items.specs.declared.items.Item.TheVariants.{Ins}
use Rattle.code_items.specs.Items.{ends_skipping, words_in}
use Rattle.code_items.specs.Items.{skips as skips_item}
use Rattle.code_items.specs.Lines.{Stands}
use Rattle.code_items.proofs.StandLaws.{stands-parts}
use Rattle.code_acts.specs.Standing.{StandFrom}
use Rattle.code_acts.proofs.PartLaws.{stand_of_items}
use Rattle.glue_steps.specs.declared.lines.Line.{Line}
use Rattle.glue_steps.specs.declared.lines.Line.TheVariants.{Constant, Bit, Skip}
use Rattle.glue_steps.specs.Tells.{Tells, Withstands}
use Rattle.glue_steps.specs.Lines.{instr_of, item_of, skips, did, ran, is_glue}
use Rattle.glue_steps.specs.Stretches.{ran_all, puts_of, BankBits, Banked, may_skip, moves_bank, bank_behind, bank_behind_all, Fits, GrantsAll, place_behind}
use Rattle.glue_steps.specs.Laws.{LinesStand}
use Rattle.glue_steps.proofs.TellsLaws.{tells_longer, tells_moves}
use Rattle.glue_steps.proofs.LineLaws.{line_is, line_place, banked_same, banked_behind, same_bank, ran_alone, put_alone}

pub banked_stays : (known : BankBits) (c d : Chip) → Alone c d → Banked known c → Banked known d
banked_stays known c d r banked = banked_same known c d (ap (λ (x : Chip). x.regs.status) r.only) banked

-- Only a skip skips.
only_skips : (line : Line) (c : Chip) → skips line c ≡ true → may_skip line ≡ true
only_skips (Skip v p b) c skip = refl
only_skips (Constant k) c skip = absurd (cc)
only_skips _ c skip = absurd (cc)

-- The parts of a test.
glue_part : (glue behind moves : Bool) → (glue && not (behind && moves)) ≡ true → glue ≡ true
glue_part true behind moves both = refl
glue_part false behind moves both = absurd (cc)

bank_part : (glue behind moves : Bool) → (glue && not (behind && moves)) ≡ true → behind ≡ true → moves ≡ false
bank_part true true true both held = absurd (cc)
bank_part true true false both held = refl
bank_part true false moves both held = absurd (cc)
bank_part false behind moves both held = absurd (cc)

module _ (program : ℕ → ℕ) (G : Chip → Done → Type 0) (Q : Chip → Type 0) (stays : Withstands Q) where
  go : (lines : List Line) (skipped behind : Bool) (known : BankBits) (p : ℕ) (later : List PortWrite) (m : ℕ) (c : Chip)
      → (skipped ≡ true → behind ≡ true) → Fits behind known lines → StandFrom program p (map instr_of lines) → GrantsAll program G p lines
      → c.pc ≡ (if skipped then next p else p) → Banked known c → Tells program G Q later m (ran_all skipped lines c)
      → Tells program G Q (puts_of skipped lines c later) (length lines + m) c
  go [] skipped behind known p later m c pending fits stand grants at banked told =
      let count : m ≡ 0 + m = omega arith in subst (λ n. Tells program G Q later n c) count told
  go (line ∷ lines) true behind known p later m c pending fits stand grants at banked told =
      let same = same_bank line known (bank_part (is_glue line) behind (moves_bank line) fits.0 (pending refl)) in
      tells_longer program G Q (puts_of false lines c later) (length lines + m) (suc (length lines) + m) c (omega arith)
      (go lines false (may_skip line) (bank_behind line known) (next p) later m c (λ e. absurd (cc)) fits.2 stand.1 grants.1 at
      (subst (λ k. Banked k c) (sym same) banked) told)
  go (line ∷ lines) false behind known p later m c pending fits stand grants at banked told =
      let glue = glue_part (is_glue line) behind (moves_bank line) fits.0 in
      let count : suc (length lines + m) ≡ suc (length lines) + m = omega arith in
      let rest = puts_of (skips line c) lines (ran line c) later in
      let there = line_place line c glue ∙ ap (λ q. if skips line c then next (next q) else next q) at in
      let told_on = go lines (skips line c) (may_skip line) (bank_behind line known) (next p) later m (ran line c) (only_skips line c) fits.2 stand.1 grants.1 there
      (banked_behind line known c glue banked) told in
      subst (λ n. Tells program G Q (cons_option (did line c).port rest) n c) count (inr (λ d r.
      let here : d.pc ≡ p = ap (λ (x : Chip). x.pc) r.only ∙ at in (
        did line d,
        own_is program d (instr_of line) (subst (λ q. Is program q (instr_of line)) (sym here) stand.0) ∙ line_is known line d glue (banked_stays known c d r banked) fits.1,
        grants.0 d here stand.0,
        rest,
        ap (λ put. cons_option put rest) (sym (put_alone line glue c d r)),
        tells_moves program G Q stays rest (length lines + m) (ran line c) (ran line d) (ran_alone line glue c d r) told_on,
      )))

  -- Lines that stand from the program counter on come to what they leave, in as many steps as they are at most, and put what they
  -- put; and there the code goes on.
  pub straight_then : (lines : List Line) (known : BankBits) (p : ℕ) (later : List PortWrite) (m : ℕ) (c : Chip)
      → Fits false known lines → StandFrom program p (map instr_of lines) → GrantsAll program G p lines → c.pc ≡ p → Banked known c
      → Tells program G Q later m (ran_all false lines c) → Tells program G Q (puts_of false lines c later) (length lines + m) c
  straight_then lines known p later m c fits stand grants at banked told = go lines false false known p later m c (λ e. e) fits stand grants at banked told

  pub straight : (lines : List Line) (known : BankBits) (p : ℕ) (c : Chip)
      → Fits false known lines → StandFrom program p (map instr_of lines) → GrantsAll program G p lines → c.pc ≡ p → Banked known c
      → Q (ran_all false lines c) → Tells program G Q (puts_of false lines c []) (length lines) c
  straight lines known p c fits stand grants at banked q =
      let count : length lines + 0 ≡ length lines = omega arith in
      subst (λ n. Tells program G Q (puts_of false lines c []) n c) count (straight_then lines known p [] 0 c fits stand grants at banked (refl, q))

-- A line is a skip instruction where it may skip, so lines that fit end in none.
item_skips : (line : Line) → skips_item (item_of line) ≡ may_skip line
item_skips (Bit true p b) = refl
item_skips (Bit false p b) = refl
item_skips (Skip true p b) = refl
item_skips (Skip false p b) = refl
item_skips _ = refl

pub ends_well : (behind : Bool) (known : BankBits) (lines : List Line) → Fits behind known lines → ends_skipping behind (map item_of lines) ≡ false
ends_well behind known [] fits = fits
ends_well behind known (line ∷ lines) fits =
    ap (λ b. ends_skipping b (map item_of lines)) (item_skips line) ∙ ends_well (may_skip line) (bank_behind line known) lines fits.2

-- Lines that stand as items before others stand as instructions, and the others behind them.
items_of : (lines : List Line) → map item_of lines ≡ map Ins (map instr_of lines)
items_of [] = refl
items_of (line ∷ lines) = ap (λ items. item_of line ∷ items) (items_of lines)

pub words_of_lines : (paged : Bool) (lines : List Line) → words_in paged (map item_of lines) ≡ length lines
words_of_lines paged [] = refl
words_of_lines paged (line ∷ lines) = let rest = words_of_lines paged lines in omega (arith, rest)

pub place-behind : (p : ℕ) (lines : List Line) → p < 8192 → place_behind p lines ≡ (p + length lines) % 8192
place-behind p [] below = omega arith
place-behind p (line ∷ lines) below =
    let onward : (next p + length lines) % 8192 ≡ (p + suc (length lines)) % 8192 = omega arith in place-behind (next p) lines (omega arith) ∙ onward

pub lines_stand : (paged : Bool) (program marks : ℕ → ℕ) (p q : ℕ) (known : BankBits) (lines : List Line) (items : List Item)
    → LinesStand paged program marks p q known lines items
lines_stand paged program marks p q known lines items below fits stands =
    let parts = stands-parts paged program marks p q (map item_of lines) items below (ends_well false known lines fits) stands in
    let there : (p + words_in paged (map item_of lines)) % 8192 ≡ place_behind p lines =
    ap (λ n. (p + n) % 8192) (words_of_lines paged lines) ∙ sym (place-behind p lines below) in (
      stand_of_items paged program marks p ((p + words_in paged (map item_of lines)) % 8192) (map instr_of lines)
          (subst (λ xs. Stands paged program marks p xs ((p + words_in paged (map item_of lines)) % 8192)) (items_of lines) parts.0),
      subst (λ r. Stands paged program marks r items q) there parts.1,
    )

-- Lines end at the place behind them.
pub ran_place : (lines : List Line) (skipped behind : Bool) (known : BankBits) (p : ℕ) (c : Chip) → (skipped ≡ true → behind ≡ true) → Fits behind known lines
    → c.pc ≡ (if skipped then next p else p) → (ran_all skipped lines c).pc ≡ place_behind p lines
ran_place [] true behind known p c pending fits at = absurd (let held = pending refl in let none : behind ≡ false = fits in cc)
ran_place [] false behind known p c pending fits at = at
ran_place (line ∷ lines) true behind known p c pending fits at =
    ran_place lines false (may_skip line) (bank_behind line known) (next p) c (λ e. absurd (cc)) fits.2 at
ran_place (line ∷ lines) false behind known p c pending fits at =
    let glue = glue_part (is_glue line) behind (moves_bank line) fits.0 in
    ran_place lines (skips line c) (may_skip line) (bank_behind line known) (next p) (ran line c) (only_skips line c) fits.2
    (line_place line c glue ∙ ap (λ q. if skips line c then next (next q) else next q) at)

-- In the bank behind them.
pub banked_ends : (lines : List Line) (skipped behind : Bool) (known : BankBits) (c : Chip) → (skipped ≡ true → behind ≡ true) → Fits behind known lines
    → Banked known c → Banked (bank_behind_all lines known) (ran_all skipped lines c)
banked_ends [] skipped behind known c pending fits banked = banked
banked_ends (line ∷ lines) true behind known c pending fits banked =
    let same = same_bank line known (bank_part (is_glue line) behind (moves_bank line) fits.0 (pending refl)) in
    banked_ends lines false (may_skip line) (bank_behind line known) c (λ e. absurd (cc)) fits.2 (subst (λ k. Banked k c) (sym same) banked)
banked_ends (line ∷ lines) false behind known c pending fits banked =
    let glue = glue_part (is_glue line) behind (moves_bank line) fits.0 in
    banked_ends lines (skips line c) (may_skip line) (bank_behind line known) (ran line c) (only_skips line c) fits.2 (banked_behind line known c glue banked)
