-- How many lines small pieces of glue have, that their registers are in range, and that their steps are steps of glue.
use Rattle.std.proofs.Common.{◌≡◌, ℕ, ◌+◌, ◌/◌, ◌%◌, ◌≤◌, Bool, true, false, ◌==◌, if◌then◌else◌, refl, Option, Some, None, List, [], ◌∷◌, ◌++◌, length, arith, length-append}
use Rattle.std.specs.List.{AllByRecursion}
use Rattle.pic_regs.specs.declared.places.Place.{Place}
use Rattle.pic_regs.specs.declared.places.Place.TheVariants as place
use Rattle.pic_regs.specs.Bytes.{bits, bit, is_zero}
use Rattle.pic_regs.specs.Places.{IsPlace, reg_of}
use Rattle.code_steps.specs.declared.banks.Bank.{Bank}
use Rattle.code_acts.specs.Codes.{low_bit, high_bit}
use Rattle.glue_steps.specs.declared.lines.Line.{Line}
use Rattle.glue_steps.specs.declared.lines.Line.TheVariants.{Constant, Store, Clear, Bit}
use Rattle.glue_steps.specs.Lines.{LineNamed}
use Rattle.glue_steps.specs.Stretches.{may_skip}
use Rattle.glue_steps.specs.Still.{MayWrite, StillLines, is_glue_reg, is_still}
use Rattle.glue_parts.specs.Places.{bank_of}
use Rattle.glue_parts.specs.Pieces.{knows, bit_lines, is_known, lines_to_choose, lines_for, writing, lines_to_write, only_bit, lines_of_change, lines_to_change}
use Rattle.isr_vector.proofs.ListLaws.{all_both}

module _ (May : ℕ → Type 0) where
  -- At most so many lines, whose registers are in range, and whose steps are steps of glue that write what they may.
  pub record Few (most : ℕ) (lines : List Line) : Type 0 where
    pub count : length lines ≤ most
    pub named : AllByRecursion LineNamed lines
    pub still : StillLines May lines
    pub plain : AllByRecursion (λ line. may_skip line ≡ false) lines

  still_both : (xs ys : List Line) → StillLines May xs → StillLines May ys → StillLines May (xs ++ ys)
  still_both [] ys first second = second
  still_both (line ∷ xs) ys first second = (first.0, first.1, still_both xs ys first.2 second)

  pub few_both : (m n : ℕ) (xs ys : List Line) → Few m xs → Few n ys → Few (m + n) (xs ++ ys)
  few_both m n xs ys first second =
      let left = first.count in
      let right = second.count in
      record { count = omega (arith, left, right, length-append xs ys); named = all_both LineNamed xs ys first.named second.named; still = still_both xs ys first.still second.still; plain = all_both (λ line. may_skip line ≡ false) xs ys first.plain second.plain }

  pub few_none : (most : ℕ) → Few most []
  few_none most = record { count = omega arith; named = tt; still = tt; plain = tt }

  -- A register that a line of glue may write.
  pub record Target (p : Place) : Type 0 where
    pub in_range : IsPlace p
    pub glue : is_glue_reg (reg_of p) ≡ true
    pub may : MayWrite May (reg_of p)

  pub few_one : (line : Line) → LineNamed line → StillLines May (line ∷ []) → may_skip line ≡ false → Few 1 (line ∷ [])
  few_one line named still plain = record { count = omega arith; named = (named, tt); still = still; plain = (plain, tt) }

  few_bit : (b : ℕ) (v there : Bool) → Few 1 (if there then [] else Bit v place.Status b ∷ [])
  few_bit b v true = few_none 1
  few_bit b v false = few_one (Bit v place.Status b) tt (refl, tt, tt) refl

  few_if : (there first : Bool) (xs : List Line) → Few 2 xs → Few 2 (if there then [] else if first then Clear place.Status ∷ [] else xs)
  few_if true first xs few = few_none 2
  few_if false true xs few = few_both 1 1 (Clear place.Status ∷ []) [] (few_one (Clear place.Status) tt (refl, tt, tt) refl) (few_none 1)
  few_if false false xs few = few

  pub few_to_choose : (bank : Bank) (k : ℕ) → Few 2 (lines_to_choose bank k)
  few_to_choose bank k =
      few_if (is_known bank k) (k == 0) (bit_lines 5 (low_bit bank) (k % 2 == 1) ++ bit_lines 6 (high_bit bank) (k / 2 == 1))
      (few_both 1 1 (bit_lines 5 (low_bit bank) (k % 2 == 1)) (bit_lines 6 (high_bit bank) (k / 2 == 1))
      (few_bit 5 (k % 2 == 1) (knows (low_bit bank) (k % 2 == 1))) (few_bit 6 (k / 2 == 1) (knows (high_bit bank) (k / 2 == 1))))

  few_for : (bank : Bank) (o : Option ℕ) → Few 2 (lines_for bank o)
  few_for bank None = few_none 2
  few_for bank (Some k) = few_to_choose bank k

  few_writing : (p : Place) (byte : ℕ) (z : Bool) → Target p → Few 2 (if z then Clear p ∷ [] else Constant byte ∷ Store p ∷ [])
  few_writing p byte true target = few_both 1 1 (Clear p ∷ []) [] (few_one (Clear p) target.in_range (target.glue, target.may, tt) refl) (few_none 1)
  few_writing p byte false target =
      few_both 1 1 (Constant byte ∷ []) (Store p ∷ []) (few_one (Constant byte) tt (refl, tt, tt) refl) (few_one (Store p) target.in_range (target.glue, target.may, tt) refl)

  pub few_to_write : (bank : Bank) (p : Place) (byte : ℕ) → Target p → Few 4 (lines_to_write bank p byte)
  few_to_write bank p byte target =
      few_both 2 2 (lines_for bank (bank_of (reg_of p))) (writing p byte) (few_for bank (bank_of (reg_of p))) (few_writing p byte (is_zero (bits byte)) target)

  few_of_change : (o : Option ℕ) (bank : Bank) (p : Place) (byte : ℕ) → Target p → ((v : Bool) (b : ℕ) → is_still (Bit v p b) ≡ true) → Few 4 (lines_of_change o bank p byte)
  few_of_change None bank p byte target still = few_to_write bank p byte target
  few_of_change (Some b) bank p byte target still =
      few_both 2 2 (lines_for bank (bank_of (reg_of p))) (Bit (bit b (bits byte)) p b ∷ []) (few_for bank (bank_of (reg_of p)))
      (few_both 1 1 (Bit (bit b (bits byte)) p b ∷ []) [] (few_one (Bit (bit b (bits byte)) p b) target.in_range (still (bit b (bits byte)) b, target.may, tt) refl) (few_none 1))

  few_change_if : (bank : Bank) (p : Place) (changing byte : ℕ) (z : Bool) → (z ≡ false → Target p) → ((v : Bool) (b : ℕ) → is_still (Bit v p b) ≡ true)
      → Few 4 (if z then [] else lines_of_change (only_bit changing) bank p byte)
  few_change_if bank p changing byte true target still = few_none 4
  few_change_if bank p changing byte false target still = few_of_change (only_bit changing) bank p byte (target refl) still

  -- Where no bit changes, the register need not be one that may be written.
  pub few_to_change : (bank : Bank) (p : Place) (changing byte : ℕ) → (is_zero (bits changing) ≡ false → Target p) → ((v : Bool) (b : ℕ) → is_still (Bit v p b) ≡ true)
      → Few 4 (lines_to_change bank p changing byte)
  few_to_change bank p changing byte target still = few_change_if bank p changing byte (is_zero (bits changing)) target still
