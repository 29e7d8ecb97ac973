-- How many lines small pieces of glue have, and that their constants and bits are in range.
use Rattle.std.proofs.Common.{ℕ, ◌+◌, ◌/◌, ◌%◌, ◌<◌, ◌≤◌, ◌==◌, Bool, true, false, if◌then◌else◌, Option, Some, None, List, [], ◌∷◌, ◌++◌, length, refl, subst, arith, length-append, lit<}
use Rattle.std.specs.List.{AllByRecursion}
use Rattle.std.specs.Option.{ForSome}
use Rattle.std.proofs.lemmas.Option.{none-some, same_Some}
use Rattle.pic_isa.specs.declared.sources.Source.{Source}
use Rattle.pic_regs.specs.declared.places.Place.{Place}
use Rattle.pic_regs.specs.declared.places.Place.TheVariants as place
use Rattle.pic_regs.specs.Bytes.{bit, bits, is_zero}
use Rattle.pic_regs.specs.Places.{reg_of}
use Rattle.code_steps.specs.declared.banks.Bank.{Bank}
use Rattle.code_acts.specs.Codes.{high_bit, low_bit, moved}
use Rattle.glue_steps.specs.declared.lines.Line.{Line}
use Rattle.glue_steps.specs.declared.lines.Line.TheVariants.{Bit, Clear, Constant, Load, Lower, Skip, Store}
use Rattle.glue_steps.specs.Lines.{LineFits}
use Rattle.glue_parts.specs.Places.{bank_of}
use Rattle.glue_parts.specs.Pieces.{bank_of_flag, bit_lines, is_known, knows, lines_for, lines_of_change, lines_to_change, lines_to_choose, lines_to_copy, lines_to_load, lines_to_lower, lines_to_skip, lines_to_store, lines_to_write, only_bit, writing}
use Rattle.isr_vector.proofs.ListLaws.{all_both}

-- At most so many lines, whose constants are bytes and whose bits are below 8.
pub record Small (most : ℕ) (lines : List Line) : Type 0 where
  pub count : length lines ≤ most
  pub fit : AllByRecursion LineFits lines

pub small_wider : (most more : ℕ) (lines : List Line) → most ≤ more → Small most lines → Small more lines
small_wider most more lines wider small = let count = small.count in record { count = omega (arith, count, wider); fit = small.fit }

pub small_none : (most : ℕ) → Small most []
small_none most = record { count = omega arith; fit = tt }

pub small_one : (line : Line) → LineFits line → Small 1 (line ∷ [])
small_one line fit = record { count = omega arith; fit = (fit, tt) }

pub small_both : (m n : ℕ) (xs ys : List Line) → Small m xs → Small n ys → Small (m + n) (xs ++ ys)
small_both m n xs ys first second =
    let left = first.count in
    let right = second.count in
    let both = length-append xs ys in
    record { count = omega (arith, left, right, both); fit = all_both LineFits xs ys first.fit second.fit }

-- The choice of a bank, where there is one to choose, and lines behind it.
small_bit : (b : ℕ) (v there : Bool) → b < 8 → Small 1 (if there then [] else Bit v place.Status b ∷ [])
small_bit b v true low = small_none 1
small_bit b v false low = small_one (Bit v place.Status b) low

small_choice : (bank : Bank) (k : ℕ) (there first : Bool)
    → Small 2 (if there then [] else if first then Clear place.Status ∷ [] else bit_lines 5 (low_bit bank) (k % 2 == 1) ++ bit_lines 6 (high_bit bank) (k / 2 == 1))
small_choice bank k true first = small_none 2
small_choice bank k false true = small_wider 1 2 (Clear place.Status ∷ []) (omega arith) (small_one (Clear place.Status) tt)
small_choice bank k false false =
    small_both 1 1 (bit_lines 5 (low_bit bank) (k % 2 == 1)) (bit_lines 6 (high_bit bank) (k / 2 == 1))
    (small_bit 5 (k % 2 == 1) (knows (low_bit bank) (k % 2 == 1)) (lit< tt)) (small_bit 6 (k / 2 == 1) (knows (high_bit bank) (k / 2 == 1)) (lit< tt))

pub small_to_choose : (bank : Bank) (k : ℕ) → Small 2 (lines_to_choose bank k)
small_to_choose bank k = small_choice bank k (is_known bank k) (k == 0)

small_for : (bank : Bank) (o : Option ℕ) → Small 2 (lines_for bank o)
small_for bank None = small_none 2
small_for bank (Some k) = small_to_choose bank k

small_then : (bank : Bank) (o : Option ℕ) (most : ℕ) (lines : List Line) → Small most lines → Small (2 + most) (lines_for bank o ++ lines)
small_then bank o most lines small = small_both 2 most (lines_for bank o) lines (small_for bank o) small

-- A byte is written or copied.
small_writing : (p : Place) (byte : ℕ) (zero : Bool) → byte < 256 → Small 2 (if zero then Clear p ∷ [] else Constant byte ∷ Store p ∷ [])
small_writing p byte true low = small_wider 1 2 (Clear p ∷ []) (omega arith) (small_one (Clear p) tt)
small_writing p byte false low = record { count = omega arith; fit = (low, (tt, tt)) }

pub small_to_write : (bank : Bank) (p : Place) (byte : ℕ) → byte < 256 → Small 4 (lines_to_write bank p byte)
small_to_write bank p byte low = small_then bank (bank_of (reg_of p)) 2 (writing p byte) (small_writing p byte (is_zero (bits byte)) low)

pub small_to_copy : (bank : Bank) (from to : Place) → Small 6 (lines_to_copy bank from to)
small_to_copy bank from to =
    let middle = moved bank (bank_of (reg_of from)) in
    small_both 3 3 (lines_to_load bank from) (lines_to_store middle to)
    (small_then bank (bank_of (reg_of from)) 1 (Load from ∷ []) (small_one (Load from) tt)) (small_then middle (bank_of (reg_of to)) 1 (Store to ∷ []) (small_one (Store to) tt))

-- Bits of it change: the one that changes alone is below 8.
low_if : (here : Bool) (b : ℕ) (o : Option ℕ) → b < 8 → ForSome o (λ k. k < 8) → ForSome (if here then Some b else o) (λ k. k < 8)
low_if true b o low later k is = subst (λ n. n < 8) (same_Some b k is) low
low_if false b o low later k is = later k is

only-low : (byte : ℕ) → ForSome (only_bit byte) (λ k. k < 8)
only-low byte =
    low_if (byte == 0x01) 0 _ (lit< tt) (low_if (byte == 0x02) 1 _ (lit< tt) (low_if (byte == 0x04) 2 _ (lit< tt) (low_if (byte == 0x08) 3 _ (lit< tt)
    (low_if (byte == 0x10) 4 _ (lit< tt) (low_if (byte == 0x20) 5 _ (lit< tt) (low_if (byte == 0x40) 6 _ (lit< tt) (low_if (byte == 0x80) 7 None (lit< tt) (λ k is. absurd (none-some k is)))))))))

small_of_change : (o : Option ℕ) (bank : Bank) (p : Place) (byte : ℕ) → byte < 256 → ForSome o (λ k. k < 8) → Small 4 (lines_of_change o bank p byte)
small_of_change None bank p byte low only = small_to_write bank p byte low
small_of_change (Some b) bank p byte low only =
    small_wider 3 4 (lines_of_change (Some b) bank p byte) (omega arith)
    (small_then bank (bank_of (reg_of p)) 1 (Bit (bit b (bits byte)) p b ∷ []) (small_one (Bit (bit b (bits byte)) p b) (only b refl)))

small_change : (bank : Bank) (p : Place) (changing byte : ℕ) (none : Bool) → byte < 256 → Small 4 (if none then [] else lines_of_change (only_bit changing) bank p byte)
small_change bank p changing byte true low = small_none 4
small_change bank p changing byte false low = small_of_change (only_bit changing) bank p byte low (only-low changing)

pub small_to_change : (bank : Bank) (p : Place) (changing byte : ℕ) → byte < 256 → Small 4 (lines_to_change bank p changing byte)
small_to_change bank p changing byte low = small_change bank p changing byte (is_zero (bits changing)) low

-- A bit is tested; a flag is cleared.
pub small_to_skip : (bank : Bank) (p : Place) (b : ℕ) → b < 8 → Small 3 (lines_to_skip bank p b)
small_to_skip bank p b low = small_then bank (bank_of (reg_of p)) 1 (Skip false p b ∷ []) (small_one (Skip false p b) low)

pub small_to_lower : (bank : Bank) (source : Source) → Small 3 (lines_to_lower bank source)
small_to_lower bank source = small_then bank (bank_of_flag source) 1 (Lower source ∷ []) (small_one (Lower source) tt)
