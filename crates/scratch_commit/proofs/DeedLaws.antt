-- Deeds one after another, and that their lines name registers where they do.
use Rattle.std.proofs.Common.{◌≡◌, ℕ, ◌/◌, ◌%◌, ◌<◌, Bool, true, false, ◌==◌, if◌then◌else◌, Option, Some, None, List, [], ◌∷◌, ◌++◌, refl, sym, ap, ◌∙◌, append_assoc}
use Rattle.std.proofs.lemmas.List.{append-nil as append_nil}
use Rattle.std.specs.List.{AllByRecursion}
use Rattle.pic_isa.specs.declared.sources.Source.{Source}
use Rattle.pic_regs.specs.declared.places.Place.{Place}
use Rattle.pic_regs.specs.declared.places.Place.TheVariants as place
use Rattle.pic_regs.specs.Bytes.{bits, bit, is_zero}
use Rattle.pic_regs.specs.Places.{IsPlace, reg_of}
use Rattle.code_steps.specs.declared.banks.Bank.{Bank}
use Rattle.code_acts.specs.Codes.{low_bit, high_bit, moved}
use Rattle.glue_steps.specs.declared.lines.Line.{Line}
use Rattle.glue_steps.specs.declared.lines.Line.TheVariants.{Constant, Load, Store, Clear, Bit, Lower, Skip, Nothing}
use Rattle.glue_steps.specs.Lines.{LineNamed}
use Rattle.glue_parts.specs.declared.stretches.Stretch.{Stretch}
use Rattle.glue_parts.specs.Places.{bank_of}
use Rattle.glue_parts.specs.Pieces.{Adds, knows, bit_lines, is_known, lines_to_choose, lines_for, writing, lines_to_write, lines_to_change, lines_of_change, only_bit, bank_of_flag}
use Rattle.scratch_commit.specs.Deeds.{Deed, Change, Choose, Copy, LowerFlag, Make, Pause, SetIf, Write, DeedNamed, DoesMore, IsStretch, bank_behind, bank_past, lines_in, lines_of}

-- Some deeds and then others.
pub lines_then : (bank : Bank) (xs ys : List Deed) → lines_in bank (xs ++ ys) ≡ lines_in bank xs ++ lines_in (bank_past bank xs) ys
lines_then bank [] ys = refl
lines_then bank (deed ∷ xs) ys =
    ap (λ lines. lines_of bank deed ++ lines) (lines_then (bank_behind bank deed) xs ys)
    ∙ sym (append_assoc (lines_of bank deed) (lines_in (bank_behind bank deed) xs) (lines_in (bank_past (bank_behind bank deed) xs) ys))

pub bank_then : (bank : Bank) (xs ys : List Deed) → bank_past bank (xs ++ ys) ≡ bank_past (bank_past bank xs) ys
bank_then bank [] ys = refl
bank_then bank (deed ∷ xs) ys = bank_then (bank_behind bank deed) xs ys

-- A stretch to which one deed is added, or some and then others.
pub does_one : (old new : Stretch) (deed : Deed) → Adds old (lines_of old.bank deed) (bank_behind old.bank deed) new → DoesMore old (deed ∷ []) new
does_one old new deed adds = record {
  lines = adds.lines ∙ ap (λ lines. old.lines.items ++ lines) (sym (append_nil (lines_of old.bank deed)));
  bank = adds.bank;
}

pub does_both : (old middle new : Stretch) (xs ys : List Deed) → DoesMore old xs middle → DoesMore middle ys new → DoesMore old (xs ++ ys) new
does_both old middle new xs ys first second = record {
  lines = second.lines ∙ ap (λ lines. lines ++ lines_in middle.bank ys) first.lines
      ∙ append_assoc old.lines.items (lines_in old.bank xs) (lines_in middle.bank ys)
      ∙ ap (λ bank. old.lines.items ++ (lines_in old.bank xs ++ lines_in bank ys)) first.bank
      ∙ ap (λ lines. old.lines.items ++ lines) (sym (lines_then old.bank xs ys));
  bank = second.bank ∙ ap (λ bank. bank_past bank ys) first.bank ∙ sym (bank_then old.bank xs ys);
}

-- A stretch that is begun without lines.
pub is_stretch : (bank : Bank) (deeds : List Deed) (old new : Stretch) → old.lines.items ≡ [] → old.bank ≡ bank → DoesMore old deeds new → IsStretch bank deeds new
is_stretch bank deeds old new none begun does = record {
  lines = does.lines ∙ ap (λ lines. lines ++ lines_in old.bank deeds) none ∙ ap (λ b. lines_in b deeds) begun;
  behind = does.bank ∙ ap (λ b. bank_past b deeds) begun;
}

-- What holds of all of some and of others holds of all.
pub all_both : {A : Type 0} (P : A → Type 0) (xs ys : List A) → AllByRecursion P xs → AllByRecursion P ys → AllByRecursion P (xs ++ ys)
all_both P [] ys first second = second
all_both P (x ∷ xs) ys first second = (first.0, all_both P xs ys first.1 second)

-- The choice of a bank names STATUS alone.
named_bit : (b : ℕ) (v there : Bool) → AllByRecursion LineNamed (if there then [] else Bit v place.Status b ∷ [])
named_bit b v true = tt
named_bit b v false = (tt, tt)

named_by : (bank : Bank) (k : ℕ) (there first : Bool)
    → AllByRecursion LineNamed (if there then [] else if first then Clear place.Status ∷ [] else bit_lines 5 (low_bit bank) (k % 2 == 1) ++ bit_lines 6 (high_bit bank) (k / 2 == 1))
named_by bank k true first = tt
named_by bank k false true = (tt, tt)
named_by bank k false false =
    all_both LineNamed (bit_lines 5 (low_bit bank) (k % 2 == 1)) (bit_lines 6 (high_bit bank) (k / 2 == 1))
    (named_bit 5 (k % 2 == 1) (knows (low_bit bank) (k % 2 == 1))) (named_bit 6 (k / 2 == 1) (knows (high_bit bank) (k / 2 == 1)))

named_choice : (bank : Bank) (k : ℕ) → AllByRecursion LineNamed (lines_to_choose bank k)
named_choice bank k = named_by bank k (is_known bank k) (k == 0)

named_for : (bank : Bank) (o : Option ℕ) → AllByRecursion LineNamed (lines_for bank o)
named_for bank None = tt
named_for bank (Some k) = named_choice bank k

-- So does each deed where it names places.
named_then : (bank : Bank) (o : Option ℕ) (lines : List Line) → AllByRecursion LineNamed lines → AllByRecursion LineNamed (lines_for bank o ++ lines)
named_then bank o lines named = all_both LineNamed (lines_for bank o) lines (named_for bank o) named

named_writing : (p : Place) (byte : ℕ) (none : Bool) → IsPlace p → AllByRecursion LineNamed (if none then Clear p ∷ [] else Constant byte ∷ Store p ∷ [])
named_writing p byte true is = (is, tt)
named_writing p byte false is = (tt, (is, tt))

named_write : (bank : Bank) (p : Place) (byte : ℕ) → IsPlace p → AllByRecursion LineNamed (lines_to_write bank p byte)
named_write bank p byte is = named_then bank (bank_of (reg_of p)) (writing p byte) (named_writing p byte (is_zero (bits byte)) is)

named_change : (bank : Bank) (p : Place) (byte : ℕ) (o : Option ℕ) (none : Bool) → IsPlace p
    → AllByRecursion LineNamed (if none then [] else lines_of_change o bank p byte)
named_change bank p byte o true is = tt
named_change bank p byte None false is = named_write bank p byte is
named_change bank p byte (Some b) false is = named_then bank (bank_of (reg_of p)) (Bit (bit b (bits byte)) p b ∷ []) (is, tt)

named_deed : (bank : Bank) (deed : Deed) → DeedNamed deed → AllByRecursion LineNamed (lines_of bank deed)
named_deed bank Pause named = (tt, tt)
named_deed bank (Make v p b) named = (named, tt)
named_deed bank (Choose k) named = named_choice bank k
named_deed bank (Copy from to) named =
    let middle = moved bank (bank_of (reg_of from)) in
    all_both LineNamed (lines_for bank (bank_of (reg_of from)) ++ Load from ∷ []) (lines_for middle (bank_of (reg_of to)) ++ Store to ∷ [])
    (named_then bank (bank_of (reg_of from)) (Load from ∷ []) (named.0, tt)) (named_then middle (bank_of (reg_of to)) (Store to ∷ []) (named.1, tt))
named_deed bank (Write p byte) named = named_write bank p byte named
named_deed bank (Change p changing byte) named = named_change bank p byte (only_bit changing) (is_zero (bits changing)) named
named_deed bank (LowerFlag source) named = named_then bank (bank_of_flag source) (Lower source ∷ []) (tt, tt)
named_deed bank (SetIf p b) named =
    all_both LineNamed (lines_for bank (bank_of (reg_of p)) ++ Skip false p b ∷ []) (Bit true place.Intcon b ∷ [])
    (named_then bank (bank_of (reg_of p)) (Skip false p b ∷ []) (named, tt)) (tt, tt)

pub named_in : (bank : Bank) (deeds : List Deed) → AllByRecursion DeedNamed deeds → AllByRecursion LineNamed (lines_in bank deeds)
named_in bank [] named = tt
named_in bank (deed ∷ deeds) named =
    all_both LineNamed (lines_of bank deed) (lines_in (bank_behind bank deed) deeds) (named_deed bank deed named.0) (named_in (bank_behind bank deed) deeds named.1)
