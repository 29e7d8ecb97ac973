-- Items: their words, skips and marks in parts and raised.
use Rattle.std.proofs.Common.{◌≡◌, ℕ, zero, suc, ◌+◌, ◌*◌, ◌≤◌, ◌<◌, Bool, true, false, if◌then◌else◌, List, [], ◌∷◌, ◌++◌, map, get_or, ◌==◌, ◌-◌, ap, ◌∙◌, refl, subst, arith, ◌^◌}
use Rattle.std.proofs.lemmas.Bool.{eqb-true}
use Rattle.std.specs.List.{AllByRecursion}
use Rattle.pic_isa.specs.declared.instructions.Instr.{Instr}
use Rattle.code_items.specs.declared.items.Item.{Item}
use Rattle.code_items.specs.declared.items.Item.TheVariants.{Ins, Mark, Jump}
use Rattle.code_items.specs.Items.{ItemFits, skips, ends_skipping, raised, marks_it, times, OnceEach, OnlyMarks, words_in}

-- The item at a place among raised ones.
pub get_or-raised : (up : ℕ) (items : List Item) (i : ℕ) (other : Instr) → get_or (map (raised up) items) i (Ins other) ≡ raised up (get_or items i (Ins other))
get_or-raised up [] i other = refl
get_or-raised up (item ∷ items) zero other = refl
get_or-raised up (item ∷ items) (suc i) other = get_or-raised up items i other

-- Words in parts.
pub words-append : (paged : Bool) (xs ys : List Item) → words_in paged (xs ++ ys) ≡ words_in paged xs + words_in paged ys
words-append paged [] ys = omega arith
words-append paged (x ∷ xs) ys = omega (arith, words-append paged xs ys)

pub skips-raised : (up : ℕ) (item : Item) → skips (raised up item) ≡ skips item
skips-raised up (Ins i) = refl
skips-raised up (Mark m) = refl
skips-raised up (Jump m) = refl

pub ends-append : (held : Bool) (xs ys : List Item) → ends_skipping held (xs ++ ys) ≡ ends_skipping (ends_skipping held xs) ys
ends-append held [] ys = refl
ends-append held (x ∷ xs) ys = ends-append (skips x) xs ys

-- Marks in parts and raised.
pub times-append : (m : ℕ) (xs ys : List Item) → times m (xs ++ ys) ≡ times m xs + times m ys
times-append m [] ys = omega arith
times-append m (x ∷ xs) ys = omega (arith, times-append m xs ys)

-- A mark that stands in items is one with P.
pub only-times : (P : ℕ → Type 0) (m n : ℕ) (items : List Item) → OnlyMarks P items → times m items ≡ suc n → P m
only-times P m n [] only stands = absurd (omega arith)
only-times P m n (Ins i ∷ items) only stands = only-times P m n items only (omega arith)
only-times P m n (Jump k ∷ items) only stands = only-times P m n items only (omega arith)
only-times P m n (Mark k ∷ items) only stands = by_test (only-times P m n items only.1) (k == m) refl
  where
    by_test : (times m items ≡ suc n → P m) → (b : Bool) → k == m ≡ b → P m
    by_test later true same = subst P (eqb-true k m same) only.0
    by_test later false other =
        let none : marks_it m (Mark k) ≡ 0 = ap (λ (b : Bool). if b then 1 else 0) other in
        later (omega (arith, none))

-- Each mark stands at most once in two parts that have no mark in common, where it does so in each.
pub once-both : (P Q : ℕ → Type 0) (xs ys : List Item) → ((m : ℕ) → P m → Q m → ⊥) → OnlyMarks P xs → OnlyMarks Q ys → OnceEach xs → OnceEach ys → OnceEach (xs ++ ys)
once-both P Q xs ys apart first second once_first once_second m = by_counts (times m xs) (times m ys) refl refl
  where
    by_counts : (a b : ℕ) → times m xs ≡ a → times m ys ≡ b → times m (xs ++ ys) < 2
    by_counts zero b e f = omega (arith, times-append m xs ys, once_second m)
    by_counts (suc a) zero e f = omega (arith, times-append m xs ys, once_first m)
    by_counts (suc a) (suc b) e f = absurd (apart m (only-times P m a xs first e) (only-times Q m b ys second f))

-- Fields in range in parts and raised.
pub fit-append : (xs ys : List Item) → AllByRecursion ItemFits xs → AllByRecursion ItemFits ys → AllByRecursion ItemFits (xs ++ ys)
fit-append [] ys first second = second
fit-append (x ∷ xs) ys first second = (first.0, fit-append xs ys first.1 second)
