-- Lines and the places where they stand: parts, raised marks, and intervals of addresses.
use Rattle.std.proofs.Common.{◌≡◌, ℕ, zero, suc, ◌+◌, ◌%◌, ◌≤◌, ◌<◌, ◌⊎◌, Bool, true, false, if◌then◌else◌, List, [], ◌∷◌, ◌++◌, map, ap, ap₂, ◌∙◌, sym, refl, append_assoc, arith, inl, inr}
use Rattle.std.proofs.lemmas.List.{map-append}
use Rattle.pic_isa.specs.declared.instructions.Instr.{Instr}
use Rattle.code_steps.specs.Steps.{next}
use Rattle.code_steps.specs.Ends.{Between}
use Rattle.code_items.specs.declared.items.Item.{Item}
use Rattle.code_items.specs.declared.items.Item.TheVariants.{Ins, Mark, Jump}
use Rattle.code_items.specs.Items.{is_skip, skips, ends_skipping, raised, words_of_item, words_in}
use Rattle.code_items.specs.Lines.{Line, Here, Does, PageLow, PageHigh, Goes, settings, ahead, lines_of, lines, Placed, Within}
use Rattle.code_items.proofs.ItemLaws.{skips-raised}

-- The words of lines, and the place behind them.
abbrev pub line_words : List Line → ℕ
line_words [] = 0
line_words (Here m ∷ rest) = line_words rest
line_words (_ ∷ rest) = 1 + line_words rest

abbrev pub ending : ℕ → List Line → ℕ
ending p [] = p
ending p (Here m ∷ rest) = ending p rest
ending p (_ ∷ rest) = ending (next p) rest

pub words-lines_append : (xs ys : List Line) → line_words (xs ++ ys) ≡ line_words xs + line_words ys
words-lines_append [] ys = omega arith
words-lines_append (Here m ∷ xs) ys = words-lines_append xs ys
words-lines_append (Does i ∷ xs) ys = omega (arith, words-lines_append xs ys)
words-lines_append (PageLow m ∷ xs) ys = omega (arith, words-lines_append xs ys)
words-lines_append (PageHigh m ∷ xs) ys = omega (arith, words-lines_append xs ys)
words-lines_append (Goes m ∷ xs) ys = omega (arith, words-lines_append xs ys)

-- The place behind lines is as many addresses on as they have words.
onward : (p n : ℕ) → (next p + n) % 8192 ≡ (p + (1 + n)) % 8192
onward p n = omega arith

pub ending-linear : (p : ℕ) (xs : List Line) → p < 8192 → ending p xs ≡ (p + line_words xs) % 8192
ending-linear p [] below = omega arith
ending-linear p (Here m ∷ xs) below = ending-linear p xs below
ending-linear p (Does i ∷ xs) below = ending-linear (next p) xs (omega arith) ∙ onward p (line_words xs)
ending-linear p (PageLow m ∷ xs) below = ending-linear (next p) xs (omega arith) ∙ onward p (line_words xs)
ending-linear p (PageHigh m ∷ xs) below = ending-linear (next p) xs (omega arith) ∙ onward p (line_words xs)
ending-linear p (Goes m ∷ xs) below = ending-linear (next p) xs (omega arith) ∙ onward p (line_words xs)

module _ (program marks : ℕ → ℕ) where
  -- Lines in parts, and put together.
  pub placed-parts : (p q : ℕ) (xs ys : List Line) → Placed program marks p (xs ++ ys) q → Placed program marks p xs (ending p xs) × Placed program marks (ending p xs) ys q
  placed-parts p q [] ys placed = (refl, placed)
  placed-parts p q (Here m ∷ xs) ys placed = let rest = placed-parts p q xs ys placed.1 in ((placed.0, rest.0), rest.1)
  placed-parts p q (Does i ∷ xs) ys placed = let rest = placed-parts (next p) q xs ys placed.1 in ((placed.0, rest.0), rest.1)
  placed-parts p q (PageLow m ∷ xs) ys placed = let rest = placed-parts (next p) q xs ys placed.1 in ((placed.0, rest.0), rest.1)
  placed-parts p q (PageHigh m ∷ xs) ys placed = let rest = placed-parts (next p) q xs ys placed.1 in ((placed.0, rest.0), rest.1)
  placed-parts p q (Goes m ∷ xs) ys placed = let rest = placed-parts (next p) q xs ys placed.2 in ((placed.0, placed.1, rest.0), rest.1)

-- The settings of a jump behind a skip instruction are counted with the jump and stand before the skip instruction.
abbrev owed : (held paged : Bool) → List Item → ℕ
owed held paged items = if held then line_words (ahead paged items) else 0

jump_words : (paged : Bool) (m : ℕ) → 1 + line_words (settings paged m) ≡ words_of_item paged (Jump m)
jump_words true m = refl
jump_words false m = refl

abbrev nothing : Bool → ℕ
nothing b = if b then 0 else 0

owed_nothing : (b : Bool) → nothing b ≡ 0
owed_nothing true = refl
owed_nothing false = refl

ins-words : (skip paged : Bool) (i : Instr) (items : List Item) → line_words (lines skip paged items) + owed skip paged items ≡ words_in paged items
    → line_words ((if skip then ahead paged items ++ Does i ∷ [] else Does i ∷ []) ++ lines skip paged items) ≡ 1 + words_in paged items
ins-words true paged i items rest =
    words-lines_append (ahead paged items ++ Does i ∷ []) (lines true paged items)
    ∙ omega (arith, words-lines_append (ahead paged items) (Does i ∷ []), rest)
ins-words false paged i items rest = omega (arith, rest)

words-owed : (held paged : Bool) (items : List Item) → line_words (lines held paged items) + owed held paged items ≡ words_in paged items
words-owed held paged [] = omega (arith, owed_nothing held)
words-owed held paged (Ins i ∷ items) = omega (arith, ins-words (is_skip i) paged i items (words-owed (is_skip i) paged items), owed_nothing held)
words-owed held paged (Mark m ∷ items) = omega (arith, words-owed false paged items, owed_nothing held)
words-owed true paged (Jump m ∷ items) = omega (arith, words-owed false paged items, jump_words paged m)
words-owed false paged (Jump m ∷ items) =
    omega (arith, words-lines_append (settings paged m ++ Goes m ∷ []) (lines false paged items), words-lines_append (settings paged m) (Goes m ∷ []), words-owed false paged items, jump_words paged m)

-- The lines of items have the items' words.
pub words-lines : (paged : Bool) (items : List Item) → line_words (lines false paged items) ≡ words_in paged items
words-lines paged items = omega (arith, words-owed false paged items)

-- Lines in parts, where the first part ends in no skip instruction.
ahead-append : (paged : Bool) (y : Item) (xs ys : List Item) → ahead paged (y ∷ xs ++ ys) ≡ ahead paged (y ∷ xs)
ahead-append paged (Ins i) xs ys = refl
ahead-append paged (Mark m) xs ys = refl
ahead-append paged (Jump m) xs ys = refl

no_skip : (held paged : Bool) (x : Item) (coming : List Line) → skips x ≡ false → lines_of held paged x coming ≡ lines_of held paged x []
no_skip held paged (Ins i) coming none = (λ j. if none j then coming ++ Does i ∷ [] else Does i ∷ []) ∙ sym (λ j. if none j then [] ++ Does i ∷ [] else Does i ∷ [])
no_skip held paged (Mark m) coming none = refl
no_skip held paged (Jump m) coming none = refl

lines_of-append : (held paged : Bool) (x : Item) (xs ys : List Item) → ends_skipping (skips x) xs ≡ false
    → lines_of held paged x (ahead paged (xs ++ ys)) ≡ lines_of held paged x (ahead paged xs)
lines_of-append held paged x [] ys ends = no_skip held paged x (ahead paged ys) ends
lines_of-append held paged x (y ∷ xs) ys ends = ap (lines_of held paged x) (ahead-append paged y xs ys)

pub lines-append : (held paged : Bool) (xs ys : List Item) → ends_skipping held xs ≡ false → lines held paged (xs ++ ys) ≡ lines held paged xs ++ lines false paged ys
lines-append held paged [] ys ends = ap (λ b. lines b paged ys) ends
lines-append held paged (x ∷ xs) ys ends =
    ap₂ (λ a b. a ++ b) (lines_of-append held paged x xs ys ends) (lines-append (skips x) paged xs ys ends)
    ∙ sym (append_assoc (lines_of held paged x (ahead paged xs)) (lines (skips x) paged xs) (lines false paged ys))

-- Raised items as lines.
abbrev line_raised : ℕ → Line → Line
line_raised up (Here m) = Here (m + up)
line_raised up (Does i) = Does i
line_raised up (PageLow m) = PageLow (m + up)
line_raised up (PageHigh m) = PageHigh (m + up)
line_raised up (Goes m) = Goes (m + up)

settings-raised : (up : ℕ) (paged : Bool) (m : ℕ) → settings paged (m + up) ≡ map (line_raised up) (settings paged m)
settings-raised up true m = refl
settings-raised up false m = refl

ahead-raised : (up : ℕ) (paged : Bool) (items : List Item) → ahead paged (map (raised up) items) ≡ map (line_raised up) (ahead paged items)
ahead-raised up paged [] = refl
ahead-raised up paged (Ins i ∷ items) = refl
ahead-raised up paged (Mark m ∷ items) = refl
ahead-raised up paged (Jump m ∷ items) = settings-raised up paged m

ins-raised : (up : ℕ) (skip : Bool) (i : Instr) (coming : List Line)
    → (if skip then map (line_raised up) coming ++ Does i ∷ [] else Does i ∷ []) ≡ map (line_raised up) (if skip then coming ++ Does i ∷ [] else Does i ∷ [])
ins-raised up true i coming = sym (map-append (line_raised up) coming (Does i ∷ []))
ins-raised up false i coming = refl

lines_of-raised : (up : ℕ) (held paged : Bool) (item : Item) (coming : List Line)
    → lines_of held paged (raised up item) (map (line_raised up) coming) ≡ map (line_raised up) (lines_of held paged item coming)
lines_of-raised up held paged (Ins i) coming = ins-raised up (is_skip i) i coming
lines_of-raised up held paged (Mark m) coming = refl
lines_of-raised up true paged (Jump m) coming = refl
lines_of-raised up false true (Jump m) coming = refl
lines_of-raised up false false (Jump m) coming = refl

pub lines-raised : (up : ℕ) (held paged : Bool) (items : List Item) → lines held paged (map (raised up) items) ≡ map (line_raised up) (lines held paged items)
lines-raised up held paged [] = refl
lines-raised up held paged (item ∷ items) =
    ap₂ (λ a b. a ++ b)
    (ap (lines_of held paged (raised up item)) (ahead-raised up paged items) ∙ lines_of-raised up held paged item (ahead paged items))
    (ap (λ b. lines b paged (map (raised up) items)) (skips-raised up item) ∙ lines-raised up (skips item) paged items)
    ∙ sym (map-append (line_raised up) (lines_of held paged item (ahead paged items)) (lines (skips item) paged items))

-- Raised lines stand where the lines do when each mark stands where the raised one does.
pub placed-raised : (program marks : ℕ → ℕ) (up p q : ℕ) (xs : List Line) → Placed program marks p (map (line_raised up) xs) q → Placed program (λ m. marks (m + up)) p xs q
placed-raised program marks up p q [] placed = placed
placed-raised program marks up p q (Here m ∷ xs) placed = (placed.0, placed-raised program marks up p q xs placed.1)
placed-raised program marks up p q (Does i ∷ xs) placed = (placed.0, placed-raised program marks up (next p) q xs placed.1)
placed-raised program marks up p q (PageLow m ∷ xs) placed = (placed.0, placed-raised program marks up (next p) q xs placed.1)
placed-raised program marks up p q (PageHigh m ∷ xs) placed = (placed.0, placed-raised program marks up (next p) q xs placed.1)
placed-raised program marks up p q (Goes m ∷ xs) placed = (placed.0, placed.1, placed-raised program marks up (next p) q xs placed.2)

-- No word, or an interval around them.
abbrev Fits : ℕ → ℕ → ℕ → ℕ → Type 0
Fits start stop p n = (n ≡ 0) ⊎ ((start ≤ p) × (p + n ≤ stop))

fits-next : (start stop p n : ℕ) → stop ≤ 8192 → Fits start stop p (1 + n) → Between start stop p × Fits start stop (next p) n
fits-next start stop p n top (inl none) = absurd (omega arith)
fits-next start stop p zero top (inr (low, high)) = ((low, omega arith), inl refl)
fits-next start stop p (suc n) top (inr (low, high)) = ((low, omega arith), inr (omega arith, omega arith))

pub within-lines : (start stop p : ℕ) (xs : List Line) → stop ≤ 8192 → Fits start stop p (line_words xs) → Within (Between start stop) p xs
within-lines start stop p [] top fits = tt
within-lines start stop p (Here m ∷ xs) top fits = within-lines start stop p xs top fits
within-lines start stop p (Does i ∷ xs) top fits = let now = fits-next start stop p (line_words xs) top fits in (now.0, within-lines start stop (next p) xs top now.1)
within-lines start stop p (PageLow m ∷ xs) top fits = let now = fits-next start stop p (line_words xs) top fits in (now.0, within-lines start stop (next p) xs top now.1)
within-lines start stop p (PageHigh m ∷ xs) top fits = let now = fits-next start stop p (line_words xs) top fits in (now.0, within-lines start stop (next p) xs top now.1)
within-lines start stop p (Goes m ∷ xs) top fits = let now = fits-next start stop p (line_words xs) top fits in (now.0, within-lines start stop (next p) xs top now.1)
