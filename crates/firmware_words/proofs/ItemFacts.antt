-- How many items code has, how many of them are jumps, and that their fields are in range: in parts and put together.
use Rattle.std.proofs.Common.{◌≡◌, ℕ, zero, suc, ◌+◌, ◌*◌, ◌≤◌, true, false, List, [], ◌∷◌, ◌++◌, length, map, replicate, sym, ap, subst, ◌∙◌, append-nil, append_assoc, arith, length-append}
use Rattle.std.specs.List.{AllByRecursion}
use Rattle.std.proofs.lemmas.List.{length-map}
use Rattle.pic_isa.specs.declared.instructions.Instr.{Instr}
use Rattle.pic_isa.specs.declared.instructions.Instr.TheVariants.{Nop}
use Rattle.pic_isa.specs.Instructions.{FieldsFit}
use Rattle.code_items.specs.declared.items.Item.{Item}
use Rattle.code_items.specs.declared.items.Item.TheVariants.{Ins, Jump, Mark}
use Rattle.code_items.specs.Items.{ItemFits, words_in}
use Rattle.code_items.specs.Places.{joined}
use Rattle.code_items.proofs.ItemLaws.{fit-append, words-append}
use Rattle.glue_steps.specs.declared.lines.Line.{Line}
use Rattle.glue_steps.specs.Lines.{LineFits, item_of}
use Rattle.glue_steps.proofs.LineLaws.{fields_fit}
use Rattle.glue_steps.proofs.StraightLaws.{words_of_lines}
use Rattle.scratch_commit.specs.Windows.{marked_last}
use Rattle.firmware_words.proofs.LineFacts.{Small}

-- At most so many items, so many jumps among them, with page settings of two words each; and fields in range.
pub record Sound (most jumps : ℕ) (items : List Item) : Type 0 where
  pub count : length items ≤ most
  pub settings : words_in true items ≤ words_in false items + 2 * jumps
  pub fit : AllByRecursion ItemFits items

pub sound_wider : (most more jumps others : ℕ) (items : List Item) → most ≤ more → jumps ≤ others → Sound most jumps items → Sound more others items
sound_wider most more jumps others items wider also sound =
    let count = sound.count in
    let words = sound.settings in
    record { count = omega (arith, count, wider); settings = omega (arith, words, also); fit = sound.fit }

pub sound_none : Sound 0 0 []
sound_none = record { count = omega arith; settings = omega arith; fit = tt }

pub sound_both : (m n j k : ℕ) (xs ys : List Item) → Sound m j xs → Sound n k ys → Sound (m + n) (j + k) (xs ++ ys)
sound_both m n j k xs ys first second =
    let left = first.count in
    let right = second.count in
    let both = length-append xs ys in
    let settings = first.settings in
    let more = second.settings in
    let wide = words-append true xs ys in
    let narrow = words-append false xs ys in
    record { count = omega (arith, left, right, both); settings = omega (arith, settings, more, wide, narrow); fit = fit-append xs ys first.fit second.fit }

-- Single items.
pub sound_mark : (m : ℕ) → Sound 1 0 (Mark m ∷ [])
sound_mark m = record { count = omega arith; settings = omega arith; fit = (tt, tt) }

pub sound_jump : (m : ℕ) → Sound 1 1 (Jump m ∷ [])
sound_jump m = record { count = omega arith; settings = omega arith; fit = (tt, tt) }

pub sound_ins : (i : Instr) → FieldsFit i → Sound 1 0 (Ins i ∷ [])
sound_ins i fit = record { count = omega arith; settings = omega arith; fit = (fit, tt) }

pub sound_line : (line : Line) → LineFits line → Sound 1 0 (item_of line ∷ [])
sound_line line fit = record { count = omega arith; settings = omega arith; fit = (fields_fit line fit, tt) }

-- Lines, also with a mark before the last; and instructions.
lines_fit : (lines : List Line) → AllByRecursion LineFits lines → AllByRecursion ItemFits (map item_of lines)
lines_fit [] fit = tt
lines_fit (line ∷ lines) fit = (fields_fit line fit.0, lines_fit lines fit.1)

pub sound_lines : (most : ℕ) (lines : List Line) → Small most lines → Sound most 0 (map item_of lines)
sound_lines most lines small =
    let few = small.count in
    let count = length-map lines item_of in
    let wide = words_of_lines true lines in
    let narrow = words_of_lines false lines in
    record { count = omega (arith, few, count); settings = omega (arith, wide, narrow); fit = lines_fit lines small.fit }

marked : (m : ℕ) (lines : List Line) → AllByRecursion LineFits lines → Sound (length lines + 1) 0 (marked_last m lines)
marked m [] fit = record { count = omega arith; settings = omega arith; fit = tt }
marked m (line ∷ []) fit = record { count = omega arith; settings = omega arith; fit = (tt, (fields_fit line fit.0, tt)) }
marked m (line ∷ (next ∷ lines)) fit =
    let rest = marked m (next ∷ lines) fit.1 in
    let count = rest.count in
    let words = rest.settings in
    record { count = omega (arith, count); settings = omega (arith, words); fit = (fields_fit line fit.0, rest.fit) }

pub sound_marked : (most m : ℕ) (lines : List Line) → Small most lines → Sound (most + 1) 0 (marked_last m lines)
sound_marked most m lines small =
    let few = small.count in
    sound_wider (length lines + 1) (most + 1) 0 0 (marked_last m lines) (omega (arith, few)) (omega arith) (marked m lines small.fit)

instructions : (instrs : List Instr) → AllByRecursion FieldsFit instrs → Sound (length instrs) 0 (map Ins instrs)
instructions [] fit = sound_none
instructions (i ∷ instrs) fit =
    let rest = instructions instrs fit.1 in
    let count = rest.count in
    let words = rest.settings in
    record { count = omega (arith, count); settings = omega (arith, words); fit = (fit.0, rest.fit) }

pub sound_instructions : (most : ℕ) (items : List Item) (instrs : List Instr) → items ≡ map Ins instrs → AllByRecursion FieldsFit instrs → length items ≤ most → Sound most 0 items
sound_instructions most items instrs are fit few =
    let same = subst (λ (xs : List Item). length xs ≤ most) are few in
    let count = length-map instrs Ins in
    subst (Sound most 0) (sym are) (sound_wider (length instrs) most 0 0 (map Ins instrs) (omega (arith, same, count)) (omega arith) (instructions instrs fit))

pub sound_pauses : (n : ℕ) → Sound n 0 (replicate n (Ins Nop))
sound_pauses zero = sound_none
sound_pauses (suc n) =
    let rest = sound_pauses n in
    let count = rest.count in
    let words = rest.settings in
    record { count = omega (arith, count); settings = omega (arith, words); fit = (tt, rest.fit) }

-- Words without page settings are no more than items.
pub words-few : (items : List Item) → words_in false items ≤ length items
words-few [] = omega arith
words-few (Ins i ∷ items) = let rest = words-few items in omega (arith, rest)
words-few (Mark m ∷ items) = let rest = words-few items in omega (arith, rest)
words-few (Jump m ∷ items) = let rest = words-few items in omega (arith, rest)

-- Pieces are joined with another behind them.
pub joined-last : (pieces : List (List Item)) (last : List Item) → joined (pieces ++ last ∷ []) ≡ joined pieces ++ last
joined-last [] last = append-nil last
joined-last (piece ∷ pieces) last = ap (λ items. piece ++ items) (joined-last pieces last) ∙ sym (append_assoc piece (joined pieces) last)

pub sound_last : (m n j k : ℕ) (pieces : List (List Item)) (last : List Item) → Sound m j (joined pieces) → Sound n k last → Sound (m + n) (j + k) (joined (pieces ++ last ∷ []))
sound_last m n j k pieces last first second = subst (Sound (m + n) (j + k)) (sym (joined-last pieces last)) (sound_both m n j k (joined pieces) last first second)
