-- Words that rise, and the program memory that they are written to one by one.
use Rattle.std.proofs.Common.{◌≡◌, ℕ, zero, suc, ◌+◌, ◌<◌, ◌≤◌, Bool, true, false, List, [], ◌∷◌, length, get_or, set, take, map, replicate, ◌==◌, if◌then◌else◌, ◌≢◌, refl, sym, ap, ◌∙◌, ◌⊎◌, inl, inr, arith, add-one, get_or-set_same, get_or-set_other}
use Rattle.std.proofs.Math.Path.{fun_ext}
use Rattle.std.proofs.lemmas.Bool.{cases_lt, eqb-true, eqb-false, ne_eqb}
use Rattle.std.proofs.lemmas.List.{get_or-map, get_or_past, get_or-replicate, length-map, length-replicate, map-set, take_all}
use Rattle.hex_file.specs.declared.images.Word.{Word}
use Rattle.hex_file.specs.Written.{RisesFrom}
use Rattle.pic_machine.specs.Run.{word_at}
use Rattle.pic_machine.specs.declared.memory.Cell.{Cell}

-- A word among words that rise.
pub risen : (low : ℕ) (ws : List Word) → RisesFrom low ws → (i : ℕ) (d : Word) → i < length ws → (low ≤ (get_or ws i d).address) × ((get_or ws i d).address < 8192) × ((get_or ws i d).word < 0x4000)
risen low [] rises i d inside = absurd (omega (arith, inside))
risen low (w ∷ ws) rises zero d inside = (rises.0, rises.1, rises.2)
risen low (w ∷ ws) rises (suc i) d inside =
    let later = risen (w.address + 1) ws rises.3 i d (omega (arith, inside)) in
    (omega (arith, rises.0, later.0), later.1, later.2)

-- A choice by cases and one by `if`.
one_choice : (test : Bool) (x y : ℕ) → elim test [ true ↦ x | false ↦ y ] ≡ (if test then x else y)
one_choice true x y = refl
one_choice false x y = refl

-- One more word among words that rise is at none of the addresses before it.
pub word_at-more : (low : ℕ) (ws : List Word) → RisesFrom low ws → (i : ℕ) (d : Word) → i < length ws → (k : ℕ)
    → word_at (take (suc i) ws) k ≡ (if (get_or ws i d).address == k then (get_or ws i d).word else word_at (take i ws) k)
word_at-more low [] rises i d inside k = absurd (omega (arith, inside))
word_at-more low (w ∷ ws) rises zero d inside k = one_choice (w.address == k) w.word 0x3FFF
word_at-more low (w ∷ ws) rises (suc i) d inside k =
    by_test (w.address == k) refl (word_at-more (w.address + 1) ws rises.3 i d (omega (arith, inside)) k)
  where
    x : Word
    x = get_or ws i d

    by_test : (test : Bool) → (w.address == k) ≡ test → word_at (take (suc i) ws) k ≡ (if x.address == k then x.word else word_at (take i ws) k)
        → elim test [ true ↦ w.word | false ↦ word_at (take (suc i) ws) k ]
        ≡ (if x.address == k then x.word else elim test [ true ↦ w.word | false ↦ word_at (take i ws) k ])
    by_test false e later_words = later_words
    by_test true e later_words =
        let k_is : w.address ≡ k = eqb-true w.address k e in
        let later = risen (w.address + 1) ws rises.3 i d (omega (arith, inside)) in
        let beyond : x.address ≢ k = omega (arith, k_is, later.0) in
        sym (ap (λ t. if t then x.word else w.word) (ne_eqb x.address k beyond))

-- The words of cells.
abbrev pub words : List Cell → List ℕ
words = map (λ (cell : Cell). cell.word)

-- Cells that all hold one word.
pub all-erased : (cell : Cell) (size : ℕ) → cell.word ≡ 0x3FFF → (k : ℕ) → get_or (words (replicate size cell)) k 0x3FFF ≡ 0x3FFF
all-erased cell size e k = by_place (cases_lt k size)
  where
    by_place : (k < size) ⊎ (size ≤ k) → get_or (words (replicate size cell)) k 0x3FFF ≡ 0x3FFF
    by_place (inl small) =
        get_or-map (λ (c : Cell). c.word) (replicate size cell) k cell 0x3FFF (omega (arith, length-replicate size cell, small))
        ∙ ap (λ (c : Cell). c.word) (get_or-replicate size k cell cell small) ∙ e
    by_place (inr large) =
        get_or_past (words (replicate size cell)) k 0x3FFF
        (omega (arith, length-map (replicate size cell) (λ (c : Cell). c.word), length-replicate size cell, large))

-- One more word is written to its cell.
pub written-more : (ws : List Word) (cells : List Cell) (at i : ℕ) (cell : Cell) (d : Word) → RisesFrom 0 ws → i < length ws
    → length cells ≡ 8192 → at ≡ (get_or ws i d).address → cell.word ≡ (get_or ws i d).word
    → ((k : ℕ) → get_or (words cells) k 0x3FFF ≡ word_at (take i ws) k)
    → (k : ℕ) → get_or (words (set cells at cell)) k 0x3FFF ≡ word_at (take (i + 1) ws) k
written-more ws cells at i cell d rises inside size here same before k = by_test (x.address == k) refl
  where
    x : Word
    x = get_or ws i d

    more : word_at (take (i + 1) ws) k ≡ (if x.address == k then x.word else word_at (take i ws) k)
    more = ap (λ n. word_at (take n ws) k) (add-one i) ∙ word_at-more 0 ws rises i d inside k

    mapped : get_or (words (set cells at cell)) k 0x3FFF ≡ get_or (set (words cells) at cell.word) k 0x3FFF
    mapped = ap (λ xs. get_or xs k 0x3FFF) (map-set (λ (c : Cell). c.word) cells at cell)

    by_test : (test : Bool) → (x.address == k) ≡ test → get_or (words (set cells at cell)) k 0x3FFF ≡ word_at (take (i + 1) ws) k
    by_test true e =
        let k_is : x.address ≡ k = eqb-true x.address k e in
        let in_range = risen 0 ws rises i d inside in
        let small : at < length (words cells) = omega (arith, here, in_range.1, size, length-map cells (λ (c : Cell). c.word)) in
        mapped ∙ ap (λ n. get_or (set (words cells) at cell.word) n 0x3FFF) (sym (here ∙ k_is))
        ∙ get_or-set_same (words cells) at cell.word 0x3FFF small ∙ same ∙ sym (more ∙ ap (λ t. if t then x.word else word_at (take i ws) k) e)
    by_test false e =
        let other : k ≢ at = λ is. eqb-false x.address k e (sym (is ∙ here)) in
        mapped ∙ get_or-set_other (words cells) at k cell.word 0x3FFF other ∙ before k
        ∙ sym (more ∙ ap (λ t. if t then x.word else word_at (take i ws) k) e)

-- All words are written.
pub written-all : (ws : List Word) (cells : List Cell) (i : ℕ) → length ws ≤ i → ((k : ℕ) → get_or (words cells) k 0x3FFF ≡ word_at (take i ws) k)
    → (λ (k : ℕ). get_or (words cells) k 0x3FFF) ≡ word_at ws
written-all ws cells i all before = fun_ext (λ k. before k ∙ ap (λ xs. word_at xs k) (take_all i ws all))
