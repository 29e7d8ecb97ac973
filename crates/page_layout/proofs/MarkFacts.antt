-- The address of each mark, as it is found, is the place where the mark stands.
use Rattle.std.proofs.Common.{◌≡◌, ℕ, ◌+◌, ◌%◌, ◌≤◌, ◌<◌, Bool, true, false, ◌==◌, if◌then◌else◌, List, [], ◌∷◌, ◌++◌, get_or, length, slice_set, ap, ◌∙◌, sym, refl, subst, append_assoc, arith}
use Rattle.std.proofs.lemmas.Bool.{eqb-true, eqb-false, eq-eqb, ne_eqb}
use Rattle.std.proofs.lemmas.List.{get_or-set_same, get_or-set_other}
use Rattle.std.proofs.Math.ListN.{length-set}
use Rattle.pic_isa.specs.declared.instructions.Instr.{Instr}
use Rattle.pic_regs.specs.Bytes.{updated}
use Rattle.code_items.specs.declared.items.Item.{Item}
use Rattle.code_items.specs.declared.items.Item.TheVariants.{Ins, Mark, Jump}
use Rattle.code_items.specs.Items.{is_skip, marks_it, times, OnceEach, words_of_item}
use Rattle.code_items.specs.Lines.{Line, Here, Does, ahead, lines_of, lines}
use Rattle.page_layout.specs.Emitted.{places}
use Rattle.page_layout.specs.Marks.{places_for, marks_after, with_place, noted}

-- Like addresses before items give like ones behind them.
with_place-like : (item : Item) (at : ℕ) (f g : ℕ → ℕ) → ((m : ℕ) → f m ≡ g m) → (m : ℕ) → with_place item at f m ≡ with_place item at g m
with_place-like (Ins i) at f g like m = like m
with_place-like (Jump k) at f g like m = like m
with_place-like (Mark k) at f g like m = ap (λ old. if m == k then at else old) (like m)

pub after-like : (paged : Bool) (at : ℕ) (items : List Item) (f g : ℕ → ℕ) → ((m : ℕ) → f m ≡ g m) → (m : ℕ) → marks_after paged at items f m ≡ marks_after paged at items g m
after-like paged at [] f g like m = like m
after-like paged at (item ∷ items) f g like m =
    after-like paged (at + words_of_item paged item) items (with_place item (at % 8192) f) (with_place item (at % 8192) g) (with_place-like item (at % 8192) f g like) m

-- A list with an address noted has it at its place.
pub noted-place : (item : Item) (at : ℕ) (list : List ℕ) → places_for item ≤ length list → (m : ℕ) → places (noted item at list) m ≡ with_place item at (places list) m
noted-place (Ins i) at list room m = refl
noted-place (Jump k) at list room m = refl
noted-place (Mark k) at list room m = by_test (m == k) refl
  where
    by_test : (b : Bool) → m == k ≡ b → get_or (slice_set list k at) m 0 ≡ (if m == k then at else get_or list m 0)
    by_test true same =
        let e : m ≡ k = eqb-true m k same in
        ap (λ n. get_or (slice_set list k at) n 0) e ∙ get_or-set_same list k at 0 (omega arith) ∙ ap (λ (b : Bool). if b then at else get_or list m 0) (sym same)
    by_test false other =
        get_or-set_other list k m at 0 (λ e. eqb-false m k other e) ∙ ap (λ (b : Bool). if b then at else get_or list m 0) (sym other)

pub noted-length : (item : Item) (at : ℕ) (list : List ℕ) → length (noted item at list) ≡ length list
noted-length (Ins i) at list = refl
noted-length (Jump k) at list = refl
noted-length (Mark k) at list = length-set list k at

-- A mark that doesn't stand in items keeps its address over them.
with_place-none : (item : Item) (at m : ℕ) (f : ℕ → ℕ) → marks_it m item ≡ 0 → with_place item at f m ≡ f m
with_place-none (Ins i) at m f none = refl
with_place-none (Jump k) at m f none = refl
with_place-none (Mark k) at m f none = by_test (k == m) refl
  where
    by_test : (b : Bool) → k == m ≡ b → (if m == k then at else f m) ≡ f m
    by_test true same = absurd (let one : marks_it m (Mark k) ≡ 1 = ap (λ (b : Bool). if b then 1 else 0) same in omega (arith, one, none))
    by_test false other = ap (λ (b : Bool). if b then at else f m) (ne_eqb m k (λ e. eqb-false k m other (sym e)))

pub after-none : (paged : Bool) (at m : ℕ) (items : List Item) (f : ℕ → ℕ) → times m items ≡ 0 → marks_after paged at items f m ≡ f m
after-none paged at m [] f none = refl
after-none paged at m (item ∷ items) f none =
    after-none paged (at + words_of_item paged item) m items (with_place item (at % 8192) f) (omega arith) ∙ with_place-none item (at % 8192) m f (omega arith)

-- Addresses are below 8,192.
with_place-below : (item : Item) (at : ℕ) (f : ℕ → ℕ) → ((m : ℕ) → f m < 8192) → (m : ℕ) → with_place item (at % 8192) f m < 8192
with_place-below (Ins i) at f below m = below m
with_place-below (Jump k) at f below m = below m
with_place-below (Mark k) at f below m = by_test (m == k)
  where
    by_test : (b : Bool) → (if b then at % 8192 else f m) < 8192
    by_test true = omega arith
    by_test false = below m

pub after-below : (paged : Bool) (at : ℕ) (items : List Item) (f : ℕ → ℕ) → ((m : ℕ) → f m < 8192) → (m : ℕ) → marks_after paged at items f m < 8192
after-below paged at [] f below m = below m
after-below paged at (item ∷ items) f below m =
    after-below paged (at + words_of_item paged item) items (with_place item (at % 8192) f) (with_place-below item at f below) m

-- Each mark of lines that stand from an address on is where `marks` says. Addresses are counted on past the last one.
abbrev pub AtMarks : (ℕ → ℕ) → ℕ → List Line → Type 0
AtMarks marks p [] = Unit {0}
AtMarks marks p (Here m ∷ rest) = (marks m ≡ p % 8192) × AtMarks marks p rest
AtMarks marks p (_ ∷ rest) = AtMarks marks (p + 1) rest

-- The words of page settings.
abbrev pub owed_words : (held paged : Bool) → List Item → ℕ
owed_words held paged [] = 0
owed_words held paged (Ins i ∷ items) = 0
owed_words held paged (Mark m ∷ items) = 0
owed_words held paged (Jump m ∷ items) = if held then (if paged then 2 else 0) else 0

pub none_owed : (paged : Bool) (items : List Item) → owed_words false paged items ≡ 0
none_owed paged [] = refl
none_owed paged (Ins i ∷ items) = refl
none_owed paged (Mark m ∷ items) = refl
none_owed paged (Jump m ∷ items) = refl

-- A skip instruction comes after the settings of a jump directly behind it.
skip_marks : (marks : ℕ → ℕ) (paged : Bool) (items : List Item) (i : Instr) (p : ℕ) (rest : List Line) → AtMarks marks (p + 1 + owed_words true paged items) rest
    → AtMarks marks p (ahead paged items ++ Does i ∷ rest)
skip_marks marks paged [] i p rest at = let e : p + 1 + 0 ≡ p + 1 = omega arith in subst (λ n. AtMarks marks n rest) e at
skip_marks marks paged (Ins k ∷ items) i p rest at = let e : p + 1 + 0 ≡ p + 1 = omega arith in subst (λ n. AtMarks marks n rest) e at
skip_marks marks paged (Mark k ∷ items) i p rest at = let e : p + 1 + 0 ≡ p + 1 = omega arith in subst (λ n. AtMarks marks n rest) e at
skip_marks marks true (Jump k ∷ items) i p rest at = let e : p + 1 + 2 ≡ p + 1 + 1 + 1 = omega arith in subst (λ n. AtMarks marks n rest) e at
skip_marks marks false (Jump k ∷ items) i p rest at = let e : p + 1 + 0 ≡ p + 1 = omega arith in subst (λ n. AtMarks marks n rest) e at

ins_marks : (marks : ℕ → ℕ) (skip paged : Bool) (items : List Item) (i : Instr) (p : ℕ) (rest : List Line) → AtMarks marks (p + 1 + owed_words skip paged items) rest
    → AtMarks marks p ((if skip then ahead paged items ++ Does i ∷ [] else Does i ∷ []) ++ rest)
ins_marks marks true paged items i p rest at = subst (AtMarks marks p) (sym (append_assoc (ahead paged items) (Does i ∷ []) rest)) (skip_marks marks paged items i p rest at)
ins_marks marks false paged items i p rest at =
    let e : p + 1 + owed_words false paged items ≡ p + 1 = omega (arith, none_owed paged items) in subst (λ n. AtMarks marks n rest) e at

once_rest : (item : Item) (items : List Item) → OnceEach (item ∷ items) → OnceEach items
once_rest item items once m = omega (arith, once m)

jump_marks : (marks : ℕ → ℕ) (held paged : Bool) (items : List Item) (k p : ℕ) (rest : List Line) → AtMarks marks (p + words_of_item paged (Jump k)) rest
    → AtMarks marks (p + owed_words held paged (Jump k ∷ items)) (lines_of held paged (Jump k) (ahead paged items) ++ rest)
jump_marks marks true true items k p rest at = let e : p + 3 ≡ p + 2 + 1 = omega arith in subst (λ n. AtMarks marks n rest) e at
jump_marks marks true false items k p rest at = let e : p + 1 ≡ p + 0 + 1 = omega arith in subst (λ n. AtMarks marks n rest) e at
jump_marks marks false true items k p rest at = let e : p + 3 ≡ p + 0 + 1 + 1 + 1 = omega arith in subst (λ n. AtMarks marks n rest) e at
jump_marks marks false false items k p rest at = let e : p + 1 ≡ p + 0 + 1 = omega arith in subst (λ n. AtMarks marks n rest) e at

module _ (marks : ℕ → ℕ) (paged : Bool) where
  pub at_marks : (held : Bool) (items : List Item) (p : ℕ) (f : ℕ → ℕ) → OnceEach items → ((m : ℕ) → marks m ≡ marks_after paged p items f m)
      → AtMarks marks (p + owed_words held paged items) (lines held paged items)
  at_marks held [] p f once found = tt
  at_marks held (Ins i ∷ items) p f once found =
      let rest = at_marks (is_skip i) items (p + 1) f (once_rest (Ins i) items once) found in
      ins_marks marks (is_skip i) paged items i (p + 0) (lines (is_skip i) paged items)
      (let e : p + 1 + owed_words (is_skip i) paged items ≡ p + 0 + 1 + owed_words (is_skip i) paged items = omega arith in
      subst (λ n. AtMarks marks n (lines (is_skip i) paged items)) e rest)
  at_marks held (Mark k ∷ items) p f once found =
      let g : ℕ → ℕ = updated f k (p % 8192) in
      let same : k == k ≡ true = eq-eqb k k refl in
      let one : marks_it k (Mark k) ≡ 1 = ap (λ (b : Bool). if b then 1 else 0) same in
      let none : times k items ≡ 0 = omega (arith, once k, one) in
      let here : marks k ≡ p % 8192 =
      found k ∙ after-none paged (p + 0) k items g none ∙ ap (λ (b : Bool). if b then p % 8192 else f k) same in
      let start : p % 8192 ≡ (p + 0) % 8192 = omega arith in
      let e : p + 0 + owed_words false paged items ≡ p + 0 = omega (arith, none_owed paged items) in (
        here ∙ start,
        subst (λ n. AtMarks marks n (lines false paged items)) e (at_marks false items (p + 0) g (once_rest (Mark k) items once) found),
      )
  at_marks held (Jump k ∷ items) p f once found =
      let rest = at_marks false items (p + words_of_item paged (Jump k)) f (once_rest (Jump k) items once) found in
      let e : p + words_of_item paged (Jump k) + owed_words false paged items ≡ p + words_of_item paged (Jump k) = omega (arith, none_owed paged items) in
      jump_marks marks held paged items k p (lines false paged items) (subst (λ n. AtMarks marks n (lines false paged items)) e rest)
