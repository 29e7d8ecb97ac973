-- Tests of events, one after another, and the last event.
use Rattle.std.proofs.Common.{◌≡◌, ℕ, ◌+◌, ◌*◌, ◌<◌, ◌≤◌, Bool, true, false, ◌⊎◌, if◌then◌else◌, List, [], ◌∷◌, ◌++◌, length, map, refl, sym, ap, ap₂, subst, ◌∙◌, arith, length-append, inl, inr}
use Rattle.pic_isa.specs.declared.sources.Source.{Source}
use Rattle.code_items.specs.declared.items.Item.{Item}
use Rattle.code_items.specs.declared.items.Item.TheVariants.{Ins, Jump}
use Rattle.code_items.specs.Items.{words_in, words_of_item}
use Rattle.code_items.proofs.ItemLaws.{words-append}
use Rattle.glue_steps.specs.declared.lines.Line.{Line}
use Rattle.glue_steps.specs.Lines.{item_of}
use Rattle.glue_steps.specs.Choices.{FlagTest, skip_of, test_items}
use Rattle.glue_parts.specs.declared.spread.Context.{Context}
use Rattle.glue_parts.specs.Marks.{Entry, mark}
use Rattle.isr_vector.specs.Taking.{context_saved, tests_of, all_but_last, last_jump, choice, taking_items}

-- Tests stand before what they stand before.
pub tests-append : (ts : List FlagTest) (xs ys : List Item) → test_items ts (xs ++ ys) ≡ test_items ts xs ++ ys
tests-append [] xs ys = refl
tests-append (t ∷ ts) xs ys = ap (λ items. Ins (skip_of t.source) ∷ Jump t.entry ∷ items) (tests-append ts xs ys)

-- All but the last, and the last.
but_last : (tested : List ℕ) (last : ℕ) → all_but_last (tested ++ last ∷ []) ≡ tested
but_last [] last = refl
but_last (event ∷ []) last = refl
but_last (event ∷ next ∷ tested) last = ap (λ events. event ∷ events) (but_last (next ∷ tested) last)

jump_last : (paged : Bool) (tested : List ℕ) (last : ℕ) → last_jump paged (tested ++ last ∷ []) ≡ (if paged then Jump (mark (Entry last)) ∷ [] else [])
jump_last paged [] last = refl
jump_last paged (event ∷ []) last = refl
jump_last paged (event ∷ next ∷ tested) last = jump_last paged (next ∷ tested) last

pub choice-splits : (source : ℕ → Source) (paged : Bool) (tested : List ℕ) (last : ℕ)
    → choice source paged (tested ++ last ∷ []) ≡ test_items (tests_of source tested) (if paged then Jump (mark (Entry last)) ∷ [] else [])
choice-splits source paged tested last =
    ap₂ (λ events items. test_items (tests_of source events) items) (but_last tested last) (jump_last paged tested last)

-- A list is empty or ends in something.
pub ends_in : (order : List ℕ) → (order ≡ []) ⊎ ((tested : List ℕ) × (last : ℕ) × (order ≡ tested ++ last ∷ []))
ends_in [] = inl refl
ends_in (x ∷ order) =
    elim (ends_in order) [
      | inl none ↦ inr ([], x, ap (λ xs. x ∷ xs) none)
      | inr ends ↦ inr (x ∷ ends.0, ends.1, ap (λ xs. x ∷ xs) ends.2)
    ]

pub choice_is : (source : ℕ → Source) (paged : Bool) (order tested : List ℕ) (last : ℕ) (items : List Item) → order ≡ tested ++ last ∷ []
    → items ≡ test_items (tests_of source tested) [] ++ (if paged then Jump (mark (Entry last)) ∷ [] else []) → items ≡ choice source paged order
choice_is source paged order tested last items is added =
    let jump : List Item = if paged then Jump (mark (Entry last)) ∷ [] else [] in
    added ∙ sym (tests-append (tests_of source tested) [] jump) ∙ sym (choice-splits source paged tested last) ∙ sym (ap (choice source paged) is)

-- The words and items of what runs from a taking on are few.
jump_words : (paged : Bool) (m : ℕ) → words_of_item paged (Jump m) ≤ 3
jump_words true m = omega arith
jump_words false m = omega arith

last_words : (wide paged : Bool) (event : ℕ) → (words_in wide (last_jump paged (event ∷ [])) ≤ 4) × (length (last_jump paged (event ∷ [])) ≤ 2)
last_words true true event = (omega arith, omega arith)
last_words false true event = (omega arith, omega arith)
last_words wide false event = (omega arith, omega arith)

choice-words : (source : ℕ → Source) (wide paged : Bool) (order : List ℕ) → (words_in wide (choice source paged order) ≤ 4 * length order) × (length (choice source paged order) ≤ 2 * length order)
choice-words source wide paged [] = (omega arith, omega arith)
choice-words source wide paged (event ∷ []) = let last = last_words wide paged event in (omega (arith, last.0), omega (arith, last.1))
choice-words source wide paged (event ∷ next ∷ order) =
    let rest = choice-words source wide paged (next ∷ order) in
    let own = jump_words wide (mark (Entry event)) in
    (omega (arith, rest.0, own), omega (arith, rest.1))

context_words : (wide : Bool) (context : Context) → (words_in wide (map item_of (context_saved context)) ≤ 5) × (length (map item_of (context_saved context)) ≤ 5)
context_words wide context = by context.status context.pclath
  where
    by : (status pclath : Bool) → (words_in wide (map item_of (context_saved (record { status = status; pclath = pclath }))) ≤ 5) × (length (map item_of (context_saved (record { status = status; pclath = pclath }))) ≤ 5)
    by true true = (omega arith, omega arith)
    by true false = (omega arith, omega arith)
    by false true = (omega arith, omega arith)
    by false false = (omega arith, omega arith)

-- Counted with page settings or without.
pub taking-words : (source : ℕ → Source) (context : Context) (wide paged : Bool) (order : List ℕ) → words_in wide (taking_items source context paged order) ≤ 5 + 4 * length order
taking-words source context wide paged order =
    let saved = context_words wide context in
    let tests = choice-words source wide paged order in
    omega (arith, saved.0, tests.0, words-append wide (map item_of (context_saved context)) (choice source paged order))

pub taking-length : (source : ℕ → Source) (context : Context) (paged : Bool) (order : List ℕ) → length (taking_items source context paged order) ≤ 5 + 2 * length order
taking-length source context paged order =
    let saved = context_words paged context in
    let tests = choice-words source paged paged order in
    omega (arith, saved.1, tests.1, length-append (map item_of (context_saved context)) (choice source paged order))

-- What the code adds is all of it.
pub choice_added : (source : ℕ → Source) (paged : Bool) (order tested : List ℕ) (last : ℕ) (first middle items : List Item) → order ≡ tested ++ last ∷ [] → first ≡ []
    → middle ≡ first ++ test_items (tests_of source tested) [] → items ≡ middle ++ (if paged then Jump (mark (Entry last)) ∷ [] else []) → items ≡ choice source paged order
choice_added source paged order tested last first middle items is none tests added =
    choice_is source paged order tested last items is
    (added ∙ ap (λ xs. xs ++ (if paged then Jump (mark (Entry last)) ∷ [] else [])) (tests ∙ ap (λ xs. xs ++ test_items (tests_of source tested) []) none))

pub taking_added : (source : ℕ → Source) (context made : Context) (paged : Bool) (order : List ℕ) (lines : List Line) (first middle tests items : List Item)
    → made.status ≡ context.status → made.pclath ≡ context.pclath → lines ≡ context_saved made → first ≡ [] → middle ≡ first ++ map item_of lines
    → tests ≡ choice source paged order → items ≡ middle ++ tests → items ≡ taking_items source context paged order
taking_added source context made paged order lines first middle tests items status pclath saved none context_there chosen added =
    added
    ∙ ap₂ (λ xs ys. xs ++ ys)
    (context_there ∙ ap₂ (λ xs ls. xs ++ map item_of ls) none (saved ∙ ap₂ (λ s p. context_saved (record { status = s; pclath = p })) status pclath))
    chosen

-- It is short.
pub record TakingIsShort (items : List Item) : Type 0 where
  pub items_few : length items ≤ 27
  pub words_few : words_in true items ≤ 49

pub taking_short : (source : ℕ → Source) (context : Context) (paged : Bool) (order : List ℕ) (items : List Item) → length order ≤ 11 → items ≡ taking_items source context paged order
    → TakingIsShort items
taking_short source context paged order items few is =
    let count = taking-length source context paged order in
    let words = taking-words source context true paged order in
    subst TakingIsShort (sym is) (record { items_few = omega (arith, count, few); words_few = omega (arith, words, few) })
