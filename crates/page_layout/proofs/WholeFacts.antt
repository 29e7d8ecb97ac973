-- The whole code: its words are the items in order, and each mark has its address.
use Rattle.std.proofs.Common.{◌≡◌, ℕ, ◌+◌, ◌%◌, ◌≤◌, ◌<◌, Bool, false, List, length, ◌∙◌, sym, refl, subst, arith}
use Rattle.std.specs.List.{AllByRecursion}
use Rattle.pic_isa.specs.declared.instructions.Instr.{Instr}
use Rattle.pic_isa.specs.Instructions.{FieldsFit}
use Rattle.hex_file.specs.Written.{RisesFrom}
use Rattle.pic_machine.specs.Run.{word_at}
use Rattle.code_items.specs.declared.items.Item.{Item}
use Rattle.code_items.specs.Items.{ItemFits, OnceEach, times, words_in}
use Rattle.code_items.specs.Lines.{Line, lines, Placed, Stands}
use Rattle.code_items.proofs.LineLaws.{line_words, words-lines}
use Rattle.page_layout.specs.Emitted.{instructions_of, words_of}
use Rattle.page_layout.specs.Marks.{marks_after, no_place}
use Rattle.page_layout.proofs.MarkFacts.{AtMarks, owed_words, none_owed, at_marks, after-none, after-below}
use Rattle.page_layout.proofs.PlaceFacts.{words_of-length, words_of-rise, instructions-length, instructions-fit, lines-fit, reads, places_lines}

module _ (paged : Bool) (items : List Item) (marks : ℕ → ℕ) where
  -- Its instructions.
  abbrev pub code_of : List Instr
  code_of = instructions_of marks (lines false paged items)

  pub code-length : length code_of ≡ words_in paged items
  code-length = instructions-length marks (lines false paged items) ∙ words-lines paged items

  pub code-fit : AllByRecursion ItemFits items → AllByRecursion FieldsFit code_of
  code-fit fit = instructions-fit marks (lines false paged items) (lines-fit false paged items fit)

  pub words-number : length (words_of 0 code_of) ≡ words_in paged items
  words-number = words_of-length 0 code_of ∙ code-length

  pub words-rise : AllByRecursion ItemFits items → words_in paged items ≤ 8192 → RisesFrom 0 (words_of 0 code_of)
  words-rise fit few = words_of-rise 0 code_of (code-fit fit) (omega (arith, code-length))

  module _ (found : (m : ℕ) → marks m ≡ marks_after paged 0 items no_place m) where
    pub marks-below : (m : ℕ) → marks m < 8192
    marks-below m = subst (λ n. n < 8192) (sym (found m)) (after-below paged 0 items no_place (λ k. omega arith) m)

    pub marks-absent : (m : ℕ) → times m items ≡ 0 → marks m ≡ 0
    marks-absent m none = found m ∙ after-none paged 0 m items no_place none

    pub words-stand : AllByRecursion ItemFits items → words_in paged items ≤ 8192 → OnceEach items
        → Stands paged (word_at (words_of 0 code_of)) marks 0 items (length (words_of 0 code_of) % 8192)
    words-stand fit few once =
        let ls : List Line = lines false paged items in
        let start : 0 + owed_words false paged items ≡ 0 = omega (arith, none_owed paged items) in
        let at : AtMarks marks 0 ls = subst (λ n. AtMarks marks n ls) start (at_marks marks paged false items 0 no_place once found) in
        let count : line_words ls ≡ words_in paged items = words-lines paged items in
        let placed = places_lines (word_at (words_of 0 code_of)) marks marks-below 0 ls (omega (arith, count)) at
        (reads (word_at (words_of 0 code_of)) 0 code_of (code-fit fit) (λ address from. refl)) in
        let stop : 0 + line_words ls ≡ length (words_of 0 code_of) = omega (arith, count, words-number) in
        subst (λ n. Placed (word_at (words_of 0 code_of)) marks 0 ls (n % 8192)) stop placed
