-- The head and the rest of the boot: how many words they have, and that they end in no skip.
use Rattle.std.proofs.Common.{◌≡◌, ℕ, ◌+◌, ◌-◌, ◌<◌, ◌≤◌, Bool, true, false, if◌then◌else◌, List, [], ◌∷◌, ◌++◌, length, map, take, drop, replicate, refl, sym, ap, ◌∙◌, append_assoc, arith, length-append, length-take}
use Rattle.std.proofs.lemmas.List.{length-replicate}
use Rattle.pic_isa.specs.declared.sources.Source.{Source}
use Rattle.code_items.specs.declared.items.Item.{Item}
use Rattle.code_items.specs.declared.items.Item.TheVariants.{Mark, Jump}
use Rattle.code_items.specs.Items.{ends_skipping, skips, words_in, words_of_item}
use Rattle.code_items.proofs.ItemLaws.{ends-append, words-append}
use Rattle.glue_steps.specs.declared.lines.Line.{Line}
use Rattle.glue_steps.specs.declared.lines.Line.TheVariants.{Nothing}
use Rattle.glue_steps.specs.Choices.{FlagTest, test_items}
use Rattle.glue_steps.specs.Lines.{item_of}
use Rattle.glue_steps.proofs.StraightLaws.{words_of_lines}
use Rattle.glue_parts.specs.declared.spread.Context.{Context}
use Rattle.glue_parts.specs.Marks.{Boot, Ready, mark}
use Rattle.isr_vector.specs.Booting.{bank_written, boot_lines, boot_writes, enable_lines, filled, lines_of_writes}
use Rattle.frp_tree.specs.Tree.{ProgramTree}
use Rattle.bank_alloc.specs.declared.needs.Needs.{Needs}
use Rattle.priority_masks.specs.declared.tables.Enables.{Enables}
use Rattle.code_steps.specs.declared.banks.Bank.TheVariants.{Known}
use Rattle.isr_vector.specs.Taking.{all_but_last, choice, context_saved, last_jump, taking_items, tests_of}
use Rattle.isr_vector.specs.Vector.{boot_items, boot_place, head_items, own_goto, ready_place, turns_on}

-- The vector's own goto has one word, and is no skip.
goto_words : (paged : Bool) (m address : ℕ) → words_of_item paged (own_goto paged m address) ≡ 1
goto_words true m address = refl
goto_words false m address = refl

goto_skips : (paged : Bool) (m address : ℕ) → skips (own_goto paged m address) ≡ false
goto_skips true m address = refl
goto_skips false m address = refl

-- The head.
pub filled_long : (lines : List Line) → 3 ≤ length (filled lines)
filled_long lines =
    let all = length-append lines (replicate (3 - length lines) Nothing) in
    let more = length-replicate (3 - length lines) Nothing in
    omega (arith, all, more)

pub boot_long : (p : ProgramTree) (need : Needs) (enables : Enables) → 3 ≤ length (boot_lines p need enables)
boot_long p need enables =
    let writes = boot_writes p need in
    filled_long (lines_of_writes (Known 0) writes ++ enable_lines (bank_written (Known 0) writes) enables)

pub head_words : (paged : Bool) (lines : List Line) (taking : List Item) → 3 ≤ length lines → words_in paged (head_items paged lines taking) ≡ 4 + words_in paged taking
head_words paged lines taking long =
    let all = words-append paged (map item_of (take 3 lines)) (own_goto paged (mark Boot) (boot_place taking) ∷ taking) in
    let first = words_of_lines paged (take 3 lines) in
    let three = length-take 3 lines in
    let one = goto_words paged (mark Boot) (boot_place taking) in
    omega (arith, all, first, three, one, long)

context_ends : (context : Context) (status pclath : Bool) → context.status ≡ status → context.pclath ≡ pclath
    → ends_skipping false (map item_of (context_saved (record { status = status; pclath = pclath }))) ≡ false
context_ends context true true s p = refl
context_ends context true false s p = refl
context_ends context false true s p = refl
context_ends context false false s p = refl

tests_end : (tests : List FlagTest) (rest : List Item) → ends_skipping false (test_items tests rest) ≡ ends_skipping false rest
tests_end [] rest = refl
tests_end (t ∷ ts) rest = tests_end ts rest

jump_ends_by : (b : Bool) (m : ℕ) → ends_skipping false (if b then Jump m ∷ [] else []) ≡ false
jump_ends_by true m = refl
jump_ends_by false m = refl

jump_ends : (paged : Bool) (order : List ℕ) → ends_skipping false (last_jump paged order) ≡ false
jump_ends paged [] = refl
jump_ends paged (event ∷ []) = jump_ends_by paged event
jump_ends paged (event ∷ second ∷ events) = jump_ends paged (second ∷ events)

pub taking_ends : (source : ℕ → Source) (context : Context) (paged : Bool) (order : List ℕ) → ends_skipping false (taking_items source context paged order) ≡ false
taking_ends source context paged order =
    let first = map item_of (context_saved context) in
    ends-append false first (choice source paged order)
    ∙ ap (λ b. ends_skipping b (choice source paged order)) (context_ends context context.status context.pclath refl refl)
    ∙ tests_end (tests_of source (all_but_last order)) (last_jump paged order)
    ∙ jump_ends paged order

pub head_ends : (paged : Bool) (lines : List Line) (taking : List Item) → ends_skipping false taking ≡ false → ends_skipping false (head_items paged lines taking) ≡ false
head_ends paged lines taking ends =
    let goto = own_goto paged (mark Boot) (boot_place taking) in
    ends-append false (map item_of (take 3 lines)) (goto ∷ taking)
    ∙ ap (λ b. ends_skipping b taking) (goto_skips paged (mark Boot) (boot_place taking))
    ∙ ends

-- The rest of the boot.
module _ (paged : Bool) (lines : List Line) (taking : List Item) where
  abbrev pub rest : List Line
  rest = drop 3 lines

  abbrev pub goto : Item
  goto = own_goto paged (mark Ready) (ready_place taking rest)

  -- What stands before the ready address.
  abbrev pub before_ready : List Item
  before_ready = Mark (mark Boot) ∷ (map item_of rest ++ item_of turns_on ∷ [])

  pub boot_parts : boot_items paged lines taking ≡ before_ready ++ Mark (mark Ready) ∷ goto ∷ []
  boot_parts = ap (λ items. Mark (mark Boot) ∷ items) (sym (append_assoc (map item_of rest) (item_of turns_on ∷ []) (Mark (mark Ready) ∷ goto ∷ [])))

  pub before_ready_words : words_in paged before_ready ≡ length rest + 1
  before_ready_words =
      let all = words-append paged (map item_of rest) (item_of turns_on ∷ []) in
      let lines = words_of_lines paged rest in
      omega (arith, all, lines)

  pub before_ready_ends : ends_skipping false before_ready ≡ false
  before_ready_ends = ends-append false (map item_of rest) (item_of turns_on ∷ [])

  pub boot_words : words_in paged (boot_items paged lines taking) ≡ length rest + 2
  boot_words =
      let parts = ap (words_in paged) boot_parts in
      let all = words-append paged before_ready (Mark (mark Ready) ∷ goto ∷ []) in
      let first = before_ready_words in
      let one = goto_words paged (mark Ready) (ready_place taking rest) in
      omega (arith, parts, all, first, one)

  pub boot_ends : ends_skipping false (boot_items paged lines taking) ≡ false
  boot_ends =
      ap (ends_skipping false) boot_parts ∙ ends-append false before_ready (Mark (mark Ready) ∷ goto ∷ []) ∙ goto_skips paged (mark Ready) (ready_place taking rest)
