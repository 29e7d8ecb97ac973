-- The words of lines, read from program memory, are the lines: so they stand there.
use Rattle.std.proofs.Common.{◌≡◌, ℕ, suc, ◌+◌, ◌%◌, ◌≤◌, ◌<◌, Bool, true, false, if◌then◌else◌, List, [], ◌∷◌, ◌++◌, length, ap, ◌∙◌, refl, subst, arith}
use Rattle.std.specs.List.{AllByRecursion}
use Rattle.std.proofs.lemmas.Bool.{eq-eqb, ne_eqb}
use Rattle.pic_isa.specs.declared.instructions.Instr.{Instr}
use Rattle.pic_isa.specs.declared.instructions.Instr.TheVariants.{Goto}
use Rattle.pic_isa.specs.Instructions.{FieldsFit, word_of, instruction_of}
use Rattle.pic_isa.proofs.RowLaws.{written-found}
use Rattle.pic_isa.proofs.WordLaws.{word_below}
use Rattle.hex_file.specs.Written.{RisesFrom}
use Rattle.pic_machine.specs.Run.{word_at}
use Rattle.code_steps.specs.Steps.{next, Is}
use Rattle.code_steps.specs.Jumps.{high_page, low_page, setting}
use Rattle.code_items.specs.declared.items.Item.{Item}
use Rattle.code_items.specs.declared.items.Item.TheVariants.{Ins, Mark, Jump}
use Rattle.code_items.specs.Items.{is_skip, skips, ItemFits}
use Rattle.code_items.specs.Lines.{Line, Here, Does, PageLow, PageHigh, Goes, settings, ahead, lines_of, lines, Placed}
use Rattle.code_items.proofs.LineLaws.{line_words}
use Rattle.page_layout.specs.Emitted.{instructions_of, words_of}
use Rattle.page_layout.specs.Words.{FollowFrom}
use Rattle.page_layout.proofs.MarkFacts.{AtMarks}

-- As many words as instructions, one after another, and instructions as lines have words.
pub words_of-length : (p : ℕ) (is : List Instr) → length (words_of p is) ≡ length is
words_of-length p [] = refl
words_of-length p (i ∷ is) = ap suc (words_of-length (p + 1) is)

pub words_of-follow : (p : ℕ) (is : List Instr) → FollowFrom p (words_of p is)
words_of-follow p [] = tt
words_of-follow p (i ∷ is) = (refl, words_of-follow (p + 1) is)

pub words_of-rise : (p : ℕ) (is : List Instr) → AllByRecursion FieldsFit is → p + length is ≤ 8192 → RisesFrom p (words_of p is)
words_of-rise p [] fit top = tt
words_of-rise p (i ∷ is) fit top = (omega arith, omega arith, word_below i fit.0, words_of-rise (p + 1) is fit.1 (omega arith))

pub instructions-length : (marks : ℕ → ℕ) (ls : List Line) → length (instructions_of marks ls) ≡ line_words ls
instructions-length marks [] = refl
instructions-length marks (Here m ∷ ls) = instructions-length marks ls
instructions-length marks (Does i ∷ ls) = omega (arith, instructions-length marks ls)
instructions-length marks (PageLow m ∷ ls) = omega (arith, instructions-length marks ls)
instructions-length marks (PageHigh m ∷ ls) = omega (arith, instructions-length marks ls)
instructions-length marks (Goes m ∷ ls) = omega (arith, instructions-length marks ls)

-- Their fields fit.
setting-fits : (b : ℕ) (v : Bool) → b < 8 → FieldsFit (setting b v)
setting-fits b true small = (omega arith, small)
setting-fits b false small = (omega arith, small)

abbrev pub LineFits : Line → Type 0
LineFits (Does i) = FieldsFit i
LineFits (Here m) = Unit {0}
LineFits (PageLow m) = Unit {0}
LineFits (PageHigh m) = Unit {0}
LineFits (Goes m) = Unit {0}

pub instructions-fit : (marks : ℕ → ℕ) (ls : List Line) → AllByRecursion LineFits ls → AllByRecursion FieldsFit (instructions_of marks ls)
instructions-fit marks [] fit = tt
instructions-fit marks (Here m ∷ ls) fit = instructions-fit marks ls fit.1
instructions-fit marks (Does i ∷ ls) fit = (fit.0, instructions-fit marks ls fit.1)
instructions-fit marks (PageLow m ∷ ls) fit = (setting-fits 3 (low_page (marks m)) (omega arith), instructions-fit marks ls fit.1)
instructions-fit marks (PageHigh m ∷ ls) fit = (setting-fits 4 (high_page (marks m)) (omega arith), instructions-fit marks ls fit.1)
instructions-fit marks (Goes m ∷ ls) fit = (omega arith, instructions-fit marks ls fit.1)

fit-append : (xs ys : List Line) → AllByRecursion LineFits xs → AllByRecursion LineFits ys → AllByRecursion LineFits (xs ++ ys)
fit-append [] ys first second = second
fit-append (x ∷ xs) ys first second = (first.0, fit-append xs ys first.1 second)

settings-fit : (paged : Bool) (m : ℕ) → AllByRecursion LineFits (settings paged m)
settings-fit true m = (tt, (tt, tt))
settings-fit false m = tt

ahead-fit : (paged : Bool) (items : List Item) → AllByRecursion LineFits (ahead paged items)
ahead-fit paged [] = tt
ahead-fit paged (Ins i ∷ items) = tt
ahead-fit paged (Mark m ∷ items) = tt
ahead-fit paged (Jump m ∷ items) = settings-fit paged m

ins-fit : (skip : Bool) (i : Instr) (coming : List Line) → FieldsFit i → AllByRecursion LineFits coming → AllByRecursion LineFits (if skip then coming ++ Does i ∷ [] else Does i ∷ [])
ins-fit true i coming fit before = fit-append coming (Does i ∷ []) before (fit, tt)
ins-fit false i coming fit before = (fit, tt)

lines_of-fit : (held paged : Bool) (item : Item) (coming : List Line) → ItemFits item → AllByRecursion LineFits coming → AllByRecursion LineFits (lines_of held paged item coming)
lines_of-fit held paged (Ins i) coming fit before = ins-fit (is_skip i) i coming fit before
lines_of-fit held paged (Mark m) coming fit before = (tt, tt)
lines_of-fit true paged (Jump m) coming fit before = (tt, tt)
lines_of-fit false paged (Jump m) coming fit before = fit-append (settings paged m) (Goes m ∷ []) (settings-fit paged m) (tt, tt)

pub lines-fit : (held paged : Bool) (items : List Item) → AllByRecursion ItemFits items → AllByRecursion LineFits (lines held paged items)
lines-fit held paged [] fit = tt
lines-fit held paged (item ∷ items) fit =
    fit-append (lines_of held paged item (ahead paged items)) (lines (skips item) paged items)
    (lines_of-fit held paged item (ahead paged items) fit.0 (ahead-fit paged items))
    (lines-fit (skips item) paged items fit.1)

-- Program memory has these instructions at successive addresses.
abbrev pub Reads : (ℕ → ℕ) → ℕ → List Instr → Type 0
Reads program p [] = Unit {0}
Reads program p (i ∷ is) = Is program p i × Reads program (p + 1) is

-- It has those of words that were placed there.
module _ (program : ℕ → ℕ) where
  pub reads : (p : ℕ) (is : List Instr) → AllByRecursion FieldsFit is → ((address : ℕ) → p ≤ address → program address ≡ word_at (words_of p is) address) → Reads program p is
  reads p [] fit same = tt
  reads p (i ∷ is) fit same =
      let here : program p ≡ word_of i =
      same p (omega arith) ∙ ap (λ b. elim b [ true ↦ word_of i | false ↦ word_at (words_of (p + 1) is) p ]) (eq-eqb p p refl) in (
        ap instruction_of here ∙ written-found i fit.0,
        reads (p + 1) is fit.1 (λ address from.
            same address (omega arith)
            ∙ ap (λ b. elim b [ true ↦ word_of i | false ↦ word_at (words_of (p + 1) is) address ]) (ne_eqb p address (λ e. omega arith))),
      )

  -- The place of a word is its address.
  at_place : (p n : ℕ) (i : Instr) → p + (1 + n) ≤ 8192 → Is program p i → Is program (p % 8192) i
  at_place p n i top is = let e : p ≡ p % 8192 = omega arith in subst (λ q. Is program q i) e is

  go_on : (p : ℕ) → (p + 1) % 8192 ≡ next (p % 8192)
  go_on p = omega arith

  stop_at : (p n : ℕ) → (p + 1 + n) % 8192 ≡ (p + (1 + n)) % 8192
  stop_at p n = omega arith

  module _ (marks : ℕ → ℕ) (below : (m : ℕ) → marks m < 8192) where
    -- The lines behind one with a word.
    abbrev pub From : ℕ → List Line → Type 0
    From p ls = Placed program marks (p % 8192) ls ((p + line_words ls) % 8192)

    later : (p : ℕ) (ls : List Line) → From (p + 1) ls → Placed program marks (next (p % 8192)) ls ((p + (1 + line_words ls)) % 8192)
    later p ls placed =
        subst (λ q. Placed program marks (next (p % 8192)) ls q) (stop_at p (line_words ls))
        (subst (λ q. Placed program marks q ls ((p + 1 + line_words ls) % 8192)) (go_on p) placed)

    pub places_lines : (p : ℕ) (ls : List Line) → p + line_words ls ≤ 8192 → AtMarks marks p ls → Reads program p (instructions_of marks ls) → From p ls
    places_lines p [] top at read = let e : p % 8192 ≡ (p + 0) % 8192 = omega arith in e
    places_lines p (Here m ∷ ls) top at read = (at.0, places_lines p ls top at.1 read)
    places_lines p (Does i ∷ ls) top at read = (at_place p (line_words ls) i top read.0, later p ls (places_lines (p + 1) ls (omega arith) at read.1))
    places_lines p (PageLow m ∷ ls) top at read =
        (at_place p (line_words ls) (setting 3 (low_page (marks m))) top read.0, later p ls (places_lines (p + 1) ls (omega arith) at read.1))
    places_lines p (PageHigh m ∷ ls) top at read =
        (at_place p (line_words ls) (setting 4 (high_page (marks m))) top read.0, later p ls (places_lines (p + 1) ls (omega arith) at read.1))
    places_lines p (Goes m ∷ ls) top at read =
        (at_place p (line_words ls) (Goto (marks m % 2048)) top read.0, below m, later p ls (places_lines (p + 1) ls (omega arith) at read.1))
