-- Tests of flags one after another: each a BTFSC of a source's flag with a jump behind it, which is made where the flag is set.
use Rattle.std.specs.Prelude.{◌≡◌, ℕ, ◌+◌, ◌%◌, Bool, true, false, not, List, [], ◌∷◌, ◌++◌}
use Rattle.pic_isa.specs.declared.instructions.Instr.{Instr}
use Rattle.pic_isa.specs.declared.instructions.Instr.TheVariants.{Btfsc}
use Rattle.pic_isa.specs.declared.sources.Source.{Source}
use Rattle.pic_isa.specs.Sources.{flag_of}
use Rattle.pic_regs.specs.Registers.{flag}
use Rattle.pic_machine.specs.Chip.{Chip}
use Rattle.code_steps.specs.Between.{Alone, placed_at}
use Rattle.code_steps.specs.Jumps.{Reaches, with_page}
use Rattle.code_items.specs.declared.items.Item.{Item}
use Rattle.code_items.specs.declared.items.Item.TheVariants.{Ins, Jump}
use Rattle.code_items.specs.Items.{words_in}
use Rattle.glue_steps.specs.Jumping.{SkipWithin}

-- A source, and the mark to which the code jumps where its flag is set.
pub record FlagTest : Type 0 where
  pub source : Source
  pub entry : ℕ

-- The instruction that skips where a flag is clear, and the items of tests before others.
abbrev pub skip_of : Source → Instr
skip_of source = Btfsc (flag_of source).address (flag_of source).bit

abbrev pub test_items : List FlagTest → (rest : List Item) → List Item
test_items [] rest = rest
test_items (t ∷ ts) rest = Ins (skip_of t.source) ∷ Jump t.entry ∷ test_items ts rest

-- The words of tests.
abbrev pub test_words : (paged : Bool) → List FlagTest → ℕ
test_words paged ts = words_in paged (test_items ts [])

-- The words of tests that stand from a place on lie at places with In, and each mark is reached.
abbrev pub TestsWithin : (In : ℕ → Type 0) → Bool → ℕ → List FlagTest → Type 0
TestsWithin In paged p [] = Unit {0}
TestsWithin In paged p (t ∷ ts) =
    SkipWithin In paged p t.entry (skip_of t.source) × TestsWithin In paged ((p + test_words paged (t ∷ [])) % 8192) ts

abbrev pub TestsReach : Bool → (marks : ℕ → ℕ) → List FlagTest → Chip → Type 0
TestsReach paged marks [] c = Unit {0}
TestsReach paged marks (t ∷ ts) c = Reaches paged (marks t.entry) c × TestsReach paged marks ts c

-- The chip `e` is `c` at another place, with another PCLATH, and after arrivals.
abbrev pub Moved : (c e : Chip) → Type 0
Moved c e = Alone (placed_at e.pc e.regs.pclath c) e

-- The flags of all of these sources are clear.
abbrev pub AllClear : List FlagTest → Chip → Type 0
AllClear [] c = Unit {0}
AllClear (t ∷ ts) c = (flag t.source c.regs ≡ false) × AllClear ts c

-- What tests that are begun on `c` found where they came to `e`: the flag of the last one that was made is set, those of the
-- ones before it were clear on `c`, and the code is at its mark.
pub record Found (marks : ℕ → ℕ) (ts : List FlagTest) (c e : Chip) : Type 0 where
  pub before : List FlagTest
  pub test : FlagTest
  pub behind : List FlagTest
  pub among : ts ≡ before ++ test ∷ behind
  pub clear : AllClear before c
  pub set : flag test.source e.regs ≡ true
  pub there : e.pc ≡ marks test.entry
  pub page : e.regs.pclath ≡ with_page (marks test.entry) e.regs.pclath
  pub moved : Moved c e

-- Or they found none.
pub record FoundNone (place : ℕ) (ts : List FlagTest) (c e : Chip) : Type 0 where
  pub clear : AllClear ts c
  pub there : e.pc ≡ place
  pub moved : Moved c e
