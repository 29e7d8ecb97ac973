-- Items as lines, with page settings written out; and program memory that has them from a place on.
use Rattle.std.specs.Prelude.{◌≡◌, ℕ, ◌<◌, ◌%◌, Bool, false, if◌then◌else◌, List, [], ◌∷◌, ◌++◌}
use Rattle.pic_isa.specs.declared.instructions.Instr.{Instr}
use Rattle.pic_isa.specs.declared.instructions.Instr.TheVariants.{Goto}
use Rattle.code_steps.specs.Steps.{next, Is}
use Rattle.code_steps.specs.Jumps.{high_page, low_page, setting}
use Rattle.code_items.specs.declared.items.Item.{Item}
use Rattle.code_items.specs.declared.items.Item.TheVariants.{Ins, Mark, Jump}
use Rattle.code_items.specs.Items.{is_skip, skips}

-- A line: the place of a mark, or a word: an instruction, the setting of PCLATH's bit 3 or bit 4 for a mark, or the GOTO to it.
pub data Line : Type 0 where
  Here : ℕ → Line
  Does : Instr → Line
  PageLow : ℕ → Line
  PageHigh : ℕ → Line
  Goes : ℕ → Line

-- The page settings of a mark, where the code has such.
abbrev pub settings : (paged : Bool) → ℕ → List Line
settings paged m = if paged then PageLow m ∷ PageHigh m ∷ [] else []

-- Those of the jump that items begin with.
abbrev pub ahead : (paged : Bool) → List Item → List Line
ahead paged [] = []
ahead paged (Ins i ∷ items) = []
ahead paged (Mark m ∷ items) = []
ahead paged (Jump m ∷ items) = settings paged m

-- The lines of an item. Where it is a skip instruction, `coming` are the settings of the jump directly behind it, which stand
-- before it; where it is a jump and `held` holds, a skip instruction stands directly before it and after its settings.
abbrev pub lines_of : (held paged : Bool) → Item → (coming : List Line) → List Line
lines_of held paged (Ins i) coming = if is_skip i then coming ++ Does i ∷ [] else Does i ∷ []
lines_of held paged (Mark m) coming = Here m ∷ []
lines_of held paged (Jump m) coming = if held then Goes m ∷ [] else settings paged m ++ Goes m ∷ []

-- The lines of items.
abbrev pub lines : (held paged : Bool) → List Item → List Line
lines held paged [] = []
lines held paged (item ∷ items) = lines_of held paged item (ahead paged items) ++ lines (skips item) paged items

-- Program memory has these lines from one place to another, each word at the next address, when each mark stands where
-- `marks` says.
abbrev pub Placed : (program : ℕ → ℕ) (marks : ℕ → ℕ) → ℕ → List Line → ℕ → Type 0
Placed program marks p [] q = p ≡ q
Placed program marks p (Here m ∷ rest) q = (marks m ≡ p) × Placed program marks p rest q
Placed program marks p (Does i ∷ rest) q = Is program p i × Placed program marks (next p) rest q
Placed program marks p (PageLow m ∷ rest) q = Is program p (setting 3 (low_page (marks m))) × Placed program marks (next p) rest q
Placed program marks p (PageHigh m ∷ rest) q = Is program p (setting 4 (high_page (marks m))) × Placed program marks (next p) rest q
Placed program marks p (Goes m ∷ rest) q = Is program p (Goto (marks m % 2048)) × (marks m < 8192) × Placed program marks (next p) rest q

-- Program memory has these items from the place `p` to the place `q`.
abbrev pub Stands : (paged : Bool) (program : ℕ → ℕ) (marks : ℕ → ℕ) → ℕ → List Item → ℕ → Type 0
Stands paged program marks p items q = Placed program marks p (lines false paged items) q

-- In holds of the address of each word of lines that stand from `p` on.
abbrev pub Within : (In : ℕ → Type 0) → ℕ → List Line → Type 0
Within In p [] = Unit {0}
Within In p (Here m ∷ rest) = Within In p rest
Within In p (_ ∷ rest) = In p × Within In (next p) rest
