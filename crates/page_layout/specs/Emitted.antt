-- The instructions and the words of lines.
use Rattle.std.specs.Prelude.{ℕ, ◌+◌, ◌%◌, Bool, if◌then◌else◌, List, [], ◌∷◌, get_or}
use Rattle.pic_isa.specs.declared.instructions.Instr.{Instr}
use Rattle.pic_isa.specs.declared.instructions.Instr.TheVariants.{Goto}
use Rattle.pic_isa.specs.Instructions.{word_of}
use Rattle.hex_file.specs.declared.images.Word.{Word}
use Rattle.code_steps.specs.Jumps.{high_page, low_page, setting}
use Rattle.code_items.specs.Lines.{Line, Here, Does, PageLow, PageHigh, Goes}

-- The address of each mark by a list, and 0 past its end.
abbrev pub places : List ℕ → ℕ → ℕ
places list m = get_or list m 0

-- The page settings of an address, where the code has such.
abbrev pub page_instructions : (paged : Bool) → ℕ → List Instr
page_instructions paged address = if paged then setting 3 (low_page address) ∷ setting 4 (high_page address) ∷ [] else []

-- The instructions of lines, when each mark stands where `marks` says.
abbrev pub instructions_of : (ℕ → ℕ) → List Line → List Instr
instructions_of marks [] = []
instructions_of marks (Here m ∷ rest) = instructions_of marks rest
instructions_of marks (Does i ∷ rest) = i ∷ instructions_of marks rest
instructions_of marks (PageLow m ∷ rest) = setting 3 (low_page (marks m)) ∷ instructions_of marks rest
instructions_of marks (PageHigh m ∷ rest) = setting 4 (high_page (marks m)) ∷ instructions_of marks rest
instructions_of marks (Goes m ∷ rest) = Goto (marks m % 2048) ∷ instructions_of marks rest

-- The words of instructions, from an address on.
abbrev pub words_of : ℕ → List Instr → List Word
words_of address [] = []
words_of address (i ∷ is) = record { address = address; word = word_of i } ∷ words_of (address + 1) is
