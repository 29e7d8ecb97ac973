-- Items of code: their words, their marks, and where they end in a skip instruction.
use Rattle.std.specs.Prelude.{ℕ, ◌+◌, ◌<◌, ◌^◌, Bool, true, false, nat_lt, ◌==◌, if◌then◌else◌, List, [], ◌∷◌}
use Rattle.pic_isa.specs.declared.instructions.Instr.{Instr}
use Rattle.pic_isa.specs.declared.instructions.Instr.TheVariants.{Btfsc, Btfss, Decfsz, Incfsz}
use Rattle.pic_isa.specs.Instructions.{FieldsFit}
use Rattle.code_items.specs.declared.items.Item.{Item}
use Rattle.code_items.specs.declared.items.Item.TheVariants.{Ins, Mark, Jump}

-- The instructions that may skip the next one: BTFSC, BTFSS, DECFSZ, INCFSZ.
abbrev pub is_skip : Instr → Bool
is_skip (Btfsc f b) = true
is_skip (Btfss f b) = true
is_skip (Decfsz f d) = true
is_skip (Incfsz f d) = true
is_skip _ = false

-- An item is a skip instruction; and whether items end in one, where `held` tells that of the item before them.
abbrev pub skips : Item → Bool
skips (Ins i) = is_skip i
skips (Mark m) = false
skips (Jump m) = false

abbrev pub ends_skipping : (held : Bool) → List Item → Bool
ends_skipping held [] = held
ends_skipping held (item ∷ items) = ends_skipping (skips item) items

-- An item with its mark or jump raised; that this is a number of 32 bits.
abbrev pub raised : ℕ → Item → Item
raised up (Ins i) = Ins i
raised up (Mark m) = Mark (m + up)
raised up (Jump m) = Jump (m + up)

abbrev pub RaisedFits : ℕ → Item → Type 0
RaisedFits up (Ins i) = Unit {0}
RaisedFits up (Mark m) = (m + up < 2 ^ 32)
RaisedFits up (Jump m) = (m + up < 2 ^ 32)

-- The fields of an instruction are in range.
abbrev pub ItemFits : Item → Type 0
ItemFits (Ins i) = FieldsFit i
ItemFits (Mark m) = Unit {0}
ItemFits (Jump m) = Unit {0}

-- How often a mark stands in items.
abbrev pub marks_it : ℕ → Item → ℕ
marks_it m (Mark n) = if n == m then 1 else 0
marks_it m (Ins i) = 0
marks_it m (Jump n) = 0

abbrev pub times : ℕ → List Item → ℕ
times m [] = 0
times m (item ∷ items) = marks_it m item + times m items

-- Each mark stands at most once; all marks are ones with P.
abbrev pub OnceEach : List Item → Type 0
OnceEach items = (m : ℕ) → times m items < 2

abbrev pub OnlyMarks : (ℕ → Type 0) → List Item → Type 0
OnlyMarks P [] = Unit {0}
OnlyMarks P (Ins i ∷ items) = OnlyMarks P items
OnlyMarks P (Mark m ∷ items) = P m × OnlyMarks P items
OnlyMarks P (Jump m ∷ items) = OnlyMarks P items

-- The words of an item and of items, with page settings and without: a jump has two settings and a GOTO, or the GOTO alone.
abbrev pub words_of_item : (paged : Bool) → Item → ℕ
words_of_item paged (Ins i) = 1
words_of_item paged (Mark m) = 0
words_of_item paged (Jump m) = if paged then 3 else 1

abbrev pub words_in : (paged : Bool) → List Item → ℕ
words_in paged [] = 0
words_in paged (item ∷ items) = words_of_item paged item + words_in paged items

-- Code has page settings where it has more than 2,048 instructions and jumps.
abbrev pub has_pages : List Item → Bool
has_pages items = nat_lt 2048 (words_in false items)
