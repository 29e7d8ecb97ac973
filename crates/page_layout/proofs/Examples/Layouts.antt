-- Addresses of marks and words of items, computed at examples.
use Rattle.std.proofs.Common.{◌≡◌, ℕ, true, false, List, [], ◌∷◌, refl}
use Rattle.pic_isa.specs.declared.instructions.Instr.TheVariants.{Btfsc, Nop}
use Rattle.hex_file.specs.declared.images.Word.{Word}
use Rattle.code_items.specs.declared.items.Item.{Item}
use Rattle.code_items.specs.declared.items.Item.TheVariants.{Ins, Mark, Jump}
use Rattle.code_items.specs.Lines.{lines}
use Rattle.page_layout.specs.Emitted.{instructions_of, places, words_of}
use Rattle.page_layout.specs.Marks.{marks_after, marks_end, no_place}

-- A loop that waits for bit 2 of INTCON, and a jump behind it.
abbrev waits : List Item
waits = Mark 3 ∷ Ins (Btfsc 0x0B 2) ∷ Jump 1 ∷ Jump 3 ∷ Mark 1 ∷ Ins Nop ∷ []

four_places : marks_end waits ≡ 4
four_places = refl

-- Mark 1 is at 3 without page settings, and at 7 with them; mark 3 is at 0.
short : marks_after false 0 waits no_place 1 ≡ 3
short = refl

long : marks_after true 0 waits no_place 1 ≡ 7
long = refl

first : marks_after true 0 waits no_place 3 ≡ 0
first = refl

-- The address after the last is the first.
around : marks_after true 8185 waits no_place 1 ≡ 0
around = refl

abbrev at : ℕ → ℕ → Word
at address word = record { address = address; word = word }

-- BTFSC INTCON,2; GOTO 003h; GOTO 000h; NOP.
short_words : words_of 0 (instructions_of (places (0 ∷ 3 ∷ 0 ∷ 0 ∷ [])) (lines false false waits)) ≡ at 0 0x190B ∷ at 1 0x2803 ∷ at 2 0x2800 ∷ at 3 0x0000 ∷ []
short_words = refl

-- For mark 1 at 1A34h: BSF PCLATH,3; BSF PCLATH,4; BTFSC INTCON,2; GOTO 234h; BCF PCLATH,3; BCF PCLATH,4; GOTO 000h; NOP.
long_words : words_of 0 (instructions_of (places (0 ∷ 0x1A34 ∷ 0 ∷ 0 ∷ [])) (lines false true waits))
    ≡ at 0 0x158A ∷ at 1 0x160A ∷ at 2 0x190B ∷ at 3 0x2A34 ∷ at 4 0x118A ∷ at 5 0x120A ∷ at 6 0x2800 ∷ at 7 0x0000 ∷ []
long_words = refl
