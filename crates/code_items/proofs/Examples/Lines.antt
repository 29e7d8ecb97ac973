-- Lines of items and where they stand, computed at examples.
use Rattle.std.proofs.Common.{◌≡◌, ℕ, ◌==◌, if◌then◌else◌, true, false, List, [], ◌∷◌, map, refl, arith}
use Rattle.pic_isa.specs.declared.instructions.Instr.TheVariants.{Btfsc, Nop}
use Rattle.code_items.specs.declared.items.Item.{Item}
use Rattle.code_items.specs.declared.items.Item.TheVariants.{Ins, Mark, Jump}
use Rattle.code_items.specs.Items.{ends_skipping, has_pages, raised, times, words_in}
use Rattle.code_items.specs.Lines.{Here, Does, PageLow, PageHigh, Goes, lines, Stands}
use Rattle.code_items.specs.Places.{base, joined}

-- A loop that waits for bit 2 of INTCON, and a jump.
abbrev waits : List Item
waits = Mark 7 ∷ Ins (Btfsc 0x0B 2) ∷ Jump 9 ∷ Jump 7 ∷ Mark 9 ∷ Ins Nop ∷ []

-- Without page settings each instruction and each jump is a word.
short : lines false false waits ≡ Here 7 ∷ Does (Btfsc 0x0B 2) ∷ Goes 9 ∷ Goes 7 ∷ Here 9 ∷ Does Nop ∷ []
short = refl

-- With them a jump has three, and those of the jump behind the skip instruction stand before it.
long : lines false true waits ≡ Here 7 ∷ PageLow 9 ∷ PageHigh 9 ∷ Does (Btfsc 0x0B 2) ∷ Goes 9 ∷ PageLow 7 ∷ PageHigh 7 ∷ Goes 7 ∷ Here 9 ∷ Does Nop ∷ []
long = refl

short_words : words_in false waits ≡ 4
short_words = refl

long_words : words_in true waits ≡ 8
long_words = refl

has_none : has_pages waits ≡ false
has_none = refl

ends_in_none : ends_skipping false waits ≡ false
ends_in_none = refl

ends_in_one : ends_skipping false (Ins Nop ∷ Ins (Btfsc 0x0B 2) ∷ Mark 3 ∷ Ins (Btfsc 0x0B 1) ∷ []) ≡ true
ends_in_one = refl

raised_by_16 : map (raised 16) waits ≡ Mark 23 ∷ Ins (Btfsc 0x0B 2) ∷ Jump 25 ∷ Jump 23 ∷ Mark 25 ∷ Ins Nop ∷ []
raised_by_16 = refl

mark_7_once : times 7 waits ≡ 1
mark_7_once = refl

-- The words from 1FFEh on: BTFSC INTCON,2; GOTO 0001h; GOTO 1FFEh; NOP. After the last address comes the first.
abbrev program : ℕ → ℕ
program address = if address == 0x1FFE then 0x190B else if address == 0x1FFF then 0x2801 else if address == 0 then 0x2FFE else 0x0000

abbrev places : ℕ → ℕ
places m = if m == 7 then 0x1FFE else 1

it_stands : Stands false program places 0x1FFE waits 2
it_stands = (refl, (refl, (refl, omega arith, (refl, omega arith, (refl, (refl, refl))))))

-- Two pieces of these words begin at 0 and 4.
second_base : base false (waits ∷ waits ∷ []) 1 ≡ 4
second_base = refl

whole : words_in false (joined (waits ∷ waits ∷ [])) ≡ 8
whole = refl
