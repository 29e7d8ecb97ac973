-- States and moves of a small program, computed over plain bytes.
use Rattle.std.specs.Prelude.{◌≡◌, ℕ, false, List, [], ◌∷◌, codes, refl}
use Rattle.frp_tree.specs.declared.syntax.Ty.TheVariants.{Bool, U8, U16}
use Rattle.frp_tree.specs.declared.syntax.Lit.TheVariants as lit
use Rattle.frp_tree.specs.Tree.{ProgramTree}
use Rattle.efrp_meaning.proofs.Examples.Programs.{on_go, plain, reactive, wide}
use Rattle.pic_regs.specs.declared.places.Place.TheVariants as place
use Rattle.pic_regs.specs.Bytes.{Byte, bits, updated, zeros}
use Rattle.bank_alloc.specs.declared.needs.Needs.{Needs}
use Rattle.glue_parts.specs.declared.moves.Move.{Move}
use Rattle.glue_parts.specs.Moves.{puts_by}
use Rattle.event_ops.specs.declared.results.EventOps.{EventOps}
use Rattle.event_code.specs.Moves.{moves_of, next_by}
use Rattle.event_code.specs.States.{state_in}

-- A bool, a u16 and a u8, with a definition between them that has no state: their cells are 0, 1 and 2, and 3. Six bytes of a level lie
-- before them, from 20h on, and three of scratch behind.
abbrev three : ProgramTree
three = on_go (
    reactive (codes "on") Bool (lit.Truth false) []
    ∷ plain (codes "most") U16 (wide 500)
    ∷ reactive (codes "t") U16 (lit.Wide 0) []
    ∷ reactive (codes "n") U8 (lit.Plain 0) [] ∷ [])

abbrev need : Needs
need = record { states = 4; levels = 1; scratch = 3 }

abbrev memory : ℕ → Byte
memory =
    updated (updated (updated (updated (updated (updated (updated (λ address. zeros) 0x026 (bits 1)) 0x027 (bits 0x34)) 0x028 (bits 0x12)) 0x029 (bits 200))
    0x02A (bits 7)) 0x02B (bits 9)) 0x02C (bits 1)

pub state_of_three : state_in three need memory ≡ 1 ∷ 0x1234 ∷ 200 ∷ []
state_of_three = refl

-- Cells 5 and 6 are copied to the u16, and cell 4 is put on PORTC.
abbrev ops : EventOps
ops = record {
  ops = [];
  copies = record { from = 5; to = 1 } ∷ record { from = 6; to = 2 } ∷ [];
  puts = record { from = 4; port = 2 } ∷ [];
  cells = 7;
}

pub next_of_three : next_by three need (moves_of need ops) memory ≡ 1 ∷ 0x0109 ∷ 200 ∷ []
next_of_three = refl

pub puts_of_three : puts_by (moves_of need ops) memory ≡ record { port = 2; byte = 7 } ∷ []
puts_of_three = refl

-- A byte that is put once another has been copied to it is that one.
abbrev through : List Move
through = record { from = place.Plain 0x02A; to = place.Plain 0x026 } ∷ record { from = place.Plain 0x026; to = place.Port 1 } ∷ []

pub puts_through : puts_by through memory ≡ record { port = 1; byte = 7 } ∷ []
puts_through = refl
