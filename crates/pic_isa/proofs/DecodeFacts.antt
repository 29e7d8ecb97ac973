-- What an answer that is `instruction_of` says of rows.
use Rattle.std.proofs.Common.{◌≡◌, ℕ, ◌<◌, Option, Some, None, IfSome, IfNone, sym, ◌∙◌}
use Rattle.pic_isa.specs.declared.instructions.Instr.{Instr}
use Rattle.pic_isa.specs.Instructions.{FieldsFit, IsWordOf, instruction_of}
use Rattle.pic_isa.proofs.RowLaws.{found-is_row, row-found}

pub its_row : (word : ℕ) (found : Option Instr) → word < 0x4000 → found ≡ instruction_of word → IfSome found (λ i. IsWordOf i word × FieldsFit i)
its_row word (Some i) below e = found-is_row word i below (sym e)
its_row word None below e = tt

pub no_row : (word : ℕ) (found : Option Instr) → found ≡ instruction_of word → IfNone found ((i : Instr) → FieldsFit i → IsWordOf i word → ⊥)
no_row word (Some i) e = tt
no_row word None e = λ i fit is. cc (e ∙ row-found i word fit is)
