-- Code on four pages, as the test builds it.
use Rattle.std.specs.Prelude.{ℕ, List, [], ◌∷◌, ◌++◌, replicate}
use Rattle.pic_isa.specs.declared.instructions.Instr.TheVariants.{Btfsc, Btfss, Nop}
use Rattle.code_items.specs.declared.items.Item.{Item}
use Rattle.code_items.specs.declared.items.Item.TheVariants.{Ins, Mark, Jump}

-- Four pieces with NOPs between them.
abbrev pub four_pages : ℕ → List Item
four_pages gap =
    let nops = replicate gap (Ins Nop) in
    let first = Mark 0 ∷ Ins (Btfsc 0x0B 2) ∷ Jump 3 ∷ Ins (Btfss 0x0B 2) ∷ Jump 1 ∷ [] in
    first ++ nops ++ Mark 2 ∷ Jump 3 ∷ [] ++ nops ++ Mark 1 ∷ Jump 2 ∷ [] ++ nops ++ Mark 3 ∷ Jump 0 ∷ []
