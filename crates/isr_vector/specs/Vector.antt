-- The items of the vector: at address 0 the first lines of the boot, then from address 4 on the taking; and the rest of the boot.
use Rattle.std.specs.Prelude.{◌≡◌, ℕ, ◌+◌, Bool, true, if◌then◌else◌, List, [], ◌∷◌, ◌++◌, length, map, take, drop}
use Rattle.frp_tree.specs.Tree.{ProgramTree}
use Rattle.pic_isa.specs.declared.instructions.Instr.TheVariants.{Goto}
use Rattle.pic_isa.specs.declared.sources.Source.{Source}
use Rattle.pic_regs.specs.declared.places.Place.TheVariants as place
use Rattle.bank_alloc.specs.declared.needs.Needs.{Needs}
use Rattle.priority_masks.specs.declared.tables.Enables.{Enables}
use Rattle.code_items.specs.declared.items.Item.{Item}
use Rattle.code_items.specs.declared.items.Item.TheVariants.{Ins, Mark, Jump}
use Rattle.code_items.specs.Items.{words_in}
use Rattle.glue_steps.specs.declared.lines.Line.{Line}
use Rattle.glue_steps.specs.declared.lines.Line.TheVariants.{Bit}
use Rattle.glue_steps.specs.Lines.{item_of}
use Rattle.glue_parts.specs.declared.spread.Spread.{Spread}
use Rattle.glue_parts.specs.Marks.{Boot, Ready, mark}
use Rattle.isr_vector.specs.declared.code.VectorCode.{VectorCode}
use Rattle.isr_vector.specs.Booting.{boot_lines}
use Rattle.isr_vector.specs.Taking.{context_of, taking_items}

-- The vector's own gotos: to a mark; in code of several pages to its address, since they are one word each there too.
abbrev pub own_goto : (paged : Bool) → (mark address : ℕ) → Item
own_goto paged m address = if paged then Ins (Goto address) else Jump m

-- Where the rest of the boot stands in code of several pages, directly behind the taking; and the ready address there, behind the
-- lines of the rest and the one that turns interrupts on.
abbrev pub boot_place : (taking : List Item) → ℕ
boot_place taking = 4 + words_in true taking

abbrev pub ready_place : (taking : List Item) → (rest : List Line) → ℕ
ready_place taking rest = boot_place taking + length rest + 1

-- GIE is bit 7 of INTCON.
abbrev pub turns_on : Line
turns_on = Bit true place.Intcon 7

-- The two pieces, by the lines of the boot and the items of the taking. At the ready address the code goes to itself.
abbrev pub head_items : (paged : Bool) → List Line → (taking : List Item) → List Item
head_items paged lines taking = map item_of (take 3 lines) ++ own_goto paged (mark Boot) (boot_place taking) ∷ taking

abbrev pub boot_items : (paged : Bool) → List Line → (taking : List Item) → List Item
boot_items paged lines taking =
    let rest = drop 3 lines in
    Mark (mark Boot) ∷ map item_of rest ++ (item_of turns_on ∷ Mark (mark Ready) ∷ own_goto paged (mark Ready) (ready_place taking rest) ∷ [])

-- This code is the vector of a program: with these enables turned on, and these sources of events, which are tested in this order.
pub record IsVector (p : ProgramTree) (need : Needs) (enables : Enables) (source : ℕ → Source) (order : List ℕ) (spread : Spread) (code : VectorCode) : Type 0 where
  pub head : code.head.items ≡ head_items spread.pages (boot_lines p need enables) (taking_items source (context_of p spread) spread.pages order)
  pub boot : code.boot.items ≡ boot_items spread.pages (boot_lines p need enables) (taking_items source (context_of p spread) spread.pages order)
