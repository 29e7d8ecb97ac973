-- What firmware is made of, and the pieces of its code in order.
use Rattle.std.specs.Prelude.{ℕ, ◌-◌, ◌==◌, false, nat_le, nat_lt, if◌then◌else◌, List, [], ◌∷◌, ◌++◌, length, map, replicate, reverse}
use Rattle.frp_tree.specs.Tree.{ProgramTree}
use Rattle.efrp_meaning.specs.Bounds.{levels}
use Rattle.pic_isa.specs.declared.instructions.Instr.TheVariants.{Nop}
use Rattle.pic_isa.specs.declared.sources.Source.{Source}
use Rattle.bank_alloc.specs.declared.needs.Needs.{Needs}
use Rattle.priority_masks.specs.Levels.{level_of}
use Rattle.code_steps.specs.declared.banks.Bank.{Bank}
use Rattle.code_items.specs.declared.items.Item.{Item}
use Rattle.code_items.specs.declared.items.Item.TheVariants.{Ins}
use Rattle.code_items.specs.Items.{words_in}
use Rattle.code_items.specs.Places.{joined}
use Rattle.glue_steps.specs.declared.lines.Line.{Line}
use Rattle.glue_parts.specs.declared.moves.Move.{Move}
use Rattle.glue_parts.specs.declared.spread.Spread.{Spread}
use Rattle.scratch_commit.specs.declared.kinds.Kind.{Kind}
use Rattle.scratch_commit.specs.declared.kinds.Kind.TheVariants.{Short, Long, Bottom, Middle}
use Rattle.scratch_commit.specs.Plans.{Plan, run_items}
use Rattle.isr_vector.specs.Booting.{boot_lines}
use Rattle.isr_vector.specs.Taking.{context_of, taking_items}
use Rattle.isr_vector.specs.Urgency.{by_urgency}
use Rattle.isr_vector.specs.Vector.{boot_items, head_items}
use Rattle.firmware_parts.specs.Times.{short_work}
use Rattle.firmware_layout.specs.Heard.{heard}

-- What firmware is made of: the program, the bytes that are placed, and how far it is spread; and by the number of an event its source,
-- the items of its work with the bank behind them and the number of its cells, and what its window moves.
pub record Makings : Type 0 where
  pub p : ProgramTree
  pub need : Needs
  pub spread : Spread
  pub source : ℕ → Source
  pub work : ℕ → List Item
  pub bank : ℕ → Bank
  pub cells : ℕ → ℕ
  pub moves : ℕ → List Move

-- The kind of an event's run: of several levels the lowest has its own, and so have those between. In the highest interrupts stay off
-- where the work has few instructions.
abbrev pub kind_of : Makings → ℕ → Kind
kind_of f event =
    if nat_lt (level_of f.p event) (levels f.p) then (if level_of f.p event == 1 then Bottom else Middle)
    else if nat_le (length (f.work event)) (short_work f.p) then Short
    else Long

-- The plan of an event's run.
abbrev pub plan_in : Makings → ℕ → Plan
plan_in f event = record {
  event = event;
  source = f.source event;
  kind = kind_of f event;
  level = level_of f.p event;
  levels = levels f.p;
  heard = record { idle = heard f.p 0; own = heard f.p (level_of f.p event); beneath = heard f.p (level_of f.p event - 1) };
  need = f.need;
  spread = f.spread;
  work = f.work event;
  bank = f.bank event;
  moves = f.moves event;
}

-- The lines of the boot, and the items from a taking on.
abbrev pub lines_of_boot : Makings → List Line
lines_of_boot f = boot_lines f.p f.need (heard f.p 0)

abbrev pub taking_of : Makings → List Item
taking_of f = taking_items f.source (context_of f.p f.spread) f.spread.pages (by_urgency f.p)

-- The pieces: from address 0 on the first lines of the boot and the taking; the rest of the boot; and the runs, from the least urgent
-- event to the most urgent.
abbrev pub head_of : Makings → List Item
head_of f = head_items f.spread.pages (lines_of_boot f) (taking_of f)

abbrev pub boot_of : Makings → List Item
boot_of f = boot_items f.spread.pages (lines_of_boot f) (taking_of f)

abbrev pub run_of : Makings → ℕ → List Item
run_of f event = run_items (plan_in f event)

abbrev pub runs_of : Makings → List (List Item)
runs_of f = map (run_of f) (reverse (by_urgency f.p))

-- Code of several pages has more than 2,048 instructions, so that it has page settings: where any are missing, NOPs fill up.
abbrev pub filler_of : Makings → List Item
filler_of f = replicate (2049 - words_in false (joined (head_of f ∷ boot_of f ∷ runs_of f))) (Ins Nop)

-- On one page the least urgent run stands directly behind the taking, and the boot comes last; on several the boot comes first.
abbrev pub pieces_of : Makings → List (List Item)
pieces_of f =
    if f.spread.pages then head_of f ∷ boot_of f ∷ (runs_of f ++ filler_of f ∷ [])
    else head_of f ∷ (runs_of f ++ boot_of f ∷ [])

-- The items of all code.
abbrev pub items_of : Makings → List Item
items_of f = joined (pieces_of f)
