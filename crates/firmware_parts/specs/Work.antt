-- What the items of an event's work do, wherever they stand.
use Rattle.std.specs.Prelude.{◌≡◌, ℕ, ◌+◌, ◌%◌, ◌<◌, ◌≤◌, Bool, true, false, List, length}
use Rattle.std.specs.List.{AllByRecursion}
use Rattle.frp_tree.specs.Tree.{ProgramTree}
use Rattle.efrp_meaning.specs.States.{IsState}
use Rattle.pic_isa.specs.declared.instructions.Instr.{Instr}
use Rattle.pic_machine.specs.Chip.{Chip}
use Rattle.pic_machine.specs.Results.{Done}
use Rattle.map_file.specs.declared.maps.Map.{Map}
use Rattle.code_steps.specs.declared.banks.Bank.{Bank}
use Rattle.code_steps.specs.declared.banks.Bank.TheVariants.{Known}
use Rattle.code_steps.specs.Steps.{Comes}
use Rattle.code_steps.specs.Between.{Others, Alone}
use Rattle.code_steps.specs.Ends.{Holds, Own}
use Rattle.code_items.specs.declared.items.Item.{Item}
use Rattle.code_items.specs.Items.{ItemFits, ends_skipping, times}
use Rattle.code_items.specs.Lines.{Stands}
use Rattle.firmware_parts.specs.Layout.{Layout, Part}
use Rattle.firmware_parts.specs.Layout.Part.{Work}
use Rattle.firmware_parts.specs.Runs.{Reacts}

-- A step of the items of an event's work, from one place up to another: it leaves PCLATH; and bank 0 chosen, where the work may be
-- interrupted and no taking saves the bank bits.
pub record WorkOwn (l : Layout) (e start stop : ℕ) (d : Chip) (done : Done) : Type 0 where
  pub own : Own (λ address. l.may (Work e) address ≡ true) start stop d done
  pub page : done.chip.regs.pclath ≡ d.regs.pclath
  pub bank : l.is_locked e ≡ true → l.saves_status ≡ false → Holds (Known 0) d → Holds (Known 0) done.chip

-- The chip is about to run items that stand from its program counter on, the last one at most at 1FFFh, and bank 0 is chosen.
pub record AtWork (l : Layout) (paged : Bool) (marks : ℕ → ℕ) (q : ℕ) (items : List Item) (c : Chip) : Type 0 where
  pub pc : c.pc < 8192
  pub room : c.pc + length items ≤ 8192
  pub stand : Stands paged l.program marks c.pc items q
  pub holds : Holds (Known 0) c

-- At the place behind them, in this bank.
pub record AtEnd (to : Bank) (c : Chip) (items : List Item) (d : Chip) : Type 0 where
  pub there : d.pc ≡ (c.pc + length items) % 8192
  pub bank : Holds to d
  pub page : d.regs.pclath ≡ c.regs.pclath

-- The items come to their end, in this bank, whatever runs of others do between; where only sources arrive the window then has the reaction to the
-- event. They are at most `most` instructions, none of which skips past the last.
pub record DoesWork (p : ProgramTree) (m : Map) (l : Layout) (most : ℕ) (bank : Bank) (e : ℕ) (items : List Item) : Type 0 where
  pub few : length items ≤ most
  pub last : ends_skipping false items ≡ false
  pub fit : AllByRecursion ItemFits items
  pub no_mark : (mark : ℕ) → times mark items ≡ 0
  pub ends : (paged : Bool) (marks : ℕ → ℕ) (q : ℕ) (c : Chip) → AtWork l paged marks q items c
      → Comes l.program Others (WorkOwn l e c.pc (c.pc + length items)) (AtEnd bank c items) (length items) c
  pub reacts : (paged : Bool) (marks : ℕ → ℕ) (q : ℕ) (c : Chip) → AtWork l paged marks q items c → IsState p (l.states c.regs.plain)
      → Comes l.program Alone (WorkOwn l e c.pc (c.pc + length items)) (λ d. AtEnd bank c items d × Reacts p m l e d.regs.plain) (length items) c
