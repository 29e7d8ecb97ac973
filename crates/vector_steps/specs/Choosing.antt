-- What the code from a taking on comes to.
use Rattle.std.specs.Prelude.{◌≡◌, ℕ, Bool, true, false, List, ◌∷◌, ◌++◌}
use Rattle.std.specs.List.{AllByRecursion}
use Rattle.pic_isa.specs.declared.sources.Source.{Source}
use Rattle.pic_regs.specs.Registers.{flag}
use Rattle.pic_machine.specs.Chip.{Chip}
use Rattle.code_steps.specs.Jumps.{with_page}
use Rattle.glue_steps.specs.Stretches.{ran_all}
use Rattle.glue_steps.specs.Choices.{Moved}
use Rattle.glue_parts.specs.declared.spread.Context.{Context}
use Rattle.glue_parts.specs.Marks.{Entry, mark}
use Rattle.isr_vector.specs.Taking.{context_saved}

-- The chip `c` behind the lines that save the context.
abbrev pub saved : Context → Chip → Chip
saved context c = ran_all false (context_saved context) c

-- From the chip `c` the code has come to the entry of an event. The event's flag is set, and those of the events before it in the
-- order were clear on `c`. But for the place, PCLATH and arrivals the chip is `c` with the context saved; in code without page
-- settings PCLATH is that of `c` too.
pub record Dispatched (marks : ℕ → ℕ) (source : ℕ → Source) (context : Context) (paged : Bool) (order : List ℕ) (c e : Chip) : Type 0 where
  pub before : List ℕ
  pub event : ℕ
  pub behind : List ℕ
  pub among : order ≡ before ++ event ∷ behind
  pub clear : AllByRecursion (λ x. flag (source x) c.regs ≡ false) before
  pub set : flag (source event) e.regs ≡ true
  pub there : e.pc ≡ marks (mark (Entry event))
  pub page : e.regs.pclath ≡ with_page (marks (mark (Entry event))) e.regs.pclath
  pub kept : paged ≡ false → e.regs.pclath ≡ c.regs.pclath
  pub moved : Moved (saved context c) e
