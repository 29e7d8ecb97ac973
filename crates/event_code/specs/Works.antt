-- What the code of an event's work is, and what it asks of the operations.
use Rattle.std.specs.Prelude.{◌≡◌, ℕ, ◌<◌}
use Rattle.std.specs.List.{AllByRecursion}
use Rattle.expr_lower.specs.Running.{CanRun}
use Rattle.bank_alloc.specs.declared.needs.Needs.{Needs}
use Rattle.code_steps.specs.declared.banks.Bank.TheVariants.{Known}
use Rattle.op_code.specs.Operations.{DoesInOrder}
use Rattle.event_ops.specs.declared.results.Copied.{Copied}
use Rattle.event_ops.specs.declared.results.Put.{Put}
use Rattle.event_ops.specs.declared.results.EventOps.{EventOps}
use Rattle.event_code.specs.declared.works.Work.{Work}
use Rattle.event_code.specs.Moves.{moves_of}

-- Each operation can be run on so many cells, and what is copied or put lies in them.
pub record CanBeCoded (cells : ℕ) (ops : EventOps) : Type 0 where
  pub runs : AllByRecursion (CanRun cells) ops.ops
  pub copies : AllByRecursion (λ (c : Copied). (c.from < cells) × (c.to < cells)) ops.copies
  pub puts : AllByRecursion (λ (q : Put). q.from < cells) ops.puts

-- The code does the operations in order, begun in bank 0; the moves are those of what is copied and put.
pub record IsWorkOf (need : Needs) (ops : EventOps) (work : Work) : Type 0 where
  pub code : DoesInOrder ops.ops need (Known 0) work.coded.bank work.coded.code.items
  pub moves : work.moves.items ≡ moves_of need ops
  pub cells : work.cells ≡ ops.cells
