use Rattle.std.proofs.Common.{take}
use Rattle.code_steps.specs.declared.banks.Bank.TheVariants.{Known}
use Rattle.op_code.specs.Operations.{DoesInOrder}
use Rattle.event_code.proofs.works.code_of.Given as goal

-- the code so far does the first operations
abbrev pub invariant-loop-op : goal.invariant-loop-op
invariant-loop-op l = DoesInOrder (take l.op-index l.ops) l.places.need (Known 0) l.bank l.code.items
