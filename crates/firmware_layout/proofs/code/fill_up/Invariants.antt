use Rattle.std.proofs.Common.{◌≡◌, ◌++◌, replicate}
use Rattle.pic_isa.specs.declared.instructions.Instr.TheVariants.{Nop}
use Rattle.code_items.specs.declared.items.Item.TheVariants.{Ins}
use Rattle.firmware_layout.proofs.code.fill_up.Given as goal

-- so many NOPs stand behind the items
abbrev pub invariant-loop : goal.invariant-loop
invariant-loop l = l.code.items ≡ l.fn.code.items ++ replicate l.counter (Ins Nop)
