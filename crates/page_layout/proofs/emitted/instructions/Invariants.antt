use Rattle.std.proofs.Common.{◌≡◌, ◌++◌, false, drop}
use Rattle.code_items.specs.Lines.{lines}
use Rattle.page_layout.specs.Emitted.{instructions_of, places}
use Rattle.page_layout.proofs.emitted.instructions.Given as goal

-- the instructions so far and those of the items that are left are all
abbrev pub invariant-loop-i : goal.invariant-loop-i
invariant-loop-i l = l.code ++ instructions_of (places l.marks) (lines l.held l.paged (drop l.i l.items)) ≡ instructions_of (places l.marks) (lines false l.paged l.items)
