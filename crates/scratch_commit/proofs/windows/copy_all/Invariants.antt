use Rattle.std.proofs.Common.{take}
use Rattle.scratch_commit.specs.Deeds.{DoesMore}
use Rattle.scratch_commit.specs.Windows.{copying}
use Rattle.scratch_commit.proofs.windows.copy_all.Given as goal

-- the lines so far are those of the first copies
abbrev pub invariant-loop-one : goal.invariant-loop-one
invariant-loop-one l = DoesMore l.fn.lines (copying (take l.one-index l.moves)) l.lines
