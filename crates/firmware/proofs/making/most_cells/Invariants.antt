use Rattle.std.proofs.Common.{◌≡◌, max, take}
use Rattle.firmware.proofs.MapFacts.{cells_of}
use Rattle.firmware.proofs.making.most_cells.Given as goal

abbrev pub invariant-loop-work : goal.invariant-loop-work
invariant-loop-work l = l.cells ≡ max l.states (cells_of (take l.work-index l.works))
