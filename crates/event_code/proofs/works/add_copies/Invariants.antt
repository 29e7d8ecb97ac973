use Rattle.std.proofs.Common.{◌≡◌, ◌++◌, map, take}
use Rattle.event_code.specs.Moves.{move_of}
use Rattle.event_code.proofs.works.add_copies.Given as goal

-- the moves so far are those before, and those of the first copies
abbrev pub invariant-loop-one : goal.invariant-loop-one
invariant-loop-one l = l.moves.items ≡ l.fn.moves.items ++ take l.one-index (map (move_of l.places.need) l.copies)
