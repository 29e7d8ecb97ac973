use Rattle.std.proofs.Common.{◌≡◌, ◌++◌, map, take}
use Rattle.event_code.specs.Moves.{put_of}
use Rattle.event_code.proofs.works.add_puts.Given as goal

-- the moves so far are those before, and those of the first puts
abbrev pub invariant-loop-one : goal.invariant-loop-one
invariant-loop-one l = l.moves.items ≡ l.fn.moves.items ++ take l.one-index (map (put_of l.places.need) l.puts)
