-- The times of a program's code are within its bounds.
use Rattle.std.specs.Prelude.{◌≡◌, ℕ, ◌+◌, ◌*◌, ◌≤◌, true, length}
use Rattle.std.proofs.Common.{arith}
use Rattle.frp_tree.specs.Tree.{ProgramTree}
use Rattle.efrp_meaning.specs.Bounds.{off}
use Rattle.map_file.specs.declared.maps.Map.{Map}
use Rattle.timed_core.specs.Timing.{Within, Quick}
use Rattle.firmware_parts.specs.Times.{times}

pub times-within : (p : ProgramTree) (m : Map) → Within (times p m) (off p)
times-within p m = record {
  taking = omega arith;
  short = λ is_short. omega arith;
  again = omega arith;
  commit = omega arith;
  sum = omega arith;
  pair = omega arith;
  order = omega arith;
}

pub times-quick : (p : ProgramTree) (m : Map) → Quick (times p m)
times-quick p m = record { start = omega arith; again = omega arith; opening = omega arith }
