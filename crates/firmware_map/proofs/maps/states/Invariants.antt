use Rattle.std.proofs.Common.{◌≡◌, ◌+◌, ◌++◌, drop, map, sum_by}
use Rattle.frp_tree.specs.Tree.{decl_of}
use Rattle.efrp_meaning.specs.Bounds.{state_bytes}
use Rattle.event_code.specs.States.{states_from, states_of}
use Rattle.firmware_map.specs.Written.{program_of}
use Rattle.firmware_map.proofs.StateFacts.{size}
use Rattle.firmware_map.proofs.maps.states.Given as goal

abbrev pub invariant-loop-decl : goal.invariant-loop-decl
invariant-loop-decl l = record {
  states : l.states ++ states_from l.uses.places.now.need l.cell (map decl_of (drop l.decl-index l.decls)) ≡ states_of l.uses.places.now.need (program_of l.uses);
  room : l.cell + sum_by size (map decl_of (drop l.decl-index l.decls)) ≡ state_bytes (program_of l.uses);
}
