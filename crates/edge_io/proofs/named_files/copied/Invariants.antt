use Rattle.std.proofs.Common.{◌≡◌, take}
use Rattle.edge_io.proofs.named_files.copied.Given as goal

abbrev pub invariant-loop-byte : goal.invariant-loop-byte
invariant-loop-byte l = l.list ≡ take l.byte-index l.bytes
