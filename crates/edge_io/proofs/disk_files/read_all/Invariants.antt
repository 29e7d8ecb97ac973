use Rattle.std.proofs.Common.{◌≤◌, length}
use Rattle.std.specs.Io.Iter.{bytes_remaining}
use Rattle.std.specs.Io.KnownBytes.{Consumes}
use Rattle.edge_io.specs.declared.outside.TheConstants.{LONGEST_FILE}
use Rattle.edge_io.proofs.disk_files.read_all.Given as goal

-- the bytes so far come before those that are left
abbrev pub invariant-loop-byte : goal.invariant-loop-byte
invariant-loop-byte g l = record {
  short : length l.bytes ≤ LONGEST_FILE;
  taken : Consumes (g.T.Read.remaining l.fn.reader) (bytes_remaining g.T.Read.remaining l.byte-iterator) l.bytes;
}
