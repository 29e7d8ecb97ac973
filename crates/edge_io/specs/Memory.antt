-- What is seen of files and sinks in memory, and what their calls leave.
use Rattle.std.specs.Prelude.{ℕ, ◌≤◌, List, ◌++◌, length, Option, Some, IsSomeAnd, Result, Ok, Err}
use Rattle.std.specs.Map.{lookup}
use Rattle.std.specs.Str.{bytes_eq}
use Rattle.edge_io.specs.declared.outside.TheConstants.{LONGEST_FILE}
use Rattle.edge_io.specs.declared.faults.ReadFault.{ReadFault}
use Rattle.edge_io.specs.declared.faults.ReadFault.TheVariants as read
use Rattle.edge_io.specs.declared.faults.WriteFault.{WriteFault}
use Rattle.edge_io.specs.declared.faults.WriteFault.TheVariants as write
use Rattle.edge_io.specs.declared.faults.PutFault.{PutFault}
use Rattle.edge_io.specs.declared.faults.PutFault.TheVariants as put
use Rattle.edge_io.specs.Counts.{raised}
use Rattle.edge_io.specs.Files.{Held, FilesSeen}
use Rattle.edge_io.specs.Sinks.{SinkSeen}

-- Files as a list: the name and the bytes of each.
abbrev pub FileList : Type 0
FileList = List (List ℕ × List ℕ)

-- The files that are held: under a name the bytes of the first file of that name.
abbrev pub held : FileList → Held
held files name = lookup (bytes_eq name) files

-- What is seen of files in memory that never fail.
abbrev pub seen_surely : FileList → FilesSeen
seen_surely files = record { told = Some (held files); read_faults = 0; write_faults = 0 }

-- There is a file, and it isn't too long to be read.
abbrev pub IsReadable : Option (List ℕ) → Type 0
IsReadable file = IsSomeAnd file (λ bytes. length bytes ≤ LONGEST_FILE)

-- Files in memory that fail at the calls that they are told to: the files, the numbers of the calls that
-- fail, how many reads and writes there were, which is the number of the next, and how many of the reads and
-- of the writes failed.
pub record FilesInMemory : Type 0 where
  pub files : FileList
  pub fails : List ℕ
  pub calls : ℕ
  pub read_faults : ℕ
  pub write_faults : ℕ

abbrev pub seen_in_memory : FilesInMemory → FilesSeen
seen_in_memory memory = record { told = Some (held memory.files); read_faults = memory.read_faults; write_faults = memory.write_faults }

-- What a read leaves: one call more, one read fault more where it failed, and all else as it was.
abbrev pub after_read : FilesInMemory → Result (List ℕ) ReadFault → FilesInMemory
after_read memory (Err read.Failed) = record memory { calls = raised memory.calls; read_faults = raised memory.read_faults }
after_read memory _ = record memory { calls = raised memory.calls }

-- What a write leaves: one call more, these files where it was Ok, one write fault more where it failed, and
-- all else as it was.
abbrev pub after_write : FilesInMemory → FileList → Result (Unit {0}) WriteFault → FilesInMemory
after_write memory files (Ok done) = record memory { files = files; calls = raised memory.calls }
after_write memory files (Err write.Failed) = record memory { calls = raised memory.calls; write_faults = raised memory.write_faults }
after_write memory files (Err write.Memory) = record memory { calls = raised memory.calls }

-- A sink in memory that fails at the calls that it is told to: the bytes that it took, the numbers of the
-- calls that fail, how many puts there were, which is the number of the next, and how many of them failed.
pub record SinkInMemory : Type 0 where
  pub taken : List ℕ
  pub fails : List ℕ
  pub calls : ℕ
  pub put_faults : ℕ

abbrev pub seen_by_sink : SinkInMemory → SinkSeen
seen_by_sink sink = record { taken = Some sink.taken; put_faults = sink.put_faults }

-- What is seen of a sink in memory that never fails, by the bytes that it took.
abbrev pub seen_by_sure_sink : List ℕ → SinkSeen
seen_by_sure_sink bytes = record { taken = Some bytes; put_faults = 0 }

-- What a put leaves: one call more, the bytes at the end where it was Ok, one fault more where it failed, and
-- all else as it was.
abbrev pub after_put : SinkInMemory → List ℕ → Result (Unit {0}) PutFault → SinkInMemory
after_put sink bytes (Ok done) = record sink { taken = sink.taken ++ bytes; calls = raised sink.calls }
after_put sink bytes (Err put.Failed) = record sink { calls = raised sink.calls; put_faults = raised sink.put_faults }
after_put sink bytes (Err put.Memory) = record sink { calls = raised sink.calls }
