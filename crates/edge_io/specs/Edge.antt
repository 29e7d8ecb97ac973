-- What is seen of the system's files and of standard output, and what their calls leave.
use Rattle.std.specs.Prelude.{ℕ, None, Result, Ok, Err, List}
use Rattle.std.specs.declared.io.ErrorKind.{ErrorKind}
use Rattle.std.specs.declared.io.ErrorKind.TheVariants.{NotFound, OutOfMemory}
use Rattle.edge_io.specs.declared.faults.ReadFault.{ReadFault}
use Rattle.edge_io.specs.declared.faults.ReadFault.TheVariants.{Missing, Failed, Memory}
use Rattle.edge_io.specs.declared.faults.WriteFault.{WriteFault}
use Rattle.edge_io.specs.Counts.{raised}
use Rattle.edge_io.specs.Files.{FilesSeen}
use Rattle.edge_io.specs.Sinks.{SinkSeen}

-- How many reads and how many writes of the system's files answered an `Err`.
pub record FaultCounts : Type 0 where
  pub read_faults : ℕ
  pub write_faults : ℕ

-- What is seen of the system's files: not what they hold.
abbrev pub seen_on_disk : FaultCounts → FilesSeen
seen_on_disk counts = record { told = None; read_faults = counts.read_faults; write_faults = counts.write_faults }

-- What is seen of standard output by its count of faults: not which bytes it took.
abbrev pub seen_at_output : ℕ → SinkSeen
seen_at_output count = record { taken = None; put_faults = count }

-- What a read leaves: one read fault more after each `Err`.
abbrev pub after_disk_read : FaultCounts → Result (List ℕ) ReadFault → FaultCounts
after_disk_read counts (Ok bytes) = counts
after_disk_read counts (Err fault) = record counts { read_faults = raised counts.read_faults }

-- What a write leaves: one write fault more after each `Err`.
abbrev pub after_disk_write : FaultCounts → Result (Unit {0}) WriteFault → FaultCounts
after_disk_write counts (Ok done) = counts
after_disk_write counts (Err fault) = record counts { write_faults = raised counts.write_faults }

-- Why a file wasn't read, by the kind of the system's error.
abbrev pub read_fault_of : ErrorKind → ReadFault
read_fault_of NotFound = Missing
read_fault_of OutOfMemory = Memory
read_fault_of _ = Failed
