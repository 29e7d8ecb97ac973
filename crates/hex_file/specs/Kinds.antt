-- The numbers of the types of records.
use Rattle.std.specs.Prelude.{ℕ}
use Rattle.hex_file.specs.declared.records.Kind.{Kind}
use Rattle.hex_file.specs.declared.records.Kind.TheVariants.{Data, EndOfFile, LinearAddress}

-- The number of a record's type.
abbrev pub code : Kind → ℕ
code Data = 0
code EndOfFile = 1
code LinearAddress = 4
