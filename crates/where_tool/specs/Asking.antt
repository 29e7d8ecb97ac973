-- What words ask for, in memory.
use Rattle.std.specs.Prelude.{ℕ, List}
use Rattle.std.specs.Borrow.{Bor}
use Rattle.where_tool.specs.declared.tool.Asking.{Asking}
use Rattle.where_tool.specs.Verdicts.{Asked}

-- The name and the line that are referred to.
abbrev pub words_in : Asking (Bor (List ℕ)) → Asked
words_in a = record { source = a.source.now; line = a.line.now }
