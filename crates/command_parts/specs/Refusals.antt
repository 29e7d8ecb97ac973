-- How the program ends where it has no words.
use Rattle.std.specs.Prelude.{ℕ}
use Rattle.std.specs.declared.io.ErrorKind.{ErrorKind}
use Rattle.std.specs.declared.io.ErrorKind.TheVariants.{OutOfMemory}

-- The status by the kind of the runtime's error: 6 where memory ran out, and 7 for each other kind.
abbrev pub refusal_status : ErrorKind → ℕ
refusal_status OutOfMemory = 6
refusal_status _ = 7
