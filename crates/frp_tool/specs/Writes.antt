-- What a command leaves where it writes files.
use Rattle.std.specs.Prelude.{◌≡◌, ◌≢◌, ℕ, List, Some, Result, Ok, Err, codes, string_bytes, ◌⊎◌}
use Rattle.edge_io.specs.Files.{Held, FilesSeen, SameOthers, Replaces, BothTold, KeepsFiles}
use Rattle.edge_io.specs.Counts.{Rose}
use Rattle.command_parts.specs.declared.halts.Halt.{Halt}
use Rattle.command_parts.specs.declared.halts.Halt.TheVariants as halt
use Rattle.command_parts.specs.Lines.{named_line}

-- A file has these bytes now.
abbrev pub Has : Held → List ℕ → List ℕ → Type 0
Has held name bytes = held name ≡ Some bytes

-- Each file but two is as it was.
abbrev pub SameButTwo : Held → Held → List ℕ → List ℕ → Type 0
SameButTwo old new one two = (name : List ℕ) → name ≢ one → name ≢ two → new name ≡ old name

-- A write failed: it was counted, and all files but that of this name are as they were.
abbrev pub WriteFails : FilesSeen → FilesSeen → List ℕ → Type 0
WriteFails before after name = Rose before.write_faults after.write_faults × BothTold before after (λ old new. SameOthers old new name)

-- A file is written; or the write failed, and there is its line; or memory ran out, before the write or after one that failed.
abbrev pub Stores : FilesSeen → FilesSeen → List ℕ → List ℕ → Result (Unit {0}) Halt → Type 0
Stores before after name bytes (Ok done) = BothTold before after (λ old new. Replaces old new name bytes)
Stores before after name bytes (Err (halt.Said due text)) = WriteFails before after name × (due ≡ 5) × (string_bytes text ≡ named_line (codes "write failed: ") name)
Stores before after name bytes (Err halt.PutFailed) = ⊥
Stores before after name bytes (Err halt.Memory) = KeepsFiles before after ⊎ WriteFails before after name
