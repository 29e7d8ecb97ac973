-- What is seen of files before and after a call, and what a read and a write answer and leave.
use Rattle.std.specs.Prelude.{◌≡◌, ◌≢◌, ℕ, ◌<◌, ◌≤◌, List, length, Option, Some, None, Result, Ok, Err}
use Rattle.edge_io.specs.declared.outside.TheConstants.{LONGEST_FILE}
use Rattle.edge_io.specs.declared.faults.ReadFault.{ReadFault}
use Rattle.edge_io.specs.declared.faults.ReadFault.TheVariants as read
use Rattle.edge_io.specs.declared.faults.WriteFault.{WriteFault}
use Rattle.edge_io.specs.declared.faults.WriteFault.TheVariants as write

-- The files that are held: the bytes under each name, where there is a file of that name.
abbrev pub Held : Type 0
Held = List ℕ → Option (List ℕ)

-- What is seen of an object of files: the files that it holds, where it tells them, and how many of its reads and of its
-- writes failed so far. A count stays at the greatest u64 once it is there.
pub record FilesSeen : Type 0 where
  pub told : Option Held
  pub read_faults : ℕ
  pub write_faults : ℕ

-- Each file is as it was.
abbrev pub SameFiles : Held → Held → Type 0
SameFiles old new = (name : List ℕ) → new name ≡ old name

-- Each file but that of this name is as it was.
abbrev pub SameOthers : Held → Held → List ℕ → Type 0
SameOthers old new name = (other : List ℕ) → other ≢ name → new other ≡ old other

-- The file of this name has these bytes now, and each other file is as it was.
abbrev pub Replaces : Held → Held → List ℕ → List ℕ → Type 0
Replaces old new name bytes = (new name ≡ Some bytes) × SameOthers old new name

-- A fact about two that are both there. Neither may be there alone.
abbrev pub BothThere : Option Held → Option Held → (Held → Held → Type 0) → Type 0
BothThere None None P = Unit {0}
BothThere (Some old) (Some new) P = P old new
BothThere None (Some new) P = ⊥
BothThere (Some old) None P = ⊥

-- A fact about the files before and after, where they are told. Whether they are told stays.
abbrev pub BothTold : FilesSeen → FilesSeen → (Held → Held → Type 0) → Type 0
BothTold before after P = BothThere before.told after.told P

-- A fact about one that may be there, where it is.
abbrev pub IfThere : Option Held → (Held → Type 0) → Type 0
IfThere None P = Unit {0}
IfThere (Some files) P = P files

-- A fact about the files, where they are told.
abbrev pub IfTold : FilesSeen → (Held → Type 0) → Type 0
IfTold seen P = IfThere seen.told P

-- No file changes.
abbrev pub KeepsFiles : FilesSeen → FilesSeen → Type 0
KeepsFiles before after = BothTold before after SameFiles

-- What a read answers, by what is held under the name. No file, a file that is too long and one that isn't exclude one
-- another, so `Missing` and `TooLong` come exactly where their lines hold, unless memory runs out. Where a file of at most
-- the greatest length is held, the answer is its bytes or `Failed`.
abbrev pub Answers : Option (List ℕ) → Result (List ℕ) ReadFault → Type 0
Answers held (Ok bytes) = held ≡ Some bytes
Answers held (Err read.Missing) = held ≡ None
Answers held (Err read.TooLong) = (bytes : List ℕ) × (held ≡ Some bytes) × (LONGEST_FILE < length bytes)
Answers held (Err read.Failed) = (bytes : List ℕ) × (held ≡ Some bytes) × (length bytes ≤ LONGEST_FILE)
Answers held (Err read.Memory) = Unit {0}

-- The same where the files are told; where they aren't, any answer may come.
abbrev pub ReadGives : FilesSeen → List ℕ → Result (List ℕ) ReadFault → Type 0
ReadGives before name answer = IfTold before (λ held. Answers (held name) answer)

-- What a write leaves: the file, or after `Failed` anything under its name, or after `Memory` what was
-- there. All other files are as they were.
abbrev pub WriteLeaves : FilesSeen → FilesSeen → List ℕ → List ℕ → Result (Unit {0}) WriteFault → Type 0
WriteLeaves before after name bytes (Ok done) = BothTold before after (λ old new. Replaces old new name bytes)
WriteLeaves before after name bytes (Err write.Failed) = BothTold before after (λ old new. SameOthers old new name)
WriteLeaves before after name bytes (Err write.Memory) = KeepsFiles before after
