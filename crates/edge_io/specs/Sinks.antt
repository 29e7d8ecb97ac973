-- What is seen of a sink before and after a put, and what a put leaves.
use Rattle.std.specs.Prelude.{◌≡◌, ℕ, List, ◌++◌, take, Option, Some, None, Result, Ok, Err}
use Rattle.edge_io.specs.declared.faults.PutFault.{PutFault}
use Rattle.edge_io.specs.declared.faults.PutFault.TheVariants as put

-- What is seen of a sink: the bytes that it took, where it tells them, and how many of its puts failed so far. The count
-- stays at the greatest u64 once it is there.
pub record SinkSeen : Type 0 where
  pub taken : Option (List ℕ)
  pub put_faults : ℕ

-- These bytes were added at the end of those that were taken, where they are told. Whether they are told stays.
abbrev pub Appends : Option (List ℕ) → Option (List ℕ) → List ℕ → Type 0
Appends None None bytes = Unit {0}
Appends (Some old) (Some new) bytes = new ≡ old ++ bytes
Appends None (Some new) bytes = ⊥
Appends (Some old) None bytes = ⊥

-- A prefix of these bytes was added at the end.
abbrev pub AppendsPrefix : Option (List ℕ) → Option (List ℕ) → List ℕ → Type 0
AppendsPrefix old new bytes = (n : ℕ) × Appends old new (take n bytes)

-- What a put leaves: the bytes at the end, or after `Failed` a prefix of them, or after `Memory` nothing.
abbrev pub PutLeaves : SinkSeen → SinkSeen → List ℕ → Result (Unit {0}) PutFault → Type 0
PutLeaves before after bytes (Ok done) = Appends before.taken after.taken bytes
PutLeaves before after bytes (Err put.Failed) = AppendsPrefix before.taken after.taken bytes
PutLeaves before after bytes (Err put.Memory) = before.taken ≡ after.taken
