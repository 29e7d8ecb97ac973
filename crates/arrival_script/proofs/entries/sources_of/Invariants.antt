use Rattle.std.proofs.Common.{length}
use Rattle.text_parts.specs.Fields.{fields_of}
use Rattle.arrival_script.proofs.NameFacts.{NamesSoFar}
use Rattle.arrival_script.proofs.entries.sources_of.Given as goal

-- The names before the rest are sources' names, and the set is theirs.
abbrev pub invariant-loop-name : goal.invariant-loop-name
invariant-loop-name l = NamesSoFar (fields_of l.text) (fields_of l.rest) l.set l.twice

abbrev pub decreases-loop-name : goal.decreases-loop-name
decreases-loop-name l = length l.rest
