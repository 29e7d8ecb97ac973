use Rattle.std.proofs.Common.{◌≡◌, ℕ, ◌++◌, drop, map, reverse}
use Rattle.pic_isa.specs.declared.sources.Source.{Source}
use Rattle.code_items.specs.Places.{joined}
use Rattle.isr_vector.specs.Taking.{AreSources}
use Rattle.firmware_layout.specs.Codes.{makings_of, program_in}
use Rattle.firmware_layout.specs.Pieces.{run_of}
use Rattle.firmware_layout.proofs.code.Parts.add_runs.Given as goal

-- the runs of the events from this number on stand behind the items, the last first
abbrev pub invariant-loop-k : goal.invariant-loop-k
invariant-loop-k l =
    (source : ℕ → Source) → AreSources (program_in l.self) source
    → l.code.items ≡ l.fn.code.items ++ joined (map (run_of (makings_of l.self l.spread source)) (reverse (drop l.k l.order)))
