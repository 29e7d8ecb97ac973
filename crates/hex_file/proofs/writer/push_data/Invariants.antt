use Rattle.std.proofs.Common.{◌≡◌, ◌<◌, ◌++◌, length, All, string_bytes}
use Rattle.hex_file.specs.Written.{data_records}
use Rattle.hex_file.proofs.writer.push_data.Given as goal

abbrev pub invariant-loop-rest : goal.invariant-loop-rest
invariant-loop-rest l = record {
  low : All (λ w. w.address < 8192) l.rest;
  written : string_bytes l.text ++ data_records l.rest ≡ string_bytes l.initial.text ++ data_records l.initial.rest;
}

abbrev pub decreases-loop-rest : goal.decreases-loop-rest
decreases-loop-rest l = length l.rest
