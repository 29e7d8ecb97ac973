use Rattle.std.proofs.Common.{◌≡◌, ◌++◌, length, IsTrue}
use Rattle.std.specs.List.{list_all}
use Rattle.text_parts.specs.Bytes.{is_hex_digit}
use Rattle.hex_file.specs.Faults.{spelled_bytes}
use Rattle.hex_file.proofs.texts.spelled.Given as goal

abbrev pub invariant-loop-rest : goal.invariant-loop-rest
invariant-loop-rest l = record {
  hex : IsTrue (list_all is_hex_digit l.rest);
  spelled : l.bytes.items ++ spelled_bytes l.rest ≡ spelled_bytes l.initial.rest;
}

abbrev pub decreases-loop-rest : goal.decreases-loop-rest
decreases-loop-rest l = length l.rest
