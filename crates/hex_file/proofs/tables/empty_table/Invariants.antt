use Rattle.std.proofs.Common.{◌≡◌, ℕ, None, slice_index_or, vec_len}
use Rattle.hex_file.proofs.tables.empty_table.Given as goal

abbrev pub invariant-loop-place : goal.invariant-loop-place
invariant-loop-place l = record {
  size : vec_len l.table ≡ l._place;
  none : (address : ℕ) → slice_index_or l.table.items address None ≡ None;
}
