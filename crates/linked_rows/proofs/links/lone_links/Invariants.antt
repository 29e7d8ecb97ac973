use Rattle.std.proofs.Common.{◌≡◌, ℕ, ◌<◌, length}
use Rattle.linked_rows.specs.Links.{link_at, lone}
use Rattle.linked_rows.proofs.links.lone_links.Given as goal

abbrev pub invariant-loop-place : goal.invariant-loop-place
invariant-loop-place l = record {
  size : length l.links.items ≡ l.place;
  each : (x : ℕ) → x < l.place → link_at l.links.items x ≡ lone l.nodes x;
}
