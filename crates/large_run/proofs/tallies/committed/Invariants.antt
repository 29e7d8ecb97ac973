use Rattle.std.proofs.Common.{◌≡◌, ◌≤◌, take}
use Rattle.std.specs.List.{count_by}
use Rattle.pic_machine.specs.Dids.{is_run_at}
use Rattle.large_run.proofs.tallies.committed.Given as goal

abbrev pub invariant-loop-event : goal.invariant-loop-event
invariant-loop-event l = record {
  counted : l.count ≡ count_by (λ e. is_run_at e.commit l.did) (take l.event-index l.map.events);
  few : l.count ≤ l.event-index;
}
