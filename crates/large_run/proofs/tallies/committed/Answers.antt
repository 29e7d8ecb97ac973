use Rattle.std.proofs.Common.{◌≤◌, ap, ◌∙◌, length, arith}
use Rattle.std.specs.List.{count_by}
use Rattle.std.proofs.lemmas.List.{take_all}
use Rattle.pic_machine.specs.Dids.{is_run_at}
use Rattle.map_file.specs.declared.maps.MapEvent.{MapEvent}
use Rattle.large_run.proofs.TallyFacts.{committed-is}
use Rattle.large_run.proofs.tallies.committed.Goals as goal

pub returns-clause-is : goal.returns-clause-is
returns-clause-is c = λ step e.
    let events = c.args.map.now.events in
    let all : length events ≤ c.loop-event.event-index = let same = ap length c.as_slice-event-items.ensures in omega arith in
    c.loop-event.invariant.counted
    ∙ ap (λ es. count_by (λ (x : MapEvent). is_run_at x.commit c.args.did) es) (take_all c.loop-event.event-index events all)
    ∙ committed-is c.args.map.now c.args.did step e
