use Rattle.std.proofs.Common.{◌∙◌}
use Rattle.large_run.proofs.RunFacts.{run-more}
use Rattle.large_run.proofs.tallies.Run.step.Goals as goal

pub returns-clause-ran : goal.returns-clause-ran
returns-clause-ran c = λ n image inside so.
    run-more n image c.args.map.now c.args.boundary c.next_arrival-sources.result.0 c.args.self.now _ c.step-report.result (record {
      arriving = c.next_arrival-sources.ensures.set;
      report_is = c.step-report.ensures.report;
      chip = c.step-report.ensures.chip;
      memory = c.step-report.ensures.memory;
      rise = c.next_arrival-sources.ensures.rise;
      later = c.next_arrival-sources.ensures.later;
    }) inside so
    (λ log report depth counted. c.count.ensures.counted log c.args.boundary report (c.depth.ensures ∙ depth) counted)

pub returns-clause-few : goal.returns-clause-few
returns-clause-few c = c.count.ensures.few c.args.boundary c.requires.rules.event_limit c.requires.few
