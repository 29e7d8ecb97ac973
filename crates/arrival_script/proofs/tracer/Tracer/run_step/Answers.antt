use Rattle.std.proofs.Common.{max, refl, ap, ◌∙◌}
use Rattle.arrival_script.proofs.RunFacts.{ran}
use Rattle.arrival_script.proofs.tracer.Tracer.run_step.Goals as goal

pub returns-clause-ran : goal.returns-clause-ran
returns-clause-ran c = λ m image s k a old new inside is_late so.
    ran m image s k a c.args.late c.args.self.now _ c.step-report.result old new (record {
      report_is = c.step-report.ensures.report;
      chip = c.step-report.ensures.chip;
      memory = c.step-report.ensures.memory;
      greatest = c.max-self.ensures ∙ ap (λ d. max c.args.self.now.deepest d) (c.from.ensures ∙ c.depth.ensures);
      rise = refl;
      change = refl;
      late_same = refl;
      text = refl;
    }) inside is_late so
