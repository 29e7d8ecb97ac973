use Rattle.std.proofs.Common.{◌≤◌, sym, subst, arith}
use Rattle.pic_machine.specs.Run.{run}
use Rattle.firmware_promises.specs.Counts.{chip_after}
use Rattle.code_story.proofs.SimulatedLaws.{always_keeps, always_settles}
use Rattle.stack_bound.specs.Reports.{HavePassed}
use Rattle.stack_bound.proofs.reports.report_of.Goals as goal

pub returns-clause-within : goal.returns-clause-within
returns-clause-within c f image its depth settle = record {
  deep = λ start outers n starts.
      subst (λ d. (chip_after (run image start outers) n).depth ≤ d) depth ((always_keeps f image its.has its.maps start outers n starts).depth n (omega arith));
  settled = λ start outers n starts passed. always_settles f image its.has its.maps start outers n starts (subst (λ s. HavePassed s outers n) (sym settle) passed);
}
