use Rattle.std.proofs.Common.{◌≡◌, ◌<◌, sym, subst, arith}
use Rattle.std.specs.List.{AllByRecursion}
use Rattle.arrival_script.specs.Sends.{RiseFrom}
use Rattle.large_run.specs.Tallies.{HasRun, as_script}
use Rattle.large_run.proofs.tallies.Run.of.Goals as goal

pub loop-boundary-init : goal.loop-boundary-init
loop-boundary-init c =
    let same = sym c.new-run.ensures.pending in
    record {
      rise = subst (λ pending. RiseFrom 0 (as_script pending)) same c.requires.rise;
      sources = subst (λ pending. AllByRecursion (λ a. a.source < 11) pending) same c.requires.sources;
      few = c.new-run.ensures.few;
      ran = λ n all steps. c.new-run.ensures.begun n c.args.map.now all;
    }

pub loop-boundary-preserved : goal.loop-boundary-preserved
loop-boundary-preserved c = record {
  rise = c.step.ensures.rise;
  sources = c.step.ensures.sources;
  few = c.step.ensures.few;
  ran = λ n all steps. c.step.ensures.ran n c.args.image.now (omega arith) (c.loop-boundary.invariant.ran n all steps);
}

pub returns : goal.returns
returns c = λ n all steps.
    let last : c.loop-boundary.boundary ≡ c.args.steps = omega arith in
    subst (λ k. HasRun n c.args.image.now c.args.map.now k c.loop-boundary.run) last (c.loop-boundary.invariant.ran n all steps)
