use Rattle.std.proofs.Common.{◌<◌, sym, subst, ◌∙◌}
use Rattle.std.specs.List.{AllByRecursion}
use Rattle.arrival_script.specs.Sends.{RiseFrom}
use Rattle.large_run.specs.Tallies.{as_script}
use Rattle.large_run.proofs.RunFacts.{arrivals-rise, known-sources, run-whole}
use Rattle.large_run.proofs.tallies.large_run.Goals as goal

pub of-run-requires-clause-rise : goal.of-run-requires-clause-rise
of-run-requires-clause-rise c =
    subst (λ all. RiseFrom 0 (as_script all)) (sym (c.as_slice-2.ensures ∙ c.in_ok-all.ensures)) (arrivals-rise c.args.n (c.arrivals_rise.ensures c.args.n))

pub of-run-requires-clause-sources : goal.of-run-requires-clause-sources
of-run-requires-clause-sources c =
    subst (λ all. AllByRecursion (λ a. a.source < 11) all) (sym (c.as_slice-2.ensures ∙ c.in_ok-all.ensures)) (known-sources c.args.n (c.arrivals_rise.ensures c.args.n))

pub returns : goal.returns
returns c =
    let steps = c.steps_of-steps.ensures.is c.args.n (c.as_slice.ensures ∙ c.in_ok-all.ensures) in
    run-whole c.args.n c.args.image.now c.args.map.now _ c.of-run.result steps (c.of-run.ensures c.args.n (c.as_slice-2.ensures ∙ c.in_ok-all.ensures) steps)
