use Rattle.std.proofs.Common.{◌+◌, max, ap, sym, ◌∙◌, count_ones}
use Rattle.pic_machine.specs.declared.steps.Stepped.{Stepped}
use Rattle.large_run.proofs.TallyFacts.{tally-more}
use Rattle.large_run.proofs.tallies.Tally.count.Goals as goal

pub returns-clause-counted : goal.returns-clause-counted
returns-clause-counted c = λ log k report depth so.
    let t = c.args.self.now in
    tally-more c.args.map.now log k t _ (record {
      latched = ap (λ n. t.latched + n) c.from.ensures ∙ ap (λ (r : Stepped). t.latched + count_ones r.latched) report;
      merged = ap (λ n. t.merged + n) c.from-2.ensures ∙ ap (λ (r : Stepped). t.merged + count_ones r.merged) report;
      commits = ap (λ n. t.commits + n) (c.committed.ensures.is (log k) (sym (ap (λ (r : Stepped). r.did) report)));
      deepest = c.max-self.ensures ∙ ap (λ d. max t.deepest d) depth;
    }) so
