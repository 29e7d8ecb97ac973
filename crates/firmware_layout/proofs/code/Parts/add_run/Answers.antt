use Rattle.std.proofs.Common.{◌++◌, ap, ◌∙◌}
use Rattle.std.proofs.lemmas.Result.{on_ok_weaker}
use Rattle.firmware_layout.specs.Codes.{makings_of, program_in}
use Rattle.firmware_layout.proofs.CodeFacts.{run_is}
use Rattle.firmware_layout.proofs.code.Parts.add_run.Goals as goal

pub returns : goal.returns
returns c =
    on_ok_weaker c.extend_from_slice.result (λ added source are.
    let parts = c.args.self.now in
    let its = c.in_ok-run.ensures (program_in parts) c.run.ensures.levels in
    let run = run_is (makings_of parts c.args.spread source) c.args.event c.run.result _ its (c.run.ensures.source source are) (c.run.ensures.plan source) in
    added ∙ ap (λ items. c.args.code.now.items ++ items) (c.as_slice.ensures ∙ run))
    c.extend_from_slice.ensures.ok
