use Rattle.std.proofs.lemmas.Result.{err_from_is_err_and}
use Rattle.frp_tree.specs.Tree.{program_tree_of}
use Rattle.causality.specs.declared.checked.Checked.{Checked}
use Rattle.checked_source.specs.Readings.{Reading, IsRead, Passing}
use Rattle.command_parts.specs.Lines.{IsRefused, refusal_line}
use Rattle.frp_tool.specs.SourceTexts.{SourceGives}
use Rattle.frp_tool.proofs.SourceNameFacts.{read_has_names}
use Rattle.frp_tool.proofs.SourceStepFacts.{source_unread, source_gives, source_read}
use Rattle.frp_tool.proofs.source.read_source.Goals as goal

pub returns-in_err-text-clause-gives : goal.returns-in_err-text-clause-gives
returns-in_err-text-clause-gives g c =
    let p = err_from_is_err_and c.from_residual.result c.from_residual.ensures.1 in
    rw (p.1, p.2)
    (source_unread c.args.source.now (g.F.Files.seen c.args.files.now) (g.F.Files.seen c.input.new.files) (λ (d : Checked). SourceGives c.args.source.now (g.F.Files.seen c.args.files.now) (program_tree_of d.typed.program)) _ c.in_err-text.ensures.gives)

pub returns-clause-gives : goal.returns-clause-gives
returns-clause-gives g c =
    let seen = g.F.Files.seen c.args.files.now in
    let after = g.F.Files.seen c.input.new.files in
    source_read c.args.source.now seen after c.in_ok-text.text c.as_slice.result.now c.in_ok-text.ensures.gives c.as_slice.ensures
    (λ (d : Checked). IsRead c.as_slice.result.now (Passing (program_tree_of d.typed.program))) (λ (d : Checked). SourceGives c.args.source.now seen (program_tree_of d.typed.program)) c.program_in.result
    (λ d good. source_gives c.args.source.now seen after c.in_ok-text.text c.as_slice.result.now c.in_ok-text.ensures.gives c.as_slice.ensures (program_tree_of d.typed.program) good) c.program_in.ensures

pub returns-clause-named : goal.returns-clause-named
returns-clause-named g c =
    read_has_names c.as_slice.result.now (λ (reading : Reading). IsRead c.as_slice.result.now reading × IsRefused reading) (λ reading. 1) refusal_line c.program_in.result c.program_in.ensures
