use Rattle.std.proofs.Common.{String, string_bytes, Err, ap, refl}
use Rattle.std.specs.declared.alloc.Global.{Global}
use Rattle.std.proofs.lemmas.Result.{err_from_is_err_and}
use Rattle.frp_tree.specs.Tree.{ProgramTree, program_tree_of}
use Rattle.efrp_types.specs.declared.typed.Typed.{Typed}
use Rattle.causality.specs.declared.checked.Checked.{Checked}
use Rattle.checked_source.specs.Readings.{Passing, IsRead}
use Rattle.event_file.specs.declared.occurrences.EventsFault.TheVariants as fault
use Rattle.frp_tool.specs.Models.{ModelTexts, IsModel, Unknown}
use Rattle.frp_tool.proofs.ModelFacts.{source_refused, model_is, events_refused}
use Rattle.frp_tool.proofs.models.model_in.Goals as goal

pub returns-in_err-checked : goal.returns-in_err-checked
returns-in_err-checked c =
    let t : ModelTexts = record { source = c.args.both.now.source; events = c.args.both.now.events } in
    let e = err_from_is_err_and c.from_residual.result c.from_residual.ensures.1 in
    rw (e.1, e.2)
    (source_refused (λ (d : Checked). IsRead c.as_slice.result.now (Passing (program_tree_of d.typed.program))) (λ (text : String Global). (p : ProgramTree) × IsModel t p (string_bytes text)) t c.as_slice.result.now _ c.as_slice.ensures
    c.in_err-checked.ensures)

pub returns-in-Ok : goal.returns-in-Ok
returns-in-Ok c =
    let t : ModelTexts = record { source = c.args.both.now.source; events = c.args.both.now.events } in
    let p = program_tree_of c.in_ok-checked.checked.typed.program in
    let q = program_tree_of c.typed.result.now.program in (
      p,
      model_is t p q c.as_slice.result.now c.as_slice-2.result.now c.as_slice.ensures c.as_slice-2.ensures (ap (λ (x : Typed). program_tree_of x.program) c.typed.ensures) c.in_ok-checked.ensures c.in-Ok.events c.as_slice-in-Ok.result.now _
          c.as_slice-in-Ok.ensures c.in-Ok.ensures c.in_ok-text_of-in-Ok.ensures,
    )

pub returns-in-Err-Unknown : goal.returns-in-Err-Unknown
returns-in-Err-Unknown c =
    let t : ModelTexts = record { source = c.args.both.now.source; events = c.args.both.now.events } in
    let p = program_tree_of c.in_ok-checked.checked.typed.program in
    let q = program_tree_of c.typed.result.now.program in
    let line = c.in-Err-Unknown.line in
    let first = events_refused t p q c.as_slice.result.now c.as_slice-2.result.now c.as_slice.ensures c.as_slice-2.ensures (ap (λ (x : Typed). program_tree_of x.program) c.typed.ensures) c.in_ok-checked.ensures (Err (fault.Unknown line)) (Unknown line)
    (rw c.in-Err-Unknown.field-0-is at c.in-Err-Unknown.ensures) (λ reads read. (p, read, reads)) in
    (Unknown line, first, refl, c.in_ok-unknown_line-in-Err-Unknown.ensures)
