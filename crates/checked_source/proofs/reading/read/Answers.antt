use Rattle.std.proofs.lemmas.Result.{err_from_is_err_and}
use Rattle.checked_source.proofs.ReadingLaws.{found-typing, found-sorting}
use Rattle.checked_source.proofs.reading.read.Goals as goal

pub typed-requires : goal.typed-requires
typed-requires c = c.spelled_is_well_formed.ensures _ c.args.text.now c.in_ok-program.ensures.spells

pub returns-in_err-typed : goal.returns-in_err-typed
returns-in_err-typed c =
    let p = err_from_is_err_and c.from_residual-in_err-typed.result c.from_residual-in_err-typed.ensures.1 in
    rw (p.1, p.2) (found-typing c.args.text.now c.in_ok-program.program c.in_err-typed.field-0.0 c.in_ok-program.ensures c.in_err-typed.ensures)

pub returns : goal.returns
returns c = found-sorting c.args.text.now c.in_ok-program.program c.in_ok-typed.typed c.sorted.result c.in_ok-program.ensures c.in_ok-typed.ensures c.sorted.ensures
