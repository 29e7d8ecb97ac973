use Rattle.std.proofs.lemmas.Result.{err_from_is_err_and}
use Rattle.run_inputs.proofs.RunStepLaws.{image_halts, map_halts, script_halts}
use Rattle.run_inputs.proofs.inputs.parts_in.Goals as goal

pub returns-in_err-image_in : goal.returns-in_err-image_in
returns-in_err-image_in c =
    let p = err_from_is_err_and c.from_residual.result c.from_residual.ensures.1 in
    rw (p.1, p.2) (image_halts c.args.inputs.now _ c.in_err-image_in.ensures)

pub returns-in_err-map_in : goal.returns-in_err-map_in
returns-in_err-map_in c =
    let p = err_from_is_err_and c.from_residual-in_err-map_in.result c.from_residual-in_err-map_in.ensures.1 in
    rw (p.1, p.2) (map_halts c.args.inputs.now _ c.in_ok-image_in.field-0 c.in_ok-image_in.ensures c.in_err-map_in.ensures)

pub returns-in_err-script_in : goal.returns-in_err-script_in
returns-in_err-script_in c =
    let p = err_from_is_err_and c.from_residual-in_err-script_in.result c.from_residual-in_err-script_in.ensures.1 in
    let map = c.in_ok-map_in.ensures in
    rw (p.1, p.2) (script_halts c.args.inputs.now _ c.in_ok-image_in.field-0 c.in_ok-map_in.field-0 c.in_ok-image_in.ensures map.0 map.1 c.in_err-script_in.ensures)
