use Rattle.std.proofs.lemmas.Result.{err_from_is_err_and}
use Rattle.hex_file.proofs.WritableLaws.{writable}
use Rattle.run_inputs.specs.RunFaults.{RunRequest}
use Rattle.wave_tool.proofs.ToolFacts.{works-drawn, works-none}
use Rattle.wave_tool.proofs.tool.waves.Goals as goal

pub returns-in_err-parts-clause-works : goal.returns-in_err-parts-clause-works
returns-in_err-parts-clause-works g c =
    let r : RunRequest = record { hex = c.args.hex.now; map = c.args.map.now; script = c.args.script.now } in
    let p = err_from_is_err_and c.from_residual.result c.from_residual.ensures.1 in
    rw (p.1, p.2) (works-none r (g.F.Files.seen c.args.files.now) (g.F.Files.seen c.read_parts.new.files) _ c.in_err-parts.ensures.gives)

pub drawn-requires-clause-writable : goal.drawn-requires-clause-writable
drawn-requires-clause-writable g c = writable _ _ c.in_ok-parts.ensures.gives.2.image

pub returns-clause-works : goal.returns-clause-works
returns-clause-works g c =
    let r : RunRequest = record { hex = c.args.hex.now; map = c.args.map.now; script = c.args.script.now } in
    works-drawn r (g.F.Files.seen c.args.files.now) (g.F.Files.seen c.read_parts.new.files) c.in_ok-parts.parts c.drawn.result c.in_ok-parts.ensures.gives c.drawn.ensures
