use Rattle.std.proofs.Common.{◌++◌, codes}
use Rattle.std.specs.Fmt.{decimal}
use Rattle.pic_isa.specs.Sources.{source_number}
use Rattle.wave_text.specs.Waves.{scope_line, upscope_line, var_line}
use Rattle.wave_text.proofs.TextFacts.{five, on_ok}
use Rattle.wave_text.proofs.headers.write_event.Goals as goal

pub returns : goal.returns
returns c =
    let n = decimal (source_number c.args.event.now.source) in
    let w1 = rw c.as_str.ensures at c.in_ok-write_scope.ensures in
    on_ok c.write_upscope.result
    (λ written. five _ (scope_line c.args.event.now.name) (var_line (codes "1") (codes "l" ++ n) (codes "latch")) (var_line (codes "1") (codes "r" ++ n) (codes "run"))
    (var_line (codes "1") (codes "w" ++ n) (codes "window")) upscope_line _ _ _ _ _ w1
    (rw (c.from-source.ensures, c.number.ensures) at c.in_ok-write_var.ensures) (rw (c.from-source.ensures, c.number.ensures) at c.in_ok-write_var-2.ensures) (rw (c.from-source.ensures, c.number.ensures) at c.in_ok-write_var-3.ensures) written)
    c.write_upscope.ensures
