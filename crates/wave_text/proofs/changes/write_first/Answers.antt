use Rattle.std.proofs.Common.{codes}
use Rattle.std.specs.List.{flat_map}
use Rattle.wave_text.specs.Waves.{level_line, signal_line}
use Rattle.wave_text.proofs.TextFacts.{four, on_ok, pushed}
use Rattle.wave_text.proofs.changes.write_first.Goals as goal

pub returns : goal.returns
returns c =
    on_ok c.push_str-2.result
    (λ written. four _ (codes "#0\n$dumpvars\n") (flat_map signal_line c.args.signals.now) (level_line c.args.level) (codes "$end\n") _ _ _ _ c.in_ok-push_str.ensures.bytes c.in_ok-write_signals.ensures c.in_ok-write_named.ensures written)
    (pushed c.push_str-2.result _ (codes "$end\n") _ c.push_str-2.ensures.bytes)
