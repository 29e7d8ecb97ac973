use Rattle.std.proofs.Common.{sym, subst}
use Rattle.std.specs.Str.{IsUtf8}
use Rattle.map_file.proofs.ValueFacts.{port_utf8}
use Rattle.map_file.proofs.values.port_in.Goals as goal

pub returns-in_err-text : goal.returns-in_err-text
returns-in_err-text c = rw c.from_residual.ensures (λ port small e. c.in_err-text.ensures (subst IsUtf8 (sym e) (port_utf8 port)))
