use Rattle.std.proofs.Common.{sym, subst}
use Rattle.std.specs.Str.{IsUtf8}
use Rattle.map_file.proofs.ValueFacts.{type_utf8}
use Rattle.map_file.proofs.values.type_in.Goals as goal

pub returns-in_err-text : goal.returns-in_err-text
returns-in_err-text c = rw c.from_residual.ensures (λ s e. c.in_err-text.ensures (subst IsUtf8 (sym e) (type_utf8 s)))
