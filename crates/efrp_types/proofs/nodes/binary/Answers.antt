use Rattle.std.specs.Prelude.{Some}
use Rattle.std.proofs.Common.{sym, ap, ◌∙◌}
use Rattle.efrp_types.proofs.NodeFacts.{binary-typed}
use Rattle.efrp_types.proofs.nodes.binary.Goals as goal

pub returns : goal.returns
returns c = (c.in_ok-operands.ensures, binary-typed c.args.owner.now c.args.op c.args.a c.args.b c.in_ok-operands.ensures ∙ ap Some (sym c.value_type.ensures))
