use Rattle.efrp_types.proofs.KeyFacts.{are-names}
use Rattle.efrp_types.proofs.table.Names.of_program.Goals as goal

pub returns : goal.returns
returns c = are-names c.args.p.now _ _ c.requires (rw c.as_slice.ensures at c.in_ok-event_names.ensures) (rw c.as_slice-2.ensures at c.in_ok-decl_names.ensures)
