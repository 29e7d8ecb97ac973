-- A place that is bound stays one of the program's.
use Rattle.expr_lower.proofs.PlaceFacts.{bound-placed, bound-types}
use Rattle.expr_lower.proofs.cells.Cells.bind.Goals as goal

pub returns-clause-kept : goal.returns-clause-kept
returns-clause-kept c p ours = record {
  types = bound-types _ c.args.self.now.places.items c.args.decl c.requires.place c.index_mut.result.now c.args.at c.requires.is_there c.index_mut.ensures.value ours.types;
  placed = bound-placed c.args.self.now.next c.args.self.now.places.items c.args.decl c.requires.place c.index_mut.result.now c.args.at c.requires.is_there c.index_mut.ensures.value c.requires.fits ours.placed;
  few = ours.few;
}
