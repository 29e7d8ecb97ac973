use Rattle.std.proofs.Common.{refl}
use Rattle.where_tool.proofs.PlaceFacts.{note-place}
use Rattle.where_tool.proofs.part_tokens.head.Goals as goal

pub returns-clause-is : goal.returns-clause-is
returns-clause-is c = λ cells noted. note-place c.args.kind 0 0 c.args.number c.note_behind.result c.args.notes.now cells c.note_behind.ensures.is refl noted
