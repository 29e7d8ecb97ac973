use Rattle.std.proofs.Common.{sym, ◌∙◌}
use Rattle.text_parts.proofs.NameLaws.{name_utf8}
use Rattle.text_parts.proofs.names.name_in.Goals as goal

pub unreachable-requires : goal.unreachable-requires
unreachable-requires c = c.in-Err.ensures.cases.0 (name_utf8 c.args.field.now (sym c.is_name.ensures ∙ c.if-not-is_name.false))
