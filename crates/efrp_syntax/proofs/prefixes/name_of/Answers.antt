use Rattle.std.proofs.lemmas.Str.{IsUtf8-from_ascii}
use Rattle.text_parts.proofs.NameLaws.{bytes_ascii}
use Rattle.efrp_syntax.proofs.prefixes.name_of.Goals as goal

pub unreachable-requires : goal.unreachable-requires
unreachable-requires c = c.in-Err.ensures.cases.0 (IsUtf8-from_ascii c.args.bytes.now (bytes_ascii c.args.bytes.now c.requires))
