use Rattle.std.specs.Prelude.{map}
use Rattle.std.specs.Str.{bytes_eq}
use Rattle.std.specs.String.{string_bytes}
use Rattle.std.proofs.Common.{ap, ◌∙◌}
use Rattle.indexmap.specs.IndexSet.{insert_key}
use Rattle.efrp_types.specs.Numbers.{texts_of}
use Rattle.efrp_types.proofs.KeyFacts.{put-text}
use Rattle.efrp_types.proofs.table.put.Goals as goal

pub returns : goal.returns
returns c =
    ap (map string_bytes) c.in_ok-insert.ensures.keys
    ∙ put-text c.args.names.now.keys c.in_ok-from_str.field-0
    ∙ ap (insert_key bytes_eq (texts_of c.args.names.now)) (c.in_ok-from_str.ensures.ok ∙ c.as_str.ensures)
