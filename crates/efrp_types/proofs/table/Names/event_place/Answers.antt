use Rattle.std.specs.Prelude.{position}
use Rattle.std.specs.Str.{bytes_eq}
use Rattle.std.specs.String.{string_bytes}
use Rattle.std.proofs.Common.{sym, ap, ◌∙◌}
use Rattle.efrp_types.specs.Numbers.{NameLists}
use Rattle.efrp_types.proofs.NumberLaws.{position_mapped}
use Rattle.efrp_types.proofs.table.Names.event_place.Goals as goal

pub returns : goal.returns
returns c =
    c.get_index_of.ensures.index
    ∙ ap (λ q. position (λ k. bytes_eq q (string_bytes k)) c.self.inside.events.keys) c.as_str.ensures
    ∙ sym (position_mapped (bytes_eq c.args.name.now) string_bytes c.self.inside.events.keys)
    ∙ ap (λ (names : NameLists). position (bytes_eq c.args.name.now) names.events) c.self.view_is
