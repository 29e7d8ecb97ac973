use Rattle.std.proofs.Common.{◌≡◌, sym, ap, subst, get_or, ◌∙◌}
use Rattle.frp_tree.specs.declared.syntax.Event.{Event}
use Rattle.frp_tree.specs.Tree.{program_tree_of}
use Rattle.pic_isa.specs.declared.sources.Source.{Source}
use Rattle.pic_isa.specs.Sources.{source_name}
use Rattle.efrp_types.proofs.GoodLaws.{no-fault-is-good}
use Rattle.efrp_types.proofs.RowLaws.{all-at}
use Rattle.efrp_types.proofs.NumberLaws.{source_at}
use Rattle.efrp_types.proofs.SourceFacts.{has-source}
use Rattle.efrp_types.proofs.typed.Typed.event_source.Goals as goal

pub unwrap-requires : goal.unwrap-requires
unwrap-requires c =
    has-source c.as_str.result.now c.source_named.result c.source_named.ensures.none
    (subst (λ name. (s : Source) × (name ≡ source_name s)) (sym c.as_str.ensures)
    (all-at (λ (e : Event). (s : Source) × (e.source ≡ source_name s)) c.args.self.now.program.events c.args.event c.index-as_slice-event.result c.requires
    (c.index-as_slice-event.is ∙ ap (λ es. get_or es c.args.event c.index-as_slice-event.result) c.as_slice.ensures)
    (no-fault-is-good (program_tree_of c.args.self.now.program) c.args.self.now.checked.names).sources_exist))

pub returns : goal.returns
returns c =
    source_at (program_tree_of c.args.self.now.program) c.args.event c.index-as_slice-event.result c.requires
    (c.index-as_slice-event.is ∙ ap (λ es. get_or es c.args.event c.index-as_slice-event.result) c.as_slice.ensures)
    ∙ sym c.as_str.ensures ∙ (rw c.unwrap.ensures at c.source_named.ensures.found)
