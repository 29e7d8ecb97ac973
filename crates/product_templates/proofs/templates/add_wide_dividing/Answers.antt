use Rattle.std.proofs.Common.{[], ◌∷◌, ◌++◌, ◌∙◌, append_assoc}
use Rattle.std.proofs.lemmas.Result.{on_ok_weaker}
use Rattle.code_acts.specs.declared.acts.Name.TheVariants.{Operand4, Operand5}
use Rattle.code_acts.specs.declared.acts.Act.TheVariants.{Clear}
use Rattle.product_templates.specs.Templates.{repeated, wide_turning}
use Rattle.product_templates.proofs.templates.add_wide_dividing.Goals as goal

pub returns : goal.returns
returns c =
    on_ok_weaker c.add_repeated.result
    (λ h.
    h
    ∙ (λ j. c.in_ok-extend_from_slice.ensures.items j ++ repeated 16 (c.wide_turn.ensures j))
    ∙ append_assoc c.args.acts.now.items (Clear Operand4 ∷ Clear Operand5 ∷ []) (repeated 16 wide_turning))
    c.add_repeated.ensures
