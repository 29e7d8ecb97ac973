use Rattle.std.proofs.Common.{[], ◌∷◌, ◌++◌, ap, map, sym, ◌∙◌}
use Rattle.code_items.specs.declared.items.Item.TheVariants.{Mark}
use Rattle.glue_steps.specs.Lines.{item_of}
use Rattle.scratch_commit.specs.Windows.{marked_last}
use Rattle.scratch_commit.proofs.WindowFacts.{marked_is, regroup_last}
use Rattle.scratch_commit.proofs.windows.add_marked.Goals as goal

pub returns-in_ok-push-2 : goal.returns-in_ok-push-2
returns-in_ok-push-2 c =
    let old = c.args.code.now.items in
    let m = c.args.mark in
    let last = c.in-Some.last.now in
    let before = c.in-Some.before.now in
    c.in_ok-push-2.ensures.ok
    ∙ ap (λ items. items ++ c.item.result ∷ []) (c.in_ok-push.ensures.ok ∙ ap (λ items. items ++ Mark m ∷ []) c.in_ok-add_lines.ensures.ok)
    ∙ ap (λ item. ((old ++ map item_of before) ++ Mark m ∷ []) ++ item ∷ []) c.item.ensures
    ∙ regroup_last old (map item_of before) (Mark m) (item_of last)
    ∙ ap (λ items. old ++ items) (sym (marked_is m before last))
    ∙ ap (λ lines. old ++ marked_last m lines) (sym c.in-Some.ensures.cases.0)
