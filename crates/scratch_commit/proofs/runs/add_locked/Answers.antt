use Rattle.std.proofs.Common.{[], ◌∷◌, ◌++◌, ap, map, subst, sym, ◌∙◌}
use Rattle.std.specs.List.{AllByRecursion}
use Rattle.code_steps.specs.declared.banks.Bank.TheVariants.{Known}
use Rattle.code_items.specs.declared.items.Item.TheVariants.{Mark}
use Rattle.code_items.specs.Items.{raised}
use Rattle.glue_steps.specs.Lines.{LineNamed, item_of}
use Rattle.glue_parts.specs.Marks.{Again, mark}
use Rattle.scratch_commit.specs.Plans.{beginning, glue, lock_items, starting}
use Rattle.scratch_commit.proofs.DeedLaws.{named_in}
use Rattle.scratch_commit.proofs.NameFacts.{instructions_fit, instructions_raised, regroup_lock, starting_named}
use Rattle.scratch_commit.proofs.runs.add_locked.Goals as goal

pub add_lines-requires : goal.add_lines-requires
add_lines-requires c =
    let frame = c.args.terms.now.frame in
    let deeds = starting c.args.run.now.kind c.args.run.now.source c.args.terms.now.masks frame in
    subst (AllByRecursion LineNamed) (sym (c.deref.ensures.value ∙ c.in_ok-start.ensures.lines))
    (named_in (Known 0) deeds (starting_named c.args.run.now.kind c.args.run.now.source c.args.terms.now.masks frame c.requires.named))

pub append-requires : goal.append-requires
append-requires c = instructions_fit c.args.run.now.work.now.code.items c.requires.work

pub returns-clause-items : goal.returns-clause-items
returns-clause-items c =
    let old = c.args.code.now.items in
    let work = c.args.run.now.work.now.code.items in
    let raised_work = instructions_raised work c.requires.work in
    let start = glue (Known 0) (starting c.args.run.now.kind c.args.run.now.source c.args.terms.now.masks c.args.terms.now.frame) in
    let start_is = c.deref.ensures.value ∙ c.in_ok-start.ensures.lines in
    let event = c.args.run.now.event in
    let bank = c.args.run.now.work.now.bank in
    let begin_is = c.deref-2.ensures.value ∙ c.in_ok-begin.ensures.lines in
    c.in_ok-add_lock.ensures
    ∙ ap (λ items. items ++ lock_items event)
    (c.in_ok-append.ensures.ok ∙ ap (λ items. items ++ map (raised 0) work)
    (c.in_ok-add_lines-2.ensures.ok ∙ ap (λ items. items ++ map item_of c.deref-2.result.now)
    (c.in_ok-push.ensures.ok ∙ ap (λ items. items ++ Mark c.again.result ∷ []) c.in_ok-add_lines.ensures.ok)))
    ∙ (λ j. ((((old ++ map item_of (start_is j)) ++ Mark (c.again.ensures j) ∷ []) ++ map item_of (begin_is j)) ++ raised_work j) ++ lock_items event)
    ∙ regroup_lock old start (glue bank beginning) work (lock_items event) (Mark (mark (Again event)))
