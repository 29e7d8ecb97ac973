use Rattle.std.proofs.Common.{true, false, [], ◌∷◌, ◌++◌, ap, map, subst, sym, ◌∙◌}
use Rattle.std.specs.List.{AllByRecursion}
use Rattle.pic_regs.specs.declared.places.Place.TheVariants as place
use Rattle.code_steps.specs.declared.banks.Bank.TheVariants.{Known}
use Rattle.code_items.specs.Items.{raised}
use Rattle.glue_steps.specs.declared.lines.Line.TheVariants.{Bit}
use Rattle.glue_steps.specs.Lines.{LineNamed, item_of}
use Rattle.scratch_commit.specs.Plans.{glue, starting}
use Rattle.scratch_commit.proofs.DeedLaws.{named_in}
use Rattle.scratch_commit.proofs.NameFacts.{instructions_fit, instructions_raised, regroup_four, starting_named}
use Rattle.scratch_commit.proofs.runs.add_long.Goals as goal

pub add_lines-requires : goal.add_lines-requires
add_lines-requires c =
    let frame = c.args.terms.now.frame in
    let deeds = starting c.args.run.now.kind c.args.run.now.source c.args.terms.now.masks frame in
    subst (AllByRecursion LineNamed) (sym (c.deref.ensures.value ∙ c.in_ok-start.ensures.lines))
    (named_in (Known 0) deeds (starting_named c.args.run.now.kind c.args.run.now.source c.args.terms.now.masks frame c.requires.named))

pub append-requires : goal.append-requires
append-requires c = instructions_fit c.args.run.now.work.now.code.items c.requires.work

pub returns-clause-items : goal.returns-clause-items
returns-clause-items c =
    let old = c.args.code.now.items in
    let work = c.args.run.now.work.now.code.items in
    let raised_work = instructions_raised work c.requires.work in
    let start = glue (Known 0) (starting c.args.run.now.kind c.args.run.now.source c.args.terms.now.masks c.args.terms.now.frame) in
    let start_is = c.deref.ensures.value ∙ c.in_ok-start.ensures.lines in
    let on = item_of (Bit true place.Intcon 7) in
    let off = item_of (Bit false place.Intcon 7) in
    c.in_ok-add_interrupts-2.ensures
    ∙ ap (λ items. items ++ off ∷ [])
    (c.in_ok-append.ensures.ok ∙ ap (λ items. items ++ map (raised 0) work) (c.in_ok-add_interrupts.ensures ∙ ap (λ items. items ++ on ∷ []) c.in_ok-add_lines.ensures.ok))
    ∙ (λ j. (((old ++ map item_of (start_is j)) ++ on ∷ []) ++ raised_work j) ++ off ∷ [])
    ∙ regroup_four old start work on off
