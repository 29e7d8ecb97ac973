use Rattle.std.proofs.Common.{◌<◌, ◌++◌, ◌∷◌, [], if◌then◌else◌, length, ap, subst, sym, ◌∙◌, append-nil}
use Rattle.std.specs.List.{AllByRecursion}
use Rattle.code_items.specs.declared.items.Code.{Code}
use Rattle.code_items.specs.declared.items.Item.TheVariants.{Jump}
use Rattle.glue_parts.specs.Marks.{Entry, mark}
use Rattle.isr_vector.proofs.ListLaws.{all_before}
use Rattle.isr_vector.proofs.TestLaws.{choice_added}
use Rattle.isr_vector.proofs.dispatch.dispatch.Goals as goal
use Rattle.isr_vector.proofs.dispatch.dispatch.Goals.{then-pages+in_ok-push, else-pages}

pub add_tests-requires : goal.add_tests-requires
add_tests-requires c =
    all_before (λ event. event < length c.args.c.now.typed.program.events) c.in-Some.tested.now _
    (subst (AllByRecursion (λ event. event < length c.args.c.now.typed.program.events)) c.in-Some.ensures.cases.0 c.requires)

pub returns : goal.returns
returns c = λ source are.
    let middle = c.add_tests.new.code.items in
    let last = c.in-Some.last.now in
    elim c.if-pages.branch [
      | then-pages+in_ok-push w ↦
          choice_added source c.args.pages c.args.order.now c.in-Some.tested.now last c.new-code.result.items middle c.if-pages.code.items c.in-Some.ensures.cases.0 c.new-code.ensures
          (c.in_ok-add_tests.ensures source are)
          (ap (λ (k : Code). k.items) w.code-is ∙ w.in_ok-push.ensures.ok ∙ ap (λ m. middle ++ Jump m ∷ []) w.entry.ensures
          ∙ ap (λ b. middle ++ (if b then Jump (mark (Entry last)) ∷ [] else [])) (sym w.if-pages.true))
      | else-pages w ↦
          choice_added source c.args.pages c.args.order.now c.in-Some.tested.now last c.new-code.result.items middle c.if-pages.code.items c.in-Some.ensures.cases.0 c.new-code.ensures
          (c.in_ok-add_tests.ensures source are)
          (ap (λ (k : Code). k.items) w.code-is ∙ sym (append-nil middle) ∙ ap (λ b. middle ++ (if b then Jump (mark (Entry last)) ∷ [] else [])) (sym w.if-pages.false))
    ]
