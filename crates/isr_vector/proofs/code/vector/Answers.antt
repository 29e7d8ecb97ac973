use Rattle.std.proofs.Common.{ℕ, arith, slice_index_or, subst, sym, ◌∙◌}
use Rattle.std.specs.List.{AllByRecursion}
use Rattle.frp_tree.specs.Tree.{program_tree_of}
use Rattle.pic_isa.specs.declared.sources.Source.TheVariants.{T0}
use Rattle.efrp_types.proofs.TypedLaws.{no-fault-is-typed}
use Rattle.glue_steps.specs.Lines.{LineNamed}
use Rattle.isr_vector.specs.Taking.{context_of}
use Rattle.isr_vector.proofs.BootCountLaws.{boot_few}
use Rattle.isr_vector.proofs.ListLaws.{all_dropped, all_taken}
use Rattle.isr_vector.proofs.TestLaws.{taking_short}
use Rattle.isr_vector.proofs.code.vector.Goals as goal

pub count_words-requires : goal.count_words-requires
count_words-requires c =
    let typed = c.args.c.now.typed in
    let p = program_tree_of typed.program in
    let source = λ (event : ℕ). slice_index_or c.args.levels.now.sources event T0 in
    let short = taking_short source (context_of p c.args.spread) c.args.spread.pages c.args.order.now c.as_slice-2.result.now c.requires.few
    (c.as_slice-2.ensures ∙ c.in_ok-taking.ensures source c.requires.levels.sources) in
    let items = short.items_few in
    omega (arith, items)

pub overflow_cast-boot_at : goal.overflow_cast-boot_at
overflow_cast-boot_at c =
    let typed = c.args.c.now.typed in
    let p = program_tree_of typed.program in
    let source = λ (event : ℕ). slice_index_or c.args.levels.now.sources event T0 in
    let short = taking_short source (context_of p c.args.spread) c.args.spread.pages c.args.order.now c.as_slice-2.result.now c.requires.few
    (c.as_slice-2.ensures ∙ c.in_ok-taking.ensures source c.requires.levels.sources) in
    let words = short.words_few in
    let count = c.count_words.ensures in
    omega (arith, words, count)

pub overflow_add-boot_at : goal.overflow_add-boot_at
overflow_add-boot_at c =
    let typed = c.args.c.now.typed in
    let p = program_tree_of typed.program in
    let source = λ (event : ℕ). slice_index_or c.args.levels.now.sources event T0 in
    let short = taking_short source (context_of p c.args.spread) c.args.spread.pages c.args.order.now c.as_slice-2.result.now c.requires.few
    (c.as_slice-2.ensures ∙ c.in_ok-taking.ensures source c.requires.levels.sources) in
    let words = short.words_few in
    let count = c.count_words.ensures in
    omega (arith, words, count)

pub overflow_cast-ready_at : goal.overflow_cast-ready_at
overflow_cast-ready_at c =
    let typed = c.args.c.now.typed in
    let p = program_tree_of typed.program in
    let few = boot_few p c.args.places.now.need c.in_ok-lines.ensures.0 c.as_slice.result.now (no-fault-is-typed p typed.formed typed.checked.names typed.checked.types).0
    typed.formed.written.setups c.args.places.now.fits c.requires.placed (c.as_slice.ensures.value ∙ c.in_ok-lines.ensures.2) in
    let most = few.most in
    let back = c.split_at.ensures.back_len in
    omega (arith, most, back)

pub overflow_add-ready_at : goal.overflow_add-ready_at
overflow_add-ready_at c =
    let typed = c.args.c.now.typed in
    let p = program_tree_of typed.program in
    let source = λ (event : ℕ). slice_index_or c.args.levels.now.sources event T0 in
    let short = taking_short source (context_of p c.args.spread) c.args.spread.pages c.args.order.now c.as_slice-2.result.now c.requires.few
    (c.as_slice-2.ensures ∙ c.in_ok-taking.ensures source c.requires.levels.sources) in
    let words = short.words_few in
    let count = c.count_words.ensures in
    let few = boot_few p c.args.places.now.need c.in_ok-lines.ensures.0 c.as_slice.result.now (no-fault-is-typed p typed.formed typed.checked.names typed.checked.types).0
    typed.formed.written.setups c.args.places.now.fits c.requires.placed (c.as_slice.ensures.value ∙ c.in_ok-lines.ensures.2) in
    let most = few.most in
    let back = c.split_at.ensures.back_len in
    omega (arith, words, count, most, back)

pub overflow_add-ready_at-2 : goal.overflow_add-ready_at-2
overflow_add-ready_at-2 c =
    let typed = c.args.c.now.typed in
    let p = program_tree_of typed.program in
    let source = λ (event : ℕ). slice_index_or c.args.levels.now.sources event T0 in
    let short = taking_short source (context_of p c.args.spread) c.args.spread.pages c.args.order.now c.as_slice-2.result.now c.requires.few
    (c.as_slice-2.ensures ∙ c.in_ok-taking.ensures source c.requires.levels.sources) in
    let words = short.words_few in
    let count = c.count_words.ensures in
    let few = boot_few p c.args.places.now.need c.in_ok-lines.ensures.0 c.as_slice.result.now (no-fault-is-typed p typed.formed typed.checked.names typed.checked.types).0
    typed.formed.written.setups c.args.places.now.fits c.requires.placed (c.as_slice.ensures.value ∙ c.in_ok-lines.ensures.2) in
    let most = few.most in
    let back = c.split_at.ensures.back_len in
    omega (arith, words, count, most, back)

pub head-requires : goal.head-requires
head-requires c =
    let typed = c.args.c.now.typed in
    let p = program_tree_of typed.program in
    let few = boot_few p c.args.places.now.need c.in_ok-lines.ensures.0 c.as_slice.result.now (no-fault-is-typed p typed.formed typed.checked.names typed.checked.types).0
    typed.formed.written.setups c.args.places.now.fits c.requires.placed (c.as_slice.ensures.value ∙ c.in_ok-lines.ensures.2) in
    subst (AllByRecursion LineNamed) (sym c.split_at.ensures.front) (all_taken LineNamed 3 c.as_slice.result.now few.named)

pub boot-requires : goal.boot-requires
boot-requires c =
    let typed = c.args.c.now.typed in
    let p = program_tree_of typed.program in
    let few = boot_few p c.args.places.now.need c.in_ok-lines.ensures.0 c.as_slice.result.now (no-fault-is-typed p typed.formed typed.checked.names typed.checked.types).0
    typed.formed.written.setups c.args.places.now.fits c.requires.placed (c.as_slice.ensures.value ∙ c.in_ok-lines.ensures.2) in
    subst (AllByRecursion LineNamed) (sym c.split_at.ensures.back) (all_dropped LineNamed 3 c.as_slice.result.now few.named)
