use Rattle.std.proofs.Common.{◌++◌, refl, ap, ◌∙◌}
use Rattle.std.proofs.lemmas.Bool.{not-false, not-true}
use Rattle.code_items.specs.Items.{has_pages}
use Rattle.firmware_layout.specs.Codes.{makings_of, program_in}
use Rattle.firmware_layout.proofs.CodeFacts.{filled_has_pages, made_one_page, made_several, order_events, order_few, vector_is}
use Rattle.firmware_layout.proofs.code.Parts.code_on.Goals as goal

pub vector-requires-clause-events : goal.vector-requires-clause-events
vector-requires-clause-events c =
    order_events (program_in c.args.self.now) c.deref.result.now _ (c.deref.ensures.value ∙ c.in_ok-order.ensures (program_in c.args.self.now) c.requires.levels) refl

pub vector-requires-clause-few : goal.vector-requires-clause-few
vector-requires-clause-few c =
    order_few (program_in c.args.self.now) c.deref.result.now (c.deref.ensures.value ∙ c.in_ok-order.ensures (program_in c.args.self.now) c.requires.levels)
    c.args.self.now.c.now.typed.formed.written.events

pub add_runs-requires-clause-events : goal.add_runs-requires-clause-events
add_runs-requires-clause-events c =
    order_events (program_in c.args.self.now) c.deref-then-not-spread.result.now _
    (c.deref-then-not-spread.ensures.value ∙ c.in_ok-order.ensures (program_in c.args.self.now) c.requires.levels) c.requires.levels.events

pub returns-then-not-spread-clause-items : goal.returns-then-not-spread-clause-items
returns-then-not-spread-clause-items c = λ source are.
    let parts = c.args.self.now in
    let f = makings_of parts c.args.spread source in
    let order = c.in_ok-order.ensures (program_in parts) c.requires.levels in
    let vector = c.in_ok-vector.ensures in
    let its = vector_is f vector.0 c.deref.result.now c.in_ok-vector.vector vector.1 (vector.2 source are) (c.deref.ensures.value ∙ order) in
    made_one_page f c.in_ok-vector.vector c.deref-then-not-spread.result.now c.add_runs.new.code.items c.extend_from_slice.new.self (not-true c.args.spread.pages c.if-not-spread.true) its
    (c.deref-then-not-spread.ensures.value ∙ order) (c.in_ok-add_runs.ensures source are)
    (c.in_ok-extend_from_slice.ensures.ok ∙ ap (λ items. c.add_runs.new.code.items ++ items) c.as_slice.ensures)

pub add_runs-requires-2-clause-events : goal.add_runs-requires-2-clause-events
add_runs-requires-2-clause-events c =
    order_events (program_in c.args.self.now) c.deref-2.result.now _
    (c.deref-2.ensures.value ∙ c.in_ok-order.ensures (program_in c.args.self.now) c.requires.levels) c.requires.levels.events

pub returns-clause-items : goal.returns-clause-items
returns-clause-items c = λ source are.
    let parts = c.args.self.now in
    let f = makings_of parts c.args.spread source in
    let order = c.in_ok-order.ensures (program_in parts) c.requires.levels in
    let vector = c.in_ok-vector.ensures in
    let its = vector_is f vector.0 c.deref.result.now c.in_ok-vector.vector vector.1 (vector.2 source are) (c.deref.ensures.value ∙ order) in
    made_several f c.in_ok-vector.vector c.deref-2.result.now c.extend_from_slice-2.new.self c.add_runs-2.new.code.items c.fill_up.new.code.items
    (not-false c.args.spread.pages c.if-not-spread.false) its (c.deref-2.ensures.value ∙ order)
    (c.in_ok-extend_from_slice-2.ensures.ok ∙ ap (λ items. c.in_ok-vector.vector.head.items ++ items) c.as_slice-2.ensures)
    (c.in_ok-add_runs-2.ensures source are) c.in_ok-fill_up.ensures

pub returns-clause-pages : goal.returns-clause-pages
returns-clause-pages c = λ pages. ap has_pages c.in_ok-fill_up.ensures ∙ filled_has_pages c.add_runs-2.new.code.items
