-- The parts of an expression have room where it has, and what is added for each is added for it.
use Rattle.std.proofs.Common.{◌≡◌, ap, sym, ◌∙◌, rules, arith, ◌<◌}
use Rattle.frp_tree.specs.Limits.{nodes}
use Rattle.frp_tree.specs.Tree.{Binary, If, Unary, Shift, Convert, program_tree_of, tree_of}
use Rattle.expr_lower.specs.Nodes.{operand_of_name, some_operand}
use Rattle.expr_lower.proofs.RoomFacts.{unary-returns, shift-returns, convert-returns, binary-returns, if-returns, binary-first, binary-last, if-first, if-second, if-third, if-last}
use Rattle.expr_lower.proofs.lowering.+put.Goals as goal

pub put-requires-in-Binary : goal.put-requires-in-Binary
put-requires-in-Binary t c = (
  (let whole : nodes (tree_of c.args.e.now) ≡ t = c.decreases in let below : nodes (tree_of c.deref-in-Binary.result.now) < t = omega (arith, whole, ap nodes (ap tree_of c.in-Binary.is ∙ ap (λ a. Binary c.in-Binary.f (tree_of a) (tree_of c.in-Binary.b.value)) (sym c.deref-in-Binary.ensures))) in below),
  (
    search rules,
    binary-first (λ x. some_operand (operand_of_name (program_tree_of c.args.c.now.typed.program) c.args.places.now x))
        c.args.draft.now.next c.in-Binary.f (tree_of c.args.e.now) (tree_of c.deref-in-Binary.result.now) (tree_of c.in-Binary.b.value)
        (ap tree_of c.in-Binary.is ∙ ap (λ a. Binary c.in-Binary.f (tree_of a) (tree_of c.in-Binary.b.value)) (sym c.deref-in-Binary.ensures)) c.requires.room,
  ),
)

pub binary-requires : goal.binary-requires
binary-requires t c =
    binary-last (λ x. some_operand (operand_of_name (program_tree_of c.args.c.now.typed.program) c.args.places.now x))
    c.args.draft.now c.put-in-Binary.new.draft c.put-in-Binary-2.new.draft c.in-Binary.f (tree_of c.args.e.now) (tree_of c.deref-in-Binary.result.now) (tree_of c.deref-in-Binary-2.result.now) c.in_ok-a-in-Binary.a c.in_ok-b-in-Binary.b
    (ap tree_of c.in-Binary.is ∙ ap (λ a. Binary c.in-Binary.f (tree_of a) (tree_of c.in-Binary.b.value)) (sym c.deref-in-Binary.ensures) ∙ ap (λ b. Binary c.in-Binary.f (tree_of c.deref-in-Binary.result.now) (tree_of b)) (sym c.deref-in-Binary-2.ensures)) c.requires.room c.in_ok-a-in-Binary.ensures c.in_ok-b-in-Binary.ensures

pub put-requires-in-If : goal.put-requires-in-If
put-requires-in-If t c = (
  (let whole : nodes (tree_of c.args.e.now) ≡ t = c.decreases in let below : nodes (tree_of c.deref-in-If.result.now) < t = omega (arith, whole, ap nodes (ap tree_of c.in-If.is ∙ ap (λ k. If (tree_of k) (tree_of c.in-If.a.value) (tree_of c.in-If.b.value)) (sym c.deref-in-If.ensures))) in below),
  (
    search rules,
    if-first (λ x. some_operand (operand_of_name (program_tree_of c.args.c.now.typed.program) c.args.places.now x))
        c.args.draft.now.next (tree_of c.args.e.now) (tree_of c.deref-in-If.result.now) (tree_of c.in-If.a.value) (tree_of c.in-If.b.value)
        (ap tree_of c.in-If.is ∙ ap (λ k. If (tree_of k) (tree_of c.in-If.a.value) (tree_of c.in-If.b.value)) (sym c.deref-in-If.ensures)) c.requires.room,
  ),
)

pub put-requires-in-If-2 : goal.put-requires-in-If-2
put-requires-in-If-2 t c = (
  (let whole : nodes (tree_of c.args.e.now) ≡ t = c.decreases in let below : nodes (tree_of c.deref-in-If-2.result.now) < t = omega (arith, whole, ap nodes (ap tree_of c.in-If.is ∙ ap (λ k. If (tree_of k) (tree_of c.in-If.a.value) (tree_of c.in-If.b.value)) (sym c.deref-in-If.ensures) ∙ ap (λ a. If (tree_of c.deref-in-If.result.now) (tree_of a) (tree_of c.in-If.b.value)) (sym c.deref-in-If-2.ensures))) in below),
  (
    search rules,
    if-second (λ x. some_operand (operand_of_name (program_tree_of c.args.c.now.typed.program) c.args.places.now x))
        c.args.draft.now c.put-in-If.new.draft (tree_of c.args.e.now) (tree_of c.deref-in-If.result.now) (tree_of c.deref-in-If-2.result.now) (tree_of c.in-If.b.value) c.in_ok-test-in-If.test
        (ap tree_of c.in-If.is ∙ ap (λ k. If (tree_of k) (tree_of c.in-If.a.value) (tree_of c.in-If.b.value)) (sym c.deref-in-If.ensures) ∙ ap (λ a. If (tree_of c.deref-in-If.result.now) (tree_of a) (tree_of c.in-If.b.value)) (sym c.deref-in-If-2.ensures)) c.requires.room c.in_ok-test-in-If.ensures,
  ),
)

pub put-requires-in-If-3 : goal.put-requires-in-If-3
put-requires-in-If-3 t c = (
  (let whole : nodes (tree_of c.args.e.now) ≡ t = c.decreases in let below : nodes (tree_of c.deref-in-If-3.result.now) < t = omega (arith, whole, ap nodes (ap tree_of c.in-If.is ∙ ap (λ k. If (tree_of k) (tree_of c.in-If.a.value) (tree_of c.in-If.b.value)) (sym c.deref-in-If.ensures) ∙ ap (λ a. If (tree_of c.deref-in-If.result.now) (tree_of a) (tree_of c.in-If.b.value)) (sym c.deref-in-If-2.ensures) ∙ ap (λ b. If (tree_of c.deref-in-If.result.now) (tree_of c.deref-in-If-2.result.now) (tree_of b)) (sym c.deref-in-If-3.ensures))) in below),
  (
    search rules,
    if-third (λ x. some_operand (operand_of_name (program_tree_of c.args.c.now.typed.program) c.args.places.now x))
        c.args.draft.now c.put-in-If.new.draft c.put-in-If-2.new.draft (tree_of c.args.e.now) (tree_of c.deref-in-If.result.now) (tree_of c.deref-in-If-2.result.now) (tree_of c.deref-in-If-3.result.now) c.in_ok-test-in-If.test c.in_ok-a-in-If.a
        (ap tree_of c.in-If.is ∙ ap (λ k. If (tree_of k) (tree_of c.in-If.a.value) (tree_of c.in-If.b.value)) (sym c.deref-in-If.ensures) ∙ ap (λ a. If (tree_of c.deref-in-If.result.now) (tree_of a) (tree_of c.in-If.b.value)) (sym c.deref-in-If-2.ensures) ∙ ap (λ b. If (tree_of c.deref-in-If.result.now) (tree_of c.deref-in-If-2.result.now) (tree_of b)) (sym c.deref-in-If-3.ensures)) c.requires.room c.in_ok-test-in-If.ensures c.in_ok-a-in-If.ensures,
  ),
)

pub choose-requires : goal.choose-requires
choose-requires t c =
    if-last (λ x. some_operand (operand_of_name (program_tree_of c.args.c.now.typed.program) c.args.places.now x))
    c.args.draft.now c.put-in-If.new.draft c.put-in-If-2.new.draft c.put-in-If-3.new.draft (tree_of c.args.e.now) (tree_of c.deref-in-If.result.now) (tree_of c.deref-in-If-2.result.now) (tree_of c.deref-in-If-3.result.now) c.in_ok-test-in-If.test c.in_ok-a-in-If.a c.in_ok-b-in-If.b
    (ap tree_of c.in-If.is ∙ ap (λ k. If (tree_of k) (tree_of c.in-If.a.value) (tree_of c.in-If.b.value)) (sym c.deref-in-If.ensures) ∙ ap (λ a. If (tree_of c.deref-in-If.result.now) (tree_of a) (tree_of c.in-If.b.value)) (sym c.deref-in-If-2.ensures) ∙ ap (λ b. If (tree_of c.deref-in-If.result.now) (tree_of c.deref-in-If-2.result.now) (tree_of b)) (sym c.deref-in-If-3.ensures)) c.requires.room c.in_ok-test-in-If.ensures c.in_ok-a-in-If.ensures c.in_ok-b-in-If.ensures

pub returns-in_ok-a-in-Unary : goal.returns-in_ok-a-in-Unary
returns-in_ok-a-in-Unary t c =
    unary-returns (λ x. some_operand (operand_of_name (program_tree_of c.args.c.now.typed.program) c.args.places.now x))
    c.unary.result c.args.draft.now c.put.new.draft c.unary.new.draft c.in-Unary.f (tree_of c.args.e.now) (tree_of c.deref.result.now) c.in_ok-a-in-Unary.a
    (ap tree_of c.in-Unary.is ∙ ap (λ a. Unary c.in-Unary.f (tree_of a)) (sym c.deref.ensures)) c.in_ok-a-in-Unary.ensures c.unary.ensures

pub returns-in_ok-b-in-Binary : goal.returns-in_ok-b-in-Binary
returns-in_ok-b-in-Binary t c =
    binary-returns (λ x. some_operand (operand_of_name (program_tree_of c.args.c.now.typed.program) c.args.places.now x))
    c.binary.result c.args.draft.now c.put-in-Binary.new.draft c.put-in-Binary-2.new.draft c.binary.new.draft c.in-Binary.f (tree_of c.args.e.now) (tree_of c.deref-in-Binary.result.now) (tree_of c.deref-in-Binary-2.result.now) c.in_ok-a-in-Binary.a c.in_ok-b-in-Binary.b
    (ap tree_of c.in-Binary.is ∙ ap (λ a. Binary c.in-Binary.f (tree_of a) (tree_of c.in-Binary.b.value)) (sym c.deref-in-Binary.ensures) ∙ ap (λ b. Binary c.in-Binary.f (tree_of c.deref-in-Binary.result.now) (tree_of b)) (sym c.deref-in-Binary-2.ensures)) c.in_ok-a-in-Binary.ensures c.in_ok-b-in-Binary.ensures c.binary.ensures

pub returns-in_ok-a-in-Shift : goal.returns-in_ok-a-in-Shift
returns-in_ok-a-in-Shift t c =
    shift-returns (λ x. some_operand (operand_of_name (program_tree_of c.args.c.now.typed.program) c.args.places.now x))
    c.shift.result c.args.draft.now c.put-in-Shift.new.draft c.shift.new.draft c.in-Shift.side c.in-Shift.n (tree_of c.args.e.now) (tree_of c.deref-in-Shift.result.now) c.in_ok-a-in-Shift.a
    (ap tree_of c.in-Shift.is ∙ ap (λ a. Shift c.in-Shift.side (tree_of a) c.in-Shift.n) (sym c.deref-in-Shift.ensures)) c.in_ok-a-in-Shift.ensures c.shift.ensures

pub returns-in_ok-b-in-If : goal.returns-in_ok-b-in-If
returns-in_ok-b-in-If t c =
    if-returns (λ x. some_operand (operand_of_name (program_tree_of c.args.c.now.typed.program) c.args.places.now x))
    c.choose.result c.args.draft.now c.put-in-If.new.draft c.put-in-If-2.new.draft c.put-in-If-3.new.draft c.choose.new.draft (tree_of c.args.e.now) (tree_of c.deref-in-If.result.now) (tree_of c.deref-in-If-2.result.now) (tree_of c.deref-in-If-3.result.now) c.in_ok-test-in-If.test c.in_ok-a-in-If.a c.in_ok-b-in-If.b
    (ap tree_of c.in-If.is ∙ ap (λ k. If (tree_of k) (tree_of c.in-If.a.value) (tree_of c.in-If.b.value)) (sym c.deref-in-If.ensures) ∙ ap (λ a. If (tree_of c.deref-in-If.result.now) (tree_of a) (tree_of c.in-If.b.value)) (sym c.deref-in-If-2.ensures) ∙ ap (λ b. If (tree_of c.deref-in-If.result.now) (tree_of c.deref-in-If-2.result.now) (tree_of b)) (sym c.deref-in-If-3.ensures)) c.in_ok-test-in-If.ensures c.in_ok-a-in-If.ensures c.in_ok-b-in-If.ensures c.choose.ensures

pub returns-in_ok-a-in-Convert : goal.returns-in_ok-a-in-Convert
returns-in_ok-a-in-Convert t c =
    convert-returns (λ x. some_operand (operand_of_name (program_tree_of c.args.c.now.typed.program) c.args.places.now x))
    c.convert.result c.args.draft.now c.put-in-Convert.new.draft c.convert.new.draft c.in-Convert.to (tree_of c.args.e.now) (tree_of c.deref-in-Convert.result.now) c.in_ok-a-in-Convert.a
    (ap tree_of c.in-Convert.is ∙ ap (λ a. Convert c.in-Convert.to (tree_of a)) (sym c.deref-in-Convert.ensures)) c.in_ok-a-in-Convert.ensures c.convert.ensures
