use Rattle.std.proofs.Common.{◌<◌, [], ◌∷◌, ◌++◌, append_assoc, length, map, take, ap, ap₂, sym, ◌∙◌}
use Rattle.std.proofs.lemmas.List.{get_or-map, length-map, take_more}
use Rattle.event_ops.specs.declared.results.Copied.{Copied}
use Rattle.event_code.specs.Moves.{move_of}
use Rattle.event_code.proofs.works.add_copies.Goals as goal

pub loop-one-preserved : goal.loop-one-preserved
loop-one-preserved c =
    let copies = c.args.copies.now in
    let move = move_of c.args.places.now.need in
    let i = c.loop-one.one-index in
    let none : Copied = record { from = 0; to = 0 } in
    let below : i < length copies = c.loop-one-test.true in
    let inside : i < length (map move copies) = rw length-map below in
    let more = take_more (map move copies) i (move none) inside ∙ ap (λ x. take i (map move copies) ++ x ∷ []) (get_or-map move copies i none (move none) below) in
    c.in_ok-push.ensures.items ∙ ap₂ (λ xs x. xs ++ x ∷ []) c.loop-one.invariant c.copy_move.ensures
    ∙ append_assoc c.args.moves.now.items (take i (map move copies)) _ ∙ ap (λ xs. c.args.moves.now.items ++ xs) (sym more)
