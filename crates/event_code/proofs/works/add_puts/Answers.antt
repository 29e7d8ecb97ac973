use Rattle.std.proofs.Common.{◌<◌, [], ◌∷◌, ◌++◌, append_assoc, length, map, take, ap, ap₂, sym, ◌∙◌}
use Rattle.std.proofs.lemmas.List.{get_or-map, length-map, take_more}
use Rattle.event_ops.specs.declared.results.Put.{Put}
use Rattle.event_code.specs.Moves.{put_of}
use Rattle.event_code.proofs.works.add_puts.Goals as goal

pub loop-one-preserved : goal.loop-one-preserved
loop-one-preserved c =
    let puts = c.args.puts.now in
    let move = put_of c.args.places.now.need in
    let i = c.loop-one.one-index in
    let none : Put = record { from = 0; port = 0 } in
    let below : i < length puts = c.loop-one-test.true in
    let inside : i < length (map move puts) = rw length-map below in
    let more = take_more (map move puts) i (move none) inside ∙ ap (λ x. take i (map move puts) ++ x ∷ []) (get_or-map move puts i none (move none) below) in
    c.in_ok-push.ensures.items ∙ ap₂ (λ xs x. xs ++ x ∷ []) c.loop-one.invariant c.port_move.ensures
    ∙ append_assoc c.args.moves.now.items (take i (map move puts)) _ ∙ ap (λ xs. c.args.moves.now.items ++ xs) (sym more)
