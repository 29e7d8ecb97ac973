use Rattle.where_tool.proofs.PointFacts.{many-at, ok-map}
use Rattle.where_tool.proofs.points.many_place.Goals as goal

pub byte_of-requires : goal.byte_of-requires
byte_of-requires c = (c.in_ok-tokens.tokens, c.in_ok-tokens.ensures)

pub returns : goal.returns
returns c =
    λ kind faulty. ok-map _ _ c.byte_of.result
    (λ place is. many-at c.args.text.now kind c.in_ok-tokens.tokens c.as_slice.result.now c.in_ok-n.n place c.as_slice.ensures c.in_ok-tokens.ensures c.in_ok-n.ensures is faulty) c.byte_of.ensures
