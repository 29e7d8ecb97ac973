use Rattle.code_items.proofs.PieceLaws.{piece-stands}
use Rattle.code_items.proofs.laws.each_piece_stands.Goals as goal

pub returns : goal.returns
returns c = λ paged program marks pieces q k none inside stands. piece-stands paged program marks pieces q k none inside stands
