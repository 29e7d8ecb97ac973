use Rattle.std.proofs.lemmas.Result.{err_from_is_err_and}
use Rattle.frp_tool.proofs.bigs.big_texts.Goals as goal

pub returns-in_err-big_texts_of : goal.returns-in_err-big_texts_of
returns-in_err-big_texts_of c =
    let p = err_from_is_err_and c.from_residual-in_err-big_texts_of.result c.from_residual-in_err-big_texts_of.ensures.1 in
    rw (p.1, p.2) tt
