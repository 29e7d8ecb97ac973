use Rattle.efrp_syntax.proofs.PhraseLaws.{fails_like, fails_first, fails_next, found_like, found_next, found_done}
use Rattle.efrp_syntax.proofs.ItemKindFacts.{exits}
use Rattle.efrp_syntax.proofs.DefinitionFacts.{decl_fits_1, decl_fits_2, decl_fits_3, decl_fits_4, decl_fits_5, decl_fits_6, decl_fits_7, decl_like}
use Rattle.efrp_syntax.proofs.definitions.decl.Goals as goal

pub returns-in_err-rest : goal.returns-in_err-rest
returns-in_err-rest c = exits _ _ _ _ _ _ _ _ c.from_residual.ensures.1 (fails_like decl_like (fails_first decl_fits_1 c.in_err-rest.ensures))

pub returns-in_err-name : goal.returns-in_err-name
returns-in_err-name c = exits _ _ _ _ _ _ _ _ c.from_residual-in_err-name.ensures.1 (fails_like decl_like (fails_next decl_fits_1 c.in_ok-rest.ensures (fails_first decl_fits_2 c.in_err-name.ensures)))

pub returns-in_err-rest-2 : goal.returns-in_err-rest-2
returns-in_err-rest-2 c = exits _ _ _ _ _ _ _ _ c.from_residual-in_err-rest-2.ensures.1 (fails_like decl_like (fails_next decl_fits_1 c.in_ok-rest.ensures (fails_next decl_fits_2 c.in_ok-name.ensures (fails_first (decl_fits_3 _) c.in_err-rest-2.ensures))))

pub returns-in_err-ty : goal.returns-in_err-ty
returns-in_err-ty c = exits _ _ _ _ _ _ _ _ c.from_residual-in_err-ty.ensures.1 (fails_like decl_like (fails_next decl_fits_1 c.in_ok-rest.ensures (fails_next decl_fits_2 c.in_ok-name.ensures (fails_next (decl_fits_3 _) c.in_ok-rest-2.ensures (fails_first (decl_fits_4 _) c.in_err-ty.ensures)))))

pub returns-in_err-rest-3 : goal.returns-in_err-rest-3
returns-in_err-rest-3 c = exits _ _ _ _ _ _ _ _ c.from_residual-in_err-rest-3.ensures.1 (fails_like decl_like (fails_next decl_fits_1 c.in_ok-rest.ensures (fails_next decl_fits_2 c.in_ok-name.ensures (fails_next (decl_fits_3 _) c.in_ok-rest-2.ensures (fails_next (decl_fits_4 _) c.in_ok-ty.ensures (fails_first (decl_fits_5 _ _) c.in_err-rest-3.ensures))))))

pub returns-in_err-behaviour : goal.returns-in_err-behaviour
returns-in_err-behaviour c = exits _ _ _ _ _ _ _ _ c.from_residual-in_err-behaviour.ensures.1 (fails_like decl_like (fails_next decl_fits_1 c.in_ok-rest.ensures (fails_next decl_fits_2 c.in_ok-name.ensures (fails_next (decl_fits_3 _) c.in_ok-rest-2.ensures (fails_next (decl_fits_4 _) c.in_ok-ty.ensures (fails_next (decl_fits_5 _ _) c.in_ok-rest-3.ensures (fails_first (decl_fits_6 _ _) c.in_err-behaviour.ensures)))))))

pub returns-in_err-rest-4 : goal.returns-in_err-rest-4
returns-in_err-rest-4 c = exits _ _ _ _ _ _ _ _ c.from_residual-in_err-rest-4.ensures.1 (fails_like decl_like (fails_next decl_fits_1 c.in_ok-rest.ensures (fails_next decl_fits_2 c.in_ok-name.ensures (fails_next (decl_fits_3 _) c.in_ok-rest-2.ensures (fails_next (decl_fits_4 _) c.in_ok-ty.ensures (fails_next (decl_fits_5 _ _) c.in_ok-rest-3.ensures (fails_next (decl_fits_6 _ _) c.in_ok-behaviour.ensures (fails_first (decl_fits_7 _ _ _) c.in_err-rest-4.ensures))))))))

pub returns : goal.returns
returns c = found_like decl_like (found_next decl_fits_1 c.in_ok-rest.ensures (found_next decl_fits_2 c.in_ok-name.ensures (found_next (decl_fits_3 _) c.in_ok-rest-2.ensures (found_next (decl_fits_4 _) c.in_ok-ty.ensures (found_next (decl_fits_5 _ _) c.in_ok-rest-3.ensures (found_next (decl_fits_6 _ _) c.in_ok-behaviour.ensures (found_next (decl_fits_7 _ _ _) c.in_ok-rest-4.ensures (found_done _ _ _ _))))))))
