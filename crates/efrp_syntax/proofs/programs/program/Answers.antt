use Rattle.efrp_syntax.proofs.PhraseLaws.{fails_like, fails_first, fails_next, found_like, found_next}
use Rattle.efrp_syntax.proofs.ProgramFacts.{program_exits, program_fits_1, program_fits_2, program_fits_3, program_fits_4, program_like, not_ended, found_end}
use Rattle.efrp_syntax.proofs.programs.program.Goals as goal

pub returns-in_err-events : goal.returns-in_err-events
returns-in_err-events c = program_exits _ _ _ _ _ c.from_residual.ensures.1 (fails_like program_like (fails_first program_fits_1 c.in_err-events.ensures))

pub returns-in_err-setups : goal.returns-in_err-setups
returns-in_err-setups c = program_exits _ _ _ _ _ c.from_residual-in_err-setups.ensures.1 (fails_like program_like (fails_next program_fits_1 c.in_ok-events.ensures (fails_first (program_fits_2 _) c.in_err-setups.ensures)))

pub returns-in_err-decls : goal.returns-in_err-decls
returns-in_err-decls c = program_exits _ _ _ _ _ c.from_residual-in_err-decls.ensures.1 (fails_like program_like (fails_next program_fits_1 c.in_ok-events.ensures (fails_next (program_fits_2 _) c.in_ok-setups.ensures (fails_first (program_fits_3 _ _) c.in_err-decls.ensures))))

pub returns-in_err-outputs : goal.returns-in_err-outputs
returns-in_err-outputs c = program_exits _ _ _ _ _ c.from_residual-in_err-outputs.ensures.1 (fails_like program_like (fails_next program_fits_1 c.in_ok-events.ensures (fails_next (program_fits_2 _) c.in_ok-setups.ensures (fails_next (program_fits_3 _ _) c.in_ok-decls.ensures (fails_first (program_fits_4 _ _ _) c.in_err-outputs.ensures)))))

pub returns-then-not-is_empty : goal.returns-then-not-is_empty
returns-then-not-is_empty c = fails_like program_like (fails_next program_fits_1 c.in_ok-events.ensures (fails_next (program_fits_2 _) c.in_ok-setups.ensures (fails_next (program_fits_3 _ _) c.in_ok-decls.ensures (fails_next (program_fits_4 _ _ _) c.in_ok-outputs.ensures (not_ended _ _ _ c.if-not-is_empty.ensures)))))

pub returns : goal.returns
returns c = found_like program_like (found_next program_fits_1 c.in_ok-events.ensures (found_next (program_fits_2 _) c.in_ok-setups.ensures (found_next (program_fits_3 _ _) c.in_ok-decls.ensures (found_next (program_fits_4 _ _ _) c.in_ok-outputs.ensures (found_end _ _ _ c.if-not-is_empty.ensures)))))
