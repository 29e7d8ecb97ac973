use Rattle.efrp_syntax.proofs.PhraseLaws.{fails_like, fails_first, fails_next, found_like, found_next, found_done}
use Rattle.efrp_syntax.proofs.ItemKindFacts.{exits}
use Rattle.efrp_syntax.proofs.ItemFacts.{event_fits_1, event_fits_2, event_fits_3, event_fits_4, event_like}
use Rattle.efrp_syntax.proofs.items.event.Goals as goal

pub returns-in_err-event : goal.returns-in_err-event
returns-in_err-event c = exits _ _ _ _ _ _ _ _ c.from_residual.ensures.1 (fails_like event_like (fails_first event_fits_1 c.in_err-event.ensures))

pub returns-in_err-source : goal.returns-in_err-source
returns-in_err-source c =
    exits _ _ _ _ _ _ _ _ c.from_residual-in_err-source.ensures.1 (fails_like event_like (fails_next event_fits_1 c.in_ok-event.ensures (fails_first (event_fits_2 _) c.in_err-source.ensures)))

pub returns-in_err-rest : goal.returns-in_err-rest
returns-in_err-rest c =
    exits _ _ _ _ _ _ _ _ c.from_residual-in_err-rest.ensures.1 (fails_like event_like (fails_next event_fits_1 c.in_ok-event.ensures (fails_next (event_fits_2 _) c.in_ok-source.ensures (fails_first (event_fits_3 _ _) c.in_err-rest.ensures))))

pub returns-in_err-priority : goal.returns-in_err-priority
returns-in_err-priority c =
    exits _ _ _ _ _ _ _ _ c.from_residual-in_err-priority.ensures.1 (fails_like event_like (fails_next event_fits_1 c.in_ok-event.ensures (fails_next (event_fits_2 _) c.in_ok-source.ensures (fails_next (event_fits_3 _ _) c.in_ok-rest.ensures (fails_first (event_fits_4 _ _) c.in_err-priority.ensures)))))

pub returns : goal.returns
returns c =
    found_like event_like (found_next event_fits_1 c.in_ok-event.ensures (found_next (event_fits_2 _) c.in_ok-source.ensures (found_next (event_fits_3 _ _) c.in_ok-rest.ensures (found_next (event_fits_4 _ _) c.in_ok-priority.ensures (found_done _ _ _ _)))))
