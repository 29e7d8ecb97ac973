-- The work of a run goes on over whole runs of others.
use Rattle.std.proofs.Common.{ℕ, zero, suc, ◌∙◌, inl, inr}
use Rattle.pic_machine.specs.Chip.{Chip}
use Rattle.code_steps.specs.Between.{Others}
use Rattle.code_steps.proofs.BetweenLaws.{others_frame, holds_stays}
use Rattle.firmware_parts.specs.Layout.{Layout}
use Rattle.firmware_parts.specs.Runs.{AtLock, Void}

at_lock_moves : (l : Layout) (e : ℕ) (c d : Chip) → Others c d → AtLock l e c → AtLock l e d
at_lock_moves l e c d others lock = record { there = others.pc ∙ lock.there; bank = holds_stays (l.bank e) c d others lock.bank }

-- From a chip that others have left, with interrupts on or off, the work comes to its lock as well.
pub void_moves : (l : Layout) (e k : ℕ) (c d : Chip) → Others c d → Void l e k c → Void l e k d
void_moves l e zero c d others lock = at_lock_moves l e c d others lock
void_moves l e (suc k) c d others (inl lock) = inl (at_lock_moves l e c d others lock)
void_moves l e (suc k) c d others (inr goes) = inr (λ x returned. goes x (record { others = others_frame.joined c d x others returned.others; on = returned.on }))
