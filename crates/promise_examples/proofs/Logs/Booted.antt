-- Logs that begin with the boot of the good log: after its two steps they are at their ready boundary.
use Rattle.std.specs.Prelude.{ℕ, zero, suc, ◌<◌, ◌≤◌, List, ◌∷◌}
use Rattle.std.proofs.Common.{refl, inl, inr, arith}
use Rattle.pic_machine.specs.Boundary.{Step}
use Rattle.pic_machine.specs.Run.{Log}
use Rattle.firmware_promises.specs.Ready.{ShowsReady, ReadyAt}
use Rattle.promise_examples.proofs.Logs.Stories.{told, counting_map}
use Rattle.promise_examples.proofs.Logs.GoodLog.{boots, starts}

abbrev pub booted : List Step → Step → Log
booted steps rest = told (boots ∷ starts ∷ steps) rest

pub not_before : (steps : List Step) (rest : Step) (n k : ℕ) → k < 2 → ShowsReady counting_map (booted steps rest) n k → ⊥
not_before steps rest n zero h (inl s) = let e = s.1 in cc
not_before steps rest n zero h (inr s) = let e = s.1 in cc
not_before steps rest n (suc zero) h (inl s) = let e = s.1 in cc
not_before steps rest n (suc zero) h (inr s) = let e = s.1 in cc
not_before steps rest n (suc (suc k)) h s = omega arith

pub ready_at : (steps : List Step) (rest : Step) (n : ℕ) → 2 ≤ n → ReadyAt counting_map (booted steps rest) n 2
ready_at steps rest n h = record { shown = inl (h, refl); least = not_before steps rest n }

pub ready_from : (steps : List Step) (rest : Step) (n r : ℕ) → ReadyAt counting_map (booted steps rest) n r → 2 ≤ r
ready_from steps rest n zero is_it = absurd (not_before steps rest n zero (omega arith) is_it.shown)
ready_from steps rest n (suc zero) is_it = absurd (not_before steps rest n (suc zero) (omega arith) is_it.shown)
ready_from steps rest n (suc (suc r)) is_it = omega arith
