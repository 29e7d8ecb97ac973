-- An event that is heard with its flag set is taken at that boundary or the next: for the clause `in_time` of `Urgent`.
use Rattle.std.specs.Prelude.{ℕ, zero, suc, true, false, [], ◌∷◌}
use Rattle.std.proofs.Common.{◌≡◌, refl, inl, inr, arith}
use Rattle.pic_machine.specs.Boundary.{Step}
use Rattle.firmware_promises.specs.Urgent.{TakesInTime}
use Rattle.promise_examples.proofs.Logs.Stories.{chip, ran, took, told, counting_map}

-- GIE and Tick's flag are on, and an instruction runs, which may turn GIE off; the taking; and what the chip does for good then.
abbrev waits : Step
waits = ran (chip 8 true true 0) (chip 8 true true 0)

abbrev turns_off : Step
turns_off = ran (chip 8 true true 0) (chip 9 false true 0)

abbrev taken : Step
taken = took (chip 8 true true 0) (chip 8 true true 0) (chip 4 false true 0)

abbrev taken_while_off : Step
taken_while_off = took (chip 9 false true 0) (chip 9 false true 0) (chip 4 false true 0)

abbrev deaf : Step
deaf = ran (chip 4 false true 0) (chip 4 false true 0)

-- Late by one, with GIE on and with GIE turned off meanwhile.
pub late_by_one_is_in_time : (n : ℕ) → TakesInTime counting_map (told (waits ∷ taken ∷ []) deaf) n
late_by_one_is_in_time n zero h = ((λ heard is_set. inr refl), tt)
late_by_one_is_in_time n (suc zero) h = ((λ heard is_set. inl refl), tt)
late_by_one_is_in_time n (suc (suc k)) h = ((λ heard is_set. absurd cc), tt)

pub late_while_off_is_in_time : (n : ℕ) → TakesInTime counting_map (told (turns_off ∷ taken_while_off ∷ []) deaf) n
late_while_off_is_in_time n zero h = ((λ heard is_set. inr refl), tt)
late_while_off_is_in_time n (suc zero) h = ((λ heard is_set. absurd cc), tt)
late_while_off_is_in_time n (suc (suc k)) h = ((λ heard is_set. absurd cc), tt)

-- Late by two; and never taken, once GIE was turned off.
pub late_by_two_is_too_late : TakesInTime counting_map (told (waits ∷ waits ∷ taken ∷ []) deaf) 2 → ⊥
late_by_two_is_too_late it = elim ((it 0 (omega arith)).0 refl refl) [ inl e ↦ (let no : false ≡ true = e in cc) | inr e ↦ (let no : false ≡ true = e in cc) ]

pub request_must_not_be_dropped : TakesInTime counting_map (told (turns_off ∷ []) deaf) 2 → ⊥
request_must_not_be_dropped it = elim ((it 0 (omega arith)).0 refl refl) [ inl e ↦ (let no : false ≡ true = e in cc) | inr e ↦ (let no : false ≡ true = e in cc) ]

-- With one step passed it may still be taken at the next.
pub one_step_shows_nothing : TakesInTime counting_map (told (waits ∷ waits ∷ taken ∷ []) deaf) 1
one_step_shows_nothing k h = absurd (omega (arith, h))
