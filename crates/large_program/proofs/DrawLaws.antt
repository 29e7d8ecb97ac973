-- Draws, one after the other, and what each gives.
use Rattle.std.proofs.Common.{◌≡◌, ℕ, zero, suc, ◌+◌, refl, ap, sym, ◌∙◌, arith, zero-add}
use Rattle.large_program.specs.Draws.{after_draws, next}

pub none_yet : (s : ℕ) → after_draws 0 s ≡ s
unfolding after_draws
none_yet s = refl

pub one_more : (k s : ℕ) → next (after_draws k s) ≡ after_draws (suc k) s
unfolding after_draws
one_more k s = refl

pub more_draws : (j k s : ℕ) → after_draws (j + k) s ≡ after_draws j (after_draws k s)
more_draws zero k s = ap (λ (m : ℕ). after_draws m s) (zero-add k) ∙ sym (none_yet (after_draws k s))
more_draws (suc j) k s =
    let e : suc j + k ≡ suc (j + k) = omega arith in
    ap (λ (m : ℕ). after_draws m s) e ∙ sym (one_more (j + k) s) ∙ ap next (more_draws j k s) ∙ one_more j (after_draws k s)

-- A number that is after k draws, and the one that follows it.
pub next_drawn : (k n s t : ℕ) → s ≡ after_draws k n → t ≡ next s → t ≡ after_draws (k + 1) n
next_drawn k n s t drawn follows = let e : suc k ≡ k + 1 = omega arith in follows ∙ ap next drawn ∙ one_more k n ∙ ap (λ (m : ℕ). after_draws m n) e
