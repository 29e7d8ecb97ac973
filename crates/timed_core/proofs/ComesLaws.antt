-- What comes in time: where each step of a class lowers a number or meets a goal, the goal is met before the number is out.
use Rattle.std.specs.Prelude.{ℕ, zero, suc, ◌+◌, ◌<◌, ◌≤◌, ◌⊎◌}
use Rattle.std.proofs.Common.{◌≡◌, subst, arith, inl, inr}

module _ (rank : ℕ → ℕ) (In Goal : ℕ → Type 0) (falls : (n : ℕ) → In n → Goal n ⊎ (In (suc n) × (rank (suc n) < rank n))) where
  abbrev pub Comes : ℕ → ℕ → Type 0
  Comes n d = (k : ℕ) × (n ≤ k) × (k ≤ n + d) × Goal k × ((j : ℕ) → n ≤ j → j ≤ k → In j)

  only : (n : ℕ) → In n → (j : ℕ) → n ≤ j → j ≤ n → In j
  only n i j h g = let same : n ≡ j = omega arith in subst In same i

  first_or_later : (n j : ℕ) → n ≤ j → (n ≡ j) ⊎ (suc n ≤ j)
  first_or_later n j h = grind arith

  within_steps : (d n : ℕ) → rank n ≤ d → In n → Comes n d
  within_steps zero n h i = by (falls n i)
    where
      by : Goal n ⊎ (In (suc n) × (rank (suc n) < rank n)) → Comes n zero
      by (inl g) = (n, omega arith, omega arith, g, only n i)
      by (inr later) = let low = later.1 in absurd (omega arith)
  within_steps (suc d) n h i = by (falls n i) (λ low there. within_steps d (suc n) low there)
    where
      before : (k : ℕ) → ((j : ℕ) → suc n ≤ j → j ≤ k → In j) → (j : ℕ) → n ≤ j → j ≤ k → In j
      before k rest j h g = here (first_or_later n j h)
        where
          here : (n ≡ j) ⊎ (suc n ≤ j) → In j
          here (inl same) = subst In same i
          here (inr after) = rest j after g

      by : Goal n ⊎ (In (suc n) × (rank (suc n) < rank n)) → (rank (suc n) ≤ d → In (suc n) → Comes (suc n) d) → Comes n (suc d)
      by (inl g) rest = (n, omega arith, omega arith, g, only n i)
      by (inr later) rest =
          let low = later.1 in
          let it = rest (omega arith) later.0 in
          (it.0, let h = it.1 in omega arith, let h = it.2 in omega arith, it.3, before it.0 it.4)

  pub comes : (n : ℕ) → In n → Comes n (rank n)
  comes n i = within_steps (rank n) n (omega arith) i
