-- Marks that are put.
use Rattle.std.specs.Prelude.{◌≡◌, ◌≢◌, ℕ, ◌+◌, ◌<◌, ◌≤◌, ◌⊎◌, Bool, true, false, ◌||◌, ◌==◌, List, length, get_or, set, replicate, refl}
use Rattle.std.proofs.Common.{sym, ap, subst, ◌∙◌}
use Rattle.std.proofs.lemmas.Bool.{false≢true}
use Rattle.std.proofs.lemmas.Bool.Decides.{eqb_tells}
use Rattle.std.proofs.lemmas.List.{get_or-set_same, get_or-set_other, length-replicate, get_or_past, get_or-replicate}
use mathlib.Core.Logic.{inl, inr}
use Rattle.causality.specs.Graphs.{is_marked}
use Rattle.causality.proofs.ChoiceFacts.{below-or-not, or-none, or-right}

pub marked-set : (marked : List Bool) (i n : ℕ) → i < length marked → is_marked (set marked i true) n ≡ (is_marked marked n || (i == n))
marked-set marked i n less = by_number (eqb_tells i n)
  where
    by_number : (((i == n) ≡ true) × (i ≡ n)) ⊎ (((i == n) ≡ false) × (i ≢ n)) → is_marked (set marked i true) n ≡ (is_marked marked n || (i == n))
    by_number (inl s) = ap (λ k. is_marked (set marked i true) k) (sym s.1) ∙ get_or-set_same marked i true false less ∙ sym (or-right (is_marked marked n) true refl) ∙ ap (λ b. is_marked marked n || b) (sym s.0)
    by_number (inr s) = get_or-set_other marked i n true false (λ e. s.1 (sym e)) ∙ sym (or-none (is_marked marked n)) ∙ ap (λ b. is_marked marked n || b) (sym s.0)

pub marked-below : (marked : List Bool) (n : ℕ) → is_marked marked n ≡ true → n < length marked
marked-below marked n h = elim (below-or-not n (length marked)) [ inl less ↦ less | inr most ↦ absurd (false≢true (sym (get_or_past marked n false most) ∙ h)) ]

pub none-marked : (count n : ℕ) → is_marked (replicate count false) n ≡ false
none-marked count n = elim (below-or-not n count) [
  | inl less ↦ get_or-replicate count n false false less
  | inr most ↦ get_or_past (replicate count false) n false (subst (λ k. k ≤ n) (sym (length-replicate count false)) most)
]
