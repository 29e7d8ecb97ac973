-- Pieces of code one after another: where each stands, and that no address lies in two of them.
use Rattle.std.proofs.Common.{◌≡◌, ℕ, zero, suc, ◌+◌, ◌%◌, ◌≤◌, ◌<◌, Bool, List, [], ◌∷◌, length, refl, subst, arith, inl, inr}
use Rattle.std.proofs.lemmas.Bool.{cases_lt}
use Rattle.code_steps.specs.Ends.{Between}
use Rattle.code_items.specs.declared.items.Item.{Item}
use Rattle.code_items.specs.Items.{words_in}
use Rattle.code_items.specs.Lines.{Stands}
use Rattle.code_items.specs.Places.{joined, piece_at, base, NoneSkips}
use Rattle.code_items.proofs.ItemLaws.{words-append}
use Rattle.code_items.proofs.StandLaws.{behind, stands-parts}

-- Each piece begins where the one before it ends, and they rise; they end where all items do.
pub base-next : (paged : Bool) (pieces : List (List Item)) (k : ℕ) → k < length pieces → base paged pieces (suc k) ≡ base paged pieces k + words_in paged (piece_at pieces k)
base-next paged [] k inside = absurd (omega (arith, inside))
base-next paged (piece ∷ []) zero inside = omega arith
base-next paged (piece ∷ other ∷ pieces) zero inside = omega arith
base-next paged (piece ∷ pieces) (suc k) inside = omega (arith, base-next paged pieces k (omega (arith, inside)))

pub base-rises : (paged : Bool) (pieces : List (List Item)) (j k : ℕ) → j ≤ k → base paged pieces j ≤ base paged pieces k
base-rises paged [] j k le = omega arith
base-rises paged (piece ∷ pieces) zero zero le = omega arith
base-rises paged (piece ∷ pieces) zero (suc k) le = omega arith
base-rises paged (piece ∷ pieces) (suc j) zero le = absurd (omega arith)
base-rises paged (piece ∷ pieces) (suc j) (suc k) le = omega (arith, base-rises paged pieces j k (omega arith))

pub base-ends : (paged : Bool) (pieces : List (List Item)) → base paged pieces (length pieces) ≡ words_in paged (joined pieces)
base-ends paged [] = refl
base-ends paged (piece ∷ pieces) = omega (arith, words-append paged piece (joined pieces), base-ends paged pieces)

-- No address lies in two pieces.
before-apart : (paged : Bool) (pieces : List (List Item)) (j k a : ℕ) → j < k
    → Between (base paged pieces j) (base paged pieces (suc j)) a → Between (base paged pieces k) (base paged pieces (suc k)) a → ⊥
before-apart paged pieces j k a less first second = omega (arith, base-rises paged pieces (suc j) k (omega arith), first, second)

pub pieces-apart : (paged : Bool) (pieces : List (List Item)) (j k a : ℕ) → (j ≡ k → ⊥)
    → Between (base paged pieces j) (base paged pieces (suc j)) a → Between (base paged pieces k) (base paged pieces (suc k)) a → ⊥
pieces-apart paged pieces j k a differ first second = elim (cases_lt j k) [
  | inl less ↦ before-apart paged pieces j k a less first second
  | inr other ↦ elim (cases_lt k j) [
    | inl more ↦ before-apart paged pieces k j a more second first
    | inr same ↦ differ (omega arith)
  ]
]

-- Each piece stands at its base.
onward : (p n m : ℕ) → ((p + n) % 8192 + m) % 8192 ≡ (p + (n + m)) % 8192
onward p n m = omega arith

from_base : (paged : Bool) (program marks : ℕ → ℕ) (pieces : List (List Item)) (p q k : ℕ) → p < 8192 → NoneSkips pieces → k < length pieces
    → Stands paged program marks p (joined pieces) q
    → Stands paged program marks ((p + base paged pieces k) % 8192) (piece_at pieces k) ((p + base paged pieces (suc k)) % 8192)
from_base paged program marks [] p q k below none inside stands = absurd (omega (arith, inside))
from_base paged program marks (piece ∷ pieces) p q zero below none inside stands =
    let here = (stands-parts paged program marks p q piece (joined pieces) below none.0 stands).0 in
    let start : p ≡ (p + 0) % 8192 = omega arith in
    let stop : behind paged p piece ≡ (p + base paged (piece ∷ pieces) (suc zero)) % 8192 =
    omega (arith, first_base pieces) in
    subst (λ r. Stands paged program marks ((p + 0) % 8192) piece r) stop (subst (λ r. Stands paged program marks r piece (behind paged p piece)) start here)
  where
    first_base : (rest : List (List Item)) → base paged rest zero ≡ 0
    first_base [] = refl
    first_base (x ∷ xs) = refl
from_base paged program marks (piece ∷ pieces) p q (suc k) below none inside stands =
    let there = (stands-parts paged program marks p q piece (joined pieces) below none.0 stands).1 in
    let later = from_base paged program marks pieces (behind paged p piece) q k (omega arith) none.1 (omega (arith, inside)) there in
    let start = onward p (words_in paged piece) (base paged pieces k) in
    let stop = onward p (words_in paged piece) (base paged pieces (suc k)) in
    subst (λ r. Stands paged program marks ((p + (words_in paged piece + base paged pieces k)) % 8192) (piece_at pieces k) r) stop
    (subst (λ r. Stands paged program marks r (piece_at pieces k) ((behind paged p piece + base paged pieces (suc k)) % 8192)) start later)

pub piece-stands : (paged : Bool) (program marks : ℕ → ℕ) (pieces : List (List Item)) (q k : ℕ) → NoneSkips pieces → k < length pieces → Stands paged program marks 0 (joined pieces) q
    → Stands paged program marks (base paged pieces k % 8192) (piece_at pieces k) (base paged pieces (suc k) % 8192)
piece-stands paged program marks pieces q k none inside stands =
    let stood = from_base paged program marks pieces 0 q k (omega arith) none inside stands in
    let start : (0 + base paged pieces k) % 8192 ≡ base paged pieces k % 8192 = omega arith in
    let stop : (0 + base paged pieces (suc k)) % 8192 ≡ base paged pieces (suc k) % 8192 = omega arith in
    subst (λ r. Stands paged program marks (base paged pieces k % 8192) (piece_at pieces k) r) stop
    (subst (λ r. Stands paged program marks r (piece_at pieces k) ((0 + base paged pieces (suc k)) % 8192)) start stood)
