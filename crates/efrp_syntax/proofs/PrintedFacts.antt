-- How the text of tokens is put together from its parts.
use Rattle.std.proofs.Common.{◌≡◌, ℕ, ◌-◌, ◌+◌, ◌≤◌, List, [], ◌∷◌, ◌++◌, length, take, get_or, reverse, sym, ap, ◌∙◌, arith}
use Rattle.std.proofs.lemmas.List.{append_assoc, reverse-append, take_more}
use Rattle.std.proofs.Math.Seq.{take-length}

-- The last byte in front goes over to the text behind.
pub last_moved : (front items new text : List ℕ) (d : ℕ) → 1 ≤ length front → new ≡ items ++ get_or front (length front - 1) d ∷ [] → front ++ reverse items ≡ text → take (length front - 1) front ++ reverse new ≡ text
last_moved front items new text d some e h =
    ap (λ x. take (length front - 1) front ++ x) (ap reverse e ∙ reverse-append items (get_or front (length front - 1) d ∷ []))
    ∙ sym (append_assoc (take (length front - 1) front) (get_or front (length front - 1) d ∷ []) (reverse items))
    ∙ ap (λ x. x ++ reverse items) whole ∙ h
  where
    whole : take (length front - 1) front ++ get_or front (length front - 1) d ∷ [] ≡ front
    whole = let n : length front - 1 + 1 ≡ length front = omega arith in sym (take_more front (length front - 1) d (omega arith)) ∙ ap (λ k. take k front) n ∙ take-length front
