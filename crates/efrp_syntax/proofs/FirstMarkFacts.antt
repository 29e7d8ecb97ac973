-- The mark at the beginning of a text.
use Rattle.std.proofs.Common.{◌≡◌, ℕ, ◌-◌, ◌≤◌, List, [], ◌∷◌, length, get_or, take, drop, Some, slice_get, sym, ap, ◌∙◌, arith}
use Rattle.std.proofs.lemmas.Bool.{false≢true}
use Rattle.std.proofs.lemmas.List.{take_rest}
use Rattle.frp_tree.specs.Tokens.{marks}
use Rattle.frp_tree.proofs.LexemeLaws.{mark_begins, mark_length}
use Rattle.frp_tree.proofs.LongestLaws.{two_longest, one_longest}
use Rattle.efrp_syntax.specs.Pieces.{IsFirstMark, HasNoLongMark, HasNoMark}

-- A list with an element, as its first and what follows.
pub one_first : (xs : List ℕ) → 1 ≤ length xs → xs ≡ get_or xs 0 0 ∷ take (length xs - 1) (drop 1 xs)
one_first [] l = absurd (omega arith)
one_first (x ∷ xs) l = ap (λ ys. x ∷ ys) (sym (take_rest (x ∷ xs) 1))

-- The same with two.
pub two_first : (xs : List ℕ) → 2 ≤ length xs → xs ≡ get_or xs 0 0 ∷ get_or xs 1 0 ∷ take (length xs - 2) (drop 2 xs)
two_first [] l = absurd (omega arith)
two_first (x ∷ []) l = absurd (omega arith)
two_first (x ∷ y ∷ xs) l = ap (λ ys. x ∷ y ∷ ys) (sym (take_rest (x ∷ y ∷ xs) 2))

pub long_found : (text rest : List ℕ) (a b k : ℕ) → text ≡ a ∷ b ∷ rest → slice_get marks k ≡ Some (a ∷ b ∷ []) → IsFirstMark text k rest
long_found text rest a b k e m = record { w = a ∷ b ∷ []; spelled = e; mark = m; longest = two_longest a b rest k m }

pub long_none : (text rest : List ℕ) (a b : ℕ) → text ≡ a ∷ b ∷ rest → ((k : ℕ) → slice_get marks k ≡ Some (a ∷ b ∷ []) → ⊥) → HasNoLongMark text
long_none text rest a b e none c d more k f h = none k (h ∙ ap (λ w. Some w) (same_two (sym f ∙ e)))
  where
    same_two : c ∷ d ∷ more ≡ a ∷ b ∷ rest → c ∷ d ∷ [] ≡ a ∷ b ∷ []
    same_two g = cc

pub short_found : (text rest : List ℕ) (a k : ℕ) → text ≡ a ∷ rest → HasNoLongMark text → slice_get marks k ≡ Some (a ∷ []) → IsFirstMark text k rest
short_found text rest a k e none m = record { w = a ∷ []; spelled = e; mark = m; longest = one_longest a rest k m (λ b more j f h. none a b more j (e ∙ ap (λ ys. a ∷ ys) f) h) }

-- No mark is empty or longer than two bytes.
pub none_found : (text : List ℕ) → HasNoLongMark text → ((a : ℕ) (rest : List ℕ) (k : ℕ) → text ≡ a ∷ rest → slice_get marks k ≡ Some (a ∷ []) → ⊥) → HasNoMark text
none_found text long short [] more k e h = false≢true (mark_begins [] k h)
none_found text long short (a ∷ []) more k e h = short a more k e h
none_found text long short (a ∷ b ∷ []) more k e h = long a b more k e h
none_found text long short (a ∷ b ∷ d ∷ w) more k e h = absurd (omega (arith, mark_length (a ∷ b ∷ d ∷ w) k h))

pub short_none : (text rest : List ℕ) (a : ℕ) → text ≡ a ∷ rest → HasNoLongMark text → ((k : ℕ) → slice_get marks k ≡ Some (a ∷ []) → ⊥) → HasNoMark text
short_none text rest a e long none = none_found text long (λ b more k f h. let same : b ≡ a = cc (f, e) in none k (h ∙ ap (λ x. Some (x ∷ [])) same))
