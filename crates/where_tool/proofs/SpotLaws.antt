-- A place of a text has one line, and one report.
use Rattle.std.proofs.Common.{◌≡◌, ◌≢◌, ℕ, suc, ◌+◌, List, [], ◌∷◌, ◌++◌, length, count_by, ◌==◌, inl, inr, refl, sym, ap, ◌∙◌, arith}
use Rattle.std.specs.List.{AllByRecursion}
use Rattle.std.proofs.lemmas.List.{append_assoc, length-append}
use Rattle.frp_tree.specs.Tokens.{AtLineEnd}
use Rattle.where_tool.specs.Laws.{OneReport}
use Rattle.where_tool.specs.Spots.{AreLines, IsSpot, report_of}

abbrev InLine : List ℕ → Type 0
InLine bytes = AllByRecursion (λ b. b ≢ 10) bytes

-- Whole lines but for their first byte are whole lines.
fewer-lines : (x : ℕ) (above : List ℕ) → AreLines (x ∷ above) → AreLines above
fewer-lines x above (inl none) = cc none
fewer-lines x above (inr lines) = by_most lines.0 lines.1
  where
    by_most : (most : List ℕ) → x ∷ above ≡ most ++ 10 ∷ [] → AreLines above
    by_most [] e = inl (cc e)
    by_most (y ∷ most) e = inr (most, cc e)

no-lines : (above front rest : List ℕ) (x : ℕ) → AreLines (x ∷ above) → InLine front → (x ∷ above) ++ rest ≡ front → ⊥
no-lines above front rest x (inl none) in_line e = cc none
no-lines above front rest x (inr lines) in_line e = at_end lines.0 rest front in_line (ap (λ ys. ys ++ rest) (sym lines.1) ∙ e)
  where
    at_end : (most rest front : List ℕ) → InLine front → (most ++ 10 ∷ []) ++ rest ≡ front → ⊥
    at_end [] rest [] in_line e = cc e
    at_end [] rest (y ∷ front) in_line e = in_line.0 (cc e)
    at_end (z ∷ most) rest [] in_line e = cc e
    at_end (z ∷ most) rest (y ∷ front) in_line e = at_end most rest front in_line.1 (cc e)

-- Bytes up to a place are whole lines, and a part of a line, in one way.
one-front : (a b f g : List ℕ) → AreLines a → AreLines b → InLine f → InLine g → a ++ f ≡ b ++ g → (a ≡ b) × (f ≡ g)
one-front [] [] f g x y in_line other e = (refl, e)
one-front [] (n ∷ b) f g x y in_line other e = absurd (no-lines b f g n y in_line (sym e))
one-front (m ∷ a) [] f g x y in_line other e = absurd (no-lines a g f m x other e)
one-front (m ∷ a) (n ∷ b) f g x y in_line other e =
    let (same, rest) = one-front a b f g (fewer-lines m a x) (fewer-lines n b y) in_line other (cc e) in
    let head : m ≡ n = cc e in
    (ap (λ k. k ∷ a) head ∙ ap (λ ys. n ∷ ys) same, rest)

-- And a line goes on up to its end in one way.
one-back : (a b m n : List ℕ) → InLine a → InLine b → AtLineEnd m → AtLineEnd n → a ++ m ≡ b ++ n → a ≡ b
one-back [] [] m n p q r s e = refl
one-back (x ∷ a) (y ∷ b) m n p q r s e = let head : x ≡ y = cc e in ap (λ k. k ∷ a) head ∙ ap (λ ys. y ∷ ys) (one-back a b m n p.1 q.1 r s (cc e))
one-back [] (y ∷ b) [] n p q r s e = cc e
one-back [] (y ∷ b) (z ∷ m) n p q r s e = let h : y ≡ z = cc e in absurd (q.0 (h ∙ r))
one-back (x ∷ a) [] m [] p q r s e = cc e
one-back (x ∷ a) [] m (z ∷ n) p q r s e = let h : x ≡ z = cc e in absurd (p.0 (h ∙ s))

-- Two ways to cut bytes at one place are one.
one-cut : (a b c d : List ℕ) → length a ≡ length b → a ++ c ≡ b ++ d → (a ≡ b) × (c ≡ d)
one-cut [] [] c d long e = (refl, e)
one-cut [] (y ∷ b) c d long e = absurd (omega (arith, long))
one-cut (x ∷ a) [] c d long e = absurd (omega (arith, long))
one-cut (x ∷ a) (y ∷ b) c d long e =
    let (same, rest) = one-cut a b c d (omega (arith, long)) (cc e) in
    let head : x ≡ y = cc e in
    (ap (λ k. k ∷ a) head ∙ ap (λ ys. y ∷ ys) same, rest)

-- The parts of a spot.
abbrev Alike : ℕ → ℕ → List ℕ → List ℕ → List ℕ → List ℕ → Type 0
Alike line other front fore back rear = (line ≡ other) × ((front ≡ fore) × (back ≡ rear))

one-spot : (text : List ℕ) (place line other : ℕ) (front fore back rear : List ℕ) → IsSpot text place line front back → IsSpot text place other fore rear → Alike line other front fore back rear
one-spot text place line other front fore back rear s t =
    let whole : (s.above ++ front) ++ (back ++ s.below) ≡ (t.above ++ fore) ++ (rear ++ t.below) =
    append_assoc s.above front (back ++ s.below) ∙ sym s.whole ∙ t.whole ∙ sym (append_assoc t.above fore (rear ++ t.below)) in
    let long : length (s.above ++ front) ≡ length (t.above ++ fore) = omega (arith, length-append s.above front, length-append t.above fore, s.«at», t.«at») in
    let (first, rest) = one-cut (s.above ++ front) (t.above ++ fore) (back ++ s.below) (rear ++ t.below) long whole in
    let (above, fronts) = one-front s.above t.above front fore s.lines t.lines s.in_front t.in_front first in
    (s.number ∙ ap (λ ys. suc (count_by (λ b. b == 10) ys)) above ∙ sym t.number, (fronts, one-back back rear s.below t.below s.in_back t.in_back s.ends t.ends rest))

pub one-report : OneReport
one-report text name place message r s h k =
    let (lines, (fronts, backs)) = one-spot text place h.line k.line h.front k.front h.back k.back h.spot k.spot in
    h.whole ∙ ap (λ n. report_of name n h.front h.back message) lines ∙ ap (λ ys. report_of name k.line ys h.back message) fronts ∙ ap (λ ys. report_of name k.line k.front ys message) backs ∙ sym k.whole
