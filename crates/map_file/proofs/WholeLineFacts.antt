-- A text is cut into whole lines in one way.
use Rattle.std.proofs.Common.{◌≡◌, ◌≢◌, ℕ, List, [], ◌∷◌, ◌++◌, codes, sym, refl, ap, ◌∙◌}
use Rattle.std.proofs.lemmas.List.{append_assoc}
use Rattle.map_file.specs.MapFaults.{HasNoEnd, IsWholeLine}

pub one_body : (a b x y : List ℕ) → HasNoEnd a → HasNoEnd b → a ++ (10 ∷ x) ≡ b ++ (10 ∷ y) → (a ≡ b) × (x ≡ y)
one_body [] [] x y h k e = (refl, cc)
one_body [] (c ∷ b) x y h k e = let same : c ≡ 10 = cc in absurd (k.0 same)
one_body (c ∷ a) [] x y h k e = let same : c ≡ 10 = cc in absurd (h.0 same)
one_body (c ∷ a) (d ∷ b) x y h k e =
    let rest : a ++ (10 ∷ x) ≡ b ++ (10 ∷ y) = cc in
    let (same, after) = one_body a b x y h.1 k.1 rest in
    let first : c ≡ d = cc in
    (cc, after)

pub one_line : (l k x y : List ℕ) → IsWholeLine l → IsWholeLine k → l ++ x ≡ k ++ y → (l ≡ k) × (x ≡ y)
one_line l k x y h w e =
    let left : l ++ x ≡ h.body ++ (10 ∷ x) = ap (λ u. u ++ x) h.ends ∙ append_assoc h.body (codes "\n") x in
    let right : k ++ y ≡ w.body ++ (10 ∷ y) = ap (λ u. u ++ y) w.ends ∙ append_assoc w.body (codes "\n") y in
    let (same, after) = one_body h.body w.body x y h.one w.one (sym left ∙ e ∙ right) in
    (h.ends ∙ ap (λ u. u ++ codes "\n") same ∙ sym w.ends, after)

-- A whole line has a byte.
pub line_some : (line after : List ℕ) → IsWholeLine line → line ++ after ≢ []
line_some [] after h e = go h.body h.ends
  where
    go : (body : List ℕ) → [] ≢ body ++ codes "\n"
    go [] q = cc
    go (b ∷ bs) q = cc
line_some (b ∷ bs) after h e = cc

-- Bytes without an end have no whole line.
pub no_line : (rest line after : List ℕ) → HasNoEnd rest → IsWholeLine line → rest ≢ line ++ after
no_line rest line after none h e = go rest h.body none (e ∙ ap (λ u. u ++ after) h.ends ∙ append_assoc h.body (codes "\n") after)
  where
    go : (xs body : List ℕ) → HasNoEnd xs → xs ≢ body ++ (10 ∷ after)
    go [] [] n q = cc
    go [] (b ∷ body) n q = cc
    go (x ∷ xs) [] n q = let same : x ≡ 10 = cc in n.0 same
    go (x ∷ xs) (b ∷ body) n q = let more : xs ≡ body ++ (10 ∷ after) = cc in go xs body n.1 more
