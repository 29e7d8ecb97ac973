-- Loops that look for a place, and the places of cells and of what they begin.
use Rattle.std.proofs.Common.{◌≡◌, ◌≢◌, ℕ, zero, suc, ◌+◌, ◌-◌, ◌<◌, ◌≤◌, Bool, true, false, List, [], ◌∷◌, length, map, get_or, drop, refl, sym, ap, ◌∙◌, arith, add-one, if◌then◌else◌}
use Rattle.std.proofs.Math.Seq.{drop-cons}
use Rattle.frp_tree.specs.declared.kinds.Kind.{Kind}
use Rattle.frp_tree.specs.declared.marks.TheConstants.{ARROW}
use Rattle.frp_tree.specs.declared.tokens.Token.{Token}
use Rattle.frp_tree.specs.Cells.{Cell, is_of, tokens_of}
use Rattle.efrp_syntax.specs.declared.begun.Begun.{Begun}
use Rattle.efrp_syntax.specs.Answers.{begun}
use Rattle.where_tool.specs.PartTokens.{is_mark, places_of, place_behind}

module _ {A : Type 0} (passes : A → Bool) where
  -- The one with this number among those from a place on is the one that is still to come.
  abbrev pub Left : List A → ℕ → ℕ → ℕ → ℕ → Type 0
  Left xs from number i left = place_behind passes from number xs ≡ get_or (places_of passes i (drop i xs)) left (length xs)

  next : (xs : List A) (i : ℕ) (x : A) → i < length xs → x ≡ get_or xs i x → places_of passes i (drop i xs) ≡ places_of passes i (x ∷ drop (suc i) xs)
  next xs i x less is = ap (places_of passes i) (drop-cons xs i x less ∙ ap (λ y. y ∷ drop (suc i) xs) (sym is))

  pub left-here : (xs : List A) (from number i left : ℕ) (x : A) → i < length xs → x ≡ get_or xs i x → passes x ≡ true → left ≡ 0 → Left xs from number i left → i ≡ place_behind passes from number xs
  left-here xs from number i left x less is pass none known =
      sym (known ∙ ap (λ k. get_or (places_of passes i (drop i xs)) k (length xs)) none
      ∙ ap (λ zs. get_or zs 0 (length xs)) (next xs i x less is ∙ ap (λ b. if b then i ∷ places_of passes (suc i) (drop (suc i) xs) else places_of passes (suc i) (drop (suc i) xs)) pass))

  pub left-passed : (xs : List A) (from number i left : ℕ) (x : A) → i < length xs → x ≡ get_or xs i x → passes x ≡ true → left ≢ 0 → Left xs from number i left → Left xs from number (i + 1) (left - 1)
  left-passed xs from number i zero x less is pass some known = absurd (some refl)
  left-passed xs from number i (suc left) x less is pass some known =
      known ∙ ap (λ zs. get_or zs (suc left) (length xs)) (next xs i x less is ∙ ap (λ b. if b then i ∷ places_of passes (suc i) (drop (suc i) xs) else places_of passes (suc i) (drop (suc i) xs)) pass)
      ∙ ap (λ k. get_or (places_of passes k (drop k xs)) left (length xs)) (sym (add-one i))
      ∙ ap (λ k. get_or (places_of passes (i + 1) (drop (i + 1) xs)) k (length xs)) (omega arith)

  pub left-other : (xs : List A) (from number i left : ℕ) (x : A) → i < length xs → x ≡ get_or xs i x → passes x ≡ false → Left xs from number i left → Left xs from number (i + 1) left
  left-other xs from number i left x less is pass known =
      known ∙ ap (λ zs. get_or zs left (length xs)) (next xs i x less is ∙ ap (λ b. if b then i ∷ places_of passes (suc i) (drop (suc i) xs) else places_of passes (suc i) (drop (suc i) xs)) pass)
      ∙ ap (λ k. get_or (places_of passes k (drop k xs)) left (length xs)) (sym (add-one i))

  drop-all : (xs : List A) → drop (length xs) xs ≡ []
  drop-all [] = refl
  drop-all (x ∷ xs) = drop-all xs

  pub left-end : (xs : List A) (from number i left : ℕ) → i ≤ length xs → length xs ≤ i → Left xs from number i left → length xs ≡ place_behind passes from number xs
  left-end xs from number i left most least known =
      let e : i ≡ length xs = omega (arith, most, least) in
      sym (known ∙ ap (λ k. get_or (places_of passes i (drop k xs)) left (length xs)) e ∙ ap (λ ys. get_or (places_of passes i ys) left (length xs)) (drop-all xs))

-- A mapped row has its places where the row has them.
module _ {A B : Type 0} (g : A → B) (passes : B → Bool) where
  places-map : (n : ℕ) (xs : List A) → places_of passes n (map g xs) ≡ places_of (λ x. passes (g x)) n xs
  places-map n [] = refl
  places-map n (x ∷ xs) = ap (λ zs. if passes (g x) then n ∷ zs else zs) (places-map (suc n) xs)

  drop-map : (n : ℕ) (xs : List A) → drop n (map g xs) ≡ map g (drop n xs)
  drop-map zero xs = refl
  drop-map (suc n) [] = refl
  drop-map (suc n) (x ∷ xs) = drop-map n xs

  length-map : (xs : List A) → length (map g xs) ≡ length xs
  length-map [] = refl
  length-map (x ∷ xs) = ap suc (length-map xs)

  pub behind-map : (from number : ℕ) (xs : List A) → place_behind passes from number (map g xs) ≡ place_behind (λ x. passes (g x)) from number xs
  behind-map from number xs =
      ap (λ zs. get_or (places_of passes from zs) number (length (map g xs))) (drop-map from xs)
      ∙ ap (λ zs. get_or zs number (length (map g xs))) (places-map from (drop from xs))
      ∙ ap (get_or (places_of (λ x. passes (g x)) from (drop from xs)) number) (length-map xs)

-- The place of a note and of an arrow, from places that are the same, among those of a program's cells.
pub note-place : (kind : Kind) (from to number place : ℕ) (notes : List Begun) (cells : List Cell) → place ≡ place_behind (λ (n : Begun). is_of kind n.kind) from number notes → from ≡ to
    → notes ≡ map begun cells → place ≡ place_behind (λ (c : Cell). is_of kind c.begins) to number cells
note-place kind from to number place notes cells is same noted =
    is ∙ ap (λ k. place_behind (λ (n : Begun). is_of kind n.kind) k number notes) same ∙ ap (place_behind (λ (n : Begun). is_of kind n.kind) to number) noted
    ∙ behind-map begun (λ (n : Begun). is_of kind n.kind) to number cells

pub arrow-place : (from to number place : ℕ) (tokens : List Token) (cells : List Cell) → place ≡ place_behind (is_mark ARROW) from number tokens → from ≡ to → tokens ≡ tokens_of cells
    → place ≡ place_behind (λ (c : Cell). is_mark ARROW c.token) to number cells
arrow-place from to number place tokens cells is same spelled =
    is ∙ ap (λ k. place_behind (is_mark ARROW) k number tokens) same ∙ ap (place_behind (is_mark ARROW) to number) spelled ∙ behind-map (λ (c : Cell). c.token) (is_mark ARROW) to number cells
