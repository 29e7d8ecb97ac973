-- The search for what a number leads to.
use Rattle.std.specs.Prelude.{◌≡◌, ◌≢◌, ℕ, ◌⊎◌, Bool, true, false, not, ◌||◌, ◌&&◌, ◌==◌, List, [], ◌∷◌, ◌++◌, length, Option, Some, None, MatchOption, refl}
use Rattle.std.specs.Bool.{MatchBool}
use Rattle.std.proofs.Common.{sym, subst, ◌∙◌, arith}
use Rattle.std.proofs.lemmas.Bool.{false≢true}
use Rattle.std.proofs.lemmas.Bool.Decides.{eqb_tells}
use mathlib.Core.Logic.{inl, inr}
use Rattle.causality.specs.Graphs.{has, edges, Edge, Path, IsRound, is_marked, Marks}
use Rattle.causality.proofs.GraphFacts.{has-push, path-on, closed-path}
use Rattle.causality.proofs.ChoiceFacts.{either, or-left, or-right}

-- What is found so far: the marked numbers are those that x leads to by a path, and the edges of each lead to such, but for
-- those that are left to do.
pub record Searching (g : List (List ℕ)) (x : ℕ) (marked : List Bool) (left : List ℕ) : Type 0 where
  pub len : length marked ≡ length g
  pub in_left : (n : ℕ) → has left n ≡ true → is_marked marked n ≡ true
  pub begins : (j : ℕ) → Edge g x j → is_marked marked j ≡ true
  pub closed : (i : ℕ) → is_marked marked i ≡ true → (has left i ≡ true) ⊎ ((j : ℕ) → Edge g i j → is_marked marked j ≡ true)
  pub sound : (j : ℕ) → is_marked marked j ≡ true → (others : List ℕ) × Path g x others j

-- An answer that isn't Some is None.
pub no-more : (o : Option ℕ) (P : Type 0) (Q : ℕ → Type 0) → ((x : ℕ) → o ≡ Some x → ⊥) → MatchOption o P Q → P
no-more None P Q none m = m
no-more (Some x) P Q none m = absurd (none x refl)

pub empty : (xs : List ℕ) → length xs ≡ 0 → xs ≡ []
empty [] e = refl
empty (x ∷ xs) e = absurd (omega (arith, e))

-- What is added was not marked.
added : (o h m : Bool) → (o || (h && not m)) ≡ true → (o ≡ true) ⊎ (h ≡ true)
added true h m e = inl refl
added false true m e = inr refl
added false false m e = absurd (false≢true e)

-- A marked number was marked, or is added.
old-or-added : (o h m : Bool) → (m || h) ≡ true → (m ≡ true) ⊎ ((o || (h && not m)) ≡ true)
old-or-added o h true e = inl refl
old-or-added true true false e = inr refl
old-or-added false true false e = inr refl
old-or-added o false false e = absurd (false≢true e)

module _ (g : List (List ℕ)) (x : ℕ) where
  module _ (y : ℕ) (marked : List Bool) (left : List ℕ) (so_far : Searching g x marked (left ++ y ∷ [])) where
    pub y-marked : is_marked marked y ≡ true
    y-marked = so_far.in_left y (has-push left y y ∙ or-right (has left y) (y == y) (same (eqb_tells y y)))
      where
        same : (((y == y) ≡ true) × (y ≡ y)) ⊎ (((y == y) ≡ false) × (y ≢ y)) → (y == y) ≡ true
        same (inl s) = s.0
        same (inr s) = absurd (s.1 refl)

    module _ (after : List Bool) (todo : List ℕ) (m : Marks (edges g y) marked left after todo) where
      kept : (n : ℕ) → is_marked marked n ≡ true → is_marked after n ≡ true
      kept n h = m.marks n ∙ or-left (is_marked marked n) (has (edges g y) n) h

      its : (n : ℕ) → Edge g y n → is_marked after n ≡ true
      its n h = m.marks n ∙ or-right (is_marked marked n) (has (edges g y) n) h

      still : (n : ℕ) → has left n ≡ true → has todo n ≡ true
      still n h = m.adds n ∙ or-left (has left n) (has (edges g y) n && not (is_marked marked n)) h

      was-closed : (i : ℕ) → (has (left ++ y ∷ []) i ≡ true) ⊎ ((j : ℕ) → Edge g i j → is_marked marked j ≡ true) → (has todo i ≡ true) ⊎ ((j : ℕ) → Edge g i j → is_marked after j ≡ true)
      was-closed i (inl h) = by_part (either (has left i) (y == i) (sym (has-push left y i) ∙ h))
        where
          done : (((y == i) ≡ true) × (y ≡ i)) ⊎ (((y == i) ≡ false) × (y ≢ i)) → (y == i) ≡ true → (j : ℕ) → Edge g i j → is_marked after j ≡ true
          done (inl s) e j edge = its j (subst (λ k. Edge g k j) (sym s.1) edge)
          done (inr s) e j edge = absurd (false≢true (sym s.0 ∙ e))

          by_part : (has left i ≡ true) ⊎ ((y == i) ≡ true) → (has todo i ≡ true) ⊎ ((j : ℕ) → Edge g i j → is_marked after j ≡ true)
          by_part (inl e) = inl (still i e)
          by_part (inr e) = inr (done (eqb_tells y i) e)
      was-closed i (inr h) = inr (λ j edge. kept j (h j edge))

      pub search-goes : Searching g x after todo
      search-goes = record {
        len = m.len ∙ so_far.len;
        in_left = λ n h. elim (added (has left n) (has (edges g y) n) (is_marked marked n) (sym (m.adds n) ∙ h)) [
          | inl e ↦ kept n (so_far.in_left n (has-push left y n ∙ or-left (has left n) (y == n) e))
          | inr e ↦ its n e
        ];
        begins = λ j edge. kept j (so_far.begins j edge);
        closed = λ i h. elim (old-or-added (has left i) (has (edges g y) i) (is_marked marked i) (sym (m.marks i) ∙ h)) [
          | inl e ↦ was-closed i (so_far.closed i e)
          | inr e ↦ inl (m.adds i ∙ e)
        ];
        sound = λ j h. elim (either (is_marked marked j) (has (edges g y) j) (sym (m.marks j) ∙ h)) [
          | inl e ↦ so_far.sound j e
          | inr e ↦ let way = so_far.sound y y-marked in (way.0 ++ y ∷ [], path-on g x y j way.0 way.1 e)
        ];
      }

  pub search-ends : (marked : List Bool) → Searching g x marked [] → (b : Bool) → is_marked marked x ≡ b → MatchBool b (IsRound g x) (¬ IsRound g x)
  search-ends marked found true h = found.sound x h
  search-ends marked found false h = λ round. false≢true (sym h ∙ closed-path g marked closed x x round.0 found.begins round.1)
    where
      closed : (i : ℕ) → is_marked marked i ≡ true → (j : ℕ) → Edge g i j → is_marked marked j ≡ true
      closed i e = elim (found.closed i e) [ inl none ↦ absurd (false≢true none) | inr all ↦ all ]
