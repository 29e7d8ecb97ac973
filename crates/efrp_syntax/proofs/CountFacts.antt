-- The pass over what the tokens begin.
use Rattle.std.proofs.Common.{◌≡◌, ℕ, ◌+◌, ◌<◌, ◌≤◌, Bool, true, false, cond, List, [], ◌∷◌, ◌++◌, length, get_or, take, drop, Option, Some, None, ◌⊎◌, inl, inr, refl, sym, ap, subst, ◌∙◌, arith}
use Rattle.std.specs.List.{AllByRecursion}
use Rattle.std.proofs.lemmas.List.Sums.{sum_by-append}
use Rattle.std.proofs.lemmas.List.{take_more, take-append-drop, append_assoc}
use Rattle.frp_tree.specs.declared.kinds.Kind.{Kind}
use Rattle.frp_tree.specs.declared.limits.TheConstants.{MOST_ENTRIES_OF_A_TABLE}
use Rattle.frp_tree.specs.Limits.{most}
use Rattle.frp_tree.specs.Cells.{is_kind, is_of}
use Rattle.efrp_syntax.specs.declared.begun.Begun.{Begun}
use Rattle.efrp_syntax.specs.declared.counts.Counts.{Counts}
use Rattle.efrp_syntax.specs.Programs.{noted_of, HasFew, IsFirstTooManyAt, counted}
use Rattle.efrp_syntax.proofs.KindLaws.{same_kind}

-- The counts are those of these notes, which are few.
pub record HasCounted (notes : List Begun) (counts : Counts) : Type 0 where
  pub told : (kind : Kind) → counted kind counts ≡ noted_of kind notes
  pub few : HasFew notes

all_push : (P : Begun → Type 0) (xs : List Begun) (x : Begun) → AllByRecursion P xs → P x → AllByRecursion P (xs ++ x ∷ [])
all_push P [] x h p = (p, tt)
all_push P (y ∷ xs) x h p = (h.0, all_push P xs x h.1 p)

noted_push : (kind : Kind) (notes : List Begun) (note : Begun) → noted_of kind (notes ++ note ∷ []) ≡ noted_of kind notes + cond (is_of kind note.kind) 1 0
noted_push kind notes note = omega (arith, sum_by-append (λ (n : Begun). cond (is_of kind n.kind) 1 0) notes (note ∷ []))

-- One more is counted: the counts are those of the notes with it.
told_more : (notes : List Begun) (note : Begun) (kind : Kind) (counts more : Counts) → note.kind ≡ Some kind → HasCounted notes counts
    → ((k : Kind) → counted k more ≡ counted k counts + cond (is_kind k kind) 1 0) → (k : Kind) → counted k more ≡ noted_of k (notes ++ note ∷ [])
told_more notes note kind counts more e h m k =
    m k ∙ ap (λ n. n + cond (is_kind k kind) 1 0) (h.told k) ∙ sym (noted_push k notes note ∙ ap (λ o. noted_of k notes + cond (is_of k o) 1 0) e)

pub first_many : (begun front rest : List Begun) (note : Begun) (kind : Kind) (counts more : Counts) → begun ≡ front ++ note ∷ rest → note.kind ≡ Some kind → HasCounted front counts
    → ((k : Kind) → counted k more ≡ counted k counts + cond (is_kind k kind) 1 0) → (most kind < counted kind more) ⊎ (MOST_ENTRIES_OF_A_TABLE < note.entry) → IsFirstTooManyAt begun (length front) kind
first_many begun front rest note kind counts more w e h m o = (record { front = front; note = note; rest = rest; whole = w; before = h.few; begun = e; many = go o }, refl)
  where
    go : (most kind < counted kind more) ⊎ (MOST_ENTRIES_OF_A_TABLE < note.entry) → (most kind < noted_of kind (front ++ note ∷ [])) ⊎ (MOST_ENTRIES_OF_A_TABLE < note.entry)
    go (inl x) = inl (subst (λ n. most kind < n) (told_more front note kind counts more e h m kind) x)
    go (inr x) = inr x

kind_cases : (k kind : Kind) (P : Kind → Type 0) → P kind → (is_kind k kind ≡ false → P k) → P k
kind_cases k kind P p q = go (is_kind k kind) refl
  where
    go : (b : Bool) → is_kind k kind ≡ b → P k
    go true e = subst P (sym (same_kind k kind e)) p
    go false e = q e

pub counted_more : (front : List Begun) (note : Begun) (kind : Kind) (counts more : Counts) → note.kind ≡ Some kind → HasCounted front counts
    → ((k : Kind) → counted k more ≡ counted k counts + cond (is_kind k kind) 1 0) → counted kind more ≤ most kind → note.entry ≤ MOST_ENTRIES_OF_A_TABLE → HasCounted (front ++ note ∷ []) more
counted_more front note kind counts more e h m l s = record {
  told = told;
  few = record {
    few = λ k. subst (λ n. n ≤ most k) (told k) (kind_cases k kind (λ x. counted x more ≤ most x) l (λ n. other k n));
    short = all_push (λ n. (x : Kind) → n.kind ≡ Some x → n.entry ≤ MOST_ENTRIES_OF_A_TABLE) front note h.few.short (λ x y. s);
  };
}
  where
    told : (k : Kind) → counted k more ≡ noted_of k (front ++ note ∷ [])
    told = told_more front note kind counts more e h m

    other : (k : Kind) → is_kind k kind ≡ false → counted k more ≤ most k
    other k n =
        let same : counted k more ≡ counted k counts + 0 = m k ∙ ap (λ b. counted k counts + cond b 1 0) n in
        let low : counted k counts ≤ most k = subst (λ x. x ≤ most k) (sym (h.told k)) (h.few.few k) in
        omega (arith, same, low)

pub counted_none : (front : List Begun) (note : Begun) (counts : Counts) → note.kind ≡ None → HasCounted front counts → HasCounted (front ++ note ∷ []) counts
counted_none front note counts e h = record {
  told = told;
  few = record {
    few = λ k. subst (λ n. n ≤ most k) (sym (h.told k) ∙ told k) (h.few.few k);
    short = all_push (λ n. (x : Kind) → n.kind ≡ Some x → n.entry ≤ MOST_ENTRIES_OF_A_TABLE) front note h.few.short (λ x y. cc);
  };
}
  where
    told : (k : Kind) → counted k counts ≡ noted_of k (front ++ note ∷ [])
    told k =
        let push : noted_of k (front ++ note ∷ []) ≡ noted_of k front + 0 = noted_push k front note ∙ ap (λ o. noted_of k front + cond (is_of k o) 1 0) e in
        omega (arith, h.told k, push)

-- A list around one of its places.
pub around : (xs : List Begun) (i : ℕ) (d : Begun) → i < length xs → xs ≡ take i xs ++ get_or xs i d ∷ drop (i + 1) xs
around xs i d h =
    sym (take-append-drop (i + 1) xs) ∙ ap (λ ys. ys ++ drop (i + 1) xs) (take_more xs i d h) ∙ append_assoc (take i xs) (get_or xs i d ∷ []) (drop (i + 1) xs)

pub no_kind : (o : Option Kind) → ((x : Kind) → o ≡ Some x → ⊥) → o ≡ None
no_kind None h = refl
no_kind (Some x) h = absurd (h x refl)
