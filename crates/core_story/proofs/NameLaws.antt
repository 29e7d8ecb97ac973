-- The events of a map that a step opens or commits, by their numbers.
use Rattle.std.specs.Prelude.{ℕ, zero, suc, ◌==◌, ◌≢◌, Bool, false, List, [], ◌∷◌, filter, Option, Some, None, ◌⊎◌}
use Rattle.std.specs.Str.{bytes_eq}
use Rattle.std.proofs.Common.{◌≡◌, refl, sym, ap, ◌∙◌, inl, inr}
use Rattle.std.proofs.lemmas.Bool.{cases_eq, eq-eqb, ne_eqb, false_from_ne_true}
use Rattle.std.proofs.lemmas.Slice.Eq.{bytes_eq-Decides}
use Rattle.std.proofs.Math.Dec.{eqb-suc-suc, eqb-suc-zero, eqb-zero-suc}
use Rattle.map_file.specs.declared.maps.MapEvent.{MapEvent}
use Rattle.map_file.specs.declared.maps.Map.{Map}
use Rattle.map_file.specs.MapRules.{AllDiffer}
use Rattle.timed_core.specs.Counts.{one}
use Rattle.core_story.specs.Values.{item, name_at}
use Rattle.core_story.proofs.ItemLaws.{item_of_all}

-- Items at two places differ where all differ.
pub differ_items : {A B : Type 0} (f : A → B) (xs : List A) → AllDiffer f xs → (x y : ℕ) (a b : A) → item xs x ≡ Some a → item xs y ≡ Some b → (x ≡ y → ⊥) → f a ≡ f b → ⊥
differ_items f [] h x y a b at_x at_y ne e = absurd (let it = at_x in cc)
differ_items f (d ∷ ds) h zero zero a b at_x at_y ne e = ne refl
differ_items f (d ∷ ds) h zero (suc y) a b at_x at_y ne e =
    let same : d ≡ a = cc in item_of_all (λ c. f c ≢ f d) ds h.0 y b at_y (sym e ∙ ap f (sym same))
differ_items f (d ∷ ds) h (suc x) zero a b at_x at_y ne e =
    let same : d ≡ b = cc in item_of_all (λ c. f c ≢ f d) ds h.0 x a at_x (e ∙ ap f (sym same))
differ_items f (d ∷ ds) h (suc x) (suc y) a b at_x at_y ne e = differ_items f ds h.1 x y a b at_x at_y (λ same. ne (ap suc same)) e

-- The events that pass a test: none, or the one with a number.
pub filter_none : (es : List MapEvent) (test : MapEvent → Bool) → ((x : ℕ) (e : MapEvent) → item es x ≡ Some e → test e ≡ false) → filter test es ≡ []
filter_none [] test none = refl
filter_none (e ∷ es) test none = rw (none zero e refl) (filter_none es test (λ x d at. none (suc x) d at))

pub filter_one : (es : List MapEvent) (test : MapEvent → Bool) (h : ℕ) → ((x : ℕ) (e : MapEvent) → item es x ≡ Some e → test e ≡ (x == h)) → (d : MapEvent) → item es h ≡ Some d → filter test es ≡ d ∷ []
filter_one [] test h one d there = absurd cc
filter_one (e ∷ es) test zero one d there =
    let same : e ≡ d = cc in
    rw (one zero e refl ∙ eq-eqb 0 0 refl, filter_none es test (λ x a at. one (suc x) a at ∙ eqb-suc-zero x)) (ap (λ a. a ∷ []) same)
filter_one (e ∷ es) test (suc h) one d there =
    rw (one zero e refl ∙ eqb-zero-suc h) (filter_one es test h (λ x a at. one (suc x) a at ∙ eqb-suc-suc x h) d there)

pub name_of_item : (m : Map) (x : ℕ) (e : MapEvent) → item m.events x ≡ Some e → name_at m x ≡ e.name
name_of_item m x e h = ap (λ (o : Option MapEvent). elim o [ Some d ↦ d.name | None ↦ [] ]) h

-- One event's name is another's where the numbers are the same.
pub same_name : (m : Map) → AllDiffer (λ (e : MapEvent). e.name) m.events → (x y : ℕ) (e d : MapEvent) → item m.events x ≡ Some e → item m.events y ≡ Some d → bytes_eq e.name (name_at m y) ≡ (x == y)
same_name m differ x y e d at_x at_y = by (cases_eq x y)
  where
    by : (x ≡ y) ⊎ (x ≡ y → ⊥) → bytes_eq e.name (name_at m y) ≡ (x == y)
    by (inl same) =
        (bytes_eq-Decides e.name (name_at m y)).1 (sym (name_of_item m x e at_x) ∙ ap (name_at m) same) ∙ sym (eq-eqb x y same)
    by (inr other) =
        false_from_ne_true (bytes_eq e.name (name_at m y)) (λ equal. differ_items (λ (a : MapEvent). a.name) m.events differ x y e d at_x at_y other ((bytes_eq-Decides e.name (name_at m y)).0 equal ∙ name_of_item m y d at_y))
        ∙ sym (ne_eqb x y other)
