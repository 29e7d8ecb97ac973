-- What stands at the places of a list, and what the events of a map are by their numbers.
use Rattle.std.specs.Prelude.{ℕ, zero, suc, ◌<◌, Bool, true, false, ◌&&◌, ◌||◌, not, List, [], ◌∷◌, Option, Some, None}
use Rattle.std.specs.List.{AllByRecursion}
use Rattle.std.proofs.Common.{◌≡◌, refl, ap, subst, arith}
use Rattle.pic_isa.specs.declared.sources.Source.{Source}
use Rattle.map_file.specs.declared.maps.MapEvent.{MapEvent}
use Rattle.map_file.specs.declared.maps.Map.{Map}
use Rattle.map_file.specs.MapRules.{IsMap, IsEvent}
use Rattle.core_story.specs.Values.{item}
use Rattle.core_story.specs.Interface.{level_at, at_event}

module _ {A : Type 0} where
  -- What holds of each item holds of all, and the other way.
  pub all_by_item : (P : A → Type 0) (xs : List A) → ((x : ℕ) (a : A) → item xs x ≡ Some a → P a) → AllByRecursion P xs
  all_by_item P [] h = tt
  all_by_item P (a ∷ as_list) h = (h zero a refl, all_by_item P as_list (λ x b e. h (suc x) b e))

  pub item_of_all : (P : A → Type 0) (xs : List A) → AllByRecursion P xs → (x : ℕ) (a : A) → item xs x ≡ Some a → P a
  item_of_all P [] h x a e = absurd cc
  item_of_all P (b ∷ bs) h zero a e = let same : b ≡ a = cc in subst P same h.0
  item_of_all P (b ∷ bs) h (suc x) a e = item_of_all P bs h.1 x a e

-- One bit of each event, by the event at the number.
pub kept_item : (o : Option MapEvent) (f g : Source → Bool) (b : Bool) → ((e : MapEvent) → o ≡ Some e → g e.source ≡ (f e.source && not b))
    → elim o [ Some e ↦ g e.source | None ↦ false ] ≡ (elim o [ Some e ↦ f e.source | None ↦ false ] && not b)
kept_item None f g b h = refl
kept_item (Some e) f g b h = h e refl

pub joined_item : (o : Option MapEvent) (f g h : Source → Bool) → ((source : Source) → f source ≡ (g source || h source))
    → elim o [ Some e ↦ f e.source | None ↦ false ] ≡ (elim o [ Some e ↦ g e.source | None ↦ false ] || elim o [ Some e ↦ h e.source | None ↦ false ])
joined_item None f g h e = refl
joined_item (Some x) f g h e = e x.source

pub none_item : (o : Option MapEvent) (f : Source → Bool) → ((source : Source) → f source ≡ false) → elim o [ Some e ↦ f e.source | None ↦ false ] ≡ false
none_item None f h = refl
none_item (Some e) f h = h e.source

pub at_item : (m : Map) (x : ℕ) (e : MapEvent) (f : Source → Bool) → item m.events x ≡ Some e → at_event m x f ≡ f e.source
at_item m x e f h = ap (λ (o : Option MapEvent). elim o [ Some d ↦ f d.source | None ↦ false ]) h

-- Where a bit is set there is an event, of a level.
event_there : (o : Option MapEvent) (f : Source → Bool) → elim o [ Some e ↦ f e.source | None ↦ false ] ≡ true → (e : MapEvent) × (o ≡ Some e)
event_there None f h = absurd cc
event_there (Some e) f h = (e, refl)

pub bit_is_of : (m : Map) (x : ℕ) (f : Source → Bool) → at_event m x f ≡ true → (e : MapEvent) × (item m.events x ≡ Some e)
bit_is_of m x f h = event_there (item m.events x) f h

level_there : (o : Option MapEvent) → 0 < elim o [ Some e ↦ e.priority | None ↦ 0 ] → (e : MapEvent) × (o ≡ Some e)
level_there None h = absurd (omega arith)
level_there (Some e) h = (e, refl)

pub event_with_level : (m : Map) (x : ℕ) → 0 < level_at m x → (e : MapEvent) × (item m.events x ≡ Some e)
event_with_level m x h = level_there (item m.events x) h

pub level_of_item : (m : Map) (x : ℕ) (e : MapEvent) → item m.events x ≡ Some e → level_at m x ≡ e.priority
level_of_item m x e h = ap (λ (o : Option MapEvent). elim o [ Some d ↦ d.priority | None ↦ 0 ]) h

pub event_has_level : (m : Map) → IsMap m → (x : ℕ) (e : MapEvent) → item m.events x ≡ Some e → 0 < level_at m x
event_has_level m is_map x e h = let it = (item_of_all IsEvent m.events is_map.events x e h).priority.0 in omega (arith, level_of_item m x e h)
