-- Which registers the source of a name has.
use Rattle.std.proofs.Common.{◌≡◌, ◌≢◌, ℕ, ◌&&◌, Bool, true, false, List, [], ◌∷◌, Some, refl}
use Rattle.std.specs.Prelude.{slice_get}
use Rattle.std.specs.List.{list_any}
use Rattle.std.specs.Str.{bytes_eq}
use Rattle.std.proofs.lemmas.Bool.{and_from, and_left, false_from_ne_true, or_from}
use Rattle.std.proofs.lemmas.Map.Keys.{any_passes_from_place}
use Rattle.std.proofs.lemmas.Slice.Eq.{bytes_eq-Decides}
use Rattle.pic_isa.specs.declared.sources.Source.{Source}
use Rattle.pic_isa.specs.declared.sources.Source.TheVariants.{T0}
use Rattle.pic_isa.specs.Sources.{source_name, source_number, sources}
use Rattle.firmware_map.specs.Written.{is_of_name, is_of_source}

-- Each source stands among all.
its-place : (s : Source) → slice_get sources (source_number s) ≡ Some s
its-place T0 = refl
its-place _ = refl

pub source-named : (a : ℕ) (name : List ℕ) (s : Source) → name ≡ source_name s → is_of_source a s ≡ true → is_of_name a name ≡ true
source-named a name s same is =
    any_passes_from_place (λ t. bytes_eq name (source_name t) && is_of_source a t) sources (source_number s) s (its-place s)
    (and_from (bytes_eq name (source_name s)) (is_of_source a s) ((bytes_eq-Decides name (source_name s)).1 same) is)

any-false : {A : Type 0} (test : A → Bool) (xs : List A) → ((x : A) → test x ≡ false) → list_any test xs ≡ false
any-false test [] none = refl
any-false test (x ∷ xs) none = or_from (test x) (list_any test xs) (none x) (any-false test xs none)

-- A name that no source has has none.
pub source-unnamed : (a : ℕ) (name : List ℕ) → ((s : Source) → name ≢ source_name s) → is_of_name a name ≡ false
source-unnamed a name none =
    any-false (λ s. bytes_eq name (source_name s) && is_of_source a s) sources
    (λ s. and_left (bytes_eq name (source_name s)) (is_of_source a s) (false_from_ne_true (bytes_eq name (source_name s)) (λ e. none s ((bytes_eq-Decides name (source_name s)).0 e))))
