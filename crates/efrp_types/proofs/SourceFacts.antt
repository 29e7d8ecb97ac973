-- A source of a name, found and not found.
use Rattle.std.specs.Prelude.{◌≡◌, ◌≢◌, ℕ, Bool, true, false, ◌||◌, List, [], ◌∷◌, Option, Some, None, IsSome, IfSome, IfNone, refl}
use Rattle.std.specs.List.{list_any}
use Rattle.std.specs.Str.{bytes_eq}
use Rattle.std.proofs.Common.{ap, ◌∙◌}
use Rattle.std.proofs.lemmas.Slice.Eq.{bytes_eq-Decides}
use Rattle.pic_isa.specs.declared.sources.Source.{Source}
use Rattle.pic_isa.specs.declared.sources.Source.TheVariants.{T0, Int, Psp, Ad, Ssp, Ccp1, Tmr2, Tmr1, Ee, Bcl, Ccp2}
use Rattle.pic_isa.specs.Sources.{sources, source_name}
use Rattle.std.specs.Option.{is_some}
use Rattle.efrp_types.specs.NameFaults.{is_source}

-- A name that no source of a list has.
none-named : (name : List ℕ) → ((s : Source) → name ≢ source_name s) → (ss : List Source) → list_any (λ s. bytes_eq name (source_name s)) ss ≡ false
none-named name none [] = refl
none-named name none (s ∷ ss) = by_name (bytes_eq name (source_name s)) refl (none-named name none ss)
  where
    by_name : (b : Bool) → bytes_eq name (source_name s) ≡ b → list_any (λ k. bytes_eq name (source_name k)) ss ≡ false → (b || list_any (λ k. bytes_eq name (source_name k)) ss) ≡ false
    by_name true e rest = absurd (none s ((bytes_eq-Decides name (source_name s)).0 e))
    by_name false e rest = rest

own-name : (s : Source) → is_source (source_name s) ≡ true
own-name T0 = refl
own-name Int = refl
own-name Psp = refl
own-name Ad = refl
own-name Ssp = refl
own-name Ccp1 = refl
own-name Tmr2 = refl
own-name Tmr1 = refl
own-name Ee = refl
own-name Bcl = refl
own-name Ccp2 = refl

pub found-source : (name : List ℕ) (o : Option Source) → IfSome o (λ s. name ≡ source_name s) → IfNone o ((s : Source) → name ≢ source_name s) → is_source name ≡ is_some o
found-source name None found none = none-named name none sources
found-source name (Some s) found none = ap is_source found ∙ own-name s

pub has-source : (name : List ℕ) (o : Option Source) → IfNone o ((s : Source) → name ≢ source_name s) → (s : Source) × (name ≡ source_name s) → IsSome o
has-source name (Some s) none its = refl
has-source name None none its = absurd (none its.0 its.1)
