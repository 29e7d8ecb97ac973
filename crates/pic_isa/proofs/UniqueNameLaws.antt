-- No two sources share a name, no two ports do, and a register's name has one address.
use Rattle.std.proofs.Common.{map, ◌≡◌, ℕ, ◌<◌, zero, suc, List, Option, Some, refl, sym, ap, ◌∙◌, arith}
use Rattle.std.specs.Map.{lookup}
use Rattle.std.specs.Str.{bytes_eq}
use Rattle.pic_isa.specs.declared.sources.Source.{Source}
use Rattle.pic_isa.specs.declared.sources.Source.TheVariants.{T0}
use Rattle.pic_isa.specs.Sources.{sources, source_name}
use Rattle.pic_isa.specs.Names.{port_at, name_of_port}

-- The sources, each behind its name.
abbrev sources_by_name : List (List ℕ × Source)
sources_by_name = map (λ s. (source_name s, s)) sources

abbrev source_called : List ℕ → Option Source
source_called name = lookup (bytes_eq name) sources_by_name

-- A source is found by its name, and a port below.
source_called_back : (s : Source) → source_called (source_name s) ≡ Some s
source_called_back T0 = refl
source_called_back _ = refl

pub one_source : (s t : Source) → source_name s ≡ source_name t → s ≡ t
one_source s t e = let found : Some s ≡ Some t = sym (source_called_back s) ∙ ap source_called e ∙ source_called_back t in cc found

pub port_called_back : (p : ℕ) → p < 5 → port_at (name_of_port p) ≡ Some p
port_called_back zero h = refl
port_called_back (suc zero) h = refl
port_called_back (suc (suc zero)) h = refl
port_called_back (suc (suc (suc zero))) h = refl
port_called_back (suc (suc (suc (suc zero)))) h = refl
port_called_back (suc (suc (suc (suc (suc n))))) h = absurd (omega arith)

pub one_port : (p q : ℕ) → p < 5 → q < 5 → name_of_port p ≡ name_of_port q → p ≡ q
one_port p q small small' e = let found : Some p ≡ Some q = sym (port_called_back p small) ∙ ap port_at e ∙ port_called_back q small' in cc found
