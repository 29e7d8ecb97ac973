-- Values, states and samples that are typed, and definitions whose names differ.
use Rattle.std.specs.Prelude.{◌≡◌, ℕ, ◌<◌, List, true, [], ◌∷◌, map, Option, Some, None}
use Rattle.std.specs.List.{IsDistinct, list_any}
use Rattle.std.specs.Str.{bytes_eq}
use Rattle.frp_tree.specs.declared.syntax.Ty.{Ty}
use Rattle.frp_tree.specs.declared.syntax.Ty.TheVariants.{U8}
use Rattle.frp_tree.specs.Tree.{DeclTree, OutputTree, ProgramTree}
use Rattle.efrp_meaning.specs.Decls.{reactive_decls, inputs_of}
use Rattle.efrp_meaning.specs.Values.{modulus}
use Rattle.efrp_meaning.specs.Meaning.{State, Samples, Occurrence}

-- Where there is a type, there is a value of it.
abbrev pub HasValue : Option Ty → Option ℕ → Type 0
HasValue None o = Unit {0}
HasValue (Some t) None = ⊥
HasValue (Some t) (Some n) = n < modulus t

-- There is a value for each of the types, and it is one of that type.
abbrev pub AreValuesOf : List Ty → List ℕ → Type 0
AreValuesOf [] [] = Unit {0}
AreValuesOf (t ∷ ts) (n ∷ ns) = (n < modulus t) × AreValuesOf ts ns
AreValuesOf _ _ = ⊥

-- A state has a value of its type for each reactive definition, samples have a byte for each input, and port values a byte for
-- each output.
abbrev pub IsState : ProgramTree → State → Type 0
IsState p s = AreValuesOf (map (λ (d : DeclTree). d.ty) (reactive_decls p)) s

abbrev pub AreSamples : ProgramTree → Samples → Type 0
AreSamples p j = AreValuesOf (map (λ (d : DeclTree). U8) (inputs_of p)) j

abbrev pub ArePortValues : ProgramTree → List ℕ → Type 0
ArePortValues p values = AreValuesOf (map (λ (o : OutputTree). U8) p.outputs) values

-- One of the program's events occurs, with a byte for each input.
pub record IsOccurrence (p : ProgramTree) (o : Occurrence) : Type 0 where
  pub is_event : list_any (λ e. bytes_eq o.event e.name) p.events ≡ true
  pub are_samples : AreSamples p o.samples

-- No two definitions have one name.
abbrev pub NamesDiffer : ProgramTree → Type 0
NamesDiffer p = IsDistinct bytes_eq (map (λ d. d.name) p.decls)
