-- What is found in a line, part by part.
use Rattle.std.specs.Prelude.{◌≡◌, ℕ, ◌+◌, ◌<◌, Bool, true, false, not, ◌&&◌, ◌==◌, nat_lt, List, ◌∷◌, length, map, filter, drop, Option, Some, None, MatchOption}
use Rattle.std.specs.List.{list_all}
use Rattle.text_parts.specs.Bytes.{begins}
use Rattle.text_parts.specs.Numbers.{is_byte, value_after}
use Rattle.frp_tree.specs.declared.syntax.Ty.TheVariants.{U8}
use Rattle.frp_tree.specs.Tree.{DeclTree, ProgramTree}
use Rattle.efrp_meaning.specs.Decls.{is_input}
use Rattle.efrp_meaning.specs.States.{AreValuesOf}
use Rattle.event_file.specs.declared.occurrences.Occurrence.{Occurrence as Found}
use Rattle.event_file.specs.Events.{gives, sample_in, occurrence_in}
use Rattle.event_file.specs.Reads.{occurrence_of, IsFound}

-- The inputs among definitions.
abbrev pub inputs_among : List DeclTree → List DeclTree
inputs_among decls = filter (λ d. is_input d.behaviour) decls

-- `=` and then two hexadecimal digits, and the byte that these spell.
abbrev pub is_value : List ℕ → Bool
is_value text = begins (λ b. b == 61) text && is_byte (drop 1 text)

abbrev pub ValueOf : List ℕ → Option ℕ → Type 0
ValueOf text found = MatchOption found (is_value text ≡ false) (λ byte. (is_value text ≡ true) × (byte ≡ value_after 16 0 (drop 1 text)) × (byte < 256))

-- The byte that a field gives to an input, where it gives one.
abbrev pub byte_of : List ℕ → DeclTree → ℕ
byte_of field input = value_after 16 0 (drop (length input.name + 1) field)

abbrev pub Gives : List ℕ → DeclTree → Option ℕ → Type 0
Gives field input found = MatchOption found (gives field input ≡ false) (λ byte. (gives field input ≡ true) × (byte ≡ byte_of field input) × (byte < 256))

-- Those of a line's fields that give a sample of an input.
abbrev pub samples_for : DeclTree → List (List ℕ) → List (List ℕ)
samples_for input fields = filter (λ field. gives field input) fields

-- The first of them gives this byte, and those after it are among these fields.
pub record IsFirst (fields : List (List ℕ)) (input : DeclTree) (byte : ℕ) (rest : List (List ℕ)) : Type 0 where
  pub field : List ℕ
  pub split : samples_for input fields ≡ field ∷ samples_for input rest
  pub value : byte ≡ byte_of field input
  pub small : byte < 256

-- There is at most one.
abbrev pub is_once : List (List ℕ) → DeclTree → Bool
is_once fields input = nat_lt (length (samples_for input fields)) 2

abbrev pub SampleOf : List (List ℕ) → DeclTree → Option ℕ → Type 0
SampleOf fields input found = MatchOption found (is_once fields input ≡ false) (λ byte. (is_once fields input ≡ true) × (byte ≡ sample_in fields input) × (byte < 256))

-- The bytes that fields give to these inputs, none of which has two.
pub record AreGiven (fields : List (List ℕ)) (inputs : List DeclTree) (samples : List ℕ) : Type 0 where
  pub once : list_all (is_once fields) inputs ≡ true
  pub values : samples ≡ map (sample_in fields) inputs
  pub bytes : AreValuesOf (map (λ (d : DeclTree). U8) inputs) samples

abbrev pub SamplesOf : List (List ℕ) → List DeclTree → Option (List ℕ) → Type 0
SamplesOf fields inputs found = MatchOption found (list_all (is_once fields) inputs ≡ false) (AreGiven fields inputs)

-- What a line states, where it states an event of the program.
abbrev pub States : ProgramTree → List ℕ → Option Found → Type 0
States p text found = MatchOption found (occurrence_in p text ≡ None) (λ o. (occurrence_in p text ≡ Some (occurrence_of p o)) × IsFound p o)

-- There is a byte, and it is no space.
abbrev pub is_other : Option ℕ → Bool
is_other None = false
is_other (Some b) = not (b == 32)
