-- The names of types, and the words that are no names.
use Rattle.std.specs.Prelude.{ℕ, Bool, List, [], ◌∷◌, codes}
use Rattle.std.specs.List.{list_any}
use Rattle.std.specs.Str.{bytes_eq}
use Rattle.frp_tree.specs.declared.syntax.Ty.{Ty}
use Rattle.frp_tree.specs.declared.syntax.Ty.TheVariants as ty

-- How a type is written.
abbrev pub type_name : Ty → List ℕ
type_name ty.Bool = codes "bool"
type_name ty.U8 = codes "u8"
type_name ty.U16 = codes "u16"

-- The words that are no names.
abbrev pub keywords : List (List ℕ)
keywords =
    codes "event" ∷ codes "priority" ∷ codes "setup" ∷ codes "let" ∷ codes "init" ∷ codes "in" ∷ codes "later" ∷ codes "output"
    ∷ codes "if" ∷ codes "then" ∷ codes "else" ∷ codes "true" ∷ codes "false" ∷ codes "bool" ∷ codes "u8" ∷ codes "u16"
    ∷ codes "input" ∷ codes "table" ∷ []

abbrev pub is_keyword : List ℕ → Bool
is_keyword word = list_any (bytes_eq word) keywords
