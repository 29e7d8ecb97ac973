-- The form of a name.
use Rattle.std.specs.Prelude.{ℕ, Bool, false, ◌&&◌, ◌||◌, nat_le, List, [], ◌∷◌, length}
use Rattle.std.specs.List.{list_all}
use Rattle.text_parts.specs.Bytes.{is_digit, is_letter}

-- A letter or `_`, and then letters, digits and `_`.
abbrev pub has_form_of_name : List ℕ → Bool
has_form_of_name [] = false
has_form_of_name (b ∷ bs) = is_letter b && list_all (λ c. is_letter c || is_digit c) bs

-- A name: of that form, with at most 31 bytes.
abbrev pub is_name : List ℕ → Bool
is_name bs = has_form_of_name bs && nat_le (length bs) 31
