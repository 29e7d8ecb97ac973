-- The fields of a line.
use Rattle.std.specs.Prelude.{ℕ, ◌==◌, List, filter, length, nat_lt}
use Rattle.std.specs.List.{slice_split}

-- What stands between single spaces: where two spaces stand side by side, an empty field is between.
abbrev pub parts_of : List ℕ → List (List ℕ)
parts_of text = slice_split (λ b. b == 32) text

-- What stands between spaces and isn't empty.
abbrev pub fields_of : List ℕ → List (List ℕ)
fields_of text = filter (λ field. nat_lt 0 (length field)) (parts_of text)
