-- The fields that are left of a line. A field may be empty.
use Rattle.std.specs.Prelude.{ℕ, List, [], Option, Some, None}
use Rattle.std.specs.Borrow.{Bor}
use Rattle.text_parts.specs.Fields.{parts_of}
use Rattle.map_file.specs.declared.fields.Fields.{Fields}

abbrev pub parts_left : Option (Bor (List ℕ)) → List (List ℕ)
parts_left None = []
parts_left (Some rest) = parts_of rest.now

abbrev pub left : Fields → List (List ℕ)
left fields = parts_left fields.rest
