-- Words at successive addresses.
use Rattle.std.specs.Prelude.{◌≡◌, ℕ, ◌+◌, List, [], ◌∷◌}
use Rattle.hex_file.specs.declared.images.Word.{Word}

-- The words stand from an address on, without a gap.
abbrev pub FollowFrom : ℕ → List Word → Type 0
FollowFrom address [] = Unit {0}
FollowFrom address (w ∷ ws) = (w.address ≡ address) × FollowFrom (address + 1) ws
