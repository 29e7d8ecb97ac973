-- Lines that are written one after the other.
use Rattle.std.proofs.Common.{◌≡◌, ℕ, zero, suc, ◌+◌, ◌<◌, List, [], ◌∷◌, ◌++◌, length, take, get_or, arith}
use Rattle.std.proofs.lemmas.List.{append_assoc, flat_map_more, take_more}
use Rattle.std.specs.List.{flat_map}
use Rattle.map_file.specs.declared.maps.Range.{Range}
use Rattle.map_file.specs.MapRules.{RangesRise}

-- A text of the lines before place i, and then the line at i, has the lines before i + 1.
pub one_more_line : {X : Type 0} (f : X → List ℕ) (start before after : List ℕ) (xs : List X) (i : ℕ) (x : X)
    → i < length xs → x ≡ get_or xs i x → before ≡ start ++ flat_map f (take i xs) → after ≡ before ++ f x
    → after ≡ start ++ flat_map f (take (i + 1) xs)
one_more_line f start before after xs i x inside item so_far now = grind (arith, take_more xs i x inside, flat_map_more f start (take i xs) x)

-- Eight parts of a text, written one after the other.
pub eight_parts : (a b c d e f g h : List ℕ) → ((((((a ++ b) ++ c) ++ d) ++ e) ++ f) ++ g) ++ h ≡ a ++ (b ++ (c ++ (d ++ (e ++ (f ++ (g ++ h))))))
eight_parts a b c d e f g h = simp append_assoc

-- The addresses of ranges that rise are below 200h.
pub range_first : (low : ℕ) (rs : List Range) (i : ℕ) (d : Range) → RangesRise low rs → i < length rs → (get_or rs i d).from < 0x200
range_first low [] i d rises inside = absurd (omega arith)
range_first low (r ∷ rs) zero d rises inside = omega arith
range_first low (r ∷ rs) (suc i) d rises inside = range_first (r.to + 2) rs i d rises.3 (omega arith)

pub range_last : (low : ℕ) (rs : List Range) (i : ℕ) (d : Range) → RangesRise low rs → i < length rs → (get_or rs i d).to < 0x200
range_last low [] i d rises inside = absurd (omega arith)
range_last low (r ∷ rs) zero d rises inside = rises.2
range_last low (r ∷ rs) (suc i) d rises inside = range_last (r.to + 2) rs i d rises.3 (omega arith)
