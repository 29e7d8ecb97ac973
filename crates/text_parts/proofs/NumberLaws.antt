-- The numbers that digits spell.
use Rattle.std.proofs.Common.{◌≡◌, ℕ, ◌+◌, ◌*◌, ◌<◌, ◌≤◌, ◌||◌, true, List, [], ◌∷◌, length, get_or, drop, refl, ◌∙◌, arith}
use Rattle.std.specs.List.{list_all}
use Rattle.std.proofs.lemmas.Bool.{and_parts, and_from, or_left}
use Rattle.std.proofs.lemmas.List.{at_drop_more}
use Rattle.text_parts.specs.Bytes.{is_between, is_digit, is_hex_digit}
use Rattle.text_parts.specs.Numbers.{value_after, digit_value}

pub digit_hex : (b : ℕ) → is_digit b ≡ true → is_hex_digit b ≡ true
digit_hex b x = or_left (is_digit b || is_between 65 70 b) (is_between 97 102 b) (or_left (is_digit b) (is_between 65 70 b) x)

pub digits_hex : (w : List ℕ) → list_all is_digit w ≡ true → list_all is_hex_digit w ≡ true
digits_hex [] h = refl
digits_hex (b ∷ bs) h = let (x, y) = and_parts (is_digit b) (list_all is_digit bs) h in and_from (is_hex_digit b) (list_all is_hex_digit bs) (digit_hex b x) (digits_hex bs y)

-- More digits make no smaller number.
pub value_grows : (base before : ℕ) (ds : List ℕ) → 0 < base → before ≤ value_after base before ds
value_grows base before [] h = omega arith
value_grows base before (d ∷ ds) h = let more : before ≤ before * base = grows before base h in let rest : before * base + digit_value d ≤ value_after base (before * base + digit_value d) ds = value_grows base (before * base + digit_value d) ds h in omega arith
  where
    grows : (m n : ℕ) → 0 < n → m ≤ m * n
    grows m n p = grind arith

-- Where the next digit makes a number of this size, it has at least that in the end.
pub value_past : (base before n most i : ℕ) (ds : List ℕ) → 0 < base → i < length ds → value_after base before (drop i ds) ≡ n → most ≤ before * base + digit_value (get_or ds i 0) → most ≤ n
value_past base before n most i ds h l e past =
    let at : value_after base before (drop i ds) ≡ value_after base before (get_or ds i 0 ∷ drop (i + 1) ds) = at_drop_more (value_after base before) ds i 0 l in
    omega (arith, value_grows base (before * base + digit_value (get_or ds i 0)) (drop (i + 1) ds) h)
