-- The digits of a line: those of a record's line spell its bytes, and digits of whole bytes make the line of a record.
use Rattle.std.proofs.Common.{◌≡◌, ℕ, zero, suc, ◌+◌, ◌*◌, ◌/◌, ◌%◌, ◌<◌, true, List, [], ◌∷◌, length, map, refl, ◌∙◌, ap, arith}
use Rattle.std.proofs.lemmas.Bool.{and_parts, and_from}
use Rattle.std.proofs.lemmas.Bool.Decides.{nat_tests}
use Rattle.std.specs.Char.{to_ascii_uppercase}
use Rattle.std.specs.List.{All, flat_map, list_all}
use Rattle.text_parts.specs.Bytes.{is_hex_digit}
use Rattle.text_parts.specs.Digits.{hex_digit, hex2}
use Rattle.text_parts.specs.Numbers.{digit_value}
use Rattle.hex_file.specs.Faults.{spelled_bytes}

-- One digit.

pub digit_is_hex : (d n : ℕ) → n < 16 → to_ascii_uppercase d ≡ hex_digit n → is_hex_digit d ≡ true
digit_is_hex d n small e = grind (arith, nat_tests)

pub digit_value_is : (d n : ℕ) → n < 16 → to_ascii_uppercase d ≡ hex_digit n → digit_value d ≡ n
digit_value_is d n small e = grind (arith, nat_tests)

pub digit_below : (d : ℕ) → is_hex_digit d ≡ true → digit_value d < 16
digit_below d hex = grind (arith, nat_tests)

pub digit_written : (d : ℕ) → is_hex_digit d ≡ true → to_ascii_uppercase d ≡ hex_digit (digit_value d)
digit_written d hex = grind (arith, nat_tests)

-- The digits of whole bytes.

pub record Spells (ds bytes : List ℕ) : Type 0 where
  pub hex : list_all is_hex_digit ds ≡ true
  pub spelled : spelled_bytes ds ≡ bytes
  pub double : length ds ≡ 2 * length bytes

pub spells : (ds bytes : List ℕ) → All (λ byte. byte < 256) bytes → map to_ascii_uppercase ds ≡ flat_map hex2 bytes → Spells ds bytes
spells [] [] fit e = record { hex = refl; spelled = refl; double = refl }
spells [] (b ∷ bs) fit e = absurd cc
spells (d ∷ ds) [] fit e = absurd cc
spells (d ∷ []) (b ∷ bs) fit e = absurd cc
spells (high ∷ low ∷ ds) (b ∷ bs) fit e =
    let small : b < 256 = fit 0 0 (omega arith) in
    let high_is : to_ascii_uppercase high ≡ hex_digit (b / 16) = cc in
    let low_is : to_ascii_uppercase low ≡ hex_digit (b % 16) = cc in
    let rest_is : map to_ascii_uppercase ds ≡ flat_map hex2 bs = cc in
    let rest : Spells ds bs = spells ds bs (λ k d below. fit (suc k) d (omega arith)) rest_is in
    let high_hex : is_hex_digit high ≡ true = digit_is_hex high (b / 16) (omega arith) high_is in
    let low_hex : is_hex_digit low ≡ true = digit_is_hex low (b % 16) (omega arith) low_is in
    let high_value : digit_value high ≡ b / 16 = digit_value_is high (b / 16) (omega arith) high_is in
    let low_value : digit_value low ≡ b % 16 = digit_value_is low (b % 16) (omega arith) low_is in
    let whole : 16 * (b / 16) + b % 16 ≡ b = omega arith in
    record {
      hex = all_more high (low ∷ ds) high_hex (all_more low ds low_hex rest.hex);
      spelled = ap (λ n. n ∷ spelled_bytes ds) (joined high low (b / 16) (b % 16) high_value low_value ∙ whole) ∙ ap (λ bytes. b ∷ bytes) rest.spelled;
      double = omega (arith, rest.double);
    }
  where
    all_more : (d : ℕ) (ds : List ℕ) → is_hex_digit d ≡ true → list_all is_hex_digit ds ≡ true → list_all is_hex_digit (d ∷ ds) ≡ true
    all_more d ds here rest = and_from (is_hex_digit d) (list_all is_hex_digit ds) here rest

    joined : (high low m n : ℕ) → digit_value high ≡ m → digit_value low ≡ n → 16 * digit_value high + digit_value low ≡ 16 * m + n
    joined high low m n a b = ap (λ x. 16 * x + digit_value low) a ∙ ap (λ y. 16 * m + y) b

pub record Written (ds : List ℕ) : Type 0 where
  pub written : map to_ascii_uppercase ds ≡ flat_map hex2 (spelled_bytes ds)
  pub bytes : All (λ byte. byte < 256) (spelled_bytes ds)

pub written : (ds : List ℕ) → list_all is_hex_digit ds ≡ true → length ds % 2 ≡ 0 → Written ds
written [] hex even = record { written = refl; bytes = λ k d below. absurd (omega arith) }
written (d ∷ []) hex even = absurd (omega arith)
written (high ∷ low ∷ ds) hex even =
    let parts = and_parts (is_hex_digit high) (list_all is_hex_digit (low ∷ ds)) hex in
    let others = and_parts (is_hex_digit low) (list_all is_hex_digit ds) parts.1 in
    let high_hex : is_hex_digit high ≡ true = parts.0 in
    let low_hex : is_hex_digit low ≡ true = others.0 in
    let rest : Written ds = written ds others.1 (omega arith) in
    let a : digit_value high < 16 = digit_below high high_hex in
    let b : digit_value low < 16 = digit_below low low_hex in
    let byte : ℕ = 16 * digit_value high + digit_value low in
    let high_part : digit_value high ≡ byte / 16 = omega arith in
    let low_part : digit_value low ≡ byte % 16 = omega arith in
    record {
      written = cc (digit_written high high_hex, digit_written low low_hex, high_part, low_part, rest.written);
      bytes = below byte (spelled_bytes ds) (omega arith) rest.bytes;
    }
  where
    below : (byte : ℕ) (bytes : List ℕ) → byte < 256 → All (λ byte. byte < 256) bytes → All (λ byte. byte < 256) (byte ∷ bytes)
    below byte bytes here rest zero d inside = here
    below byte bytes here rest (suc k) d inside = rest k d (omega arith)
