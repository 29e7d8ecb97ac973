-- The words of a map's text are text, and a range is its two addresses with a mark between.
use Rattle.std.proofs.Common.{◌≡◌, ℕ, zero, suc, ◌<◌, true, ◌||◌, List, [], ◌∷◌, ◌++◌, length, get_or, codes, refl, ap, ◌∙◌, arith}
use Rattle.std.specs.List.{list_all}
use Rattle.std.specs.Str.{IsAscii, IsUtf8}
use Rattle.std.proofs.lemmas.Bool.{and_parts}
use Rattle.std.proofs.lemmas.Bool.Decides.{nat_tests}
use Rattle.std.proofs.lemmas.Str.{IsUtf8-from_ascii}
use Rattle.text_parts.specs.Bytes.{is_letter, is_digit}
use Rattle.text_parts.specs.Digits.{hex3}
use Rattle.frp_tree.specs.Names.{type_name}
use Rattle.frp_tree.specs.declared.syntax.Ty.{Ty}
use Rattle.frp_tree.specs.declared.syntax.Ty.TheVariants as ty
use Rattle.pic_isa.specs.declared.sources.Source.{Source}
use Rattle.pic_isa.specs.declared.sources.Source.TheVariants as source
use Rattle.pic_isa.specs.Sources.{source_name}
use Rattle.pic_isa.specs.Names.{name_of_port}

-- The words of the chip and of the language are ASCII.

name_byte_ascii : (b : ℕ) → (is_letter b || is_digit b) ≡ true → b < 128
name_byte_ascii b h = grind (arith, nat_tests)

bytes_ascii : (bs : List ℕ) → list_all (λ b. is_letter b || is_digit b) bs ≡ true → IsAscii bs
bytes_ascii [] h zero = omega arith
bytes_ascii [] h (suc i) = omega arith
bytes_ascii (b ∷ bs) h zero = name_byte_ascii b (and_parts (is_letter b || is_digit b) (list_all (λ c. is_letter c || is_digit c) bs) h).0
bytes_ascii (b ∷ bs) h (suc i) = bytes_ascii bs (and_parts (is_letter b || is_digit b) (list_all (λ c. is_letter c || is_digit c) bs) h).1 i

pub source_utf8 : (s : Source) → IsUtf8 (source_name s)
source_utf8 s = IsUtf8-from_ascii (source_name s) (bytes_ascii (source_name s) (go s))
  where
    go : (t : Source) → list_all (λ b. is_letter b || is_digit b) (source_name t) ≡ true
    go source.T0 = refl
    go _ = refl

pub port_utf8 : (port : ℕ) → IsUtf8 (name_of_port port)
port_utf8 port = IsUtf8-from_ascii (name_of_port port) (bytes_ascii (name_of_port port) (go port))
  where
    go : (p : ℕ) → list_all (λ b. is_letter b || is_digit b) (name_of_port p) ≡ true
    go zero = refl
    go (suc zero) = refl
    go (suc (suc zero)) = refl
    go (suc (suc (suc zero))) = refl
    go (suc (suc (suc (suc p)))) = refl

pub type_utf8 : (t : Ty) → IsUtf8 (type_name t)
type_utf8 t = IsUtf8-from_ascii (type_name t) (bytes_ascii (type_name t) (go t))
  where
    go : (u : Ty) → list_all (λ b. is_letter b || is_digit b) (type_name u) ≡ true
    go ty.Bool = refl
    go ty.U8 = refl
    go ty.U16 = refl

-- A range is cut after its third digit and after the mark between.
pub range_bytes : (bs : List ℕ) (n m : ℕ) → length bs ≡ 7 → get_or bs 0 0 ∷ get_or bs 1 0 ∷ get_or bs 2 0 ∷ [] ≡ hex3 n → get_or bs 3 0 ≡ 45
    → get_or bs 4 0 ∷ get_or bs 5 0 ∷ get_or bs 6 0 ∷ [] ≡ hex3 m → bs ≡ hex3 n ++ codes "-" ++ hex3 m
range_bytes (a ∷ b ∷ c ∷ d ∷ e ∷ f ∷ g ∷ []) n m h first dash second = ap (λ (u : List ℕ). u ++ d ∷ e ∷ f ∷ g ∷ []) first ∙ ap (λ (u : List ℕ). hex3 n ++ d ∷ u) second ∙ ap (λ x. hex3 n ++ x ∷ hex3 m) dash
range_bytes bs n m h first dash second = absurd (omega arith)
