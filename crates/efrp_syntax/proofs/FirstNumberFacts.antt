-- The number at the beginning of a text.
use Rattle.std.proofs.Common.{◌≡◌, ◌≢◌, ℕ, Bool, true, false, List, [], ◌∷◌, ◌++◌, Option, inl, inr, refl, sym, ap, ◌∙◌}
use Rattle.std.specs.List.{list_all}
use Rattle.std.proofs.lemmas.Bool.{false≢true, and_parts}
use Rattle.text_parts.specs.Bytes.{is_digit, is_hex_digit, begins}
use Rattle.text_parts.specs.Numbers.{value_after}
use Rattle.frp_tree.proofs.LongestLaws.{decimal_longest, hexadecimal_longest}
use Rattle.efrp_syntax.specs.Pieces.{IsRun, IsFirstNumber, fitting}

-- A run of what begins with such an element isn't empty.
pub run_some : (p : ℕ → Bool) (text prefix rest : List ℕ) → begins p text ≡ true → IsRun p text prefix rest → prefix ≢ []
run_some p text prefix rest b r e = false≢true (sym r.ends ∙ ap (begins p) (sym (r.spelled ∙ ap (λ xs. xs ++ rest) e)) ∙ b)

pub first_hexadecimal : (text behind prefix rest : List ℕ) (value : Option ℕ) → text ≡ 48 ∷ 120 ∷ behind → begins is_hex_digit behind ≡ true → IsRun is_hex_digit behind prefix rest → value ≡ fitting (value_after 16 0 prefix) → IsFirstNumber text value rest
first_hexadecimal text behind prefix rest value e b r t = record {
  digits = 48 ∷ 120 ∷ prefix;
  n = value_after 16 0 prefix;
  spelled = e ∙ ap (λ xs. 48 ∷ 120 ∷ xs) r.spelled;
  number = inr (record { digits = prefix; some = run_some is_hex_digit behind prefix rest b r; spelled = refl; hexadecimal = r.all; value = refl });
  longest = hexadecimal_longest prefix rest r.ends;
  told = t;
}

-- Hexadecimal digits begin with one.
begins_all : (p : ℕ → Bool) (ds other : List ℕ) → ds ≢ [] → list_all p ds ≡ true → begins p (ds ++ other) ≡ true
begins_all p [] other s h = absurd (s refl)
begins_all p (d ∷ ds) other s h = (and_parts (p d) (list_all p ds) h).0

pub first_decimal : (text prefix rest : List ℕ) (value : Option ℕ) → begins is_digit text ≡ true → ((digits : List ℕ) → text ≡ 48 ∷ 120 ∷ digits → begins is_hex_digit digits ≡ false) → IsRun is_digit text prefix rest → value ≡ fitting (value_after 10 0 prefix) → IsFirstNumber text value rest
first_decimal text prefix rest value b none r t = record {
  digits = prefix;
  n = value_after 10 0 prefix;
  spelled = r.spelled;
  number = inl (record { some = run_some is_digit text prefix rest b r; digits = r.all; value = refl });
  longest = decimal_longest prefix rest r.ends (λ ds other some all e. false≢true (sym (none (ds ++ other) (r.spelled ∙ e)) ∙ begins_all is_hex_digit ds other some all));
  told = t;
}
