-- A line without a fault of its own is that of its record, and a record's line has none.
use Rattle.std.proofs.Common.{◌≡◌, ◌≢◌, ℕ, suc, ◌+◌, ◌*◌, ◌/◌, ◌%◌, ◌<◌, ◌≤◌, ◌⊎◌, inl, inr, ⊎_elim, Bool, true, false, not, ◌&&◌, ◌||◌, ◌==◌, nat_lt, List, [], ◌∷◌, ◌++◌, length, take, drop, map, sum, refl, sym, ◌∙◌, ap, subst, slice_index, arith, length-append}
use Rattle.std.proofs.lemmas.Bool.{eqb-true, eqb-false, eq-eqb, ne_eqb, ltb-false, le-ltb, not-false, not_from_true, or_parts, or_from, and_cases, and_left, and_right, both_ways, and_parts, or_left, or_right, cases_eq}
use Rattle.std.proofs.lemmas.Bool.Decides.{nat_tests}
use Rattle.std.proofs.Math.Seq.{take-append_seam}
use Rattle.std.proofs.lemmas.List.{take_more, take_all, nil_from_length, length-take-le, get_or_push}
use Rattle.std.proofs.lemmas.List.Sums.{sum_by_push}
use Rattle.std.specs.Char.{to_ascii_uppercase}
use Rattle.std.specs.List.{All, flat_map, list_all}
use Rattle.text_parts.specs.Bytes.{is_hex_digit}
use Rattle.text_parts.specs.Digits.{hex2}
use Rattle.hex_file.specs.Faults.{bytes_of, told_length, record_in, got_sum, want_sum, has_bad_char, has_bad_length, has_bad_sum, has_bad_type, has_bad_payload, is_out_of_range, is_upper}
use Rattle.hex_file.specs.ImageOf.{HexRecord, record_bytes, IsAllowed, IsRecordLine}
use Rattle.hex_file.specs.Written.{check_byte}
use Rattle.hex_file.proofs.CheckFacts.{check_byte_unique, sum_with_check_byte}
use Rattle.hex_file.proofs.DigitFacts.{Spells, spells, Written, written}

-- The bytes of a line.

whole_payload : (rest : List ℕ) (n : ℕ) → length rest ≡ n + 1 → take n rest ++ slice_index rest n ∷ [] ≡ rest
whole_payload rest n count = sym (take_more rest n 0 (omega arith)) ∙ take_all (n + 1) rest (omega arith)

bytes_whole : (bytes : List ℕ) → length bytes ≡ told_length bytes + 5 → All (λ byte. byte < 256) bytes
    → record_bytes (record_in bytes) (got_sum bytes) ≡ bytes
bytes_whole [] count fit = absurd (omega arith)
bytes_whole (n ∷ []) count fit = absurd (omega arith)
bytes_whole (n ∷ h ∷ []) count fit = absurd (omega arith)
bytes_whole (n ∷ h ∷ l ∷ []) count fit = absurd (omega arith)
bytes_whole (n ∷ h ∷ l ∷ k ∷ rest) count fit =
    let low : l < 256 = fit 2 0 (omega arith) in
    let some : length rest ≡ n + 1 = omega arith in
    let told : length (take n rest) ≡ n = length-take-le n rest (omega arith) in
    let high_is : (256 * h + l) / 256 ≡ h = omega arith in
    let low_is : (256 * h + l) % 256 ≡ l = omega arith in
    let four : n + 4 ≡ suc (suc (suc (suc n))) = omega arith in
    let last : slice_index (n ∷ h ∷ l ∷ k ∷ rest) (n + 4) ≡ slice_index rest n = ap (slice_index (n ∷ h ∷ l ∷ k ∷ rest)) four in
    let ends : take n rest ++ slice_index (n ∷ h ∷ l ∷ k ∷ rest) (n + 4) ∷ [] ≡ rest = ap (λ b. take n rest ++ b ∷ []) last ∙ whole_payload rest n some in
    cc (told, high_is, low_is, ends)

sum_whole : (bytes : List ℕ) (n : ℕ) → length bytes ≡ n + 1 → sum bytes ≡ sum (take n bytes) + slice_index bytes n
sum_whole bytes n count =
    sym (ap sum (whole_payload bytes n count)) ∙ sum_by_push (λ b. b) (take n bytes) (slice_index bytes n)

bytes_balanced : (bytes : List ℕ) → length bytes ≡ told_length bytes + 5 → has_bad_sum bytes ≡ false → sum bytes % 256 ≡ 0
bytes_balanced bytes count right =
    let n : ℕ = told_length bytes + 4 in
    let same : got_sum bytes ≡ want_sum bytes = eqb-true _ _ (not-false _ right) in
    let split : sum bytes ≡ sum (take n bytes) + got_sum bytes = sum_whole bytes n (omega arith) in
    let zero_sum : (sum (take n bytes) + check_byte (take n bytes)) % 256 ≡ 0 = sum_with_check_byte (take n bytes) in
    ap (λ s. s % 256) (split ∙ ap (λ b. sum (take n bytes) + b) same) ∙ zero_sum

-- The parts of a line whose text and length are good.

record HasText (line : List ℕ) : Type 0 where
  pub is : line ≡ 58 ∷ drop 1 line
  pub hex : list_all is_hex_digit (drop 1 line) ≡ true
  pub even : length (drop 1 line) % 2 ≡ 0
  pub count : length (bytes_of line) ≡ told_length (bytes_of line) + 5

colon_first : (line : List ℕ) → slice_index line 0 ≡ 58 → line ≡ 58 ∷ drop 1 line
colon_first [] e = absurd (omega arith)
colon_first (b ∷ line) e = ap (λ c. c ∷ line) e

text_good : (line : List ℕ) → has_bad_char line ≡ false → has_bad_length line ≡ false → HasText line
text_good line chars lens =
    let good = or_parts (not (slice_index line 0 == 58)) (not (list_all is_hex_digit (drop 1 line))) chars in
    let bytes = bytes_of line in
    let counted = or_parts (length (drop 1 line) % 2 == 1 || nat_lt (length bytes) 5) (not (length bytes == told_length bytes + 5)) lens in
    let odd = or_parts (length (drop 1 line) % 2 == 1) (nat_lt (length bytes) 5) counted.0 in
    let not_odd : length (drop 1 line) % 2 ≢ 1 = eqb-false _ _ odd.0 in
    record {
      is = colon_first line (eqb-true _ _ (not-false _ good.0));
      hex = not-false _ good.1;
      even = omega arith;
      count = eqb-true _ _ (not-false _ counted.1);
    }

-- What the tests of the record say.

two_zeros : (bytes : List ℕ) → length bytes ≡ 2 → list_all (λ byte. byte == 0) bytes ≡ true → bytes ≡ 0 ∷ 0 ∷ []
two_zeros [] two zeros = absurd (omega arith)
two_zeros (a ∷ []) two zeros = absurd (omega arith)
two_zeros (a ∷ b ∷ []) two zeros =
    let first = and_parts (a == 0) (list_all (λ byte. byte == 0) (b ∷ [])) zeros in
    let second = and_parts (b == 0) true first.1 in
    let a_is : a ≡ 0 = eqb-true _ _ first.0 in let b_is : b ≡ 0 = eqb-true _ _ second.0 in cc
two_zeros (a ∷ b ∷ c ∷ bytes) two zeros = absurd (omega arith)

is_upper_if : (r : HexRecord) → (r.kind ≡ 2) ⊎ (r.kind ≡ 4) → is_upper r ≡ true
is_upper_if r = ⊎_elim (λ e. or_left _ _ (eq-eqb _ _ e)) (λ e. or_right _ _ (eq-eqb _ _ e))

-- Where both of two tests don't hold, and one does, the other doesn't.
not_other : (x y : Bool) → (x && y) ≡ false → x ≡ true → y ≡ false
not_other x y none one = ⊎_elim (λ off. absurd (both_ways x off one)) (λ off. off) (and_cases x y none)

allowed : (r : HexRecord) → r.kind ≤ 5 → has_bad_payload r ≡ false → is_out_of_range r ≡ false → IsAllowed r
allowed r known payload range =
    let payloads = or_parts (r.kind == 1 && not (length r.payload == 0)) (is_upper r && not (length r.payload == 2)) payload in
    let ranges = or_parts (is_upper r && not (list_all (λ byte. byte == 0) r.payload)) (r.kind == 0 && nat_lt 0x10000 (r.address + length r.payload)) range in
    record {
      known = known;
      in_range = λ e. ltb-false _ _ (not_other _ _ ranges.1 (eq-eqb _ _ e));
      end_empty = λ e. nil_from_length r.payload (eqb-true _ _ (not-false _ (not_other _ _ payloads.0 (eq-eqb _ _ e))));
      upper_zero = λ e.
          let upper = is_upper_if r e in
          two_zeros r.payload (eqb-true _ _ (not-false _ (not_other _ _ payloads.1 upper))) (not-false _ (not_other _ _ ranges.0 upper));
    }

pub line_of_record : (line : List ℕ) (r : HexRecord) → has_bad_char line ≡ false → has_bad_length line ≡ false → has_bad_sum (bytes_of line) ≡ false
    → r ≡ record_in (bytes_of line) → r.kind ≤ 5 → has_bad_payload r ≡ false → is_out_of_range r ≡ false → IsRecordLine line r
line_of_record line r chars lens right is known payload range =
    let text : HasText line = text_good line chars lens in
    let digits : Written (drop 1 line) = written (drop 1 line) text.hex text.even in
    let whole : record_bytes r (got_sum (bytes_of line)) ≡ bytes_of line =
    ap (λ r. record_bytes r (got_sum (bytes_of line))) is ∙ bytes_whole (bytes_of line) text.count digits.bytes in
    record {
      check = got_sum (bytes_of line);
      spelled = ap (map to_ascii_uppercase) text.is ∙ ap (λ ds. 58 ∷ ds) digits.written ∙ ap (λ bytes. 58 ∷ flat_map hex2 bytes) (sym whole);
      bytes = subst (All (λ byte. byte < 256)) (sym whole) digits.bytes;
      balanced = ap (λ bytes. sum bytes % 256) whole ∙ bytes_balanced (bytes_of line) text.count right;
      allowed = allowed r known payload range;
    }

-- The line of a record passes the tests, and the record is told by its bytes.

pub record PassesTests (line : List ℕ) (r : HexRecord) : Type 0 where
  pub chars : has_bad_char line ≡ false
  pub lens : has_bad_length line ≡ false
  pub sums : has_bad_sum (bytes_of line) ≡ false
  pub is : record_in (bytes_of line) ≡ r
  pub known : has_bad_type r ≡ false
  pub payload : has_bad_payload r ≡ false
  pub range : is_out_of_range r ≡ false

upper_colon : (b : ℕ) → to_ascii_uppercase b ≡ 58 → b ≡ 58
upper_colon b e = grind (arith, nat_tests)

record HasDigits (line : List ℕ) (bytes : List ℕ) : Type 0 where
  pub colon : slice_index line 0 ≡ 58
  pub digits : Spells (drop 1 line) bytes

has_digits : (line : List ℕ) (bytes : List ℕ) → All (λ byte. byte < 256) bytes → map to_ascii_uppercase line ≡ 58 ∷ flat_map hex2 bytes → HasDigits line bytes
has_digits [] bytes fit e = absurd cc
has_digits (b ∷ line) bytes fit e =
    let first : to_ascii_uppercase b ≡ 58 = cc in
    let rest : map to_ascii_uppercase line ≡ flat_map hex2 bytes = cc in
    record { colon = upper_colon b first; digits = spells line bytes fit rest }

-- What the bytes of a record say.

length_bytes : (r : HexRecord) (check : ℕ) → length (record_bytes r check) ≡ length r.payload + 5
length_bytes r check = omega (arith, length-append r.payload (check ∷ []))

got_of_record : (r : HexRecord) (check : ℕ) → got_sum (record_bytes r check) ≡ check
got_of_record r check =
    ap (slice_index (record_bytes r check)) (let e : length r.payload + 4 ≡ suc (suc (suc (suc (length r.payload)))) = omega arith in e) ∙ get_or_push r.payload check 0 (length r.payload) refl

record_of_bytes : (r : HexRecord) (check : ℕ) → record_in (record_bytes r check) ≡ r
record_of_bytes r check =
    let address : 256 * (r.address / 256) + r.address % 256 ≡ r.address = omega arith in
    let payload : take (length r.payload) (r.payload ++ check ∷ []) ≡ r.payload = take-append_seam r.payload (check ∷ []) in
    λ i. record { address = address i; kind = r.kind; payload = payload i }

right_sum : (r : HexRecord) (check : ℕ) → All (λ byte. byte < 256) (record_bytes r check) → sum (record_bytes r check) % 256 ≡ 0
    → has_bad_sum (record_bytes r check) ≡ false
right_sum r check fit balanced =
    let bytes = record_bytes r check in
    let prefix : List ℕ = take (length r.payload + 4) bytes in
    let small : check < 256 = subst (λ c. c < 256) (got_of_record r check) (fit (length r.payload + 4) 0 (omega (arith, length_bytes r check))) in
    let split : sum bytes ≡ sum prefix + check = sum_whole bytes (length r.payload + 4) (omega (arith, length_bytes r check)) ∙ ap (λ c. sum prefix + c) (got_of_record r check) in
    let zero_sum : (sum prefix + check) % 256 ≡ 0 = ap (λ s. s % 256) (sym split) ∙ balanced in
    not_from_true _ (eq-eqb _ _ (got_of_record r check ∙ check_byte_unique prefix check small zero_sum))

-- What is allowed passes the tests of a record.

upper_or_not : (r : HexRecord) → ((r.kind ≡ 2) ⊎ (r.kind ≡ 4)) ⊎ ((r.kind ≢ 2) × (r.kind ≢ 4))
upper_or_not r = ⊎_elim (λ e. inl (inl e)) (λ not_two. ⊎_elim (λ e. inl (inr e)) (λ not_four. inr (not_two, not_four)) (cases_eq r.kind 4)) (cases_eq r.kind 2)

not_upper : (r : HexRecord) → (r.kind ≢ 2) × (r.kind ≢ 4) → is_upper r ≡ false
not_upper r other = or_from _ _ (ne_eqb _ _ other.0) (ne_eqb _ _ other.1)

payload_good : (r : HexRecord) → IsAllowed r → has_bad_payload r ≡ false
payload_good r is =
    let end : (r.kind == 1 && not (length r.payload == 0)) ≡ false = ⊎_elim
    (λ e. and_right (r.kind == 1) (not (length r.payload == 0)) (not_from_true _ (eq-eqb _ _ (ap length (is.end_empty e)))))
    (λ other. and_left (r.kind == 1) (not (length r.payload == 0)) (ne_eqb _ _ other)) (cases_eq r.kind 1) in
    let upper : (is_upper r && not (length r.payload == 2)) ≡ false = ⊎_elim
    (λ e. and_right (is_upper r) (not (length r.payload == 2)) (not_from_true _ (eq-eqb _ _ (ap length (is.upper_zero e)))))
    (λ other. and_left (is_upper r) (not (length r.payload == 2)) (not_upper r other)) (upper_or_not r) in
    or_from (r.kind == 1 && not (length r.payload == 0)) (is_upper r && not (length r.payload == 2)) end upper

range_good : (r : HexRecord) → IsAllowed r → is_out_of_range r ≡ false
range_good r is =
    let zeros = list_all (λ byte. byte == 0) r.payload in
    let past = nat_lt 0x10000 (r.address + length r.payload) in
    let upper : (is_upper r && not zeros) ≡ false = ⊎_elim
    (λ e. and_right (is_upper r) (not zeros) (not_from_true _ (ap (list_all (λ byte. byte == 0)) (is.upper_zero e))))
    (λ other. and_left (is_upper r) (not zeros) (not_upper r other)) (upper_or_not r) in
    let far : (r.kind == 0 && past) ≡ false = ⊎_elim
    (λ e. and_right (r.kind == 0) past (le-ltb _ _ (is.in_range e)))
    (λ other. and_left (r.kind == 0) past (ne_eqb _ _ other)) (cases_eq r.kind 0) in
    or_from (is_upper r && not zeros) (r.kind == 0 && past) upper far

even_not_odd : (n m : ℕ) → n ≡ 2 * m → n % 2 ≢ 1
even_not_odd n m double odd = omega arith

pub passes_tests : (line : List ℕ) (r : HexRecord) → IsRecordLine line r → PassesTests line r
passes_tests line r is =
    let text : HasDigits line (record_bytes r is.check) = has_digits line (record_bytes r is.check) is.bytes is.spelled in
    let bytes : bytes_of line ≡ record_bytes r is.check = text.digits.spelled in
    let count : length (bytes_of line) ≡ told_length (bytes_of line) + 5 =
    subst (λ bytes. length bytes ≡ told_length bytes + 5) (sym bytes) (length_bytes r is.check) in
    let double : length (drop 1 line) ≡ 2 * length (record_bytes r is.check) = text.digits.double in
    let even : length (drop 1 line) % 2 ≢ 1 = λ odd. even_not_odd (length (drop 1 line)) (length (record_bytes r is.check)) double odd in
    record {
      chars = or_from _ _ (not_from_true _ (eq-eqb _ _ text.colon)) (not_from_true _ text.digits.hex);
      lens = or_from _ _
          (or_from _ _ (ne_eqb _ _ even) (le-ltb _ _ (omega (arith, count))))
          (not_from_true _ (eq-eqb _ _ count));
      sums = ap has_bad_sum bytes ∙ right_sum r is.check is.bytes is.balanced;
      is = ap record_in bytes ∙ record_of_bytes r is.check;
      known = le-ltb _ _ is.allowed.known;
      payload = payload_good r is.allowed;
      range = range_good r is.allowed;
    }
