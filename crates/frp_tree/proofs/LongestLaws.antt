-- Laws on the longest token: when a name, a number or a mark at the beginning of a text is the longest there.
use Rattle.std.proofs.Common.{◌≡◌, ◌≢◌, ℕ, ◌+◌, ◌<◌, ◌≤◌, true, false, ◌==◌, List, [], ◌∷◌, ◌++◌, length, Some, codes, slice_get, ◌⊎◌, inl, inr, refl, sym, ap, subst, ◌∙◌, arith}
use Rattle.std.specs.List.{list_all}
use Rattle.std.proofs.lemmas.Bool.{false≢true, cases_lt, and_from}
use Rattle.std.proofs.lemmas.List.{append_assoc, length-append}
use Rattle.std.proofs.lemmas.List.Folds.{list_all-append}
use Rattle.text_parts.specs.Bytes.{is_digit, is_letter, is_hex_digit, begins}
use Rattle.text_parts.specs.Numbers.{IsNumber}
use Rattle.frp_tree.specs.Tokens.{marks, IsLexeme, IsLongest}
use Rattle.frp_tree.specs.Prefixes.{IsLongestNumber}
use Rattle.frp_tree.specs.declared.tokens.Token.{Token}
use Rattle.frp_tree.specs.declared.tokens.Token.TheVariants as token
use Rattle.frp_tree.proofs.LexemeLaws.{is_word_byte, is_number_byte, number_word, is_mark_start, Begins, weaker, same_parts, longest_run, word_begins, word_bytes, number_begins, number_bytes, mark_begins, mark_length, lexeme_begins, apart, letter_no_mark, digit_no_mark, digit_no_letter}

-- A name that no name byte follows.

wide_bytes : (w ds : List ℕ) (n : ℕ) → w ≡ ds ++ codes "w" → IsNumber ds n → list_all is_word_byte w ≡ true
wide_bytes w ds n e h = ap (list_all is_word_byte) e ∙ list_all-append is_word_byte ds (codes "w") ∙ and_from (list_all is_word_byte ds) true (weaker is_number_byte is_word_byte ds number_word (number_bytes ds n h)) refl

pub word_longest : (w rest : List ℕ) → Begins is_letter w → begins is_word_byte rest ≡ false → IsLongest w rest
word_longest w rest b n (token.Word name) v other l e = longest_run is_word_byte w v rest other (word_bytes v l.0) e n
word_longest w rest b n (token.Num m) v other l e = longest_run is_word_byte w v rest other (weaker is_number_byte is_word_byte v number_word (number_bytes v m l)) e n
word_longest w rest b n (token.Wide m) v other l e = longest_run is_word_byte w v rest other (wide_bytes v l.0 m l.1 l.2) e n
word_longest w rest b n (token.Mark k) v other l e = absurd (apart is_letter is_mark_start w v rest other letter_no_mark b (mark_begins v k l) (sym e))

-- Decimal digits that no digit follows, and that aren't the 0 of a prefix.
pub decimal_longest : (w rest : List ℕ) → begins is_digit rest ≡ false → ((ds other : List ℕ) → ds ≢ [] → list_all is_hex_digit ds ≡ true → w ++ rest ≡ 48 ∷ 120 ∷ (ds ++ other) → ⊥) → IsLongestNumber w rest
decimal_longest w rest n f m v other (inl d) e = longest_run is_digit w v rest other d.digits e n
decimal_longest w rest n f m v other (inr x) e = absurd (f x.digits other x.some x.hexadecimal (sym e ∙ ap (λ u. u ++ other) x.spelled))

-- Hexadecimal digits that no such digit follows.
pub hexadecimal_longest : (ds rest : List ℕ) → begins is_hex_digit rest ≡ false → IsLongestNumber (48 ∷ 120 ∷ ds) rest
hexadecimal_longest ds rest n m v other (inl d) e = let h : length v ≤ 1 = longest_run is_digit (48 ∷ []) v (120 ∷ (ds ++ rest)) other d.digits e refl in omega arith
hexadecimal_longest ds rest n m v other (inr x) e =
    let digits : x.digits ++ other ≡ ds ++ rest = cc (ap (λ u. u ++ other) x.spelled) in
    let h : length x.digits ≤ length ds = longest_run is_hex_digit ds x.digits rest other x.hexadecimal digits n in
    let l : length v ≡ length (48 ∷ 120 ∷ x.digits) = ap length x.spelled in
    omega arith

-- Fewer digits than a number, or all of them, stand before a suffix.
suffix_parts : (w ds rest other : List ℕ) (n : ℕ) → IsLongestNumber w rest → IsNumber ds n → (ds ++ codes "w") ++ other ≡ w ++ rest → (length ds < length w) ⊎ (rest ≡ 119 ∷ other)
suffix_parts w ds rest other n long h e = go (cases_lt (length ds) (length w))
  where
    at : ds ++ (119 ∷ other) ≡ w ++ rest
    at = sym (append_assoc ds (codes "w") other) ∙ e

    bound : length ds ≤ length w
    bound = long n ds (119 ∷ other) h at

    go : (length ds < length w) ⊎ (length w ≤ length ds) → (length ds < length w) ⊎ (rest ≡ 119 ∷ other)
    go (inl l) = inl l
    go (inr l) = let equal : length ds ≡ length w = omega (arith, bound) in inr (sym (same_parts w ds rest (119 ∷ other) equal at).1)

-- A number after which no suffix stands.
pub number_longest : (w rest : List ℕ) (n : ℕ) → IsNumber w n → IsLongestNumber w rest → begins (λ b. b == 119) rest ≡ false → IsLongest w rest
number_longest w rest n h long s (token.Word name) v other l e = absurd (apart is_digit is_letter w v rest other digit_no_letter (number_begins w n h) (word_begins v l.0) (sym e))
number_longest w rest n h long s (token.Num m) v other l e = long m v other l e
number_longest w rest n h long s (token.Wide m) v other l e = go (suffix_parts w l.0 rest other m long l.2 (ap (λ u. u ++ other) (sym l.1) ∙ e))
  where
    go : (length l.0 < length w) ⊎ (rest ≡ 119 ∷ other) → length v ≤ length w
    go (inl less) = omega (arith, ap length l.1, length-append l.0 (codes "w"))
    go (inr is) = absurd (false≢true (sym s ∙ ap (begins (λ b. b == 119)) is))
number_longest w rest n h long s (token.Mark k) v other l e = absurd (apart is_digit is_mark_start w v rest other digit_no_mark (number_begins w n h) (mark_begins v k l) (sym e))

-- A number with its suffix.
pub wide_longest : (w rest : List ℕ) (n : ℕ) → IsNumber w n → IsLongestNumber w (119 ∷ rest) → IsLongest (w ++ codes "w") rest
wide_longest w rest n h long t v other l e = go t l
  where
    at : v ++ other ≡ w ++ (119 ∷ rest)
    at = e ∙ append_assoc w (codes "w") rest

    longer : length (w ++ codes "w") ≡ length w + 1
    longer = length-append w (codes "w")

    go : (t : Token) → IsLexeme v t → length v ≤ length (w ++ codes "w")
    go (token.Word name) l = absurd (apart is_digit is_letter w v (119 ∷ rest) other digit_no_letter (number_begins w n h) (word_begins v l.0) (sym at))
    go (token.Num m) l = omega (arith, longer, long m v other l at)
    go (token.Wide m) l = omega (arith, longer, long m l.0 (119 ∷ other) l.2 (sym (append_assoc l.0 (codes "w") other) ∙ ap (λ u. u ++ other) (sym l.1) ∙ at), ap length l.1, length-append l.0 (codes "w"))
    go (token.Mark k) l = absurd (apart is_digit is_mark_start w v (119 ∷ rest) other digit_no_mark (number_begins w n h) (mark_begins v k l) (sym at))

-- A mark of two bytes.

-- Where a mark begins, only a mark is a token.
mark_alone : (w rest v other : List ℕ) (t : Token) → Begins is_mark_start w → IsLexeme v t → v ++ other ≡ w ++ rest → (k : ℕ) × (slice_get marks k ≡ Some v)
mark_alone w rest v other (token.Word name) b l e = absurd (apart is_letter is_mark_start v w other rest letter_no_mark (word_begins v l.0) b e)
mark_alone w rest v other (token.Num m) b l e = absurd (apart is_digit is_mark_start v w other rest digit_no_mark (number_begins v m l) b e)
mark_alone w rest v other (token.Wide m) b l e = absurd (apart is_digit is_mark_start v w other rest digit_no_mark (lexeme_begins (token.Wide m) v l) b e)
mark_alone w rest v other (token.Mark k) b l e = (k, l)

pub two_longest : (a b : ℕ) (rest : List ℕ) (k : ℕ) → slice_get marks k ≡ Some (a ∷ b ∷ []) → IsLongest (a ∷ b ∷ []) rest
two_longest a b rest k h t v other l e = let (j, m) = mark_alone (a ∷ b ∷ []) rest v other t (mark_begins (a ∷ b ∷ []) k h) l e in mark_length v j m

-- A mark of one byte that is no prefix of another.
pub one_longest : (a : ℕ) (rest : List ℕ) (k : ℕ) → slice_get marks k ≡ Some (a ∷ []) → ((b : ℕ) (more : List ℕ) (j : ℕ) → rest ≡ b ∷ more → slice_get marks j ≡ Some (a ∷ b ∷ []) → ⊥) → IsLongest (a ∷ []) rest
one_longest a rest k h none t v other l e = let (j, m) = mark_alone (a ∷ []) rest v other t (mark_begins (a ∷ []) k h) l e in go v j m e
  where
    go : (v : List ℕ) (j : ℕ) → slice_get marks j ≡ Some v → v ++ other ≡ a ∷ rest → length v ≤ 1
    go [] j m e = omega arith
    go (c ∷ []) j m e = omega arith
    go (c ∷ d ∷ []) j m e = absurd (none d other j (cc) (let h : c ≡ a = cc in subst (λ x. slice_get marks j ≡ Some (x ∷ d ∷ [])) h m))
    go (c ∷ d ∷ f ∷ v) j m e = absurd (omega (arith, mark_length (c ∷ d ∷ f ∷ v) j m))
