-- Laws on the text of tokens with blanks between them: it is cut into these tokens.
use Rattle.std.proofs.Common.{◌≡◌, ◌≢◌, ℕ, ◌+◌, ◌-◌, ◌*◌, ◌^◌, ◌<◌, ◌≤◌, Bool, true, false, not, ◌&&◌, ◌==◌, nat_le, nat_lt, List, [], ◌∷◌, ◌++◌, length, get_or, Some, codes, slice_get, inl, refl, sym, ap, subst, ◌∙◌, arith}
use Rattle.std.specs.List.{AllByRecursion, list_all, flat_map}
use Rattle.std.specs.Fmt.{decimal}
use Rattle.std.proofs.lemmas.Bool.{and_parts, and_from, false≢true, leb-true, ltb-true, lt-ltb, le-leb}
use Rattle.std.proofs.lemmas.Bool.Decides.{nat_tests}
use Rattle.std.proofs.lemmas.List.{append_assoc}
use Rattle.std.proofs.lemmas.Option.{slice_get-get_or, slice_get_within}
use Rattle.std.proofs.lemmas.Fmt.{digits_decimal, digits_value-decimal, decimal_nonempty}
use Rattle.std.proofs.lemmas.Str.Parse.{IsNumeralModel, numerals_by_fold, IsDigitsTest, FoldsDigits}
use Rattle.text_parts.specs.Bytes.{is_digit, is_letter, begins}
use Rattle.text_parts.specs.Names.{has_form_of_name}
use Rattle.text_parts.specs.Numbers.{IsNumber, value_after, digit_value}
use Rattle.frp_tree.specs.declared.tokens.Token.{Token}
use Rattle.frp_tree.specs.declared.tokens.Token.TheVariants as token
use Rattle.frp_tree.specs.declared.marks.TheConstants.{SEMICOLON}
use Rattle.frp_tree.specs.Tokens.{marks, is_blank, IsLexeme, IsLongest, starts_comment, Cuts, here, blank, lexeme, IsWithin}
use Rattle.frp_tree.specs.Prefixes.{IsLongestNumber}
use Rattle.frp_tree.specs.Printed.{spelling, spaced, line}
use Rattle.frp_tree.proofs.LexemeLaws.{is_word_byte, Begins, word_begins, mark_begins, mark_length, all_at, lexeme_begins}
use Rattle.frp_tree.proofs.LongestLaws.{word_longest, decimal_longest, number_longest, wide_longest, two_longest, one_longest}

-- Decimal digits.

decimal_test : IsDigitsTest (λ ds. list_all is_digit ds ≡ true)
decimal_test = record {
  empty = refl;
  parts = λ c cs h. let (x, y) = and_parts (is_digit c) (list_all is_digit cs) h in (grind (arith, nat_tests), y);
  more = λ c cs r h. and_from (is_digit c) (list_all is_digit cs) (grind (arith, nat_tests)) h;
}

digit_of : (c : ℕ) → 48 ≤ c → c ≤ 57 → digit_value c ≡ c - 48
digit_of c h k = grind (arith, nat_tests)

decimal_folds : FoldsDigits (value_after 10)
decimal_folds = record { empty = λ n. refl; more = λ n c cs r. ap (λ x. value_after 10 (n * 10 + x) cs) (digit_of c (omega arith) (omega arith)) }

decimal_model : IsNumeralModel (λ ds. list_all is_digit ds ≡ true) (value_after 10 0)
decimal_model = numerals_by_fold (λ ds. list_all is_digit ds ≡ true) decimal_test (value_after 10) decimal_folds

some_bytes : (w : List ℕ) → 0 < length w → w ≢ []
some_bytes [] h e = omega arith
some_bytes (b ∷ w) h e = cc

decimal_number : (n : ℕ) → n < 2 ^ 64 → IsNumber (decimal n) n
decimal_number n h = inl (record { some = some_bytes (decimal n) (decimal_nonempty n h); digits = digits_decimal decimal_model n h; value = sym (digits_value-decimal decimal_model n h) })

-- A byte that stands in no name, no number and at no mark's second place: such a blank.
pub record IsGap (b : ℕ) : Type 0 where
  pub blank : is_blank b ≡ true
  pub no_word : is_word_byte b ≡ false
  pub no_digit : is_digit b ≡ false
  pub no_suffix : (b == 119) ≡ false
  pub no_prefix : b ≢ 120
  pub no_second : ((a : ℕ) (k : ℕ) → slice_get marks k ≡ Some (a ∷ b ∷ []) → ⊥)
  pub no_slash : (b == 47) ≡ false

abbrev second_is : ℕ → List ℕ → Bool
second_is b (x ∷ y ∷ []) = not (y == b)
second_is b _ = true

no_second_of : (a b k : ℕ) → list_all (second_is b) marks ≡ true → not (b == b) ≡ false → slice_get marks k ≡ Some (a ∷ b ∷ []) → ⊥
no_second_of a b k h f e = false≢true (sym f ∙ all_at (second_is b) marks k (a ∷ b ∷ []) h e)

space : IsGap 32
space = record { blank = refl; no_word = refl; no_digit = refl; no_suffix = refl; no_prefix = λ e. omega arith; no_second = λ a k e. no_second_of a 32 k refl refl e; no_slash = refl }

line_feed : IsGap 10
line_feed = record { blank = refl; no_word = refl; no_digit = refl; no_suffix = refl; no_prefix = λ e. omega arith; no_second = λ a k e. no_second_of a 10 k refl refl e; no_slash = refl }

-- What a token must be to be written: a name in form, a number within the limit, a mark.
abbrev pub is_writable : Token → Bool
is_writable (token.Word name) = has_form_of_name name && nat_le (length name) 31
is_writable (token.Num n) = nat_le n 65535
is_writable (token.Wide n) = nat_le n 65535
is_writable (token.Mark k) = nat_lt k 31

small : (n : ℕ) → nat_le n 65535 ≡ true → n < 2 ^ 64
small n h = omega (arith, leb-true n 65535 h)

pub spelling_lexeme : (t : Token) → is_writable t ≡ true → IsLexeme (spelling t) t
spelling_lexeme (token.Word name) h = ((and_parts (has_form_of_name name) (nat_le (length name) 31) h).0, refl)
spelling_lexeme (token.Num n) h = decimal_number n (small n h)
spelling_lexeme (token.Wide n) h = (decimal n, refl, decimal_number n (small n h))
spelling_lexeme (token.Mark k) h = slice_get-get_or marks k [] (ltb-true k 31 h)

pub writable_within : (t : Token) → is_writable t ≡ true → IsWithin t
writable_within (token.Word name) h = leb-true (length name) 31 (and_parts (has_form_of_name name) (nat_le (length name) 31) h).1
writable_within (token.Num n) h = leb-true n 65535 h
writable_within (token.Wide n) h = leb-true n 65535 h
writable_within (token.Mark k) h = tt

pub lexeme_writable : (t : Token) (w : List ℕ) → IsLexeme w t → IsWithin t → is_writable t ≡ true
lexeme_writable (token.Word name) w l h = and_from (has_form_of_name name) (nat_le (length name) 31) (ap has_form_of_name l.1 ∙ l.0) (le-leb (length name) 31 h)
lexeme_writable (token.Num n) w l h = le-leb n 65535 h
lexeme_writable (token.Wide n) w l h = le-leb n 65535 h
lexeme_writable (token.Mark k) w l h = lt-ltb k 31 (slice_get_within marks k w l)

-- Before a gap a token is the longest.

no_hex_prefix : (w xs rest : List ℕ) (b : ℕ) → w ≢ [] → list_all is_digit w ≡ true → b ≢ 120 → w ++ b ∷ rest ≡ 48 ∷ 120 ∷ xs → ⊥
no_hex_prefix [] xs rest b s d n e = s refl
no_hex_prefix (c ∷ []) xs rest b s d n e = n cc
no_hex_prefix (c ∷ f ∷ w) xs rest b s d n e = let h : f ≡ 120 = cc in false≢true (sym (ap is_digit h) ∙ (and_parts (is_digit f) (list_all is_digit w) (and_parts (is_digit c) (list_all is_digit (f ∷ w)) d).1).0)

decimal_longest_before : (n : ℕ) (b : ℕ) (rest : List ℕ) → n < 2 ^ 64 → is_digit b ≡ false → b ≢ 120 → IsLongestNumber (decimal n) (b ∷ rest)
decimal_longest_before n b rest h d x = decimal_longest (decimal n) (b ∷ rest) d (λ ds other s a e. no_hex_prefix (decimal n) (ds ++ other) rest b (some_bytes (decimal n) (decimal_nonempty n h)) (digits_decimal decimal_model n h) x e)

mark_longest : (w : List ℕ) (k b : ℕ) (rest : List ℕ) → IsGap b → slice_get marks k ≡ Some w → IsLongest w (b ∷ rest)
mark_longest [] k b rest g e = absurd (false≢true (mark_begins [] k e))
mark_longest (a ∷ []) k b rest g e = one_longest a (b ∷ rest) k e (λ c other j f h. let same : c ≡ b = cc in g.no_second a j (subst (λ x. slice_get marks j ≡ Some (a ∷ x ∷ [])) same h))
mark_longest (a ∷ c ∷ []) k b rest g e = two_longest a c (b ∷ rest) k e
mark_longest (a ∷ c ∷ d ∷ w) k b rest g e = absurd (omega (arith, mark_length (a ∷ c ∷ d ∷ w) k e))

pub spelling_longest : (t : Token) (b : ℕ) (rest : List ℕ) → IsGap b → is_writable t ≡ true → IsLongest (spelling t) (b ∷ rest)
spelling_longest (token.Word name) b rest g h = word_longest name (b ∷ rest) (word_begins name (and_parts (has_form_of_name name) (nat_le (length name) 31) h).0) g.no_word
spelling_longest (token.Num n) b rest g h = number_longest (decimal n) (b ∷ rest) n (decimal_number n (small n h)) (decimal_longest_before n b rest (small n h) g.no_digit g.no_prefix) g.no_suffix
spelling_longest (token.Wide n) b rest g h = wide_longest (decimal n) (b ∷ rest) n (decimal_number n (small n h)) (decimal_longest_before n 119 (b ∷ rest) (small n h) refl (λ e. omega arith))
spelling_longest (token.Mark k) b rest g h = mark_longest (get_or marks k []) k b rest g (slice_get-get_or marks k [] (ltb-true k 31 h))

-- It begins no comment.

abbrev no_slashes : List ℕ → Bool
no_slashes (a ∷ b ∷ w) = not (a == 47 && b == 47)
no_slashes _ = true

slashes : (a b c : Bool) → b ≡ false → (a && b) ≡ false
slashes true b c h = h
slashes false b c h = refl

no_comment_mark : (w : List ℕ) (k b : ℕ) (rest : List ℕ) → IsGap b → slice_get marks k ≡ Some w → starts_comment (w ++ b ∷ rest) ≡ false
no_comment_mark [] k b rest g e = absurd (false≢true (mark_begins [] k e))
no_comment_mark (a ∷ []) k b rest g e = slashes (a == 47) (b == 47) true g.no_slash
no_comment_mark (a ∷ c ∷ w) k b rest g e = negated (a == 47 && c == 47) (all_at no_slashes marks k (a ∷ c ∷ w) refl e)
  where
    negated : (x : Bool) → not x ≡ true → x ≡ false
    negated true h = cc
    negated false h = refl

none_begins : (f : ℕ → Bool) (xs : List ℕ) → ((b : ℕ) → f b ≡ false) → begins f xs ≡ false
none_begins f [] h = refl
none_begins f (b ∷ xs) h = h b

no_comment_begin : (p : ℕ → Bool) (w rest : List ℕ) → p 47 ≡ false → Begins p w → starts_comment (w ++ rest) ≡ false
no_comment_begin p [] rest f h = cc
no_comment_begin p (a ∷ w) rest f h = none_begins (λ b. a == 47 && b == 47) (w ++ rest) (λ b. ap (λ x. x && b == 47) (apart_from (a == 47) refl))
  where
    apart_from : (x : Bool) → (a == 47) ≡ x → (a == 47) ≡ false
    apart_from true e = let same : a ≡ 47 = grind (arith, nat_tests) in absurd (false≢true (sym f ∙ ap p (sym same) ∙ h))
    apart_from false e = e

pub spelling_no_comment : (t : Token) (b : ℕ) (rest : List ℕ) → IsGap b → is_writable t ≡ true → starts_comment (spelling t ++ b ∷ rest) ≡ false
spelling_no_comment (token.Word name) b rest g h = no_comment_begin is_letter name (b ∷ rest) refl (lexeme_begins (token.Word name) name (spelling_lexeme (token.Word name) h))
spelling_no_comment (token.Num n) b rest g h = no_comment_begin is_digit (decimal n) (b ∷ rest) refl (lexeme_begins (token.Num n) (decimal n) (spelling_lexeme (token.Num n) h))
spelling_no_comment (token.Wide n) b rest g h = no_comment_begin is_digit (decimal n ++ codes "w") (b ∷ rest) refl (lexeme_begins (token.Wide n) (decimal n ++ codes "w") (spelling_lexeme (token.Wide n) h))
spelling_no_comment (token.Mark k) b rest g h = no_comment_mark (get_or marks k []) k b rest g (slice_get-get_or marks k [] (ltb-true k 31 h))

-- A token and a gap are cut so.
pub gap_cut : {last : Bool} {ts : List Token} (t : Token) (b : ℕ) (rest : List ℕ) → IsGap b → is_writable t ≡ true → Cuts false rest ts last [] → Cuts false (spelling t ++ b ∷ rest) (t ∷ ts) last []
gap_cut t b rest g h c = lexeme (spelling t) (b ∷ rest) (spelling_lexeme t h) (spelling_longest t b rest g h) (spelling_no_comment t b rest g h) refl (blank g.blank c)

abbrev pub AreWritable : List Token → Type 0
AreWritable ts = AllByRecursion (λ t. is_writable t ≡ true) ts

pub spaced_cut : {last : Bool} {us : List Token} (ts : List Token) (rest : List ℕ) → AreWritable ts → Cuts false rest us last [] → Cuts false (spaced ts ++ rest) (ts ++ us) last []
spaced_cut [] rest h c = c
spaced_cut {last = last} {us = us} (t ∷ ts) rest h c = subst (λ x. Cuts false x (t ∷ (ts ++ us)) last []) (sym (append_assoc (spelling t ++ 32 ∷ []) (spaced ts) rest ∙ append_assoc (spelling t) (32 ∷ []) (spaced ts ++ rest))) (gap_cut t 32 (spaced ts ++ rest) space h.0 (spaced_cut ts rest h.1 c))

pub lines_cut : (items : List (List Token)) → AllByRecursion AreWritable items → Cuts false (flat_map line items) (flat_map (λ item. item ++ token.Mark SEMICOLON ∷ []) items) false []
lines_cut [] h = here
lines_cut (item ∷ items) h =
    let semicolon : Cuts false (59 ∷ 10 ∷ flat_map line items) (token.Mark SEMICOLON ∷ flat_map (λ i. i ++ token.Mark SEMICOLON ∷ []) items) false [] = gap_cut (token.Mark SEMICOLON) 10 (flat_map line items) line_feed refl (lines_cut items h.1) in
    subst (λ x. Cuts false x ((item ++ token.Mark SEMICOLON ∷ []) ++ flat_map (λ i. i ++ token.Mark SEMICOLON ∷ []) items) false []) (sym (append_assoc (spaced item) (59 ∷ 10 ∷ []) (flat_map line items)))
    (subst (λ x. Cuts false (spaced item ++ 59 ∷ 10 ∷ flat_map line items) x false []) (sym (append_assoc item (token.Mark SEMICOLON ∷ []) (flat_map (λ i. i ++ token.Mark SEMICOLON ∷ []) items)))
    (spaced_cut item (59 ∷ 10 ∷ flat_map line items) h.0 semicolon))
