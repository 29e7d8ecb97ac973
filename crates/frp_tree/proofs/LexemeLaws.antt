-- Laws on what tokens are spelled as: the first byte of each, a number's value, and that a text spells one token at
-- most.
use Rattle.std.proofs.Common.{◌≡◌, ◌≢◌, ℕ, zero, suc, ◌≤◌, Bool, true, false, ◌&&◌, ◌||◌, not, ◌==◌, nat_le, List, [], ◌∷◌, ◌++◌, length, take, drop, Some, codes, slice_get, inl, inr, refl, sym, ap, subst, ◌∙◌, arith}
use Rattle.std.specs.List.{list_all}
use Rattle.std.specs.Str.{bytes_eq}
use Rattle.std.proofs.lemmas.Bool.{and_parts, and_from, or_left, false≢true, leb-true}
use Rattle.std.proofs.lemmas.List.{take_at, drop_at, append_cancel_right}
use Rattle.std.proofs.lemmas.Option.{same_Some, slice_get_within, get_or_from_slice_get}
use Rattle.std.proofs.lemmas.List.Elements.{All-weaker}
use Rattle.std.proofs.lemmas.List.Sums.{AllPass-from_list_all, list_all-from_AllPass}
use Rattle.std.proofs.lemmas.Slice.Eq.{bytes_eq-Decides}
use Rattle.std.proofs.lemmas.Bool.Decides.{nat_tests}
use Rattle.std.proofs.lemmas.List.Folds.{list_all-append}
use Rattle.text_parts.specs.Bytes.{is_digit, is_letter, is_hex_digit, begins}
use Rattle.text_parts.specs.Names.{has_form_of_name}
use Rattle.text_parts.specs.Numbers.{IsNumber, value_after}
use Rattle.text_parts.proofs.NumberLaws.{digit_hex}
use Rattle.frp_tree.specs.Tokens.{marks, is_blank, IsLexeme}
use Rattle.frp_tree.specs.declared.tokens.Token.{Token}
use Rattle.frp_tree.specs.declared.tokens.Token.TheVariants as token

-- A letter, a digit or `_`.
abbrev pub is_word_byte : ℕ → Bool
is_word_byte b = is_letter b || is_digit b

abbrev pub Begins : (ℕ → Bool) → List ℕ → Type 0
Begins p w = begins p w ≡ true

-- Two beginnings of one text share their first byte.
pub same_begin : (p q : ℕ → Bool) (w v r s : List ℕ) → Begins p w → Begins q v → w ++ r ≡ v ++ s → (b : ℕ) × (p b ≡ true) × (q b ≡ true)
same_begin p q [] v r s x y e = cc
same_begin p q (b ∷ w) [] r s x y e = cc
same_begin p q (b ∷ w) (c ∷ v) r s x y e = let h : c ≡ b = cc in (b, x, ap q (sym h) ∙ y)

pub letter_no_digit : (b : ℕ) → is_letter b ≡ true → is_digit b ≡ true → ⊥
letter_no_digit b x y = grind (arith, nat_tests)

pub blank_no_letter : (b : ℕ) → is_blank b ≡ true → is_letter b ≡ true → ⊥
blank_no_letter b x y = grind (arith, nat_tests)

pub blank_no_digit : (b : ℕ) → is_blank b ≡ true → is_digit b ≡ true → ⊥
blank_no_digit b x y = grind (arith, nat_tests)

-- A byte of a number's spelling.
abbrev pub is_number_byte : ℕ → Bool
is_number_byte b = is_hex_digit b || b == 120

pub number_word : (b : ℕ) → is_number_byte b ≡ true → is_word_byte b ≡ true
number_word b x = grind (arith, nat_tests)

-- The first byte of a mark.
abbrev pub is_mark_start : ℕ → Bool
is_mark_start b = not (is_word_byte b || is_blank b)

pub weaker : (p q : ℕ → Bool) (xs : List ℕ) → ((b : ℕ) → p b ≡ true → q b ≡ true) → list_all p xs ≡ true → list_all q xs ≡ true
weaker p q xs f h = list_all-from_AllPass q xs (All-weaker (λ x. p x ≡ true) (λ x. q x ≡ true) f xs (AllPass-from_list_all p xs h))

-- Two prefixes of one text that are equally long are one.
pub same_parts : (w v r s : List ℕ) → length v ≡ length w → v ++ s ≡ w ++ r → (v ≡ w) × (s ≡ r)
same_parts w v r s l e = (sym (take_at v s (length w) l) ∙ ap (take (length w)) e ∙ take_at w r (length w) refl, sym (drop_at v s (length w) l) ∙ ap (drop (length w)) e ∙ drop_at w r (length w) refl)

-- After a prefix with such an end no prefix is longer of which each element passes.
pub longest_run : (p : ℕ → Bool) (w v r s : List ℕ) → list_all p v ≡ true → v ++ s ≡ w ++ r → begins p r ≡ false → length v ≤ length w
longest_run p w [] r s a e n = omega arith
longest_run p [] (b ∷ v) [] s a e n = cc
longest_run p [] (b ∷ v) (c ∷ r) s a e n = let h : b ≡ c = cc in absurd (false≢true (sym n ∙ ap p (sym h) ∙ (and_parts (p b) (list_all p v) a).0))
longest_run p (c ∷ w) (b ∷ v) r s a e n = let t : v ++ s ≡ w ++ r = cc in let h = longest_run p w v r s (and_parts (p b) (list_all p v) a).1 t n in omega arith

-- Names.

pub word_begins : (w : List ℕ) → has_form_of_name w ≡ true → Begins is_letter w
word_begins [] h = cc
word_begins (b ∷ bs) h = (and_parts (is_letter b) (list_all is_word_byte bs) h).0

pub word_bytes : (w : List ℕ) → has_form_of_name w ≡ true → list_all is_word_byte w ≡ true
word_bytes [] h = refl
word_bytes (b ∷ bs) h = let (x, y) = and_parts (is_letter b) (list_all is_word_byte bs) h in and_from (is_word_byte b) (list_all is_word_byte bs) (or_left (is_letter b) (is_digit b) x) y

pub word_from : (w : List ℕ) → Begins is_letter w → list_all is_word_byte w ≡ true → has_form_of_name w ≡ true
word_from [] x h = cc
word_from (b ∷ bs) x h = and_from (is_letter b) (list_all is_word_byte bs) x (and_parts (is_word_byte b) (list_all is_word_byte bs) h).1

-- Numbers.

decimal_begins : (w : List ℕ) → w ≢ [] → list_all is_digit w ≡ true → Begins is_digit w
decimal_begins [] s h = absurd (s refl)
decimal_begins (b ∷ bs) s h = (and_parts (is_digit b) (list_all is_digit bs) h).0

hexadecimal_begins : (w ds : List ℕ) → w ≡ 48 ∷ 120 ∷ ds → Begins is_digit w
hexadecimal_begins [] ds e = cc
hexadecimal_begins (b ∷ bs) ds e = let h : b ≡ 48 = cc in ap is_digit h

pub number_begins : (w : List ℕ) (n : ℕ) → IsNumber w n → Begins is_digit w
number_begins w n (inl d) = decimal_begins w d.some d.digits
number_begins w n (inr x) = hexadecimal_begins w x.digits x.spelled

pub number_bytes : (w : List ℕ) (n : ℕ) → IsNumber w n → list_all is_number_byte w ≡ true
number_bytes w n (inl d) = weaker is_digit is_number_byte w (λ b x. or_left (is_hex_digit b) (b == 120) (digit_hex b x)) d.digits
number_bytes w n (inr x) = ap (list_all is_number_byte) x.spelled ∙ weaker is_hex_digit is_number_byte x.digits (λ b y. or_left (is_hex_digit b) (b == 120) y) x.hexadecimal

-- No decimal digits have an x at their second place.
decimal_no_x : (w ds : List ℕ) → list_all is_digit w ≡ true → w ≡ 48 ∷ 120 ∷ ds → ⊥
decimal_no_x w ds h e = false≢true (ap (list_all is_digit) (sym e) ∙ h)

pub same_number : (w : List ℕ) (n m : ℕ) → IsNumber w n → IsNumber w m → n ≡ m
same_number w n m (inl a) (inl b) = a.value ∙ sym b.value
same_number w n m (inl a) (inr b) = absurd (decimal_no_x w b.digits a.digits b.spelled)
same_number w n m (inr a) (inl b) = absurd (decimal_no_x w a.digits b.digits a.spelled)
same_number w n m (inr a) (inr b) = let e : a.digits ≡ b.digits = cc (a.spelled, b.spelled) in a.value ∙ ap (value_after 16 0) e ∙ sym b.value

-- A number doesn't end in the suffix.
pub number_no_suffix : (w ds : List ℕ) (n : ℕ) → IsNumber w n → w ≡ ds ++ codes "w" → ⊥
number_no_suffix w ds n h e = false≢true ((and_parts (list_all is_number_byte ds) false (sym (list_all-append is_number_byte ds (codes "w")) ∙ ap (list_all is_number_byte) (sym e) ∙ number_bytes w n h)).1)

-- Marks.

abbrev starts_mark : List ℕ → Bool
starts_mark [] = false
starts_mark (b ∷ bs) = is_mark_start b

mark_start_begins : (w : List ℕ) → starts_mark w ≡ true → Begins is_mark_start w
mark_start_begins [] h = cc
mark_start_begins (b ∷ bs) h = h

-- What each item of a list passes, an item at a place does.
pub all_at : {X : Type 0} (p : X → Bool) (xs : List X) (k : ℕ) (x : X) → list_all p xs ≡ true → slice_get xs k ≡ Some x → p x ≡ true
all_at p xs k x h e = ap p (sym (get_or_from_slice_get xs k x x e)) ∙ AllPass-from_list_all p xs h k x (slice_get_within xs k x e)

pub mark_begins : (w : List ℕ) (k : ℕ) → slice_get marks k ≡ Some w → Begins is_mark_start w
mark_begins w k e = mark_start_begins w (all_at starts_mark marks k w refl e)

pub mark_length : (w : List ℕ) (k : ℕ) → slice_get marks k ≡ Some w → length w ≤ 2
mark_length w k e = leb-true (length w) 2 (all_at (λ v. nat_le (length v) 2) marks k w refl e)

-- No two of the texts are one.
abbrev all_differ : List (List ℕ) → Bool
all_differ [] = true
all_differ (x ∷ xs) = list_all (λ y. not (bytes_eq x y)) xs && all_differ xs

unlike : (w : List ℕ) → not (bytes_eq w w) ≡ true → ⊥
unlike w h = false≢true (ap not (sym ((bytes_eq-Decides w w).1 refl)) ∙ h)

one_place : (xs : List (List ℕ)) (j k : ℕ) (w : List ℕ) → all_differ xs ≡ true → slice_get xs j ≡ Some w → slice_get xs k ≡ Some w → j ≡ k
one_place [] j k w d e f = cc
one_place (x ∷ xs) zero zero w d e f = refl
one_place (x ∷ xs) zero (suc k) w d e f = absurd (unlike w (ap (λ v. not (bytes_eq v w)) (same_Some w x (sym e)) ∙ all_at (λ y. not (bytes_eq x y)) xs k w (and_parts (list_all (λ y. not (bytes_eq x y)) xs) (all_differ xs) d).0 f))
one_place (x ∷ xs) (suc j) zero w d e f = absurd (unlike w (ap (λ v. not (bytes_eq v w)) (same_Some w x (sym f)) ∙ all_at (λ y. not (bytes_eq x y)) xs j w (and_parts (list_all (λ y. not (bytes_eq x y)) xs) (all_differ xs) d).0 e))
one_place (x ∷ xs) (suc j) (suc k) w d e f = ap suc (one_place xs j k w (and_parts (list_all (λ y. not (bytes_eq x y)) xs) (all_differ xs) d).1 e f)

pub same_mark : (j k : ℕ) (w : List ℕ) → slice_get marks j ≡ Some w → slice_get marks k ≡ Some w → j ≡ k
same_mark j k w = one_place marks j k w refl

-- Lexemes.

-- The bytes that a token's spelling may begin with.
abbrev pub start_of : Token → ℕ → Bool
start_of (token.Word name) = is_letter
start_of (token.Num n) = is_digit
start_of (token.Wide n) = is_digit
start_of (token.Mark k) = is_mark_start

begins-append : (p : ℕ → Bool) (w v : List ℕ) → Begins p w → Begins p (w ++ v)
begins-append p [] v h = cc
begins-append p (b ∷ bs) v h = h

begins_at : (p : ℕ → Bool) (w v : List ℕ) → w ≡ v → Begins p v → Begins p w
begins_at p w v e h = subst (Begins p) (sym e) h

pub lexeme_begins : (t : Token) (w : List ℕ) → IsLexeme w t → Begins (start_of t) w
lexeme_begins (token.Word name) w h = word_begins w h.0
lexeme_begins (token.Num n) w h = number_begins w n h
lexeme_begins (token.Wide n) w h = begins_at is_digit w (h.0 ++ codes "w") h.1 (begins-append is_digit h.0 (codes "w") (number_begins h.0 n h.2))
lexeme_begins (token.Mark k) w h = mark_begins w k h

pub lexeme_some : (t : Token) (w more : List ℕ) → IsLexeme w t → w ++ more ≡ [] → ⊥
lexeme_some t [] more h e = absurd (false≢true (lexeme_begins t [] h))
lexeme_some t (b ∷ bs) more h e = cc

mark_no_letter : (b : ℕ) → is_mark_start b ≡ true → is_letter b ≡ true → ⊥
mark_no_letter b x y = grind (arith, nat_tests)

mark_no_digit : (b : ℕ) → is_mark_start b ≡ true → is_digit b ≡ true → ⊥
mark_no_digit b x y = grind (arith, nat_tests)

mark_no_blank : (b : ℕ) → is_mark_start b ≡ true → is_blank b ≡ true → ⊥
mark_no_blank b x y = grind (arith, nat_tests)

pub start_no_blank : (t : Token) (b : ℕ) → start_of t b ≡ true → is_blank b ≡ true → ⊥
start_no_blank (token.Word name) b x y = blank_no_letter b y x
start_no_blank (token.Num n) b x y = blank_no_digit b y x
start_no_blank (token.Wide n) b x y = blank_no_digit b y x
start_no_blank (token.Mark k) b x y = mark_no_blank b x y

-- Two prefixes of one text begin alike.
pub apart : (p q : ℕ → Bool) (w v r s : List ℕ) → ((b : ℕ) → p b ≡ true → q b ≡ true → ⊥) → Begins p w → Begins q v → w ++ r ≡ v ++ s → ⊥
apart p q w v r s f x y e = let (b, h, k) = same_begin p q w v r s x y e in f b h k

other_kind : (p q : ℕ → Bool) (w : List ℕ) → ((b : ℕ) → p b ≡ true → q b ≡ true → ⊥) → Begins p w → Begins q w → ⊥
other_kind p q w f x y = apart p q w w [] [] f x y refl

pub digit_no_letter : (b : ℕ) → is_digit b ≡ true → is_letter b ≡ true → ⊥
digit_no_letter b x y = letter_no_digit b y x

pub letter_no_mark : (b : ℕ) → is_letter b ≡ true → is_mark_start b ≡ true → ⊥
letter_no_mark b x y = mark_no_letter b y x

pub digit_no_mark : (b : ℕ) → is_digit b ≡ true → is_mark_start b ≡ true → ⊥
digit_no_mark b x y = mark_no_digit b y x

-- What is spelled with the suffix is another number's digits with it.
same_wide : (w : List ℕ) (n m : ℕ) (ds es : List ℕ) → w ≡ ds ++ codes "w" → w ≡ es ++ codes "w" → IsNumber ds n → IsNumber es m → n ≡ m
same_wide w n m ds es e f h k = let same_digits : es ≡ ds = append_cancel_right es ds (codes "w") (sym f ∙ e) in same_number ds n m h (subst (λ v. IsNumber v m) same_digits k)

-- Bytes spell one token at most.
pub same_token : (t u : Token) (w : List ℕ) → IsLexeme w t → IsLexeme w u → t ≡ u
same_token (token.Word name) (token.Word other) w h k = ap token.Word (h.1 ∙ sym k.1)
same_token (token.Num n) (token.Num m) w h k = ap token.Num (same_number w n m h k)
same_token (token.Num n) (token.Wide m) w h k = absurd (number_no_suffix w k.0 n h k.1)
same_token (token.Wide n) (token.Num m) w h k = absurd (number_no_suffix w h.0 m k h.1)
same_token (token.Wide n) (token.Wide m) w h k = ap token.Wide (same_wide w n m h.0 k.0 h.1 k.1 h.2 k.2)
same_token (token.Mark j) (token.Mark k) w h l = ap token.Mark (same_mark j k w h l)
same_token (token.Word name) (token.Num m) w h k = absurd (other_kind is_letter is_digit w letter_no_digit (word_begins w h.0) (number_begins w m k))
same_token (token.Num n) (token.Word other) w h k = absurd (other_kind is_letter is_digit w letter_no_digit (word_begins w k.0) (number_begins w n h))
same_token (token.Word name) (token.Wide m) w h k = absurd (other_kind is_letter is_digit w letter_no_digit (word_begins w h.0) (lexeme_begins (token.Wide m) w k))
same_token (token.Wide n) (token.Word other) w h k = absurd (other_kind is_letter is_digit w letter_no_digit (word_begins w k.0) (lexeme_begins (token.Wide n) w h))
same_token (token.Word name) (token.Mark k) w h l = absurd (other_kind is_letter is_mark_start w letter_no_mark (word_begins w h.0) (mark_begins w k l))
same_token (token.Mark j) (token.Word other) w h k = absurd (other_kind is_letter is_mark_start w letter_no_mark (word_begins w k.0) (mark_begins w j h))
same_token (token.Num n) (token.Mark k) w h l = absurd (other_kind is_digit is_mark_start w digit_no_mark (number_begins w n h) (mark_begins w k l))
same_token (token.Mark j) (token.Num m) w h k = absurd (other_kind is_digit is_mark_start w digit_no_mark (number_begins w m k) (mark_begins w j h))
same_token (token.Wide n) (token.Mark k) w h l = absurd (other_kind is_digit is_mark_start w digit_no_mark (lexeme_begins (token.Wide n) w h) (mark_begins w k l))
same_token (token.Mark j) (token.Wide m) w h k = absurd (other_kind is_digit is_mark_start w digit_no_mark (lexeme_begins (token.Wide m) w k) (mark_begins w j h))
