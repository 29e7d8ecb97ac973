-- The token at the beginning of a text, made of a name, a number or a mark there.
use Rattle.std.proofs.Common.{◌≡◌, ◌≢◌, ℕ, ◌-◌, ◌<◌, ◌≤◌, Bool, true, false, not, ◌==◌, nat_le, List, [], ◌∷◌, ◌++◌, length, get_or, take, drop, Option, Some, None, codes, inl, inr, refl, sym, ap, subst, ◌∙◌, arith}
use Rattle.std.specs.List.{list_all, AllByRecursion}
use Rattle.std.proofs.lemmas.Bool.{false≢true, and_parts, and_from, and_right, or_left, or_right, cases_eq, eqb-false, not-true, not-false, eqb-true, leb-true, leb-false, cond_both, ne_eqb}
use Rattle.std.proofs.lemmas.List.{append_assoc}
use Rattle.text_parts.specs.Bytes.{is_digit, is_letter, begins}
use Rattle.text_parts.specs.Numbers.{IsNumber}
use Rattle.frp_tree.specs.Tokens.{IsLexeme, starts_word, starts_comment, AtLineEnd}
use Rattle.frp_tree.specs.Prefixes.{Skips, IsFirstToken}
use Rattle.frp_tree.specs.declared.tokens.Token.{Token}
use Rattle.frp_tree.specs.declared.tokens.Token.TheVariants as token
use Rattle.frp_tree.proofs.LexemeLaws.{is_word_byte, word_from, lexeme_begins, lexeme_some}
use Rattle.frp_tree.proofs.LongestLaws.{word_longest, number_longest, wide_longest}
use Rattle.efrp_syntax.specs.Pieces.{is_in, IsRun, fitting, IsFirstNumber, IsFirstMark, HasNoMark, HasNoFirstToken, IsFirstTooBig}
use Rattle.efrp_syntax.specs.declared.classes.Class.TheVariants.{Line}
use Rattle.efrp_syntax.proofs.FirstMarkFacts.{two_first}
use Rattle.efrp_syntax.proofs.FirstNumberFacts.{run_some}

-- Comments.

pub first_comment : (text : List ℕ) → 2 ≤ length text → get_or text 0 0 ≡ 47 → get_or text 1 0 ≡ 47 → text ≡ 47 ∷ 47 ∷ take (length text - 2) (drop 2 text)
first_comment text l a b = two_first text l ∙ ap (λ x. x ∷ get_or text 1 0 ∷ take (length text - 2) (drop 2 text)) a ∙ ap (λ x. 47 ∷ x ∷ take (length text - 2) (drop 2 text)) b

in_line : (bs : List ℕ) → list_all (λ b. not (b == 10)) bs ≡ true → AllByRecursion (λ b. b ≢ 10) bs
in_line [] h = tt
in_line (b ∷ bs) h = let (x, y) = and_parts (not (b == 10)) (list_all (λ c. not (c == 10)) bs) h in (eqb-false b 10 (not-true (b == 10) x), in_line bs y)

line_end : (bs : List ℕ) → begins (λ b. not (b == 10)) bs ≡ false → AtLineEnd bs
line_end [] h = tt
line_end (b ∷ bs) h = eqb-true b 10 (not-false (b == 10) h)

pub comment_skips : (text body prefix rest : List ℕ) → text ≡ 47 ∷ 47 ∷ body → IsRun (is_in Line) body prefix rest → Skips text rest
comment_skips text body prefix rest e r = inr (record {
  body = prefix;
  spelled = e ∙ ap (λ xs. 47 ∷ 47 ∷ xs) r.spelled;
  in_line = in_line prefix r.all;
  ends = line_end rest r.ends;
})

-- Names.

-- A prefix that isn't empty begins as the text does.
begins_prefix : (q : ℕ → Bool) (text w more : List ℕ) → w ≢ [] → text ≡ w ++ more → begins q w ≡ begins q text
begins_prefix q text [] more s e = absurd (s refl)
begins_prefix q text (b ∷ w) more s e = sym (ap (begins q) e)

letter_word : (text : List ℕ) → begins is_letter text ≡ true → begins is_word_byte text ≡ true
letter_word [] h = h
letter_word (b ∷ bs) h = or_left (is_letter b) (is_digit b) h

pub first_word : (text bytes rest name : List ℕ) → begins is_letter text ≡ true → starts_comment text ≡ false → IsRun is_word_byte text bytes rest → name ≡ bytes → IsFirstToken false text (token.Word name) rest
first_word text bytes rest name b s r n =
    let letter : begins is_letter bytes ≡ true = begins_prefix is_letter text bytes rest (run_some is_word_byte text bytes rest (letter_word text b) r) r.spelled ∙ b in
    record { w = bytes; spelled = r.spelled; lexeme = (word_from bytes letter r.all, n); longest = word_longest bytes rest letter r.ends; no_comment = s; allowed = refl }

-- Numbers.

wide_spelled : (text digits rest behind : List ℕ) → text ≡ digits ++ rest → rest ≡ 119 ∷ behind → text ≡ (digits ++ codes "w") ++ behind
wide_spelled text digits rest behind e h = e ∙ ap (λ xs. digits ++ xs) h ∙ sym (append_assoc digits (codes "w") behind)

first_wide : (text rest behind : List ℕ) (value : Option ℕ) → (f : IsFirstNumber text value rest) → starts_comment text ≡ false → rest ≡ 119 ∷ behind → IsFirstToken false text (token.Wide f.n) behind
first_wide text rest behind value f s e = record {
  w = f.digits ++ codes "w";
  spelled = wide_spelled text f.digits rest behind f.spelled e;
  lexeme = (f.digits, refl, f.number);
  longest = wide_longest f.digits behind f.n f.number (subst (λ x. (n : ℕ) (longer other : List ℕ) → IsNumber longer n → longer ++ other ≡ f.digits ++ x → length longer ≤ length f.digits) e f.longest);
  no_comment = s;
  allowed = refl;
}

first_num : (text rest : List ℕ) (value : Option ℕ) → (f : IsFirstNumber text value rest) → starts_comment text ≡ false → begins (λ b. b == 119) rest ≡ false → IsFirstToken false text (token.Num f.n) rest
first_num text rest value f s e = record { w = f.digits; spelled = f.spelled; lexeme = f.number; longest = number_longest f.digits rest f.n f.number f.longest e; no_comment = s; allowed = refl }

-- What a number within the limit says.
some_fitting : (n v : ℕ) → Some v ≡ fitting n → (n ≡ v) × (n ≤ 65535)
some_fitting n v = cond_both (nat_le n 65535) (Some n) None (λ o. Some v ≡ o → (n ≡ v) × (n ≤ 65535)) (λ h e. (cc, leb-true n 65535 h)) (λ h e. cc)

none_fitting : (n : ℕ) → None ≡ fitting n → 65535 < n
none_fitting n = cond_both (nat_le n 65535) (Some n) None (λ o. None ≡ o → 65535 < n) (λ h e. cc) (λ h e. leb-false n 65535 h)

pub wide_taken : (text rest behind : List ℕ) (value : Option ℕ) (v : ℕ) → value ≡ Some v → IsFirstNumber text value rest → starts_comment text ≡ false → rest ≡ 119 ∷ behind → IsFirstToken false text (token.Wide v) behind × (v ≤ 65535)
wide_taken text rest behind value v o f s e =
    let (same, fits) = some_fitting f.n v (sym o ∙ f.told) in
    (subst (λ n. IsFirstToken false text (token.Wide n) behind) same (first_wide text rest behind value f s e), subst (λ n. n ≤ 65535) same fits)

pub num_taken : (text rest : List ℕ) (value : Option ℕ) (v : ℕ) → value ≡ Some v → IsFirstNumber text value rest → starts_comment text ≡ false → begins (λ b. b == 119) rest ≡ false → IsFirstToken false text (token.Num v) rest × (v ≤ 65535)
num_taken text rest value v o f s e =
    let (same, fits) = some_fitting f.n v (sym o ∙ f.told) in
    (subst (λ n. IsFirstToken false text (token.Num n) rest) same (first_num text rest value f s e), subst (λ n. n ≤ 65535) same fits)

-- A number above the limit is too big, with its suffix or without.
pub number_big : (text rest : List ℕ) (value : Option ℕ) → value ≡ None → IsFirstNumber text value rest → starts_comment text ≡ false → IsFirstTooBig false text
number_big text rest value o f s = go rest refl
  where
    above : 65535 < f.n
    above = none_fitting f.n (sym o ∙ f.told)

    big : f.n ≤ 65535 → ⊥
    big h = omega (arith, above)

    plain : begins (λ b. b == 119) rest ≡ false → IsFirstTooBig false text
    plain e = record { t = token.Num f.n; more = rest; prefix = first_num text rest value f s e; past = big }

    go : (xs : List ℕ) → rest ≡ xs → IsFirstTooBig false text
    go [] e = plain (ap (begins (λ b. b == 119)) e)
    go (b ∷ bs) e = elim (cases_eq b 119) [
      | inl h ↦ record { t = token.Wide f.n; more = bs; prefix = first_wide text rest bs value f s (e ∙ ap (λ x. x ∷ bs) h); past = big }
      | inr h ↦ plain (ap (begins (λ c. c == 119)) e ∙ ne_eqb b 119 h)
    ]

pub word_big : (text bytes rest : List ℕ) → begins is_letter text ≡ true → starts_comment text ≡ false → IsRun is_word_byte text bytes rest → 31 < length bytes → IsFirstTooBig false text
word_big text bytes rest b s r l = record { t = token.Word bytes; more = rest; prefix = first_word text bytes rest bytes b s r refl; past = λ h. omega arith }

-- Marks.

lexeme_begins_word : (t : Token) (text w more : List ℕ) (q : ℕ → Bool) → IsLexeme w t → text ≡ w ++ more → begins q w ≡ begins q text
lexeme_begins_word t text w more q l e = begins_prefix q text w more (λ h. lexeme_some t w [] l (ap (λ xs. xs ++ []) h)) e

starts_as : (w : List ℕ) → starts_word w ≡ begins is_word_byte w
starts_as [] = refl
starts_as (b ∷ bs) = refl

pub mark_taken : (after : Bool) (text rest : List ℕ) (k : ℕ) → IsFirstMark text k rest → starts_comment text ≡ false → begins is_word_byte text ≡ false → IsFirstToken after text (token.Mark k) rest
mark_taken after text rest k f s b = record {
  w = f.w;
  spelled = f.spelled;
  lexeme = f.mark;
  longest = f.longest;
  no_comment = s;
  allowed = and_right after (starts_word f.w) (starts_as f.w ∙ lexeme_begins_word (token.Mark k) text f.w rest is_word_byte f.mark f.spelled ∙ b);
}

word_at : (p : ℕ → Bool) (w : List ℕ) → ((b : ℕ) → p b ≡ true → is_word_byte b ≡ true) → begins p w ≡ true → begins is_word_byte w ≡ true
word_at p [] f h = h
word_at p (b ∷ bs) f h = f b h

pub mark_none : (after : Bool) (text : List ℕ) → HasNoMark text → begins is_word_byte text ≡ false → HasNoFirstToken after text
mark_none after text none b t w more l e = absurd (go t l)
  where
    no_word : begins is_word_byte w ≡ true → IsLexeme w t → ⊥
    no_word h k = false≢true (sym b ∙ sym (lexeme_begins_word t text w more is_word_byte k e) ∙ h)

    go : (u : Token) → IsLexeme w u → ⊥
    go (token.Word name) k = no_word (word_at is_letter w (λ c x. or_left (is_letter c) (is_digit c) x) (lexeme_begins (token.Word name) w k)) l
    go (token.Num n) k = no_word (word_at is_digit w (λ c x. or_right (is_letter c) (is_digit c) x) (lexeme_begins (token.Num n) w k)) l
    go (token.Wide n) k = no_word (word_at is_digit w (λ c x. or_right (is_letter c) (is_digit c) x) (lexeme_begins (token.Wide n) w k)) l
    go (token.Mark k) m = none w more k e m

-- Directly after a number no name and no number is taken.
pub behind_number : (after : Bool) (text : List ℕ) → after ≡ true → begins is_word_byte text ≡ true → HasNoFirstToken after text
behind_number after text a b t w more l e = and_from after (starts_word w) a (starts_as w ∙ lexeme_begins_word t text w more is_word_byte l e ∙ b)
