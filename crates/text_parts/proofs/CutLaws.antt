-- A text that is cut at the first byte of a kind: its parts, its lines and its fields.
use Rattle.std.proofs.Common.{◌≡◌, ◌≢◌, ℕ, zero, suc, ◌+◌, ◌-◌, ◌<◌, ◌≤◌, Bool, true, false, cond, not, ◌==◌, nat_lt, Some, None, position, length, get_or, take, drop, subst, arith, List, [], ◌∷◌, ◌++◌, refl, sym, ap, ◌∙◌}
use Rattle.std.specs.List.{All, position_or_len, before_first, after_first, slice_split, onto_first, filter}
use Rattle.std.specs.Str.Lines.{lines, lines_of_parts, strip_carriage_return}
use Rattle.std.proofs.lemmas.Bool.{cond_both, ltb-true, ltb-false, eqb-true, eq-eqb, both_ways, not-false, ne_eqb}
use Rattle.std.proofs.lemmas.List.{take_all, take_rest}
use Rattle.std.proofs.lemmas.List.Sums.{fails_before_first, prefix_len_stops, split_at_first}
use Rattle.std.proofs.lemmas.List.Splits.{slice_split_none, slice_split_at}
use Rattle.text_parts.specs.Bytes.{begins}
use Rattle.text_parts.specs.Cuts.{Lacks}
use Rattle.text_parts.specs.Fields.{fields_of, parts_of}

-- The first byte of a kind.

abbrev is_byte : ℕ → ℕ → Bool
is_byte y b = b == y

none_before : (y : ℕ) (xs : List ℕ) (i : ℕ) → ((k : ℕ) → k < i → k < length xs → get_or xs k 0 ≢ y) → Lacks y (take i xs)
none_before y [] zero h = tt
none_before y [] (suc i) h = tt
none_before y (x ∷ xs) zero h = tt
none_before y (x ∷ xs) (suc i) h = (h 0 (omega arith) (omega arith), none_before y xs i (λ k below inside. h (suc k) (omega arith) (omega arith)))

cut : (y : ℕ) (xs : List ℕ) → position_or_len (is_byte y) xs < length xs → xs ≡ before_first (is_byte y) xs ++ (y ∷ after_first (is_byte y) xs)
cut y xs inside =
    let stops = prefix_len_stops (λ b. not (is_byte y b)) xs 0 inside in
    let byte = eqb-true (get_or xs (position_or_len (is_byte y) xs) 0) y (not-false (is_byte y (get_or xs (position_or_len (is_byte y) xs) 0)) stops) in
    split_at_first (is_byte y) xs 0 inside ∙ ap (λ b. before_first (is_byte y) xs ++ (b ∷ after_first (is_byte y) xs)) byte

lacks_before : (y : ℕ) (xs : List ℕ) (i : ℕ) → i ≤ position_or_len (is_byte y) xs → Lacks y (take i xs)
lacks_before y xs i within = none_before y xs i (λ k below inside e. both_ways (is_byte y (get_or xs k 0)) (fails_before_first (is_byte y) xs k 0 (omega arith)) (eq-eqb (get_or xs k 0) y e))

found_at : (y : ℕ) (xs : List ℕ) (i : ℕ) → Some i ≡ position (is_byte y) xs → (position_or_len (is_byte y) xs ≡ i) × (i < length xs)
found_at y xs i =
    let n = position_or_len (is_byte y) xs in
    cond_both (nat_lt n (length xs)) (Some n) None (λ o. Some i ≡ o → (n ≡ i) × (i < length xs)) (λ h e. let same : i ≡ n = cc in (sym same, let below = ltb-true n (length xs) h in omega arith)) (λ h e. cc)

found_none : (y : ℕ) (xs : List ℕ) → None ≡ position (is_byte y) xs → length xs ≤ position_or_len (is_byte y) xs
found_none y xs = let n = position_or_len (is_byte y) xs in cond_both (nat_lt n (length xs)) (Some n) None (λ o. None ≡ o → length xs ≤ n) (λ h e. cc) (λ h e. ltb-false n (length xs) h)

pub first_part : (y : ℕ) (xs : List ℕ) (i : ℕ) → Some i ≡ position (is_byte y) xs → Lacks y (take i xs) × (xs ≡ take i xs ++ (y ∷ take (length xs - (i + 1)) (drop (i + 1) xs)))
first_part y xs i e =
    let (at, inside) = found_at y xs i e in (
      lacks_before y xs i (omega (arith, at)),
      cut y xs (subst (λ k. k < length xs) (sym at) inside)
          ∙ ap (λ k. take k xs ++ (y ∷ drop (k + 1) xs)) at
          ∙ ap (λ u. take i xs ++ (y ∷ u)) (sym (take_rest xs (i + 1))),
    )

pub no_part_left : (y : ℕ) (xs : List ℕ) → None ≡ position (is_byte y) xs → Lacks y xs
no_part_left y xs e = let past = found_none y xs e in subst (Lacks y) (take_all (length xs) xs (omega arith)) (lacks_before y xs (length xs) past)

-- The parts between bytes of a kind.

fails : (y : ℕ) (xs : List ℕ) → Lacks y xs → All (λ b. is_byte y b ≡ false) xs
fails y [] h zero d inside = absurd (omega arith)
fails y [] h (suc k) d inside = absurd (omega arith)
fails y (x ∷ xs) h zero d inside = ne_eqb x y h.0
fails y (x ∷ xs) h (suc k) d inside = fails y xs h.1 k d (omega arith)

pub split-cut : (y : ℕ) (prefix rest : List ℕ) → Lacks y prefix → slice_split (λ b. b == y) (prefix ++ (y ∷ rest)) ≡ prefix ∷ slice_split (λ b. b == y) rest
split-cut y prefix rest h = slice_split_at (is_byte y) prefix y rest (fails y prefix h) (eq-eqb y y refl)

pub split-last : (y : ℕ) (text : List ℕ) → Lacks y text → slice_split (λ b. b == y) text ≡ text ∷ []
split-last y text h = slice_split_none (is_byte y) text (fails y text h)

-- Lines.

-- A text has one part at least.
pub record HasParts (parts : List (List ℕ)) : Type 0 where
  pub first : List ℕ
  pub others : List (List ℕ)
  pub is : parts ≡ first ∷ others

onto_has : (x : ℕ) (parts : List (List ℕ)) → HasParts (onto_first x parts)
onto_has x [] = record { first = x ∷ []; others = []; is = refl }
onto_has x (part ∷ parts) = record { first = x ∷ part; others = parts; is = refl }

pub has_parts : (text : List ℕ) → HasParts (slice_split (λ b. b == 10) text)
has_parts [] = record { first = []; others = []; is = refl }
has_parts (x ∷ xs) =
    elim (x == 10) as (λ b. HasParts (cond b ([] ∷ slice_split (λ b. b == 10) xs) (onto_first x (slice_split (λ b. b == 10) xs))))
    [ true ↦ record { first = []; others = slice_split (λ b. b == 10) xs; is = refl } | false ↦ onto_has x (slice_split (λ b. b == 10) xs) ]

-- The first line of a text, where LF ends it, and where it is the last.
pub lines-cut : (text prefix rest : List ℕ) → Lacks 10 prefix → text ≡ prefix ++ (10 ∷ rest) → lines text ≡ strip_carriage_return prefix ∷ lines rest
lines-cut text prefix rest h e =
    let some : HasParts (slice_split (λ b. b == 10) rest) = has_parts rest in
    ap lines_of_parts (ap (slice_split (λ b. b == 10)) e ∙ split-cut 10 prefix rest h)
    ∙ ap (λ parts. lines_of_parts (prefix ∷ parts)) some.is
    ∙ ap (λ parts. strip_carriage_return prefix ∷ lines_of_parts parts) (sym some.is)

pub lines-last : (text : List ℕ) → Lacks 10 text → (length text == 0) ≡ false → lines text ≡ text ∷ []
lines-last text h some = ap lines_of_parts (split-last 10 text h) ∙ ap (λ b. cond b [] (text ∷ [])) some

-- Fields.

some_field : (x : ℕ) (xs : List ℕ) (fields : List (List ℕ)) → filter (λ field. nat_lt 0 (length field)) ((x ∷ xs) ∷ fields) ≡ (x ∷ xs) ∷ filter (λ field. nat_lt 0 (length field)) fields
some_field x xs fields = let some : nat_lt 0 (length (x ∷ xs)) ≡ true = grind arith in rw some

-- The first field of a text that begins with no space, where a space ends it, and where it is the last.
pub fields-cut : (text prefix rest : List ℕ) → begins (λ b. b == 32) text ≡ false → Lacks 32 prefix → text ≡ prefix ++ (32 ∷ rest) → fields_of text ≡ prefix ∷ fields_of rest
fields-cut text [] rest n h e = absurd (both_ways (begins (λ b. b == 32) text) n (ap (begins (λ b. b == 32)) e))
fields-cut text (x ∷ xs) rest n h e = ap fields_of e ∙ ap (filter (λ field. nat_lt 0 (length field))) (split-cut 32 (x ∷ xs) rest h) ∙ some_field x xs (parts_of rest)

pub fields-last : (text : List ℕ) → Lacks 32 text → (length text == 0) ≡ false → fields_of text ≡ text ∷ []
fields-last [] h some = cc
fields-last (x ∷ xs) h some = ap (filter (λ field. nat_lt 0 (length field))) (split-last 32 (x ∷ xs) h) ∙ some_field x xs []
