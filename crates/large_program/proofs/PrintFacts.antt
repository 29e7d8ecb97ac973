-- What is printed of a large program can be written, spells it, and is short.
use Rattle.std.proofs.Common.{◌≡◌, ℕ, zero, suc, ◌+◌, ◌*◌, ◌%◌, ◌==◌, ◌<◌, ◌≤◌, nat_le, Bool, true, false, ◌&&◌, if◌then◌else◌, List, [], ◌∷◌, ◌++◌, length, map, codes, refl, arith, length-append}
use Rattle.std.specs.Fmt.{digits}
use Rattle.std.specs.List.{AllByRecursion, flat_map, list_all, range_with_len}
use Rattle.std.proofs.lemmas.Bool.{agree_below_at, and_from, and_parts, leb-true}
use Rattle.frp_tree.specs.declared.limits.TheConstants.{LONGEST_SOURCE}
use Rattle.frp_tree.specs.declared.marks.TheConstants as mark
use Rattle.frp_tree.specs.declared.syntax.Ty.TheVariants as ty
use Rattle.frp_tree.specs.declared.syntax.Lit.TheVariants as lit
use Rattle.frp_tree.specs.declared.tokens.Token.{Token}
use Rattle.frp_tree.specs.declared.tokens.Token.TheVariants.{Word, Num, Wide, Mark}
use Rattle.frp_tree.specs.Names.{type_name}
use Rattle.frp_tree.specs.Tokens.{IsWithin}
use Rattle.frp_tree.specs.Cells.{literal_token}
use Rattle.frp_tree.specs.Printed.{bare, clause_tokens, decl_item, event_item, output_item, later_tokens, items, spelling, spaced, line, printed, printed_tokens}
use Rattle.frp_tree.proofs.SpacedLaws.{is_writable, writable_within, AreWritable, lines_cut}
use Rattle.pic_isa.specs.Sources.{sources}
use Rattle.large_program.specs.Draws.{after_draws, draw}
use Rattle.large_program.specs.LargePrograms.{event_name, definition_name, event_on, type_of, literal_for, partner, expression, clause, first_event, second_event, definition, nth_definition, port_shown, large_program}
use Rattle.large_program.specs.Laws.{PrintsWell}
use Rattle.large_program.proofs.PassFacts.{by_form, partner_below, first_below, second_below}
use Rattle.large_program.proofs.SpelledFacts.{has_tree}

-- Tokens that can be written and take at most 20 bytes each, at most so many.
abbrev is_good : Token → Bool
is_good t = is_writable t && nat_le (length (spelling t)) 20

record Good (most : ℕ) (ts : List Token) : Type 0 where
  pub each : list_all is_good ts ≡ true
  pub few : length ts ≤ most

good_append : {a b : ℕ} {v w : List Token} → Good a v → Good b w → Good (a + b) (v ++ w)
good_append {v = v} {w = w} h k = record { each = each_of v w h.each k.each; few = omega (arith, length-append v w, h.few, k.few) }
  where
    each_of : (v w : List Token) → list_all is_good v ≡ true → list_all is_good w ≡ true → list_all is_good (v ++ w) ≡ true
    each_of [] w x y = y
    each_of (t ∷ v) w x y = let parts = and_parts (is_good t) (list_all is_good v) x in and_from (is_good t) (list_all is_good (v ++ w)) parts.0 (each_of v w parts.1 y)

good_end : Good 0 []
good_end = record { each = refl; few = omega arith }

behind : {n : ℕ} {ts : List Token} (t : Token) → is_good t ≡ true → Good n ts → Good (suc n) (t ∷ ts)
behind {ts = ts} t h k = record { each = and_from (is_good t) (list_all is_good ts) h k.each; few = omega (arith, k.few) }

within : {n m : ℕ} {ts : List Token} → n ≤ m → Good n ts → Good m ts
within h k = record { each = k.each; few = omega (arith, h, k.few) }

-- Names and literals.
good_definition : (i : ℕ) → i < 12 → is_good (Word (definition_name i)) ≡ true
unfolding digits
good_definition i below = agree_below_at (λ k. is_good (Word (definition_name k))) (λ k. true) 12 i refl below

good_event : (a : ℕ) → a < 11 → is_good (Word (event_name a)) ≡ true
unfolding digits
good_event a below = agree_below_at (λ k. is_good (Word (event_name k))) (λ k. true) 11 a refl below

good_number : (k : ℕ) → k < 200 → is_good (Num k) ≡ true
unfolding digits
good_number k below = agree_below_at (λ k. is_good (Num k)) (λ k. true) 200 k refl below

good_wide : (k : ℕ) → k < 200 → is_good (Wide k) ≡ true
unfolding digits
good_wide k below = agree_below_at (λ k. is_good (Wide k)) (λ k. true) 200 k refl below

good_literal : (i k : ℕ) → k < 200 → is_good (literal_token (literal_for i k)) ≡ true
good_literal i k below = by (i % 2 == 0)
  where
    by : (b : Bool) → is_good (literal_token (if b then lit.Plain k else lit.Wide k)) ≡ true
    by true = good_number k below
    by false = good_wide k below

good_type : (i : ℕ) → is_good (Word (type_name (type_of i))) ≡ true
good_type i = by (i % 2 == 0)
  where
    by : (b : Bool) → is_good (Word (type_name (if b then ty.U8 else ty.U16))) ≡ true
    by true = refl
    by false = refl

-- Expressions, clauses and definitions.
good_expression : (i form k : ℕ) → i < 12 → k < 200 → Good 8 (bare (expression i form k))
good_expression i form k below small =
    let own = good_definition i below in
    let other = good_definition (partner i) (partner_below i below) in
    let number = good_literal i k small in
    let v = Word (definition_name i) in
    let u = Word (definition_name (partner i)) in
    let l = literal_token (literal_for i k) in
    by_form (λ e. Good 8 (bare e)) i form k
    (within (omega arith) (behind v own (behind (Mark mark.PLUS) refl (behind l number good_end))))
    (within (omega arith) (behind v own (behind (Mark mark.BIT_XOR) refl (behind u other good_end))))
    (within (omega arith) (behind v own (behind (Mark mark.MINUS) refl (behind l number good_end))))
    (within (omega arith) (behind (Word (codes "if")) refl (behind v own (behind (Mark mark.LESS) refl (behind l number (behind (Word (codes "then")) refl (behind u other (behind (Word (codes "else")) refl (behind l number good_end)))))))))

good_clause : (i event s : ℕ) → i < 12 → event < 11 → Good 12 (clause_tokens (clause i event s))
good_clause i event s below few =
    behind (Word (event_name event)) (good_event event few) (behind (Mark mark.ARROW) refl
    (good_append (good_expression i (draw s 1 4) (draw s 2 200) below (omega arith)) (ended (draw s 3 2 == 1))))
  where
    ended : (b : Bool) → Good 2 (later_tokens b ++ Mark mark.SEMICOLON ∷ [])
    ended true = record { each = refl; few = omega arith }
    ended false = record { each = refl; few = omega arith }

good_decl : (i s : ℕ) → i < 12 → Good 40 (decl_item (definition i s))
good_decl i s below =
    let c = good_clause i (first_event s) (after_draws 2 s) below (first_below s) in
    let d = good_clause i (second_event s) (after_draws 5 s) below (second_below s) in
    within (omega arith)
    (behind (Word (codes "let")) refl (behind (Word (definition_name i)) (good_definition i below) (behind (Mark mark.COLON) refl (behind (Word (type_name (type_of i))) (good_type i) (behind (Mark mark.EQUALS) refl
    (behind (Word (codes "init")) refl (behind (literal_token (literal_for i i)) (good_literal i i (omega (arith, below))) (behind (Word (codes "in")) refl (behind (Mark mark.OPENING_BRACE) refl
    (good_append (good_append c (good_append d good_end)) (behind (Mark mark.CLOSING_BRACE) refl good_end)))))))))))

-- Rows of items, each of at most 40 tokens.
abbrev AreGood : List (List Token) → Type 0
AreGood rows = AllByRecursion (Good 40) rows

rows_append : (v w : List (List Token)) → AreGood v → AreGood w → AreGood (v ++ w)
rows_append [] w h k = k
rows_append (item ∷ v) w h k = (h.0, rows_append v w h.1 k)

decl_rows : (n a count : ℕ) → a + count ≤ 12 → AreGood (map decl_item (map (nth_definition n) (range_with_len a count)))
decl_rows n a zero below = tt
decl_rows n a (suc count) below = (good_decl a (after_draws (8 * a) n) (omega (arith, below)), decl_rows n (a + 1) count (omega (arith, below)))

by_tests : (rows : List (List Token)) → list_all (λ item. list_all is_good item && nat_le (length item) 40) rows ≡ true → AreGood rows
by_tests [] h = tt
by_tests (item ∷ rows) h =
    let parts = and_parts (list_all is_good item && nat_le (length item) 40) (list_all (λ i. list_all is_good i && nat_le (length i) 40) rows) h in
    let both = and_parts (list_all is_good item) (nat_le (length item) 40) parts.0 in
    (record { each = both.0; few = leb-true (length item) 40 both.1 }, by_tests rows parts.1)

event_rows : AreGood (map event_item (map event_on sources))
unfolding digits
event_rows = by_tests (map event_item (map event_on sources)) refl

output_rows : AreGood (map output_item (port_shown ∷ []))
unfolding digits
output_rows = by_tests (map output_item (port_shown ∷ [])) refl

all_rows : (n : ℕ) → AreGood (items (large_program n))
all_rows n = rows_append (map event_item (map event_on sources)) (map decl_item (large_program n).decls ++ map output_item (port_shown ∷ [])) event_rows
    (rows_append (map decl_item (large_program n).decls) (map output_item (port_shown ∷ [])) (decl_rows n 0 12 (omega arith)) output_rows)

-- They can be written, and are within the limits.
writable : (ts : List Token) → list_all is_good ts ≡ true → AreWritable ts
writable [] h = tt
writable (t ∷ ts) h =
    let parts = and_parts (is_good t) (list_all is_good ts) h in
    ((and_parts (is_writable t) (nat_le (length (spelling t)) 20) parts.0).0, writable ts parts.1)

rows_writable : (rows : List (List Token)) → AreGood rows → AllByRecursion AreWritable rows
rows_writable [] h = tt
rows_writable (item ∷ rows) h = (writable item h.0.each, rows_writable rows h.1)

within_append : (ts us : List Token) → AreWritable ts → AllByRecursion IsWithin us → AllByRecursion IsWithin ((ts ++ Mark mark.SEMICOLON ∷ []) ++ us)
within_append [] us h k = (tt, k)
within_append (t ∷ ts) us h k = (writable_within t h.0, within_append ts us h.1 k)

rows_within : (rows : List (List Token)) → AllByRecursion AreWritable rows → AllByRecursion IsWithin (flat_map (λ item. item ++ Mark mark.SEMICOLON ∷ []) rows)
rows_within [] h = tt
rows_within (item ∷ rows) h = within_append item (flat_map (λ i. i ++ Mark mark.SEMICOLON ∷ []) rows) h.0 (rows_within rows h.1)

-- A token takes at most 21 bytes with its space, and a line at most 842.
spaced_short : (ts : List Token) → list_all is_good ts ≡ true → length (spaced ts) ≤ 21 * length ts
spaced_short [] h = omega arith
spaced_short (t ∷ ts) h =
    let parts = and_parts (is_good t) (list_all is_good ts) h in
    let short = leb-true (length (spelling t)) 20 (and_parts (is_writable t) (nat_le (length (spelling t)) 20) parts.0).1 in
    omega (arith, short, spaced_short ts parts.1, length-append (spelling t ++ codes " ") (spaced ts), length-append (spelling t) (codes " "))

rows_short : (rows : List (List Token)) → AreGood rows → length (flat_map line rows) ≤ 842 * length rows
rows_short [] h = omega arith
rows_short (item ∷ rows) h =
    let few = h.0.few in
    omega (arith, few, spaced_short item h.0.each, rows_short rows h.1, length-append (line item) (flat_map line rows), length-append (spaced item) (codes ";\n"))

short : (n : ℕ) → length (printed (large_program n)) ≤ LONGEST_SOURCE
short n = let least = rows_short (items (large_program n)) (all_rows n) in omega (arith, least)

pub prints : (n : ℕ) → PrintsWell n
prints n =
    let good = rows_writable (items (large_program n)) (all_rows n) in
    record {
      spells = record {
        tokens = printed_tokens (large_program n);
        cut = (short n, false, lines_cut (items (large_program n)) good, rows_within (items (large_program n)) good);
        tree = has_tree n;
      };
      short = short n;
    }
