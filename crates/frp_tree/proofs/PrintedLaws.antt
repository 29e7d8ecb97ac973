-- Laws on what is printed of an expression: it spells the expression, and is no worse than anything else that does.
use Rattle.std.proofs.Common.{◌≡◌, ℕ, suc, ◌+◌, ◌≤◌, Bool, true, false, List, [], ◌∷◌, ◌++◌, length, codes, if◌then◌else◌, refl, sym, ap, subst, ◌∙◌, arith}
use Rattle.std.specs.List.{AllByRecursion}
use Rattle.std.proofs.lemmas.Bool.{ltb-true, ltb-false, le-ltb}
use Rattle.std.proofs.lemmas.List.{map-append, length-append}
use Rattle.std.proofs.lemmas.List.Sums.{sum_by-append}
use Rattle.frp_tree.specs.declared.kinds.Kind.{Kind}
use Rattle.frp_tree.specs.declared.levels.Level.{Level}
use Rattle.frp_tree.specs.declared.levels.Level.TheVariants as level
use Rattle.frp_tree.specs.declared.marks.TheConstants as mark
use Rattle.frp_tree.specs.declared.syntax.BinOp.{BinOp}
use Rattle.frp_tree.specs.declared.tokens.Token.{Token}
use Rattle.frp_tree.specs.declared.tokens.Token.TheVariants.{Word, Num, Mark}
use Rattle.frp_tree.specs.Names.{type_name}
use Rattle.frp_tree.specs.Tree.{Tree, Const, Name, Unary, Binary, Shift, If, Convert, Look}
use Rattle.frp_tree.specs.Levels.{height, tighter, repeats, level_of, mark_of, mark_of_shift, mark_of_sign}
use Rattle.frp_tree.specs.Cells.{Cell, plain, node, opening_node, opening, tokens_of, literal_token, count_of}
use Rattle.frp_tree.specs.Grammar.{word, sign, SpellsExpr, literal, named, looked, brackets, signed, converted, chosen, shifted, joined, compared, alone}
use Rattle.frp_tree.specs.Printed.{own, needs, wrapped, left_level, bare}
use Rattle.frp_tree.proofs.LevelLaws.{loosen, tighter_height, height_at_most}

-- The cells of what is printed, at a nesting.

abbrev pub wrapped_cells : Bool → (ℕ → List Cell) → ℕ → List Cell
wrapped_cells true cells d = opening (suc d) (Mark mark.OPENING_PARENTHESIS) ∷ (cells (suc d) ++ sign mark.CLOSING_PARENTHESIS ∷ [])
wrapped_cells false cells d = cells d

abbrev pub bare_cells : Tree → ℕ → List Cell
bare_cells (Const l) d = node (literal_token l) ∷ []
bare_cells (Name x) d = node (Word x) ∷ []
bare_cells (Unary op a) d = opening_node (suc d) (Mark (mark_of_sign op)) ∷ wrapped_cells (needs level.Operand a) (bare_cells a) (suc d)
bare_cells (Binary op a b) d = wrapped_cells (needs (left_level (level_of op)) a) (bare_cells a) d ++ node (Mark (mark_of op)) ∷ wrapped_cells (needs (tighter (level_of op)) b) (bare_cells b) d
bare_cells (Shift side a n) d = wrapped_cells (needs level.Shift a) (bare_cells a) d ++ node (Mark (mark_of_shift side)) ∷ plain (Num n) ∷ []
bare_cells (If c a b) d = opening_node (suc d) (Word (codes "if")) ∷ (bare_cells c (suc d) ++ word (codes "then") ∷ (bare_cells a (suc d) ++ word (codes "else") ∷ bare_cells b (suc d)))
bare_cells (Convert to a) d = opening_node (suc d) (Word (type_name to)) ∷ sign mark.OPENING_PARENTHESIS ∷ (bare_cells a (suc d) ++ sign mark.CLOSING_PARENTHESIS ∷ [])
bare_cells (Look x e) d = node (Word x) ∷ opening (suc d) (Mark mark.OPENING_BRACKET) ∷ (bare_cells e (suc d) ++ sign mark.CLOSING_BRACKET ∷ [])

abbrev pub shown_cells : Level → Tree → ℕ → List Cell
shown_cells l e d = wrapped_cells (needs l e) (bare_cells e) d

-- Their tokens are those printed.

pub tokens_append : (v w : List Cell) → tokens_of (v ++ w) ≡ tokens_of v ++ tokens_of w
tokens_append v w = map-append (λ (c : Cell). c.token) v w

pub tokens_join : (v w : List Cell) (ts us : List Token) → tokens_of v ≡ ts → tokens_of w ≡ us → tokens_of (v ++ w) ≡ ts ++ us
tokens_join v w ts us e f = tokens_append v w ∙ ap (λ x. x ++ tokens_of w) e ∙ ap (λ x. ts ++ x) f

wrapped_tokens : (b : Bool) (cells : ℕ → List Cell) (ts : List Token) → ((d : ℕ) → tokens_of (cells d) ≡ ts) → (d : ℕ) → tokens_of (wrapped_cells b cells d) ≡ wrapped b ts
wrapped_tokens true cells ts h d = ap (λ x. Mark mark.OPENING_PARENTHESIS ∷ x) (tokens_join (cells (suc d)) (sign mark.CLOSING_PARENTHESIS ∷ []) ts (Mark mark.CLOSING_PARENTHESIS ∷ []) (h (suc d)) refl)
wrapped_tokens false cells ts h d = h d

pub bare_tokens : (e : Tree) (d : ℕ) → tokens_of (bare_cells e d) ≡ bare e
bare_tokens (Const l) d = refl
bare_tokens (Name x) d = refl
bare_tokens (Unary op a) d = ap (λ x. Mark (mark_of_sign op) ∷ x) (wrapped_tokens (needs level.Operand a) (bare_cells a) (bare a) (bare_tokens a) (suc d))
bare_tokens (Binary op a b) d = tokens_join _ _ _ _ (wrapped_tokens (needs (left_level (level_of op)) a) (bare_cells a) (bare a) (bare_tokens a) d)
    (ap (λ x. Mark (mark_of op) ∷ x) (wrapped_tokens (needs (tighter (level_of op)) b) (bare_cells b) (bare b) (bare_tokens b) d))
bare_tokens (Shift side a n) d = tokens_join _ (node (Mark (mark_of_shift side)) ∷ plain (Num n) ∷ []) _ (Mark (mark_of_shift side) ∷ Num n ∷ []) (wrapped_tokens (needs level.Shift a) (bare_cells a) (bare a) (bare_tokens a) d) refl
bare_tokens (If c a b) d = ap (λ x. Word (codes "if") ∷ x) (tokens_join _ _ _ _ (bare_tokens c (suc d)) (ap (λ x. Word (codes "then") ∷ x) (tokens_join _ _ _ _ (bare_tokens a (suc d)) (ap (λ x. Word (codes "else") ∷ x) (bare_tokens b (suc d))))))
bare_tokens (Convert to a) d = ap (λ x. Word (type_name to) ∷ Mark mark.OPENING_PARENTHESIS ∷ x) (tokens_join (bare_cells a (suc d)) (sign mark.CLOSING_PARENTHESIS ∷ []) (bare a) (Mark mark.CLOSING_PARENTHESIS ∷ []) (bare_tokens a (suc d)) refl)
bare_tokens (Look x e) d = ap (λ y. Word x ∷ Mark mark.OPENING_BRACKET ∷ y) (tokens_join (bare_cells e (suc d)) (sign mark.CLOSING_BRACKET ∷ []) (bare e) (Mark mark.CLOSING_BRACKET ∷ []) (bare_tokens e (suc d)) refl)

-- They spell the expression, if anything does.

abbrev SpelledBare : Tree → Type 0
SpelledBare e = (d : ℕ) → SpellsExpr (own e) d e (bare_cells e d)

wrapped_spelled : (b : Bool) (l : Level) (e : Tree) (d : ℕ) → needs l e ≡ b → SpelledBare e → SpellsExpr l d e (wrapped_cells b (bare_cells e) d)
wrapped_spelled true l e d n h = loosen l level.Operand (height_at_most l) (brackets (bare_cells e (suc d)) (loosen level.Whole (own e) (omega arith) (h (suc d))))
wrapped_spelled false l e d n h = loosen l (own e) (ltb-false (height (own e)) (height l) n) (h d)

shown_spelled : (l : Level) (e : Tree) (d : ℕ) → SpelledBare e → SpellsExpr l d e (shown_cells l e d)
shown_spelled l e d h = wrapped_spelled (needs l e) l e d refl h

pub whole_spelled : (e : Tree) (d : ℕ) → SpelledBare e → SpellsExpr level.Whole d e (bare_cells e d)
whole_spelled e d h = loosen level.Whole (own e) (omega arith) (h d)

left_of : (r : Bool) (l : Level) → repeats l ≡ r → left_level l ≡ (if r then l else tighter l)
left_of r l e = ap (λ x. if x then l else tighter l) e

-- An operator's cells, whether its level repeats or not.
binary_spelled : (op : BinOp) (a b : Tree) (r : Bool) (d : ℕ) → repeats (level_of op) ≡ r → SpelledBare a → SpelledBare b → SpellsExpr (level_of op) d (Binary op a b) (bare_cells (Binary op a b) d)
binary_spelled op a b true d r h k = joined (shown_cells (left_level (level_of op)) a d) (shown_cells (tighter (level_of op)) b d) refl r
    (subst (λ l. SpellsExpr l d a (shown_cells (left_level (level_of op)) a d)) (left_of true (level_of op) r) (shown_spelled (left_level (level_of op)) a d h)) (shown_spelled (tighter (level_of op)) b d k)
binary_spelled op a b false d r h k = compared (shown_cells (left_level (level_of op)) a d) (shown_cells (tighter (level_of op)) b d) refl r
    (subst (λ l. SpellsExpr l d a (shown_cells (left_level (level_of op)) a d)) (left_of false (level_of op) r) (shown_spelled (left_level (level_of op)) a d h)) (shown_spelled (tighter (level_of op)) b d k)

pub bare_spelled : {l : Level} {d : ℕ} {e : Tree} {w : List Cell} → SpellsExpr l d e w → SpelledBare e
bare_spelled literal n = literal
bare_spelled (named x) n = named x
bare_spelled (looked {e = e} ts x s) n = looked (bare_cells e (suc n)) x (whole_spelled e (suc n) (bare_spelled s))
bare_spelled (brackets ts s) n = bare_spelled s n
bare_spelled (signed {e = e} ts s) n = signed (shown_cells level.Operand e (suc n)) (shown_spelled level.Operand e (suc n) (bare_spelled s))
bare_spelled (converted {e = e} ts t s) n = converted (bare_cells e (suc n)) t (whole_spelled e (suc n) (bare_spelled s))
bare_spelled (chosen {c = c} {a = a} {b = b} ts us vs s t u) n = chosen (bare_cells c (suc n)) (bare_cells a (suc n)) (bare_cells b (suc n)) (whole_spelled c (suc n) (bare_spelled s)) (whole_spelled a (suc n) (bare_spelled t)) (whole_spelled b (suc n) (bare_spelled u))
bare_spelled (shifted {e = e} ts s) n = shifted (shown_cells level.Shift e n) (shown_spelled level.Shift e n (bare_spelled s))
bare_spelled (joined {op = op} {a = a} {b = b} ts us o r s t) n = binary_spelled op a b (repeats (level_of op)) n refl (bare_spelled s) (bare_spelled t)
bare_spelled (compared {op = op} {a = a} {b = b} ts us o r s t) n = binary_spelled op a b (repeats (level_of op)) n refl (bare_spelled s) (bare_spelled t)
bare_spelled (alone o s) n = bare_spelled s n

abbrev pub OpensAtMost : ℕ → Cell → Type 0
OpensAtMost n c = c.opens ≤ n

abbrev pub EntryAtMost : ℕ → Cell → Type 0
EntryAtMost n c = c.entry ≤ n

abbrev pub Passes : (Token → Bool) → Cell → Type 0
Passes p c = p c.token ≡ true

-- The second cells nest no deeper than the first, begin as many of each kind, number no entry higher, and aren't more; and
-- their tokens are among those of the first.
pub record NoWorse (w v : List Cell) : Type 0 where
  pub shallow : (n : ℕ) → AllByRecursion (OpensAtMost n) w → AllByRecursion (OpensAtMost n) v
  pub counts : (kind : Kind) → count_of kind v ≡ count_of kind w
  pub short : (n : ℕ) → AllByRecursion (EntryAtMost n) w → AllByRecursion (EntryAtMost n) v
  pub kept : (p : Token → Bool) → AllByRecursion (Passes p) w → AllByRecursion (Passes p) v
  pub fewer : length v ≤ length w

pub all_append : (P : Cell → Type 0) (v w : List Cell) → AllByRecursion P v → AllByRecursion P w → AllByRecursion P (v ++ w)
all_append P [] w h k = k
all_append P (c ∷ v) w h k = (h.0, all_append P v w h.1 k)

pub all_front : (P : Cell → Type 0) (v w : List Cell) → AllByRecursion P (v ++ w) → AllByRecursion P v
all_front P [] w h = tt
all_front P (c ∷ v) w h = (h.0, all_front P v w h.1)

pub all_back : (P : Cell → Type 0) (v w : List Cell) → AllByRecursion P (v ++ w) → AllByRecursion P w
all_back P [] w h = h
all_back P (c ∷ v) w h = all_back P v w h.1

pub count_append : (kind : Kind) (v w : List Cell) → count_of kind (v ++ w) ≡ count_of kind v + count_of kind w
count_append kind v w = sum_by-append _ v w

pub same_cells : (w : List Cell) → NoWorse w w
same_cells w = record { shallow = λ n h. h; counts = λ kind. refl; short = λ n h. h; kept = λ p h. h; fewer = omega arith }

pub no_worse_then : {u v w : List Cell} → NoWorse u v → NoWorse v w → NoWorse u w
no_worse_then h k = record { shallow = λ n x. k.shallow n (h.shallow n x); counts = λ kind. k.counts kind ∙ h.counts kind; short = λ n x. k.short n (h.short n x); kept = λ p x. k.kept p (h.kept p x); fewer = omega (arith, h.fewer, k.fewer) }

pub no_worse_append : {v w x y : List Cell} → NoWorse v x → NoWorse w y → NoWorse (v ++ w) (x ++ y)
no_worse_append {v = v} {w = w} {x = x} {y = y} h k = record {
  shallow = λ n a. all_append (OpensAtMost n) x y (h.shallow n (all_front (OpensAtMost n) v w a)) (k.shallow n (all_back (OpensAtMost n) v w a));
  counts = λ kind. count_append kind x y ∙ ap (λ m. m + count_of kind y) (h.counts kind) ∙ ap (λ m. count_of kind v + m) (k.counts kind) ∙ sym (count_append kind v w);
  short = λ n a. all_append (EntryAtMost n) x y (h.short n (all_front (EntryAtMost n) v w a)) (k.short n (all_back (EntryAtMost n) v w a));
  kept = λ p a. all_append (Passes p) x y (h.kept p (all_front (Passes p) v w a)) (k.kept p (all_back (Passes p) v w a));
  fewer = omega (arith, length-append x y, length-append v w, h.fewer, k.fewer);
}

pub no_worse_behind : {w y : List Cell} (v : List Cell) → NoWorse w y → NoWorse (v ++ w) (v ++ y)
no_worse_behind v h = no_worse_append (same_cells v) h

pub no_worse_before : {v x : List Cell} (w : List Cell) → NoWorse v x → NoWorse (v ++ w) (x ++ w)
no_worse_before w h = no_worse_append h (same_cells w)

-- One nesting less is no worse.

lower_node : (d : ℕ) (t : Token) → NoWorse (opening_node (suc d) t ∷ []) (opening_node d t ∷ [])
lower_node d t = record { shallow = λ n h. let k = h.0 in (omega arith, tt); counts = λ kind. refl; short = λ n h. h; kept = λ p h. h; fewer = omega arith }

lower : (d : ℕ) (t : Token) → NoWorse (opening (suc d) t ∷ []) (opening d t ∷ [])
lower d t = record { shallow = λ n h. let k = h.0 in (omega arith, tt); counts = λ kind. refl; short = λ n h. h; kept = λ p h. h; fewer = omega arith }

-- Nor is what stands in brackets.
unwrapped : (d : ℕ) (w : List Cell) → NoWorse (wrapped_cells true (λ n. w) d) w
unwrapped d w = record {
  shallow = λ n h. all_front (OpensAtMost n) w (sign mark.CLOSING_PARENTHESIS ∷ []) h.1;
  counts = λ kind. omega (arith, count_append kind w (sign mark.CLOSING_PARENTHESIS ∷ []));
  short = λ n h. all_front (EntryAtMost n) w (sign mark.CLOSING_PARENTHESIS ∷ []) h.1;
  kept = λ p h. all_front (Passes p) w (sign mark.CLOSING_PARENTHESIS ∷ []) h.1;
  fewer = omega (arith, length-append w (sign mark.CLOSING_PARENTHESIS ∷ []));
}

wrapped_higher : (b : Bool) (cells : ℕ → List Cell) → ((d : ℕ) → NoWorse (cells (suc d)) (cells d)) → (d : ℕ) → NoWorse (wrapped_cells b cells (suc d)) (wrapped_cells b cells d)
wrapped_higher true cells h d = no_worse_append (lower (suc d) (Mark mark.OPENING_PARENTHESIS)) (no_worse_before (sign mark.CLOSING_PARENTHESIS ∷ []) (h (suc d)))
wrapped_higher false cells h d = h d

pub higher : (e : Tree) (d : ℕ) → NoWorse (bare_cells e (suc d)) (bare_cells e d)
higher (Const l) d = same_cells _
higher (Name x) d = same_cells _
higher (Unary op a) d = no_worse_append (lower_node (suc d) (Mark (mark_of_sign op))) (wrapped_higher (needs level.Operand a) (bare_cells a) (higher a) (suc d))
higher (Binary op a b) d = no_worse_append (wrapped_higher (needs (left_level (level_of op)) a) (bare_cells a) (higher a) d)
    (no_worse_behind (node (Mark (mark_of op)) ∷ []) (wrapped_higher (needs (tighter (level_of op)) b) (bare_cells b) (higher b) d))
higher (Shift side a n) d = no_worse_before (node (Mark (mark_of_shift side)) ∷ plain (Num n) ∷ []) (wrapped_higher (needs level.Shift a) (bare_cells a) (higher a) d)
higher (If c a b) d = no_worse_append (lower_node (suc d) (Word (codes "if"))) (no_worse_append (higher c (suc d)) (no_worse_behind (word (codes "then") ∷ []) (no_worse_append (higher a (suc d)) (no_worse_behind (word (codes "else") ∷ []) (higher b (suc d))))))
higher (Convert to a) d = no_worse_append (lower_node (suc d) (Word (type_name to))) (no_worse_behind (sign mark.OPENING_PARENTHESIS ∷ []) (no_worse_before (sign mark.CLOSING_PARENTHESIS ∷ []) (higher a (suc d))))
higher (Look x e) d = no_worse_behind (node (Word x) ∷ []) (no_worse_append (lower (suc d) (Mark mark.OPENING_BRACKET)) (no_worse_before (sign mark.CLOSING_BRACKET ∷ []) (higher e (suc d))))

-- Where a looser level stands, what is printed is no worse.
looser_by : (b c : Bool) (l m : Level) (e : Tree) (d : ℕ) → needs m e ≡ b → needs l e ≡ c → height l ≤ height m → NoWorse (wrapped_cells b (bare_cells e) d) (wrapped_cells c (bare_cells e) d)
looser_by true true l m e d x y h = same_cells _
looser_by false false l m e d x y h = same_cells _
looser_by true false l m e d x y h = no_worse_then (unwrapped d (bare_cells e (suc d))) (higher e d)
looser_by false true l m e d x y h = absurd (omega (arith, ltb-false (height (own e)) (height m) x, ltb-true (height (own e)) (height l) y))

-- Brackets that stand are kept or left out.
maybe : (b : Bool) (e : Tree) (d : ℕ) → NoWorse (wrapped_cells true (bare_cells e) d) (wrapped_cells b (bare_cells e) d)
maybe true e d = same_cells _
maybe false e d = no_worse_then (unwrapped d (bare_cells e (suc d))) (higher e d)

looser : (l m : Level) (e : Tree) (d : ℕ) → height l ≤ height m → NoWorse (shown_cells m e d) (shown_cells l e d)
looser l m e d h = looser_by (needs m e) (needs l e) l m e d refl refl h

-- Where an expression is whole, or of its own level, it has no brackets.
unneeded : (l : Level) (e : Tree) (d : ℕ) → height l ≤ height (own e) → shown_cells l e d ≡ bare_cells e d
unneeded l e d h = ap (λ b. wrapped_cells b (bare_cells e) d) (le-ltb (height (own e)) (height l) h)

pub whole_bare : (w : List Cell) (e : Tree) (d : ℕ) → NoWorse w (shown_cells level.Whole e d) → NoWorse w (bare_cells e d)
whole_bare w e d h = subst (NoWorse w) (unneeded level.Whole e d (omega arith)) h

binary_no_worse : (l : Level) (op : BinOp) (a b : Tree) (d : ℕ) (ts us : List Cell) → level_of op ≡ l → NoWorse ts (shown_cells (left_level l) a d) → NoWorse us (shown_cells (tighter l) b d) → NoWorse (ts ++ node (Mark (mark_of op)) ∷ us) (shown_cells l (Binary op a b) d)
binary_no_worse l op a b d ts us o h k = subst (λ x. NoWorse (ts ++ node (Mark (mark_of op)) ∷ us) (shown_cells x (Binary op a b) d)) o
    (subst (NoWorse (ts ++ node (Mark (mark_of op)) ∷ us)) (sym (unneeded (level_of op) (Binary op a b) d (omega arith)))
    (no_worse_append (subst (λ x. NoWorse ts (shown_cells (left_level x) a d)) (sym o) h) (no_worse_behind (node (Mark (mark_of op)) ∷ []) (subst (λ x. NoWorse us (shown_cells (tighter x) b d)) (sym o) k))))

pub no_worse : {l : Level} {d : ℕ} {e : Tree} {w : List Cell} → SpellsExpr l d e w → NoWorse w (shown_cells l e d)
no_worse literal = same_cells _
no_worse (named x) = same_cells _
no_worse (looked {d = d} {x = x} {e = e} ts k s) = no_worse_behind (node (Word x) ∷ opening (suc d) (Mark mark.OPENING_BRACKET) ∷ []) (no_worse_before (sign mark.CLOSING_BRACKET ∷ []) (whole_bare ts e (suc d) (no_worse s)))
no_worse (brackets {d = d} {e = e} ts s) = no_worse_then (no_worse_behind (opening (suc d) (Mark mark.OPENING_PARENTHESIS) ∷ []) (no_worse_before (sign mark.CLOSING_PARENTHESIS ∷ []) (whole_bare ts e (suc d) (no_worse s))))
    (maybe (needs level.Operand e) e d)
no_worse (signed {d = d} {op = op} {e = e} ts s) = no_worse_behind (opening_node (suc d) (Mark (mark_of_sign op)) ∷ []) (no_worse s)
no_worse (converted {d = d} {to = to} {e = e} ts t s) = no_worse_behind (opening_node (suc d) (Word (type_name to)) ∷ sign mark.OPENING_PARENTHESIS ∷ []) (no_worse_before (sign mark.CLOSING_PARENTHESIS ∷ []) (whole_bare ts e (suc d) (no_worse s)))
no_worse (chosen {d = d} {c = c} {a = a} {b = b} ts us vs s t u) = no_worse_behind (opening_node (suc d) (Word (codes "if")) ∷ []) (no_worse_append (whole_bare ts c (suc d) (no_worse s))
    (no_worse_behind (word (codes "then") ∷ []) (no_worse_append (whole_bare us a (suc d) (no_worse t)) (no_worse_behind (word (codes "else") ∷ []) (whole_bare vs b (suc d) (no_worse u))))))
no_worse (shifted {d = d} {side = side} {e = e} {n = n} ts s) = no_worse_before (node (Mark (mark_of_shift side)) ∷ plain (Num n) ∷ []) (no_worse s)
no_worse (joined {l = l} {d = d} {op = op} {a = a} {b = b} ts us o r s t) = binary_no_worse l op a b d ts us o (subst (λ x. NoWorse ts (shown_cells x a d)) (sym (left_of true l r)) (no_worse s)) (no_worse t)
no_worse (compared {l = l} {d = d} {op = op} {a = a} {b = b} ts us o r s t) = binary_no_worse l op a b d ts us o (subst (λ x. NoWorse ts (shown_cells x a d)) (sym (left_of false l r)) (no_worse s)) (no_worse t)
no_worse (alone {l = l} {d = d} {e = e} o s) = no_worse_then (no_worse s) (looser l (tighter l) e d (omega (arith, tighter_height l o)))
