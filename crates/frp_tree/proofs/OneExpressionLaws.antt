-- Tokens begin one expression at most, where neither end is followed by what could go on with it.
use Rattle.std.proofs.Common.{◌≡◌, ℕ, suc, ◌+◌, ◌-◌, ◌≤◌, Bool, true, false, ◌||◌, ◌==◌, if◌then◌else◌, List, [], ◌∷◌, ◌++◌, get_or, codes, Option, Some, None, refl, sym, ap, subst, ◌∙◌, arith}
use Rattle.std.specs.Str.{bytes_eq}
use Rattle.std.proofs.lemmas.Bool.{false≢true}
use Rattle.std.proofs.lemmas.List.{append_assoc, append_cancel_left}
use Rattle.frp_tree.specs.declared.syntax.Ty.{Ty}
use Rattle.frp_tree.specs.declared.syntax.Ty.TheVariants as ty
use Rattle.frp_tree.specs.declared.syntax.Lit.{Lit}
use Rattle.frp_tree.specs.declared.syntax.Lit.TheVariants as lit
use Rattle.frp_tree.specs.declared.syntax.UnOp.{UnOp}
use Rattle.frp_tree.specs.declared.syntax.UnOp.TheVariants.{Com, Not}
use Rattle.frp_tree.specs.declared.syntax.BinOp.{BinOp}
use Rattle.frp_tree.specs.declared.syntax.BinOp.TheVariants as binary
use Rattle.frp_tree.specs.declared.syntax.Side.{Side}
use Rattle.frp_tree.specs.declared.syntax.Side.TheVariants.{Left, Right}
use Rattle.frp_tree.specs.declared.levels.Level.{Level}
use Rattle.frp_tree.specs.declared.levels.Level.TheVariants as level
use Rattle.frp_tree.specs.declared.marks.TheConstants as mark
use Rattle.frp_tree.specs.declared.tokens.Token.{Token}
use Rattle.frp_tree.specs.declared.tokens.Token.TheVariants.{Word, Num, Wide, Mark}
use Rattle.frp_tree.specs.Names.{type_name, is_keyword}
use Rattle.frp_tree.specs.Limits.{is_number_type}
use Rattle.frp_tree.specs.Tree.{Tree, Const, Name, Unary, Binary, Shift, If, Convert, Look}
use Rattle.frp_tree.specs.Levels.{height, tighter, is_operand, repeats, level_of, mark_of, mark_of_shift, mark_of_sign}
use Rattle.frp_tree.specs.Cells.{Cell, plain, node, opening_node, opening, tokens_of, literal_token}
use Rattle.frp_tree.specs.Grammar.{word, sign, SpellsExpr}
use Rattle.frp_tree.proofs.LevelLaws.{tighter_height}
use Rattle.frp_tree.proofs.PrintedLaws.{tokens_append}
use Rattle.frp_tree.proofs.ChainLaws.{Chain, of_literal, of_name, of_look, of_brackets, of_sign, of_conversion, of_choice, of_row, ends, by_shift, by_operator, by_comparison, is_binary, binary_level, no_operand_op, chain}

-- How tightly a token binds what stands before it: an operator by its level, counted from 1, the bracket of a look-up more
-- tightly than all of them, and other tokens not at all.
abbrev tightness : List ℕ
tightness = 0 ∷ 0 ∷ 0 ∷ 0 ∷ 0 ∷ 0 ∷ 0 ∷ 0 ∷ 2 ∷ 3 ∷ 4 ∷ 4 ∷ 4 ∷ 4 ∷ 4 ∷ 4 ∷ 5 ∷ 6 ∷ 7 ∷ 8 ∷ 8 ∷ 9 ∷ 9 ∷ 10 ∷ 10 ∷ 10 ∷ 0 ∷ 0 ∷ 11 ∷ 0 ∷ 0 ∷ []

abbrev pub tight : Token → ℕ
tight (Word w) = 0
tight (Num n) = 0
tight (Wide n) = 0
tight (Mark k) = get_or tightness k 0

abbrev pub tight_of : List Token → ℕ
tight_of [] = 0
tight_of (t ∷ ts) = tight t

tight_operator : (op : BinOp) → tight (Mark (mark_of op)) ≡ height (level_of op) + 1
tight_operator binary.Or = refl
tight_operator binary.And = refl
tight_operator binary.Eq = refl
tight_operator binary.Ne = refl
tight_operator binary.Lt = refl
tight_operator binary.Le = refl
tight_operator binary.Gt = refl
tight_operator binary.Ge = refl
tight_operator binary.BitOr = refl
tight_operator binary.BitXor = refl
tight_operator binary.BitAnd = refl
tight_operator binary.Add = refl
tight_operator binary.Sub = refl
tight_operator binary.Mul = refl
tight_operator binary.Div = refl
tight_operator binary.Rem = refl

tight_shift : (side : Side) → tight (Mark (mark_of_shift side)) ≡ 8
tight_shift Left = refl
tight_shift Right = refl

-- What stands behind an expression of a level doesn't go on with it.
abbrev pub Stops : Level → List Token → Type 0
Stops l c = tight_of c ≤ height l

-- Marks, literals and names of types tell what they stand for.

abbrev operators : List BinOp
operators = binary.Or ∷ binary.And ∷ binary.Eq ∷ binary.Ne ∷ binary.Lt ∷ binary.Le ∷ binary.Gt ∷ binary.Ge ∷ binary.BitOr ∷ binary.BitXor ∷ binary.BitAnd ∷ binary.Or ∷ binary.Or ∷ binary.Add ∷ binary.Sub ∷ binary.Mul ∷ binary.Div ∷ binary.Rem ∷ []

abbrev operator_of : ℕ → BinOp
operator_of k = get_or operators (k - 8) binary.Or

operator_back : (op : BinOp) → operator_of (mark_of op) ≡ op
operator_back binary.Or = refl
operator_back binary.And = refl
operator_back binary.Eq = refl
operator_back binary.Ne = refl
operator_back binary.Lt = refl
operator_back binary.Le = refl
operator_back binary.Gt = refl
operator_back binary.Ge = refl
operator_back binary.BitOr = refl
operator_back binary.BitXor = refl
operator_back binary.BitAnd = refl
operator_back binary.Add = refl
operator_back binary.Sub = refl
operator_back binary.Mul = refl
operator_back binary.Div = refl
operator_back binary.Rem = refl

same_operator : (o p : BinOp) → mark_of o ≡ mark_of p → o ≡ p
same_operator o p e = sym (operator_back o) ∙ ap operator_of e ∙ operator_back p

side_back : (s : Side) → (if mark_of_shift s == 19 then Left else Right) ≡ s
side_back Left = refl
side_back Right = refl

same_side : (s t : Side) → mark_of_shift s ≡ mark_of_shift t → s ≡ t
same_side s t e = sym (side_back s) ∙ ap (λ (k : ℕ). if k == 19 then Left else Right) e ∙ side_back t

sign_back : (s : UnOp) → (if mark_of_sign s == 26 then Com else Not) ≡ s
sign_back Com = refl
sign_back Not = refl

same_sign : (s t : UnOp) → mark_of_sign s ≡ mark_of_sign t → s ≡ t
same_sign s t e = sym (sign_back s) ∙ ap (λ (k : ℕ). if k == 26 then Com else Not) e ∙ sign_back t

abbrev literal_of : Token → Lit
literal_of (Num n) = lit.Plain n
literal_of (Wide n) = lit.Wide n
literal_of (Word w) = lit.Truth (bytes_eq w (codes "true"))
literal_of (Mark k) = lit.Plain k

literal_back : (l : Lit) → literal_of (literal_token l) ≡ l
literal_back (lit.Plain n) = refl
literal_back (lit.Wide n) = refl
literal_back (lit.Truth true) = refl
literal_back (lit.Truth false) = refl

pub same_literal : (l m : Lit) → literal_token l ≡ literal_token m → l ≡ m
same_literal l m e = sym (literal_back l) ∙ ap literal_of e ∙ literal_back m

abbrev type_of : List ℕ → Ty
type_of w = if bytes_eq w (codes "bool") then ty.Bool else (if bytes_eq w (codes "u8") then ty.U8 else ty.U16)

type_back : (t : Ty) → type_of (type_name t) ≡ t
type_back ty.Bool = refl
type_back ty.U8 = refl
type_back ty.U16 = refl

pub same_type : (s t : Ty) → type_name s ≡ type_name t → s ≡ t
same_type s t e = sym (type_back s) ∙ ap type_of e ∙ type_back t

-- What an expression begins with.
pub data First : Type 0 where
  a_literal : First
  a_name : First
  a_bracket : First
  a_sign : First
  a_conversion : First
  a_choice : First
  nothing : First

abbrev pub first_of : Token → First
first_of (Num n) = a_literal
first_of (Wide n) = a_literal
first_of (Word w) = if is_keyword w then (if bytes_eq w (codes "if") then a_choice else (if bytes_eq w (codes "true") || bytes_eq w (codes "false") then a_literal else (if bytes_eq w (codes "u8") || bytes_eq w (codes "u16") then a_conversion else nothing))) else a_name
first_of (Mark k) = if k == 5 then a_bracket else (if k == 26 || k == 27 then a_sign else nothing)

abbrev pub firsts : List Token → First
firsts [] = nothing
firsts (t ∷ ts) = first_of t

-- An operand by its first token.
data Opened (d : ℕ) : First → Tree → List Cell → Type 0 where
  o_literal : {l : Lit} → Opened d a_literal (Const l) (node (literal_token l) ∷ [])
  o_name : {x : List ℕ} → is_keyword x ≡ false → Opened d a_name (Name x) (node (Word x) ∷ [])
  o_look : {x : List ℕ} {e : Tree} (ts : List Cell) → is_keyword x ≡ false → Chain None level.Whole (suc d) e ts
      → Opened d a_name (Look x e) (node (Word x) ∷ opening (suc d) (Mark mark.OPENING_BRACKET) ∷ (ts ++ sign mark.CLOSING_BRACKET ∷ []))
  o_brackets : {e : Tree} (ts : List Cell) → Chain None level.Whole (suc d) e ts
      → Opened d a_bracket e (opening (suc d) (Mark mark.OPENING_PARENTHESIS) ∷ (ts ++ sign mark.CLOSING_PARENTHESIS ∷ []))
  o_sign : {op : UnOp} {e : Tree} (ts : List Cell) → Chain None level.Operand (suc d) e ts → Opened d a_sign (Unary op e) (opening_node (suc d) (Mark (mark_of_sign op)) ∷ ts)
  o_conversion : {to : Ty} {e : Tree} (ts : List Cell) → is_number_type to ≡ true → Chain None level.Whole (suc d) e ts
      → Opened d a_conversion (Convert to e) (opening_node (suc d) (Word (type_name to)) ∷ sign mark.OPENING_PARENTHESIS ∷ (ts ++ sign mark.CLOSING_PARENTHESIS ∷ []))

opened : {d : ℕ} {e : Tree} {w : List Cell} → Chain None level.Operand d e w → (x : First) × Opened d x e w
opened of_literal = (a_literal, o_literal)
opened (of_name k) = (a_name, o_name k)
opened (of_look ts k c) = (a_name, o_look ts k c)
opened (of_brackets ts c) = (a_bracket, o_brackets ts c)
opened (of_sign ts c) = (a_sign, o_sign ts c)
opened (of_conversion ts t c) = (a_conversion, o_conversion ts t c)
opened (of_row ts us o c g) = absurd (false≢true (sym o))

literal_first : (l : Lit) → first_of (literal_token l) ≡ a_literal
literal_first (lit.Plain n) = refl
literal_first (lit.Wide n) = refl
literal_first (lit.Truth true) = refl
literal_first (lit.Truth false) = refl

name_first : (x : List ℕ) → is_keyword x ≡ false → first_of (Word x) ≡ a_name
name_first x k = ap (λ b. if b then (if bytes_eq x (codes "if") then a_choice else (if bytes_eq x (codes "true") || bytes_eq x (codes "false") then a_literal else (if bytes_eq x (codes "u8") || bytes_eq x (codes "u16") then a_conversion else nothing))) else a_name) k

sign_first : (op : UnOp) → first_of (Mark (mark_of_sign op)) ≡ a_sign
sign_first Com = refl
sign_first Not = refl

conversion_first : (to : Ty) → is_number_type to ≡ true → first_of (Word (type_name to)) ≡ a_conversion
conversion_first ty.Bool h = absurd (false≢true h)
conversion_first ty.U8 h = refl
conversion_first ty.U16 h = refl

opened_first : {d : ℕ} {x : First} {e : Tree} {w : List Cell} → Opened d x e w → (c : List Token) → firsts (tokens_of w ++ c) ≡ x
opened_first (o_literal {l = l}) c = literal_first l
opened_first (o_name {x = x} k) c = name_first x k
opened_first (o_look {x = x} ts k s) c = name_first x k
opened_first (o_brackets ts s) c = refl
opened_first (o_sign {op = op} ts s) c = sign_first op
opened_first (o_conversion {to = to} ts t s) c = conversion_first to t

reopened : {d : ℕ} {x : First} {e : Tree} {w : List Cell} (c : List Token) → Chain None level.Operand d e w → firsts (tokens_of w ++ c) ≡ x → Opened d x e w
reopened {d = d} {e = e} {w = w} c q f = let (y, o) = opened q in subst (λ z. Opened d z e w) (sym (opened_first o c) ∙ f) o

-- One of a tighter level than a whole one is no choice.

opened_no_choice : {d : ℕ} {x : First} {e : Tree} {w : List Cell} → Opened d x e w → x ≡ a_choice → ⊥
opened_no_choice o_literal h = cc
opened_no_choice (o_name k) h = cc
opened_no_choice (o_look ts k s) h = cc
opened_no_choice (o_brackets ts s) h = cc
opened_no_choice (o_sign ts s) h = cc
opened_no_choice (o_conversion ts t s) h = cc

operand_no_choice : {d : ℕ} {e : Tree} {w : List Cell} → Chain None level.Operand d e w → (c : List Token) → firsts (tokens_of w ++ c) ≡ a_choice → ⊥
operand_no_choice q c h = let (x, o) = opened q in opened_no_choice o (sym (opened_first o c) ∙ h)

abbrev is_whole : Level → Bool
is_whole level.Whole = true
is_whole _ = false

tighter_no_whole : (l : Level) → is_whole (tighter l) ≡ false
tighter_no_whole level.Whole = refl
tighter_no_whole level.Or = refl
tighter_no_whole level.And = refl
tighter_no_whole level.Comparison = refl
tighter_no_whole level.BitOr = refl
tighter_no_whole level.BitXor = refl
tighter_no_whole level.BitAnd = refl
tighter_no_whole level.Shift = refl
tighter_no_whole level.Sum = refl
tighter_no_whole level.Term = refl
tighter_no_whole level.Operand = refl

pub split : (w v : List Cell) (c : List Token) → tokens_of (w ++ v) ++ c ≡ tokens_of w ++ (tokens_of v ++ c)
split w v c = ap (λ x. x ++ c) (tokens_append w v) ∙ append_assoc (tokens_of w) (tokens_of v) c

no_choice : {l : Level} {d : ℕ} {e : Tree} {w : List Cell} → Chain None l d e w → is_whole l ≡ false → (c : List Token) → firsts (tokens_of w ++ c) ≡ a_choice → ⊥
no_choice (of_literal {d = d} {l = l}) n c h = operand_no_choice (of_literal {d = d} {l = l}) c h
no_choice (of_name {d = d} {x = x} k) n c h = operand_no_choice (of_name {d = d} {x = x} k) c h
no_choice (of_look {d = d} {x = x} ts k s) n c h = operand_no_choice (of_look {d = d} {x = x} ts k s) c h
no_choice (of_brackets ts s) n c h = operand_no_choice (of_brackets ts s) c h
no_choice (of_sign {d = d} {op = op} ts s) n c h = operand_no_choice (of_sign {d = d} {op = op} ts s) c h
no_choice (of_conversion {d = d} {to = to} ts t s) n c h = operand_no_choice (of_conversion {d = d} {to = to} ts t s) c h
no_choice (of_choice ts us vs s t u) n c h = absurd (false≢true (sym n))
no_choice (of_row {l = l} ts us o s g) n c h = no_choice s (tighter_no_whole l) (tokens_of us ++ c) (sym (ap firsts (split ts us c)) ∙ h)

opened_something : {d : ℕ} {x : First} {e : Tree} {w : List Cell} → Opened d x e w → x ≡ nothing → ⊥
opened_something o_literal h = cc
opened_something (o_name k) h = cc
opened_something (o_look ts k s) h = cc
opened_something (o_brackets ts s) h = cc
opened_something (o_sign ts s) h = cc
opened_something (o_conversion ts t s) h = cc

operand_something : {d : ℕ} {e : Tree} {w : List Cell} → Chain None level.Operand d e w → (c : List Token) → firsts (tokens_of w ++ c) ≡ nothing → ⊥
operand_something q c h = let (x, o) = opened q in opened_something o (sym (opened_first o c) ∙ h)

chain_something : {l : Level} {d : ℕ} {e : Tree} {w : List Cell} → Chain None l d e w → (c : List Token) → firsts (tokens_of w ++ c) ≡ nothing → ⊥
chain_something (of_literal {d = d} {l = l}) c h = operand_something (of_literal {d = d} {l = l}) c h
chain_something (of_name {d = d} {x = x} k) c h = operand_something (of_name {d = d} {x = x} k) c h
chain_something (of_look {d = d} {x = x} ts k s) c h = operand_something (of_look {d = d} {x = x} ts k s) c h
chain_something (of_brackets ts s) c h = operand_something (of_brackets ts s) c h
chain_something (of_sign {d = d} {op = op} ts s) c h = operand_something (of_sign {d = d} {op = op} ts s) c h
chain_something (of_conversion {d = d} {to = to} ts t s) c h = operand_something (of_conversion {d = d} {to = to} ts t s) c h
chain_something (of_choice ts us vs s t u) c h = cc
chain_something (of_row ts us o s g) c h = chain_something s (tokens_of us ++ c) (sym (ap firsts (split ts us c)) ∙ h)

-- An expression begins with a token that can begin one.
pub begins_something : {l : Level} {d : ℕ} {e : Tree} {w : List Cell} → SpellsExpr l d e w → (c : List Token) → firsts (tokens_of w ++ c) ≡ nothing → ⊥
begins_something s c h = chain_something (chain s) c h

-- What tokens begin is this expression, spelled so.
abbrev One : Option Tree → Level → ℕ → Tree → List Cell → Type 0
One k l d e w = (f : Tree) (v : List Cell) (b c : List Token) → Chain k l d f v → Stops l b → Stops l c → tokens_of v ++ c ≡ tokens_of w ++ b → (f ≡ e) × (v ≡ w)

phrase : {k : Option Tree} {l : Level} {d : ℕ} {e f : Tree} {w v : List Cell} (b c : List Token) → One k l d e w → Chain k l d f v → Stops l b → Stops l c → tokens_of v ++ c ≡ tokens_of w ++ b → (f ≡ e) × (v ≡ w) × (c ≡ b)
phrase {f = f} {w = w} {v = v} b c one q s t e = let h = one f v b c q s t e in (h.0, h.1, append_cancel_left (tokens_of w) c b (ap (λ x. tokens_of x ++ c) (sym h.1) ∙ e))

closed : {d : ℕ} {e f : Tree} {w v : List Cell} (k : ℕ) (b c : List Token) → tight (Mark k) ≡ 0 → One None level.Whole d e w → Chain None level.Whole d f v → tokens_of (v ++ sign k ∷ []) ++ c ≡ tokens_of (w ++ sign k ∷ []) ++ b → (f ≡ e) × (v ≡ w)
closed {f = f} {w = w} {v = v} k b c z one q e = one f v (Mark k ∷ b) (Mark k ∷ c) q (omega arith) (omega arith) (sym (split v (sign k ∷ []) c) ∙ e ∙ split w (sign k ∷ []) b)

-- Operands.

one_literal : (d : ℕ) (l : Lit) → One None level.Operand d (Const l) (node (literal_token l) ∷ [])
one_literal d l f v b c q s t e = go (reopened c q (ap firsts e ∙ literal_first l)) e
  where
    go : {f : Tree} {v : List Cell} → Opened d a_literal f v → tokens_of v ++ c ≡ literal_token l ∷ b → (f ≡ Const l) × (v ≡ node (literal_token l) ∷ [])
    go (o_literal {l = m}) e = let h : literal_token m ≡ literal_token l = cc in let g = same_literal m l h in (ap Const g, ap (λ x. node (literal_token x) ∷ []) g)

look_follows : (c rest : List Token) → Stops level.Operand c → c ≡ Mark mark.OPENING_BRACKET ∷ rest → ⊥
look_follows c rest t e = omega (arith, ap tight_of e)

one_name : (d : ℕ) (x : List ℕ) → is_keyword x ≡ false → One None level.Operand d (Name x) (node (Word x) ∷ [])
one_name d x k f v b c q s t e = go (reopened c q (ap firsts e ∙ name_first x k)) e
  where
    go : {f : Tree} {v : List Cell} → Opened d a_name f v → tokens_of v ++ c ≡ Word x ∷ b → (f ≡ Name x) × (v ≡ node (Word x) ∷ [])
    go (o_name {x = y} j) e = let h : y ≡ x = cc in (ap Name h, ap (λ z. node (Word z) ∷ []) h)
    go (o_look ts j r) e = let h : b ≡ Mark mark.OPENING_BRACKET ∷ (tokens_of (ts ++ sign mark.CLOSING_BRACKET ∷ []) ++ c) = cc in absurd (look_follows b _ s h)

one_look : (d : ℕ) (x : List ℕ) (a : Tree) (ts : List Cell) → is_keyword x ≡ false → One None level.Whole (suc d) a ts → One None level.Operand d (Look x a) (node (Word x) ∷ opening (suc d) (Mark mark.OPENING_BRACKET) ∷ (ts ++ sign mark.CLOSING_BRACKET ∷ []))
one_look d x a ts k one f v b c q s t e = go (reopened c q (ap firsts e ∙ name_first x k)) e
  where
    go : {f : Tree} {v : List Cell} → Opened d a_name f v → tokens_of v ++ c ≡ Word x ∷ Mark mark.OPENING_BRACKET ∷ (tokens_of (ts ++ sign mark.CLOSING_BRACKET ∷ []) ++ b) → (f ≡ Look x a) × (v ≡ node (Word x) ∷ opening (suc d) (Mark mark.OPENING_BRACKET) ∷ (ts ++ sign mark.CLOSING_BRACKET ∷ []))
    go (o_name {x = y} j) e = let h : c ≡ Mark mark.OPENING_BRACKET ∷ (tokens_of (ts ++ sign mark.CLOSING_BRACKET ∷ []) ++ b) = cc in absurd (look_follows c _ t h)
    go (o_look {x = y} {e = g} us j r) e =
        let h : y ≡ x = cc in
        let rest : tokens_of (us ++ sign mark.CLOSING_BRACKET ∷ []) ++ c ≡ tokens_of (ts ++ sign mark.CLOSING_BRACKET ∷ []) ++ b = cc in
        let (m, n) = closed mark.CLOSING_BRACKET b c refl one r rest in
        (ap (λ z. Look z g) h ∙ ap (Look x) m, ap (λ z. node (Word z) ∷ opening (suc d) (Mark mark.OPENING_BRACKET) ∷ (us ++ sign mark.CLOSING_BRACKET ∷ [])) h ∙ ap (λ z. node (Word x) ∷ opening (suc d) (Mark mark.OPENING_BRACKET) ∷ (z ++ sign mark.CLOSING_BRACKET ∷ [])) n)

one_brackets : (d : ℕ) (a : Tree) (ts : List Cell) → One None level.Whole (suc d) a ts → One None level.Operand d a (opening (suc d) (Mark mark.OPENING_PARENTHESIS) ∷ (ts ++ sign mark.CLOSING_PARENTHESIS ∷ []))
one_brackets d a ts one f v b c q s t e = go (reopened c q (ap firsts e)) e
  where
    go : {f : Tree} {v : List Cell} → Opened d a_bracket f v → tokens_of v ++ c ≡ Mark mark.OPENING_PARENTHESIS ∷ (tokens_of (ts ++ sign mark.CLOSING_PARENTHESIS ∷ []) ++ b) → (f ≡ a) × (v ≡ opening (suc d) (Mark mark.OPENING_PARENTHESIS) ∷ (ts ++ sign mark.CLOSING_PARENTHESIS ∷ []))
    go (o_brackets us r) e =
        let rest : tokens_of (us ++ sign mark.CLOSING_PARENTHESIS ∷ []) ++ c ≡ tokens_of (ts ++ sign mark.CLOSING_PARENTHESIS ∷ []) ++ b = cc in
        let (m, n) = closed mark.CLOSING_PARENTHESIS b c refl one r rest in
        (m, ap (λ z. opening (suc d) (Mark mark.OPENING_PARENTHESIS) ∷ (z ++ sign mark.CLOSING_PARENTHESIS ∷ [])) n)

one_sign : (d : ℕ) (op : UnOp) (a : Tree) (ts : List Cell) → One None level.Operand (suc d) a ts → One None level.Operand d (Unary op a) (opening_node (suc d) (Mark (mark_of_sign op)) ∷ ts)
one_sign d op a ts one f v b c q s t e = go (reopened c q (ap firsts e ∙ sign_first op)) e
  where
    go : {f : Tree} {v : List Cell} → Opened d a_sign f v → tokens_of v ++ c ≡ Mark (mark_of_sign op) ∷ (tokens_of ts ++ b) → (f ≡ Unary op a) × (v ≡ opening_node (suc d) (Mark (mark_of_sign op)) ∷ ts)
    go (o_sign {op = o} {e = g} us r) e =
        let h : mark_of_sign o ≡ mark_of_sign op = cc in
        let rest : tokens_of us ++ c ≡ tokens_of ts ++ b = cc in
        let (m, n) = one g us b c r s t rest in
        (ap (λ z. Unary z g) (same_sign o op h) ∙ ap (Unary op) m, ap (λ z. opening_node (suc d) (Mark z) ∷ us) h ∙ ap (λ z. opening_node (suc d) (Mark (mark_of_sign op)) ∷ z) n)

one_conversion : (d : ℕ) (to : Ty) (a : Tree) (ts : List Cell) → is_number_type to ≡ true → One None level.Whole (suc d) a ts
    → One None level.Operand d (Convert to a) (opening_node (suc d) (Word (type_name to)) ∷ sign mark.OPENING_PARENTHESIS ∷ (ts ++ sign mark.CLOSING_PARENTHESIS ∷ []))
one_conversion d to a ts k one f v b c q s t e = go (reopened c q (ap firsts e ∙ conversion_first to k)) e
  where
    go : {f : Tree} {v : List Cell} → Opened d a_conversion f v → tokens_of v ++ c ≡ Word (type_name to) ∷ Mark mark.OPENING_PARENTHESIS ∷ (tokens_of (ts ++ sign mark.CLOSING_PARENTHESIS ∷ []) ++ b)
        → (f ≡ Convert to a) × (v ≡ opening_node (suc d) (Word (type_name to)) ∷ sign mark.OPENING_PARENTHESIS ∷ (ts ++ sign mark.CLOSING_PARENTHESIS ∷ []))
    go (o_conversion {to = u} {e = g} us j r) e =
        let h : type_name u ≡ type_name to = cc in
        let rest : tokens_of (us ++ sign mark.CLOSING_PARENTHESIS ∷ []) ++ c ≡ tokens_of (ts ++ sign mark.CLOSING_PARENTHESIS ∷ []) ++ b = cc in
        let (m, n) = closed mark.CLOSING_PARENTHESIS b c refl one r rest in (
          ap (λ z. Convert z g) (same_type u to h) ∙ ap (Convert to) m,
          ap (λ z. opening_node (suc d) (Word z) ∷ sign mark.OPENING_PARENTHESIS ∷ (us ++ sign mark.CLOSING_PARENTHESIS ∷ [])) h ∙ ap (λ z. opening_node (suc d) (Word (type_name to)) ∷ sign mark.OPENING_PARENTHESIS ∷ (z ++ sign mark.CLOSING_PARENTHESIS ∷ [])) n,
        )

-- A choice.

one_choice : (d : ℕ) (x y z : Tree) (ts us vs : List Cell) → One None level.Whole (suc d) x ts → One None level.Whole (suc d) y us → One None level.Whole (suc d) z vs
    → One None level.Whole d (If x y z) (opening_node (suc d) (Word (codes "if")) ∷ (ts ++ word (codes "then") ∷ (us ++ word (codes "else") ∷ vs)))
one_choice d x y z ts us vs one two three f v b c (of_row rs gs o p g) s t e = absurd (no_choice p refl (tokens_of gs ++ c) (sym (ap firsts (split rs gs c)) ∙ ap firsts e))
one_choice d x y z ts us vs one two three f v b c (of_choice {c = i} {a = j} {b = k} is js ks p q r) s t e =
    let start : tokens_of (is ++ word (codes "then") ∷ (js ++ word (codes "else") ∷ ks)) ++ c ≡ tokens_of (ts ++ word (codes "then") ∷ (us ++ word (codes "else") ∷ vs)) ++ b = cc in
    let m = phrase (Word (codes "then") ∷ (tokens_of (us ++ word (codes "else") ∷ vs) ++ b)) (Word (codes "then") ∷ (tokens_of (js ++ word (codes "else") ∷ ks) ++ c)) one p (omega arith) (omega arith)
    (sym (split is (word (codes "then") ∷ (js ++ word (codes "else") ∷ ks)) c) ∙ start ∙ split ts (word (codes "then") ∷ (us ++ word (codes "else") ∷ vs)) b) in
    let middle : tokens_of (js ++ word (codes "else") ∷ ks) ++ c ≡ tokens_of (us ++ word (codes "else") ∷ vs) ++ b = cc m.2 in
    let n = phrase (Word (codes "else") ∷ (tokens_of vs ++ b)) (Word (codes "else") ∷ (tokens_of ks ++ c)) two q (omega arith) (omega arith)
    (sym (split js (word (codes "else") ∷ ks) c) ∙ middle ∙ split us (word (codes "else") ∷ vs) b) in
    let end : tokens_of ks ++ c ≡ tokens_of vs ++ b = cc n.2 in
    let o = three k ks b c r s t end in (
      ap (λ w. If w j k) m.0 ∙ ap (λ w. If x w k) n.0 ∙ ap (If x y) o.0,
      ap (λ w. opening_node (suc d) (Word (codes "if")) ∷ (w ++ word (codes "then") ∷ (js ++ word (codes "else") ∷ ks))) m.1
          ∙ ap (λ w. opening_node (suc d) (Word (codes "if")) ∷ (ts ++ word (codes "then") ∷ (w ++ word (codes "else") ∷ ks))) n.1
          ∙ ap (λ w. opening_node (suc d) (Word (codes "if")) ∷ (ts ++ word (codes "then") ∷ (us ++ word (codes "else") ∷ w))) o.1,
    )

-- Rows of operators.

-- Behind an operand stands an operator of this level, or what stands behind the row.
rest_stops : {l : Level} {d : ℕ} {a e : Tree} {us : List Cell} → is_operand l ≡ false → (c : List Token) → Stops l c → Chain (Some a) l d e us → Stops (tighter l) (tokens_of us ++ c)
rest_stops {l = l} o c s ends = omega (arith, tighter_height l o)
rest_stops o c s (by_shift {side = side} us g) = omega (arith, tight_shift side)
rest_stops {l = l} o c s (by_operator {op = op} ts us p r q g) = omega (arith, tighter_height l o, tight_operator op, ap height p)
rest_stops {l = l} o c s (by_comparison {op = op} ts p r q) = omega (arith, tighter_height l o, tight_operator op, ap height p)

no_shift_level : (op : BinOp) → level_of op ≡ level.Shift → ⊥
no_shift_level op o = false≢true (ap is_binary (sym o) ∙ binary_level op)

operator_follows : (l : Level) (op : BinOp) (c rest : List Token) → level_of op ≡ l → Stops l c → c ≡ Mark (mark_of op) ∷ rest → ⊥
operator_follows l op c rest o s e = omega (arith, ap tight_of e, tight_operator op, ap height o)

shift_follows : (side : Side) (c rest : List Token) → Stops level.Shift c → c ≡ Mark (mark_of_shift side) ∷ rest → ⊥
shift_follows side c rest s e = omega (arith, ap tight_of e, tight_shift side)

one_row : (l : Level) (d : ℕ) (a e : Tree) (ts us : List Cell) → is_operand l ≡ false → ((c : List Token) → firsts (tokens_of ts ++ c) ≡ a_choice → ⊥) → Chain (Some a) l d e us → One None (tighter l) d a ts → One (Some a) l d e us → One None l d e (ts ++ us)
one_row l d a e ts us o n g one two f v b c of_literal s t h = absurd (false≢true (sym o))
one_row l d a e ts us o n g one two f v b c (of_name k) s t h = absurd (false≢true (sym o))
one_row l d a e ts us o n g one two f v b c (of_look xs k q) s t h = absurd (false≢true (sym o))
one_row l d a e ts us o n g one two f v b c (of_brackets xs q) s t h = absurd (false≢true (sym o))
one_row l d a e ts us o n g one two f v b c (of_sign xs q) s t h = absurd (false≢true (sym o))
one_row l d a e ts us o n g one two f v b c (of_conversion xs k q) s t h = absurd (false≢true (sym o))
one_row l d a e ts us o n g one two f v b c (of_choice xs ys zs p q r) s t h = absurd (n (tokens_of us ++ b) (sym (ap firsts (split ts us b)) ∙ sym (ap firsts h)))
one_row l d a e ts us o n g one two f v b c (of_row {a = i} xs ys p q r) s t h =
    let m = phrase (tokens_of us ++ b) (tokens_of ys ++ c) one q (rest_stops o b s g) (rest_stops o c t r) (sym (split xs ys c) ∙ h ∙ split ts us b) in
    let k = two f ys b c (subst (λ x. Chain (Some x) l d f ys) m.0 r) s t m.2 in
    (k.0, ap (λ w. w ++ ys) m.1 ∙ ap (λ w. ts ++ w) k.1)

one_end : (l : Level) (d : ℕ) (a : Tree) → One (Some a) l d a []
one_end l d a f v b c ends s t e = (refl, refl)
one_end l d a f v b c (by_shift {side = side} us g) s t e = absurd (shift_follows side b _ s (sym e))
one_end l d a f v b c (by_operator {op = op} ts us o r q g) s t e = absurd (operator_follows l op b _ o s (sym e))
one_end l d a f v b c (by_comparison {op = op} ts o r q) s t e = absurd (operator_follows l op b _ o s (sym e))

one_shift : (d : ℕ) (side : Side) (a e : Tree) (n : ℕ) (us : List Cell) → One (Some (Shift side a n)) level.Shift d e us → One (Some a) level.Shift d e (node (Mark (mark_of_shift side)) ∷ plain (Num n) ∷ us)
one_shift d side a e n us one f v b c ends s t h = absurd (shift_follows side c _ t h)
one_shift d side a e n us one f v b c (by_operator {op = op} xs ys o r q g) s t h = absurd (no_shift_level op o)
one_shift d side a e n us one f v b c (by_comparison {op = op} xs o r q) s t h = absurd (no_shift_level op o)
one_shift d side a e n us one f v b c (by_shift {side = other} {n = m} ys g) s t h =
    let i : mark_of_shift other ≡ mark_of_shift side = cc in
    let j : m ≡ n = cc in
    let rest : tokens_of ys ++ c ≡ tokens_of us ++ b = cc in
    let k = one f ys b c (subst (λ x. Chain (Some (Shift side a x)) level.Shift d f ys) j (subst (λ x. Chain (Some (Shift x a m)) level.Shift d f ys) (same_side other side i) g)) s t rest in
    (k.0, ap (λ x. node (Mark x) ∷ plain (Num m) ∷ ys) i ∙ ap (λ x. node (Mark (mark_of_shift side)) ∷ plain (Num x) ∷ ys) j ∙ ap (λ x. node (Mark (mark_of_shift side)) ∷ plain (Num n) ∷ x) k.1)

one_operator : (l : Level) (d : ℕ) (op : BinOp) (a x e : Tree) (ts us : List Cell) → level_of op ≡ l → repeats l ≡ true → Chain (Some (Binary op a x)) l d e us → One None (tighter l) d x ts → One (Some (Binary op a x)) l d e us
    → One (Some a) l d e (node (Mark (mark_of op)) ∷ (ts ++ us))
one_operator l d op a x e ts us o r g one two f v b c ends s t h = absurd (operator_follows l op c _ o t h)
one_operator l d op a x e ts us o r g one two f v b c (by_shift ys q) s t h = absurd (no_shift_level op o)
one_operator l d op a x e ts us o r g one two f v b c (by_comparison ys p q i) s t h = absurd (false≢true (sym q ∙ r))
one_operator l d op a x e ts us o r g one two f v b c (by_operator {op = other} {b = y} xs ys p q i j) s t h =
    let k : mark_of other ≡ mark_of op = cc in
    let rest : tokens_of (xs ++ ys) ++ c ≡ tokens_of (ts ++ us) ++ b = cc in
    let n = no_operand_op op l o in
    let m = phrase (tokens_of us ++ b) (tokens_of ys ++ c) one i (rest_stops n b s g) (rest_stops n c t j) (sym (split xs ys c) ∙ rest ∙ split ts us b) in
    let u = two f ys b c (subst (λ w. Chain (Some (Binary op a w)) l d f ys) m.0 (subst (λ w. Chain (Some (Binary w a y)) l d f ys) (same_operator other op k) j)) s t m.2 in
    (u.0, ap (λ w. node (Mark w) ∷ (xs ++ ys)) k ∙ ap (λ w. node (Mark (mark_of op)) ∷ (w ++ ys)) m.1 ∙ ap (λ w. node (Mark (mark_of op)) ∷ (ts ++ w)) u.1)

one_comparison : (l : Level) (d : ℕ) (op : BinOp) (a x : Tree) (ts : List Cell) → level_of op ≡ l → repeats l ≡ false → One None (tighter l) d x ts → One (Some a) l d (Binary op a x) (node (Mark (mark_of op)) ∷ ts)
one_comparison l d op a x ts o r one f v b c ends s t h = absurd (operator_follows l op c _ o t h)
one_comparison l d op a x ts o r one f v b c (by_shift ys q) s t h = absurd (no_shift_level op o)
one_comparison l d op a x ts o r one f v b c (by_operator xs ys p q i j) s t h = absurd (false≢true (sym r ∙ q))
one_comparison l d op a x ts o r one f v b c (by_comparison {op = other} {b = y} xs p q i) s t h =
    let k : mark_of other ≡ mark_of op = cc in
    let rest : tokens_of xs ++ c ≡ tokens_of ts ++ b = cc in
    let up : height (tighter l) ≡ height l + 1 = tighter_height l (no_operand_op op l o) in
    let m = one y xs b c i (omega arith) (omega arith) rest in
    (ap (λ w. Binary w a y) (same_operator other op k) ∙ ap (Binary op a) m.0, ap (λ w. node (Mark w) ∷ xs) k ∙ ap (λ w. node (Mark (mark_of op)) ∷ w) m.1)

-- Together.

one : {k : Option Tree} {l : Level} {d : ℕ} {e : Tree} {w : List Cell} → Chain k l d e w → One k l d e w
one (of_literal {d = d} {l = l}) = one_literal d l
one (of_name {d = d} {x = x} k) = one_name d x k
one (of_look {d = d} {x = x} {e = e} ts k s) = one_look d x e ts k (one s)
one (of_brackets {d = d} {e = e} ts s) = one_brackets d e ts (one s)
one (of_sign {d = d} {op = op} {e = e} ts s) = one_sign d op e ts (one s)
one (of_conversion {d = d} {to = to} {e = e} ts t s) = one_conversion d to e ts t (one s)
one (of_choice {d = d} {c = c} {a = a} {b = b} ts us vs s t u) = one_choice d c a b ts us vs (one s) (one t) (one u)
one (of_row {l = l} {d = d} {a = a} {e = e} ts us o s g) = one_row l d a e ts us o (no_choice s (tighter_no_whole l)) g (one s) (one g)
one (ends {l = l} {d = d} {a = a}) = one_end l d a
one (by_shift {d = d} {side = side} {a = a} {e = e} {n = n} us g) = one_shift d side a e n us (one g)
one (by_operator {l = l} {d = d} {op = op} {a = a} {b = b} {e = e} ts us o r s g) = one_operator l d op a b e ts us o r g (one s) (one g)
one (by_comparison {l = l} {d = d} {op = op} {a = a} {b = b} ts o r s) = one_comparison l d op a b ts o r (one s)

-- The rests after two expressions at the beginning of the same tokens are the same, and so are the expressions.
pub one_expression : {l : Level} {d : ℕ} {e f : Tree} {w v : List Cell} (b c : List Token) → SpellsExpr l d e w → SpellsExpr l d f v → Stops l b → Stops l c → tokens_of v ++ c ≡ tokens_of w ++ b → (f ≡ e) × (v ≡ w) × (c ≡ b)
one_expression b c s t i j e = phrase b c (one (chain s)) (chain t) i j e
