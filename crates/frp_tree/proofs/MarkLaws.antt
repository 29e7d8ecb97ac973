-- What a token of a program opens and begins is determined by the tokens up to it.
use Rattle.std.proofs.Common.{◌≡◌, ℕ, suc, Bool, true, false, ◌&&◌, ◌||◌, ◌==◌, nat_le, cond, List, [], ◌∷◌, ◌++◌, codes, Option, None, refl, sym, ap, subst, ◌∙◌, append_assoc}
use Rattle.std.specs.Str.{bytes_eq}
use Rattle.std.specs.List.{AllByRecursion}
use Rattle.frp_tree.specs.declared.kinds.Kind.{Kind}
use Rattle.frp_tree.specs.declared.kinds.Kind.TheVariants.{Events, Setups, Definitions, Outputs}
use Rattle.frp_tree.specs.declared.levels.Level.{Level}
use Rattle.frp_tree.specs.declared.levels.Level.TheVariants as level
use Rattle.frp_tree.specs.declared.marks.TheConstants as mark
use Rattle.frp_tree.specs.declared.syntax.Lit.{Lit}
use Rattle.frp_tree.specs.declared.syntax.Lit.TheVariants as lit
use Rattle.frp_tree.specs.declared.syntax.Ty.{Ty}
use Rattle.frp_tree.specs.declared.syntax.Ty.TheVariants as ty
use Rattle.frp_tree.specs.declared.syntax.Side.{Side}
use Rattle.frp_tree.specs.declared.syntax.Side.TheVariants.{Left, Right}
use Rattle.frp_tree.specs.declared.syntax.UnOp.{UnOp}
use Rattle.frp_tree.specs.declared.syntax.UnOp.TheVariants.{Com, Not}
use Rattle.frp_tree.specs.declared.syntax.BinOp.{BinOp}
use Rattle.frp_tree.specs.declared.syntax.BinOp.TheVariants as binary
use Rattle.frp_tree.specs.declared.syntax.Event.{Event}
use Rattle.frp_tree.specs.declared.syntax.Setup.{Setup}
use Rattle.frp_tree.specs.declared.tokens.Token.{Token}
use Rattle.frp_tree.specs.declared.tokens.Token.TheVariants.{Word, Num, Wide, Mark}
use Rattle.frp_tree.specs.Names.{type_name, is_keyword}
use Rattle.frp_tree.specs.Limits.{is_number_type}
use Rattle.frp_tree.specs.Tree.{Tree, ClauseTree, BehaviourTree, DeclTree, OutputTree, ProgramTree}
use Rattle.frp_tree.specs.Levels.{tighter, is_operand, level_of, mark_of, mark_of_shift, mark_of_sign}
use Rattle.frp_tree.specs.Cells.{Cell, plain, starting, node, opening_node, opening, entry_cell, tokens_of, literal_token}
use Rattle.frp_tree.specs.Grammar.{word, sign, SpellsExpr, literal, named, looked, brackets, signed, converted, chosen, shifted, joined, compared, alone, Row, none, next, SpellsEvent, SpellsSetup, later_cells, SpellsClause, more_entries, SpellsBehaviour, plainly, input, table, reactive, SpellsDecl, SpellsOutput, SpellsProgram}
use Rattle.frp_tree.specs.Breaks.{Begins}

-- Where a reader of tokens is: between items; in an item without marks of its own, up to its `;`; in the head of an item, up
-- to its `=`; among clauses; or among entries, of which this many stand before. Or it is in an expression, or there behind a
-- shift's mark or a conversion's word: with whether a clause has the expression, the nesting, the nesting behind the operand,
-- and those to come back to.
pub data Place : Type 0 where
  Between : Place
  Skipping : Place
  Heading : Place
  Clauses : Place
  Entered : ℕ → Place
  Within : Bool → ℕ → ℕ → List ℕ → Place
  Amount : Bool → ℕ → List ℕ → Place
  Conversion : Bool → ℕ → ℕ → List ℕ → Place

abbrev pub top : List ℕ → ℕ
top [] = 0
top (n ∷ s) = n

abbrev pub pop : List ℕ → List ℕ
pop [] = []
pop (n ∷ s) = s

-- The cell of the next token.

abbrev pub item_cell : List ℕ → Cell
item_cell w = cond (bytes_eq w (codes "event")) (starting Events (Word w)) (cond (bytes_eq w (codes "setup")) (starting Setups (Word w)) (cond (bytes_eq w (codes "let")) (starting Definitions (Word w)) (cond (bytes_eq w (codes "output")) (starting Outputs (Word w)) (plain (Word w)))))

abbrev pub keyword_cell : ℕ → List ℕ → Cell
keyword_cell d w = cond (bytes_eq w (codes "if") || bytes_eq w (codes "u8") || bytes_eq w (codes "u16")) (opening_node (suc d) (Word w)) (cond (bytes_eq w (codes "true") || bytes_eq w (codes "false")) (node (Word w)) (plain (Word w)))

abbrev pub mark_cell : ℕ → ℕ → Cell
mark_cell d k = cond (k == mark.OPENING_PARENTHESIS || k == mark.OPENING_BRACKET) (opening (suc d) (Mark k)) (cond (k == mark.BIT_NOT || k == mark.NOT) (opening_node (suc d) (Mark k)) (cond (nat_le mark.OR k && nat_le k mark.REMAINDER) (node (Mark k)) (plain (Mark k))))

abbrev pub expr_cell : ℕ → Token → Cell
expr_cell d (Word w) = cond (is_keyword w) (keyword_cell d w) (node (Word w))
expr_cell d (Num n) = node (Num n)
expr_cell d (Wide n) = node (Wide n)
expr_cell d (Mark k) = mark_cell d k

abbrev pub next_cell : Place → Token → Cell
next_cell Between (Word w) = item_cell w
next_cell (Entered n) (Word w) = entry_cell (suc n) (Word w)
next_cell (Entered n) (Num v) = entry_cell (suc n) (Num v)
next_cell (Entered n) (Wide v) = entry_cell (suc n) (Wide v)
next_cell (Within i d b s) t = expr_cell d t
next_cell p t = plain t

-- The place behind it.

abbrev pub behind_word : Bool → ℕ → ℕ → List ℕ → List ℕ → Place
behind_word i d b s w =
    cond (bytes_eq w (codes "if")) (Within i (suc d) (suc d) (suc d ∷ s)) (
    cond (bytes_eq w (codes "then")) (Within i (top s) (top s) s) (
    cond (bytes_eq w (codes "else")) (Within i (top s) (top s) (pop s)) (
    cond (bytes_eq w (codes "u8") || bytes_eq w (codes "u16")) (Conversion i (suc d) b s) (
    cond (bytes_eq w (codes "input")) Skipping (
    cond (bytes_eq w (codes "table")) (Entered 0) (
    cond (bytes_eq w (codes "init")) Clauses (Within i d b s)))))))

abbrev pub behind_mark : Bool → ℕ → ℕ → List ℕ → ℕ → Place
behind_mark i d b s k =
    cond (k == mark.OPENING_PARENTHESIS || k == mark.OPENING_BRACKET) (Within i (suc d) (suc d) (b ∷ s)) (
    cond (k == mark.CLOSING_PARENTHESIS || k == mark.CLOSING_BRACKET) (Within i (top s) (top s) (pop s)) (
    cond (k == mark.BIT_NOT || k == mark.NOT) (Within i (suc d) b s) (
    cond (k == mark.SHIFT_LEFT || k == mark.SHIFT_RIGHT) (Amount i b s) (
    cond (k == mark.SEMICOLON) (cond i Clauses Between) (Within i b b s)))))

abbrev pub behind_in : Bool → ℕ → ℕ → List ℕ → Token → Place
behind_in i d b s (Word w) = cond (is_keyword w) (behind_word i d b s w) (Within i d b s)
behind_in i d b s (Num n) = Within i d b s
behind_in i d b s (Wide n) = Within i d b s
behind_in i d b s (Mark k) = behind_mark i d b s k

abbrev pub behind : Place → Token → Place
behind Between (Word w) = cond (bytes_eq w (codes "let") || bytes_eq w (codes "output")) Heading Skipping
behind Skipping (Mark k) = cond (k == mark.SEMICOLON) Between Skipping
behind Heading (Mark k) = cond (k == mark.EQUALS) (Within false 0 0 []) Heading
behind Clauses (Mark k) = cond (k == mark.ARROW) (Within true 0 0 []) (cond (k == mark.CLOSING_BRACE) Skipping Clauses)
behind (Entered n) (Mark k) = cond (k == mark.SEMICOLON) Between (Entered n)
behind (Entered n) t = Entered (suc n)
behind (Within i d b s) t = behind_in i d b s t
behind (Amount i b s) t = Within i b b s
behind (Conversion i d b s) t = Within i d d (b ∷ s)
behind p t = p

-- From one place to another each cell is the one that its token has there.
abbrev pub Goes : Place → List Cell → Place → Type 0
Goes p [] q = p ≡ q
Goes p (c ∷ cs) q = (c ≡ next_cell p c.token) × Goes (behind p c.token) cs q

pub goes_append : (u v : List Cell) (p q r : Place) → Goes p u q → Goes q v r → Goes p (u ++ v) r
goes_append [] v p q r e h = subst (λ x. Goes x v r) (sym e) h
goes_append (c ∷ u) v p q r e h = (e.0, goes_append u v (behind p c.token) q r e.1 h)

-- So cells that begin with the same tokens begin alike.
pub goes_alike : (u v ahead other : List Cell) (p q r : Place) → Goes p (u ++ ahead) q → Goes p (v ++ other) r → tokens_of u ≡ tokens_of v → u ≡ v
goes_alike [] [] ahead other p q r g h e = refl
goes_alike [] (d ∷ v) ahead other p q r g h e = cc
goes_alike (c ∷ u) [] ahead other p q r g h e = cc
goes_alike (c ∷ u) (d ∷ v) ahead other p q r g h e =
    let same : c.token ≡ d.token = cc in
    let more : tokens_of u ≡ tokens_of v = cc in
    let alike : c ≡ d = g.0 ∙ ap (next_cell p) same ∙ sym h.0 in
    let tail : u ≡ v = goes_alike u v ahead other (behind p c.token) q r g.1 (subst (λ t. Goes (behind p t) (v ++ other) r) (sym same) h.1) more in
    cc

-- A token before cells.
goes_from : (p q r : Place) (cs : List Cell) → p ≡ q → Goes q cs r → Goes p cs r
goes_from p q r cs e h = subst (λ x. Goes x cs r) (sym e) h

-- A name in an expression.
name_first : (i : Bool) (d b : ℕ) (s x : List ℕ) (cs : List Cell) (q : Place) → is_keyword x ≡ false → Goes (Within i d b s) cs q → Goes (Within i d b s) (node (Word x) ∷ cs) q
name_first i d b s x cs q k h = (
  sym (ap (λ t. cond t (keyword_cell d x) (node (Word x))) k),
  goes_from _ (Within i d b s) q cs (ap (λ t. cond t (behind_word i d b s x) (Within i d b s)) k) h,
)

abbrev pub is_whole : Level → Bool
is_whole level.Whole = true
is_whole _ = false

tighter_not_whole : (l : Level) → is_whole (tighter l) ≡ false
tighter_not_whole level.Whole = refl
tighter_not_whole level.Or = refl
tighter_not_whole level.And = refl
tighter_not_whole level.Comparison = refl
tighter_not_whole level.BitOr = refl
tighter_not_whole level.BitXor = refl
tighter_not_whole level.BitAnd = refl
tighter_not_whole level.Shift = refl
tighter_not_whole level.Sum = refl
tighter_not_whole level.Term = refl
tighter_not_whole level.Operand = refl

-- A literal in an expression.
literal_first : (i : Bool) (d b : ℕ) (s : List ℕ) (l : Lit) → Goes (Within i d b s) (node (literal_token l) ∷ []) (Within i d b s)
literal_first i d b s (lit.Plain n) = (refl, refl)
literal_first i d b s (lit.Wide n) = (refl, refl)
literal_first i d b s (lit.Truth true) = (refl, refl)
literal_first i d b s (lit.Truth false) = (refl, refl)

sign_first : (i : Bool) (d b : ℕ) (s : List ℕ) (op : UnOp) (cs : List Cell) (q : Place) → Goes (Within i (suc d) b s) cs q → Goes (Within i d b s) (opening_node (suc d) (Mark (mark_of_sign op)) ∷ cs) q
sign_first i d b s Com cs q h = (refl, h)
sign_first i d b s Not cs q h = (refl, h)

conversion_first : (i : Bool) (d b : ℕ) (s : List ℕ) (to : Ty) (cs : List Cell) (q : Place) → is_number_type to ≡ true → Goes (Within i (suc d) (suc d) (b ∷ s)) cs q
    → Goes (Within i d b s) (opening_node (suc d) (Word (type_name to)) ∷ sign mark.OPENING_PARENTHESIS ∷ cs) q
conversion_first i d b s ty.Bool cs q t h = cc
conversion_first i d b s ty.U8 cs q t h = (refl, (refl, h))
conversion_first i d b s ty.U16 cs q t h = (refl, (refl, h))

shift_last : (i : Bool) (c b : ℕ) (s : List ℕ) (side : Side) (n : ℕ) → Goes (Within i c b s) (node (Mark (mark_of_shift side)) ∷ plain (Num n) ∷ []) (Within i b b s)
shift_last i c b s Left n = (refl, (refl, refl))
shift_last i c b s Right n = (refl, (refl, refl))

operator_first : (i : Bool) (c b : ℕ) (s : List ℕ) (op : BinOp) (cs : List Cell) (q : Place) → Goes (Within i b b s) cs q → Goes (Within i c b s) (node (Mark (mark_of op)) ∷ cs) q
operator_first i c b s binary.Or cs q h = (refl, h)
operator_first i c b s binary.And cs q h = (refl, h)
operator_first i c b s binary.Eq cs q h = (refl, h)
operator_first i c b s binary.Ne cs q h = (refl, h)
operator_first i c b s binary.Lt cs q h = (refl, h)
operator_first i c b s binary.Le cs q h = (refl, h)
operator_first i c b s binary.Gt cs q h = (refl, h)
operator_first i c b s binary.Ge cs q h = (refl, h)
operator_first i c b s binary.BitOr cs q h = (refl, h)
operator_first i c b s binary.BitXor cs q h = (refl, h)
operator_first i c b s binary.BitAnd cs q h = (refl, h)
operator_first i c b s binary.Add cs q h = (refl, h)
operator_first i c b s binary.Sub cs q h = (refl, h)
operator_first i c b s binary.Mul cs q h = (refl, h)
operator_first i c b s binary.Div cs q h = (refl, h)
operator_first i c b s binary.Rem cs q h = (refl, h)

operator_level : (op : BinOp) (l : Level) → level_of op ≡ l → (is_operand l ≡ false) × (is_whole l ≡ false)
operator_level op l e = (subst (λ x. is_operand x ≡ false) e (no_operand op), subst (λ x. is_whole x ≡ false) e (no_whole op))
  where
    no_operand : (o : BinOp) → is_operand (level_of o) ≡ false
    no_operand binary.Or = refl
    no_operand binary.And = refl
    no_operand binary.Eq = refl
    no_operand binary.Ne = refl
    no_operand binary.Lt = refl
    no_operand binary.Le = refl
    no_operand binary.Gt = refl
    no_operand binary.Ge = refl
    no_operand binary.BitOr = refl
    no_operand binary.BitXor = refl
    no_operand binary.BitAnd = refl
    no_operand binary.Add = refl
    no_operand binary.Sub = refl
    no_operand binary.Mul = refl
    no_operand binary.Div = refl
    no_operand binary.Rem = refl

    no_whole : (o : BinOp) → is_whole (level_of o) ≡ false
    no_whole binary.Or = refl
    no_whole binary.And = refl
    no_whole binary.Eq = refl
    no_whole binary.Ne = refl
    no_whole binary.Lt = refl
    no_whole binary.Le = refl
    no_whole binary.Gt = refl
    no_whole binary.Ge = refl
    no_whole binary.BitOr = refl
    no_whole binary.BitXor = refl
    no_whole binary.BitAnd = refl
    no_whole binary.Add = refl
    no_whole binary.Sub = refl
    no_whole binary.Mul = refl
    no_whole binary.Div = refl
    no_whole binary.Rem = refl

-- An expression leads from a nesting to a place with the same nestings to come back to. One that is no `if` keeps the
-- nesting behind the operand.
pub record Read (i : Bool) (d b : ℕ) (s : List ℕ) (l : Level) (w : List Cell) : Type 0 where
  pub nesting : ℕ
  pub base : ℕ
  pub goes : Goes (Within i d b s) w (Within i nesting base s)
  pub keeps : is_whole l ≡ false → base ≡ b

-- It is kept, so it may be named.
read_to : (i : Bool) (d b : ℕ) (s : List ℕ) (l : Level) (w : List Cell) → (r : Read i d b s l w) → is_whole l ≡ false → Goes (Within i d b s) w (Within i r.nesting b s)
read_to i d b s l w r e = subst (λ x. Goes (Within i d b s) w (Within i r.nesting x s)) (r.keeps e) r.goes

pub expr_read : {l : Level} {d : ℕ} {e : Tree} {w : List Cell} → SpellsExpr l d e w → (i : Bool) (b : ℕ) (s : List ℕ) → (is_operand l ≡ false → b ≡ d) → Read i d b s l w
expr_read (literal {d = d} {l = l}) i b s h = record { nesting = d; base = b; goes = literal_first i d b s l; keeps = λ _. refl }
expr_read (named {d = d} {x = x} k) i b s h = record { nesting = d; base = b; goes = name_first i d b s x [] _ k refl; keeps = λ _. refl }
expr_read (looked {d = d} {x = x} ts k e) i b s h =
    let r = expr_read e i (suc d) (b ∷ s) (λ _. refl) in
    record { nesting = b; base = b; goes = name_first i d b s x (opening (suc d) (Mark mark.OPENING_BRACKET) ∷ (ts ++ sign mark.CLOSING_BRACKET ∷ [])) (Within i b b s) k (refl, goes_append ts _ _ _ _ r.goes (refl, refl)); keeps = λ _. refl }
expr_read (brackets {d = d} ts e) i b s h =
    let r = expr_read e i (suc d) (b ∷ s) (λ _. refl) in
    record { nesting = b; base = b; goes = (refl, goes_append ts _ _ _ _ r.goes (refl, refl)); keeps = λ _. refl }
expr_read (signed {d = d} {op = op} ts e) i b s h =
    let r = expr_read e i b s (λ k. cc) in
    record { nesting = r.nesting; base = r.base; goes = sign_first i d b s op ts _ r.goes; keeps = r.keeps }
expr_read (converted {d = d} {to = to} ts t e) i b s h =
    let r = expr_read e i (suc d) (b ∷ s) (λ _. refl) in
    record { nesting = b; base = b; goes = conversion_first i d b s to (ts ++ sign mark.CLOSING_PARENTHESIS ∷ []) (Within i b b s) t (goes_append ts _ _ _ _ r.goes (refl, refl)); keeps = λ _. refl }
expr_read (chosen {d = d} ts us vs c a o) i b s h =
    let x = expr_read c i (suc d) (suc d ∷ s) (λ _. refl) in
    let y = expr_read a i (suc d) (suc d ∷ s) (λ _. refl) in
    let z = expr_read o i (suc d) s (λ _. refl) in
    record { nesting = z.nesting; base = z.base; goes = (refl, goes_append ts _ _ _ _ x.goes (refl, goes_append us _ _ _ _ y.goes (refl, z.goes))); keeps = λ k. cc }
expr_read (shifted {d = d} {side = side} {n = n} ts e) i b s h =
    let r = expr_read e i b s h in
    record { nesting = b; base = b; goes = goes_append ts _ _ _ _ (read_to i d b s level.Shift ts r refl) (shift_last i r.nesting b s side n); keeps = λ _. refl }
expr_read (joined {l = l} {d = d} {op = op} ts us o p x y) i b s h =
    let (inner, whole) = operator_level op l o in
    let even : b ≡ d = h inner in
    let r = expr_read x i b s h in
    let q = expr_read y i d s (λ _. refl) in
    record {
      nesting = q.nesting;
      base = q.base;
      goes = goes_append ts _ _ _ _ (read_to i d b s l ts r whole) (operator_first i r.nesting b s op us _ (subst (λ v. Goes (Within i v v s) us (Within i q.nesting q.base s)) (sym even) q.goes));
      keeps = λ _. q.keeps (tighter_not_whole l) ∙ sym even;
    }
expr_read (compared {l = l} {d = d} {op = op} ts us o p x y) i b s h =
    let (inner, whole) = operator_level op l o in
    let even : b ≡ d = h inner in
    let r = expr_read x i b s (λ _. even) in
    let q = expr_read y i d s (λ _. refl) in
    record {
      nesting = q.nesting;
      base = q.base;
      goes = goes_append ts _ _ _ _ (read_to i d b s (tighter l) ts r (tighter_not_whole l)) (operator_first i r.nesting b s op us _ (subst (λ v. Goes (Within i v v s) us (Within i q.nesting q.base s)) (sym even) q.goes));
      keeps = λ _. q.keeps (tighter_not_whole l) ∙ sym even;
    }
expr_read (alone {l = l} o x) i b s h =
    let r = expr_read x i b s (λ _. h o) in
    record { nesting = r.nesting; base = r.base; goes = r.goes; keeps = λ _. r.keeps (tighter_not_whole l) }

-- Items.

event_read : (e : Event) (w : List Cell) → SpellsEvent e w → Goes Between w Between
event_read e w s = subst (λ x. Goes Between x Between) (sym s.whole) (refl, (refl, (refl, (refl, (refl, (refl, (refl, refl)))))))

setup_read : (e : Setup) (w : List Cell) → SpellsSetup e w → Goes Between w Between
setup_read e w s = subst (λ x. Goes Between x Between) (sym s.whole) (refl, (refl, (refl, (refl, (refl, refl)))))

output_read : (o : OutputTree) (w : List Cell) → SpellsOutput o w → Goes Between w Between
output_read o w s =
    let r = expr_read s.spelled false 0 [] (λ _. refl) in
    subst (λ x. Goes Between x Between) (sym s.whole) (refl, (refl, (refl, goes_append s.value _ _ _ _ r.goes (refl, refl))))

later_read : (d b : ℕ) (s : List ℕ) (later : Bool) → Goes (Within true d b s) (later_cells later ++ sign mark.SEMICOLON ∷ []) Clauses
later_read d b s true = (refl, (refl, refl))
later_read d b s false = (refl, refl)

clause_read : (c : ClauseTree) (w : List Cell) → SpellsClause c w → Goes Clauses w Clauses
clause_read c w s =
    let r = expr_read s.spelled true 0 [] (λ _. refl) in
    subst (λ x. Goes Clauses x Clauses) (sym s.whole) (refl, (refl, goes_append s.value _ _ _ _ r.goes (later_read r.nesting r.base [] c.later)))

-- A row of things, each of which leads back to where it began.
row_read : {A : Type 0} {Item : A → List Cell → Type 0} {xs : List A} {w : List Cell} (p : Place) → ((x : A) (u : List Cell) → Item x u → Goes p u p) → Row Item xs w → Goes p w p
row_read p f none = refl
row_read p f (next {x = x} first rest i r) = goes_append first rest p p p (f x first i) (row_read p f r)

entry_read : (n : ℕ) (l : Lit) (cells : List Cell) (q : Place) → Goes (Entered (suc n)) cells q → Goes (Entered n) (entry_cell (suc n) (literal_token l) ∷ cells) q
entry_read n (lit.Plain v) cells q h = (refl, h)
entry_read n (lit.Wide v) cells q h = (refl, h)
entry_read n (lit.Truth true) cells q h = (refl, h)
entry_read n (lit.Truth false) cells q h = (refl, h)

entries_read : (n : ℕ) (ls : List Lit) → Goes (Entered n) (more_entries n ls ++ sign mark.CLOSING_BRACE ∷ sign mark.SEMICOLON ∷ []) Between
entries_read n [] = (refl, (refl, refl))
entries_read n (l ∷ ls) = (refl, entry_read n l (more_entries (suc n) ls ++ sign mark.CLOSING_BRACE ∷ sign mark.SEMICOLON ∷ []) Between (entries_read (suc n) ls))

first_literal_read : (l : Lit) (cells : List Cell) (q : Place) → Goes Clauses cells q → Goes Clauses (plain (literal_token l) ∷ cells) q
first_literal_read (lit.Plain v) cells q h = (refl, h)
first_literal_read (lit.Wide v) cells q h = (refl, h)
first_literal_read (lit.Truth true) cells q h = (refl, h)
first_literal_read (lit.Truth false) cells q h = (refl, h)

behaviour_read : (b : BehaviourTree) (w : List Cell) → SpellsBehaviour b w → Goes (Within false 0 0 []) (w ++ sign mark.SEMICOLON ∷ []) Between
behaviour_read b w (plainly {ts = ts} e) =
    let r = expr_read e false 0 [] (λ _. refl) in goes_append ts _ _ _ _ r.goes (refl, refl)
behaviour_read b w (input k) = (refl, (refl, (refl, refl)))
behaviour_read b w (table {l = l} {ls = ls}) =
    (refl, (refl, entry_read 0 l ((more_entries 1 ls ++ sign mark.CLOSING_BRACE ∷ []) ++ sign mark.SEMICOLON ∷ []) Between (subst (λ x. Goes (Entered 1) x Between) (sym (append_assoc (more_entries 1 ls) (sign mark.CLOSING_BRACE ∷ []) (sign mark.SEMICOLON ∷ []))) (entries_read 1 ls))))
behaviour_read b w (reactive {l = l} ts r) =
    (refl, first_literal_read l (word (codes "in") ∷ sign mark.OPENING_BRACE ∷ ((ts ++ sign mark.CLOSING_BRACE ∷ []) ++ sign mark.SEMICOLON ∷ [])) Between (refl, (refl, subst (λ x. Goes Clauses x Between) (sym (append_assoc ts (sign mark.CLOSING_BRACE ∷ []) (sign mark.SEMICOLON ∷ []))) (goes_append ts _ _ _ _ (row_read Clauses clause_read r) (refl, (refl, refl))))))

decl_read : (d : DeclTree) (w : List Cell) → SpellsDecl d w → Goes Between w Between
decl_read d w s = subst (λ x. Goes Between x Between) (sym s.whole) (refl, (refl, (refl, (refl, (refl, behaviour_read d.behaviour s.value s.spelled)))))

pub program_read : (p : ProgramTree) (w : List Cell) → SpellsProgram p w → Goes Between w Between
program_read p w s =
    subst (λ x. Goes Between x Between) (sym s.whole) (
    goes_append s.events _ _ _ _ (row_read Between event_read s.spelled_events) (
    goes_append s.setups _ _ _ _ (row_read Between setup_read s.spelled_setups) (
    goes_append s.decls _ _ _ _ (row_read Between decl_read s.spelled_decls) (row_read Between output_read s.spelled_outputs))))

-- Cells that begin a program are determined by their tokens.
pub one_marking : (u v : List Cell) → Begins u → Begins v → tokens_of u ≡ tokens_of v → u ≡ v
one_marking u v a b e =
    goes_alike u v a.ahead b.ahead Between Between Between (program_read a.program (u ++ a.ahead) a.spelled) (program_read b.program (v ++ b.ahead) b.spelled) e

-- Only what begins something has a number in a table.

pub record IsNumbered (c : Cell) : Type 0 where
  pub number : c.begins ≡ None → c.entry ≡ 0

-- A cell with no number, and one that begins something.
bare : (t : Token) (d : ℕ) (begins : Option Kind) → IsNumbered (record { token = t; opens = d; begins = begins; entry = 0 })
bare t d begins = record { number = λ e. refl }

entry_numbered : (n : ℕ) (t : Token) → IsNumbered (entry_cell n t)
entry_numbered n t = record { number = λ e. cc }

either : (b : Bool) (x y : Cell) → IsNumbered x → IsNumbered y → IsNumbered (cond b x y)
either true x y h k = h
either false x y h k = k

mark_numbered : (d k : ℕ) → IsNumbered (mark_cell d k)
mark_numbered d k =
    either (k == mark.OPENING_PARENTHESIS || k == mark.OPENING_BRACKET) _ _ (bare _ _ _) (either (k == mark.BIT_NOT || k == mark.NOT) _ _ (bare _ _ _) (either (nat_le mark.OR k && nat_le k mark.REMAINDER) _ _ (bare _ _ _) (bare _ _ _)))

word_numbered : (d : ℕ) (w : List ℕ) → IsNumbered (expr_cell d (Word w))
word_numbered d w =
    either (is_keyword w) _ _ (either (bytes_eq w (codes "if") || bytes_eq w (codes "u8") || bytes_eq w (codes "u16")) _ _ (bare _ _ _) (either (bytes_eq w (codes "true") || bytes_eq w (codes "false")) _ _ (bare _ _ _) (bare _ _ _))) (bare _ _ _)

item_numbered : (w : List ℕ) → IsNumbered (item_cell w)
item_numbered w =
    either (bytes_eq w (codes "event")) _ _ (bare _ _ _) (either (bytes_eq w (codes "setup")) _ _ (bare _ _ _) (either (bytes_eq w (codes "let")) _ _ (bare _ _ _) (either (bytes_eq w (codes "output")) _ _ (bare _ _ _) (bare _ _ _))))

cell_numbered : (p : Place) (t : Token) → IsNumbered (next_cell p t)
cell_numbered Between (Word w) = item_numbered w
cell_numbered Between (Num n) = bare _ _ _
cell_numbered Between (Wide n) = bare _ _ _
cell_numbered Between (Mark k) = bare _ _ _
cell_numbered (Entered n) (Word w) = entry_numbered _ _
cell_numbered (Entered n) (Num v) = entry_numbered _ _
cell_numbered (Entered n) (Wide v) = entry_numbered _ _
cell_numbered (Entered n) (Mark k) = bare _ _ _
cell_numbered (Within i d b s) (Word w) = word_numbered d w
cell_numbered (Within i d b s) (Num n) = bare _ _ _
cell_numbered (Within i d b s) (Wide n) = bare _ _ _
cell_numbered (Within i d b s) (Mark k) = mark_numbered d k
cell_numbered Skipping t = bare _ _ _
cell_numbered Heading t = bare _ _ _
cell_numbered Clauses t = bare _ _ _
cell_numbered (Amount i b s) t = bare _ _ _
cell_numbered (Conversion i d b s) t = bare _ _ _

goes_numbered : (w : List Cell) (p q : Place) → Goes p w q → AllByRecursion IsNumbered w
goes_numbered [] p q g = tt
goes_numbered (c ∷ w) p q g = (subst IsNumbered (sym g.0) (cell_numbered p c.token), goes_numbered w (behind p c.token) q g.1)

pub program_numbered : (p : ProgramTree) (w : List Cell) → SpellsProgram p w → AllByRecursion IsNumbered w
program_numbered p w s = goes_numbered w Between Between (program_read p w s)
