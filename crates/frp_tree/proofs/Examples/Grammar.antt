-- Trees of some texts, and how far the prefix of one goes, by the grammar.
use Rattle.std.specs.Prelude.{◌≡◌, ℕ, List, [], ◌∷◌, codes, true, refl}
use Rattle.frp_tree.specs.declared.kinds.Kind.TheVariants.{Definitions, Nodes}
use Rattle.frp_tree.specs.declared.syntax.Ty.TheVariants as ty
use Rattle.frp_tree.specs.declared.syntax.Lit.TheVariants as lit
use Rattle.frp_tree.specs.declared.syntax.UnOp.TheVariants.{Not}
use Rattle.frp_tree.specs.declared.syntax.BinOp.TheVariants as binary
use Rattle.frp_tree.specs.declared.syntax.Side.TheVariants.{Left}
use Rattle.frp_tree.specs.declared.levels.Level.TheVariants as level
use Rattle.frp_tree.specs.declared.marks.TheConstants as mark
use Rattle.frp_tree.specs.declared.tokens.Token.TheVariants.{Word, Num, Wide, Mark}
use Rattle.frp_tree.specs.Tree.{Tree, Const, Name, Unary, Binary, Shift, If, Convert, Look, Table}
use Rattle.frp_tree.specs.Cells.{Cell, plain, starting, node, opening_node, opening, entry_cell, count_of}
use Rattle.frp_tree.specs.Grammar.{SpellsExpr, literal, named, looked, brackets, signed, converted, chosen, shifted, joined, compared, alone, none, SpellsClause, table, SpellsDecl, HasTree}

abbrev a : List ℕ
a = codes "a"

abbrev b : List ℕ
b = codes "b"

-- An operand as an expression of each level.
term : {d : ℕ} {e : Tree} {ts : List Cell} → SpellsExpr level.Operand d e ts → SpellsExpr level.Term d e ts
term s = alone refl s

sum : {d : ℕ} {e : Tree} {ts : List Cell} → SpellsExpr level.Term d e ts → SpellsExpr level.Sum d e ts
sum s = alone refl s

bits : {d : ℕ} {e : Tree} {ts : List Cell} → SpellsExpr level.Sum d e ts → SpellsExpr level.BitOr d e ts
bits s = alone refl (alone refl (alone refl (alone refl s)))

whole : {d : ℕ} {e : Tree} {ts : List Cell} → SpellsExpr level.BitOr d e ts → SpellsExpr level.Whole d e ts
whole s = alone refl (alone refl (alone refl (alone refl s)))

-- `9 - 4 - 3` is `(9 - 4) - 3`, and brackets leave no node.
grouped : SpellsExpr level.Sum 0 (Binary binary.Sub (Binary binary.Sub (Const (lit.Plain 9)) (Const (lit.Plain 4))) (Const (lit.Plain 3)))
    (node (Num 9) ∷ node (Mark mark.MINUS) ∷ node (Num 4) ∷ node (Mark mark.MINUS) ∷ node (Num 3) ∷ [])
grouped = joined (node (Num 9) ∷ node (Mark mark.MINUS) ∷ node (Num 4) ∷ []) (node (Num 3) ∷ []) refl refl
    (joined (node (Num 9) ∷ []) (node (Num 4) ∷ []) refl refl (sum (term literal)) (term literal)) (term literal)

-- `(a) < !b`: what is in brackets and behind `!` has a nesting of 1.
nested : SpellsExpr level.Comparison 0 (Binary binary.Lt (Name a) (Unary Not (Name b)))
    (opening 1 (Mark mark.OPENING_PARENTHESIS) ∷ node (Word a) ∷ plain (Mark mark.CLOSING_PARENTHESIS) ∷ node (Mark mark.LESS) ∷ opening_node 1 (Mark mark.NOT) ∷ node (Word b) ∷ [])
nested = compared (opening 1 (Mark mark.OPENING_PARENTHESIS) ∷ node (Word a) ∷ plain (Mark mark.CLOSING_PARENTHESIS) ∷ []) (opening_node 1 (Mark mark.NOT) ∷ node (Word b) ∷ []) refl refl
    (bits (sum (term (brackets (node (Word a) ∷ []) (whole (bits (sum (term (named refl)))))))))
    (bits (sum (term (signed (node (Word b) ∷ []) (named refl)))))

-- `a + b << 2`: sums bind more tightly than shifts, whose amount is no node.
moved : SpellsExpr level.Shift 0 (Shift Left (Binary binary.Add (Name a) (Name b)) 2)
    (node (Word a) ∷ node (Mark mark.PLUS) ∷ node (Word b) ∷ node (Mark mark.SHIFT_LEFT) ∷ plain (Num 2) ∷ [])
moved = shifted (node (Word a) ∷ node (Mark mark.PLUS) ∷ node (Word b) ∷ []) (alone refl (joined (node (Word a) ∷ []) (node (Word b) ∷ []) refl refl (sum (term (named refl))) (term (named refl))))

-- `if u8(a) then b[1] else b`
picked : SpellsExpr level.Whole 0 (If (Convert ty.U8 (Name a)) (Look b (Const (lit.Plain 1))) (Name b))
    (opening_node 1 (Word (codes "if")) ∷ opening_node 2 (Word (codes "u8")) ∷ plain (Mark mark.OPENING_PARENTHESIS) ∷ node (Word a) ∷ plain (Mark mark.CLOSING_PARENTHESIS)
    ∷ plain (Word (codes "then")) ∷ node (Word b) ∷ opening 2 (Mark mark.OPENING_BRACKET) ∷ node (Num 1) ∷ plain (Mark mark.CLOSING_BRACKET)
    ∷ plain (Word (codes "else")) ∷ node (Word b) ∷ [])
picked = chosen _ _ _
    (whole (bits (sum (term (converted {to = ty.U8} (node (Word a) ∷ []) refl (whole (bits (sum (term (named refl))))))))))
    (whole (bits (sum (term (looked (node (Num 1) ∷ []) refl (whole (bits (sum (term literal)))))))))
    (whole (bits (sum (term (named refl)))))

-- `let a : u8 = table { 7, 8w };`: its entries are numbered.
pair : SpellsDecl (record { name = a; ty = ty.U8; behaviour = Table (lit.Plain 7 ∷ lit.Wide 8 ∷ []) })
    (starting Definitions (Word (codes "let")) ∷ plain (Word a) ∷ plain (Mark mark.COLON) ∷ plain (Word (codes "u8")) ∷ plain (Mark mark.EQUALS) ∷ plain (Word (codes "table"))
    ∷ plain (Mark mark.OPENING_BRACE) ∷ entry_cell 1 (Num 7) ∷ plain (Mark mark.COMMA) ∷ entry_cell 2 (Wide 8) ∷ plain (Mark mark.CLOSING_BRACE) ∷ plain (Mark mark.SEMICOLON) ∷ [])
pair = record { value = _; name = refl; spelled = table; whole = refl }

-- `let b : bool = init true in { a => !b later; };`
clause : SpellsClause (record { event = a; expr = Unary Not (Name b); later = true })
    (plain (Word a) ∷ plain (Mark mark.ARROW) ∷ opening_node 1 (Mark mark.NOT) ∷ node (Word b) ∷ plain (Word (codes "later")) ∷ plain (Mark mark.SEMICOLON) ∷ [])
clause = record { value = opening_node 1 (Mark mark.NOT) ∷ node (Word b) ∷ []; event = refl; spelled = whole (bits (sum (term (signed (node (Word b) ∷ []) (named refl))))); whole = refl }

-- The tokens of `9 - 4 - 3` begin five nodes.
nodes : count_of Nodes (node (Num 9) ∷ node (Mark mark.MINUS) ∷ node (Num 4) ∷ node (Mark mark.MINUS) ∷ node (Num 3) ∷ []) ≡ 5
nodes = refl

-- The empty text is a program.
empty : HasTree (record { events = []; setups = []; decls = []; outputs = [] }) []
empty = record { cells = []; spelled = record { events = []; setups = []; decls = []; outputs = []; spelled_events = none; spelled_setups = none; spelled_decls = none; spelled_outputs = none; whole = refl }; tokens = refl }
