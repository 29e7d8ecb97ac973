-- The grammar: which cells spell which tree. No rule speaks of limits.
use Rattle.std.specs.Prelude.{◌≡◌, ℕ, suc, Bool, true, false, List, [], ◌∷◌, ◌++◌, codes}
use Rattle.std.specs.List.{AllByRecursion}
use Rattle.frp_tree.specs.declared.kinds.Kind.TheVariants.{Events, Setups, Definitions, Outputs}
use Rattle.frp_tree.specs.declared.syntax.Ty.{Ty}
use Rattle.frp_tree.specs.declared.syntax.Lit.{Lit}
use Rattle.frp_tree.specs.declared.syntax.UnOp.{UnOp}
use Rattle.frp_tree.specs.declared.syntax.BinOp.{BinOp}
use Rattle.frp_tree.specs.declared.syntax.Side.{Side}
use Rattle.frp_tree.specs.declared.syntax.Event.{Event}
use Rattle.frp_tree.specs.declared.syntax.Setup.{Setup}
use Rattle.frp_tree.specs.declared.levels.Level.{Level}
use Rattle.frp_tree.specs.declared.levels.Level.TheVariants as level
use Rattle.frp_tree.specs.declared.marks.TheConstants as mark
use Rattle.frp_tree.specs.declared.tokens.Token.{Token}
use Rattle.frp_tree.specs.declared.tokens.Token.TheVariants.{Word, Num, Mark}
use Rattle.frp_tree.specs.Names.{type_name, is_keyword}
use Rattle.frp_tree.specs.Limits.{is_number_type}
use Rattle.frp_tree.specs.Tokens.{Cuts, IsWithin, HasTokens}
use Rattle.frp_tree.specs.Tree.{Tree, Const, Name, Unary, Binary, Shift, If, Convert, Look, ClauseTree, BehaviourTree, Plain, Input, Table, Reactive, DeclTree, OutputTree, ProgramTree}
use Rattle.frp_tree.specs.Levels.{tighter, is_operand, repeats, level_of, mark_of, mark_of_shift, mark_of_sign}
use Rattle.frp_tree.specs.Cells.{Cell, plain, starting, node, opening_node, opening, entry_cell, tokens_of, literal_token, IsWithinLimits}

-- A keyword, or another word; and a mark.
abbrev pub word : List ℕ → Cell
word w = plain (Word w)

abbrev pub sign : ℕ → Cell
sign number = plain (Mark number)

-- The cells of an expression of a level, at a nesting.
pub data SpellsExpr : Level → ℕ → Tree → List Cell → Type 0 where
  -- NUM, WIDE, true, false
  literal : {d : ℕ} {l : Lit} → SpellsExpr level.Operand d (Const l) (node (literal_token l) ∷ [])
  -- NAME
  named : {d : ℕ} {x : List ℕ} → is_keyword x ≡ false → SpellsExpr level.Operand d (Name x) (node (Word x) ∷ [])
  -- NAME [ expression ]
  looked : {d : ℕ} {x : List ℕ} {e : Tree} (ts : List Cell) → is_keyword x ≡ false → SpellsExpr level.Whole (suc d) e ts
      → SpellsExpr level.Operand d (Look x e) (node (Word x) ∷ opening (suc d) (Mark mark.OPENING_BRACKET) ∷ (ts ++ sign mark.CLOSING_BRACKET ∷ []))
  -- ( expression )
  brackets : {d : ℕ} {e : Tree} (ts : List Cell) → SpellsExpr level.Whole (suc d) e ts
      → SpellsExpr level.Operand d e (opening (suc d) (Mark mark.OPENING_PARENTHESIS) ∷ (ts ++ sign mark.CLOSING_PARENTHESIS ∷ []))
  -- ~ operand, ! operand
  signed : {d : ℕ} {op : UnOp} {e : Tree} (ts : List Cell) → SpellsExpr level.Operand (suc d) e ts
      → SpellsExpr level.Operand d (Unary op e) (opening_node (suc d) (Mark (mark_of_sign op)) ∷ ts)
  -- u8 ( expression ), u16 ( expression )
  converted : {d : ℕ} {to : Ty} {e : Tree} (ts : List Cell) → is_number_type to ≡ true → SpellsExpr level.Whole (suc d) e ts
      → SpellsExpr level.Operand d (Convert to e) (opening_node (suc d) (Word (type_name to)) ∷ sign mark.OPENING_PARENTHESIS ∷ (ts ++ sign mark.CLOSING_PARENTHESIS ∷ []))
  -- if expression then expression else expression
  chosen : {d : ℕ} {c a b : Tree} (ts us vs : List Cell) → SpellsExpr level.Whole (suc d) c ts → SpellsExpr level.Whole (suc d) a us → SpellsExpr level.Whole (suc d) b vs
      → SpellsExpr level.Whole d (If c a b) (opening_node (suc d) (Word (codes "if")) ∷ (ts ++ word (codes "then") ∷ (us ++ word (codes "else") ∷ vs)))
  -- shift << NUM, shift >> NUM
  shifted : {d : ℕ} {side : Side} {e : Tree} {n : ℕ} (ts : List Cell) → SpellsExpr level.Shift d e ts
      → SpellsExpr level.Shift d (Shift side e n) (ts ++ node (Mark (mark_of_shift side)) ∷ plain (Num n) ∷ [])
  -- An operator of a level that repeats: its left operand is of its own level, its right one of the next tighter.
  joined : {l : Level} {d : ℕ} {op : BinOp} {a b : Tree} (ts us : List Cell) → level_of op ≡ l → repeats l ≡ true → SpellsExpr l d a ts → SpellsExpr (tighter l) d b us
      → SpellsExpr l d (Binary op a b) (ts ++ node (Mark (mark_of op)) ∷ us)
  -- An operator of one that doesn't: both are of the next tighter.
  compared : {l : Level} {d : ℕ} {op : BinOp} {a b : Tree} (ts us : List Cell) → level_of op ≡ l → repeats l ≡ false → SpellsExpr (tighter l) d a ts → SpellsExpr (tighter l) d b us
      → SpellsExpr l d (Binary op a b) (ts ++ node (Mark (mark_of op)) ∷ us)
  -- An expression of the next tighter level.
  alone : {l : Level} {d : ℕ} {e : Tree} {ts : List Cell} → is_operand l ≡ false → SpellsExpr (tighter l) d e ts → SpellsExpr l d e ts

-- Things one after another.
pub data Row {A : Type 0} (Item : A → List Cell → Type 0) : List A → List Cell → Type 0 where
  none : Row Item [] []
  next : {x : A} {xs : List A} (first rest : List Cell) → Item x first → Row Item xs rest → Row Item (x ∷ xs) (first ++ rest)

-- event NAME = NAME priority NUM ;
pub record SpellsEvent (e : Event) (cells : List Cell) : Type 0 where
  pub name : is_keyword e.name ≡ false
  pub source : is_keyword e.source ≡ false
  pub whole : cells ≡ starting Events (Word (codes "event")) ∷ word e.name ∷ sign mark.EQUALS ∷ word e.source ∷ word (codes "priority") ∷ plain (Num e.priority) ∷ sign mark.SEMICOLON ∷ []

-- setup NAME = NUM ;
pub record SpellsSetup (s : Setup) (cells : List Cell) : Type 0 where
  pub register : is_keyword s.register ≡ false
  pub whole : cells ≡ starting Setups (Word (codes "setup")) ∷ word s.register ∷ sign mark.EQUALS ∷ plain (Num s.byte) ∷ sign mark.SEMICOLON ∷ []

abbrev pub later_cells : Bool → List Cell
later_cells true = word (codes "later") ∷ []
later_cells false = []

-- NAME => expression ; or NAME => expression later ;
pub record SpellsClause (c : ClauseTree) (cells : List Cell) : Type 0 where
  pub value : List Cell
  pub event : is_keyword c.event ≡ false
  pub spelled : SpellsExpr level.Whole 0 c.expr value
  pub whole : cells ≡ word c.event ∷ sign mark.ARROW ∷ (value ++ (later_cells c.later ++ sign mark.SEMICOLON ∷ []))

-- The entries of a table behind its first one, of which this many stand before.
abbrev pub more_entries : ℕ → List Lit → List Cell
more_entries before [] = []
more_entries before (l ∷ ls) = sign mark.COMMA ∷ entry_cell (suc before) (literal_token l) ∷ more_entries (suc before) ls

-- What stands behind the = of a definition.
pub data SpellsBehaviour : BehaviourTree → List Cell → Type 0 where
  -- expression
  plainly : {e : Tree} {ts : List Cell} → SpellsExpr level.Whole 0 e ts → SpellsBehaviour (Plain e) ts
  -- input NAME
  input : {port : List ℕ} → is_keyword port ≡ false → SpellsBehaviour (Input port) (word (codes "input") ∷ word port ∷ [])
  -- table { literal , literal .. }
  table : {l : Lit} {ls : List Lit} → SpellsBehaviour (Table (l ∷ ls))
      (word (codes "table") ∷ sign mark.OPENING_BRACE ∷ entry_cell 1 (literal_token l) ∷ (more_entries 1 ls ++ sign mark.CLOSING_BRACE ∷ []))
  -- init literal in { clauses }
  reactive : {l : Lit} {clauses : List ClauseTree} (ts : List Cell) → Row SpellsClause clauses ts → SpellsBehaviour (Reactive l clauses)
      (word (codes "init") ∷ plain (literal_token l) ∷ word (codes "in") ∷ sign mark.OPENING_BRACE ∷ (ts ++ sign mark.CLOSING_BRACE ∷ []))

-- let NAME : type = behaviour ;
pub record SpellsDecl (d : DeclTree) (cells : List Cell) : Type 0 where
  pub value : List Cell
  pub name : is_keyword d.name ≡ false
  pub spelled : SpellsBehaviour d.behaviour value
  pub whole : cells ≡ starting Definitions (Word (codes "let")) ∷ word d.name ∷ sign mark.COLON ∷ word (type_name d.ty) ∷ sign mark.EQUALS ∷ (value ++ sign mark.SEMICOLON ∷ [])

-- output NAME = expression ;
pub record SpellsOutput (o : OutputTree) (cells : List Cell) : Type 0 where
  pub value : List Cell
  pub port : is_keyword o.port ≡ false
  pub spelled : SpellsExpr level.Whole 0 o.expr value
  pub whole : cells ≡ starting Outputs (Word (codes "output")) ∷ word o.port ∷ sign mark.EQUALS ∷ (value ++ sign mark.SEMICOLON ∷ [])

-- Events, setups, definitions, outputs.
pub record SpellsProgram (p : ProgramTree) (cells : List Cell) : Type 0 where
  pub events : List Cell
  pub setups : List Cell
  pub decls : List Cell
  pub outputs : List Cell
  pub spelled_events : Row SpellsEvent p.events events
  pub spelled_setups : Row SpellsSetup p.setups setups
  pub spelled_decls : Row SpellsDecl p.decls decls
  pub spelled_outputs : Row SpellsOutput p.outputs outputs
  pub whole : cells ≡ events ++ (setups ++ (decls ++ outputs))

-- These tokens have this tree, limits disregarded; and within the limits.
pub record HasTree (p : ProgramTree) (ts : List Token) : Type 0 where
  pub cells : List Cell
  pub spelled : SpellsProgram p cells
  pub tokens : tokens_of cells ≡ ts

pub record HasTreeWithin (p : ProgramTree) (ts : List Token) : Type 0 where
  pub cells : List Cell
  pub spelled : SpellsProgram p cells
  pub tokens : tokens_of cells ≡ ts
  pub within : IsWithinLimits cells

-- A text spells a program: its tokens have that tree, within the limits.
pub record Spells (text : List ℕ) (p : ProgramTree) : Type 0 where
  pub tokens : List Token
  pub cut : HasTokens text tokens
  pub tree : HasTreeWithin p tokens

-- The same of a text of any length.
pub record SpellsUnbounded (text : List ℕ) (p : ProgramTree) : Type 0 where
  pub tokens : List Token
  pub last : Bool
  pub cut : Cuts false text tokens last []
  pub within : AllByRecursion IsWithin tokens
  pub tree : HasTreeWithin p tokens
