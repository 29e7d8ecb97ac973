-- The printed form of a program: the fewest brackets, a line for each item, and one space between tokens.
use Rattle.std.specs.Prelude.{ℕ, Bool, true, false, List, [], ◌∷◌, ◌++◌, codes, map, get_or, nat_lt, if◌then◌else◌}
use Rattle.std.specs.List.{flat_map}
use Rattle.std.specs.Fmt.{decimal}
use Rattle.frp_tree.specs.declared.syntax.Lit.{Lit}
use Rattle.frp_tree.specs.declared.syntax.Event.{Event}
use Rattle.frp_tree.specs.declared.syntax.Setup.{Setup}
use Rattle.frp_tree.specs.declared.levels.Level.{Level}
use Rattle.frp_tree.specs.declared.levels.Level.TheVariants as level
use Rattle.frp_tree.specs.declared.marks.TheConstants as mark
use Rattle.frp_tree.specs.declared.tokens.Token.{Token}
use Rattle.frp_tree.specs.declared.tokens.Token.TheVariants.{Word, Num, Wide, Mark}
use Rattle.frp_tree.specs.Names.{type_name}
use Rattle.frp_tree.specs.Tokens.{marks}
use Rattle.frp_tree.specs.Tree.{Tree, Const, Name, Unary, Binary, Shift, If, Convert, Look, ClauseTree, BehaviourTree, Plain, Input, Table, Reactive, DeclTree, OutputTree, ProgramTree}
use Rattle.frp_tree.specs.Levels.{height, tighter, repeats, level_of, mark_of, mark_of_shift, mark_of_sign}
use Rattle.frp_tree.specs.Cells.{literal_token}

-- The tightest level that has the expression with no brackets round it.
abbrev pub own : Tree → Level
own (Const l) = level.Operand
own (Name x) = level.Operand
own (Unary op a) = level.Operand
own (Binary op a b) = level_of op
own (Shift side a n) = level.Shift
own (If c a b) = level.Whole
own (Convert to a) = level.Operand
own (Look x e) = level.Operand

-- Whether the expression has brackets where a level stands.
abbrev pub needs : Level → Tree → Bool
needs l e = nat_lt (height (own e)) (height l)

abbrev pub wrapped : Bool → List Token → List Token
wrapped true ts = Mark mark.OPENING_PARENTHESIS ∷ (ts ++ Mark mark.CLOSING_PARENTHESIS ∷ [])
wrapped false ts = ts

-- The level of an operator's left operand; the right one is of the next tighter level.
abbrev pub left_level : Level → Level
left_level l = if repeats l then l else tighter l

-- The tokens of an expression with no brackets round it.
abbrev pub bare : Tree → List Token
bare (Const l) = literal_token l ∷ []
bare (Name x) = Word x ∷ []
bare (Unary op a) = Mark (mark_of_sign op) ∷ wrapped (needs level.Operand a) (bare a)
bare (Binary op a b) = wrapped (needs (left_level (level_of op)) a) (bare a) ++ Mark (mark_of op) ∷ wrapped (needs (tighter (level_of op)) b) (bare b)
bare (Shift side a n) = wrapped (needs level.Shift a) (bare a) ++ Mark (mark_of_shift side) ∷ Num n ∷ []
bare (If c a b) = Word (codes "if") ∷ (bare c ++ Word (codes "then") ∷ (bare a ++ Word (codes "else") ∷ bare b))
bare (Convert to a) = Word (type_name to) ∷ Mark mark.OPENING_PARENTHESIS ∷ (bare a ++ Mark mark.CLOSING_PARENTHESIS ∷ [])
bare (Look x e) = Word x ∷ Mark mark.OPENING_BRACKET ∷ (bare e ++ Mark mark.CLOSING_BRACKET ∷ [])

-- The tokens of an expression where a level stands.
abbrev pub shown : Level → Tree → List Token
shown l e = wrapped (needs l e) (bare e)

-- The items, each without the semicolon at its end.
abbrev pub event_item : Event → List Token
event_item e = Word (codes "event") ∷ Word e.name ∷ Mark mark.EQUALS ∷ Word e.source ∷ Word (codes "priority") ∷ Num e.priority ∷ []

abbrev pub setup_item : Setup → List Token
setup_item s = Word (codes "setup") ∷ Word s.register ∷ Mark mark.EQUALS ∷ Num s.byte ∷ []

abbrev pub later_tokens : Bool → List Token
later_tokens true = Word (codes "later") ∷ []
later_tokens false = []

abbrev pub clause_tokens : ClauseTree → List Token
clause_tokens c = Word c.event ∷ Mark mark.ARROW ∷ (bare c.expr ++ (later_tokens c.later ++ Mark mark.SEMICOLON ∷ []))

-- The entries of a table, with commas between them.
abbrev pub more_entry_tokens : Lit → List Token
more_entry_tokens l = Mark mark.COMMA ∷ literal_token l ∷ []

abbrev pub entry_tokens : List Lit → List Token
entry_tokens [] = []
entry_tokens (l ∷ ls) = literal_token l ∷ flat_map more_entry_tokens ls

abbrev pub behaviour_tokens : BehaviourTree → List Token
behaviour_tokens (Plain e) = bare e
behaviour_tokens (Input port) = Word (codes "input") ∷ Word port ∷ []
behaviour_tokens (Table ls) = Word (codes "table") ∷ Mark mark.OPENING_BRACE ∷ (entry_tokens ls ++ Mark mark.CLOSING_BRACE ∷ [])
behaviour_tokens (Reactive l clauses) = Word (codes "init") ∷ literal_token l ∷ Word (codes "in") ∷ Mark mark.OPENING_BRACE ∷ (flat_map clause_tokens clauses ++ Mark mark.CLOSING_BRACE ∷ [])

abbrev pub decl_item : DeclTree → List Token
decl_item d = Word (codes "let") ∷ Word d.name ∷ Mark mark.COLON ∷ Word (type_name d.ty) ∷ Mark mark.EQUALS ∷ behaviour_tokens d.behaviour

abbrev pub output_item : OutputTree → List Token
output_item o = Word (codes "output") ∷ Word o.port ∷ Mark mark.EQUALS ∷ bare o.expr

abbrev pub items : ProgramTree → List (List Token)
items p = map event_item p.events ++ (map setup_item p.setups ++ (map decl_item p.decls ++ map output_item p.outputs))

-- How a token is written.
abbrev pub spelling : Token → List ℕ
spelling (Word w) = w
spelling (Num n) = decimal n
spelling (Wide n) = decimal n ++ codes "w"
spelling (Mark k) = get_or marks k []

-- Each token and a space; and the line of an item, to which its semicolon and LF belong.
abbrev pub spaced : List Token → List ℕ
spaced ts = flat_map (λ t. spelling t ++ codes " ") ts

abbrev pub line : List Token → List ℕ
line item = spaced item ++ codes ";\n"

-- The text of a program, and its tokens.
abbrev pub printed : ProgramTree → List ℕ
printed p = flat_map line (items p)

abbrev pub printed_tokens : ProgramTree → List Token
printed_tokens p = flat_map (λ item. item ++ Mark mark.SEMICOLON ∷ []) (items p)
