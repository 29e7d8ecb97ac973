-- The kinds of phrases that items are made of, and what may follow a row of things.
use Rattle.std.specs.Prelude.{◌≡◌, ℕ, Bool, false, List, [], ◌∷◌, ◌++◌, length, codes, Option, Some}
use Rattle.frp_tree.specs.declared.kinds.Kind.{Kind}
use Rattle.frp_tree.specs.declared.levels.Level.TheVariants as level
use Rattle.frp_tree.specs.declared.marks.TheConstants as mark
use Rattle.frp_tree.specs.declared.syntax.Lit.{Lit}
use Rattle.frp_tree.specs.declared.syntax.Ty.{Ty}
use Rattle.frp_tree.specs.declared.tokens.Token.{Token}
use Rattle.frp_tree.specs.declared.tokens.Token.TheVariants.{Word, Num, Mark}
use Rattle.frp_tree.specs.Names.{type_name, is_keyword}
use Rattle.frp_tree.specs.Tree.{BehaviourTree, Plain, Input, Table, Reactive}
use Rattle.frp_tree.specs.Cells.{Cell, plain, starting, entry_cell, literal_token}
use Rattle.frp_tree.specs.Grammar.{word, sign, SpellsExpr, Row, SpellsClause, later_cells, more_entries}
use Rattle.efrp_syntax.specs.Answers.{head, One, Tok, Done, Seq}

-- The next token is this word; or this mark; or a name.
abbrev pub StartsWord : List ℕ → Option Token → Type 0
StartsWord w next = next ≡ Some (Word w)

abbrev pub StartsMark : ℕ → Option Token → Type 0
StartsMark k next = next ≡ Some (Mark k)

abbrev pub StartsName : Option Token → Type 0
StartsName next = (x : List ℕ) × (is_keyword x ≡ false) × (next ≡ Some (Word x))

-- What may follow a row of things that begin so, which goes on as long as it can.
abbrev pub Ends : (Option Token → Type 0) → List Token → Type 0
Ends P c = P (head c) → ⊥

-- What follows the last item, and what follows a definition's behaviour.
abbrev pub IsEnd : List Token → Type 0
IsEnd c = c ≡ []

abbrev pub EndsItem : List Token → Type 0
EndsItem c = head c ≡ Some (Mark mark.SEMICOLON)

-- A name, a number, a literal, and a type's word.
abbrev pub NameOf : List ℕ → List Cell → Type 0
NameOf = One (λ x. word x) (λ x. is_keyword x ≡ false)

abbrev pub NumberOf : ℕ → List Cell → Type 0
NumberOf = One (λ n. plain (Num n)) (λ n. Unit {0})

abbrev pub LiteralOf : Lit → List Cell → Type 0
LiteralOf = One (λ l. plain (literal_token l)) (λ l. Unit {0})

abbrev pub TypeOf : Ty → List Cell → Type 0
TypeOf = One (λ t. word (type_name t)) (λ t. Unit {0})

-- KEYWORD NAME =
abbrev pub HeaderOf : Kind → List ℕ → List ℕ → List Cell → Type 0
HeaderOf kind w = Seq (Tok (starting kind (Word w))) (λ u. Seq NameOf (λ x. Seq (Tok (sign mark.EQUALS)) (λ v. Done x)))

-- NUM ;
abbrev pub LastNumber : ℕ → List Cell → Type 0
LastNumber = Seq NumberOf (λ n. Seq (Tok (sign mark.SEMICOLON)) (λ u. Done n))

-- `later`, or nothing.
abbrev pub Later : Bool → List Cell → Type 0
Later later w = w ≡ later_cells later

-- , literal; of this number.
abbrev pub EntryOf : ℕ → Lit → List Cell → Type 0
EntryOf number = Seq (Tok (sign mark.COMMA)) (λ u. One (λ l. entry_cell number (literal_token l)) (λ l. Unit {0}))

-- The entries of a table behind some first ones.
pub record EntriesBehind (front : List Lit) (ls : List Lit) (w : List Cell) : Type 0 where
  pub more : List Lit
  pub whole : ls ≡ front ++ more
  pub cells : w ≡ more_entries (length front) more

-- The forms of a behaviour.
abbrev pub PlainForm : BehaviourTree → List Cell → Type 0
PlainForm = Seq (SpellsExpr level.Whole 0) (λ e. Done (Plain e))

abbrev pub InputForm : BehaviourTree → List Cell → Type 0
InputForm = Seq (Tok (word (codes "input"))) (λ u. Seq NameOf (λ x. Done (Input x)))

abbrev pub FirstEntry : Lit → List Cell → Type 0
FirstEntry = One (λ l. entry_cell 1 (literal_token l)) (λ l. Unit {0})

abbrev pub TableForm : BehaviourTree → List Cell → Type 0
TableForm = Seq (Tok (word (codes "table"))) (λ u. Seq (Tok (sign mark.OPENING_BRACE)) (λ v. Seq FirstEntry (λ l. Seq (EntriesBehind (l ∷ [])) (λ ls. Seq (Tok (sign mark.CLOSING_BRACE)) (λ x. Done (Table ls))))))

abbrev pub ReactiveForm : BehaviourTree → List Cell → Type 0
ReactiveForm = Seq (Tok (word (codes "init"))) (λ u. Seq LiteralOf (λ l. Seq (Tok (word (codes "in"))) (λ v. Seq (Tok (sign mark.OPENING_BRACE)) (λ x. Seq (Row SpellsClause) (λ cs. Seq (Tok (sign mark.CLOSING_BRACE)) (λ y. Done (Reactive l cs)))))))
