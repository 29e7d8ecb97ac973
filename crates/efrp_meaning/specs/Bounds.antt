-- What a program may cost: bounds on words, bytes of RAM and steps, from weights of its expressions.
use Rattle.std.specs.Prelude.{ℕ, ◌+◌, ◌*◌, ◌≤◌, max, ◌==◌, List, [], ◌∷◌, length, map, sum_by, Option, Some, if◌then◌else◌}
use Rattle.std.specs.List.{list_any}
use Rattle.frp_tree.specs.declared.syntax.Ty.{Ty}
use Rattle.frp_tree.specs.declared.syntax.Ty.TheVariants as ty
use Rattle.frp_tree.specs.declared.syntax.UnOp.{UnOp}
use Rattle.frp_tree.specs.declared.syntax.UnOp.TheVariants.{Com, Not}
use Rattle.frp_tree.specs.declared.syntax.BinOp.{BinOp}
use Rattle.frp_tree.specs.declared.syntax.BinOp.TheVariants.{Or, And, Eq, Ne, Lt, Le, Gt, Ge, BitOr, BitXor, BitAnd, Add, Sub, Mul, Div, Rem}
use Rattle.frp_tree.specs.Tree.{Tree, Const, Name, Unary, Binary, Shift, If, Convert, Look, BehaviourTree, Plain, Input, Table, Reactive, ProgramTree}
use Rattle.efrp_meaning.specs.Types.{type_of}
use Rattle.efrp_meaning.specs.Needs.{needed, inputs_needed}

-- The bytes of a value of this type.
abbrev pub type_bytes : Ty → ℕ
type_bytes ty.Bool = 1
type_bytes ty.U8 = 1
type_bytes ty.U16 = 2

-- One weight for results or operands of one byte, and another for two.
abbrev pub by_width : Option Ty → ℕ → ℕ → ℕ
by_width (Some ty.U16) narrow wide = wide
by_width _ narrow wide = narrow

abbrev pub unary_weight : UnOp → Option Ty → ℕ
unary_weight Com a = by_width a 8 16
unary_weight Not a = 16

-- The weight of an operator by the type of its left operand, which is that of both.
abbrev pub binary_weight : BinOp → Option Ty → ℕ
binary_weight Or a = 16
binary_weight And a = 16
binary_weight Eq a = by_width a 24 64
binary_weight Ne a = by_width a 24 64
binary_weight Lt a = by_width a 24 64
binary_weight Le a = by_width a 24 64
binary_weight Gt a = by_width a 24 64
binary_weight Ge a = by_width a 24 64
binary_weight BitOr a = by_width a 12 24
binary_weight BitXor a = by_width a 12 24
binary_weight BitAnd a = by_width a 12 24
binary_weight Add a = by_width a 16 48
binary_weight Sub a = by_width a 16 48
binary_weight Mul a = by_width a 64 320
binary_weight Div a = by_width a 192 800
binary_weight Rem a = by_width a 192 800

-- The weight of an expression, in words or steps: the sum of the weights of its nodes.
abbrev pub weight : ProgramTree → Tree → ℕ
weight p (Const literal) = by_width (type_of p (Const literal)) 4 8
weight p (Name name) = by_width (type_of p (Name name)) 6 12
weight p (Unary op a) = unary_weight op (type_of p a) + weight p a
weight p (Binary op a b) = binary_weight op (type_of p a) + (weight p a + weight p b)
weight p (Shift side a amount) = by_width (type_of p a) 32 80 + weight p a
weight p (If c a b) = by_width (type_of p a) 24 40 + (weight p c + (weight p a + weight p b))
weight p (Convert to a) = 12 + weight p a
weight p (Look table index) = by_width (type_of p (Look table index)) 40 80 + weight p index

-- The bytes of the results of all nodes of an expression.
abbrev pub result_bytes : ProgramTree → Tree → ℕ
result_bytes p (Const literal) = by_width (type_of p (Const literal)) 1 2
result_bytes p (Name name) = by_width (type_of p (Name name)) 1 2
result_bytes p (Unary op a) = by_width (type_of p (Unary op a)) 1 2 + result_bytes p a
result_bytes p (Binary op a b) = by_width (type_of p (Binary op a b)) 1 2 + (result_bytes p a + result_bytes p b)
result_bytes p (Shift side a amount) = by_width (type_of p (Shift side a amount)) 1 2 + result_bytes p a
result_bytes p (If c a b) = by_width (type_of p (If c a b)) 1 2 + (result_bytes p c + (result_bytes p a + result_bytes p b))
result_bytes p (Convert to a) = by_width (type_of p (Convert to a)) 1 2 + result_bytes p a
result_bytes p (Look table index) = by_width (type_of p (Look table index)) 1 2 + result_bytes p index

-- The bytes of the states: one for each reactive definition of a bool or a u8, two for each of a u16.
abbrev pub bytes_in : Ty → BehaviourTree → ℕ
bytes_in t (Plain e) = 0
bytes_in t (Input port) = 0
bytes_in t (Table entries) = 0
bytes_in t (Reactive init clauses) = type_bytes t

abbrev pub state_bytes : ProgramTree → ℕ
state_bytes p = sum_by (λ d. bytes_in d.ty d.behaviour) p.decls

-- The words of the tables: for each byte of a value one word an entry, and 16 more.
abbrev pub words_in : Ty → BehaviourTree → ℕ
words_in t (Plain e) = 0
words_in t (Input port) = 0
words_in t (Table entries) = type_bytes t * (length entries + 16)
words_in t (Reactive init clauses) = 0

abbrev pub table_words : ProgramTree → ℕ
table_words p = sum_by (λ d. words_in d.ty d.behaviour) p.decls

-- How many distinct numbers there are.
abbrev pub distinct : List ℕ → ℕ
distinct [] = 0
distinct (n ∷ ns) = if list_any (λ m. m == n) ns then distinct ns else 1 + distinct ns

abbrev pub levels : ProgramTree → ℕ
levels p = distinct (map (λ e. e.priority) p.events)

-- The greatest number, 0 where there is none.
abbrev pub greatest : List ℕ → ℕ
greatest [] = 0
greatest (n ∷ ns) = max n (greatest ns)

-- The bytes that a commit copies: those of the states, and one for each output.
abbrev pub commit_bytes : ProgramTree → ℕ
commit_bytes p = state_bytes p + length p.outputs

-- The weight of all that an event needs: of its expressions, and 6 for each input.
abbrev pub body : ProgramTree → List ℕ → ℕ
body p event = sum_by (weight p) (needed p event) + 6 * length (inputs_needed p event)

-- The bytes of scratch of an event: those of the results of all that it needs, and one for each input.
abbrev pub scratch_bytes : ProgramTree → List ℕ → ℕ
scratch_bytes p event = sum_by (result_bytes p) (needed p event) + length (inputs_needed p event)

-- In steps: a bound on each stretch with interrupts off; and one on the boot, to which two more come up to the ready boundary.
abbrev pub off : ProgramTree → ℕ
off p = 80 + 16 * length p.events + 6 * commit_bytes p

abbrev pub boot : ProgramTree → ℕ
boot p = 48 + 4 * state_bytes p + 4 * length p.setups

-- In words: a bound on the whole image.
abbrev pub words_bound : ProgramTree → ℕ
words_bound p = 64 + 16 * length p.events + boot p + sum_by (λ e. 128 + body p e.name + 6 * commit_bytes p) p.events + table_words p

-- In bytes of general RAM: a bound on states, six for each level, and scratch.
abbrev pub ram_bound : ProgramTree → ℕ
ram_bound p = state_bytes p + 6 * levels p + greatest (map (λ e. scratch_bytes p e.name) p.events)

-- In steps: a bound on the way from an arrival to its commit where nothing of its own or a higher priority is about.
abbrev pub response : ProgramTree → List ℕ → ℕ
response p event = 3 * off p + body p event

-- In steps: a bound on the way from the last arrival until all have reacted.
abbrev pub settle_bound : ProgramTree → ℕ
settle_bound p = boot p + 2 + sum_by (λ e. 3 * body p e.name + 4 * off p) p.events

-- The program fits the chip: at most 8 levels, 352 bytes of RAM and 8,192 words by the bounds.
pub record Fits (p : ProgramTree) : Type 0 where
  pub levels_fit : levels p ≤ 8
  pub ram_fits : ram_bound p ≤ 352
  pub words_fit : words_bound p ≤ 8192
