-- The names in each kind of expression, and what events need.
use Rattle.std.specs.Prelude.{◌≡◌, ℕ, List, [], ◌∷◌, map, codes, refl}
use Rattle.frp_tree.specs.declared.syntax.Ty.TheVariants.{U8, U16}
use Rattle.frp_tree.specs.declared.syntax.Lit.TheVariants as lit
use Rattle.frp_tree.specs.declared.syntax.UnOp.TheVariants.{Com}
use Rattle.frp_tree.specs.declared.syntax.BinOp.TheVariants.{Add}
use Rattle.frp_tree.specs.declared.syntax.Side.TheVariants.{Left}
use Rattle.frp_tree.specs.Tree.{Tree, Name, Unary, Binary, Shift, If, Convert, Look, ProgramTree}
use Rattle.efrp_meaning.specs.Needs.{names_in, reacting, plain_reached, first_needed, needed_plain, needed}
use Rattle.efrp_meaning.specs.Bounds.{body}
use Rattle.efrp_meaning.proofs.Examples.Programs.{small, plain, reactive, clause, output, on_go, squares, motor, go, tick}

abbrev a : Tree
a = Name (codes "a")

abbrev b : Tree
b = Name (codes "b")

abbrev c : Tree
c = Name (codes "c")

abbrev one_name : List (List ℕ)
one_name = codes "a" ∷ []

pub in_literal : names_in (small 1) ≡ []
in_literal = refl

pub in_name : names_in a ≡ one_name
in_name = refl

pub in_unary : names_in (Unary Com a) ≡ one_name
in_unary = refl

-- In the order of the text, as often as they stand there.
pub in_binary : names_in (Binary Add a (Binary Add b a)) ≡ codes "a" ∷ codes "b" ∷ codes "a" ∷ []
in_binary = refl

pub in_shift : names_in (Shift Left a 1) ≡ one_name
in_shift = refl

pub in_if : names_in (If a b c) ≡ codes "a" ∷ codes "b" ∷ codes "c" ∷ []
in_if = refl

pub in_conversion : names_in (Convert U16 a) ≡ one_name
in_conversion = refl

-- The table of a look-up isn't one of the names.
pub in_look : names_in (Look (codes "t") a) ≡ one_name
in_look = refl

-- A chain of four: the output needs a, that b, that c, and that d, which is declared before the others.
abbrev four : ProgramTree
four = on_go (plain (codes "d") U8 (small 1) ∷ plain (codes "c") U8 (Name (codes "d")) ∷ plain (codes "b") U8 c ∷ plain (codes "a") U8 b ∷ [])

abbrev chain : ProgramTree
chain = record four { outputs = output (codes "PORTB") a ∷ [] }

-- Four names and a literal.
pub chain_body : body chain go ≡ 28
chain_body = refl

pub chain_reached : map (λ d. d.name) (needed_plain chain go) ≡ codes "d" ∷ codes "c" ∷ codes "b" ∷ codes "a" ∷ []
chain_reached = refl

-- One turn reaches one of them, and three reach three.
pub one_turn : map (λ d. d.name) (plain_reached 1 chain (first_needed chain go)) ≡ codes "a" ∷ []
one_turn = refl

pub three_turns : map (λ d. d.name) (plain_reached 3 chain (first_needed chain go)) ≡ codes "c" ∷ codes "b" ∷ codes "a" ∷ []
three_turns = refl

-- What isn't named isn't needed, and what is named twice is needed once.
pub squares_reached : map (λ d. d.name) (needed_plain squares go) ≡ codes "square" ∷ codes "side" ∷ []
squares_reached = refl

-- Where there is no clause for an event and no output, it needs nothing.
pub squares_on_tick : needed squares tick ≡ []
squares_on_tick = refl

-- The definitions that react to an event are those with a clause for it.
pub slow_reacts : map (λ d. d.name) (reacting motor (codes "Slow")) ≡ codes "speed" ∷ codes "runtime" ∷ []
slow_reacts = refl

pub up_reacts : map (λ d. d.name) (reacting motor (codes "Up")) ≡ codes "goal" ∷ []
up_reacts = refl

-- Of two clauses for one event the first counts, here as in the reaction.
abbrev twice : ProgramTree
twice = on_go (reactive (codes "n") U8 (lit.Plain 0) (clause go (small 1) ∷ clause go (Name (codes "n")) ∷ []) ∷ [])

pub first_clause_counts : needed twice go ≡ small 1 ∷ []
first_clause_counts = refl
