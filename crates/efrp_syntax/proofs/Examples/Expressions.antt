-- What may follow an expression, and what not.
use Rattle.std.specs.Prelude.{List, ◌∷◌, refl}
use Rattle.std.proofs.Common.{arith, ◌<◌}
use Rattle.frp_tree.specs.declared.syntax.BinOp.TheVariants as binary
use Rattle.frp_tree.specs.declared.levels.Level.TheVariants as level
use Rattle.frp_tree.specs.declared.marks.TheConstants as mark
use Rattle.frp_tree.specs.declared.tokens.Token.{Token}
use Rattle.frp_tree.specs.declared.tokens.Token.TheVariants.{Mark}
use Rattle.efrp_syntax.specs.Expressions.{looseness, Stops}
use Rattle.efrp_syntax.proofs.EndFacts.{stops_mark, stops_operator}

-- A semicolon may.
semicolon : (c : List Token) → Stops level.Whole (Mark mark.SEMICOLON ∷ c)
semicolon c = stops_mark level.Whole mark.SEMICOLON c refl refl

-- A comparison may follow what is compared, and no comparison.
compared : (c : List Token) → Stops level.BitOr (Mark mark.LESS ∷ c)
compared c = stops_operator binary.Lt c

comparison : (c : List Token) → Stops level.Comparison (Mark mark.LESS ∷ c) → ⊥
comparison c s = let less : looseness level.Comparison < looseness level.Comparison = s.looser binary.Lt refl in omega arith

-- An index follows no operand: it is a part of one.
index : (c : List Token) → Stops level.Operand (Mark mark.OPENING_BRACKET ∷ c) → ⊥
index c s = s.no_index refl
