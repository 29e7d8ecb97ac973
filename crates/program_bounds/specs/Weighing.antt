-- Each node of an expression has a type. Functions inside the crate speak of it alone.
use Rattle.std.specs.Prelude.{IsSome}
use Rattle.frp_tree.specs.Tree.{Tree, Const, Name, Unary, Binary, Shift, If, Convert, Look, ProgramTree}
use Rattle.efrp_meaning.specs.Types.{type_of}

abbrev pub AreTyped : ProgramTree → Tree → Type 0
AreTyped p (Const literal) = IsSome (type_of p (Const literal))
AreTyped p (Name name) = IsSome (type_of p (Name name))
AreTyped p (Unary op a) = IsSome (type_of p (Unary op a)) × IsSome (type_of p a) × AreTyped p a
AreTyped p (Binary op a b) = IsSome (type_of p (Binary op a b)) × IsSome (type_of p a) × AreTyped p a × AreTyped p b
AreTyped p (Shift side a amount) = IsSome (type_of p (Shift side a amount)) × IsSome (type_of p a) × AreTyped p a
AreTyped p (If c a b) = IsSome (type_of p (If c a b)) × IsSome (type_of p a) × AreTyped p c × AreTyped p a × AreTyped p b
AreTyped p (Convert to a) = IsSome (type_of p (Convert to a)) × IsSome (type_of p a) × AreTyped p a
AreTyped p (Look table index) = IsSome (type_of p (Look table index)) × IsSome (type_of p index) × AreTyped p index
