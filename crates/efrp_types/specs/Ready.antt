-- What holds of a program, a definition and an expression before their types are checked.
use Rattle.std.specs.Prelude.{◌≡◌, true, [], IsSome, ⊤}
use Rattle.std.specs.List.{AllByRecursion}
use Rattle.frp_tree.specs.Limits.{is_number_type}
use Rattle.frp_tree.specs.Tree.{Tree, Const, Name, Unary, Binary, Shift, If, Convert, Look, ClauseTree, BehaviourTree, Plain, Input, Table, Reactive, ProgramTree}
use Rattle.efrp_meaning.specs.Types.{type_of_name, type_of_table}
use Rattle.efrp_types.specs.Laws.{IsWellFormed}
use Rattle.efrp_types.specs.NameFaults.{name_faults}
use Rattle.efrp_types.specs.Numbers.{NameLists, AreNamesOf}

-- These are the names of a program that is well formed, and they have no fault.
pub record IsReady (names : NameLists) (p : ProgramTree) : Type 0 where
  pub named : AreNamesOf names p
  pub faultless : name_faults p ≡ []
  pub formed : IsWellFormed p

-- Each name of an expression is that of a definition with a value, each that is indexed a table's, and no conversion is to bool.
abbrev pub IsFit : ProgramTree → Tree → Type 0
IsFit p (Const literal) = ⊤
IsFit p (Name x) = IsSome (type_of_name p x)
IsFit p (Unary op a) = IsFit p a
IsFit p (Binary op a b) = IsFit p a × IsFit p b
IsFit p (Shift side a amount) = IsFit p a
IsFit p (If c a b) = IsFit p c × (IsFit p a × IsFit p b)
IsFit p (Convert to a) = (is_number_type to ≡ true) × IsFit p a
IsFit p (Look table index) = IsSome (type_of_table p table) × IsFit p index

-- And so of what stands behind the = of a definition.
abbrev pub AreFit : ProgramTree → BehaviourTree → Type 0
AreFit p (Plain e) = IsFit p e
AreFit p (Input port) = ⊤
AreFit p (Table entries) = ⊤
AreFit p (Reactive init clauses) = AllByRecursion (λ (c : ClauseTree). IsFit p c.expr) clauses
