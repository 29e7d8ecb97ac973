-- Tests for look-ups in tables. Functions inside the crate speak of them alone.
use Rattle.std.specs.Prelude.{Bool, true, false, ◌&&◌}
use Rattle.std.specs.List.{list_all}
use Rattle.frp_tree.specs.Tree.{Tree, Const, Name, Unary, Binary, Shift, If, Convert, Look, BehaviourTree, Plain, Input, Table, Reactive}

abbrev pub looks_nowhere : Tree → Bool
looks_nowhere (Const literal) = true
looks_nowhere (Name x) = true
looks_nowhere (Unary op a) = looks_nowhere a
looks_nowhere (Binary op a b) = looks_nowhere a && looks_nowhere b
looks_nowhere (Shift side a amount) = looks_nowhere a
looks_nowhere (If c a b) = looks_nowhere c && (looks_nowhere a && looks_nowhere b)
looks_nowhere (Convert to a) = looks_nowhere a
looks_nowhere (Look table index) = false

abbrev pub no_look_in : BehaviourTree → Bool
no_look_in (Plain e) = looks_nowhere e
no_look_in (Input port) = true
no_look_in (Table entries) = true
no_look_in (Reactive init clauses) = list_all (λ c. looks_nowhere c.expr) clauses
