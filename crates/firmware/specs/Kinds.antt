-- Whether there is code for a definition. Functions inside the crate speak of it alone.
use Rattle.std.specs.Prelude.{Bool, true, false}
use Rattle.frp_tree.specs.Tree.{BehaviourTree, Plain, Input, Table, Reactive}

-- It is an expression, or has a state.
abbrev pub is_coded : BehaviourTree → Bool
is_coded (Plain e) = true
is_coded (Input port) = false
is_coded (Table entries) = false
is_coded (Reactive init clauses) = true
