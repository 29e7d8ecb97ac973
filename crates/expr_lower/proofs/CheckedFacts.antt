-- A program with orders is typed.
use Rattle.frp_tree.specs.Tree.{program_tree_of}
use Rattle.efrp_meaning.specs.Types.{IsTyped}
use Rattle.efrp_types.proofs.TypedLaws.{no-fault-is-typed}
use Rattle.causality.specs.declared.checked.Checked.{Checked}
use Rattle.causality.proofs.CycleLaws.{checked-passes}

pub checked-typed : (c : Checked) → IsTyped (program_tree_of c.typed.program)
checked-typed c =
    let passes = checked-passes c in
    (no-fault-is-typed (program_tree_of c.typed.program) c.typed.formed passes.checked.names passes.checked.types).0
