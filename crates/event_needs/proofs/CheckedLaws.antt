-- A checked program is typed, and on none of its events does a definition depend on itself.
use Rattle.std.proofs.Common.{ℕ, ◌<◌, [], get_or, length, Some, None, sym, ap, subst}
use Rattle.std.proofs.lemmas.Option.{slice_get-get_or}
use Rattle.frp_tree.specs.declared.syntax.Event.{Event}
use Rattle.frp_tree.specs.Tree.{program_tree_of}
use Rattle.efrp_meaning.specs.Causal.{IsCausalOn}
use Rattle.efrp_meaning.specs.Types.{IsTyped}
use Rattle.efrp_types.specs.Numbers.{event_name}
use Rattle.efrp_types.proofs.TypedLaws.{no-fault-is-typed}
use Rattle.event_needs.proofs.ListLaws.{each-at}
use Rattle.causality.specs.declared.checked.Checked.{Checked}
use Rattle.causality.proofs.CycleLaws.{checked-passes}

pub checked-typed : (c : Checked) → IsTyped (program_tree_of c.typed.program)
checked-typed c =
    let passes = checked-passes c in
    (no-fault-is-typed (program_tree_of c.typed.program) c.typed.formed passes.checked.names passes.checked.types).0

pub checked-causal : (c : Checked) (n : ℕ) → n < length c.typed.program.events → IsCausalOn (program_tree_of c.typed.program) (event_name (program_tree_of c.typed.program) n)
checked-causal c n inside =
    let p = program_tree_of c.typed.program in
    let some : Event = record { name = []; source = []; priority = 0 } in
    let found = slice_get-get_or p.events n some inside in
    subst (IsCausalOn p) (sym (ap (λ o. elim o [ Some e ↦ e.name | None ↦ [] ]) found)) (each-at (λ (e : Event). IsCausalOn p e.name) p.events n (get_or p.events n some) c.causal found)
