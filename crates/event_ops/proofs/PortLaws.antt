-- Each output of a program whose names have no fault is on a port, whose number is 0 to 4.
use Rattle.std.specs.Prelude.{◌≡◌, ℕ, ◌≤◌, Bool, true, false, List, [], ◌∷◌, ◌++◌, cond, Some}
use Rattle.std.specs.List.{AllByRecursion, flat_map}
use Rattle.std.specs.Map.{lookup}
use Rattle.std.specs.Str.{bytes_eq}
use Rattle.std.proofs.Common.{arith, subst}
use Rattle.std.proofs.lemmas.Option.{none-some, same_Some}
use Rattle.frp_tree.specs.Tree.{OutputTree, ProgramTree}
use Rattle.pic_isa.specs.Names.{port_at, ports}
use Rattle.efrp_types.specs.declared.faults.CheckFault.TheVariants.{BadRegister}
use Rattle.efrp_types.specs.NameFaults.{decl_faults, each_after, event_faults, expression_faults, is_none, item_faults, name_faults, output_faults, port_faults, setup_faults}
use Rattle.efrp_types.proofs.NodeLaws.{both-none, fault-false}

-- A name that stands for a port.
abbrev pub HasPort : OutputTree → Type 0
HasPort o = is_none (port_at o.port) ≡ false

outputs-have : (before os : List OutputTree) → each_after output_faults before os ≡ [] → AllByRecursion HasPort os
outputs-have before [] none = tt
outputs-have before (o ∷ os) none =
    let parts = both-none (output_faults before o) (each_after output_faults (before ++ o ∷ []) os) none in
    let own = both-none (port_faults o.port) _ parts.0 in
    (fault-false (is_none (port_at o.port)) (BadRegister o.port) own.0, outputs-have (before ++ o ∷ []) os parts.1)

pub outputs-have-ports : (p : ProgramTree) → name_faults p ≡ [] → AllByRecursion HasPort p.outputs
outputs-have-ports p none =
    let items = both-none (each_after event_faults [] p.events) _ (both-none (item_faults p) (expression_faults p) none).0 in
    let rest = both-none (flat_map setup_faults p.setups) _ items.1 in
    let outputs = both-none (each_after (decl_faults p.events) [] p.decls) (each_after output_faults [] p.outputs) rest.1 in
    outputs-have [] p.outputs outputs.1

small-entry : (test : List ℕ → Bool) (entries : List (List ℕ × ℕ)) → AllByRecursion (λ (e : List ℕ × ℕ). e.1 ≤ 4) entries → (n : ℕ) → lookup test entries ≡ Some n → n ≤ 4
small-entry test [] all n found = absurd (none-some n found)
small-entry test (e ∷ es) all n found = by_test (test e.0) found (small-entry test es all.1 n)
  where
    by_test : (b : Bool) → cond b (Some e.1) (lookup test es) ≡ Some n → (lookup test es ≡ Some n → n ≤ 4) → n ≤ 4
    by_test true is rest = subst (λ k. k ≤ 4) (same_Some e.1 n is) all.0
    by_test false is rest = rest is

pub small-port : (name : List ℕ) (n : ℕ) → port_at name ≡ Some n → n ≤ 4
small-port name n is = small-entry (bytes_eq name) ports (omega arith, (omega arith, (omega arith, (omega arith, (omega arith, tt))))) n is
