-- The ports of outputs as they lie in memory.
use Rattle.std.specs.Prelude.{◌≡◌, ℕ, ◌<◌, ◌||◌, List, [], ◌∷◌, get_or, length, map, refl, None}
use Rattle.std.specs.List.{AllByRecursion, list_any}
use Rattle.std.proofs.Common.{ap}
use Rattle.std.proofs.lemmas.Bool.{both_ways}
use Rattle.frp_tree.specs.declared.syntax.Output.{Output}
use Rattle.frp_tree.specs.Tree.{OutputTree, output_of}
use Rattle.pic_isa.specs.Names.{port_at}
use Rattle.efrp_types.specs.NameFaults.{is_none}
use Rattle.event_needs.proofs.ListLaws.{each-at}
use Rattle.event_needs.proofs.NumberLaws.{tree-at}
use Rattle.event_ops.proofs.PortLaws.{HasPort}
use Rattle.firmware_promises.specs.Firmware.{is_port_at}

pub ports-of : (os : List Output) → map (λ (o : OutputTree). port_at o.port) (map output_of os) ≡ map (λ (o : Output). port_at o.port) os
ports-of [] = refl
ports-of (o ∷ os) = ap (λ ports. port_at o.port ∷ ports) (ports-of os)

pub none-missing : (os : List Output) (i : ℕ) (o : Output) → AllByRecursion HasPort (map output_of os) → i < length os → o ≡ get_or os i o → port_at o.port ≡ None → ⊥
none-missing os i o have inside is missing =
    both_ways (is_none (port_at o.port)) (each-at HasPort (map output_of os) i (output_of o) have (tree-at output_of os os i o refl inside is)) (ap is_none missing)

pub shown-of : (a : ℕ) (os : List Output) → list_any (λ (o : Output). is_port_at a (port_at o.port)) os ≡ list_any (λ (o : OutputTree). is_port_at a (port_at o.port)) (map output_of os)
shown-of a [] = refl
shown-of a (o ∷ os) = ap (λ b. is_port_at a (port_at o.port) || b) (shown-of a os)
