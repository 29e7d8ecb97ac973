-- Kinds of what a program has many of are alike where they are the same.
use Rattle.std.proofs.Common.{◌≡◌, true, refl}
use Rattle.frp_tree.specs.declared.kinds.Kind.{Kind}
use Rattle.frp_tree.specs.declared.kinds.Kind.TheVariants.{Events, Setups, Definitions, Outputs, Nodes, Entries}
use Rattle.frp_tree.specs.Cells.{is_kind}

pub same_kind : (a b : Kind) → is_kind a b ≡ true → a ≡ b
same_kind Events Events e = refl
same_kind Setups Setups e = refl
same_kind Definitions Definitions e = refl
same_kind Outputs Outputs e = refl
same_kind Nodes Nodes e = refl
same_kind Entries Entries e = refl
same_kind a b e = cc
