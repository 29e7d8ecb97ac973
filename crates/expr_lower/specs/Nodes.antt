-- What the code makes of each node: its own operations, behind those of its operands.
use Rattle.std.specs.Prelude.{◌≡◌, ℕ, ◌+◌, ◌/◌, ◌%◌, ◌≤◌, Bool, true, false, List, [], ◌∷◌, ◌++◌, slice_get, Option, Some, None, option_and_then}
use Rattle.frp_tree.specs.declared.syntax.Ty.{Ty}
use Rattle.frp_tree.specs.declared.syntax.Ty.TheVariants as ty
use Rattle.frp_tree.specs.declared.syntax.Lit.{Lit}
use Rattle.frp_tree.specs.declared.syntax.Lit.TheVariants as lit
use Rattle.frp_tree.specs.declared.syntax.Side.{Side}
use Rattle.frp_tree.specs.declared.syntax.UnOp.{UnOp}
use Rattle.frp_tree.specs.declared.syntax.UnOp.TheVariants as unary
use Rattle.frp_tree.specs.declared.syntax.BinOp.{BinOp}
use Rattle.frp_tree.specs.declared.syntax.BinOp.TheVariants as binary
use Rattle.frp_tree.specs.Tree.{Tree, Const, Name, Unary, Binary, Shift, If, Convert, Look, ProgramTree}
use Rattle.efrp_meaning.specs.Values.{truth_number}
use Rattle.efrp_types.specs.Numbers.{decl_number}
use Rattle.byte_ops.specs.declared.operations.Op.{Op}
use Rattle.byte_ops.specs.declared.operations.Op.TheVariants as op
use Rattle.byte_ops.specs.declared.operations.Pair.{Pair}
use Rattle.expr_lower.specs.declared.places.Place.{Place}
use Rattle.expr_lower.specs.declared.drafts.Operand.{Operand}
use Rattle.expr_lower.specs.declared.drafts.Draft.{Draft}
use Rattle.expr_lower.specs.Places.{cells_of_place, is_wide}

-- The cells that are given out next, for one byte or for two.
abbrev pub new_pair : Bool → ℕ → Pair
new_pair false next = record { low = next; high = next }
new_pair true next = record { low = next; high = next + 1 }

abbrev pub size_of : Bool → ℕ
size_of false = 1
size_of true = 2

abbrev pub operand : Bool → Pair → Operand
operand wide at = record { wide = wide; at = at }

-- What is made: operations, where their result is, and which cell is given out next.
pub record Made : Type 0 where
  pub ops : List Op
  pub to : Operand
  pub next : ℕ

-- Operations that write new cells for a result.
abbrev pub into_new : List Op → Bool → ℕ → Made
into_new ops wide next = record { ops = ops; to = operand wide (new_pair wide next); next = next + size_of wide }

abbrev pub of_literal : ℕ → Lit → Made
of_literal next (lit.Plain n) = into_new (op.Set next n ∷ []) false next
of_literal next (lit.Wide n) = into_new (op.Set next (n % 256) ∷ op.Set (next + 1) (n / 256) ∷ []) true next
of_literal next (lit.Truth b) = into_new (op.Set next (truth_number b) ∷ []) false next

-- An operation on each byte.
abbrev pub complements : Bool → ℕ → Pair → List Op
complements false next a = op.Com next a.low ∷ []
complements true next a = op.Com next a.low ∷ op.Com (next + 1) a.high ∷ []

abbrev pub bitwise : BinOp → Bool → ℕ → Pair → Pair → List Op
bitwise f false next a b = op.Bits f next a.low b.low ∷ []
bitwise f true next a b = op.Bits f next a.low b.low ∷ op.Bits f (next + 1) a.high b.high ∷ []

abbrev pub of_unary : UnOp → ℕ → Operand → Made
of_unary unary.Com next a = into_new (complements a.wide next a.at) a.wide next
of_unary unary.Not next a = into_new (op.Not next a.at.low ∷ []) false next

abbrev pub of_logic : BinOp → ℕ → Operand → Operand → Made
of_logic f next a b = into_new (op.Logic f next a.at.low b.at.low ∷ []) false next

abbrev pub of_compare : BinOp → ℕ → Operand → Operand → Made
of_compare f next a b = into_new (op.Compare f a.wide next a.at b.at ∷ []) false next

abbrev pub of_bits : BinOp → ℕ → Operand → Operand → Made
of_bits f next a b = into_new (bitwise f a.wide next a.at b.at) a.wide next

abbrev pub of_sum : BinOp → ℕ → Operand → Operand → Made
of_sum f next a b = into_new (op.Sum f a.wide (new_pair a.wide next) a.at b.at ∷ []) a.wide next

abbrev pub of_product : BinOp → ℕ → Operand → Operand → Made
of_product f next a b = into_new (op.Product f a.wide (new_pair a.wide next) a.at b.at ∷ []) a.wide next

abbrev pub of_binary : BinOp → ℕ → Operand → Operand → Made
of_binary binary.Or next a b = of_logic binary.Or next a b
of_binary binary.And next a b = of_logic binary.And next a b
of_binary binary.Eq next a b = of_compare binary.Eq next a b
of_binary binary.Ne next a b = of_compare binary.Ne next a b
of_binary binary.Lt next a b = of_compare binary.Lt next a b
of_binary binary.Le next a b = of_compare binary.Le next a b
of_binary binary.Gt next a b = of_compare binary.Gt next a b
of_binary binary.Ge next a b = of_compare binary.Ge next a b
of_binary binary.BitOr next a b = of_bits binary.BitOr next a b
of_binary binary.BitXor next a b = of_bits binary.BitXor next a b
of_binary binary.BitAnd next a b = of_bits binary.BitAnd next a b
of_binary binary.Add next a b = of_sum binary.Add next a b
of_binary binary.Sub next a b = of_sum binary.Sub next a b
of_binary binary.Mul next a b = of_product binary.Mul next a b
of_binary binary.Div next a b = of_product binary.Div next a b
of_binary binary.Rem next a b = of_product binary.Rem next a b

abbrev pub of_shift : Side → ℕ → ℕ → Operand → Made
of_shift side amount next a = into_new (op.Shift side a.wide amount (new_pair a.wide next) a.at ∷ []) a.wide next

abbrev pub of_if : ℕ → Operand → Operand → Operand → Made
of_if next c a b = into_new (op.Choose a.wide (new_pair a.wide next) c.at.low a.at b.at ∷ []) a.wide next

-- A conversion to bool has no type.
abbrev pub of_convert : Ty → ℕ → Operand → Made
of_convert ty.Bool next a = record { ops = []; to = a; next = next }
of_convert ty.U8 next a = record { ops = []; to = operand false (record { low = a.at.low; high = a.at.low }); next = next }
of_convert ty.U16 next a = record { ops = op.Set next 0 ∷ []; to = operand true (record { low = a.at.low; high = next }); next = next + 1 }

abbrev pub behind : List Op → Made → Made
behind ops m = record { ops = ops ++ m.ops; to = m.to; next = m.next }

-- What is made of an expression, where names stand for these operands.
abbrev pub made : (List ℕ → Operand) → ℕ → Tree → Made
made names next (Const literal) = of_literal next literal
made names next (Name x) = record { ops = []; to = names x; next = next }
made names next (Unary f a) = let m = made names next a in behind m.ops (of_unary f m.next m.to)
made names next (Binary f a b) =
    let m = made names next a in
    let n = made names m.next b in
    behind (m.ops ++ n.ops) (of_binary f n.next m.to n.to)
made names next (Shift side a amount) = let m = made names next a in behind m.ops (of_shift side amount m.next m.to)
made names next (If c a b) =
    let k = made names next c in
    let m = made names k.next a in
    let n = made names m.next b in
    behind (k.ops ++ m.ops ++ n.ops) (of_if n.next k.to m.to n.to)
made names next (Convert to a) = let m = made names next a in behind m.ops (of_convert to m.next m.to)
made names next (Look table index) = record { ops = []; to = operand false (new_pair false 0); next = next }

-- The operand that a definition's place stands for, and a name.
abbrev pub operand_of_place : Place → Option Operand
operand_of_place place = elim (cells_of_place place) [ Some pair ↦ Some (operand (is_wide place.ty) pair) | None ↦ None ]

abbrev pub operand_at : List Place → ℕ → Option Operand
operand_at places n = option_and_then operand_of_place (slice_get places n)

abbrev pub operand_of_name : ProgramTree → List Place → List ℕ → Option Operand
operand_of_name p places x = option_and_then (operand_at places) (decl_number p x)

abbrev pub some_operand : Option Operand → Operand
some_operand (Some a) = a
some_operand None = operand false (new_pair false 0)

-- A literal with no suffix is a byte.
abbrev pub IsByte : Lit → Type 0
IsByte (lit.Plain n) = n ≤ 255
IsByte (lit.Wide n) = Unit {0}
IsByte (lit.Truth b) = Unit {0}

-- What the code needs of an expression: literals that are bytes, names that have cells, shifts by few bits, and no look-up.
abbrev pub CanLower : ProgramTree → List Place → Tree → Type 0
CanLower p places (Const literal) = IsByte literal
CanLower p places (Name x) = (a : Operand) × (operand_of_name p places x ≡ Some a)
CanLower p places (Unary f a) = CanLower p places a
CanLower p places (Binary f a b) = CanLower p places a × CanLower p places b
CanLower p places (Shift side a amount) = (amount ≤ 255) × CanLower p places a
CanLower p places (If c a b) = CanLower p places c × CanLower p places a × CanLower p places b
CanLower p places (Convert to a) = CanLower p places a
CanLower p places (Look table index) = ⊥

-- A draft goes on by what is made, and tells where its result is.
abbrev pub Adds : Draft → Draft → Made → Operand → Type 0
Adds before after m to = (after.ops ≡ before.ops ++ m.ops) × (after.next ≡ m.next) × (to ≡ m.to)
