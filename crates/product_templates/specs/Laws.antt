-- What cores and templates do, that they are sound, and how many words they take.
use Rattle.std.specs.Prelude.{◌≡◌, ℕ, ◌≤◌, Bool, true, false, nat_lt, ◌==◌, ◌||◌, IsTrue, if◌then◌else◌, Some, None, List, ◌++◌}
use Rattle.std.specs.List.{list_any}
use Rattle.frp_tree.specs.declared.syntax.BinOp.{BinOp}
use Rattle.frp_tree.specs.declared.syntax.BinOp.TheVariants.{Mul, Div, Rem}
use Rattle.frp_tree.specs.declared.syntax.Ty.TheVariants as ty
use Rattle.efrp_meaning.specs.Bounds.{binary_weight}
use Rattle.pic_regs.specs.Bytes.{num}
use Rattle.byte_ops.specs.declared.operations.Op.{Op}
use Rattle.byte_ops.specs.declared.operations.Op.TheVariants.{Product}
use Rattle.byte_ops.specs.Kinds.{is_product}
use Rattle.byte_ops.specs.Meaning.{Means, read_by, written_by, result_in, value_of}
use Rattle.code_acts.specs.Acts.{State, number, run}
use Rattle.code_acts.specs.Codes.{is_operand, sound, words}
use Rattle.product_templates.specs.Templates.{core_of, product_template, low_result, high_result}

-- The bytes of a state as numbers, by the numbers of their names.
abbrev pub values : State → ℕ → ℕ
values s n = num (s.mem n)

-- Those after acts, with the operand bytes as they were, since these may change.
abbrev pub values_after : (before after : State) → ℕ → ℕ
values_after before after n = if is_operand n then values before n else values after n

-- The operation of a template, by the numbers of names: the result in 12 and 13, the operands in 14 and 15, 16 and 17.
abbrev pub named : BinOp → (wide : Bool) → Op
named f wide = Product f wide (record { low = 12; high = 13 }) (record { low = 14; high = 15 }) (record { low = 16; high = 17 })

-- The operation of a core: the operands in 0 and 3, or in 0 and 1, 2 and 3.
abbrev pub core_named : BinOp → (wide : Bool) → Op
core_named f wide =
    Product f wide (record { low = number (low_result f wide); high = number (high_result f) }) (record { low = 0; high = 1 }) (record { low = if wide then 2 else 3; high = 3 })

-- From every state without a pending skip a template comes to one that the operation means, but for operand bytes, and no skip is
-- pending there.
abbrev pub TemplateDoes : BinOp → (wide : Bool) → Type 0
TemplateDoes f wide =
    (s : State) → IsTrue (is_product f) → s.skip ≡ false
    → let after = run (product_template f wide) s in Means (named f wide) (values s) (values_after s after) × (after.skip ≡ false)

-- So does a core: its result is in operand bytes, and each byte that is none is as it was.
abbrev pub CoreDoes : BinOp → (wide : Bool) → Type 0
CoreDoes f wide =
    (s : State) → IsTrue (is_product f) → s.skip ≡ false
    → let after = run (core_of f wide) s in
    (result_in (core_named f wide) (values after) ≡ value_of (core_named f wide) (values s))
    × ((n : ℕ) → is_operand n ≡ false → values after n ≡ values s n)
    × (after.skip ≡ false)

-- The names of a list and the operand bytes: these and no others a template may use, or write.
abbrev pub is_among : List ℕ → ℕ → Bool
is_among names n = is_operand n || list_any (λ name. name == n) names

abbrev pub template_uses : BinOp → (wide : Bool) → ℕ → Bool
template_uses f wide = is_among (read_by (named f wide) ++ written_by (named f wide))

abbrev pub template_writes : BinOp → (wide : Bool) → ℕ → Bool
template_writes f wide = is_among (written_by (named f wide))

-- A core uses and writes the first nine operand bytes.
abbrev pub core_names : ℕ → Bool
core_names n = nat_lt n 9

abbrev pub AreSound : BinOp → (wide : Bool) → Type 0
AreSound f wide =
    IsTrue (is_product f)
    → (sound core_names core_names None false (core_of f wide) ≡ true)
    × (sound (template_uses f wide) (template_writes f wide) None false (product_template f wide) ≡ true)

-- The words that a template takes at most, from an unknown bank and wherever the bytes lie.
abbrev pub bound_of : BinOp → (wide : Bool) → ℕ
bound_of Mul false = 40
bound_of Mul true = 109
bound_of Div false = 86
bound_of Div true = 380
bound_of Rem false = 85
bound_of _ wide = 378

-- These are its words, and they are within its operator's weight in a program's bounds.
abbrev pub AreShort : BinOp → (wide : Bool) → Type 0
AreShort f wide =
    IsTrue (is_product f)
    → (words None (product_template f wide) ≡ bound_of f wide) × (bound_of f wide ≤ binary_weight f (Some (if wide then ty.U16 else ty.U8)))
