-- What the operations of one node leave: the value of its operator at what the cells of its operands hold.
use Rattle.std.proofs.Math.Path.{fun_ext}
use Rattle.std.proofs.lemmas.Bool.{false≢true}
use Rattle.std.proofs.lemmas.Nat.{and_block, or_block, xor_block}
use Rattle.std.proofs.Common.{◌≡◌, ℕ, ◌+◌, ◌-◌, ◌*◌, ◌<◌, Bool, true, false, IsTrue, bit_and, bit_or, bit_xor, [], ◌∷◌, sym, ap, subst, ◌∙◌, arith}
use Rattle.frp_tree.specs.declared.syntax.BinOp.{BinOp}
use Rattle.frp_tree.specs.declared.syntax.BinOp.TheVariants as binary
use Rattle.efrp_meaning.specs.Values.{binary_value}
use Rattle.byte_ops.specs.declared.operations.Op.{Op}
use Rattle.byte_ops.specs.declared.operations.Op.TheVariants as op
use Rattle.byte_ops.specs.declared.operations.Pair.{Pair}
use Rattle.byte_ops.specs.Cells.{held, modulus_of}
use Rattle.byte_ops.specs.Kinds.{is_bits}
use Rattle.byte_ops.specs.Meaning.{HasBools, result_in, value_of}
use Rattle.expr_lower.specs.Nodes.{bitwise, complements, new_pair}
use Rattle.expr_lower.specs.Running.{DoAll, HoldBytes}

abbrev pub AreInside : ℕ → Pair → Type 0
AreInside next pair = (pair.low < next) × (pair.high < next)

-- One operation.
pub done : (o : Op) (start finish : ℕ → ℕ) → DoAll (o ∷ []) start finish → HasBools o start → result_in o finish ≡ value_of o start
done o start finish d bools =
    let same : finish ≡ d.0 = fun_ext d.3 in
    subst (λ (cells : ℕ → ℕ). result_in o cells ≡ value_of o start) (sym same) (d.1.0 bools)

-- Complements and bitwise operators, byte by byte.
pub complemented : (wide : Bool) (next : ℕ) (a : Pair) (start finish : ℕ → ℕ) → AreInside next a → HoldBytes start → DoAll (complements wide next a) start finish → held wide (new_pair wide next) finish ≡ modulus_of wide - 1 - held wide a start
complemented false next a start finish inside bytes d = done (op.Com next a.low) start finish d tt
complemented true next a start finish inside bytes d =
    let low : d.0 next ≡ 255 - start a.low = d.1.0 tt in
    let kept : d.0 a.high ≡ start a.high = d.1.1 a.high ((λ e. absurd (omega (arith, inside.1, e))), tt) in
    let later = d.3 in
    let high : later.0 (next + 1) ≡ 255 - d.0 a.high = later.1.0 tt in
    let still : later.0 next ≡ d.0 next = later.1.1 next ((λ e. absurd (omega (arith, e))), tt) in
    omega (arith, low, kept, high, still, later.3 next, later.3 (next + 1), bytes a.low, bytes a.high)

bytewise : (f : ℕ → ℕ → ℕ) → ((a b r s : ℕ) → r < 256 → s < 256 → f (a * 256 + r) (b * 256 + s) ≡ f a b * 256 + f r s) → (a b r s : ℕ) → r < 256 → s < 256 → f r s + 256 * f a b ≡ f (r + 256 * a) (s + 256 * b)
bytewise f block a b r s first second =
    let left : r + 256 * a ≡ a * 256 + r = omega arith in
    let right : s + 256 * b ≡ b * 256 + s = omega arith in
    (let turn : f r s + 256 * f a b ≡ f a b * 256 + f r s = omega arith in turn) ∙ sym (block a b r s first second) ∙ ap (λ x. f x (b * 256 + s)) (sym left) ∙ ap (λ y. f (r + 256 * a) y) (sym right)

by_bytes : (f : BinOp) → IsTrue (is_bits f) → (a b r s : ℕ) → r < 256 → s < 256 → binary_value f 256 r s + 256 * binary_value f 256 a b ≡ binary_value f 65536 (r + 256 * a) (s + 256 * b)
by_bytes binary.BitAnd h a b r s first second = bytewise bit_and (λ a b r s x y. and_block 8 a b r s x y) a b r s first second
by_bytes binary.BitOr h a b r s first second = bytewise bit_or (λ a b r s x y. or_block 8 a b r s x y) a b r s first second
by_bytes binary.BitXor h a b r s first second = bytewise bit_xor (λ a b r s x y. xor_block 8 a b r s x y) a b r s first second
by_bytes _ h a b r s first second = absurd (false≢true h)

pub bits-done : (f : BinOp) → IsTrue (is_bits f) → (wide : Bool) (next : ℕ) (a b : Pair) (start finish : ℕ → ℕ) → AreInside next a → AreInside next b → HoldBytes start → DoAll (bitwise f wide next a b) start finish → held wide (new_pair wide next) finish ≡ binary_value f (modulus_of wide) (held wide a start) (held wide b start)
bits-done f kind false next a b start finish one two bytes d = done (op.Bits f next a.low b.low) start finish d tt
bits-done f kind true next a b start finish one two bytes d =
    let low : d.0 next ≡ binary_value f 256 (start a.low) (start b.low) = d.1.0 tt in
    let kept_a : d.0 a.high ≡ start a.high = d.1.1 a.high ((λ e. absurd (omega (arith, one.1, e))), tt) in
    let kept_b : d.0 b.high ≡ start b.high = d.1.1 b.high ((λ e. absurd (omega (arith, two.1, e))), tt) in
    let later = d.3 in
    let high : later.0 (next + 1) ≡ binary_value f 256 (d.0 a.high) (d.0 b.high) = later.1.0 tt in
    let still : later.0 next ≡ d.0 next = later.1.1 next ((λ e. absurd (omega (arith, e))), tt) in
    let first : finish next ≡ binary_value f 256 (start a.low) (start b.low) = later.3 next ∙ still ∙ low in
    let second : finish (next + 1) ≡ binary_value f 256 (start a.high) (start b.high) =
    later.3 (next + 1) ∙ high ∙ ap (λ x. binary_value f 256 x (d.0 b.high)) kept_a ∙ ap (λ x. binary_value f 256 (start a.high) x) kept_b in
    ap (λ x. x + 256 * finish (next + 1)) first ∙ ap (λ x. binary_value f 256 (start a.low) (start b.low) + 256 * x) second
    ∙ by_bytes f kind (start a.high) (start b.high) (start a.low) (start b.low) (bytes a.low) (bytes b.low)
