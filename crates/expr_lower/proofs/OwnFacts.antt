-- The operations of one node: their order, their weight, and the value that they leave in new cells.
use Rattle.std.specs.List.{AllByRecursion}
use Rattle.std.proofs.Common.{◌≡◌, ℕ, ◌+◌, ◌≤◌, ◌<◌, Bool, true, false, IsTrue, Some, [], ◌∷◌, ◌++◌, length, sum_by, refl, subst, arith}
use Rattle.std.proofs.lemmas.Option.{none-some}
use Rattle.frp_tree.specs.declared.syntax.Side.{Side}
use Rattle.frp_tree.specs.declared.syntax.Ty.{Ty}
use Rattle.frp_tree.specs.declared.syntax.Ty.TheVariants.{U8, U16}
use Rattle.frp_tree.specs.declared.syntax.Ty.TheVariants as ty
use Rattle.frp_tree.specs.declared.syntax.UnOp.TheVariants as unary
use Rattle.frp_tree.specs.declared.syntax.BinOp.{BinOp}
use Rattle.frp_tree.specs.declared.syntax.BinOp.TheVariants as binary
use Rattle.efrp_meaning.specs.Bounds.{binary_weight, by_width, unary_weight}
use Rattle.efrp_meaning.specs.Types.{binary_type}
use Rattle.efrp_meaning.specs.Values.{binary_value, if_value, modulus, shift_value, unary_value}
use Rattle.byte_ops.specs.declared.operations.Op.{Op}
use Rattle.byte_ops.specs.declared.operations.Op.TheVariants as op
use Rattle.byte_ops.specs.declared.operations.Pair.{Pair}
use Rattle.byte_ops.specs.Cells.{AreIn, cells_of, held, modulus_of}
use Rattle.byte_ops.specs.Kinds.{IsOp, is_bits, is_compare, is_logic, is_product, is_sum, most_shifted}
use Rattle.byte_ops.specs.Weights.{number_type, weight_of}
use Rattle.expr_lower.specs.Nodes.{Made, bitwise, complements, into_new, new_pair, of_binary, of_bits, of_compare, of_if, of_logic, of_product, of_shift, of_sum, of_unary, operand, size_of}
use Rattle.expr_lower.specs.Places.{is_wide}
use Rattle.expr_lower.specs.Running.{AreNext, DoAll, GiveOut, HoldBytes}
use Rattle.expr_lower.proofs.NodeFacts.{AreInside, bits-done, complemented, done}
use Rattle.expr_lower.proofs.TypeFacts.{some-same}

pub record Own (k : ℕ) (wide : Bool) (m : Made) (most : ℕ) (value : (ℕ → ℕ) → ℕ) (Needs : (ℕ → ℕ) → Type 0) : Type 0 where
  pub new : m ≡ into_new m.ops wide k
  pub order : GiveOut k m.ops (k + size_of wide)
  pub kinds : AllByRecursion IsOp m.ops
  pub light : sum_by weight_of m.ops ≤ most
  pub leaves : (start finish : ℕ → ℕ) → HoldBytes start → Needs start → DoAll m.ops start finish → held wide (new_pair wide k) finish ≡ value start

pub weaker :
    (k : ℕ) (wide : Bool) (m : Made) (most more : ℕ) (value : (ℕ → ℕ) → ℕ) (Needs Has : (ℕ → ℕ) → Type 0)
    → Own k wide m most value Needs → most ≤ more → ((cells : ℕ → ℕ) → Has cells → Needs cells) → Own k wide m more value Has
weaker k wide m most more value Needs Has o h has = record {
  new = o.new;
  order = o.order;
  kinds = o.kinds;
  light = omega (arith, o.light, h);
  leaves = λ start finish bytes needs d. o.leaves start finish bytes (has start needs) d;
}

inside-one : (w : Bool) (k : ℕ) (a : Pair) → AreInside k a → AreIn k (cells_of w a)
inside-one false k a h = (h.0, tt)
inside-one true k a h = (h.0, (h.1, tt))

inside-two : (w : Bool) (k : ℕ) (a b : Pair) → AreInside k a → AreInside k b → AreIn k (cells_of w a ++ cells_of w b)
inside-two false k a b g h = (g.0, (h.0, tt))
inside-two true k a b g h = (g.0, (g.1, (h.0, (h.1, tt))))

next-new : (w : Bool) (k : ℕ) → AreNext k (cells_of w (new_pair w k))
next-new false k = (refl, tt)
next-new true k = (refl, (refl, tt))

size-new : (w : Bool) (k : ℕ) → k + length (cells_of w (new_pair w k)) ≡ k + size_of w
size-new false k = refl
size-new true k = refl

one-weight : (o : Op) (most : ℕ) → weight_of o ≤ most → sum_by weight_of (o ∷ []) ≤ most
one-weight o most h = omega (arith, h)

pub own-com : (w : Bool) (k : ℕ) (a : Pair) → AreInside k a → Own k w (of_unary unary.Com k (operand w a)) (unary_weight unary.Com (number_type w)) (λ c. unary_value unary.Com (modulus_of w) (held w a c)) (λ c. Unit {0})
own-com w k a h = record {
  new = refl;
  order = order w;
  kinds = kinds w;
  light = light w;
  leaves = λ start finish bytes needs d. complemented w k a start finish h bytes d;
}
  where
    order : (w : Bool) → GiveOut k (complements w k a) (k + size_of w)
    order false = ((h.0, tt), (refl, tt), refl)
    order true = ((h.0, tt), (refl, tt), (((let up : a.high < k + 1 = omega (arith, h.1) in up), tt), (refl, tt), omega arith))

    kinds : (w : Bool) → AllByRecursion IsOp (complements w k a)
    kinds false = (tt, tt)
    kinds true = (tt, (tt, tt))

    light : (w : Bool) → sum_by weight_of (complements w k a) ≤ unary_weight unary.Com (number_type w)
    light false = omega arith
    light true = omega arith

pub own-not : (w : Bool) (k : ℕ) (a : Pair) → AreInside k a → Own k false (of_unary unary.Not k (operand w a)) 16 (λ c. unary_value unary.Not 2 (c a.low)) (λ c. c a.low < 2)
own-not w k a h = record {
  new = refl;
  order = ((h.0, tt), (refl, tt), refl);
  kinds = (tt, tt);
  light = omega arith;
  leaves = λ start finish bytes needs d. done (op.Not k a.low) start finish d needs;
}

module _ (f : BinOp) (k : ℕ) (a b : Pair) (g : AreInside k a) (h : AreInside k b) where
  pub own-logic : IsTrue (is_logic f) → (w : Bool) → Own k false (of_logic f k (operand w a) (operand w b)) (binary_weight f (Some ty.Bool)) (λ c. binary_value f 2 (c a.low) (c b.low)) (λ c. (c a.low < 2) × (c b.low < 2))
  own-logic kind w = record {
    new = refl;
    order = ((g.0, (h.0, tt)), (refl, tt), refl);
    kinds = (kind, tt);
    light = one-weight (op.Logic f k a.low b.low) (binary_weight f (Some ty.Bool)) (omega arith);
    leaves = λ start finish bytes needs d. done (op.Logic f k a.low b.low) start finish d needs;
  }

  pub own-compare : IsTrue (is_compare f) → (w : Bool) → Own k false (of_compare f k (operand w a) (operand w b)) (binary_weight f (number_type w)) (λ c. binary_value f (modulus_of w) (held w a c) (held w b c)) (λ c. Unit {0})
  own-compare kind w = record {
    new = refl;
    order = (inside-two w k a b g h, (refl, tt), refl);
    kinds = (kind, tt);
    light = one-weight (op.Compare f w k a b) (binary_weight f (number_type w)) (omega arith);
    leaves = λ start finish bytes needs d. done (op.Compare f w k a b) start finish d tt;
  }

  pub own-sum : IsTrue (is_sum f) → (w : Bool) → Own k w (of_sum f k (operand w a) (operand w b)) (binary_weight f (number_type w)) (λ c. binary_value f (modulus_of w) (held w a c) (held w b c)) (λ c. Unit {0})
  own-sum kind w = record {
    new = refl;
    order = (inside-two w k a b g h, next-new w k, size-new w k);
    kinds = (kind, tt);
    light = one-weight (op.Sum f w (new_pair w k) a b) (binary_weight f (number_type w)) (omega arith);
    leaves = λ start finish bytes needs d. done (op.Sum f w (new_pair w k) a b) start finish d tt;
  }

  pub own-product : IsTrue (is_product f) → (w : Bool) → Own k w (of_product f k (operand w a) (operand w b)) (binary_weight f (number_type w)) (λ c. binary_value f (modulus_of w) (held w a c) (held w b c)) (λ c. Unit {0})
  own-product kind w = record {
    new = refl;
    order = (inside-two w k a b g h, next-new w k, size-new w k);
    kinds = (kind, tt);
    light = one-weight (op.Product f w (new_pair w k) a b) (binary_weight f (number_type w)) (omega arith);
    leaves = λ start finish bytes needs d. done (op.Product f w (new_pair w k) a b) start finish d tt;
  }

  pub own-bits : IsTrue (is_bits f) → (w : Bool) (most : ℕ) → sum_by weight_of (bitwise f w k a b) ≤ most → Own k w (of_bits f k (operand w a) (operand w b)) most (λ c. binary_value f (modulus_of w) (held w a c) (held w b c)) (λ c. Unit {0})
  own-bits kind w most light = record {
    new = refl;
    order = order w;
    kinds = kinds w;
    light = light;
    leaves = λ start finish bytes needs d. bits-done f kind w k a b start finish g h bytes d;
  }
    where
      order : (w : Bool) → GiveOut k (bitwise f w k a b) (k + size_of w)
      order false = ((g.0, (h.0, tt)), (refl, tt), refl)
      order true = ((g.0, (h.0, tt)), (refl, tt), (((let up : a.high < k + 1 = omega (arith, g.1) in up), ((let up : b.high < k + 1 = omega (arith, h.1) in up), tt)), (refl, tt), omega arith))

      kinds : (w : Bool) → AllByRecursion IsOp (bitwise f w k a b)
      kinds false = (kind, tt)
      kinds true = (kind, (kind, tt))

pub own-shift : (side : Side) (n : ℕ) (w : Bool) (k : ℕ) (a : Pair) → AreInside k a → n ≤ most_shifted w → Own k w (of_shift side n k (operand w a)) (by_width (number_type w) 32 80) (λ c. shift_value side n (modulus_of w) (held w a c)) (λ c. Unit {0})
own-shift side n w k a h few = record {
  new = refl;
  order = (inside-one w k a h, next-new w k, size-new w k);
  kinds = (few, tt);
  light = one-weight (op.Shift side w n (new_pair w k) a) (by_width (number_type w) 32 80) (omega arith);
  leaves = λ start finish bytes needs d. done (op.Shift side w n (new_pair w k) a) start finish d tt;
}

pub own-if : (w v x : Bool) (k : ℕ) (c a b : Pair) → AreInside k c → AreInside k a → AreInside k b → Own k w (of_if k (operand v c) (operand w a) (operand x b)) (by_width (number_type w) 24 40) (λ m. if_value (m c.low) (held w a m) (held w b m)) (λ m. m c.low < 2)
own-if w v x k c a b f g h = record {
  new = refl;
  order = ((f.0, inside-two w k a b g h), next-new w k, size-new w k);
  kinds = (tt, tt);
  light = one-weight (op.Choose w (new_pair w k) c.low a b) (by_width (number_type w) 24 40) (omega arith);
  leaves = λ start finish bytes needs d. done (op.Choose w (new_pair w k) c.low a b) start finish d needs;
}

-- An operator of two operands of type u, whose result is of type t.
abbrev pub OwnBinary : BinOp → Ty → Ty → ℕ → Pair → Pair → Type 0
OwnBinary f u t k a b =
    Own k (is_wide t) (of_binary f k (operand (is_wide u) a) (operand (is_wide u) b)) (binary_weight f (Some u))
    (λ c. binary_value f (modulus u) (held (is_wide u) a c) (held (is_wide u) b c))
    (λ c. (held (is_wide u) a c < modulus u) × (held (is_wide u) b c < modulus u))

pub own-binary : (f : BinOp) (u t : Ty) (k : ℕ) (a b : Pair) → binary_type f (Some u) (Some u) ≡ Some t → AreInside k a → AreInside k b → OwnBinary f u t k a b
own-binary binary.Or ty.Bool t k a b e g h = subst (λ (r : Ty). OwnBinary binary.Or ty.Bool r k a b) (some-same ty.Bool t e) (weaker _ _ _ _ _ _ _ _ (own-logic binary.Or k a b g h refl false) (omega arith) (λ c n. n))
own-binary binary.Or U8 t k a b e g h = absurd (none-some t e)
own-binary binary.Or U16 t k a b e g h = absurd (none-some t e)
own-binary binary.And ty.Bool t k a b e g h = subst (λ (r : Ty). OwnBinary binary.And ty.Bool r k a b) (some-same ty.Bool t e) (weaker _ _ _ _ _ _ _ _ (own-logic binary.And k a b g h refl false) (omega arith) (λ c n. n))
own-binary binary.And U8 t k a b e g h = absurd (none-some t e)
own-binary binary.And U16 t k a b e g h = absurd (none-some t e)
own-binary binary.Eq ty.Bool t k a b e g h = subst (λ (r : Ty). OwnBinary binary.Eq ty.Bool r k a b) (some-same ty.Bool t e) (weaker _ _ _ _ _ _ _ _ (own-compare binary.Eq k a b g h refl false) (omega arith) (λ c n. tt))
own-binary binary.Eq U8 t k a b e g h = subst (λ (r : Ty). OwnBinary binary.Eq U8 r k a b) (some-same ty.Bool t e) (weaker _ _ _ _ _ _ _ _ (own-compare binary.Eq k a b g h refl false) (omega arith) (λ c n. tt))
own-binary binary.Eq U16 t k a b e g h = subst (λ (r : Ty). OwnBinary binary.Eq U16 r k a b) (some-same ty.Bool t e) (weaker _ _ _ _ _ _ _ _ (own-compare binary.Eq k a b g h refl true) (omega arith) (λ c n. tt))
own-binary binary.Ne ty.Bool t k a b e g h = subst (λ (r : Ty). OwnBinary binary.Ne ty.Bool r k a b) (some-same ty.Bool t e) (weaker _ _ _ _ _ _ _ _ (own-compare binary.Ne k a b g h refl false) (omega arith) (λ c n. tt))
own-binary binary.Ne U8 t k a b e g h = subst (λ (r : Ty). OwnBinary binary.Ne U8 r k a b) (some-same ty.Bool t e) (weaker _ _ _ _ _ _ _ _ (own-compare binary.Ne k a b g h refl false) (omega arith) (λ c n. tt))
own-binary binary.Ne U16 t k a b e g h = subst (λ (r : Ty). OwnBinary binary.Ne U16 r k a b) (some-same ty.Bool t e) (weaker _ _ _ _ _ _ _ _ (own-compare binary.Ne k a b g h refl true) (omega arith) (λ c n. tt))
own-binary binary.Lt ty.Bool t k a b e g h = absurd (none-some t e)
own-binary binary.Lt U8 t k a b e g h = subst (λ (r : Ty). OwnBinary binary.Lt U8 r k a b) (some-same ty.Bool t e) (weaker _ _ _ _ _ _ _ _ (own-compare binary.Lt k a b g h refl false) (omega arith) (λ c n. tt))
own-binary binary.Lt U16 t k a b e g h = subst (λ (r : Ty). OwnBinary binary.Lt U16 r k a b) (some-same ty.Bool t e) (weaker _ _ _ _ _ _ _ _ (own-compare binary.Lt k a b g h refl true) (omega arith) (λ c n. tt))
own-binary binary.Le ty.Bool t k a b e g h = absurd (none-some t e)
own-binary binary.Le U8 t k a b e g h = subst (λ (r : Ty). OwnBinary binary.Le U8 r k a b) (some-same ty.Bool t e) (weaker _ _ _ _ _ _ _ _ (own-compare binary.Le k a b g h refl false) (omega arith) (λ c n. tt))
own-binary binary.Le U16 t k a b e g h = subst (λ (r : Ty). OwnBinary binary.Le U16 r k a b) (some-same ty.Bool t e) (weaker _ _ _ _ _ _ _ _ (own-compare binary.Le k a b g h refl true) (omega arith) (λ c n. tt))
own-binary binary.Gt ty.Bool t k a b e g h = absurd (none-some t e)
own-binary binary.Gt U8 t k a b e g h = subst (λ (r : Ty). OwnBinary binary.Gt U8 r k a b) (some-same ty.Bool t e) (weaker _ _ _ _ _ _ _ _ (own-compare binary.Gt k a b g h refl false) (omega arith) (λ c n. tt))
own-binary binary.Gt U16 t k a b e g h = subst (λ (r : Ty). OwnBinary binary.Gt U16 r k a b) (some-same ty.Bool t e) (weaker _ _ _ _ _ _ _ _ (own-compare binary.Gt k a b g h refl true) (omega arith) (λ c n. tt))
own-binary binary.Ge ty.Bool t k a b e g h = absurd (none-some t e)
own-binary binary.Ge U8 t k a b e g h = subst (λ (r : Ty). OwnBinary binary.Ge U8 r k a b) (some-same ty.Bool t e) (weaker _ _ _ _ _ _ _ _ (own-compare binary.Ge k a b g h refl false) (omega arith) (λ c n. tt))
own-binary binary.Ge U16 t k a b e g h = subst (λ (r : Ty). OwnBinary binary.Ge U16 r k a b) (some-same ty.Bool t e) (weaker _ _ _ _ _ _ _ _ (own-compare binary.Ge k a b g h refl true) (omega arith) (λ c n. tt))
own-binary binary.BitOr ty.Bool t k a b e g h = absurd (none-some t e)
own-binary binary.BitOr U8 t k a b e g h = subst (λ (r : Ty). OwnBinary binary.BitOr U8 r k a b) (some-same U8 t e) (weaker _ _ _ _ _ _ _ _ (own-bits binary.BitOr k a b g h refl false (binary_weight binary.BitOr (Some U8)) (omega arith)) (omega arith) (λ c n. tt))
own-binary binary.BitOr U16 t k a b e g h = subst (λ (r : Ty). OwnBinary binary.BitOr U16 r k a b) (some-same U16 t e) (weaker _ _ _ _ _ _ _ _ (own-bits binary.BitOr k a b g h refl true (binary_weight binary.BitOr (Some U16)) (omega arith)) (omega arith) (λ c n. tt))
own-binary binary.BitXor ty.Bool t k a b e g h = absurd (none-some t e)
own-binary binary.BitXor U8 t k a b e g h = subst (λ (r : Ty). OwnBinary binary.BitXor U8 r k a b) (some-same U8 t e) (weaker _ _ _ _ _ _ _ _ (own-bits binary.BitXor k a b g h refl false (binary_weight binary.BitXor (Some U8)) (omega arith)) (omega arith) (λ c n. tt))
own-binary binary.BitXor U16 t k a b e g h = subst (λ (r : Ty). OwnBinary binary.BitXor U16 r k a b) (some-same U16 t e) (weaker _ _ _ _ _ _ _ _ (own-bits binary.BitXor k a b g h refl true (binary_weight binary.BitXor (Some U16)) (omega arith)) (omega arith) (λ c n. tt))
own-binary binary.BitAnd ty.Bool t k a b e g h = absurd (none-some t e)
own-binary binary.BitAnd U8 t k a b e g h = subst (λ (r : Ty). OwnBinary binary.BitAnd U8 r k a b) (some-same U8 t e) (weaker _ _ _ _ _ _ _ _ (own-bits binary.BitAnd k a b g h refl false (binary_weight binary.BitAnd (Some U8)) (omega arith)) (omega arith) (λ c n. tt))
own-binary binary.BitAnd U16 t k a b e g h = subst (λ (r : Ty). OwnBinary binary.BitAnd U16 r k a b) (some-same U16 t e) (weaker _ _ _ _ _ _ _ _ (own-bits binary.BitAnd k a b g h refl true (binary_weight binary.BitAnd (Some U16)) (omega arith)) (omega arith) (λ c n. tt))
own-binary binary.Add ty.Bool t k a b e g h = absurd (none-some t e)
own-binary binary.Add U8 t k a b e g h = subst (λ (r : Ty). OwnBinary binary.Add U8 r k a b) (some-same U8 t e) (weaker _ _ _ _ _ _ _ _ (own-sum binary.Add k a b g h refl false) (omega arith) (λ c n. tt))
own-binary binary.Add U16 t k a b e g h = subst (λ (r : Ty). OwnBinary binary.Add U16 r k a b) (some-same U16 t e) (weaker _ _ _ _ _ _ _ _ (own-sum binary.Add k a b g h refl true) (omega arith) (λ c n. tt))
own-binary binary.Sub ty.Bool t k a b e g h = absurd (none-some t e)
own-binary binary.Sub U8 t k a b e g h = subst (λ (r : Ty). OwnBinary binary.Sub U8 r k a b) (some-same U8 t e) (weaker _ _ _ _ _ _ _ _ (own-sum binary.Sub k a b g h refl false) (omega arith) (λ c n. tt))
own-binary binary.Sub U16 t k a b e g h = subst (λ (r : Ty). OwnBinary binary.Sub U16 r k a b) (some-same U16 t e) (weaker _ _ _ _ _ _ _ _ (own-sum binary.Sub k a b g h refl true) (omega arith) (λ c n. tt))
own-binary binary.Mul ty.Bool t k a b e g h = absurd (none-some t e)
own-binary binary.Mul U8 t k a b e g h = subst (λ (r : Ty). OwnBinary binary.Mul U8 r k a b) (some-same U8 t e) (weaker _ _ _ _ _ _ _ _ (own-product binary.Mul k a b g h refl false) (omega arith) (λ c n. tt))
own-binary binary.Mul U16 t k a b e g h = subst (λ (r : Ty). OwnBinary binary.Mul U16 r k a b) (some-same U16 t e) (weaker _ _ _ _ _ _ _ _ (own-product binary.Mul k a b g h refl true) (omega arith) (λ c n. tt))
own-binary binary.Div ty.Bool t k a b e g h = absurd (none-some t e)
own-binary binary.Div U8 t k a b e g h = subst (λ (r : Ty). OwnBinary binary.Div U8 r k a b) (some-same U8 t e) (weaker _ _ _ _ _ _ _ _ (own-product binary.Div k a b g h refl false) (omega arith) (λ c n. tt))
own-binary binary.Div U16 t k a b e g h = subst (λ (r : Ty). OwnBinary binary.Div U16 r k a b) (some-same U16 t e) (weaker _ _ _ _ _ _ _ _ (own-product binary.Div k a b g h refl true) (omega arith) (λ c n. tt))
own-binary binary.Rem ty.Bool t k a b e g h = absurd (none-some t e)
own-binary binary.Rem U8 t k a b e g h = subst (λ (r : Ty). OwnBinary binary.Rem U8 r k a b) (some-same U8 t e) (weaker _ _ _ _ _ _ _ _ (own-product binary.Rem k a b g h refl false) (omega arith) (λ c n. tt))
own-binary binary.Rem U16 t k a b e g h = subst (λ (r : Ty). OwnBinary binary.Rem U16 r k a b) (some-same U16 t e) (weaker _ _ _ _ _ _ _ _ (own-product binary.Rem k a b g h refl true) (omega arith) (λ c n. tt))
