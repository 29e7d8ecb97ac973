-- From the type of an expression to those of its operands.
use Rattle.std.proofs.Common.{◌≡◌, ℕ, ◌≤◌, Bool, if◌then◌else◌, true, false, nat_le, Option, Some, None, refl, sym, ap, subst, ◌∙◌}
use Rattle.std.proofs.lemmas.Bool.{leb-true}
use Rattle.std.proofs.lemmas.Option.{none-some}
use Rattle.frp_tree.specs.declared.syntax.Ty.{Ty}
use Rattle.frp_tree.specs.declared.syntax.Ty.TheVariants.{U8, U16}
use Rattle.frp_tree.specs.declared.syntax.Ty.TheVariants as ty
use Rattle.frp_tree.specs.declared.syntax.BinOp.{BinOp}
use Rattle.efrp_meaning.specs.Types.{binary_type, common_type, convert_type, if_type, shift_type}
use Rattle.efrp_meaning.proofs.TypedValueLaws.{no_type}

pub some-same : (s t : Ty) → Some s ≡ Some t → s ≡ t
some-same s t e = cc

-- Two operands of one type.
pub record AreOperands (f : BinOp) (r s : Option Ty) (t : Ty) : Type 0 where
  pub of : Ty
  pub first : r ≡ Some of
  pub second : s ≡ Some of
  pub gives : binary_type f (Some of) (Some of) ≡ Some t

alike : (f : BinOp) (u : Ty) (t : Ty) → binary_type f (Some u) (Some u) ≡ Some t → AreOperands f (Some u) (Some u) t
alike f u t e = record { of = u; first = refl; second = refl; gives = e }

unlike : (f : BinOp) (r s : Option Ty) (t : Ty) → common_type r s ≡ None → binary_type f r s ≡ Some t → AreOperands f r s t
unlike f r s t none e = absurd (none-some t (sym (no_type f r s none) ∙ e))

pub binary-operands : (f : BinOp) (r s : Option Ty) (t : Ty) → binary_type f r s ≡ Some t → AreOperands f r s t
binary-operands f (Some ty.Bool) (Some ty.Bool) t e = alike f ty.Bool t e
binary-operands f (Some U8) (Some U8) t e = alike f U8 t e
binary-operands f (Some U16) (Some U16) t e = alike f U16 t e
binary-operands f (Some ty.Bool) (Some U8) t e = unlike f _ _ t refl e
binary-operands f (Some ty.Bool) (Some U16) t e = unlike f _ _ t refl e
binary-operands f (Some U8) (Some ty.Bool) t e = unlike f _ _ t refl e
binary-operands f (Some U8) (Some U16) t e = unlike f _ _ t refl e
binary-operands f (Some U16) (Some ty.Bool) t e = unlike f _ _ t refl e
binary-operands f (Some U16) (Some U8) t e = unlike f _ _ t refl e
binary-operands f None s t e = unlike f _ _ t refl e
binary-operands f (Some ty.Bool) None t e = unlike f _ _ t refl e
binary-operands f (Some U8) None t e = unlike f _ _ t refl e
binary-operands f (Some U16) None t e = unlike f _ _ t refl e

-- A shift has its operand's type.
abbrev pub most_amount : Ty → ℕ
most_amount t = elim t [ ty.Bool ↦ 0 | ty.U8 ↦ 7 | ty.U16 ↦ 15 ]

pub record IsShifted (s : Option Ty) (amount : ℕ) (t : Ty) : Type 0 where
  pub same : s ≡ Some t
  pub few : amount ≤ most_amount t

shifted : (u : Ty) (amount most : ℕ) (t : Ty) → most ≡ most_amount u → (b : Bool) → nat_le amount most ≡ b → (if b then Some u else None) ≡ Some t → IsShifted (Some u) amount t
shifted u amount most t m true test e =
    let same : u ≡ t = cc in
    record { same = ap Some same; few = subst (λ k. amount ≤ most_amount k) same (subst (λ k. amount ≤ k) m (leb-true amount most test)) }
shifted u amount most t m false test e = absurd (none-some t e)

pub shift-operand : (s : Option Ty) (amount : ℕ) (t : Ty) → shift_type s amount ≡ Some t → IsShifted s amount t
shift-operand (Some U8) amount t e = shifted U8 amount 7 t refl (nat_le amount 7) refl e
shift-operand (Some U16) amount t e = shifted U16 amount 15 t refl (nat_le amount 15) refl e
shift-operand (Some ty.Bool) amount t e = absurd (none-some t e)
shift-operand None amount t e = absurd (none-some t e)

pub record AreBranches (r s u : Option Ty) (t : Ty) : Type 0 where
  pub test : r ≡ Some ty.Bool
  pub first : s ≡ Some t
  pub second : u ≡ Some t

common : (s u : Option Ty) (t : Ty) → common_type s u ≡ Some t → AreBranches (Some ty.Bool) s u t
common (Some ty.Bool) (Some ty.Bool) t e = record { test = refl; first = e; second = e }
common (Some U8) (Some U8) t e = record { test = refl; first = e; second = e }
common (Some U16) (Some U16) t e = record { test = refl; first = e; second = e }
common (Some ty.Bool) (Some U8) t e = absurd (none-some t e)
common (Some ty.Bool) (Some U16) t e = absurd (none-some t e)
common (Some U8) (Some ty.Bool) t e = absurd (none-some t e)
common (Some U8) (Some U16) t e = absurd (none-some t e)
common (Some U16) (Some ty.Bool) t e = absurd (none-some t e)
common (Some U16) (Some U8) t e = absurd (none-some t e)
common None u t e = absurd (none-some t e)
common (Some ty.Bool) None t e = absurd (none-some t e)
common (Some U8) None t e = absurd (none-some t e)
common (Some U16) None t e = absurd (none-some t e)

pub branches : (r s u : Option Ty) (t : Ty) → if_type r s u ≡ Some t → AreBranches r s u t
branches (Some ty.Bool) s u t e = common s u t e
branches (Some U8) s u t e = absurd (none-some t e)
branches (Some U16) s u t e = absurd (none-some t e)
branches None s u t e = absurd (none-some t e)

-- The conversions that there are.
pub data Converts : Ty → Option Ty → Ty → Type 0 where
  BoolToByte : Converts U8 (Some ty.Bool) U8
  WideToByte : Converts U8 (Some U16) U8
  BoolToWide : Converts U16 (Some ty.Bool) U16
  ByteToWide : Converts U16 (Some U8) U16

pub converts : (to : Ty) (s : Option Ty) (t : Ty) → convert_type to s ≡ Some t → Converts to s t
converts U8 (Some ty.Bool) t e = subst (λ u. Converts U8 (Some ty.Bool) u) (some-same U8 t e) BoolToByte
converts U8 (Some U16) t e = subst (λ u. Converts U8 (Some U16) u) (some-same U8 t e) WideToByte
converts U16 (Some ty.Bool) t e = subst (λ u. Converts U16 (Some ty.Bool) u) (some-same U16 t e) BoolToWide
converts U16 (Some U8) t e = subst (λ u. Converts U16 (Some U8) u) (some-same U16 t e) ByteToWide
converts U8 (Some U8) t e = absurd (none-some t e)
converts U8 None t e = absurd (none-some t e)
converts U16 (Some U16) t e = absurd (none-some t e)
converts U16 None t e = absurd (none-some t e)
converts ty.Bool s t e = absurd (none-some t e)
