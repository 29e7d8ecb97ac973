-- The templates of shifts: each amount is arithmetic on the bits.
use Rattle.std.proofs.Common.{◌≡◌, ℕ, zero, suc, ◌+◌, ◌*◌, ◌≤◌, Bool, true, false, not, ◌&&◌, ◌||◌, if◌then◌else◌, None, [], refl, arith, lit≤}
use Rattle.frp_tree.specs.declared.syntax.Side.{Side}
use Rattle.frp_tree.specs.declared.syntax.Side.TheVariants.{Left, Right}
use Rattle.efrp_meaning.specs.Bounds.{by_width}
use Rattle.efrp_meaning.specs.Values.{shift_value}
use Rattle.byte_ops.specs.declared.operations.Op.TheVariants as op
use Rattle.byte_ops.specs.declared.operations.Pair.{Pair}
use Rattle.byte_ops.specs.Kinds.{most_shifted}
use Rattle.pic_regs.specs.Bytes.{Byte, num, one_if}
use Rattle.pic_regs.proofs.ByteLaws.{one_if-small}
use Rattle.code_acts.specs.declared.acts.Name.TheVariants.{To, A}
use Rattle.code_acts.specs.Acts.{run}
use Rattle.code_acts.specs.Codes.{sound, words}
use Rattle.op_templates.specs.Laws.{IsTemplate, uses, writes}
use Rattle.op_templates.specs.Shifts.{byte_shift, shift_template}
use Rattle.byte_ops.specs.Weights.{number_type}
use Rattle.op_templates.specs.Templates.{template_of}
use Rattle.op_templates.proofs.TemplateFacts.{at_rest, Gives, template-from}

-- A bit under a mask's bit, as a number.
masked : (b : Bool) → (one_if (b && true) ≡ one_if b) × (one_if (b && false) ≡ 0)
masked true = (refl, refl)
masked false = (refl, refl)

-- Two bits, of which a mask picks one, as in a shift by four: the second byte's half beside the first one's other half.
abbrev spliced_at : (x y : Bool) → Type 0
spliced_at x y =
    (one_if ((y && true) || (if x && true then not x else x)) ≡ one_if y) × (one_if ((y && false) || (if x && false then not x else x)) ≡ one_if x)

spliced : (x y : Bool) → spliced_at x y
spliced true true = (refl, refl)
spliced true false = (refl, refl)
spliced false true = (refl, refl)
spliced false false = (refl, refl)

-- What holds of each bit of a byte.
abbrev EachBit : (Bool → Type 0) → Byte → Type 0
EachBit P x = P x.b7 × P x.b6 × P x.b5 × P x.b4 × P x.b3 × P x.b2 × P x.b1 × P x.b0

small : (x : Byte) → EachBit (λ b. one_if b ≤ 1) x
small x = (one_if-small x.b7, one_if-small x.b6, one_if-small x.b5, one_if-small x.b4, one_if-small x.b3, one_if-small x.b2, one_if-small x.b1, one_if-small x.b0)

all_masked : (x : Byte) → EachBit (λ b. (one_if (b && true) ≡ one_if b) × (one_if (b && false) ≡ 0)) x
all_masked x = (masked x.b7, masked x.b6, masked x.b5, masked x.b4, masked x.b3, masked x.b2, masked x.b1, masked x.b0)

all_spliced : (x y : Byte)
    → (spliced_at x.b7 y.b7 × spliced_at x.b6 y.b6 × spliced_at x.b5 y.b5 × spliced_at x.b4 y.b4 × spliced_at x.b3 y.b3 × spliced_at x.b2 y.b2 × spliced_at x.b1 y.b1 × spliced_at x.b0 y.b0)
all_spliced x y =
    (spliced x.b7 y.b7, spliced x.b6 y.b6, spliced x.b5 y.b5, spliced x.b4 y.b4, spliced x.b3 y.b3, spliced x.b2 y.b2, spliced x.b1 y.b1, spliced x.b0 y.b0)

module _ (w : Byte) (c z : Bool) (mem : ℕ → Byte) where
  byte-shifted : (to : Side) (n : ℕ) → n ≤ 7 → num ((run (byte_shift to n A To []) (at_rest w c z mem)).mem 12) ≡ shift_value to n 256 (num (mem 14))
  byte-shifted Left (suc (suc (suc (suc (suc (suc (suc (suc n)))))))) fits = absurd (omega (arith, fits))
  byte-shifted Right (suc (suc (suc (suc (suc (suc (suc (suc n)))))))) fits = absurd (omega (arith, fits))
  byte-shifted _ _ fits = omega (arith, small (mem 14), all_masked (mem 14), masked c)

  pair-shifted : (to : Side) (n : ℕ) → n ≤ 15
      → num ((run (shift_template to true n) (at_rest w c z mem)).mem 12) + 256 * num ((run (shift_template to true n) (at_rest w c z mem)).mem 13)
      ≡ shift_value to n 65536 (num (mem 14) + 256 * num (mem 15))
  pair-shifted Left (suc (suc (suc (suc zero)))) fits = omega (arith, small (mem 14), small (mem 15), all_masked (mem 14), all_spliced (mem 14) (mem 15))
  pair-shifted Left (suc (suc (suc (suc (suc zero))))) fits = omega (arith, small (mem 14), small (mem 15), all_masked (mem 14), all_spliced (mem 14) (mem 15))
  pair-shifted Left (suc (suc (suc (suc (suc (suc (suc (suc (suc (suc (suc (suc (suc (suc (suc (suc n)))))))))))))))) fits = absurd (omega (arith, fits))
  pair-shifted Right (suc (suc (suc (suc zero)))) fits = omega (arith, small (mem 14), small (mem 15), all_masked (mem 15), all_spliced (mem 15) (mem 14))
  pair-shifted Right (suc (suc (suc (suc (suc zero))))) fits = omega (arith, small (mem 14), small (mem 15), all_masked (mem 15), all_spliced (mem 15) (mem 14))
  pair-shifted Right (suc (suc (suc (suc (suc (suc (suc (suc (suc (suc (suc (suc (suc (suc (suc (suc n)))))))))))))))) fits = absurd (omega (arith, fits))
  pair-shifted _ _ fits = omega (arith, small (mem 14), small (mem 15), all_masked (mem 14), all_masked (mem 15), masked c)

is_sound : (to : Side) (wide : Bool) (n : ℕ) (a_to a : Pair)
    → sound (uses (op.Shift to wide n a_to a)) (writes (op.Shift to wide n a_to a)) None false (shift_template to wide n) ≡ true
is_sound Left false (suc (suc (suc (suc (suc (suc (suc n))))))) a_to a = refl
is_sound Right false (suc (suc (suc (suc (suc (suc (suc n))))))) a_to a = refl
is_sound Left true (suc (suc (suc (suc (suc (suc (suc (suc (suc (suc (suc (suc (suc (suc (suc n))))))))))))))) a_to a = refl
is_sound Right true (suc (suc (suc (suc (suc (suc (suc (suc (suc (suc (suc (suc (suc (suc (suc n))))))))))))))) a_to a = refl
is_sound _ _ _ a_to a = refl

few_words : (to : Side) (wide : Bool) (n : ℕ) → words None (shift_template to wide n) ≤ (if wide then 21 else 10)
few_words Left false (suc (suc (suc (suc (suc (suc (suc n))))))) = lit≤ tt
few_words Right false (suc (suc (suc (suc (suc (suc (suc n))))))) = lit≤ tt
few_words Left true (suc (suc (suc (suc (suc (suc (suc (suc (suc (suc (suc (suc (suc (suc (suc n))))))))))))))) = lit≤ tt
few_words Right true (suc (suc (suc (suc (suc (suc (suc (suc (suc (suc (suc (suc (suc (suc (suc n))))))))))))))) = lit≤ tt
few_words _ _ _ = lit≤ tt

within_weight : (wide : Bool) → (if wide then 21 else 10) ≤ by_width (number_type wide) 32 80
within_weight true = lit≤ tt
within_weight false = lit≤ tt

gives : (to : Side) (wide : Bool) (n : ℕ) (a_to a : Pair) → n ≤ most_shifted wide
    → (w : Byte) (c z : Bool) (mem : ℕ → Byte) → Gives (op.Shift to wide n a_to a) (shift_template to wide n) (at_rest w c z mem)
gives to false n a_to a fits w c z mem h = byte-shifted w c z mem to n fits
gives to true n a_to a fits w c z mem h = pair-shifted w c z mem to n fits

pub shift-template : (to : Side) (wide : Bool) (n : ℕ) (a_to a : Pair) → n ≤ most_shifted wide
    → IsTemplate (op.Shift to wide n a_to a) (template_of (op.Shift to wide n a_to a))
shift-template to wide n a_to a fits =
    template-from (op.Shift to wide n a_to a) (shift_template to wide n) (gives to wide n a_to a fits) (is_sound to wide n a_to a) (few_words to wide n, within_weight wide)
