-- Values at the edges of products and quotients, as the machine leaves them.
use Rattle.std.proofs.Common.{◌≡◌, ℕ, ◌/◌, ◌%◌, ◌+◌, ◌*◌, Bool, true, false, ◌==◌, if◌then◌else◌, refl}
use Rattle.frp_tree.specs.declared.syntax.BinOp.{BinOp}
use Rattle.frp_tree.specs.declared.syntax.BinOp.TheVariants.{Mul, Div, Rem}
use Rattle.pic_regs.specs.Bytes.{num, bits, ones}
use Rattle.code_acts.specs.Acts.{State, run}
use Rattle.product_templates.specs.Templates.{product_template}

-- Two operands, with W, C, Z and all other bytes as bad as they can be.
abbrev start : (a b : ℕ) → State
start a b = record {
  w = ones;
  carry = true;
  zero = true;
  skip = false;
  mem = λ n. if n == 14 then bits (a % 256) else if n == 15 then bits (a / 256) else if n == 16 then bits (b % 256) else if n == 17 then bits (b / 256) else ones;
}

abbrev after : BinOp → (wide : Bool) → (a b : ℕ) → ℕ
after f false a b = num ((run (product_template f false) (start a b)).mem 12)
after f true a b = let end = run (product_template f true) (start a b) in num (end.mem 12) + 256 * num (end.mem 13)

-- 200 * 3 is 600, of which 88 is left.
product_wraps : after Mul false 200 3 ≡ 88
product_wraps = refl

greatest_squared : after Mul false 255 255 ≡ 1
greatest_squared = refl

wide_product_wraps : after Mul true 40000 3 ≡ 54464
wide_product_wraps = refl

wide_bytes_cross : after Mul true 0x1234 0x0203 ≡ 0x9E9C
wide_bytes_cross = refl

quotient : after Div false 200 7 ≡ 28
quotient = refl

rest : after Rem false 200 7 ≡ 4
rest = refl

-- The rest needs a ninth bit where the divisor is above 128.
quotient_by_much : after Div false 255 129 ≡ 1
quotient_by_much = refl

rest_by_much : after Rem false 255 200 ≡ 55
rest_by_much = refl

quotient_by_zero : after Div false 9 0 ≡ 255
quotient_by_zero = refl

rest_by_zero : after Rem false 9 0 ≡ 9
rest_by_zero = refl

wide_quotient : after Div true 60000 7 ≡ 8571
wide_quotient = refl

-- The upper byte of the divisor is 255.
wide_rest_by_much : after Rem true 65535 65281 ≡ 254
wide_rest_by_much = refl

wide_quotient_by_zero : after Div true 9 0 ≡ 65535
wide_quotient_by_zero = refl

wide_rest_by_zero : after Rem true 999 0 ≡ 999
wide_rest_by_zero = refl
