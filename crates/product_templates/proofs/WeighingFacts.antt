-- The product of a factor and a byte, of which the low byte counts: the sums of weights that are taken.
use Rattle.std.proofs.Common.{◌≡◌, ℕ, ◌+◌, ◌*◌, ◌%◌, Bool, true, false, ◌==◌, if◌then◌else◌, [], ◌∷◌, refl, ap, sym, subst, ◌∙◌, arith, eq-eqb}
use Rattle.pic_isa.specs.declared.instructions.Dest.TheVariants.{F}
use Rattle.pic_regs.specs.Bytes.{Byte, num, bits, one_if, bit, swapped}
use Rattle.pic_regs.proofs.ByteLaws.{num-below}
use Rattle.pic_machine.specs.Results.{both, plus}
use Rattle.code_acts.specs.declared.acts.Name.{Name}
use Rattle.code_acts.specs.declared.acts.Name.TheVariants.{Operand0, Operand1, Operand2, Operand3, Operand5, Operand6}
use Rattle.code_acts.specs.declared.acts.FileOp.TheVariants.{Add}
use Rattle.code_acts.specs.declared.acts.Act.TheVariants.{File, SkipBit}
use Rattle.code_acts.specs.Acts.{State, number, agrees, step_in, run}
use Rattle.product_templates.specs.Templates.{taking, doubling, weighing, folding}
use Rattle.product_templates.proofs.StateLaws.{at, ran, ran-append, in_parts, from_parts}
use Rattle.product_templates.proofs.ByteSumLaws.{plus-num, upper-num}

-- The two factors: Operand0 by the bits of Operand3, or Operand1 by those of Operand2.
abbrev pub factor : Bool → Name
factor true = Operand0
factor false = Operand1

abbrev pub other : Bool → Name
other true = Operand3
other false = Operand2

-- The factor and W are the low byte of a; Operand5 and Operand6 those of the sums h and u; the other factor is y.
pub record Weighs (first : Bool) (y : Byte) (a h u : ℕ) (s : State) : Type 0 where
  pub no_skip : s.skip ≡ false
  pub w : num s.w ≡ a % 256
  pub x : num (s.mem (number (factor first))) ≡ a % 256
  pub same : s.mem (number (other first)) ≡ y
  pub high : num (s.mem 5) ≡ h % 256
  pub upper : num (s.mem 6) ≡ u % 256

-- W has been added to a byte where b is true.
record Adds (n : ℕ) (b : Bool) (s t : State) : Type 0 where
  no_skip : t.skip ≡ false
  w : t.w ≡ s.w
  others : (m : ℕ) → (m == n) ≡ false → t.mem m ≡ s.mem m
  sum : num (t.mem n) ≡ (num (s.mem n) + one_if b * num s.w) % 256

add_where : (y to : Name) (i : ℕ) (s : State) → s.skip ≡ false → Adds (number to) (bit i (s.mem (number y))) s (ran (SkipBit false y i ∷ File Add to F ∷ []) s)
add_where y to i s none = from_parts (λ t. Adds (number to) (bit i (s.mem (number y))) s t) _ s none (by_bit (bit i (s.mem (number y))))
  where
    by_bit : (b : Bool)
        → Adds (number to) b s (step_in (agrees false b) (File Add to F) (record { w = s.w; carry = s.carry; zero = s.zero; skip = agrees false b; mem = s.mem }))
    by_bit true =
        let byte = (plus s.w (s.mem (number to))).byte in
        record {
          no_skip = refl;
          w = refl;
          others = λ m other. ap (λ v. if v then byte else s.mem m) other;
          sum = ap (λ v. num (if v then byte else s.mem (number to))) (eq-eqb (number to) (number to) refl) ∙ plus-num s.w (s.mem (number to)) ∙ omega arith;
        }
    by_bit false = record { no_skip = refl; w = refl; others = λ m other. refl; sum = omega (arith, num-below (s.mem (number to))) }

added : (b : Bool) (p w h a : ℕ) → p ≡ h % 256 → w ≡ a % 256 → (p + one_if b * w) % 256 ≡ (h + one_if b * a) % 256
added true p w h a sum weight = omega (arith, sum, weight)
added false p w h a sum weight = omega (arith, sum)

-- Neither factor is a sum.
factor-apart : (first : Bool) → ((number (factor first) == 5) ≡ false) × ((number (factor first) == 6) ≡ false)
factor-apart true = (refl, refl)
factor-apart false = (refl, refl)

other-apart : (first : Bool) → ((number (other first) == 5) ≡ false) × ((number (other first) == 6) ≡ false)
other-apart true = (refl, refl)
other-apart false = (refl, refl)

-- Where bits i and i + 4 of the other factor are 1, the weight is added to the sums.
take : {first : Bool} {y : Byte} {a h u : ℕ} {s : State} (i : ℕ) → Weighs first y a h u s
    → Weighs first y a (h + one_if (bit i y) * a) (u + one_if (bit (i + 4) y) * a) (ran (taking (other first) i) s)
take {first = first} {y = y} {a = a} {h = h} {u = u} {s = s} i e =
    in_parts (λ t. Weighs first y a (h + one_if (bit i y) * a) (u + one_if (bit (i + 4) y) * a) t) (SkipBit false (other first) i ∷ File Add Operand5 F ∷ []) _ s (
    let one = add_where (other first) Operand5 i s e.no_skip in
    let two = add_where (other first) Operand6 (i + 4) _ one.no_skip in
    let same = one.others (number (other first)) (other-apart first).0 ∙ e.same in
    record {
      no_skip = two.no_skip;
      w = ap num (two.w ∙ one.w) ∙ e.w;
      x = ap num (two.others (number (factor first)) (factor-apart first).1 ∙ one.others (number (factor first)) (factor-apart first).0) ∙ e.x;
      same = two.others (number (other first)) (other-apart first).1 ∙ same;
      high =
          ap num (two.others 5 refl)
          ∙ one.sum
          ∙ ap (λ v. (num (s.mem 5) + one_if (bit i v) * num s.w) % 256) e.same
          ∙ added (bit i y) (num (s.mem 5)) (num s.w) h a e.high e.w;
      upper =
          two.sum
          ∙ (λ j. (num (one.others 6 refl j) + one_if (bit (i + 4) (same j)) * num (one.w j)) % 256)
          ∙ added (bit (i + 4) y) (num (s.mem 6)) (num s.w) u a e.upper e.w;
    })

-- The weight is doubled.
double : {first : Bool} {y : Byte} {a h u : ℕ} {s : State} → Weighs first y a h u s → Weighs first y (a + a) h u (ran (doubling (factor first)) s)
double {first = true} {y = y} {a = a} {h = h} {u = u} {s = s} e =
    from_parts (λ t. Weighs true y (a + a) h u t) _ s e.no_skip
    (let twice : num (run (doubling Operand0) (at s.w s.carry s.zero s.mem)).w ≡ (a + a) % 256 = plus-num s.w (s.mem 0) ∙ omega (arith, e.w, e.x) in
    record { no_skip = refl; w = twice; x = twice; same = e.same; high = e.high; upper = e.upper })
double {first = _} {y = y} {a = a} {h = h} {u = u} {s = s} e =
    from_parts (λ t. Weighs false y (a + a) h u t) _ s e.no_skip
    (let twice : num (run (doubling Operand1) (at s.w s.carry s.zero s.mem)).w ≡ (a + a) % 256 = plus-num s.w (s.mem 1) ∙ omega (arith, e.w, e.x) in
    record { no_skip = refl; w = twice; x = twice; same = e.same; high = e.high; upper = e.upper })

weighing-parts : (x y : Name) (s : State)
    → ran (weighing x y) s ≡ ran (taking y 3) (ran (doubling x) (ran (taking y 2) (ran (doubling x) (ran (taking y 1) (ran (doubling x) (ran (taking y 0) s))))))
weighing-parts x y s = simp ran-append

-- The halves of a byte as numbers.
abbrev pub lower : Byte → ℕ
lower y = one_if y.b0 + 2 * one_if y.b1 + 4 * one_if y.b2 + 8 * one_if y.b3

abbrev pub higher : Byte → ℕ
higher y = one_if y.b4 + 2 * one_if y.b5 + 4 * one_if y.b6 + 8 * one_if y.b7

sum_of : (a h b c d e : ℕ) → h + b * a + c * (a + a) + d * (a + a + (a + a)) + e * (a + a + (a + a) + (a + a + (a + a))) ≡ h + (b + 2 * c + 4 * d + 8 * e) * a
sum_of a h b c d e = omega arith

-- The factor has been weighed by the other one: Operand5 and Operand6 have the products of it and of both halves more.
pub weigh : (first : Bool) (y : Byte) (a h u : ℕ) (s : State) → Weighs first y a h u s
    → Weighs first y (a + a + (a + a) + (a + a + (a + a))) (h + lower y * a) (u + higher y * a) (ran (weighing (factor first) (other first)) s)
weigh first y a h u s e =
    let all = take 3 (double (take 2 (double (take 1 (double (take 0 e)))))) in
    subst (λ (t : State). Weighs first y (a + a + (a + a) + (a + a + (a + a))) (h + lower y * a) (u + higher y * a) t) (sym (weighing-parts (factor first) (other first) s))
    (record {
      no_skip = all.no_skip;
      w = all.w;
      x = all.x;
      same = all.same;
      high = all.high ∙ ap (λ n. n % 256) (sum_of a h (one_if y.b0) (one_if y.b1) (one_if y.b2) (one_if y.b3));
      upper = all.upper ∙ ap (λ n. n % 256) (sum_of a u (one_if y.b4) (one_if y.b5) (one_if y.b6) (one_if y.b7));
    })

-- Operand5 has 16 times Operand6 more.
pub fold : (h u : ℕ) (s : State) → s.skip ≡ false → num (s.mem 5) ≡ h % 256 → num (s.mem 6) ≡ u % 256
    → ((ran folding s).skip ≡ false) × (num ((ran folding s).mem 5) ≡ (h + 16 * u) % 256)
fold h u s none high upper =
    from_parts (λ t. (t.skip ≡ false) × (num (t.mem 5) ≡ (h + 16 * u) % 256)) _ s none
    (refl, plus-num (both (swapped (s.mem 6)) (bits 0xF0)) (s.mem 5) ∙ omega (arith, upper-num (s.mem 6), high, upper))
