-- The cores of products.
use Rattle.std.proofs.Common.{◌≡◌, ℕ, ◌+◌, ◌*◌, ◌%◌, ◌<◌, Bool, true, false, [], ◌∷◌, nat_lt, ◌==◌, ◌||◌, refl, ap, sym, subst, ◌∙◌, arith}
use Rattle.frp_tree.specs.declared.syntax.BinOp.TheVariants.{Mul}
use Rattle.pic_isa.specs.declared.instructions.Dest.TheVariants.{W, F}
use Rattle.pic_regs.specs.Bytes.{Byte, num, one_if, bit}
use Rattle.pic_regs.proofs.ByteLaws.{num-below, one_if-small}
use Rattle.pic_machine.specs.Results.{plus, turned_right}
use Rattle.code_acts.specs.declared.acts.Name.TheVariants.{Operand0, Operand1, Operand2, Operand3, Operand4, Operand5, Operand6}
use Rattle.code_acts.specs.declared.acts.FileOp.TheVariants.{Add, Mov, Right}
use Rattle.code_acts.specs.declared.acts.Act.TheVariants.{File, Clear}
use Rattle.code_acts.specs.Acts.{State, agrees, step_in, run}
use Rattle.product_templates.specs.Templates.{core_of, narrow_start, long_start, weighing, folding, carrying, long_product, crossing}
use Rattle.product_templates.proofs.StateLaws.{at, ran, ran-append, from_parts, ran-keeps, any}
use Rattle.product_templates.proofs.ByteSumLaws.{plus-carry, right-num}
use Rattle.product_templates.proofs.WeighingFacts.{Weighs, lower, higher, weigh, fold}
use Rattle.product_templates.proofs.CoreFacts.{Computes}

-- Two halves make a whole.
halves : (a : ℕ) (y : Byte) → 0 + lower y * a + 16 * (0 + higher y * a) ≡ a * num y
halves a y = omega arith

small : (x : Byte) → num x ≡ num x % 256
small x = omega (arith, num-below x)

-- 8 bits: before the first weight both sums are 0.
starts : (s : State) → s.skip ≡ false → Weighs true (s.mem 3) (num (s.mem 0)) 0 0 (ran narrow_start s)
starts s none =
    from_parts (λ t. Weighs true (s.mem 3) (num (s.mem 0)) 0 0 t) _ s none
    (record { no_skip = refl; w = small (s.mem 0); x = small (s.mem 0); same = refl; high = refl; upper = refl })

narrow-parts : (s : State) → ran (core_of Mul false) s ≡ ran folding (ran (weighing Operand0 Operand3) (ran narrow_start s))
narrow-parts s = ran-append _ folding s ∙ ap (λ (t : State). ran folding t) (ran-append _ (weighing Operand0 Operand3) s)

pub narrow_product : (s : State) → s.skip ≡ false → Computes Mul false s (ran (core_of Mul false) s)
narrow_product s none =
    subst (λ (t : State). Computes Mul false s t) (sym (narrow-parts s))
    (let weighed = weigh true (s.mem 3) (num (s.mem 0)) 0 0 _ (starts s none) in
    let folded = fold (0 + lower (s.mem 3) * num (s.mem 0)) (0 + higher (s.mem 3) * num (s.mem 0)) _ weighed.no_skip weighed.high weighed.upper in
    record { no_skip = folded.0; value = folded.1 ∙ ap (λ n. n % 256) (halves (num (s.mem 0)) (s.mem 3)) })

-- 16 bits. The long product so far, of k and the lowest bits of y, turned right as often: W is k, and C is 0.
record Carries (k y : Byte) (v : ℕ) (s : State) : Type 0 where
  no_skip : s.skip ≡ false
  carry : s.carry ≡ false
  w : s.w ≡ k
  same : s.mem 2 ≡ y
  value : num (s.mem 4) + 256 * num (s.mem 5) ≡ v

is_false : (b : Bool) → one_if b ≡ 0 → b ≡ false
is_false false e = refl
is_false true e = absurd (omega (arith, e))

scaled : (c e h p v : ℕ) → c * e ≡ 128 → v ≡ c * h + 128 * p → v ≡ c * (h + e * p)
scaled c e h p v whole is = is ∙ ap (λ n. c * h + n * p) (sym whole) ∙ omega arith

-- The two turns behind a sum, where the low byte is even.
turned : (lo x : Byte) (c : Bool) (h p : ℕ) → num lo + 256 * (num x + 256 * one_if c) ≡ 2 * h + 256 * p
    → (num (turned_right x.b0 lo).byte + 256 * num (turned_right c x).byte ≡ h + 128 * p) × (lo.b0 ≡ false)
turned lo x c h p e =
    let even : one_if lo.b0 ≡ 0 = omega (arith, e, one_if-small lo.b0) in
    (omega (arith, e, even, right-num c x, right-num x.b0 lo), is_false lo.b0 even)

carry_one : (i c e h : ℕ) (k y : Byte) (s : State) → c * e ≡ 128 → Carries k y (2 * c * h) s
    → Carries k y (c * (h + e * (one_if (bit i y) * num k))) (ran (carrying i) s)
carry_one i c e h k y s whole before =
    from_parts (λ t. Carries k y (c * (h + e * (one_if (bit i y) * num k))) t) _ s before.no_skip
    (subst (λ v. Carries k y (c * (h + e * (one_if (bit i v) * num k))) (run (carrying i) (at s.w s.carry s.zero s.mem))) before.same
    (by_bit (bit i (s.mem 2))))
  where
    by_bit : (b : Bool) → Carries k y (c * (h + e * (one_if b * num k)))
        (run (File Right Operand5 F ∷ File Right Operand4 F ∷ []) (step_in (agrees false b) (File Add Operand5 F) (record { w = s.w; carry = s.carry; zero = s.zero; skip = agrees false b; mem = s.mem })))
    by_bit true =
        let after = turned (s.mem 4) (plus s.w (s.mem 5)).byte (nat_lt 255 (num s.w + num (s.mem 5))) (c * h) (num k)
        (omega (arith, before.value, plus-carry s.w (s.mem 5), ap num before.w))
        in
        record { no_skip = refl; carry = after.1; w = before.w; same = before.same; value = scaled c e h (1 * num k) _ whole (after.0 ∙ omega arith) }
    by_bit false =
        let after = turned (s.mem 4) (s.mem 5) s.carry (c * h) 0 (omega (arith, before.value, ap one_if before.carry)) in
        record { no_skip = refl; carry = after.1; w = before.w; same = before.same; value = scaled c e h (0 * num k) _ whole (after.0 ∙ omega arith) }

-- The sum of the taken weights.
whole_sum : (a : ℕ) (y : Byte)
    → 1 * (0 + 1 * (one_if y.b0 * a) + 2 * (one_if y.b1 * a) + 4 * (one_if y.b2 * a) + 8 * (one_if y.b3 * a) + 16 * (one_if y.b4 * a) + 32 * (one_if y.b5 * a) + 64 * (one_if y.b6 * a) + 128 * (one_if y.b7 * a)) ≡ a * num y
whole_sum a y = omega arith

long-parts : (s : State)
    → ran long_product s
    ≡ ran (carrying 7) (ran (carrying 6) (ran (carrying 5) (ran (carrying 4) (ran (carrying 3) (ran (carrying 2) (ran (carrying 1) (ran (carrying 0)
    (ran long_start s))))))))
long-parts s = simp ran-append

carry_all : (k y : Byte) (s : State) → Carries k y (2 * 128 * 0) s
    → Carries k y (num k * num y) (ran (carrying 7) (ran (carrying 6) (ran (carrying 5) (ran (carrying 4) (ran (carrying 3) (ran (carrying 2) (ran (carrying 1) (ran (carrying 0) s))))))))
carry_all k y s e =
    let e0 = carry_one 0 128 1 _ k y _ refl e in
    let e1 = carry_one 1 64 2 _ k y _ refl e0 in
    let e2 = carry_one 2 32 4 _ k y _ refl e1 in
    let e3 = carry_one 3 16 8 _ k y _ refl e2 in
    let e4 = carry_one 4 8 16 _ k y _ refl e3 in
    let e5 = carry_one 5 4 32 _ k y _ refl e4 in
    let e6 = carry_one 6 2 64 _ k y _ refl e5 in
    let e7 = carry_one 7 1 128 _ k y _ refl e6 in
    record { no_skip = e7.no_skip; carry = e7.carry; w = e7.w; same = e7.same; value = e7.value ∙ whole_sum (num k) y }

long : (s : State) → s.skip ≡ false → Carries (s.mem 0) (s.mem 2) (num (s.mem 0) * num (s.mem 2)) (ran long_product s)
long s none =
    subst (λ (t : State). Carries (s.mem 0) (s.mem 2) (num (s.mem 0) * num (s.mem 2)) t) (sym (long-parts s))
    (carry_all (s.mem 0) (s.mem 2) _
    (from_parts (λ t. Carries (s.mem 0) (s.mem 2) 0 t) _ s none (record { no_skip = refl; carry = refl; w = refl; same = refl; value = refl })))

long-keeps : (n : ℕ) (s : State) → ((n == 4) || (n == 5)) ≡ false → (ran long_product s).mem n ≡ s.mem n
long-keeps n s other = ran-keeps any (λ m. (m == 4) || (m == 5)) n long_product s refl other

wide-parts : (s : State)
    → ran (core_of Mul true) s
    ≡ ran folding (ran (weighing Operand1 Operand2) (ran (File Mov Operand1 W ∷ []) (ran (weighing Operand0 Operand3) (ran (Clear Operand6 ∷ []) (ran long_product s)))))
wide-parts s =
    ran-append _ folding s
    ∙ ap (λ (t : State). ran folding t)
    (ran-append long_product crossing s
    ∙ ran-append _ (weighing Operand1 Operand2) (ran long_product s)
    ∙ ap (λ (t : State). ran (weighing Operand1 Operand2) t)
    (ran-append _ (File Mov Operand1 W ∷ []) (ran long_product s)
    ∙ ap (λ (t : State). ran (File Mov Operand1 W ∷ []) t) (ran-append (Clear Operand6 ∷ []) (weighing Operand0 Operand3) (ran long_product s))))

-- The low bytes of the other two products, by halves, go to the upper byte of the long one.
whole_halves : (h a b : ℕ) (x y : Byte) → h + lower y * a + lower x * b + 16 * (0 + higher y * a + higher x * b) ≡ h + a * num y + b * num x
whole_halves h a b x y = omega arith

wide_sum : (lo h a b x y : ℕ) → lo < 256 → lo + 256 * h ≡ a * x → lo + 256 * ((h + a * y + b * x) % 256) ≡ (a + 256 * b) * (x + 256 * y) % 65536
wide_sum lo h a b x y below is = omega arith

pub wide_product : (s : State) → s.skip ≡ false → Computes Mul true s (ran (core_of Mul true) s)
wide_product s none =
    subst (λ (t : State). Computes Mul true s t) (sym (wide-parts s)) (
    let s1 = ran long_product s in
    let s2 = ran (Clear Operand6 ∷ []) s1 in
    let s3 = ran (weighing Operand0 Operand3) s2 in
    let s4 = ran (File Mov Operand1 W ∷ []) s3 in
    let s5 = ran (weighing Operand1 Operand2) s4 in
    let h = num (s1.mem 5) in
    let carried = long s none in
    let second : Weighs true (s.mem 3) (num (s.mem 0)) h 0 s2 =
    from_parts (λ t. Weighs true (s.mem 3) (num (s.mem 0)) h 0 t) _ s1 carried.no_skip
    (record {
      no_skip = refl;
      w = ap num carried.w ∙ small (s.mem 0);
      x = ap num (long-keeps 0 s refl) ∙ small (s.mem 0);
      same = long-keeps 3 s refl;
      high = small (s1.mem 5);
      upper = refl;
    })
    in
    let third = weigh true (s.mem 3) (num (s.mem 0)) h 0 s2 second in
    let keep3 = λ (n : ℕ) (other : ((n == 0) || (n == 5) || (n == 6)) ≡ false). ran-keeps any (λ m. (m == 0) || (m == 5) || (m == 6)) n (weighing Operand0 Operand3) s2 refl other in
    let keep2 = λ (n : ℕ) (other : (n == 6) ≡ false). ran-keeps any (λ m. m == 6) n (Clear Operand6 ∷ []) s1 refl other in
    let fourth : Weighs false (s.mem 2) (num (s.mem 1)) (h + lower (s.mem 3) * num (s.mem 0)) (0 + higher (s.mem 3) * num (s.mem 0)) s4 =
    from_parts (λ t. Weighs false (s.mem 2) (num (s.mem 1)) (h + lower (s.mem 3) * num (s.mem 0)) (0 + higher (s.mem 3) * num (s.mem 0)) t) _ s3 third.no_skip
    (let x : num (s3.mem 1) ≡ num (s.mem 1) % 256 = ap num (keep3 1 refl ∙ keep2 1 refl ∙ long-keeps 1 s refl) ∙ small (s.mem 1) in
    record { no_skip = refl; w = x; x = x; same = keep3 2 refl ∙ keep2 2 refl ∙ long-keeps 2 s refl; high = third.high; upper = third.upper })
    in
    let fifth = weigh false (s.mem 2) (num (s.mem 1)) _ _ s4 fourth in
    let folded = fold _ _ s5 fifth.no_skip fifth.high fifth.upper in
    let low : (ran folding s5).mem 4 ≡ s1.mem 4 =
    ran-keeps any (λ m. m == 5) 4 folding s5 refl refl
    ∙ ran-keeps any (λ m. (m == 1) || (m == 5) || (m == 6)) 4 (weighing Operand1 Operand2) s4 refl refl
    ∙ ran-keeps any (λ m. false) 4 (File Mov Operand1 W ∷ []) s3 refl refl
    ∙ keep3 4 refl
    ∙ keep2 4 refl
    in
    record {
      no_skip = folded.0;
      value =
          (λ j. num (low j) + 256 * folded.1 j)
          ∙ ap (λ n. num (s1.mem 4) + 256 * (n % 256)) (whole_halves h (num (s.mem 0)) (num (s.mem 1)) (s.mem 2) (s.mem 3))
          ∙ wide_sum (num (s1.mem 4)) h (num (s.mem 0)) (num (s.mem 1)) (num (s.mem 2)) (num (s.mem 3)) (num-below (s1.mem 4)) carried.value;
    })
