-- The cores of quotients and rests of 16 bits.
use Rattle.std.proofs.Common.{◌≡◌, ℕ, ◌+◌, ◌*◌, ◌<◌, ◌≤◌, Bool, true, false, not, ◌||◌, nat_le, if◌then◌else◌, [], ◌∷◌, ◌++◌, refl, ap, arith}
use Rattle.frp_tree.specs.declared.syntax.BinOp.TheVariants.{Div, Rem}
use Rattle.pic_isa.specs.declared.instructions.Dest.TheVariants.{W, F}
use Rattle.pic_regs.specs.Bytes.{Byte, num, one_if, bit, is_zero}
use Rattle.pic_regs.proofs.ByteLaws.{num-below, one_if-small}
use Rattle.pic_machine.specs.Results.{minus, one_more, turned_left}
use Rattle.code_acts.specs.declared.acts.Name.TheVariants.{Operand0, Operand1, Operand3, Operand4, Operand5, Operand6, Operand7}
use Rattle.code_acts.specs.declared.acts.FileOp.TheVariants.{IncSkip, Left, Mov, Sub}
use Rattle.code_acts.specs.declared.acts.Act.TheVariants.{File, Store, Clear, SkipCarry, MakeCarry}
use Rattle.code_acts.specs.Acts.{State, agrees, step_in, run}
use Rattle.product_templates.specs.Templates.{core_of, repeated, wide_shifting, borrowing, wide_keeping, wide_turning, dividing}
use Rattle.product_templates.proofs.StateLaws.{ran, in_parts, from_parts, iterate}
use Rattle.product_templates.proofs.ByteSumLaws.{minus-num, left-num, full, not_full}
use Rattle.product_templates.proofs.DivisionFacts.{Divided, begins, next, rest_is, quotient_is}
use Rattle.product_templates.proofs.CoreFacts.{Computes}

-- The number of two bytes.
abbrev pair : (low high : Byte) → ℕ
pair low high = num low + 256 * num high

pair-below : (low high : Byte) → pair low high < 65536
pair-below low high = omega (arith, num-below low, num-below high)

-- Two bytes turned left, one after the other.
pair-left : (c : Bool) (low high : Byte) → pair (turned_left c low).byte (turned_left low.b7 high).byte + 65536 * one_if high.b7 ≡ 2 * pair low high + one_if c
pair-left c low high = omega (arith, left-num c low, left-num low.b7 high)

-- The division so far: dividend in Operand0 and Operand1, divisor in Operand2 and Operand3, rest in Operand4 and Operand5.
record Turned (a d g p : ℕ) (s : State) : Type 0 where
  no_skip : s.skip ≡ false
  divisor : pair (s.mem 2) (s.mem 3) ≡ d
  numbers : Divided 65536 a d g p (pair (s.mem 0) (s.mem 1)) (one_if s.carry) (pair (s.mem 4) (s.mem 5))

-- The division in a turn, where k is the last bit of the quotient if the rest has no bit above.
abbrev Next : (a d g p : ℕ) → (k : Bool) → (difference : ℕ) → (ℕ → Byte) → Type 0
Next a d g p k difference m =
    Divided 65536 a d g p (pair (m 0) (m 1)) (one_if (bit 0 (m 8) || k)) (if bit 0 (m 8) || k then difference else pair (m 4) (m 5))

-- Shifted, and the lower bytes subtracted: C is 1 where there was no borrow. W is the divisor's upper byte, Operand7 that of the
-- rest. Whatever difference the whole will have, the division goes on with it.
record Shifted (a d g p : ℕ) (s : State) : Type 0 where
  no_skip : s.skip ≡ false
  divisor : pair (s.mem 2) (s.mem 3) ≡ d
  upper_divisor : s.w ≡ s.mem 3
  upper_rest : s.mem 7 ≡ s.mem 5
  lower : num (s.mem 6) + num (s.mem 2) ≡ num (s.mem 4) + 256 * one_if (not s.carry)
  numbers : (k : Bool) (difference : ℕ) → difference < 65536 → difference + d ≡ pair (s.mem 4) (s.mem 5) + 65536 * one_if (not k)
      → Next a d g p k difference s.mem

-- The difference is in Operand6 and Operand7, and C is 1 where there was no borrow.
record Compared (a d g p : ℕ) (s : State) : Type 0 where
  no_skip : s.skip ≡ false
  divisor : pair (s.mem 2) (s.mem 3) ≡ d
  numbers : Next a d g p s.carry (pair (s.mem 6) (s.mem 7)) s.mem

shift : (a d g p : ℕ) (s : State) → 2 * p ≤ 65536 → Turned a d g p s → Shifted a d g (2 * p) (ran wide_shifting s)
shift a d g p s room before =
    let lower = (turned_left (s.mem 1).b7 (s.mem 4)).byte in
    let upper = (turned_left (s.mem 4).b7 (s.mem 5)).byte in
    let register = pair (turned_left s.carry (s.mem 0)).byte (turned_left (s.mem 0).b7 (s.mem 1)).byte in
    from_parts (λ t. Shifted a d g (2 * p) t) wide_shifting s before.no_skip
    (record {
      no_skip = refl;
      divisor = before.divisor;
      upper_divisor = refl;
      upper_rest = refl;
      lower = minus-num lower (s.mem 2);
      numbers = λ k difference fits differs.
          next 65536 a d g p (pair (s.mem 0) (s.mem 1)) (one_if s.carry) (pair (s.mem 4) (s.mem 5)) before.numbers register (pair lower upper) difference (s.mem 1).b7
          (pair-left s.carry (s.mem 0) (s.mem 1)) (one_if-small s.carry) room (omega (arith, before.divisor, pair-below (s.mem 2) (s.mem 3))) (pair-below lower upper) fits
          (s.mem 5).b7 k (pair-left (s.mem 1).b7 (s.mem 4) (s.mem 5)) differs;
    })

borrow : (a d g p : ℕ) (s : State) → Shifted a d g p s → Compared a d g p (ran borrowing s)
borrow a d g p s before = from_parts (λ t. Compared a d g p t) _ s before.no_skip (by_carry s.carry before.lower)
  where
    by_full : (v : Bool) → is_zero (one_more (s.mem 3)) ≡ v → num (s.mem 6) + num (s.mem 2) ≡ num (s.mem 4) + 256
        → Compared a d g p (step_in v (File Sub Operand7 F) (record { w = one_more (s.mem 3); carry = false; zero = s.zero; skip = v; mem = s.mem }))
    by_full true e lower = record {
      no_skip = refl;
      divisor = before.divisor;
      numbers =
          before.numbers false (pair (s.mem 6) (s.mem 7)) (pair-below (s.mem 6) (s.mem 7))
          (omega (arith, full (s.mem 3) e, lower, before.divisor, ap num before.upper_rest));
    }
    by_full false e lower =
        let upper = minus (s.mem 7) (one_more (s.mem 3)) in
        record {
          no_skip = refl;
          divisor = before.divisor;
          numbers =
              before.numbers (nat_le (num (one_more (s.mem 3))) (num (s.mem 7))) (pair (s.mem 6) upper.byte) (pair-below (s.mem 6) upper.byte)
              (omega (arith, minus-num (s.mem 7) (one_more (s.mem 3)), not_full (s.mem 3) e, lower, before.divisor, ap num before.upper_rest));
        }

    by_carry : (c : Bool) → num (s.mem 6) + num (s.mem 2) ≡ num (s.mem 4) + 256 * one_if (not c)
        → Compared a d g p (run (File Sub Operand7 F ∷ []) (step_in c (File IncSkip Operand3 W) (record { w = s.w; carry = c; zero = s.zero; skip = c; mem = s.mem })))
    by_carry true lower =
        let upper = minus (s.mem 7) s.w in
        record {
          no_skip = refl;
          divisor = before.divisor;
          numbers =
              before.numbers (nat_le (num s.w) (num (s.mem 7))) (pair (s.mem 6) upper.byte) (pair-below (s.mem 6) upper.byte)
              (omega (arith, minus-num (s.mem 7) s.w, ap num before.upper_divisor, lower, before.divisor, ap num before.upper_rest));
        }
    by_carry false lower = by_full (is_zero (one_more (s.mem 3))) refl lower

keep : (a d g p : ℕ) (s : State) → Compared a d g p s → Turned a d g p (ran wide_keeping s)
keep a d g p s before = from_parts (λ t. Turned a d g p t) _ s before.no_skip (by_bits (bit 0 (s.mem 8)) s.carry before.numbers)
  where
    by_bits : (e k : Bool) → Divided 65536 a d g p (pair (s.mem 0) (s.mem 1)) (one_if (e || k)) (if e || k then pair (s.mem 6) (s.mem 7) else pair (s.mem 4) (s.mem 5))
        → Turned a d g p
        (run (File Mov Operand7 W ∷ SkipCarry false ∷ Store Operand5 ∷ File Mov Operand6 W ∷ SkipCarry false ∷ Store Operand4 ∷ [])
        (step_in (agrees false e) (MakeCarry true) (record { w = s.w; carry = k; zero = s.zero; skip = agrees false e; mem = s.mem })))
    by_bits true _ numbers = record { no_skip = refl; divisor = before.divisor; numbers = numbers }
    by_bits false true numbers = record { no_skip = refl; divisor = before.divisor; numbers = numbers }
    by_bits false false numbers = record { no_skip = refl; divisor = before.divisor; numbers = numbers }

turn : (a d g p : ℕ) (s : State) → 2 * p ≤ 65536 → Turned a d g p s → Turned a d g (2 * p) (ran wide_turning s)
turn a d g p s room before =
    in_parts (λ t. Turned a d g (2 * p) t) (wide_shifting ++ borrowing) wide_keeping s
    (keep a d g (2 * p) _
    (in_parts (λ t. Compared a d g (2 * p) t) wide_shifting borrowing s (borrow a d g (2 * p) _ (shift a d g p s room before))))

-- All turns, from a rest of 0.
divide : (s : State) → s.skip ≡ false → Turned (pair (s.mem 0) (s.mem 1)) (pair (s.mem 2) (s.mem 3)) (one_if s.carry) 65536 (ran (dividing true) s)
divide s none =
    let a = pair (s.mem 0) (s.mem 1) in
    let d = pair (s.mem 2) (s.mem 3) in
    in_parts (λ t. Turned a d (one_if s.carry) 65536 t) (Clear Operand4 ∷ Clear Operand5 ∷ []) (repeated 16 wide_turning) s
    (iterate (λ p t. Turned a d (one_if s.carry) p t) 65536 wide_turning (λ p t room before. turn a d (one_if s.carry) p t room before) 16 1 _ (omega arith)
    (from_parts (λ t. Turned a d (one_if s.carry) 1 t) _ s none (record { no_skip = refl; divisor = refl; numbers = begins 65536 a d (one_if s.carry) })))

pub wide_rest : (s : State) → s.skip ≡ false → Computes Rem true s (ran (core_of Rem true) s)
wide_rest s none =
    let all = divide s none in
    let t = ran (dividing true) s in
    record { no_skip = all.no_skip; value = rest_is 65536 _ _ _ _ _ _ all.numbers (pair-below (t.mem 0) (t.mem 1)) }

pub wide_quotient : (s : State) → s.skip ≡ false → Computes Div true s (ran (core_of Div true) s)
wide_quotient s none =
    let all = divide s none in
    let t = ran (dividing true) s in
    let lower = (turned_left t.carry (t.mem 0)).byte in
    let upper = (turned_left (t.mem 0).b7 (t.mem 1)).byte in
    in_parts (λ t. Computes Div true s t) (dividing true) (File Left Operand0 F ∷ File Left Operand1 F ∷ []) s
    (from_parts (λ t. Computes Div true s t) _ t all.no_skip
    (record {
      no_skip = refl;
      value =
          quotient_is 65536 _ _ _ _ _ _ all.numbers (pair-below (t.mem 0) (t.mem 1)) (pair lower upper) (t.mem 1).b7 (pair-below lower upper)
          (pair-left t.carry (t.mem 0) (t.mem 1));
    }))
