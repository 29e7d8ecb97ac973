-- The cores of quotients and rests of 8 bits.
use Rattle.std.proofs.Common.{◌≡◌, ℕ, ◌*◌, ◌≤◌, Bool, true, false, ◌||◌, nat_le, if◌then◌else◌, [], ◌∷◌, refl, arith}
use Rattle.frp_tree.specs.declared.syntax.BinOp.TheVariants.{Div, Rem}
use Rattle.pic_isa.specs.declared.instructions.Dest.TheVariants.{F}
use Rattle.pic_regs.specs.Bytes.{num, one_if, bit}
use Rattle.pic_regs.proofs.ByteLaws.{num-below, one_if-small}
use Rattle.pic_machine.specs.Results.{minus, turned_left}
use Rattle.code_acts.specs.declared.acts.Name.TheVariants.{Operand0, Operand4}
use Rattle.code_acts.specs.declared.acts.FileOp.TheVariants.{Left}
use Rattle.code_acts.specs.declared.acts.Act.TheVariants.{File, Store, Clear, SkipCarry, MakeCarry}
use Rattle.code_acts.specs.Acts.{State, agrees, step_in, run}
use Rattle.product_templates.specs.Templates.{core_of, repeated, comparing, keeping, turning, dividing}
use Rattle.product_templates.proofs.StateLaws.{ran, in_parts, from_parts, iterate}
use Rattle.product_templates.proofs.ByteSumLaws.{minus-num, left-num}
use Rattle.product_templates.proofs.DivisionFacts.{Divided, begins, next, rest_is, quotient_is}
use Rattle.product_templates.proofs.CoreFacts.{Computes}

-- The division so far: dividend in Operand0, divisor in Operand3, rest in Operand4.
record Turned (a d g p : ℕ) (s : State) : Type 0 where
  no_skip : s.skip ≡ false
  divisor : num (s.mem 3) ≡ d
  numbers : Divided 256 a d g p (num (s.mem 0)) (one_if s.carry) (num (s.mem 4))

-- The same within a turn: bit 0 of Operand8 or C is the next bit of the quotient, W the difference.
record Compared (a d g p : ℕ) (s : State) : Type 0 where
  no_skip : s.skip ≡ false
  divisor : num (s.mem 3) ≡ d
  numbers : Divided 256 a d g p (num (s.mem 0)) (one_if (bit 0 (s.mem 8) || s.carry)) (if bit 0 (s.mem 8) || s.carry then num s.w else num (s.mem 4))

compare : (a d g p : ℕ) (s : State) → 2 * p ≤ 256 → Turned a d g p s
    → Compared a d g (2 * p) (ran comparing s)
compare a d g p s room before =
    let low = (turned_left (s.mem 0).b7 (s.mem 4)).byte in
    let difference = minus low (s.mem 3) in
    from_parts (λ t. Compared a d g (2 * p) t) _ s before.no_skip
    (record {
      no_skip = refl;
      divisor = before.divisor;
      numbers =
          next 256 a d g p (num (s.mem 0)) (one_if s.carry) (num (s.mem 4)) before.numbers (num (turned_left s.carry (s.mem 0)).byte) (num low) (num difference.byte) (s.mem 0).b7
          (left-num s.carry (s.mem 0)) (one_if-small s.carry) room (omega (arith, before.divisor, num-below (s.mem 3))) (num-below low) (num-below difference.byte)
          (s.mem 4).b7 (nat_le (num (s.mem 3)) (num low)) (left-num (s.mem 0).b7 (s.mem 4)) (omega (arith, minus-num low (s.mem 3), before.divisor));
    })

keep : (a d g p : ℕ) (s : State) → Compared a d g p s → Turned a d g p (ran keeping s)
keep a d g p s before = from_parts (λ t. Turned a d g p t) _ s before.no_skip (by_bits (bit 0 (s.mem 8)) s.carry before.numbers)
  where
    by_bits : (e k : Bool) → Divided 256 a d g p (num (s.mem 0)) (one_if (e || k)) (if e || k then num s.w else num (s.mem 4))
        → Turned a d g p
        (run (SkipCarry false ∷ Store Operand4 ∷ []) (step_in (agrees false e) (MakeCarry true) (record { w = s.w; carry = k; zero = s.zero; skip = agrees false e; mem = s.mem })))
    by_bits true _ numbers = record { no_skip = refl; divisor = before.divisor; numbers = numbers }
    by_bits false true numbers = record { no_skip = refl; divisor = before.divisor; numbers = numbers }
    by_bits false false numbers = record { no_skip = refl; divisor = before.divisor; numbers = numbers }

turn : (a d g p : ℕ) (s : State) → 2 * p ≤ 256 → Turned a d g p s → Turned a d g (2 * p) (ran turning s)
turn a d g p s room before =
    in_parts (λ t. Turned a d g (2 * p) t) comparing keeping s
    (keep a d g (2 * p) _ (compare a d g p s room before))

-- All turns, from a rest of 0.
divide : (s : State) → s.skip ≡ false → Turned (num (s.mem 0)) (num (s.mem 3)) (one_if s.carry) 256 (ran (dividing false) s)
divide s none =
    in_parts (λ t. Turned (num (s.mem 0)) (num (s.mem 3)) (one_if s.carry) 256 t) (Clear Operand4 ∷ []) (repeated 8 turning) s
    (iterate (λ p t. Turned (num (s.mem 0)) (num (s.mem 3)) (one_if s.carry) p t) 256 turning (λ p t room before. turn _ _ _ p t room before) 8 1 _ (omega arith)
    (from_parts (λ t. Turned (num (s.mem 0)) (num (s.mem 3)) (one_if s.carry) 1 t) _ s none
    (record { no_skip = refl; divisor = refl; numbers = begins 256 (num (s.mem 0)) (num (s.mem 3)) (one_if s.carry) })))

pub narrow_rest : (s : State) → s.skip ≡ false → Computes Rem false s (ran (core_of Rem false) s)
narrow_rest s none =
    let all = divide s none in
    record { no_skip = all.no_skip; value = rest_is 256 _ _ _ _ _ _ all.numbers (num-below ((ran (dividing false) s).mem 0)) }

pub narrow_quotient : (s : State) → s.skip ≡ false → Computes Div false s (ran (core_of Div false) s)
narrow_quotient s none =
    let all = divide s none in
    let t = ran (dividing false) s in
    in_parts (λ t. Computes Div false s t) (dividing false) (File Left Operand0 F ∷ []) s
    (from_parts (λ t. Computes Div false s t) _ t all.no_skip
    (record {
      no_skip = refl;
      value =
          quotient_is 256 _ _ _ _ _ _ all.numbers (num-below (t.mem 0)) (num (turned_left t.carry (t.mem 0)).byte) (t.mem 0).b7 (num-below (turned_left t.carry (t.mem 0)).byte)
          (left-num t.carry (t.mem 0));
    }))
