-- Where named bytes lie: operand bytes and others together; and PCLATH, which is none of them.
use Rattle.std.proofs.Common.{◌≡◌, ℕ, ◌+◌, ◌/◌, ◌%◌, ◌<◌, ◌≤◌, ◌⊎◌, Bool, true, false, ◌==◌, if◌then◌else◌, ap, ◌∙◌, sym, refl, subst, arith, inl, inr}
use Rattle.std.proofs.lemmas.Bool.{lt-ltb, ltb-true}
use Rattle.pic_regs.specs.Map.{Pclath, Plain, reg_at, reg_in}
use Rattle.pic_machine.specs.Chip.{Chip}
use Rattle.code_steps.specs.Steps.{Comes}
use Rattle.code_steps.specs.Ends.{Own}
use Rattle.code_steps.proofs.ComesLaws.{comes_keeping}
use Rattle.code_steps.proofs.JumpLaws.{reg_in-common}
use Rattle.code_acts.specs.declared.acts.Places.{Places}
use Rattle.code_acts.specs.Codes.{is_operand, place_of}
use Rattle.code_acts.specs.Standing.{Placed, PlacesOf}
use Rattle.code_acts.specs.Laws.{OthersPlaced, IsUsed}

-- PCLATH is no named byte, so code that writes named bytes alone keeps it.
pub misses_pclath : (uses writes : ℕ → Bool) (place : ℕ → ℕ) → Placed uses writes place → IsUsed uses writes → PlacesOf writes place 0x00A → ⊥
misses_pclath uses writes place placed used (n, written, at) =
    let plain : reg_at (place n) ≡ Plain (place n) = placed.plain n (used n written) in
    let clash : Pclath ≡ Plain (place n) = subst (λ a. reg_at a ≡ Plain (place n)) (sym at) plain in cc

kept_by_step : {A : Type 0} (may : ℕ → Type 0) (old now before : A) → (may 0x00A → ⊥) → (now ≡ old) ⊎ may 0x00A → old ≡ before → now ≡ before
kept_by_step may old now before missed (inl same) so_far = same ∙ so_far
kept_by_step may old now before missed (inr wrote) so_far = absurd (missed wrote)

pub keeps_pclath : (program : ℕ → ℕ) (R : Chip → Chip → Type 0) (may : ℕ → Type 0) (start stop : ℕ) (Q : Chip → Type 0)
    → ((c d : Chip) → R c d → d.regs.pclath ≡ c.regs.pclath) → (may 0x00A → ⊥)
    → (k : ℕ) (c : Chip) → Comes program R (Own may start stop) Q k c → Comes program R (Own may start stop) (λ e. Q e × (e.regs.pclath ≡ c.regs.pclath)) k c
keeps_pclath program R may start stop Q between missed k c come =
    comes_keeping program R (Own may start stop) Q (λ e. e.regs.pclath ≡ c.regs.pclath)
    (λ x d r so_far. between x d r ∙ so_far)
    (λ d done step so_far. kept_by_step may d.regs.pclath done.chip.regs.pclath c.regs.pclath missed step.pclath so_far)
    k c refl come

-- Operand bytes and bytes elsewhere are placed, where the others are.
module _ (uses writes : ℕ → Bool) (place : ℕ → ℕ) (operands : (n : ℕ) → n < 12 → place n ≡ 0x74 + n) (others : OthersPlaced uses writes place) where
  below_512 : (n : ℕ) (b : Bool) → is_operand n ≡ b → uses n ≡ true → place n < 512
  below_512 n true is used = let lies = operands n (ltb-true n 12 is) in let low = ltb-true n 12 is in omega (arith, lies, low)
  below_512 n false is used = (others.far n is used).below

  is_plain : (n : ℕ) (b : Bool) → is_operand n ≡ b → uses n ≡ true → reg_at (place n) ≡ Plain (place n)
  is_plain n true is used =
      let low : n < 12 = ltb-true n 12 is in
      let lies : place n ≡ 0x74 + n = operands n low in
      let field : place n % 128 ≡ place n = omega arith in
      ap (λ f. reg_in (place n / 128) f) field ∙ reg_in-common (place n / 128) (place n) (omega arith)
  is_plain n false is used = (others.far n is used).plain

  no_operand : (n m : ℕ) → is_operand n ≡ true → is_operand m ≡ false → uses m ≡ true → place n ≡ place m → ⊥
  no_operand n m is other used same = outside (others.far m other used).outside
    where
      outside : (place m < 0x74) ⊎ (0x80 ≤ place m) → ⊥
      outside (inl under) = let low = ltb-true n 12 is in let lies = operands n low in omega (arith, low, lies, same, under)
      outside (inr over) = let low = ltb-true n 12 is in let lies = operands n low in omega (arith, low, lies, same, over)

  are_apart : (n m : ℕ) (a b : Bool) → is_operand n ≡ a → is_operand m ≡ b → writes n ≡ true → uses m ≡ true → place n ≡ place m → n ≡ m
  are_apart n m true true is also written used same =
      let low = operands n (ltb-true n 12 is) in let high = operands m (ltb-true m 12 also) in omega (arith, low, high, same)
  are_apart n m true false is other written used same = absurd (no_operand n m is other used same)
  are_apart n m false true other is written used same = absurd (no_operand m n is other (others.used n written) (sym same))
  are_apart n m false false other also written used same = others.apart n m other also written used same

  pub all_placed : Placed uses writes place
  all_placed = record {
    operands = operands;
    below = λ n used. below_512 n (is_operand n) refl used;
    plain = λ n used. is_plain n (is_operand n) refl used;
    apart = λ n m written used same. are_apart n m (is_operand n) (is_operand m) refl refl written used same;
  }

-- Operand bytes of the code's places lie where they do.
pub operands_of : (places : Places) (n : ℕ) → n < 12 → place_of places n ≡ 0x74 + n
operands_of places n low =
    ap (λ b. if b then 0x74 + n
    else if n == 12 then places.to
    else if n == 13 then places.to_high
    else if n == 14 then places.a
    else if n == 15 then places.a_high
    else if n == 16 then places.b
    else if n == 17 then places.b_high
    else places.c) (lt-ltb n 12 low)
