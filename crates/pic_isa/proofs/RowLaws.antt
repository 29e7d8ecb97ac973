-- What a word is and the table of words agree: `instruction_of` finds the row of which the word is one, and no other.
use Rattle.std.specs.Prelude.{bit_and}
use Rattle.std.proofs.Common.{rules, ◌≡◌, ℕ, zero, suc, ◌+◌, ◌-◌, ◌*◌, ◌/◌, ◌%◌, ◌^◌, ◌<◌, ◌≤◌, Bool, true, false, ◌==◌, if◌then◌else◌, Option, Some, None, IfSome, refl, sym, ap, subst, ◌∙◌, arith, lit<, lit≤, inl, inr}
use Rattle.std.proofs.lemmas.Bool.{eqb-true, agree_below_at, cases_lt}
use Rattle.std.proofs.lemmas.Nat.{and_mask, and_mod, and_shr}
use Rattle.std.proofs.lemmas.Nat.Bits.{and_high}
use Rattle.pic_isa.specs.declared.instructions.Dest.{Dest}
use Rattle.pic_isa.specs.declared.instructions.Dest.TheVariants.{W, F}
use Rattle.pic_isa.specs.declared.instructions.Instr.{Instr}
use Rattle.pic_isa.specs.declared.instructions.Instr.TheVariants.{Clrf, Clrw, Movwf, Nop, Bcf, Bsf, Btfsc, Btfss, Addlw, Andlw, Call, Clrwdt, Goto, Iorlw, Movlw, Retfie, Retlw, Return, Sleep, Sublw, Xorlw}
use Rattle.pic_isa.proofs.WordLaws.{dest_bit_small}
use Rattle.pic_isa.specs.Instructions.{FieldsFit, IsWordOf, dest_bit, dest_of, word_of, free_bits, row_of, instruction_of}

-- Each row has its fields in range.
if-fits : (test : Bool) (i : Instr) (rest : Option Instr) → FieldsFit i → IfSome rest FieldsFit → IfSome (if test then Some i else rest) FieldsFit
if-fits true i rest fit others = fit
if-fits false i rest fit others = others

row-fits : (high low : ℕ) → low < 256 → IfSome (row_of high low) FieldsFit
row-fits high low below =
    let f : low % 128 < 128 = omega arith in
    let b : high % 4 * 2 + low / 128 < 8 = omega arith in
    let k : high % 8 * 256 + low < 2048 = omega arith in
    search (rules, if-fits) depth 80

-- A test of what was found. It holds of all words of 14 bits.
abbrev agrees : ℕ → Option Instr → Bool
agrees word None = true
agrees word (Some i) = bit_and word (0x3FFF - free_bits i) == word_of i

each_word : (word : ℕ) → word < 0x4000 → agrees word (instruction_of word) ≡ true
each_word word below = agree_below_at (λ w. agrees w (instruction_of w)) (λ w. true) 0x4000 word refl below

-- What is found is a row of which the word is one.
pub found-is_row : (word : ℕ) (i : Instr) → word < 0x4000 → instruction_of word ≡ Some i → IsWordOf i word × FieldsFit i
found-is_row word i below found =
    let test = sym (ap (agrees word) found) ∙ each_word word below in
    let fits = row-fits (word / 256) (word % 256) (omega arith) in
    ((below, eqb-true (bit_and word (0x3FFF - free_bits i)) (word_of i) test), subst (λ o. IfSome o FieldsFit) found fits)

-- A word by its upper six and its lower eight bits.
by_parts : (word high low : ℕ) → word ≡ high * 256 + low → low < 256 → instruction_of word ≡ row_of high low
by_parts word high low e below =
    ap (λ h. row_of h (word % 256)) (let h : word / 256 ≡ high = omega (arith, e, below) in h)
    ∙ ap (row_of high) (let l : word % 256 ≡ low = omega (arith, e, below) in l)

-- A word with no bit that is ignored is the row's.
whole : (word value : ℕ) → word < 0x4000 → bit_and word 0x3FFF ≡ value → word ≡ value
whole word value below e = (let m : word ≡ word % 2 ^ 14 = omega (arith, below) in m) ∙ sym (and_mask word 14) ∙ e

-- Rows by their kinds: with a register and a destination, with a register alone, with a bit, with a constant.
register_row : (base f : ℕ) (d : Dest) → base % 256 ≡ 0 → f < 128 → instruction_of (base + 128 * dest_bit d + f) ≡ row_of (base / 256) (128 * dest_bit d + f)
register_row base f d even fit =
    let small = dest_bit_small d in
    by_parts (base + 128 * dest_bit d + f) (base / 256) (128 * dest_bit d + f) (omega (arith, even)) (omega (arith, fit, small))

its_register : (f : ℕ) (d : Dest) → f < 128 → (128 * dest_bit d + f) % 128 ≡ f
its_register f d fit = omega (arith, fit)

its_dest : (f : ℕ) (d : Dest) → f < 128 → dest_of ((128 * dest_bit d + f) / 128) ≡ d
its_dest f W fit = ap dest_of (let e : (0 + f) / 128 ≡ 0 = omega (arith, fit) in e)
its_dest f F fit = ap dest_of (let e : (128 + f) / 128 ≡ 1 = omega (arith, fit) in e)

upper_half_row : (row : ℕ → Instr) (high upper : ℕ) → upper ≤ 1 → ((low : ℕ) → low / 128 ≡ upper → row_of high low ≡ Some (row (low % 128)))
    → (f word : ℕ) → f < 128 → word ≡ high * 256 + 128 * upper + f → instruction_of word ≡ Some (row f)
upper_half_row row high upper small is f word fit e =
    let low : ℕ = 128 * upper + f in
    let its_f : low % 128 ≡ f = omega (arith, fit) in
    let its_upper : low / 128 ≡ upper = omega (arith, fit) in
    by_parts word high low (omega (arith, e)) (omega (arith, fit, small)) ∙ is low its_upper ∙ ap (λ x. Some (row x)) its_f

bit_row : (row : ℕ → ℕ → Instr) (high : ℕ) → ((j low : ℕ) → j < 4 → row_of (high + j) low ≡ Some (row (low % 128) (j * 2 + low / 128)))
    → (f b word : ℕ) → f < 128 → b < 8 → word ≡ high * 256 + 128 * b + f → instruction_of word ≡ Some (row f b)
bit_row row high is f b word fit small e =
    let low : ℕ = 128 * (b % 2) + f in
    let its_f : low % 128 ≡ f = omega (arith, fit) in
    let its_b : b / 2 * 2 + low / 128 ≡ b = omega (arith, fit) in
    by_parts word (high + b / 2) low (omega (arith, e)) (omega (arith, fit)) ∙ is (b / 2) low (omega (arith, small))
    ∙ ap (λ x. Some (row x (b / 2 * 2 + low / 128))) its_f ∙ ap (λ x. Some (row f x)) its_b

constant_row : (row : ℕ → Instr) (high : ℕ) → ((low : ℕ) → row_of high low ≡ Some (row low)) → (k word : ℕ) → k < 256 → word ≡ high * 256 + k → instruction_of word ≡ Some (row k)
constant_row row high is k word fit e = by_parts word high k e fit ∙ is k

address_row : (row : ℕ → Instr) (high : ℕ) → ((j low : ℕ) → j < 8 → row_of (high + j) low ≡ Some (row (j * 256 + low)))
    → (k word : ℕ) → k < 2048 → word ≡ high * 256 + k → instruction_of word ≡ Some (row k)
address_row row high is k word fit e =
    let its_k : k / 256 * 256 + k % 256 ≡ k = omega arith in
    by_parts word (high + k / 256) (k % 256) (omega (arith, e)) (omega arith) ∙ is (k / 256) (k % 256) (omega (arith, fit)) ∙ ap (λ x. Some (row x)) its_k

-- What is shown of each number below n, one by one, holds of all of them.
abbrev Each : (ℕ → Type 0) → ℕ → Type 0
Each P zero = Unit {0}
Each P (suc n) = Each P n × P n

each : (P : ℕ → Type 0) (n : ℕ) → Each P n → (j : ℕ) → j < n → P j
each P zero all j h = absurd (omega (arith, h))
each P (suc n) all j h =
    elim (cases_lt j n) [
      | inl less ↦ each P n all.0 j less
      | inr most ↦ subst P (let here : n ≡ j = omega (arith, h, most) in here) all.1
    ]

-- A word with bits that are ignored: its lower eight bits, and its upper six where two or one of them are ignored.
lower : (word mask value : ℕ) → bit_and word mask ≡ value → mask % 2 ^ 8 ≡ 0xFF → word % 256 ≡ value % 256
lower word mask value e m =
    (let h : word % 256 ≡ word % 2 ^ 8 % 2 ^ 8 = omega arith in h) ∙ sym (and_mask (word % 2 ^ 8) 8) ∙ ap (bit_and (word % 2 ^ 8)) (sym m)
    ∙ sym (and_mod word mask 8) ∙ ap (λ n. n % 256) e

upper_but_one : (word value : ℕ) → bit_and word 0x3EFF ≡ value → word / 256 / 2 % 32 * 2 ≡ value / 256
upper_but_one word value e = sym (and_high (word / 2 ^ 8) 5 1) ∙ sym (and_shr word 0x3EFF 8) ∙ ap (λ n. n / 256) e

upper_but_two : (word value : ℕ) → bit_and word 0x3CFF ≡ value → word / 256 / 4 % 16 * 4 ≡ value / 256
upper_but_two word value e = sym (and_high (word / 2 ^ 8) 4 2) ∙ sym (and_shr word 0x3CFF 8) ∙ ap (λ n. n / 256) e

-- A row with a constant and bits that are ignored between it and the fixed ones: one such bit, and two.
free_row : (row : ℕ → Instr) (high size mask : ℕ) → ((j low : ℕ) → j < size → row_of (high + j) low ≡ Some (row low)) → mask % 2 ^ 8 ≡ 0xFF
    → (k word : ℕ) → k < 256 → bit_and word mask ≡ high * 256 + k → high ≤ word / 256 → word / 256 < high + size → instruction_of word ≡ Some (row k)
free_row row high size mask is whole_byte k word fit e from below =
    let l = lower word mask (high * 256 + k) e whole_byte in
    constant_row row (high + (word / 256 - high)) (λ low. is (word / 256 - high) low (omega (arith, from, below))) k word fit (omega (arith, l, fit, from))

one_free_row : (row : ℕ → Instr) (high : ℕ) → ((j low : ℕ) → j < 2 → row_of (high + j) low ≡ Some (row low)) → high % 2 ≡ 0 → high < 64
    → (k word : ℕ) → k < 256 → word < 0x4000 → bit_and word 0x3EFF ≡ high * 256 + k → instruction_of word ≡ Some (row k)
one_free_row row high is even small k word fit below e =
    let u = upper_but_one word (high * 256 + k) e in
    free_row row high 2 0x3EFF is refl k word fit e (omega (arith, u, even)) (omega (arith, u, fit, even, small, below))

two_free_row : (row : ℕ → Instr) (high : ℕ) → ((j low : ℕ) → j < 4 → row_of (high + j) low ≡ Some (row low)) → high % 4 ≡ 0 → high < 64
    → (k word : ℕ) → k < 256 → word < 0x4000 → bit_and word 0x3CFF ≡ high * 256 + k → instruction_of word ≡ Some (row k)
two_free_row row high is even small k word fit below e =
    let u = upper_but_two word (high * 256 + k) e in
    free_row row high 4 0x3CFF is refl k word fit e (omega (arith, u, even)) (omega (arith, u, fit, even, small, below))

clrw_row : (word : ℕ) → word < 0x4000 → bit_and word 0x3F80 ≡ 0x0100 → instruction_of word ≡ Some Clrw
clrw_row word below e =
    let m = sym (and_high word 7 7) ∙ e in
    let its_upper : word % 256 / 128 ≡ 0 = omega (arith, m, below) in
    by_parts word 1 (word % 256) (omega (arith, m, below)) (omega arith) ∙ rw its_upper refl

nop_row : (word : ℕ) → word < 0x4000 → bit_and word 0x3F9F ≡ 0 → instruction_of word ≡ Some Nop
nop_row word below e =
    let m : word / 128 % 128 ≡ 0 = sym (and_mask (word / 2 ^ 7) 7) ∙ sym (and_shr word 0x3F9F 7) ∙ ap (λ n. n / 128) e in
    let n : word % 32 % 32 ≡ 0 = sym (and_mask (word % 2 ^ 5) 5) ∙ sym (and_mod word 0x3F9F 5) ∙ ap (λ n. n % 32) e in
    let j : ℕ = word / 32 in
    (let its_word : word ≡ j * 32 = omega (arith, m, n, below) in ap instruction_of its_word)
    ∙ each (λ j. instruction_of (j * 32) ≡ Some Nop) 4 ((((tt, refl), refl), refl), refl) j (omega (arith, m, below))

-- The word that is written for an instruction, with 0 at each bit that is ignored, is that instruction.
pub written-found : (i : Instr) → FieldsFit i → instruction_of (word_of i) ≡ Some i
written-found (Clrf f) fit = upper_half_row Clrf 0x01 1 (lit≤ tt) (λ low h. rw h refl) f (word_of (Clrf f)) fit refl
written-found Clrw fit = refl
written-found (Movwf f) fit = upper_half_row Movwf 0x00 1 (lit≤ tt) (λ low h. rw h refl) f (word_of (Movwf f)) fit refl
written-found Nop fit = refl
written-found (Bcf f b) fit = bit_row Bcf 0x10 (λ j low. each (λ j. row_of (0x10 + j) low ≡ Some (Bcf (low % 128) (j * 2 + low / 128))) 4 ((((tt, refl), refl), refl), refl) j) f b (word_of (Bcf f b)) fit.0 fit.1 refl
written-found (Bsf f b) fit = bit_row Bsf 0x14 (λ j low. each (λ j. row_of (0x14 + j) low ≡ Some (Bsf (low % 128) (j * 2 + low / 128))) 4 ((((tt, refl), refl), refl), refl) j) f b (word_of (Bsf f b)) fit.0 fit.1 refl
written-found (Btfsc f b) fit = bit_row Btfsc 0x18 (λ j low. each (λ j. row_of (0x18 + j) low ≡ Some (Btfsc (low % 128) (j * 2 + low / 128))) 4 ((((tt, refl), refl), refl), refl) j) f b (word_of (Btfsc f b)) fit.0 fit.1 refl
written-found (Btfss f b) fit = bit_row Btfss 0x1C (λ j low. each (λ j. row_of (0x1C + j) low ≡ Some (Btfss (low % 128) (j * 2 + low / 128))) 4 ((((tt, refl), refl), refl), refl) j) f b (word_of (Btfss f b)) fit.0 fit.1 refl
written-found (Addlw k) fit = constant_row Addlw 0x3E (λ low. refl) k (word_of (Addlw k)) fit refl
written-found (Andlw k) fit = constant_row Andlw 0x39 (λ low. refl) k (word_of (Andlw k)) fit refl
written-found (Call k) fit = address_row Call 0x20 (λ j low. each (λ j. row_of (0x20 + j) low ≡ Some (Call (j * 256 + low))) 8 ((((((((tt, refl), refl), refl), refl), refl), refl), refl), refl) j) k (word_of (Call k)) fit refl
written-found Clrwdt fit = refl
written-found (Goto k) fit = address_row Goto 0x28 (λ j low. each (λ j. row_of (0x28 + j) low ≡ Some (Goto (j * 256 + low))) 8 ((((((((tt, refl), refl), refl), refl), refl), refl), refl), refl) j) k (word_of (Goto k)) fit refl
written-found (Iorlw k) fit = constant_row Iorlw 0x38 (λ low. refl) k (word_of (Iorlw k)) fit refl
written-found (Movlw k) fit = constant_row Movlw 0x30 (λ low. refl) k (word_of (Movlw k)) fit refl
written-found Retfie fit = refl
written-found (Retlw k) fit = constant_row Retlw 0x34 (λ low. refl) k (word_of (Retlw k)) fit refl
written-found Return fit = refl
written-found Sleep fit = refl
written-found (Sublw k) fit = constant_row Sublw 0x3C (λ low. refl) k (word_of (Sublw k)) fit refl
written-found (Xorlw k) fit = constant_row Xorlw 0x3A (λ low. refl) k (word_of (Xorlw k)) fit refl
written-found _ fit = register_row _ _ _ refl fit ∙ rw (its_register, its_dest) refl

-- A word of a row none of whose bits is ignored.
written_only : (i : Instr) (word : ℕ) → free_bits i ≡ 0 → FieldsFit i → IsWordOf i word → instruction_of word ≡ Some i
written_only i word none fit is =
    let e = ap (λ n. bit_and word (0x3FFF - n)) (sym none) ∙ is.1 in
    ap instruction_of (whole word (word_of i) is.0 e) ∙ written-found i fit

-- A row that a word is one of is found.
pub row-found : (i : Instr) (word : ℕ) → FieldsFit i → IsWordOf i word → instruction_of word ≡ Some i
row-found Clrw word fit is = clrw_row word is.0 is.1
row-found Nop word fit is = nop_row word is.0 is.1
row-found (Addlw k) word fit is = one_free_row Addlw 0x3E (λ j low. each (λ j. row_of (0x3E + j) low ≡ Some (Addlw low)) 2 ((tt, refl), refl) j) refl (lit< tt) k word fit is.0 is.1
row-found (Movlw k) word fit is = two_free_row Movlw 0x30 (λ j low. each (λ j. row_of (0x30 + j) low ≡ Some (Movlw low)) 4 ((((tt, refl), refl), refl), refl) j) refl (lit< tt) k word fit is.0 is.1
row-found (Retlw k) word fit is = two_free_row Retlw 0x34 (λ j low. each (λ j. row_of (0x34 + j) low ≡ Some (Retlw low)) 4 ((((tt, refl), refl), refl), refl) j) refl (lit< tt) k word fit is.0 is.1
row-found (Sublw k) word fit is = one_free_row Sublw 0x3C (λ j low. each (λ j. row_of (0x3C + j) low ≡ Some (Sublw low)) 2 ((tt, refl), refl) j) refl (lit< tt) k word fit is.0 is.1
row-found _ word fit is = written_only _ word refl fit is
