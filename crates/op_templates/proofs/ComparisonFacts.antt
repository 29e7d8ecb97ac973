-- The templates of comparisons.
use Rattle.std.proofs.lemmas.Bool.{cases_lt, cases_eq, eq-eqb, ne_eqb, lt-ltb, le-leb, false_from_ne_true, ltb-true, leb-true}
use Rattle.std.proofs.lemmas.Nat.{and_le_l, and_le_r}
use Rattle.std.specs.Int.Bits.{or_add_and}
use Rattle.std.proofs.Common.{◌≡◌, ℕ, ◌+◌, ◌-◌, ◌*◌, ◌%◌, ◌<◌, ◌≤◌, ◌==◌, Bool, true, false, not, if◌then◌else◌, nat_lt, nat_le, bit_or, IsTrue, None, [], ◌∷◌, refl, ap, sym, ◌∙◌, inl, inr, arith, lit≤}
use Rattle.frp_tree.specs.declared.syntax.BinOp.{BinOp}
use Rattle.frp_tree.specs.declared.syntax.BinOp.TheVariants.{Eq, Ne, Lt, Le, Gt, Ge}
use Rattle.efrp_meaning.specs.Bounds.{binary_weight, by_width}
use Rattle.efrp_meaning.specs.Values.{truth_number}
use Rattle.byte_ops.specs.declared.operations.Op.TheVariants as op
use Rattle.byte_ops.specs.declared.operations.Pair.{Pair}
use Rattle.byte_ops.specs.Cells.{held}
use Rattle.byte_ops.specs.Kinds.{is_compare}
use Rattle.pic_isa.specs.declared.instructions.Dest.TheVariants.{W}
use Rattle.pic_regs.specs.Bytes.{Byte, num, bits, is_zero}
use Rattle.pic_regs.proofs.ByteLaws.{num-bits, num-below, bits-num}
use Rattle.pic_regs.proofs.BitLaws.{zero-bits}
use Rattle.pic_machine.specs.Results.{either, one_more}
use Rattle.code_acts.specs.declared.acts.Name.{Name}
use Rattle.code_acts.specs.declared.acts.Name.TheVariants.{Operand0, A, AHigh, B, BHigh}
use Rattle.code_acts.specs.declared.acts.FileOp.TheVariants.{Mov, Sub}
use Rattle.code_acts.specs.declared.acts.Act.TheVariants.{File, Store, SkipCarry, SkipZero}
use Rattle.code_acts.specs.Acts.{State, number, agrees, run}
use Rattle.op_templates.specs.Comparisons.{high_not_above, told_by, differ, a_not_above, b_not_above, compare_template}
use Rattle.code_acts.specs.Codes.{sound, words}
use Rattle.op_templates.specs.Laws.{IsTemplate, uses, writes}
use Rattle.byte_ops.specs.Weights.{number_type}
use Rattle.op_templates.specs.Templates.{template_of, a_pair, b_pair}
use Rattle.op_templates.proofs.MoveFacts.{num-either}
use Rattle.op_templates.proofs.TemplateFacts.{at_rest, Gives, template-from}

-- What C and Z tell.
carry_tells : (v : Bool) (w : Byte) (c z : Bool) (mem : ℕ → Byte) → num ((run (told_by (SkipCarry v)) (at_rest w c z mem)).mem 12) ≡ truth_number (agrees v c)
carry_tells true w true z mem = refl
carry_tells true w false z mem = refl
carry_tells false w true z mem = refl
carry_tells false w false z mem = refl

zero_tells : (v : Bool) (w : Byte) (c z : Bool) (mem : ℕ → Byte) → num ((run (told_by (SkipZero v)) (at_rest w c z mem)).mem 12) ≡ truth_number (agrees v z)
zero_tells true w c true mem = refl
zero_tells true w c false mem = refl
zero_tells false w c true mem = refl
zero_tells false w c false mem = refl

-- Tests that say the same.
same_truth : (p q : Bool) → (p ≡ true → q ≡ true) → (q ≡ true → p ≡ true) → p ≡ q
same_truth true q onward back = sym (onward refl)
same_truth false true onward back = back refl
same_truth false false onward back = refl

same_tests : (m n p q : ℕ) → (m ≡ n → p ≡ q) → (p ≡ q → m ≡ n) → (m == n) ≡ (p == q)
same_tests m n p q onward back = elim (cases_eq m n) [
  | inl e ↦ eq-eqb m n e ∙ sym (eq-eqb p q (onward e))
  | inr other ↦ ne_eqb m n other ∙ sym (ne_eqb p q (λ e. other (back e)))
]

not_above-below : (m n : ℕ) → not (nat_le m n) ≡ nat_lt n m
not_above-below m n = elim (cases_lt n m) [
  | inl less ↦ ap not (false_from_ne_true (nat_le m n) (λ e. omega (arith, leb-true m n e, less))) ∙ sym (lt-ltb n m less)
  | inr more ↦ ap not (le-leb m n more) ∙ sym (false_from_ne_true (nat_lt n m) (λ e. omega (arith, ltb-true n m e, more)))
]

above_wide : (m n y x : ℕ) → m < 256 → n < 256 → n < m → nat_lt y x ≡ nat_le (m + 256 * y) (n + 256 * x)
above_wide m n y x m_below n_below less =
    same_truth (nat_lt y x) (nat_le (m + 256 * y) (n + 256 * x))
    (λ t. le-leb (m + 256 * y) (n + 256 * x) (let high = ltb-true y x t in omega (arith, high, m_below)))
    (λ t. lt-ltb y x (let whole = leb-true (m + 256 * y) (n + 256 * x) t in omega (arith, whole, less, n_below)))

not_above_wide : (m n y x : ℕ) → m < 256 → n < 256 → m ≤ n → nat_le y x ≡ nat_le (m + 256 * y) (n + 256 * x)
not_above_wide m n y x m_below n_below more =
    same_truth (nat_le y x) (nat_le (m + 256 * y) (n + 256 * x))
    (λ t. le-leb (m + 256 * y) (n + 256 * x) (let high = leb-true y x t in omega (arith, high, more)))
    (λ t. le-leb y x (let whole = leb-true (m + 256 * y) (n + 256 * x) t in omega (arith, whole, n_below)))

zero_number : (x : Byte) → is_zero x ≡ (num x == 0)
zero_number x = sym (zero-bits (num x) (num-below x) ∙ ap is_zero (bits-num x))

-- Equality of bytes, and of two bytes each.
none_differ : (x y : ℕ) → x < 256 → y < 256 → is_zero (bits (x + 256 - y)) ≡ (x == y)
none_differ x y x_below y_below =
    zero_number (bits (x + 256 - y))
    ∙ same_tests (num (bits (x + 256 - y))) 0 x y
    (λ e. let d = num-bits (x + 256 - y) in let z : (x + 256 - y) % 256 ≡ 0 = sym d ∙ e in omega (arith, z, x_below, y_below))
    (λ e. num-bits (x + 256 - y) ∙ omega (arith, e, x_below, y_below))

none_set : (x y : Byte) → num (either x y) ≡ 0 → (num x ≡ 0) × (num y ≡ 0)
none_set x y e =
    let none : bit_or (num x) (num y) ≡ 0 = sym (num-either x y) ∙ e in
    let sum = or_add_and (num x) (num y) in
    let left = and_le_l (num x) (num y) in let right = and_le_r (num x) (num y) in
    (omega (arith, none, sum, left, right), omega (arith, none, sum, left, right))

both_clear : (x y : Byte) → num x ≡ 0 → num y ≡ 0 → num (either x y) ≡ 0
both_clear x y of_x of_y = num-either x y ∙ omega (arith, or_add_and (num x) (num y), of_x, of_y)

none_differ_wide : (x x_high y y_high : ℕ) → x < 256 → x_high < 256 → y < 256 → y_high < 256
    → is_zero (either (bits (x_high + 256 - y_high)) (bits (x + 256 - y))) ≡ (x + 256 * x_high == y + 256 * y_high)
none_differ_wide x x_high y y_high x_below x_high_below y_below y_high_below =
    let high : Byte = bits (x_high + 256 - y_high) in let low : Byte = bits (x + 256 - y) in
    let of_high = num-bits (x_high + 256 - y_high) in let of_low = num-bits (x + 256 - y) in
    zero_number (either high low)
    ∙ same_tests (num (either high low)) 0 (x + 256 * x_high) (y + 256 * y_high)
    (λ e.
    let parts = none_set high low e in
    let h : (x_high + 256 - y_high) % 256 ≡ 0 = sym of_high ∙ parts.0 in
    let l : (x + 256 - y) % 256 ≡ 0 = sym of_low ∙ parts.1 in
    omega (arith, h, l, x_below, x_high_below, y_below, y_high_below))
    (λ e.
    both_clear high low (of_high ∙ omega (arith, e, x_below, x_high_below, y_below, y_high_below)) (of_low ∙ omega (arith, e, x_below, x_high_below, y_below, y_high_below)))

-- The carry of the high bytes, from that of the low ones.
abbrev high_carry : (c : Bool) → (y x : Byte) → Bool
high_carry true y x = nat_le (num y) (num x)
high_carry false y x = if is_zero (one_more y) then false else nat_le (num (one_more y)) (num x)

tells_behind : (v skip : Bool) (w : Byte) (z : Bool) (mem : ℕ → Byte)
    → num ((run (File Sub Operand0 W ∷ told_by (SkipCarry v)) (record { w = w; carry = false; zero = z; skip = skip; mem = mem })).mem 12)
    ≡ truth_number (agrees v (if skip then false else nat_le (num w) (num (mem 0))))
tells_behind v true w z mem = carry_tells v w false z mem
tells_behind v false w z mem =
    let s : State = run (File Sub Operand0 W ∷ []) (at_rest w false z mem) in carry_tells v s.w s.carry s.zero s.mem

high_tells : (v : Bool) (n : Name) (w : Byte) (c z : Bool) (mem : ℕ → Byte)
    → num ((run (high_not_above n (told_by (SkipCarry v))) (at_rest w c z mem)).mem 12) ≡ truth_number (agrees v (high_carry c (mem (number n)) (mem 0)))
high_tells v n w true z mem =
    let s : State = run (File Sub Operand0 W ∷ []) (at_rest (mem (number n)) true z mem) in carry_tells v s.w s.carry s.zero s.mem
high_tells v n w false z mem = tells_behind v (is_zero (one_more (mem (number n)))) (one_more (mem (number n))) (is_zero (mem (number n))) mem

-- It says whether one number isn't above the other.
next_above : (y x next : ℕ) → y < 256 → x < 256 → next ≡ (y + 1) % 256 → (if next == 0 then false else nat_le next x) ≡ nat_lt y x
next_above y x next y_below x_below is_next = elim (cases_eq next 0) [
  | inl e ↦
      ap (λ b. if b then false else nat_le next x) (eq-eqb next 0 e)
      ∙ sym (false_from_ne_true (nat_lt y x) (λ t. omega (arith, ltb-true y x t, e, is_next, y_below, x_below)))
  | inr some ↦
      ap (λ b. if b then false else nat_le next x) (ne_eqb next 0 some)
      ∙ same_truth (nat_le next x) (nat_lt y x)
      (λ t. lt-ltb y x (let above = leb-true next x t in omega (arith, above, some, is_next, y_below)))
      (λ t. le-leb next x (let less = ltb-true y x t in omega (arith, less, is_next, x_below)))
]

below_next : (y x : Byte) → high_carry false y x ≡ nat_lt (num y) (num x)
below_next y x =
    ap (λ b. if b then false else nat_le (num (one_more y)) (num x)) (zero_number (one_more y))
    ∙ next_above (num y) (num x) (num (one_more y)) (num-below y) (num-below x) (num-bits (num y + 1))

same_order : (y y_high x x_high : Byte) → high_carry (nat_le (num y) (num x)) y_high x_high ≡ nat_le (num y + 256 * num y_high) (num x + 256 * num x_high)
same_order y y_high x x_high = by_low (num y) (num x) (num-below y) (num-below x)
  where
    by_low : (m n : ℕ) → m < 256 → n < 256 → high_carry (nat_le m n) y_high x_high ≡ nat_le (m + 256 * num y_high) (n + 256 * num x_high)
    by_low m n m_below n_below = elim (cases_lt n m) [
      | inl less ↦
          ap (λ c. high_carry c y_high x_high) (false_from_ne_true (nat_le m n) (λ t. let above = leb-true m n t in omega (arith, above, less)))
          ∙ below_next y_high x_high
          ∙ above_wide m n (num y_high) (num x_high) m_below n_below less
      | inr more ↦ ap (λ c. high_carry c y_high x_high) (le-leb m n more) ∙ not_above_wide m n (num y_high) (num x_high) m_below n_below more
    ]

wide_tells : (v : Bool) (n : Name) (w : Byte) (z : Bool) (mem : ℕ → Byte) (y x : Byte)
    → num ((run (high_not_above n (told_by (SkipCarry v))) (at_rest w (nat_le (num y) (num x)) z mem)).mem 12)
    ≡ truth_number (agrees v (nat_le (num y + 256 * num (mem (number n))) (num x + 256 * num (mem 0))))
wide_tells v n w z mem y x =
    high_tells v n w (nat_le (num y) (num x)) z mem ∙ ap (λ k. truth_number (agrees v k)) (same_order y (mem (number n)) x (mem 0))

module _ (w : Byte) (c z : Bool) (mem : ℕ → Byte) where
  -- Each pair of numbers that an operation has here.
  abbrev a_number : (wide : Bool) → ℕ
  a_number wide = held wide a_pair (λ n. num (mem n))

  abbrev b_number : (wide : Bool) → ℕ
  b_number wide = held wide b_pair (λ n. num (mem n))

  -- B isn't above A, or A isn't above B.
  order : (v wide of_b : Bool)
      → num ((run (if of_b then b_not_above wide (told_by (SkipCarry v)) else a_not_above wide (told_by (SkipCarry v))) (at_rest w c z mem)).mem 12)
      ≡ truth_number (agrees v (if of_b then nat_le (b_number wide) (a_number wide) else nat_le (a_number wide) (b_number wide)))
  order v false true = let s : State = run (b_not_above false []) (at_rest w c z mem) in carry_tells v s.w s.carry s.zero s.mem
  order v false false = let s : State = run (a_not_above false []) (at_rest w c z mem) in carry_tells v s.w s.carry s.zero s.mem
  order v true true =
      let s : State = run (File Mov AHigh W ∷ Store Operand0 ∷ File Mov B W ∷ File Sub A W ∷ []) (at_rest w c z mem) in
      wide_tells v BHigh s.w s.zero s.mem (mem 16) (mem 14)
  order v true false =
      let s : State = run (File Mov BHigh W ∷ Store Operand0 ∷ File Mov A W ∷ File Sub B W ∷ []) (at_rest w c z mem) in
      wide_tells v AHigh s.w s.zero s.mem (mem 14) (mem 16)

  equality : (v wide : Bool)
      → num ((run (differ wide (told_by (SkipZero v))) (at_rest w c z mem)).mem 12) ≡ truth_number (agrees v (a_number wide == b_number wide))
  equality v false =
      let s : State = run (differ false []) (at_rest w c z mem) in
      zero_tells v s.w s.carry s.zero s.mem
      ∙ ap (λ k. truth_number (agrees v k)) (none_differ (num (mem 14)) (num (mem 16)) (num-below (mem 14)) (num-below (mem 16)))
  equality v true =
      let s : State = run (differ true []) (at_rest w c z mem) in
      zero_tells v s.w s.carry s.zero s.mem
      ∙ ap (λ k. truth_number (agrees v k))
      (none_differ_wide (num (mem 14)) (num (mem 15)) (num (mem 16)) (num (mem 17)) (num-below (mem 14)) (num-below (mem 15)) (num-below (mem 16)) (num-below (mem 17)))

compares : (f : BinOp) (wide : Bool) (to : ℕ) (a b : Pair) → IsTrue (is_compare f)
    → (w : Byte) (c z : Bool) (mem : ℕ → Byte) → Gives (op.Compare f wide to a b) (compare_template f wide) (at_rest w c z mem)
compares Eq wide to a b kind w c z mem h = equality w c z mem true wide
compares Ne wide to a b kind w c z mem h = equality w c z mem false wide
compares Lt wide to a b kind w c z mem h =
    order w c z mem false wide true ∙ ap truth_number (not_above-below (b_number w c z mem wide) (a_number w c z mem wide))
compares Le wide to a b kind w c z mem h = order w c z mem true wide false
compares Gt wide to a b kind w c z mem h =
    order w c z mem false wide false ∙ ap truth_number (not_above-below (a_number w c z mem wide) (b_number w c z mem wide))
compares Ge wide to a b kind w c z mem h = order w c z mem true wide true
compares _ wide to a b kind w c z mem h = absurd (cc)

is_sound : (f : BinOp) (wide : Bool) (to : ℕ) (a b : Pair)
    → sound (uses (op.Compare f wide to a b)) (writes (op.Compare f wide to a b)) None false (compare_template f wide) ≡ true
is_sound Eq false to a b = refl
is_sound Eq true to a b = refl
is_sound _ false to a b = refl
is_sound _ true to a b = refl

few_words : (f : BinOp) (wide : Bool) → words None (compare_template f wide) ≤ (if wide then 22 else 12)
few_words Eq false = lit≤ tt
few_words Eq true = lit≤ tt
few_words _ false = lit≤ tt
few_words _ true = lit≤ tt

room : (wide : Bool) → (if wide then 22 else 12) ≤ by_width (number_type wide) 24 64
room false = lit≤ tt
room true = lit≤ tt

within_weight : (f : BinOp) (wide : Bool) → IsTrue (is_compare f) → (if wide then 22 else 12) ≤ binary_weight f (number_type wide)
within_weight Eq wide kind = room wide
within_weight Ne wide kind = room wide
within_weight Lt wide kind = room wide
within_weight Le wide kind = room wide
within_weight Gt wide kind = room wide
within_weight Ge wide kind = room wide
within_weight _ wide kind = absurd (cc)

pub compare-template : (f : BinOp) (wide : Bool) (to : ℕ) (a b : Pair) → IsTrue (is_compare f) → IsTemplate (op.Compare f wide to a b) (template_of (op.Compare f wide to a b))
compare-template f wide to a b kind =
    template-from (op.Compare f wide to a b) (compare_template f wide) (compares f wide to a b kind) (is_sound f wide to a b) (few_words f wide, within_weight f wide kind)
