-- PEIE beside the enables of a level.
use Rattle.std.specs.Prelude.{◌≡◌, ℕ, zero, suc, ◌+◌, ◌<◌, ◌≤◌, ◌^◌, ◌↔◌, Bool, true, false, not, ◌&&◌, ◌||◌, ◌==◌, ◌⊎◌, refl}
use Rattle.std.specs.Int.{bit_at}
use Rattle.std.proofs.Common.{sym, ap, subst, ◌∙◌, arith, inl, inr, lit<}
use Rattle.std.proofs.lemmas.Bool.Decides.{eqb_tells, leb_tells}
use Rattle.std.proofs.lemmas.Nat.Bits.{bit_at-zero, bit_at-lt, bit_at_above}
use Rattle.frp_tree.specs.Tree.{ProgramTree}
use Rattle.pic_isa.specs.declared.sources.Source.{Source}
use Rattle.pic_isa.specs.declared.sources.BitAt.{BitAt}
use Rattle.pic_isa.specs.Sources.{at, enable_of}
use Rattle.pic_regs.specs.Bytes.{Byte, bits, bit, with_bit, is_zero, bit_by_bit}
use Rattle.pic_regs.proofs.BitLaws.{bit-bits, zero-bits}
use Rattle.priority_masks.specs.Levels.{HasEnablesIn, IsAbove}
use Rattle.glue_parts.specs.Heard.{IsHeardAt, IsPeripheral}

-- A bit as a number and as a truth.
one_test : (m n : ℕ) → m < 2 → n < 2 → (m == 1) ≡ (n == 1) → m ≡ n
one_test zero zero less also same = refl
one_test zero (suc zero) less also same = absurd (cc)
one_test (suc zero) zero less also same = absurd (cc)
one_test (suc zero) (suc zero) less also same = refl
one_test (suc (suc m)) n less also same = absurd (omega (arith, less))
one_test m (suc (suc n)) less also same = absurd (omega (arith, also))

is_one : (m : ℕ) → (m == 1) ≡ true → m ≡ 1
is_one m test = elim (eqb_tells m 1) [ inl same ↦ same.1 | inr differ ↦ let other = differ.0 in absurd (cc) ]

-- Other bits than 6 stay where bit 6 is made what is given.
other_bit : (i : ℕ) (v : Bool) (x : Byte) → (i ≡ 6 → ⊥) → bit i (with_bit 6 v x) ≡ bit i x
other_bit zero v x never = refl
other_bit (suc zero) v x never = refl
other_bit (suc (suc zero)) v x never = refl
other_bit (suc (suc (suc zero))) v x never = refl
other_bit (suc (suc (suc (suc zero)))) v x never = refl
other_bit (suc (suc (suc (suc (suc zero))))) v x never = refl
other_bit (suc (suc (suc (suc (suc (suc zero)))))) v x never = absurd (never refl)
other_bit (suc (suc (suc (suc (suc (suc (suc i))))))) v x never = refl

bit_in_both : (op : Bool → Bool → Bool) (i : ℕ) (x y : Byte) → bit i (bit_by_bit op x y) ≡ op (bit i x) (bit i y)
bit_in_both op zero x y = refl
bit_in_both op (suc zero) x y = refl
bit_in_both op (suc (suc zero)) x y = refl
bit_in_both op (suc (suc (suc zero))) x y = refl
bit_in_both op (suc (suc (suc (suc zero)))) x y = refl
bit_in_both op (suc (suc (suc (suc (suc zero))))) x y = refl
bit_in_both op (suc (suc (suc (suc (suc (suc zero)))))) x y = refl
bit_in_both op (suc (suc (suc (suc (suc (suc (suc i))))))) x y = refl

-- A byte that isn't 00h has a bit that is set.
abbrev HasBit : Byte → Type 0
HasBit x = (i : ℕ) × (i < 8) × (bit i x ≡ true)

some_bit : (p q r s t u v w : Bool) → not (p || q || r || s || t || u || v || w) ≡ false
    → HasBit (record { b7 = p; b6 = q; b5 = r; b4 = s; b3 = t; b2 = u; b1 = v; b0 = w })
some_bit true q r s t u v w some = (7, lit< tt, refl)
some_bit false true r s t u v w some = (6, lit< tt, refl)
some_bit false false true s t u v w some = (5, lit< tt, refl)
some_bit false false false true t u v w some = (4, lit< tt, refl)
some_bit false false false false true u v w some = (3, lit< tt, refl)
some_bit false false false false false true v w some = (2, lit< tt, refl)
some_bit false false false false false false true w some = (1, lit< tt, refl)
some_bit false false false false false false false true some = (0, lit< tt, refl)
some_bit false false false false false false false false some = absurd (cc)

has_bit : (x : Byte) → is_zero x ≡ false → HasBit x
has_bit x some = some_bit x.b7 x.b6 x.b5 x.b4 x.b3 x.b2 x.b1 x.b0 some

-- A bit that is set lies below 8, and the byte isn't 00h.
below_8 : (n i : ℕ) → n < 2 ^ 8 → bit_at n i ≡ 1 → i < 8
below_8 n i small set =
    elim (leb_tells 8 i) [
      | inl far ↦ let none = bit_at_above n 8 i small far.1 in absurd (omega (arith, none, set))
      | inr near ↦ let less = near.1 in omega (arith, less)
    ]

not_zero : (n i : ℕ) → n < 2 ^ 8 → bit_at n i ≡ 1 → is_zero (bits n) ≡ false
not_zero n i small set =
    sym (zero-bits n small)
    ∙ elim (eqb_tells n 0) [
      | inl none ↦
          let same : bit_at n i ≡ bit_at 0 i = ap (λ m. bit_at m i) none.1 in
          let zero_bit = bit_at-zero i in
          absurd (omega (arith, same, zero_bit, set))
      | inr some ↦ some.0
    ]

-- Other bits of a byte than bit 6, where that is made what is given.
same_bit : (r a : ℕ) (v : Bool) → r < 2 ^ 8 → a < 2 ^ 8 → bits r ≡ with_bit 6 v (bits a) → (i : ℕ) → (i ≡ 6 → ⊥) → bit_at r i ≡ bit_at a i
same_bit r a v small also is i never =
    elim (leb_tells 8 i) [
      | inl far ↦ bit_at_above r 8 i small far.1 ∙ sym (bit_at_above a 8 i also far.1)
      | inr near ↦
          let less = near.1 in
          let inside : i < 8 = omega (arith, less) in
          one_test (bit_at r i) (bit_at a i) (bit_at-lt r i) (bit_at-lt a i)
          (sym (bit-bits i r inside) ∙ ap (bit i) is ∙ other_bit i v (bits a) never ∙ bit-bits i a inside)
    ]

-- A bit of two bytes together is one of the first or of the second.
or_parts : (a b : Bool) → (a || b) ≡ true → (a ≡ true) ⊎ (b ≡ true)
or_parts true b set = inl refl
or_parts false b set = inr set

or_left : (a b : Bool) → a ≡ true → (a || b) ≡ true
or_left true b set = refl
or_left false b set = absurd (cc)

or_right : (a b : Bool) → b ≡ true → (a || b) ≡ true
or_right true b set = refl
or_right false b set = set

set_of : (n i : ℕ) → i < 8 → bit i (bits n) ≡ true → bit_at n i ≡ 1
set_of n i inside set = is_one (bit_at n i) (sym (bit-bits i n inside) ∙ set)

truth_of : (n i : ℕ) → i < 8 → bit_at n i ≡ 1 → bit i (bits n) ≡ true
truth_of n i inside set = bit-bits i n inside ∙ ap (λ m. m == 1) set

module _ (p : ProgramTree) (level : ℕ) (a first second e r : ℕ) (v : Bool) (small_a : a < 2 ^ 8) (small_1 : first < 2 ^ 8) (small_2 : second < 2 ^ 8)
    (small_e : e < 2 ^ 8) (small_r : r < 2 ^ 8) (either : bits e ≡ bit_by_bit (λ x y. x || y) (bits first) (bits second)) (test : v ≡ not (is_zero (bits e)))
    (made : bits r ≡ with_bit 6 v (bits a)) (intcon : HasEnablesIn p level 0x00B a) (pie1 : HasEnablesIn p level 0x08C first)
    (pie2 : HasEnablesIn p level 0x08D second) where
  abbrev Peripheral : Type 0
  Peripheral = (source : Source) × IsPeripheral source × IsAbove p level source

  is_v : (bit_at r 6 == 1) ≡ v
  is_v = sym (bit-bits 6 r (lit< tt)) ∙ ap (bit 6) made

  of_bit : (i : ℕ) → i < 8 → (bit i (bits first) ≡ true) ⊎ (bit i (bits second) ≡ true) → Peripheral
  of_bit i inside (inl set) = let its = (pie1 i).0 (set_of first i inside set) in (its.0, inl (ap (λ (b : BitAt). b.address) its.1), its.2)
  of_bit i inside (inr set) = let its = (pie2 i).0 (set_of second i inside set) in (its.0, inr (ap (λ (b : BitAt). b.address) its.1), its.2)

  of_bits : HasBit (bits e) → Peripheral
  of_bits found =
      of_bit found.0 found.1
      (or_parts (bit found.0 (bits first)) (bit found.0 (bits second))
      (sym (bit_in_both (λ x y. x || y) found.0 (bits first) (bits second)) ∙ sym (ap (bit found.0) either) ∙ found.2))

  has_some : (z : Bool) → is_zero (bits e) ≡ z → not z ≡ true → Peripheral
  has_some false is set = of_bits (has_bit (bits e) is)
  has_some true is set = absurd (cc)

  set_in_e : (i : ℕ) → i < 8 → (bit i (bits first) || bit i (bits second)) ≡ true → bit_at e i ≡ 1
  set_in_e i inside set = set_of e i inside (ap (bit i) either ∙ bit_in_both (λ x y. x || y) i (bits first) (bits second) ∙ set)

  sets_peie : (i : ℕ) → bit_at e i ≡ 1 → bit_at r 6 ≡ 1
  sets_peie i set = is_one (bit_at r 6) (is_v ∙ test ∙ ap not (not_zero e i small_e set))

  of_source : (source : Source) → IsAbove p level source → IsPeripheral source → bit_at r 6 ≡ 1
  of_source source above (inl there) =
      let i = (enable_of source).bit in
      let set = (pie1 i).1 (source, ap (λ address. at address i) there, above) in
      let inside = below_8 first i small_1 set in
      sets_peie i (set_in_e i inside (or_left (bit i (bits first)) (bit i (bits second)) (truth_of first i inside set)))
  of_source source above (inr there) =
      let i = (enable_of source).bit in
      let set = (pie2 i).1 (source, ap (λ address. at address i) there, above) in
      let inside = below_8 second i small_2 set in
      sets_peie i (set_in_e i inside (or_right (bit i (bits first)) (bit i (bits second)) (truth_of second i inside set)))

  pub heard : IsHeardAt p level (record { intcon = r; pie1 = first; pie2 = second })
  heard = record {
    intcon = λ i never.
        let same = same_bit r a v small_r small_a made i never in
        (λ set. (intcon i).0 (sym same ∙ set), λ its. same ∙ (intcon i).1 its);
    peie = (
      λ set. has_some (is_zero (bits e)) refl (sym test ∙ sym is_v ∙ ap (λ m. m == 1) set),
      λ its. of_source its.0 its.2 its.1,
    );
    pie1 = pie1;
    pie2 = pie2;
  }
