-- The enables at a level: what masks leave, and that they come back.
use Rattle.std.proofs.Common.{◌≡◌, ℕ, zero, suc, ◌+◌, ◌-◌, ◌<◌, ◌≤◌, Bool, true, false, not, ◌&&◌, ◌||◌, ◌==◌, if◌then◌else◌, Option, Some, None, List, [], ◌∷◌, ◌++◌, refl, sym, ap, subst, ◌∙◌, arith, lit<, inl, inr}
use Rattle.std.specs.Prelude.{◌⊎◌}
use Rattle.std.specs.Int.{bit_at}
use Rattle.std.specs.Option.{ForSome}
use Rattle.std.proofs.lemmas.Bool.Decides.{eqb_tells}
use Rattle.std.proofs.lemmas.Nat.Bits.{bit_at-lt, same_from_bits}
use Rattle.frp_tree.specs.Tree.{ProgramTree}
use Rattle.pic_isa.specs.declared.bits.TheConstants.{INTE, PEIE, T0IE}
use Rattle.pic_isa.specs.declared.sources.Source.{Source}
use Rattle.pic_regs.specs.declared.places.Place.{Place}
use Rattle.pic_regs.specs.declared.places.Place.TheVariants as place
use Rattle.pic_regs.specs.Bytes.{Byte, bits, bit, with_bit, bit_by_bit, chosen, is_zero, num, zeros}
use Rattle.pic_regs.specs.Map.{Reg, Intcon, Pie1, Pie2, Plain}
use Rattle.pic_regs.specs.Places.{reg_of}
use Rattle.pic_regs.specs.Registers.{Registers, read, write}
use Rattle.pic_regs.proofs.BitLaws.{bit-bits}
use Rattle.pic_regs.proofs.ByteLaws.{by_each_bit, bits-num}
use Rattle.priority_masks.specs.declared.tables.Enables.{Enables}
use Rattle.priority_masks.specs.Levels.{HasEnablesIn, IsAbove, level_of}
use Rattle.glue_parts.specs.Heard.{IsHeardAt, IsPeripheral}
use Rattle.glue_parts.specs.Pieces.{only_bit}
use Rattle.bank_alloc.specs.declared.needs.Needs.{Needs}
use Rattle.bank_alloc.specs.Addresses.{address_of}
use Rattle.glue_parts.specs.declared.spread.Context.{Context}
use Rattle.glue_parts.specs.Effects.{Effect, change_made, changed_to, copied, none}
use Rattle.glue_parts.specs.Kept.{frame_cell}
use Rattle.scratch_commit.specs.declared.frames.Frame.{Frame}
use Rattle.scratch_commit.specs.declared.kinds.Kind.{Kind}
use Rattle.scratch_commit.specs.declared.masks.Heard.{Heard}
use Rattle.scratch_commit.specs.declared.masks.Masked.{Masked}
use Rattle.scratch_commit.specs.declared.masks.Masks.{Masks}
use Rattle.scratch_commit.specs.Deeds.{Deed, Change, Make}
use Rattle.scratch_commit.specs.Effects.{copied_to, effect_in, effect_of}
use Rattle.scratch_commit.specs.Enables.{Hold, with_enables_of}
use Rattle.scratch_commit.specs.Frames.{byte_of_frame, frame_of, unmasking, wanted}
use Rattle.scratch_commit.specs.Laws.{Agrees, HasEnableBits, HeardOnce, Kept, masked_by}
use Rattle.scratch_commit.specs.Masks.{AreHeard, mask_bit, masked, masking, masks_of, saved_of, set_again, unmask_bit, unmask_register, unmasked, were_set}
use Rattle.scratch_commit.proofs.EffectLaws.{effect_then}

-- Each bit of one byte is a bit of the other.
abbrev pub Among : (x y : Byte) → Type 0
Among x y = (i : ℕ) → i < 8 → bit i x ≡ true → bit i y ≡ true

is_one : (m : ℕ) → (m == 1) ≡ true → m ≡ 1
is_one m test = elim (eqb_tells m 1) [ inl same ↦ same.1 | inr differ ↦ let other = differ.0 in absurd (cc) ]

set_of : (n i : ℕ) → i < 8 → bit i (bits n) ≡ true → bit_at n i ≡ 1
set_of n i inside set = is_one (bit_at n i) (sym (bit-bits i n inside) ∙ set)

truth_of : (n i : ℕ) → i < 8 → bit_at n i ≡ 1 → bit i (bits n) ≡ true
truth_of n i inside set = bit-bits i n inside ∙ ap (λ m. m == 1) set

-- What is heard at a level is heard at each lower one.
above_lower : (p : ProgramTree) (low high : ℕ) (source : Source) → low ≤ high → IsAbove p high source → IsAbove p low source
above_lower p low high source below above = let its = above.3 in (above.0, above.1, above.2, omega arith)

among_in : (p : ProgramTree) (low high register a b : ℕ) → low ≤ high → HasEnablesIn p high register a → HasEnablesIn p low register b → Among (bits a) (bits b)
among_in p low high register a b below upper lower i inside set =
    let its = (upper i).0 (set_of a i inside set) in
    truth_of b i inside ((lower i).1 (its.0, its.1, above_lower p low high its.0 below its.2))

pub record AmongHeard (e f : Enables) : Type 0 where
  pub intcon : Among (bits e.intcon) (bits f.intcon)
  pub pie1 : Among (bits e.pie1) (bits f.pie1)
  pub pie2 : Among (bits e.pie2) (bits f.pie2)

among_intcon : (p : ProgramTree) (low high : ℕ) (e f : Enables) → low ≤ high → IsHeardAt p high e → IsHeardAt p low f → (i : ℕ)
    → ((i ≡ 6) ⊎ (i ≡ 6 → ⊥)) → bit_at e.intcon i ≡ 1 → bit_at f.intcon i ≡ 1
among_intcon p low high e f below upper lower i (inr other) set =
    let its = (upper.intcon i other).0 set in (lower.intcon i other).1 (its.0, its.1, above_lower p low high its.0 below its.2)
among_intcon p low high e f below upper lower i (inl six) set =
    let its = upper.peie.0 (ap (bit_at e.intcon) (sym six) ∙ set) in
    ap (bit_at f.intcon) six ∙ lower.peie.1 (its.0, its.1, above_lower p low high its.0 below its.2)

six_or_not : (i : ℕ) → (i ≡ 6) ⊎ (i ≡ 6 → ⊥)
six_or_not i = elim (eqb_tells i 6) [ inl same ↦ inl same.1 | inr differ ↦ inr differ.1 ]

pub among_heard : (p : ProgramTree) (low high : ℕ) (e f : Enables) → low ≤ high → IsHeardAt p high e → IsHeardAt p low f → AmongHeard e f
among_heard p low high e f below upper lower = record {
  intcon = λ i inside set. truth_of f.intcon i inside (among_intcon p low high e f below upper lower i (six_or_not i) (set_of e.intcon i inside set));
  pie1 = among_in p low high 0x08C e.pie1 f.pie1 below upper.pie1 lower.pie1;
  pie2 = among_in p low high 0x08D e.pie2 f.pie2 below upper.pie2 lower.pie2;
}

-- Bits at idle `i`, at the level `o`, at a lower level `k` and at the one beneath `n`.
abbrev differ : (i o : Bool) → Bool
differ i o = if i then not o else o

abbrev Then : (a b : Bool) → Type 0
Then a b = a ≡ true → b ≡ true

stays : (i o k : Bool) → Then o k → Then k i → differ i o ≡ false → k ≡ o
stays true true k up down same = up refl
stays true false k up down same = absurd (cc)
stays false true k up down same = absurd (cc)
stays false false true up down same = absurd (let set = down refl in cc)
stays false false false up down same = refl

mask_bit_is : (i o k : Bool) → Then o k → Then k i → (not (differ i o) && k) ≡ o
mask_bit_is true true k up down = up refl
mask_bit_is true false k up down = refl
mask_bit_is false true true up down = absurd (let set = down refl in cc)
mask_bit_is false true false up down = absurd (let set = up refl in cc)
mask_bit_is false false true up down = absurd (let set = down refl in cc)
mask_bit_is false false false up down = refl

-- The bit comes back from `o`, where it is set again as it was wherever it was cleared.
comes_back : (i o k v : Bool) → Then o k → Then k i → (differ i o ≡ true → v ≡ k) → ((differ i o && v) || o) ≡ k
comes_back true true k v up down is = sym (up refl)
comes_back true false k v up down is = or_false v ∙ is refl
  where
    or_false : (b : Bool) → (b || false) ≡ b
    or_false true = refl
    or_false false = refl
comes_back false true true v up down is = absurd (let set = down refl in cc)
comes_back false true false v up down is = absurd (let set = up refl in cc)
comes_back false false true v up down is = absurd (let set = down refl in cc)
comes_back false false false v up down is = refl

-- A byte is made another, from which it differs at most in bits that change.
abbrev pub Agree : (changing x y : Byte) → Type 0
Agree changing x y = (i : ℕ) → i < 8 → bit i changing ≡ false → bit i x ≡ bit i y

pick_is : (c x y : Bool) → (c ≡ false → x ≡ y) → (if c then y else x) ≡ y
pick_is true x y same = refl
pick_is false x y same = same refl

chosen_is : (c x y : Byte) → Agree c x y → chosen c x y ≡ y
chosen_is c x y agree = λ j. record {
  b7 = pick_is c.b7 x.b7 y.b7 (agree 7 (lit< tt)) j;
  b6 = pick_is c.b6 x.b6 y.b6 (agree 6 (lit< tt)) j;
  b5 = pick_is c.b5 x.b5 y.b5 (agree 5 (lit< tt)) j;
  b4 = pick_is c.b4 x.b4 y.b4 (agree 4 (lit< tt)) j;
  b3 = pick_is c.b3 x.b3 y.b3 (agree 3 (lit< tt)) j;
  b2 = pick_is c.b2 x.b2 y.b2 (agree 2 (lit< tt)) j;
  b1 = pick_is c.b1 x.b1 y.b1 (agree 1 (lit< tt)) j;
  b0 = pick_is c.b0 x.b0 y.b0 (agree 0 (lit< tt)) j;
}

abbrev made_of : Option ℕ → (x y : Byte) → Byte
made_of None x y = y
made_of (Some b) x y = with_bit b (bit b y) x

one_more : (n m b : ℕ) (rest : Option ℕ) (x y : Byte) → Agree (bits n) x y → ((u v : Byte) → with_bit b (bit b v) u ≡ chosen (bits m) u v)
    → made_of rest x y ≡ y → made_of (if n == m then Some b else rest) x y ≡ y
one_more n m b rest x y agree alone otherwise =
    elim (eqb_tells n m) [
      | inl same ↦
          ap (λ t. made_of (if t then Some b else rest) x y) same.0 ∙ alone x y ∙ ap (λ k. chosen (bits k) x y) (sym same.1) ∙ chosen_is (bits n) x y agree
      | inr differ ↦ ap (λ t. made_of (if t then Some b else rest) x y) differ.0 ∙ otherwise
    ]

made_is : (n : ℕ) (x y : Byte) → Agree (bits n) x y → made_of (only_bit n) x y ≡ y
made_is n x y agree =
    one_more n 0x01 0 _ x y agree (λ u v. refl)
    (one_more n 0x02 1 _ x y agree (λ u v. refl)
    (one_more n 0x04 2 _ x y agree (λ u v. refl)
    (one_more n 0x08 3 _ x y agree (λ u v. refl)
    (one_more n 0x10 4 _ x y agree (λ u v. refl)
    (one_more n 0x20 5 _ x y agree (λ u v. refl)
    (one_more n 0x40 6 _ x y agree (λ u v. refl)
    (one_more n 0x80 7 None x y agree (λ u v. refl) refl)))))))

change_by : (reg : Reg) (o : Option ℕ) (byte : ℕ) (r : Registers) → (change_made o reg byte).change r ≡ write reg (made_of o (read reg r) (bits byte)) r
change_by reg None byte r = refl
change_by reg (Some b) byte r = refl

none_is_set : (x : Byte) → is_zero x ≡ true → x ≡ zeros
none_is_set x none = zeros_by x.b7 x.b6 x.b5 x.b4 x.b3 x.b2 x.b1 x.b0 none
  where
    zeros_by : (p q s t u v w z : Bool) → not (p || q || s || t || u || v || w || z) ≡ true
        → record { b7 = p; b6 = q; b5 = s; b4 = t; b3 = u; b2 = v; b1 = w; b0 = z } ≡ zeros
    zeros_by true q s t u v w z is = absurd (cc)
    zeros_by false true s t u v w z is = absurd (cc)
    zeros_by false false true t u v w z is = absurd (cc)
    zeros_by false false false true u v w z is = absurd (cc)
    zeros_by false false false false true v w z is = absurd (cc)
    zeros_by false false false false false true w z is = absurd (cc)
    zeros_by false false false false false false true z is = absurd (cc)
    zeros_by false false false false false false false true is = absurd (cc)
    zeros_by false false false false false false false false is = refl

-- A change leaves the byte, where the register differed from it at most in the bits that change.
pub change_leaves : (reg : Reg) (changing byte : ℕ) (r : Registers) → write reg (read reg r) r ≡ r → Agree (bits changing) (read reg r) (bits byte)
    → (changed_to reg changing byte).change r ≡ write reg (bits byte) r
change_leaves reg changing byte r rewrites agree = by_test (is_zero (bits changing)) refl
  where
    chosen_none : (x y : Byte) → chosen zeros x y ≡ x
    chosen_none x y = refl

    by_test : (z : Bool) → is_zero (bits changing) ≡ z → (if z then none else change_made (only_bit changing) reg byte).change r ≡ write reg (bits byte) r
    by_test true nothing =
        sym rewrites
        ∙ ap (λ x. write reg x r)
        (sym (chosen_none (read reg r) (bits byte)) ∙ ap (λ c. chosen c (read reg r) (bits byte)) (sym (none_is_set (bits changing) nothing))
        ∙ chosen_is (bits changing) (read reg r) (bits byte) agree)
    by_test false some = change_by reg (only_bit changing) byte r ∙ ap (λ x. write reg x r) (made_is changing (read reg r) (bits byte) agree)

-- A bit of a byte that is set, or cleared, where a test holds.
same_bit : (b : ℕ) (x : Byte) → with_bit b (bit b x) x ≡ x
same_bit (suc (suc (suc (suc (suc (suc (suc b))))))) x = refl
same_bit _ x = refl

-- The registers with another byte in INTCON.
abbrev with_intcon : Byte → Registers → Registers
with_intcon x r = record r { intcon = x }

mask_leaves : (b : ℕ) (m : Masked) (r : Registers)
    → (effect_in (mask_bit b m)).change r ≡ with_intcon (with_bit b (not (bit b (bits m.cleared)) && bit b r.intcon) r.intcon) r
mask_leaves b m r = by_test (bit b (bits m.cleared))
  where
    by_test : (t : Bool) → (effect_in (if t then Make false place.Intcon b ∷ [] else [])).change r ≡ with_intcon (with_bit b (not t && bit b r.intcon) r.intcon) r
    by_test true = refl
    by_test false = ap (λ x. with_intcon x r) (sym (same_bit b r.intcon))

-- How a bit of INTCON is set again: surely, or as it was saved.
abbrev set_value : Option Place → (sure : Bool) → ℕ → Registers → Bool
set_value None sure b r = true
set_value (Some p) sure b r = sure || bit b (read (reg_of p) r)

set_leaves : (saved : Option Place) (sure : Bool) (b : ℕ) (r : Registers)
    → (effect_of (set_again saved sure b)).change r ≡ with_intcon (with_bit b (set_value saved sure b r || bit b r.intcon) r.intcon) r
set_leaves None sure b r = refl
set_leaves (Some p) true b r = refl
set_leaves (Some p) false b r = by_test (bit b (read (reg_of p) r))
  where
    by_test : (t : Bool) → (if t then write Intcon (with_bit b true (read Intcon r)) r else r) ≡ with_intcon (with_bit b (t || bit b r.intcon) r.intcon) r
    by_test true = refl
    by_test false = ap (λ x. with_intcon x r) (sym (same_bit b r.intcon))

unmask_leaves : (b : ℕ) (m : Masked) (saved : Option Place) (r : Registers)
    → (effect_in (unmask_bit b m saved)).change r
    ≡ with_intcon (with_bit b ((bit b (bits m.cleared) && set_value saved (bit b (bits m.beneath)) b r) || bit b r.intcon) r.intcon) r
unmask_leaves b m saved r = by_test (bit b (bits m.cleared))
  where
    by_test : (t : Bool) → (effect_in (if t then set_again saved (bit b (bits m.beneath)) b ∷ [] else [])).change r
        ≡ with_intcon (with_bit b ((t && set_value saved (bit b (bits m.beneath)) b r) || bit b r.intcon) r.intcon) r
    by_test true = set_leaves saved (bit b (bits m.beneath)) b r
    by_test false = ap (λ x. with_intcon x r) (sym (same_bit b r.intcon))

-- The bits that are cleared.
bit_of_both : (op : Bool → Bool → Bool) (i : ℕ) (x y : Byte) → bit i (bit_by_bit op x y) ≡ op (bit i x) (bit i y)
bit_of_both op (suc (suc (suc (suc (suc (suc (suc i))))))) x y = refl
bit_of_both op _ x y = refl

cleared_bit : (idle own beneath i : ℕ) → bit i (bits (masked idle own beneath).cleared) ≡ differ (bit i (bits idle)) (bit i (bits own))
cleared_bit idle own beneath i =
    ap (bit i) (bits-num (bit_by_bit (λ p q. if p then not q else q) (bits idle) (bits own))) ∙ bit_of_both (λ p q. if p then not q else q) i (bits idle) (bits own)

-- Where all of them were set beneath, each was.
sure_by : (c n : Bool) → (c && not n) ≡ false → c ≡ true → n ≡ true
sure_by true true none set = refl
sure_by true false none set = absurd (cc)
sure_by false n none set = absurd (cc)

bit_of_none : (i : ℕ) → bit i zeros ≡ false
bit_of_none (suc (suc (suc (suc (suc (suc (suc i))))))) = refl
bit_of_none _ = refl

sure_bit : (m : Masked) → were_set m ≡ true → (i : ℕ) → bit i (bits m.cleared) ≡ true → bit i (bits m.beneath) ≡ true
sure_bit m sure i set =
    sure_by (bit i (bits m.cleared)) (bit i (bits m.beneath))
    (sym (bit_of_both (λ p q. p && not q) i (bits m.cleared) (bits m.beneath)) ∙ ap (bit i) (none_is_set (bit_by_bit (λ p q. p && not q) (bits m.cleared) (bits m.beneath)) sure) ∙ bit_of_none i) set

-- A register of enables: the bytes at idle, at the level, beneath, and at a lower level `other`.
module _ (idle own beneath other : ℕ) (own_other : Among (bits own) (bits other)) (other_idle : Among (bits other) (bits idle))
    (beneath_other : Among (bits beneath) (bits other)) (own_beneath : Among (bits own) (bits beneath)) (beneath_idle : Among (bits beneath) (bits idle)) where
  not_cleared : (i : ℕ) → bit i (bits (masked idle own beneath).cleared) ≡ false → differ (bit i (bits idle)) (bit i (bits own)) ≡ false
  not_cleared i clear = sym (cleared_bit idle own beneath i) ∙ clear

  -- Masks lead from the lower level to the level.
  pub agree_down : Agree (bits (masked idle own beneath).cleared) (bits other) (bits own)
  agree_down i inside none = stays (bit i (bits idle)) (bit i (bits own)) (bit i (bits other)) (own_other i inside) (other_idle i inside) (not_cleared i none)

  -- Constants lead from the level to the one beneath, and all lower levels agree in them.
  pub agree_up : Agree (bits (masked idle own beneath).cleared) (bits own) (bits beneath)
  agree_up i inside none = sym (stays (bit i (bits idle)) (bit i (bits own)) (bit i (bits beneath)) (own_beneath i inside) (beneath_idle i inside) (not_cleared i none))

  pub agree_beneath : were_set (masked idle own beneath) ≡ true → bits beneath ≡ bits other
  agree_beneath sure = by_each_bit (bits beneath) (bits other) (λ i inside. by_test i inside (bit i (bits (masked idle own beneath).cleared)) refl)
    where
      by_test : (i : ℕ) → i < 8 → (t : Bool) → bit i (bits (masked idle own beneath).cleared) ≡ t → bit i (bits beneath) ≡ bit i (bits other)
      by_test i inside true set = let was = sure_bit (masked idle own beneath) sure i set in was ∙ sym (beneath_other i inside was)
      by_test i inside false none = sym (agree_up i inside none) ∙ sym (agree_down i inside none)

  -- PIE1 or PIE2 comes back.
  pub register_back : (reg : Reg) (p saved : Place) (x : Byte) (s : Registers) → reg_of p ≡ reg → write reg (read reg s) s ≡ s
      → ((from : Reg) → copied_to from (reg_of p) ≡ copied from reg) → read reg s ≡ bits own → x ≡ bits other
      → ForSome (wanted (not (were_set (masked idle own beneath))) saved) (λ q. read (reg_of q) s ≡ x)
      → (effect_of (unmask_register p (masked idle own beneath) (wanted (not (were_set (masked idle own beneath))) saved))).change s ≡ write reg x s
  register_back reg p saved x s is rewrites copies holds was kept = by_sure (were_set (masked idle own beneath)) refl
    where
      by_sure : (t : Bool) → were_set (masked idle own beneath) ≡ t
          → (effect_of (unmask_register p (masked idle own beneath) (wanted (not t) saved))).change s ≡ write reg x s
      by_sure true sure =
          ap (λ (g : Reg). (changed_to g (masked idle own beneath).cleared beneath).change s) is
          ∙ change_leaves reg (masked idle own beneath).cleared beneath s rewrites (λ i inside none. ap (bit i) holds ∙ agree_up i inside none)
          ∙ ap (λ y. write reg y s) (agree_beneath sure ∙ sym was)
      by_sure false some =
          ap (λ (e : Effect). e.change s) (copies (reg_of saved)) ∙ ap (λ y. write reg y s) (kept saved (ap (λ t. wanted (not t) saved) some))

-- What masks leave: the bits of INTCON, then PIE1 and PIE2.
abbrev masked_intcon : Masked → Byte → Byte
masked_intcon m x = record x { b6 = not (bit 6 (bits m.cleared)) && x.b6; b5 = not (bit 5 (bits m.cleared)) && x.b5; b4 = not (bit 4 (bits m.cleared)) && x.b4 }

masking_leaves : (m : Masks) (r : Registers)
    → (effect_in (masking m)).change r
    ≡ (changed_to Pie2 m.pie2.cleared m.pie2.own).change ((changed_to Pie1 m.pie1.cleared m.pie1.own).change (with_intcon (masked_intcon m.intcon r.intcon) r))
masking_leaves m r =
    let pies : List Deed = Change place.Pie1 m.pie1.cleared m.pie1.own ∷ Change place.Pie2 m.pie2.cleared m.pie2.own ∷ [] in
    let fives : Byte → Byte = λ x. with_bit 5 (not (bit 5 (bits m.intcon.cleared)) && x.b5) x in
    let fours : Byte → Byte = λ x. with_bit 4 (not (bit 4 (bits m.intcon.cleared)) && x.b4) x in
    let r5 = with_intcon (fives r.intcon) r in
    let r4 = with_intcon (fours r5.intcon) r5 in
    effect_then (mask_bit 5 m.intcon) (mask_bit 4 m.intcon ++ (mask_bit 6 m.intcon ++ pies)) r
    ∙ ap (λ x. (effect_in (mask_bit 4 m.intcon ++ (mask_bit 6 m.intcon ++ pies))).change x) (mask_leaves 5 m.intcon r)
    ∙ effect_then (mask_bit 4 m.intcon) (mask_bit 6 m.intcon ++ pies) r5
    ∙ ap (λ x. (effect_in (mask_bit 6 m.intcon ++ pies)).change x) (mask_leaves 4 m.intcon r5)
    ∙ effect_then (mask_bit 6 m.intcon) pies r4 ∙ ap (λ x. (effect_in pies).change x) (mask_leaves 6 m.intcon r4)

-- How the bits of INTCON come back.
abbrev unmasked_bit : (m : Masked) → Option Place → ℕ → Registers → Byte → Bool
unmasked_bit m saved b r x = (bit b (bits m.cleared) && set_value saved (bit b (bits m.beneath)) b r) || bit b x

abbrev unmasked_intcon : (m : Masked) → Option Place → Registers → Byte → Byte
unmasked_intcon m saved r x = record x { b6 = unmasked_bit m saved 6 r x; b5 = unmasked_bit m saved 5 r x; b4 = unmasked_bit m saved 4 r x }

-- A saved byte is a plain one, and is read the same whatever INTCON is.
abbrev IsPlain : Option Place → Type 0
IsPlain None = Unit {0}
IsPlain (Some p) = (address : ℕ) × (p ≡ place.Plain address)

value_blind : (saved : Option Place) → IsPlain saved → (sure : Bool) (b : ℕ) (x : Byte) (r : Registers) → set_value saved sure b (with_intcon x r) ≡ set_value saved sure b r
value_blind None plain sure b x r = refl
value_blind (Some p) plain sure b x r =
    let at : reg_of p ≡ Plain plain.0 = ap reg_of plain.1 in
    ap (λ (g : Reg). sure || bit b (read g (with_intcon x r))) at ∙ sym (ap (λ (g : Reg). sure || bit b (read g r)) at)

unmasking_bits : (m : Masked) (saved : Option Place) (r : Registers) → IsPlain saved
    → (effect_in (unmask_bit 5 m saved ++ (unmask_bit 4 m saved ++ unmask_bit 6 m saved))).change r ≡ with_intcon (unmasked_intcon m saved r r.intcon) r
unmasking_bits m saved r plain =
    let r5 = with_intcon (with_bit 5 (unmasked_bit m saved 5 r r.intcon) r.intcon) r in
    let r4 = with_intcon (with_bit 4 (unmasked_bit m saved 4 r5 r5.intcon) r5.intcon) r5 in
    let same4 = value_blind saved plain (bit 4 (bits m.beneath)) 4 r5.intcon r in
    let same6 = value_blind saved plain (bit 6 (bits m.beneath)) 6 r4.intcon r in
    effect_then (unmask_bit 5 m saved) (unmask_bit 4 m saved ++ unmask_bit 6 m saved) r
    ∙ ap (λ x. (effect_in (unmask_bit 4 m saved ++ unmask_bit 6 m saved)).change x) (unmask_leaves 5 m saved r)
    ∙ effect_then (unmask_bit 4 m saved) (unmask_bit 6 m saved) r5
    ∙ ap (λ x. (effect_in (unmask_bit 6 m saved)).change x) (unmask_leaves 4 m saved r5)
    ∙ unmask_leaves 6 m saved r4
    ∙ ap (λ v. record r { intcon = record r.intcon { b6 = (bit 6 (bits m.cleared) && v) || r.intcon.b6; b5 = r5.intcon.b5; b4 = r4.intcon.b4 } }) same6
    ∙ ap (λ v. record r { intcon = record r.intcon { b6 = unmasked_bit m saved 6 r r.intcon; b5 = r5.intcon.b5; b4 = (bit 4 (bits m.cleared) && v) || r.intcon.b4 } }) same4

is_wanted : (t : Bool) (p q : Place) → wanted t p ≡ Some q → p ≡ q
is_wanted true p q is = cc
is_wanted false p q is = absurd (cc)

-- A byte of a frame is read the same where plain bytes are the same.
read_same : (need : Needs) (level byte : ℕ) (test : Bool) (q : Place) → wanted test (byte_of_frame need level byte) ≡ Some q → (a b : Registers) → a.plain ≡ b.plain
    → read (reg_of q) a ≡ read (reg_of q) b
read_same need level byte test q is a b same_bytes =
    let at : byte_of_frame need level byte ≡ q = is_wanted test (byte_of_frame need level byte) q is in
    sym (ap (λ (p : Place). read (reg_of p) a) at) ∙ ap (λ (m : ℕ → Byte). m (address_of need (frame_cell need level byte))) same_bytes
    ∙ ap (λ (p : Place). read (reg_of p) b) at

-- A run of a level over one of a lower level, or over idle.
module _ (p : ProgramTree) (low level : ℕ) (heard : Heard) (other : Enables) (are : AreHeard p level heard) (is_other : IsHeardAt p low other) (below : low < level) where
  own_other : AmongHeard heard.own other
  own_other = among_heard p low level heard.own other (omega arith) are.own is_other

  other_idle : AmongHeard other heard.idle
  other_idle = among_heard p 0 low other heard.idle (omega arith) is_other are.idle

  beneath_other : AmongHeard heard.beneath other
  beneath_other = among_heard p low (level - 1) heard.beneath other (omega arith) are.beneath is_other

  own_beneath : AmongHeard heard.own heard.beneath
  own_beneath = among_heard p (level - 1) level heard.own heard.beneath (omega arith) are.own are.beneath

  beneath_idle : AmongHeard heard.beneath heard.idle
  beneath_idle = among_heard p 0 (level - 1) heard.beneath heard.idle (omega arith) are.beneath are.idle

  abbrev intcon : Masked
  intcon = masked heard.idle.intcon heard.own.intcon heard.beneath.intcon

  abbrev pie1 : Masked
  pie1 = masked heard.idle.pie1 heard.own.pie1 heard.beneath.pie1

  abbrev pie2 : Masked
  pie2 = masked heard.idle.pie2 heard.own.pie2 heard.beneath.pie2

  -- The masks where PEIE is set at the level, and where it isn't.
  abbrev masks_by : Bool → Masks
  masks_by peie = if peie then record { intcon = intcon; pie1 = pie1; pie2 = pie2 } else record { intcon = intcon; pie1 = unmasked; pie2 = unmasked }

  -- A bit of INTCON once it is masked, by that of a lower level.
  bit_down : (b : ℕ) → b < 8 → (x : Bool) → x ≡ bit b (bits other.intcon) → (not (bit b (bits intcon.cleared)) && x) ≡ bit b (bits heard.own.intcon)
  bit_down b inside x is =
      ap (λ c. not c && x) (cleared_bit heard.idle.intcon heard.own.intcon heard.beneath.intcon b)
      ∙ ap (λ y. not (differ (bit b (bits heard.idle.intcon)) (bit b (bits heard.own.intcon))) && y) is
      ∙ mask_bit_is (bit b (bits heard.idle.intcon)) (bit b (bits heard.own.intcon)) (bit b (bits other.intcon)) (own_other.intcon b inside) (other_idle.intcon b inside)

  -- PEIE at the level is PEIE at each lower one.
  peie_down : bit 6 (bits heard.own.intcon) ≡ true → bit 6 (bits other.intcon) ≡ true
  peie_down set = own_other.intcon 6 (lit< tt) set

  module _ (r : Registers) (hold : Hold other r) where
    abbrev down : Registers
    down = with_intcon (masked_intcon intcon r.intcon) r

    abbrev down_all : Registers
    down_all = record r { intcon = masked_intcon intcon r.intcon; pie1 = bits heard.own.pie1; pie2 = bits heard.own.pie2 }

    masked_here : bit 6 (bits heard.own.intcon) ≡ true → (effect_in (masking (masks_by true))).change r ≡ down_all
    masked_here set =
        let has1 = hold.pie1 (peie_down set) in
        let has2 = hold.pie2 (peie_down set) in
        masking_leaves (masks_by true) r
        ∙ ap (λ x. (changed_to Pie2 pie2.cleared pie2.own).change x)
        (change_leaves Pie1 pie1.cleared heard.own.pie1 down refl
        (λ i inside none. ap (bit i) has1
        ∙ agree_down heard.idle.pie1 heard.own.pie1 heard.beneath.pie1 other.pie1 own_other.pie1 other_idle.pie1 beneath_other.pie1 own_beneath.pie1 beneath_idle.pie1 i inside none))
        ∙ change_leaves Pie2 pie2.cleared heard.own.pie2 (record down { pie1 = bits heard.own.pie1 }) refl
        (λ i inside none. ap (bit i) has2
        ∙ agree_down heard.idle.pie2 heard.own.pie2 heard.beneath.pie2 other.pie2 own_other.pie2 other_idle.pie2 beneath_other.pie2 own_beneath.pie2 beneath_idle.pie2 i inside none)

    masked_else : (effect_in (masking (masks_by false))).change r ≡ down
    masked_else = masking_leaves (masks_by false) r

    -- The enables of the level are held then, and nothing but enables is changed.
    abbrev Lead : Registers → Type 0
    Lead s = Hold heard.own s × (s ≡ with_enables_of s r)

    lead_by : (peie : Bool) → bit 6 (bits heard.own.intcon) ≡ peie → Lead ((effect_in (masking (masks_by peie))).change r)
    lead_by true set = subst Lead (sym (masked_here set)) (
      record {
        t0ie = bit_down 5 (lit< tt) r.intcon.b5 hold.t0ie;
        inte = bit_down 4 (lit< tt) r.intcon.b4 hold.inte;
        peie = bit_down 6 (lit< tt) r.intcon.b6 hold.peie;
        rbie = hold.rbie;
        pie1 = λ peie. refl;
        pie2 = λ peie. refl;
      },
      refl,
    )
    lead_by false clear = subst Lead (sym masked_else) (
      record {
        t0ie = bit_down 5 (lit< tt) r.intcon.b5 hold.t0ie;
        inte = bit_down 4 (lit< tt) r.intcon.b4 hold.inte;
        peie = bit_down 6 (lit< tt) r.intcon.b6 hold.peie;
        rbie = hold.rbie;
        pie1 = λ peie. absurd (cc);
        pie2 = λ peie. absurd (cc);
      },
      refl,
    )

    pub masks_lead : Lead (masked_by heard r)
    masks_lead = lead_by (bit 6 (bits heard.own.intcon)) refl

    -- A bit of INTCON comes back, where it is set again as it was wherever it was cleared.
    bit_up : (b : ℕ) → b < 8 → (v x y : Bool) → x ≡ bit b (bits other.intcon) → y ≡ bit b (bits heard.own.intcon) → (bit b (bits intcon.cleared) ≡ true → v ≡ x)
        → ((bit b (bits intcon.cleared) && v) || y) ≡ x
    bit_up b inside v x y was is again =
        let cleared = cleared_bit heard.idle.intcon heard.own.intcon heard.beneath.intcon b in
        ap (λ z. (bit b (bits intcon.cleared) && v) || z) is
        ∙ ap (λ c. (c && v) || bit b (bits heard.own.intcon)) cleared
        ∙ comes_back (bit b (bits heard.idle.intcon)) (bit b (bits heard.own.intcon)) (bit b (bits other.intcon)) v (own_other.intcon b inside) (other_idle.intcon b inside)
        (λ differs. again (cleared ∙ differs) ∙ was)
        ∙ sym was

    -- So it is set: surely where it was set beneath, or as it was saved.
    sure_or : (b : ℕ) → b < 8 → (x kept : Bool) → x ≡ bit b (bits other.intcon) → kept ≡ x → (bit b (bits heard.beneath.intcon) || kept) ≡ x
    sure_or b inside x kept was is = by_test (bit b (bits heard.beneath.intcon)) refl
      where
        by_test : (t : Bool) → bit b (bits heard.beneath.intcon) ≡ t → (t || kept) ≡ x
        by_test true set = sym (was ∙ beneath_other.intcon b inside set)
        by_test false clear = is

    module _ (kind : Kind) (need : Needs) (context : Context) (s : Registers) where
      abbrev frame_by : Bool → Frame
      frame_by peie = frame_of kind level need context (saved_of (masks_by peie))

      abbrev saved_intcon : Option Place
      saved_intcon = wanted (not (were_set intcon)) (byte_of_frame need level 3)

      -- A bit that was cleared is set again as it was.
      value_is : (b : ℕ) → b < 8 → (x : Bool) (t : Registers) → x ≡ bit b (bits other.intcon)
          → ((q : Place) → saved_intcon ≡ Some q → bit b (read (reg_of q) t) ≡ x)
          → bit b (bits intcon.cleared) ≡ true → set_value saved_intcon (bit b (bits heard.beneath.intcon)) b t ≡ x
      value_is b inside x t was kept cleared = by_sure (were_set intcon) refl
        where
          by_sure : (sure : Bool) → were_set intcon ≡ sure → set_value (wanted (not sure) (byte_of_frame need level 3)) (bit b (bits heard.beneath.intcon)) b t ≡ x
          by_sure true sure = sym (was ∙ beneath_other.intcon b inside (sure_bit intcon sure b cleared))
          by_sure false some = sure_or b inside x (bit b (read (Plain (address_of need (frame_cell need level 3))) t)) was
              (kept (byte_of_frame need level 3) (ap (λ sure. wanted (not sure) (byte_of_frame need level 3)) some))

      intcon_plain : (t : Bool) → IsPlain (wanted t (byte_of_frame need level 3))
      intcon_plain true = (address_of need (frame_cell need level 3), refl)
      intcon_plain false = tt

      -- The bits come back on registers with the plain bytes and INTCON of `s`.
      bits_back : (t : Registers) → t.intcon ≡ s.intcon → t.plain ≡ s.plain → with_enables_of (masked_by heard r) s ≡ s
          → ForSome saved_intcon (λ q. HasEnableBits (read (reg_of q) s) r.intcon)
          → (effect_in (unmask_bit 5 intcon saved_intcon ++ (unmask_bit 4 intcon saved_intcon ++ unmask_bit 6 intcon saved_intcon))).change t
          ≡ with_intcon (record s.intcon { b6 = r.intcon.b6; b5 = r.intcon.b5; b4 = r.intcon.b4 }) t
      bits_back t same_intcon same_plain same kept =
          let has = masks_lead.0 in
          let same_read = λ (q : Place) (is : saved_intcon ≡ Some q). read_same need level 3 (not (were_set intcon)) q is t s same_plain in
          let six = bit_up 6 (lit< tt) (set_value saved_intcon (bit 6 (bits heard.beneath.intcon)) 6 t) r.intcon.b6 t.intcon.b6 hold.peie
          (ap (λ (x : Byte). x.b6) same_intcon ∙ sym (ap (λ (x : Registers). x.intcon.b6) same) ∙ has.peie)
          (value_is 6 (lit< tt) r.intcon.b6 t hold.peie (λ q is. ap (λ (x : Byte). x.b6) (same_read q is) ∙ (kept q is).peie)) in
          let five = bit_up 5 (lit< tt) (set_value saved_intcon (bit 5 (bits heard.beneath.intcon)) 5 t) r.intcon.b5 t.intcon.b5 hold.t0ie
          (ap (λ (x : Byte). x.b5) same_intcon ∙ sym (ap (λ (x : Registers). x.intcon.b5) same) ∙ has.t0ie)
          (value_is 5 (lit< tt) r.intcon.b5 t hold.t0ie (λ q is. ap (λ (x : Byte). x.b5) (same_read q is) ∙ (kept q is).t0ie)) in
          let four = bit_up 4 (lit< tt) (set_value saved_intcon (bit 4 (bits heard.beneath.intcon)) 4 t) r.intcon.b4 t.intcon.b4 hold.inte
          (ap (λ (x : Byte). x.b4) same_intcon ∙ sym (ap (λ (x : Registers). x.intcon.b4) same) ∙ has.inte)
          (value_is 4 (lit< tt) r.intcon.b4 t hold.inte (λ q is. ap (λ (x : Byte). x.b4) (same_read q is) ∙ (kept q is).inte)) in
          unmasking_bits intcon saved_intcon t (intcon_plain (not (were_set intcon)))
          ∙ (λ j. with_intcon (record t.intcon { b6 = six j; b5 = five j; b4 = four j }) t)
          ∙ ap (λ (x : Byte). with_intcon (record x { b6 = r.intcon.b6; b5 = r.intcon.b5; b4 = r.intcon.b4 }) t) same_intcon

      -- PIE1 and PIE2 come back where PEIE is set at the level.
      pie1_back : bit 6 (bits heard.own.intcon) ≡ true → with_enables_of (masked_by heard r) s ≡ s
          → ForSome (frame_by true).pie1 (λ q. read (reg_of q) s ≡ r.pie1)
          → (effect_of (unmask_register place.Pie1 pie1 (frame_by true).pie1)).change s ≡ record s { pie1 = r.pie1 }
      pie1_back set same kept =
          register_back heard.idle.pie1 heard.own.pie1 heard.beneath.pie1 other.pie1 own_other.pie1 other_idle.pie1 beneath_other.pie1 own_beneath.pie1 beneath_idle.pie1
          Pie1 place.Pie1 (byte_of_frame need level 4) r.pie1 s refl refl (λ from. refl)
          (sym (ap (λ (x : Registers). x.pie1) same) ∙ masks_lead.0.pie1 set) (hold.pie1 (peie_down set)) kept

      pie2_back : bit 6 (bits heard.own.intcon) ≡ true → with_enables_of (masked_by heard r) s ≡ s
          → ForSome (frame_by true).pie2 (λ q. read (reg_of q) s ≡ r.pie2)
          → (effect_of (unmask_register place.Pie2 pie2 (frame_by true).pie2)).change (record s { pie1 = r.pie1 }) ≡ record s { pie1 = r.pie1; pie2 = r.pie2 }
      pie2_back set same kept =
          let t : Registers = record s { pie1 = r.pie1 } in
          register_back heard.idle.pie2 heard.own.pie2 heard.beneath.pie2 other.pie2 own_other.pie2 other_idle.pie2 beneath_other.pie2 own_beneath.pie2 beneath_idle.pie2
          Pie2 place.Pie2 (byte_of_frame need level 5) r.pie2 t refl refl (λ from. refl)
          (sym (ap (λ (x : Registers). x.pie2) same) ∙ masks_lead.0.pie2 set) (hold.pie2 (peie_down set))
          (λ q is. read_same need level 5 (not (were_set pie2)) q is t s refl ∙ kept q is)

      abbrev Back : Bool → Type 0
      Back peie =
          with_enables_of (masked_by heard r) s ≡ s → Kept (frame_by peie) r s
          → (effect_in (unmasking (masks_by peie) (frame_by peie))).change s ≡ with_enables_of r s

      back_by : (peie : Bool) → bit 6 (bits heard.own.intcon) ≡ peie → Back peie
      back_by true set same kept =
          let bits_all : List Deed = unmask_bit 5 intcon saved_intcon ++ (unmask_bit 4 intcon saved_intcon ++ unmask_bit 6 intcon saved_intcon) in
          let second : Deed = unmask_register place.Pie2 pie2 (frame_by true).pie2 in
          ap (λ x. (effect_in bits_all).change ((effect_of second).change x)) (pie1_back set same kept.pie1)
          ∙ ap (λ x. (effect_in bits_all).change x) (pie2_back set same kept.pie2)
          ∙ bits_back (record s { pie1 = r.pie1; pie2 = r.pie2 }) refl refl same kept.intcon
      back_by false clear same kept =
          let left1 : s.pie1 ≡ r.pie1 = sym (ap (λ (x : Registers). x.pie1) same) ∙ ap (λ (x : Registers). x.pie1) (masked_at clear) in
          let left2 : s.pie2 ≡ r.pie2 = sym (ap (λ (x : Registers). x.pie2) same) ∙ ap (λ (x : Registers). x.pie2) (masked_at clear) in
          bits_back s refl refl same kept.intcon
          ∙ (λ j. record s { intcon = record s.intcon { b6 = r.intcon.b6; b5 = r.intcon.b5; b4 = r.intcon.b4 }; pie1 = left1 j; pie2 = left2 j })
        where
          masked_at : bit 6 (bits heard.own.intcon) ≡ false → masked_by heard r ≡ down
          masked_at is = ap (λ t. (effect_in (masking (masks_by t))).change r) is ∙ masked_else

      pub unmasks : Back (bit 6 (bits heard.own.intcon))
      unmasks = back_by (bit 6 (bits heard.own.intcon)) refl

  -- Where a constant stands for a saved register, all lower levels agree in it.
  intcon_of : (peie : Bool) → (masks_by peie).intcon ≡ intcon
  intcon_of true = refl
  intcon_of false = refl

  pub agrees : Agrees heard other
  agrees = record {
    intcon = λ sure. sym (agree_beneath heard.idle.intcon heard.own.intcon heard.beneath.intcon other.intcon own_other.intcon other_idle.intcon beneath_other.intcon
        own_beneath.intcon beneath_idle.intcon (sym (ap were_set (intcon_of (bit 6 (bits heard.own.intcon)))) ∙ sure));
    pie1 = λ set sure. sym (agree_beneath heard.idle.pie1 heard.own.pie1 heard.beneath.pie1 other.pie1 own_other.pie1 other_idle.pie1 beneath_other.pie1
        own_beneath.pie1 beneath_idle.pie1 (sym (ap (λ t. were_set (masks_by t).pie1) set) ∙ sure));
    pie2 = λ set sure. sym (agree_beneath heard.idle.pie2 heard.own.pie2 heard.beneath.pie2 other.pie2 own_other.pie2 other_idle.pie2 beneath_other.pie2
        own_beneath.pie2 beneath_idle.pie2 (sym (ap (λ t. were_set (masks_by t).pie2) set) ∙ sure));
  }

-- Two answers to what is heard at a level are one.
one_or_other : (m n : ℕ) → m < 2 → n < 2 → (m ≡ 1 → n ≡ 1) → (n ≡ 1 → m ≡ 1) → m ≡ n
one_or_other m n few also there back =
    elim (eqb_tells m 1) [
      | inl one ↦ one.1 ∙ sym (there one.1)
      | inr none ↦ elim (eqb_tells n 1) [ inl one ↦ absurd (none.1 (back one.1)) | inr other ↦ let m_not = none.1 in let n_not = other.1 in omega arith ]
    ]

same_bits : (p : ProgramTree) (level register a b : ℕ) → HasEnablesIn p level register a → HasEnablesIn p level register b → a ≡ b
same_bits p level register a b first second =
    same_from_bits a b (λ i. one_or_other (bit_at a i) (bit_at b i) (bit_at-lt a i) (bit_at-lt b i) (λ set. (second i).1 ((first i).0 set)) (λ set. (first i).1 ((second i).0 set)))

pub heard_once : (p : ProgramTree) (level : ℕ) (e f : Enables) → HeardOnce p level e f
heard_once p level e f first second =
    let intcon_bits : (i : ℕ) → bit_at e.intcon i ≡ bit_at f.intcon i = λ i.
    one_or_other (bit_at e.intcon i) (bit_at f.intcon i) (bit_at-lt e.intcon i) (bit_at-lt f.intcon i)
    (among_intcon p level level e f (omega arith) first second i (six_or_not i)) (among_intcon p level level f e (omega arith) second first i (six_or_not i)) in
    λ j. record {
      intcon = same_from_bits e.intcon f.intcon intcon_bits j;
      pie1 = same_bits p level 0x08C e.pie1 f.pie1 first.pie1 second.pie1 j;
      pie2 = same_bits p level 0x08D e.pie2 f.pie2 first.pie2 second.pie2 j;
    }

-- What masks leave of the enables depends on the enables alone.
mask_blind : (b : ℕ) (t : Bool) (r o : Registers) → (with_bit b false (with_enables_of r o).intcon ≡ (with_enables_of (with_intcon (with_bit b false r.intcon) r) o).intcon)
    → (effect_in (if t then Make false place.Intcon b ∷ [] else [])).change (with_enables_of r o)
    ≡ with_enables_of ((effect_in (if t then Make false place.Intcon b ∷ [] else [])).change r) o
mask_blind b true r o same = ap (λ (x : Byte). record (with_enables_of r o) { intcon = x }) same
mask_blind b false r o same = refl

pie1_blind : (byte : ℕ) (none_changes : Bool) (which : Option ℕ) (r o : Registers)
    → (if none_changes then none else change_made which Pie1 byte).change (with_enables_of r o) ≡ with_enables_of ((if none_changes then none else change_made which Pie1 byte).change r) o
pie1_blind byte true which r o = refl
pie1_blind byte false None r o = refl
pie1_blind byte false (Some b) r o = refl

pie2_blind : (byte : ℕ) (none_changes : Bool) (which : Option ℕ) (r o : Registers)
    → (if none_changes then none else change_made which Pie2 byte).change (with_enables_of r o) ≡ with_enables_of ((if none_changes then none else change_made which Pie2 byte).change r) o
pie2_blind byte true which r o = refl
pie2_blind byte false None r o = refl
pie2_blind byte false (Some b) r o = refl

pub masking_blind : (m : Masks) (r o : Registers) → (effect_in (masking m)).change (with_enables_of r o) ≡ with_enables_of ((effect_in (masking m)).change r) o
masking_blind m r o =
    let pies : List Deed = Change place.Pie1 m.pie1.cleared m.pie1.own ∷ Change place.Pie2 m.pie2.cleared m.pie2.own ∷ [] in
    let five : Registers = (effect_in (mask_bit 5 m.intcon)).change r in
    let four : Registers = (effect_in (mask_bit 4 m.intcon)).change five in
    let six : Registers = (effect_in (mask_bit 6 m.intcon)).change four in
    let first : Registers = (changed_to Pie1 m.pie1.cleared m.pie1.own).change six in
    let all = λ (x : Registers). effect_then (mask_bit 5 m.intcon) (mask_bit 4 m.intcon ++ (mask_bit 6 m.intcon ++ pies)) x
    ∙ effect_then (mask_bit 4 m.intcon) (mask_bit 6 m.intcon ++ pies) ((effect_in (mask_bit 5 m.intcon)).change x)
    ∙ effect_then (mask_bit 6 m.intcon) pies ((effect_in (mask_bit 4 m.intcon)).change ((effect_in (mask_bit 5 m.intcon)).change x)) in
    all (with_enables_of r o)
    ∙ ap (λ x. (effect_in pies).change ((effect_in (mask_bit 6 m.intcon)).change ((effect_in (mask_bit 4 m.intcon)).change x))) (mask_blind 5 (bit 5 (bits m.intcon.cleared)) r o refl)
    ∙ ap (λ x. (effect_in pies).change ((effect_in (mask_bit 6 m.intcon)).change x)) (mask_blind 4 (bit 4 (bits m.intcon.cleared)) five o refl)
    ∙ ap (λ x. (effect_in pies).change x) (mask_blind 6 (bit 6 (bits m.intcon.cleared)) four o refl)
    ∙ ap (λ x. (changed_to Pie2 m.pie2.cleared m.pie2.own).change x) (pie1_blind m.pie1.own (is_zero (bits m.pie1.cleared)) (only_bit m.pie1.cleared) six o)
    ∙ pie2_blind m.pie2.own (is_zero (bits m.pie2.cleared)) (only_bit m.pie2.cleared) first o
    ∙ ap (λ x. with_enables_of x o) (sym (all r))
