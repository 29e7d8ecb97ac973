-- What is computed as heard at a level is what is heard there.
use Rattle.std.proofs.Common.{◌≡◌, ℕ, zero, suc, ◌<◌, ◌==◌, ◌&&◌, Bool, true, not, length, refl, sym, ap, ap₂, subst, ◌∙◌, arith, inl, inr, lit<}
use Rattle.std.specs.Prelude.{◌↔◌, nat_lt}
use Rattle.std.specs.Int.{bit_at}
use Rattle.std.specs.Str.{bytes_eq}
use Rattle.std.proofs.lemmas.Bool.{and_from, and_parts, eqb-true, eq-eqb}
use Rattle.std.proofs.lemmas.Bool.Decides.{Decides-ltb, leb_tells}
use Rattle.std.proofs.lemmas.Nat.Bits.{bit_at_above}
use Rattle.std.proofs.lemmas.Slice.Eq.{bytes_eq-Decides}
use Rattle.frp_tree.specs.Tree.{ProgramTree}
use Rattle.efrp_types.specs.Numbers.{event_source}
use Rattle.pic_isa.specs.declared.sources.Source.{Source}
use Rattle.pic_isa.specs.declared.sources.Source.TheVariants.{T0, Int, Ee, Bcl, Ccp2}
use Rattle.pic_isa.specs.declared.sources.BitAt.{BitAt}
use Rattle.pic_isa.specs.Sources.{at, enable_of, source_name, sources}
use Rattle.pic_regs.specs.Bytes.{Byte, bit, num, with_bit}
use Rattle.pic_regs.proofs.BitLaws.{bit-bits}
use Rattle.pic_regs.proofs.ByteLaws.{bits-num, num-below}
use Rattle.priority_masks.specs.Levels.{HasEnablesIn, IsAbove, level_of}
use Rattle.glue_parts.specs.Heard.{IsHeardAt, IsPeripheral}
use Rattle.firmware_layout.specs.Heard.{enables_in, heard, is_above, is_enable, is_enabled, needs_peie}
use Rattle.firmware_layout.proofs.RangeLaws.{found_in, found_in_range, some_in_range, some_source}

-- Sources above a level.
pub above_is : (p : ProgramTree) (level : ℕ) (source : Source) → is_above p level source ≡ true → IsAbove p level source
unfolding is_above
above_is p level source above =
    let its = found_in_range (λ event. bytes_eq (event_source p event) (source_name source) && nat_lt level (level_of p event)) 0 (length p.events) above in
    let both = and_parts (bytes_eq (event_source p its.0) (source_name source)) (nat_lt level (level_of p its.0)) its.3 in
    let inside = its.2 in
    (its.0, omega (arith, inside), (bytes_eq-Decides (event_source p its.0) (source_name source)).0 both.0, (Decides-ltb level (level_of p its.0)).0 both.1)

pub is_above_where : (p : ProgramTree) (level : ℕ) (source : Source) → IsAbove p level source → is_above p level source ≡ true
unfolding is_above
is_above_where p level source its =
    let inside = its.1 in
    some_in_range (λ event. bytes_eq (event_source p event) (source_name source) && nat_lt level (level_of p event)) 0 (length p.events) its.0
    (omega arith) (omega (arith, inside))
    (and_from (bytes_eq (event_source p its.0) (source_name source)) (nat_lt level (level_of p its.0))
    ((bytes_eq-Decides (event_source p its.0) (source_name source)).1 its.2) ((Decides-ltb level (level_of p its.0)).1 its.3))

-- A bit of a byte as a number.
is_one : (m : ℕ) → (m == 1) ≡ true → m ≡ 1
is_one m test = eqb-true m 1 test

pub bit-num : (x : Byte) (k : ℕ) → k < 8 → (bit_at (num x) k == 1) ≡ bit k x
bit-num x k inside = sym (bit-bits k (num x) inside) ∙ ap (bit k) (bits-num x)

pub set_bit : (x : Byte) (k : ℕ) → bit_at (num x) k ≡ 1 → (k < 8) × (bit k x ≡ true)
set_bit x k set =
    elim (leb_tells 8 k) [
      | inl far ↦ let none = bit_at_above (num x) 8 k (num-below x) far.1 in absurd (omega (arith, none, set))
      | inr near ↦ let less = near.1 in let inside : k < 8 = omega (arith, less) in (inside, sym (bit-num x k inside) ∙ ap (λ m. m == 1) set)
    ]

pub bit_set : (x : Byte) (k : ℕ) → k < 8 → bit k x ≡ true → bit_at (num x) k ≡ 1
bit_set x k inside set = is_one (bit_at (num x) k) (bit-num x k inside ∙ set)

-- The enables of a register.
bit_in : (p : ProgramTree) (level register k : ℕ) → k < 8 → bit k (enables_in p level register) ≡ is_enabled p level register k
bit_in p level register zero inside = refl
bit_in p level register (suc zero) inside = refl
bit_in p level register (suc (suc zero)) inside = refl
bit_in p level register (suc (suc (suc zero))) inside = refl
bit_in p level register (suc (suc (suc (suc zero)))) inside = refl
bit_in p level register (suc (suc (suc (suc (suc zero))))) inside = refl
bit_in p level register (suc (suc (suc (suc (suc (suc zero)))))) inside = refl
bit_in p level register (suc (suc (suc (suc (suc (suc (suc zero))))))) inside = refl
bit_in p level register (suc (suc (suc (suc (suc (suc (suc (suc k)))))))) inside = absurd (omega (arith, inside))

enable-below : (source : Source) → (enable_of source).bit < 8
enable-below T0 = lit< tt
enable-below _ = lit< tt

abbrev Enabling : ProgramTree → (level register k : ℕ) → Type 0
Enabling p level register k = (source : Source) × (enable_of source ≡ at register k) × IsAbove p level source

enabled_is : (p : ProgramTree) (level register k : ℕ) → is_enabled p level register k ≡ true → Enabling p level register k
enabled_is p level register k enabled =
    let its = found_in (λ source. is_enable register k source && is_above p level source) sources enabled in
    let both = and_parts (is_enable register k its.0) (is_above p level its.0) its.1 in
    let there = and_parts ((enable_of its.0).address == register) ((enable_of its.0).bit == k) both.0 in
    (its.0, ap₂ at (eqb-true (enable_of its.0).address register there.0) (eqb-true (enable_of its.0).bit k there.1), above_is p level its.0 both.1)

is_enabled_where : (p : ProgramTree) (level register k : ℕ) → Enabling p level register k → is_enabled p level register k ≡ true
is_enabled_where p level register k its =
    some_source (λ source. is_enable register k source && is_above p level source) its.0
    (and_from (is_enable register k its.0) (is_above p level its.0)
    (and_from ((enable_of its.0).address == register) ((enable_of its.0).bit == k)
    (eq-eqb (enable_of its.0).address register (ap (λ (b : BitAt). b.address) its.1)) (eq-eqb (enable_of its.0).bit k (ap (λ (b : BitAt). b.bit) its.1)))
    (is_above_where p level its.0 its.2))

below_where : (p : ProgramTree) (level register k : ℕ) → Enabling p level register k → k < 8
below_where p level register k its = subst (λ n. n < 8) (ap (λ (b : BitAt). b.bit) its.1) (enable-below its.0)

has_enables : (p : ProgramTree) (level register : ℕ) → HasEnablesIn p level register (num (enables_in p level register))
has_enables p level register k = (
  λ set.
      let its = set_bit (enables_in p level register) k set in
      enabled_is p level register k (sym (bit_in p level register k its.0) ∙ its.1),
  λ its.
      let inside = below_where p level register k its in
      bit_set (enables_in p level register) k inside (bit_in p level register k inside ∙ is_enabled_where p level register k its),
)

-- PEIE beside them.
other_bit : (k : ℕ) (v : Bool) (x : Byte) → (k ≡ 6 → ⊥) → bit k (with_bit 6 v x) ≡ bit k x
other_bit (suc (suc (suc (suc (suc (suc zero)))))) v x never = absurd (never refl)
other_bit _ v x never = refl

peripheral_is : (source : Source) → not ((enable_of source).address == 0x00B) ≡ true → IsPeripheral source
peripheral_is T0 test = absurd (cc)
peripheral_is Int test = absurd (cc)
peripheral_is Ee test = inr refl
peripheral_is Bcl test = inr refl
peripheral_is Ccp2 test = inr refl
peripheral_is _ test = inl refl

is_peripheral_where : (source : Source) → IsPeripheral source → not ((enable_of source).address == 0x00B) ≡ true
is_peripheral_where source (inl there) = ap (λ a. not (a == 0x00B)) there
is_peripheral_where source (inr there) = ap (λ a. not (a == 0x00B)) there

abbrev Needing : ProgramTree → ℕ → Type 0
Needing p level = (source : Source) × IsPeripheral source × IsAbove p level source

needing_is : (p : ProgramTree) (level : ℕ) → needs_peie p level ≡ true → Needing p level
needing_is p level needs =
    let its = found_in (λ source. not ((enable_of source).address == 0x00B) && is_above p level source) sources needs in
    let both = and_parts (not ((enable_of its.0).address == 0x00B)) (is_above p level its.0) its.1 in
    (its.0, peripheral_is its.0 both.0, above_is p level its.0 both.1)

needs_where : (p : ProgramTree) (level : ℕ) → Needing p level → needs_peie p level ≡ true
needs_where p level its =
    some_source (λ source. not ((enable_of source).address == 0x00B) && is_above p level source) its.0
    (and_from (not ((enable_of its.0).address == 0x00B)) (is_above p level its.0) (is_peripheral_where its.0 its.1) (is_above_where p level its.0 its.2))

intcon_heard : (p : ProgramTree) (level k : ℕ) → (k ≡ 6 → ⊥)
    → (bit_at (num (with_bit 6 (needs_peie p level) (enables_in p level 0x00B))) k ≡ 1) ↔ Enabling p level 0x00B k
intcon_heard p level k never =
    let x : Byte = enables_in p level 0x00B in
    let y : Byte = with_bit 6 (needs_peie p level) x in
    let kept = other_bit k (needs_peie p level) x never in (
      λ set. let its = set_bit y k set in enabled_is p level 0x00B k (sym (bit_in p level 0x00B k its.0) ∙ sym kept ∙ its.1),
      λ its.
          let inside = below_where p level 0x00B k its in
          bit_set y k inside (kept ∙ bit_in p level 0x00B k inside ∙ is_enabled_where p level 0x00B k its),
    )

pub is_heard : (p : ProgramTree) (level : ℕ) → IsHeardAt p level (heard p level)
unfolding heard
is_heard p level = record {
  intcon = intcon_heard p level;
  peie = (
    λ set. needing_is p level (set_bit (with_bit 6 (needs_peie p level) (enables_in p level 0x00B)) 6 set).1,
    λ its. bit_set (with_bit 6 (needs_peie p level) (enables_in p level 0x00B)) 6 (lit< tt) (needs_where p level its),
  );
  pie1 = has_enables p level 0x08C;
  pie2 = has_enables p level 0x08D;
}
