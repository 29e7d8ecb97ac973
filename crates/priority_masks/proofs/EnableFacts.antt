-- The enables of the events up to one.
use Rattle.std.specs.Prelude.{◌≡◌, ◌≢◌, ℕ, zero, suc, ◌+◌, ◌<◌, ◌^◌, ◌↔◌, bit_or, max, refl}
use Rattle.std.specs.Int.{bit_at}
use Rattle.std.proofs.Common.{sym, ap, subst, ◌∙◌, arith, inl, inr}
use Rattle.std.proofs.lemmas.Bool.Decides.{eqb_tells}
use Rattle.std.proofs.lemmas.Nat.Bits.{bit_at_or, bit_at-lt, bit_at-pow_same, bit_at-pow_other}
use Rattle.frp_tree.specs.Tree.{ProgramTree}
use Rattle.pic_isa.specs.declared.sources.Source.{Source}
use Rattle.pic_isa.specs.declared.sources.BitAt.{BitAt}
use Rattle.pic_isa.specs.Sources.{at, enable_of, source_name}
use Rattle.pic_isa.proofs.UniqueNameLaws.{one_source}
use Rattle.efrp_types.specs.Numbers.{event_source}
use Rattle.priority_masks.specs.Levels.{level_of}

-- One of the first events has this source and a level above this one.
abbrev pub IsAboveAmong : ProgramTree → ℕ → ℕ → Source → Type 0
IsAboveAmong p level n source = (event : ℕ) × (event < n) × (event_source p event ≡ source_name source) × (level < level_of p event)

-- The byte of a register with the enables of the first events.
abbrev pub HasEnablesOf : ProgramTree → ℕ → ℕ → ℕ → ℕ → Type 0
HasEnablesOf p level register n byte = (bit : ℕ) → (bit_at byte bit ≡ 1) ↔ ((source : Source) × (enable_of source ≡ at register bit) × IsAboveAmong p level n source)

-- One source is told of one event.
told : (p : ProgramTree) (n k : ℕ) (s t : Source) → k ≡ n → event_source p n ≡ source_name s → event_source p k ≡ source_name t → t ≡ s
told p n k s t same own other = one_source t s (sym other ∙ ap (event_source p) same ∙ own)

earlier : (p : ProgramTree) (level register n bit : ℕ) (s : Source) → event_source p n ≡ source_name s → (level < level_of p n → (enable_of s).address ≢ register)
    → (t : Source) → enable_of t ≡ at register bit → (k : ℕ) → k < n + 1 → event_source p k ≡ source_name t → level < level_of p k → k < n
earlier p level register n bit s own not t enable k less other above =
    elim (eqb_tells k n) [
      | inl same ↦ absurd (not (subst (λ m. level < level_of p m) same.1 above) (ap (λ source. (enable_of source).address) (sym (told p n k s t same.1 own other)) ∙ ap (λ (b : BitAt). b.address) enable))
      | inr differ ↦ let no = differ.1 in omega (arith, less, no)
    ]

-- The next event changes nothing where it isn't above or has its enable elsewhere.
pub kept : (p : ProgramTree) (level register n byte : ℕ) (s : Source) → event_source p n ≡ source_name s → (level < level_of p n → (enable_of s).address ≢ register)
    → HasEnablesOf p level register n byte → HasEnablesOf p level register (n + 1) byte
kept p level register n byte s own not before bit = (
  λ set. let its = (before bit).0 set in let less = its.2.1 in (its.0, its.1, (its.2.0, omega (arith, less), its.2.2, its.2.3)),
  λ its. (before bit).1 (its.0, its.1, (its.2.0, earlier p level register n bit s own not its.0 its.1 its.2.0 its.2.1 its.2.2 its.2.3, its.2.2, its.2.3)),
)

-- A bit of two bytes together.
left-set : (a b : ℕ) → b < 2 → a ≡ 1 → max a b ≡ 1
left-set a zero less is = ap (λ k. max k 0) is
left-set a (suc zero) less is = ap (λ k. max k 1) is
left-set a (suc (suc b)) less is = absurd (omega (arith, less))

right-set : (a b : ℕ) → a < 2 → b ≡ 1 → max a b ≡ 1
right-set zero b less is = ap (max 0) is
right-set (suc zero) b less is = ap (max 1) is
right-set (suc (suc a)) b less is = absurd (omega (arith, less))

left-of : (a b : ℕ) → a < 2 → b ≡ 0 → max a b ≡ 1 → a ≡ 1
left-of zero b less is set = sym (ap (max 0) is) ∙ set
left-of (suc zero) b less is set = refl
left-of (suc (suc a)) b less is set = absurd (omega (arith, less))

-- The next event adds its enable where it is above and has it in this register.
pub added : (p : ProgramTree) (level register n byte : ℕ) (s : Source) → event_source p n ≡ source_name s → level < level_of p n → (enable_of s).address ≡ register
    → HasEnablesOf p level register n byte → HasEnablesOf p level register (n + 1) (bit_or byte (2 ^ (enable_of s).bit))
added p level register n byte s own above there before bit =
    let own_bit = (enable_of s).bit in
    let or = bit_at_or byte (2 ^ own_bit) bit in (
      λ set.
          elim (eqb_tells bit own_bit) [
            | inl same ↦ (s, ap (λ a. at a own_bit) there ∙ ap (at register) (sym same.1), (n, omega arith, own, above))
            | inr differ ↦
                let its = (before bit).0 (left-of (bit_at byte bit) (bit_at (2 ^ own_bit) bit) (bit_at-lt byte bit) (bit_at-pow_other own_bit bit differ.1) (sym or ∙ set)) in
                let less = its.2.1 in
                (its.0, its.1, (its.2.0, omega (arith, less), its.2.2, its.2.3))
          ],
      λ its.
          elim (eqb_tells its.2.0 n) [
            | inl same ↦
                let is : own_bit ≡ bit = ap (λ source. (enable_of source).bit) (sym (told p n its.2.0 s its.0 same.1 own its.2.2)) ∙ ap (λ (b : BitAt). b.bit) its.1 in
                or ∙ right-set (bit_at byte bit) (bit_at (2 ^ own_bit) bit) (bit_at-lt byte bit) (subst (λ k. bit_at (2 ^ own_bit) k ≡ 1) is (bit_at-pow_same own_bit))
            | inr differ ↦
                let less = its.2.1 in
                let no = differ.1 in
                or ∙ left-set (bit_at byte bit) (bit_at (2 ^ own_bit) bit) (bit_at-lt (2 ^ own_bit) bit) ((before bit).1 (its.0, its.1, (its.2.0, omega (arith, less, no), its.2.2, its.2.3)))
          ],
    )
