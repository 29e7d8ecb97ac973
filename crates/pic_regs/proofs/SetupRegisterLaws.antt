-- What the registers are that a setup may name: ports, their TRIS, and bytes that are no general RAM.
use Rattle.std.specs.Prelude.{ℕ, ◌+◌, ◌<◌, Bool, true, false, not, ◌&&◌, ◌==◌, nat_lt, cond, List, [], ◌∷◌, Option, Some, None, IfSome}
use Rattle.std.proofs.Common.{◌≡◌, refl, ap}
use Rattle.std.specs.Map.{lookup}
use Rattle.std.specs.Str.{bytes_eq}
use Rattle.std.proofs.lemmas.Bool.{and_parts, eqb-true, ltb-true}
use Rattle.std.proofs.lemmas.Slice.Eq.{bytes_eq-Decides}
use Rattle.pic_isa.specs.Names.{setup_registers, register_at, port_at}
use Rattle.pic_isa.proofs.NameLaws.{register_all}
use Rattle.pic_regs.specs.Map.{Reg, Port, Tris, Plain, within, reg_at, canonical}
use Rattle.pic_regs.specs.Start.{ram_place}

-- A name and its address beside what the address means.
abbrev pub Suits : List ℕ → ℕ → Reg → Type 0
Suits name a (Port n) = (port_at name ≡ Some n) × (within 5 9 a ≡ true) × (5 + n ≡ a) × (n < 5)
Suits name a (Tris n) = (port_at name ≡ None) × (within 5 9 a ≡ false) × (0x085 + n ≡ a) × (n < 5)
Suits name a (Plain b) = (port_at name ≡ None) × (within 5 9 a ≡ false) × (b ≡ a) × (ram_place a ≡ None)
Suits name a _ = ⊥

-- A test of the same, of one entry and of a table.
abbrev is_some : ℕ → Option ℕ → Bool
is_some n (Some m) = m == n
is_some n None = false

abbrev is_none : Option ℕ → Bool
is_none (Some m) = false
is_none None = true

abbrev suits : List ℕ → ℕ → Reg → Bool
suits name a (Port n) = is_some n (port_at name) && (within 5 9 a && (5 + n == a && nat_lt n 5))
suits name a (Tris n) = is_none (port_at name) && (not (within 5 9 a) && (0x085 + n == a && nat_lt n 5))
suits name a (Plain b) = is_none (port_at name) && (not (within 5 9 a) && (b == a && is_none (ram_place a)))
suits name a _ = false

abbrev all_suit : List (List ℕ × ℕ) → Bool
all_suit [] = true
all_suit (entry ∷ table) = suits entry.0 entry.1 (reg_at entry.1) && all_suit table

setups_suit : all_suit setup_registers ≡ true
setups_suit = refl

its_some : (n : ℕ) (o : Option ℕ) → is_some n o ≡ true → o ≡ Some n
its_some n (Some m) e = ap (λ (k : ℕ). Some k) (eqb-true m n e)
its_some n None e = absurd cc

its_none : (o : Option ℕ) → is_none o ≡ true → o ≡ None
its_none (Some m) e = absurd cc
its_none None e = refl

is_false : (b : Bool) → not b ≡ true → b ≡ false
is_false true e = cc
is_false false e = refl

suits-true : (name : List ℕ) (a : ℕ) (reg : Reg) → suits name a reg ≡ true → Suits name a reg
suits-true name a (Port n) e =
    let first = and_parts (is_some n (port_at name)) (within 5 9 a && (5 + n == a && nat_lt n 5)) e in
    let second = and_parts (within 5 9 a) (5 + n == a && nat_lt n 5) first.1 in
    let third = and_parts (5 + n == a) (nat_lt n 5) second.1 in
    (its_some n (port_at name) first.0, second.0, eqb-true (5 + n) a third.0, ltb-true n 5 third.1)
suits-true name a (Tris n) e =
    let first = and_parts (is_none (port_at name)) (not (within 5 9 a) && (0x085 + n == a && nat_lt n 5)) e in
    let second = and_parts (not (within 5 9 a)) (0x085 + n == a && nat_lt n 5) first.1 in
    let third = and_parts (0x085 + n == a) (nat_lt n 5) second.1 in
    (its_none (port_at name) first.0, is_false (within 5 9 a) second.0, eqb-true (0x085 + n) a third.0, ltb-true n 5 third.1)
suits-true name a (Plain b) e =
    let first = and_parts (is_none (port_at name)) (not (within 5 9 a) && (b == a && is_none (ram_place a))) e in
    let second = and_parts (not (within 5 9 a)) (b == a && is_none (ram_place a)) first.1 in
    let third = and_parts (b == a) (is_none (ram_place a)) second.1 in
    (its_none (port_at name) first.0, is_false (within 5 9 a) second.0, eqb-true b a third.0, its_none (ram_place a) third.1)
suits-true name a _ e = absurd cc

-- What a name finds in a table of which all suit.
here_or_later : (name key : List ℕ) (value a : ℕ) (later : Option ℕ) (test : Bool) → bytes_eq name key ≡ test → suits key value (reg_at value) ≡ true
    → (later ≡ Some a → suits name a (reg_at a) ≡ true) → cond test (Some value) later ≡ Some a → suits name a (reg_at a) ≡ true
here_or_later name key value a later true e here rest found =
    let same : name ≡ key = (bytes_eq-Decides name key).0 e in
    let its : value ≡ a = cc in
    rw (same, ← its) here
here_or_later name key value a later false e here rest found = rest found

finds : (name : List ℕ) (table : List (List ℕ × ℕ)) (a : ℕ) → all_suit table ≡ true → lookup (bytes_eq name) table ≡ Some a → suits name a (reg_at a) ≡ true
finds name [] a all found = absurd (let e : ◌≡◌ {A = Option ℕ} None (Some a) = found in cc)
finds name (entry ∷ table) a all found =
    let parts = and_parts (suits entry.0 entry.1 (reg_at entry.1)) (all_suit table) all in
    here_or_later name entry.0 entry.1 a (lookup (bytes_eq name) table) (bytes_eq name entry.0) refl parts.0 (λ e. finds name table a parts.1 e) found

-- A register that may be set up suits its name and its address.
pub may_set_up : (name : List ℕ) (a : ℕ) → register_at name ≡ Some a → Suits name a (reg_at a)
may_set_up name a found = suits-true name a (reg_at a) (finds name setup_registers a setups_suit found)

-- It is named by its lowest address.
pub register_is_lowest : (name : List ℕ) → IfSome (register_at name) (λ address. canonical address ≡ Some address)
register_is_lowest name = register_all (λ address. canonical address ≡ Some address) name (refl, (refl, (refl, (refl, (refl, (refl, (refl, (refl, (refl, (refl, (refl, (refl, (refl, (refl, (refl, (refl, (refl, (refl, (refl, (refl, (refl, (refl, (refl, (refl, (refl, (refl, (refl, (refl, (refl, (refl, (refl, tt)))))))))))))))))))))))))))))))
